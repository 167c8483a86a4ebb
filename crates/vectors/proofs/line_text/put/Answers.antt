-- `vectors::line_text::put` is safe and ends.
use Rattle.std.proofs.Common.{ℕ, ◌+◌, ◌-◌, ◌*◌, ◌%◌, ◌<◌, ◌≤◌, length, mod-lt, mul-le-mul, arith}
use Rattle.vectors.proofs.line_text.put.Goals as goal

-- so many times so many bytes fit 64 bits
counted : (a b : ℕ) → a % 65536 * (b % 65536) ≤ 65535 * 65535
counted a b = mul-le-mul {n₁ = a % 65536} {m₁ = b % 65536} {n₂ = 65535} {m₂ = 65535} (omega arith) (omega arith)

-- past the colon and the blank, before the line feed
within : (k n : ℕ) → 3 < n → 2 + k % (n - 3) < n
within k n h = omega (arith, mod-lt k {m = n - 3} (omega arith))

pub overflow_mul-bytes : goal.overflow_mul-bytes
overflow_mul-bytes c = omega (arith, counted c.args.times (length c.args.text.now - 3))

pub loop-k-init : goal.loop-k-init
loop-k-init c = (omega arith, omega arith, omega arith, counted _ _)
