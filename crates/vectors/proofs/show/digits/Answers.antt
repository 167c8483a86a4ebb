-- `vectors::show::digits` is safe: a number of 64 bits has at most 20 digits.
use Rattle.std.proofs.Common.{arith}
use Rattle.decimal.proofs.Written.{written-length}
use Rattle.vectors.proofs.show.digits.Goals as goal

pub write-after-requires : goal.write-after-requires
write-after-requires c = omega (arith, written-length 19 c.args.n (omega arith))
