-- The costs of one segment and one reuse, and what they come to at prices.
use Rattle.std.specs.Prelude.{ℕ, ◌+◌, ◌*◌, Bool, leb, ℤ, pos, ◌-ℤ◌}
use Rattle.model.specs.declared.Kind.{Kind}
use Rattle.model.specs.declared.Kind.TheVariants.{Time, Space}

-- swap cost w of a segment of size z; a is the weight of volume
abbrev pub swap_cost : ℕ → ℕ → ℕ
swap_cost a z = 1 + a * z

-- what one step of a segment of size z in memory costs: 1 memory unit (kind time) or z (kind space)
abbrev pub unit_cost : Kind → ℕ → ℕ
unit_cost Time z = 1
unit_cost Space z = z

-- retention R over an unreferenced time of k steps, for a segment of size z
abbrev pub retention : Kind → ℕ → ℕ → ℕ
retention kind z k = k * unit_cost kind z

-- a reuse is kept when d × R ≤ h × w; equality keeps
abbrev pub keeps : ℕ → ℕ → Bool
keeps dR hw = leb dR hw

-- the margin of a reuse: h × w − d × R, signed
abbrev pub margin_of : ℕ → ℕ → ℤ
margin_of dR hw = pos hw -ℤ pos dR

-- the total of memory and load: d × memory + h × load
abbrev pub total_cost : ℕ → ℕ → ℕ → ℕ → ℕ
total_cost h d memory load = d * memory + h * load
