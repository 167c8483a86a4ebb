-- The recency list of the first engine: the walk up to a segment, and the list with a segment at its front.
use Rattle.std.specs.Prelude.{ℕ, suc, ◌-◌, List, ◌∷◌, ◌++◌, length, take, drop}
use Rattle.std.proofs.Math.Option.{Option, none, some}
use Rattle.replacement.specs.Orders.{place_of}
use Rattle.replacement.specs.Recency.{looked_in}
use Rattle.lru_curve.specs.declared.recency_list.Walk.{Walk}

-- how many entries stand before a place; all of them where there is none
abbrev pub before_in : List ℕ → Option ℕ → ℕ
before_in l none = length l
before_in l (some p) = p - 1

-- the walk up to x: the entries before its place, and those looked at
abbrev pub walk_of : ℕ → List ℕ → Walk
walk_of x l = record { before = before_in l (place_of x l); looked = looked_in l (place_of x l) }

-- the list with x at its front, the first p entries one further, and entry p given up
abbrev pub moved : ℕ → ℕ → List ℕ → List ℕ
moved p x l = x ∷ (take p l ++ drop (suc p) l)
