-- Laws of a line whose value is read: by the places of the value, and by what the value gives.
use Prim.Native.Nat.{ℕ, ◌+◌, ◌-◌}
use mathlib.Core.Path.{◌≡◌, sym, ◌∙◌}
use mathlib.Core.List.{List}
use native.Mathlib.Omega.{arith}
use lib.ListN.{take, drop}
use Rattle.std.specs.Prelude.{Result, Ok, Err}
use Rattle.model.specs.declared.Refusal.{Refusal}
use Rattle.sheet.specs.Lines.{Parsed, and_then, value_line}
use Rattle.scan.specs.inner.AtPlace.{ValueReads, LineReads}
use Rattle.scan.proofs.KeyedLines.{line-missing, line-value, value-within}
use Rattle.read_sheet.specs.inner.Values.{parsed}

-- a line with the key, of whose value f makes something
module _ {A : Type 0} (f : List ℕ → List ℕ → Parsed A) (key s : List ℕ) (r : Result (ℕ × ℕ) Refusal) (w : ValueReads key s r) where
  -- no such line
  pub value-missing : (why : Refusal) → r ≡ Err why → LineReads s (Err why) (and_then (value_line key s) f)
  value-missing why e = record { same = sym (line-missing key s r w.same f why e); within = omega arith }

  module _ (start end : ℕ) (e : r ≡ Ok (start, end)) (q : Result A Refusal)
      (g : (rest : List ℕ) → parsed q rest ≡ f (take (end - start) (drop start s)) rest) where
    same : (q' : Result A Refusal) → q ≡ q' → parsed q' (drop (end + 1) s) ≡ and_then (value_line key s) f
    same q' m = rw m at (g (drop (end + 1) s)) ∙ sym (line-value key s r w.same f start end e)

    -- a value that is refused
    pub value-refused : (why : Refusal) → q ≡ Err why → LineReads s (Err why) (and_then (value_line key s) f)
    value-refused why m = record { same = same (Err why) m; within = omega arith }

    -- and one that is read
    pub value-read : (x : A) → q ≡ Ok x → LineReads s (Ok (x, end + 1)) (and_then (value_line key s) f)
    value-read x m = record { same = same (Ok x) m; within = omega (arith, value-within s r start end w.within e) }
