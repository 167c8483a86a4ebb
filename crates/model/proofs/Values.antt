-- How long the lists are that a sheet holds by value, and how one grows at the front of blanks.
use Prim.Native.Nat.{ℕ, suc, ◌≤◌, ◌<◌}
use mathlib.Core.Path.{◌≡◌, refl, sym}
use mathlib.Core.Bool.{false}
use mathlib.Core.List.{List, [], ◌∷◌, ◌++◌}
use native.Mathlib.Omega.{arith}
use lib.ListN.{length, get_or, drop, set, length-append, length-drop, length-replicate}
use lib.Seq.{drop-cons, set_at, append_snoc}
use Rattle.model.specs.Sheets.{idle}
use Rattle.model.specs.Values.{zeros, idles, zero_rows, blank_marks, padded}

-- n zeros, n idle entries, n rows 0/0, n steps that modify nothing
pub zeros-length : (n : ℕ) → length (zeros n) ≡ n
unfolding zeros
zeros-length n = length-replicate n 0

pub idles-length : (n : ℕ) → length (idles n) ≡ n
unfolding idles
idles-length n = length-replicate n idle

pub zero-rows-length : (n : ℕ) → length (zero_rows n) ≡ n
unfolding zero_rows
zero-rows-length n = length-replicate n (record { h = 0; d = 0 })

pub blank-marks-length : (n : ℕ) → length (blank_marks n) ≡ n
unfolding blank_marks
blank-marks-length n = length-replicate n false

-- a list at the front of blank elements is as long as they are
pub padded-length : {X : Type 0} (xs blank : List X) → length xs ≤ length blank → length (padded xs blank) ≡ length blank
unfolding padded
padded-length xs blank h = rw (length-append, length-drop) (omega arith)

-- one element more at the front of blanks
pub padded-next : {X : Type 0} (xs blank : List X) (x : X) → length xs < length blank
    → set (padded xs blank) (length xs) x ≡ padded (xs ++ (x ∷ [])) blank
unfolding padded
padded-next xs blank x lt =
    let long : length (xs ++ (x ∷ [])) ≡ suc (length xs) = omega (arith, length-append xs (x ∷ [])) in
    rw (drop-cons blank (length xs) x lt, set_at xs (get_or blank (length xs) x) (drop (suc (length xs)) blank) x (length xs) refl)
    (rw long (sym (append_snoc xs x (drop (suc (length xs)) blank))))
