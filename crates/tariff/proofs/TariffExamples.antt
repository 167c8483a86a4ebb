-- Bills in one table; a single proof goes over it, computed from the definitions. And both sides of each limit.
use Prim.Native.Nat.{ℕ}
use mathlib.Core.Path.{◌≡◌, refl}
use mathlib.Core.Bool.{Bool, true, false, ◌&&◌}
use mathlib.Core.List.{List, [], ◌∷◌}
use lib.Dec.{eqb}
use Rattle.tariff.specs.Tariff.{tariff_in_range, bill_of}
use Rattle.tariff.specs.declared.Tariff.{Tariff}

-- so many cents for 1,000 memory units, for 1,000 load units, and the minimum
tariff : ℕ → ℕ → ℕ → Tariff
tariff m l least = record { memory_rate = m; load_rate = l; minimum = least }

-- a tariff, an amount of memory and one of load, and the bill
pub record Case : Type 0 where
  pub rates : Tariff
  pub memory : ℕ
  pub load : ℕ
  pub cents : ℕ

at : Tariff → ℕ → ℕ → ℕ → Case
at t m l n = record { rates = t; memory = m; load = l; cents = n }

pub all_billed : List Case → Bool
all_billed [] = true
all_billed (c ∷ cs) = eqb (bill_of c.rates c.memory c.load) c.cents && all_billed cs

pub bills : List Case
bills =
    -- units around a thousand, of memory and of load
    at (tariff 7 5 0) 0 0 0
    ∷ at (tariff 7 5 0) 1 0 7
    ∷ at (tariff 7 5 0) 999 0 7
    ∷ at (tariff 7 5 0) 1000 0 7
    ∷ at (tariff 7 5 0) 1001 0 14
    ∷ at (tariff 7 5 0) 0 1 5
    ∷ at (tariff 7 5 0) 0 999 5
    ∷ at (tariff 7 5 0) 0 1000 5
    ∷ at (tariff 7 5 0) 0 1001 10
    -- each part is rounded up by itself: two started thousands, although the units together make one
    ∷ at (tariff 7 5 0) 500 500 12
    ∷ at (tariff 7 7 0) 500 500 14
    -- rates of 0
    ∷ at (tariff 0 5 0) 1001 1 5
    ∷ at (tariff 0 0 0) 1001 1001 0
    ∷ at (tariff 0 0 99999) 1001 1001 99999
    -- no units: the minimum alone
    ∷ at (tariff 7 5 3) 0 0 3
    -- the minimum one below the charge, at it and one above it
    ∷ at (tariff 7 5 11) 1 1 12
    ∷ at (tariff 7 5 12) 1 1 12
    ∷ at (tariff 7 5 13) 1 1 13
    -- the largest bill of an accepted sheet
    ∷ at (tariff 9999 9999 99999) 8386560 2138574848 21467473038
    ∷ []

pub bills-hold : all_billed bills ≡ true
unfolding all_billed bills at tariff bill_of
bills-hold = refl

-- the ranges: both rates up to 9,999, the minimum up to 99,999
ranges : List Bool
ranges =
    tariff_in_range (tariff 9999 9999 99999)
    ∷ tariff_in_range (tariff 0 0 0)
    ∷ tariff_in_range (tariff 10000 0 0)
    ∷ tariff_in_range (tariff 0 10000 0)
    ∷ tariff_in_range (tariff 0 0 100000)
    ∷ []

ranges-are : ranges ≡ true ∷ true ∷ false ∷ false ∷ false ∷ []
unfolding ranges tariff
ranges-are = refl
