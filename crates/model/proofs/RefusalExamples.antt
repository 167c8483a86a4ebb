-- The number of each refusal, in the order of the lists of documents 01 and 02.
use Rattle.std.specs.Prelude.{Result, Ok, Err}
use Prim.Native.Nat.{ℕ}
use Rattle.model.specs.declared.Refusal.{Refusal}
use mathlib.Core.Path.{◌≡◌, refl}
use mathlib.Core.List.{[], ◌∷◌, map}
use Rattle.model.specs.Refusals.{number_of, verdict_number}
use Rattle.model.specs.declared.Refusal.TheVariants.{SheetTooLong, LineMalformed, ValueMalformed, OutOfRange, ThresholdNotAbove}
use Rattle.model.specs.declared.Refusal.TheVariants.{BytesAfterEnd, NoSuchRow, ScheduleLength, TouchedNotHeld}
use Rattle.model.specs.declared.Refusal.TheVariants.{HeldNotBefore, PlaceTooShort, NoRowFits, RecorderFull, NoSuchReference}
use Rattle.model.specs.declared.Refusal.TheVariants.{FirstTouch, StepNotAbove, IdleStep, TariffOutOfRange}
use Rattle.model.specs.declared.Refusal.TheVariants.{HoldNotAbove, HeadsDiffer, BothTouch, TooManySegments, PageOutOfRange}
use Rattle.model.specs.declared.Refusal.TheVariants.{TraceMalformed, TraceTooLong, SizeNotOne, WarmSegment, NotTimeZero}

-- a sheet and its lines: 1 to 6
of-sheets : map number_of (SheetTooLong ∷ LineMalformed ∷ ValueMalformed ∷ OutOfRange ∷ ThresholdNotAbove ∷ BytesAfterEnd ∷ [])
    ≡ 1 ∷ 2 ∷ 3 ∷ 4 ∷ 5 ∷ 6 ∷ []
of-sheets = refl

-- the row asked for, a schedule handed in, the lent place, sizing: 7 to 12
of-rows : map number_of (NoSuchRow ∷ ScheduleLength ∷ TouchedNotHeld ∷ HeldNotBefore ∷ PlaceTooShort ∷ NoRowFits ∷ [])
    ≡ 7 ∷ 8 ∷ 9 ∷ 10 ∷ 11 ∷ 12 ∷ []
of-rows = refl

-- the recorder, the reference asked for: 13 to 15
of-references : map number_of (RecorderFull ∷ NoSuchReference ∷ FirstTouch ∷ []) ≡ 13 ∷ 14 ∷ 15 ∷ []
of-references = refl

-- steps without a touch (F-3) 16, 17; the tariff (F-5) 18; warm segments (F-6) 19; joining (F-7) 20 to 22
of-forms : map number_of (StepNotAbove ∷ IdleStep ∷ TariffOutOfRange ∷ HoldNotAbove ∷ HeadsDiffer ∷ BothTouch ∷ TooManySegments ∷ [])
    ≡ 16 ∷ 17 ∷ 18 ∷ 19 ∷ 20 ∷ 21 ∷ 22 ∷ []
of-forms = refl

-- din traces (F-8) 23 to 25; frames (F-9) 26, 27; windows (F-12) 28
of-lists : map number_of (PageOutOfRange ∷ TraceMalformed ∷ TraceTooLong ∷ SizeNotOne ∷ WarmSegment ∷ NotTimeZero ∷ [])
    ≡ 23 ∷ 24 ∷ 25 ∷ 26 ∷ 27 ∷ 28 ∷ []
of-lists = refl

-- 0 where a call was carried out
number : Result ℕ Refusal → ℕ
number answer = verdict_number answer

of-verdicts : map number (Ok 7 ∷ Err SheetTooLong ∷ Err NotTimeZero ∷ []) ≡ 0 ∷ 1 ∷ 28 ∷ []
unfolding number
of-verdicts = refl
