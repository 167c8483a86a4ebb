-- The numbers for a refusal, as documents 01 and 02 list them, and for what a call answers.
use Rattle.std.specs.Prelude.{ℕ, Result, Ok, Err}
use Rattle.model.specs.declared.Refusal.{Refusal}
use Rattle.model.specs.declared.Refusal.TheVariants.{SheetTooLong, LineMalformed, ValueMalformed, OutOfRange, ThresholdNotAbove}
use Rattle.model.specs.declared.Refusal.TheVariants.{BytesAfterEnd, NoSuchRow, ScheduleLength, TouchedNotHeld}
use Rattle.model.specs.declared.Refusal.TheVariants.{HeldNotBefore, PlaceTooShort, NoRowFits, RecorderFull, NoSuchReference}
use Rattle.model.specs.declared.Refusal.TheVariants.{FirstTouch, StepNotAbove, IdleStep, TariffOutOfRange}
use Rattle.model.specs.declared.Refusal.TheVariants.{HoldNotAbove, HeadsDiffer, BothTouch, TooManySegments, PageOutOfRange}
use Rattle.model.specs.declared.Refusal.TheVariants.{TraceMalformed, TraceTooLong, SizeNotOne, WarmSegment, NotTimeZero}

-- the number of a refusal
abbrev pub number_of : Refusal → ℕ
number_of SheetTooLong = 1
number_of LineMalformed = 2
number_of ValueMalformed = 3
number_of OutOfRange = 4
number_of ThresholdNotAbove = 5
number_of BytesAfterEnd = 6
number_of NoSuchRow = 7
number_of ScheduleLength = 8
number_of TouchedNotHeld = 9
number_of HeldNotBefore = 10
number_of PlaceTooShort = 11
number_of NoRowFits = 12
number_of RecorderFull = 13
number_of NoSuchReference = 14
number_of FirstTouch = 15
number_of StepNotAbove = 16
number_of IdleStep = 17
number_of TariffOutOfRange = 18
number_of HoldNotAbove = 19
number_of HeadsDiffer = 20
number_of BothTouch = 21
number_of TooManySegments = 22
number_of PageOutOfRange = 23
number_of TraceMalformed = 24
number_of TraceTooLong = 25
number_of SizeNotOne = 26
number_of WarmSegment = 27
number_of NotTimeZero = 28

-- the number of what a call answers: 0 where it was carried out, else that of the refusal
abbrev pub verdict_number : {A : Type 0} → Result A Refusal → ℕ
verdict_number (Ok x) = 0
verdict_number (Err r) = number_of r

-- the value of what a call answers, and beside a refusal the one with all numbers zero
abbrev pub value_or_zero : {A : Type 0} → A → Result A Refusal → A
value_or_zero zeros (Ok x) = x
value_or_zero zeros (Err r) = zeros

-- the first of two verdicts that refuses
abbrev pub first_of : Result (Unit {0}) Refusal → Result (Unit {0}) Refusal → Result (Unit {0}) Refusal
first_of (Ok u) second = second
first_of (Err why) second = Err why
