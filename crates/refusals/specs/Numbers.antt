-- Rules: the number of each reason for which a call is turned down (document 01, "Reasons a call is
-- turned down").
-- Interface: `number`, `reason_of`, `unless_refused`, `reply_of`. Assumes nothing.
use Rattle.std.specs.Prelude.{ℕ, eqb, cond, Result, Ok, Err}
use Rattle.refusals.specs.declared.Refusal.{Refusal}
use Rattle.refusals.specs.declared.Refusal.TheVariants.{OutOfRange, WrongSlice, NoSuchUnit, NotForUnit, Barred, OutsideF7, BodyLength}
use Rattle.refusals.specs.declared.Refusal.TheVariants.{FrameHeld, AllPeriodsRun, NoFrame, NoFirstLine, WrongLine, WrongPeriod, NoEnd}

abbrev pub number : Refusal → ℕ
number OutOfRange = 1
number WrongSlice = 2
number NoSuchUnit = 3
number NotForUnit = 4
number Barred = 5
number OutsideF7 = 6
number BodyLength = 7
number FrameHeld = 8
number AllPeriodsRun = 9
number NoFrame = 10
number NoFirstLine = 11
number WrongLine = 12
number WrongPeriod = 13
number NoEnd = 14

-- The reason that has a number, of 1 to 14. Any other number is no reason's; the last one stands for it.
abbrev pub reason_of : ℕ → Refusal
reason_of n =
    cond (eqb n 1) OutOfRange
    (cond (eqb n 2) WrongSlice
    (cond (eqb n 3) NoSuchUnit
    (cond (eqb n 4) NotForUnit
    (cond (eqb n 5) Barred
    (cond (eqb n 6) OutsideF7
    (cond (eqb n 7) BodyLength
    (cond (eqb n 8) FrameHeld
    (cond (eqb n 9) AllPeriodsRun
    (cond (eqb n 10) NoFrame
    (cond (eqb n 11) NoFirstLine
    (cond (eqb n 12) WrongLine
    (cond (eqb n 13) WrongPeriod NoEnd))))))))))))

-- What a reply says, 0 or the number of a reason: the value that the call gives, or why it was turned down.
abbrev pub unless_refused : {A : Type 0} → ℕ → A → Result A Refusal
unless_refused reply value = cond (eqb reply 0) (Ok value) (Err (reason_of reply))

-- What a host is told of a call that comes out so: 0, or the number of the reason for which it was turned down.
abbrev pub reply_of : {A : Type 0} → Result A Refusal → ℕ
reply_of (Ok value) = 0
reply_of (Err r) = number r
