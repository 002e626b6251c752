-- How the code goes: a call replies 0, or the number of the reason for which it is turned down.
-- Interface: `reply_number`. Assumes nothing.
use Rattle.std.specs.Prelude.{ℕ, Result, Ok, Err}
use Rattle.refusals.specs.declared.Refusal.{Refusal}
use Rattle.refusals.specs.Numbers.{number}

abbrev pub reply_number : {A : Type 0} → Result A Refusal → ℕ
reply_number (Ok value) = 0
reply_number (Err refusal) = number refusal
