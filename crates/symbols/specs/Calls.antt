-- Calls: what a call that is lent a line, or writes one, replies and leaves; what a test of a line
-- answers (document 01, "Reasons a call is turned down", 2).
-- Interface: every name. Assumes nothing.
use Rattle.std.specs.Prelude.{Bool, cond, List, ℕ, eqb, length, Result, Ok, Err}
use Rattle.refusals.specs.declared.Refusal.{Refusal}
use Rattle.refusals.specs.declared.Refusal.TheVariants.{WrongSlice}
use Rattle.symbols.specs.Symbols.{line_length, is_line}

-- Whether a line can be written into a lent slice: it is 48 long.
abbrev pub has_line_length : List ℕ → Bool
has_line_length lent = eqb (length lent) line_length

-- The reply of a call that changes what it is lent, where what it is lent is good or is not.
abbrev pub reply : Bool → Result (Unit {0}) Refusal
reply good = cond good (Ok tt) (Err WrongSlice)

-- What such a call leaves in a lent slice: what it writes there, or every octet as it was.
abbrev pub leaves : Bool → List ℕ → List ℕ → List ℕ
leaves good new lent = cond good new lent

-- What a test of a line answers, or what is taken from one: `WrongSlice` where what is lent is no line.
abbrev pub tested : {A : Type 0} → (List ℕ → A) → List ℕ → Result A Refusal
tested test l = cond (is_line l) (Ok (test l)) (Err WrongSlice)
