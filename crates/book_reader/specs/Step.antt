-- Calls: one call on lent text, "what lies in" the program's buffer: what it answers, from the
-- octets not yet taken. An answer says how many of them it takes, not where they stand. `whole`
-- says that the text reaches to the book's end.
-- Interface: `before_first_line`, `head_step`, `ruled`, `unended`, `line_step`, `tail_step`, `step_at`,
-- `taken_by`, `value_from`, `value_to`, `value_at`, `moved_on`. Assumes nothing.
use Rattle.std.specs.Prelude.{Result, Ok, Err, Bool, cond, List, ℕ, ◌+◌, ◌-◌, min, eqb, ltb, length, take, drop}
use Rattle.refusals.specs.Numbers.{number}
use Rattle.refusals.specs.declared.Refusal.{Refusal}
use Rattle.text.specs.Text.{LF, upto, same}
use Rattle.text.specs.Fields.{field_from, field_to}
use Rattle.book_line.specs.Line.{longest_line, in_order}
use Rattle.book_line.specs.Judging.{judged}
use Rattle.book_line.specs.declared.line.Entry.{Entry}
use Rattle.book_reader.specs.Book.{first_line}
use Rattle.book_reader.specs.declared.step.Step.{Step}

-- The stage of a book: its first line is to come, its lines are to come, or its `end` has been
-- accepted (so says every number but the first two).
abbrev pub before_first_line : ℕ
before_first_line = 0

abbrev pub at_lines : ℕ
at_lines = 1

abbrev pub after_end : ℕ
after_end = 2

-- The book's first line (11): as many octets as it has are looked at.
unfoldable pub head_step : List ℕ → Bool → Step
head_step t whole =
    cond (ltb (length t) (length first_line)) (cond whole (Step.Fault 11) Step.More)
    (cond (same (take (length first_line) t) first_line) Step.Begun (Step.Fault 11))

-- A line of `octets` octets, its LF included (12, then 13).
unfoldable pub ruled : ℕ → ℕ → Result Entry Refusal → Step
ruled last octets (Err reason) = Step.Fault (number reason)
ruled last octets (Ok e) = cond (in_order last e.period) (Step.Entry e.period e.unit e.event e.ends octets) (Step.Fault 13)

-- n octets without LF: too long a line (12); or the book ends here, after a LF (14) or without one
-- (12); or the line is cut.
unfoldable pub unended : ℕ → Bool → Step
unended n whole = cond (ltb n longest_line) (cond whole (Step.Fault (cond (eqb n 0) 14 12)) Step.More) (Step.Fault 12)

-- The octets among which a line's LF stands: "a line has at most 600 characters, its LF included".
abbrev pub window : List ℕ → List ℕ
window t = take longest_line t

unfoldable pub line_step : List ℕ → ℕ → Bool → Step
line_step t last whole =
    cond (ltb (upto LF (window t)) (length (window t)))
    (ruled last (upto LF (window t) + 1) (judged (take (upto LF (window t)) t)))
    (unended (length t) whole)

-- n octets after `end` (14, the second half).
unfoldable pub tail_step : ℕ → Bool → Step
tail_step n whole = cond (eqb n 0) (cond whole Step.Done Step.More) (Step.Fault 14)

-- What these octets say, where the book is at `stage` and `last` is the last line's period.
unfoldable pub step_of : List ℕ → ℕ → ℕ → Bool → Step
step_of t stage last whole =
    cond (eqb stage before_first_line) (head_step t whole)
    (cond (eqb stage at_lines) (line_step t last whole) (tail_step (length t) whole))

-- What the text says from `at` on.
abbrev pub step_at : List ℕ → ℕ → ℕ → ℕ → Bool → Step
step_at text at stage last whole = step_of (drop at text) stage last whole

-- The octets that an answer takes: those of the first line, or of the entry's line.
unfoldable pub taken_by : Step → ℕ
taken_by Step.Begun = length first_line
taken_by (Step.Entry p u e ends octets) = octets
taken_by Step.Done = 0
taken_by (Step.Fault n) = 0
taken_by Step.More = 0

-- The line of `octets` octets, its LF included, that stands at `at` of the text: its LF is left
-- off.
abbrev pub line_at : List ℕ → ℕ → ℕ → List ℕ
line_at text at octets = take (octets - 1) (drop at text)

-- Where the value of the line that was read begins and ends, from the line's beginning. Where no
-- line was read it is empty.
unfoldable pub value_from : Step → ℕ
value_from Step.Begun = 0
value_from (Step.Entry p u e ends octets) = field_from 3 ends
value_from Step.Done = 0
value_from (Step.Fault n) = 0
value_from Step.More = 0

unfoldable pub value_to : Step → ℕ
value_to Step.Begun = 0
value_to (Step.Entry p u e ends octets) = field_to 3 ends
value_to Step.Done = 0
value_to (Step.Fault n) = 0
value_to Step.More = 0

-- its octets, where the line stands at `at` of the text: the line's fourth field (proofs/RunOn.antt
-- `entered`)
abbrev pub value_at : List ℕ → ℕ → Step → List ℕ
value_at text at said = take (value_to said - value_from said) (drop (at + value_from said) text)

-- A reader moves on by `octets` octets, at most to the text's end.
abbrev pub moved_on : ℕ → ℕ → ℕ → ℕ
moved_on at octets length = min (at + octets) length
