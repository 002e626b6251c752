-- Laws: a book that is handed over in parts: what a caller keeps, what it is answered, and what is
-- still to come.
-- Interface: `to_come`, `joined`. Assumes nothing.
use Rattle.std.specs.Prelude.{◌≡◌, Bool, true, false, cond, List, [], ◌∷◌, ◌++◌, ℕ, ◌+◌, eqb, length, drop}
use Rattle.text.specs.Text.{LF, split}
use Rattle.text.specs.declared.field.Ends.{Ends}
use Rattle.book_line.specs.Line.{is_end}
use Rattle.book_reader.specs.Book.{Answer, first_line, answers_from, lines, closing}
use Rattle.book_reader.specs.Book.Answer.{entry, fault}
use Rattle.book_reader.specs.Step.{before_first_line, at_lines, after_end, step_at, value_at}
use Rattle.book_reader.specs.declared.step.Step.{Step}

-- What a caller keeps between calls: how far the book has come, and the last line's period.
pub record Place : Type 0 where
  pub stage : ℕ
  pub last : ℕ

abbrev pub start : Place
start = record { stage = before_first_line; last = 0 }

-- behind the book's first line, which has no period
abbrev pub begun : Place → Place
begun p = record { stage = at_lines; last = p.last }

abbrev pub past : ℕ → ℕ → ℕ → Place
past period unit event = record { stage = cond (is_end unit event) after_end at_lines; last = period }

-- The answers still to come, where these octets of the book are left.
unfoldable pub to_come : Place → List ℕ → List Answer
to_come p left =
    cond (eqb p.stage before_first_line) (answers_from p.last left)
    (cond (eqb p.stage at_lines) (lines p.last (split LF left)) (closing (split LF left)))

-- The parts together.
unfoldable pub joined : List (List ℕ) → List ℕ
joined [] = []
joined (part ∷ parts) = part ++ joined parts

-- A caller that holds text, has taken it up to `at`, and has these parts of the book yet to be
-- handed: the answers that it gets. `whole` is the flag that it passes. Where more text is needed
-- it may move what is left wherever it likes: only what is left counts.
pub data Handed : Place → List ℕ → ℕ → Bool → List (List ℕ) → List Answer → Type 0 where
  first : {p : Place} {text : List ℕ} {at : ℕ} {whole : Bool} {parts : List (List ℕ)} {got : List Answer}
      → step_at text at p.stage p.last whole ≡ Step.Begun
      → Handed (begun p) text (at + length first_line) whole parts got → Handed p text at whole parts got
  line : {p : Place} {text : List ℕ} {at : ℕ} {whole : Bool} {parts : List (List ℕ)} {got : List Answer}
      (period unit event : ℕ) (ends : Ends) (octets : ℕ)
      → step_at text at p.stage p.last whole ≡ Step.Entry period unit event ends octets
      → Handed (past period unit event) text (at + octets) whole parts got
      → Handed p text at whole parts (entry period unit event (value_at text at (Step.Entry period unit event ends octets)) ∷ got)
  stops : {p : Place} {text : List ℕ} {at : ℕ} {whole : Bool} {parts : List (List ℕ)} (n : ℕ)
      → step_at text at p.stage p.last whole ≡ Step.Fault n → Handed p text at whole parts (fault n ∷ [])
  ends : {p : Place} {text : List ℕ} {at : ℕ} {whole : Bool} {parts : List (List ℕ)}
      → step_at text at p.stage p.last whole ≡ Step.Done → Handed p text at whole parts []
  more : {p : Place} {text : List ℕ} {at : ℕ} {part : List ℕ} {parts : List (List ℕ)} {got : List Answer} (text' : List ℕ) (at' : ℕ)
      → step_at text at p.stage p.last false ≡ Step.More
      → drop at' text' ≡ drop at text ++ part
      → Handed p text' at' false parts got → Handed p text at false (part ∷ parts) got
  last : {p : Place} {text : List ℕ} {at : ℕ} {got : List Answer}
      → Handed p text at true [] got → Handed p text at false [] got
