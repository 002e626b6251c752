-- Rules: the whole book (document 01, "Bench book and report" and refusals 11 to 14; readings 15 to
-- 17 of docs/DECISIONS.md): the answers of its lines, one after the other.
-- Interface: `answers`, `Answer`, `first_line`. Assumes nothing.
use Rattle.std.specs.Prelude.{Bool, true, false, cond, List, [], ◌∷◌, ℕ, eqb, length, take, drop}
use Rattle.notes_and_cells.specs.Names.{ascii}
use Rattle.text.specs.Text.{LF, split, same}
use Rattle.book_line.specs.Line.{formed, in_order, is_end, period_of, unit_of, event_of, value_of}

-- A line answers an entry, its period, unit, event and value, or the number of the fault that stops
-- the book at it.
pub data Answer : Type 0 where
  entry : (period unit event : ℕ) → (value : List ℕ) → Answer
  fault : ℕ → Answer

-- "The book begins `period unit event value`", and LF.
abbrev pub first_line : List ℕ
first_line = ascii "period unit event value\n"

-- What is left of a book is given as its pieces between LFs, one or more: the last piece lacks its
-- LF, and is empty where the text ends in LF. Whether nothing is left: one piece, and no octet in
-- it.
unfoldable pub nothing : List (List ℕ) → Bool
nothing [] = true
nothing (piece ∷ []) = eqb (length piece) 0
nothing (piece ∷ next ∷ more) = false

-- 14: "The book has no accepted `end` line, or something after it", the second half. Any octet
-- whatever is something (reading 17).
unfoldable pub closing : List (List ℕ) → List Answer
closing pieces = cond (nothing pieces) [] (fault 14 ∷ [])

-- The answers of what is left behind a line whose period is `last`.
-- 12: "A line is too long, lacks its LF, has not four fields, or has a field of the wrong form".
-- 13: "A line's period is before the last one's, or above 4,000,000"; judged after 12 (reading 16).
-- 14, the first half: no line is left.
unfoldable pub lines : ℕ → List (List ℕ) → List Answer
lines last [] = []
lines last (piece ∷ []) = fault (cond (nothing (piece ∷ [])) 14 12) ∷ []
lines last (line ∷ next ∷ more) =
    cond (formed line)
    (cond (in_order last (period_of line))
    (entry (period_of line) (unit_of line) (event_of line) (value_of line)
    ∷ cond (is_end (unit_of line) (event_of line)) (closing (next ∷ more)) (lines (period_of line) (next ∷ more)))
    (fault 13 ∷ []))
    (fault 12 ∷ [])

-- The answers of a book of which nothing is taken, where no line may have a period before `last`.
-- 11: "The book does not begin with its first line and LF".
unfoldable pub answers_from : ℕ → List ℕ → List Answer
answers_from last book =
    cond (same (take (length first_line) book) first_line) (lines last (split LF (drop (length first_line) book))) (fault 11 ∷ [])

-- Before the lines of a whole book stands none: they may begin with any period.
abbrev pub answers : List ℕ → List Answer
answers book = answers_from 0 book
