-- Rules: the report of a book (document 01, "Bench book and report"): from the book's octets to the
-- report's, whatever octets the book has.
-- Interface: `calls_of_answers`, `book_calls`, `all_book_notes`, `stop_of`, `report`. Assumes nothing.
use Rattle.std.specs.Prelude.{cond, List, [], ◌∷◌, ◌++◌, ℕ, ◌-◌, eqb, replicate}
use Rattle.notes_and_cells.specs.Notes.{REFUSED}
use Rattle.book_line.specs.Line.{is_end}
use Rattle.book_line.specs.Value.{value_octets}
use Rattle.book_reader.specs.Book.{Answer, answers}
use Rattle.book_reader.specs.Book.Answer.{entry, fault}
use Rattle.bus_rules.specs.Bus.{Bus, Note, fresh_bus}
use Rattle.bus_rules.specs.Calls.{Call, reply, notes, after}
use Rattle.bus_rules.specs.Calls.Call.{event, period}
use Rattle.note_text.specs.NoteText.{heading, notes_text, stopped_line}

-- ---- "A book's events and periods make such a list": the calls on the bus that a book makes.

-- at a line its event is given to the bus; `end` is for the book alone, "and of its own only the
-- due timers and earlier lines" are run: those timers end the call of the period before
unfoldable pub call_at : ℕ → ℕ → List ℕ → List Call
call_at unit number value = cond (is_end unit number) [] (event unit number (value_octets number value) ∷ [])

-- the calls of these answers, where `run` periods have been run: up to each line's own period the
-- periods are run, then comes the line's event
unfoldable pub calls_of_answers : ℕ → List Answer → List Call
calls_of_answers run [] = []
calls_of_answers run (fault number ∷ more) = []
calls_of_answers run (entry at unit number value ∷ more) = replicate (at - run) period ++
    (call_at unit number value ++ calls_of_answers at more)

unfoldable pub book_calls : List ℕ → List Call
book_calls book = calls_of_answers 0 (answers book)

-- ---- What a call puts into the report.

-- "In a book, 3 to 8 become the note `refused` with the line's unit." No period of a book is
-- refused: the law `none_late` (proofs/Books.antt).
unfoldable pub refused_notes : Bus → Call → List Note
refused_notes b (event unit number value) =
    record { period = b.periods; unit = unit; code = REFUSED; value = reply b (event unit number value) ∷ [] } ∷ []
refused_notes b period = []

unfoldable pub book_notes : Bus → Call → List Note
book_notes b c = cond (eqb (reply b c) 0) (notes b c) (refused_notes b c)

-- "They stand as they arise"
unfoldable pub all_book_notes : Bus → List Call → List Note
all_book_notes b [] = []
all_book_notes b (c ∷ more) = book_notes b c ++ all_book_notes (after b c) more

-- "A book fault (11 to 14) runs nothing more, not even the current period's exchange; the last line
-- is `- - stopped` and the number."
unfoldable pub stop_of : List Answer → List ℕ
stop_of [] = []
stop_of (fault number ∷ more) = stopped_line number
stop_of (entry at unit number value ∷ more) = stop_of more

-- ---- "The report's first line is printed for every book."
unfoldable pub report : List ℕ → List ℕ
report book = heading ++ (notes_text (all_book_notes fresh_bus (book_calls book)) ++ stop_of (answers book))
