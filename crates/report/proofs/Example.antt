-- Document 01's example: the report of its book is the report that it prints, octet for octet, computed by the definitions.
use mathlib.Core.Path.{◌≡◌, refl}
use mathlib.Core.List.{List, [], ◌∷◌, ◌++◌}
use Prim.Native.Nat.{ℕ}
use Prim.Native.String.{String}
use Rattle.notes_and_cells.specs.Names.{ascii, printed, printed_as}
use Rattle.notes_and_cells.specs.NumberOfOctets.{low_first}
use Rattle.text.specs.Text.{LF, onto, split, all, onward}
use Rattle.book_line.specs.EventNames.{event_names, event_named}
use Rattle.book_line.specs.ValueForms.{form_of}
use Rattle.book_line.specs.Line.{is_end, is_number, is_absent, is_body_text, is_hit_text, value_fits, formed, in_order}
use Rattle.book_line.specs.Value.{hex_digit, pairs, body_of, letter_code, value_octets}
use Rattle.book_reader.specs.Book.{nothing, closing, lines, answers_from}
use Rattle.bus_rules.specs.Scenes as scenes
use Rattle.note_text.specs.NoteText as note
use Rattle.report.specs.Report.{call_at, calls_of_answers, book_calls, refused_notes, book_notes, all_book_notes, stop_of, report}

-- a text of these lines
abbrev text : List String → List ℕ
text [] = []
text (l ∷ more) = ascii l ++ (LF ∷ text more)

-- a book of these lines after its first one, and what its report has after its first line
abbrev pub report_of : List String → List ℕ
report_of written = report (text ("period unit event value" ∷ written))

abbrev pub reported : List String → List ℕ
reported told = text ("period unit note value" ∷ told)

-- whatever says `unfolding computed` computes reports
unfoldable computed : List ℕ → List ℕ
unfolding scenes.handed_back printed printed_as low_first note.decimal_in note.decimal note.hex_code note.hex_of note.note_line note.notes_in note.heading note.stopped_line onto split all onward event_names event_named is_end is_number is_absent is_body_text is_hit_text form_of value_fits formed in_order hex_digit pairs body_of letter_code value_octets nothing closing lines answers_from call_at calls_of_answers book_calls refused_notes book_notes all_book_notes stop_of report
computed octets = report octets

pub the_example :
    report_of ("0 1 on -" ∷ "1 1 ar -" ∷ "9 1 d1 00" ∷ "20 0 end -" ∷ [])
    ≡ reported
    ("0 1 MPH-II connected"
    ∷ "7 0 PH-ACT -"
    ∷ "7 0 MPH-ACT -"
    ∷ "8 1 PH-ACT -"
    ∷ "8 1 MPH-ACT -"
    ∷ "8 1 MPH-EI2 -"
    ∷ "16 0 heard 00"
    ∷ "16 1 done1 -"
    ∷ [])
unfolding computed
the_example = refl

-- "In a book, 3 to 8 become the note `refused` with the line's unit"; `end` is for unit 0, and others are refused it
pub refused_lines :
    report_of ("0 1 off -" ∷ "3 1 end -" ∷ "3 9 end -" ∷ "3 1 d1 -" ∷ "3 0 end -" ∷ [])
    ≡ reported ("0 1 refused 5" ∷ "3 1 refused 4" ∷ "3 9 refused 3" ∷ "3 1 refused 6" ∷ [])
unfolding computed
refused_lines = refl

-- "A book fault (11 to 14) runs nothing more": no period before the faulty line is run, as the first book, which has none, shows by its note
pub fault_runs_nothing :
    (report_of ("0 1 on -" ∷ "1 0 end -" ∷ []) ≡ reported ("0 1 MPH-II connected" ∷ []))
    × (report_of ("0 1 on -" ∷ "1 1 xx -" ∷ []) ≡ reported ("- - stopped 12" ∷ []))
    × (report_of ("0 1 on -" ∷ "1 0 end -" ∷ "" ∷ []) ≡ reported ("0 1 MPH-II connected" ∷ "- - stopped 14" ∷ []))
    × (report [] ≡ reported ("- - stopped 11" ∷ []))
unfolding computed
fault_runs_nothing = (refl, refl, refl, refl)
