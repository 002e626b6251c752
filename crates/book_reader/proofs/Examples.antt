-- Document 01's example book, and books for each fault: their answers, computed.
use mathlib.Core.Path.{◌≡◌, refl}
use mathlib.Core.List.{List, [], ◌∷◌, ◌++◌, map}
use Prim.Native.Nat.{ℕ, zero, suc}
use Prim.Native.String.{String}
use Rattle.symbols.specs.Symbols.{same_symbols}
use Rattle.notes_and_cells.specs.Names.{ascii}
use Rattle.text.specs.Text.{split, onto, all, onward}
use Rattle.book_line.specs.EventNames.{event_names, event_named}
use Rattle.book_line.specs.ValueForms.{form_of}
use Rattle.book_line.specs.Line.{is_number, is_absent, is_body_text, is_hit_text, value_fits, formed, in_order, is_end}
use Rattle.notes_and_cells.specs.Events.{ON, AR, D1, END}
use Rattle.book_reader.specs.Book.{first_line, nothing, closing, lines, answers_from, answers}
use Rattle.book_reader.specs.Book.Answer.{entry, fault}

-- The first line, and what comes after it.
abbrev book : String → List ℕ
book more = first_line ++ ascii more

-- n octets 00, as text
abbrev zeros : ℕ → List ℕ
zeros zero = []
zeros (suc n) = ascii "00" ++ zeros n

-- A book with one line: its start, and a body of 296 octets.
abbrev long : String → List ℕ
long start = book start ++ (zeros 296 ++ ascii "\n")

abbrev none : List ℕ
none = ascii "-"

pub computed : map answers (
    -- document 01's example
    book "0 1 on -\n1 1 ar -\n9 1 d1 00\n20 0 end -\n"
    -- 11: the first line lacks its LF; it is another
    ∷ ascii "period unit event value"
    ∷ ascii "period unit note value\n0 0 end -\n"
    -- 12: a line lacks its LF; an upper-case digit; an odd number of digits; two spaces; an event not listed; a value where none belongs
    ∷ book "0 1 on -"
    ∷ book "0 1 d1 0A\n"
    ∷ book "0 1 d1 000\n"
    ∷ book "0 1  on -\n"
    ∷ book "0 1 up -\n"
    ∷ book "0 1 on 00\n"
    -- 600 characters, LF included, are taken; 601 are not
    ∷ long "0 1 d1 "
    ∷ long "00 1 d1 "
    -- 12 comes before 13
    ∷ book "5 1 on -\n4 1 on x\n"
    -- 13: a period before the last one's; the last period, and one above it
    ∷ book "0000007 1 on -\n6 1 off -\n"
    ∷ book "4000000 1 on -\n4000001 1 off -\n"
    -- 14: no `end`; one that is not accepted; an empty line after it; a space after it
    ∷ book "0 1 on -\n"
    ∷ book "0 1 end -\n"
    ∷ book "0 0 end -\n\n"
    ∷ book "0 0 end -\n "
    ∷ [])
    ≡ (entry 0 1 ON none ∷ entry 1 1 AR none ∷ entry 9 1 D1 (ascii "00") ∷ entry 20 0 END none ∷ [])
    ∷ (fault 11 ∷ [])
    ∷ (fault 11 ∷ [])
    ∷ (fault 12 ∷ [])
    ∷ (fault 12 ∷ [])
    ∷ (fault 12 ∷ [])
    ∷ (fault 12 ∷ [])
    ∷ (fault 12 ∷ [])
    ∷ (fault 12 ∷ [])
    ∷ (entry 0 1 D1 (zeros 296) ∷ fault 14 ∷ [])
    ∷ (fault 12 ∷ [])
    ∷ (entry 5 1 ON none ∷ fault 12 ∷ [])
    ∷ (entry 7 1 ON none ∷ fault 13 ∷ [])
    ∷ (entry 4000000 1 ON none ∷ fault 13 ∷ [])
    ∷ (entry 0 1 ON none ∷ fault 14 ∷ [])
    ∷ (entry 0 1 END none ∷ fault 14 ∷ [])
    ∷ (entry 0 0 END none ∷ fault 14 ∷ [])
    ∷ (entry 0 0 END none ∷ fault 14 ∷ [])
    ∷ []
unfolding same_symbols split onto all onward event_names event_named is_number is_absent is_body_text is_hit_text form_of value_fits formed in_order is_end nothing closing lines answers_from
computed = refl
