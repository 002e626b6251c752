-- Calls: how far a book has come, as octets: its bus (crate `bus_octets`, specs/Layout.antt), and
-- behind it the stage of the book's reader, whether the report's first line is written, and whether
-- all of it is. 3,197 octets in all.
-- Interface: `book_length`, `book_octets`, `book_state_in`, `is_book`, `progress_in`, `progress_laid`.
-- Assumes nothing.
use Rattle.std.specs.Prelude.{Bool, false, cond, ◌&&◌, List, [], ◌∷◌, ◌++◌, ℕ, ◌+◌, eqb, leb, length, get_or, take}
use Rattle.note_text.specs.Room.{laid}
use Rattle.report.specs.Ahead.{BookState}
use Rattle.book_go_on.specs.declared.progress.Progress.{Progress}
use Rattle.bus_octets.specs.Layout.{head_octets, bus_octets, bus_length, flag, flag_at, record_in, terminals_in, shown, is_bus}

abbrev pub book_length : ℕ
book_length = bus_length + 3

unfoldable pub book_octets : BookState → List ℕ
book_octets s = bus_octets s.kept ++ (s.stage ∷ flag s.begun ∷ flag s.over ∷ [])

-- what octets stand for
unfoldable pub book_state_in : List ℕ → BookState
book_state_in b =
    record {
      kept = shown (take bus_length b);
      stage = get_or b bus_length 0;
      begun = flag_at b (bus_length + 1);
      over = flag_at b (bus_length + 2);
    }

unfoldable pub is_book : List ℕ → Bool
is_book b =
    cond (eqb (length b) book_length)
    ((is_bus (take bus_length b) && leb (get_or b (bus_length + 1) 0) 1) && leb (get_or b (bus_length + 2) 0) 1)
    false

-- ---- How the code goes: the record of how far a book has come is read from all of its octets, and
-- goes over all but the images.
unfoldable pub progress_in : List ℕ → Progress
progress_in b =
    record {
      bus = record_in b;
      terminals = terminals_in b;
      stage = get_or b bus_length 0;
      begun = flag_at b (bus_length + 1);
      over = flag_at b (bus_length + 2);
    }

unfoldable pub progress_laid : Progress → List ℕ → List ℕ → List ℕ → List ℕ
progress_laid p letters octets b =
    laid (laid b 0 (head_octets p.bus p.terminals ++ (letters ++ octets))) bus_length (p.stage ∷ flag p.begun ∷ flag p.over ∷ [])
