-- Calls: going on with a book that is lent as octets: crate `book_go_on`'s call on what the octets
-- stand for (document 01, "Bench book and report"; "Reasons a call is turned down", 1 and 2).
-- Interface: `fresh_book`, `gone_on_octets`, `going_reason`, `Goes`, `HostGoesOn`. Assumes nothing.
use Rattle.std.specs.Prelude.{Bool, true, false, cond, List, [], ◌∷◌, ◌++◌, ◌≡◌, ℕ, ltb, length, replicate}
use Rattle.symbols.specs.Symbols.{line_length}
use Rattle.hdlc.specs.Image.{longest_body}
use Rattle.bus_rules.specs.Calls.{Call}
use Rattle.bus_event.specs.Event.{images_room}
use Rattle.note_text.specs.Room.{laid}
use Rattle.note_text.specs.LowFirst.{double}
use Rattle.report.specs.Ahead.{BookState, fresh, Stopped, Driven, DrivenRight}
use Rattle.book_go_on.specs.declared.progress.GoneOn.{GoneOn}
use Rattle.host_book.specs.Octets.{book_octets, book_state_in, is_book}

-- ---- A book of which nothing has been read, on a fresh bus; what is lent with it holds nothing
-- but 0.
abbrev pub fresh_book_state : BookState
fresh_book_state = fresh (replicate images_room 0) (replicate longest_body 0) (replicate line_length 0)

unfoldable pub fresh_book : List ℕ
fresh_book = book_octets fresh_book_state

-- ---- How far a call went: the octets taken of the text and those written into the report, eight
-- octets each, and why it stopped.
unfoldable pub gone_on_octets : ℕ → ℕ → ℕ → List ℕ
gone_on_octets taken wrote why = double taken ++ double wrote ++ (why ∷ [])

abbrev pub gone_on_length : ℕ
gone_on_length = 17

-- 1: what is lent is no book; 2: there is no room to say how far it went
unfoldable pub going_reason : List ℕ → ℕ → ℕ
going_reason b room = cond (is_book b) (cond (ltb room gone_on_length) 2 0) 1

-- ---- Going on with what is a book: from the state of the book to the state that it left, until it
-- needs text or room, or is finished (crate `report`, specs/Ahead.antt); what it left is a book.
pub record Goes (b text report : List ℕ) (whole : Bool) (r : GoneOn) (b' report' : List ℕ) : Type 0 where
  pub stops : Stopped (book_state_in b) text report whole (book_state_in b') r.taken r.wrote r.why report'
  pub left : is_book b' ≡ true

-- ---- The call, on a book b with text, room for the report and room to say how far it went.
pub record HostGoesOn (b text report went : List ℕ) (whole : Bool) (r : ℕ) (b' report' went' : List ℕ) : Type 0 where
  pub replies : r ≡ going_reason b (length went)
  -- refused: every lent octet is as it was
  pub refused : (r ≡ 0 → ⊥) → (b' ≡ b) × (report' ≡ report) × (went' ≡ went)
  -- else it has gone on, and says how far
  pub how_far : GoneOn
  pub goes : r ≡ 0 → Goes b text report whole how_far b' report'
  pub says : r ≡ 0 → went' ≡ laid went 0 (gone_on_octets how_far.taken how_far.wrote how_far.why)

-- ---- However a host cuts a book into parts and whatever room it lends, what is written is the
-- report of the book, and the calls made are the book's: proofs/Laws.antt.
abbrev pub HostWritesRight : Type 0
HostWritesRight =
    (parts : List (List ℕ)) (w : List ℕ) (calls : List Call) → Driven (book_state_in fresh_book) [] false parts w calls
    → DrivenRight parts w calls

-- A fresh book is a book, so that the first call is not refused by 1; what a call leaves is one too
-- (`Goes`).
abbrev pub FreshIsBook : Type 0
FreshIsBook = is_book fresh_book ≡ true
