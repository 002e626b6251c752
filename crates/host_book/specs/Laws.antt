-- Laws: the octets of a book are read back as what was stored, and only octets that a book is
-- stored as are taken for one: proofs/Laws.antt proves each statement under the same name in small
-- letters.
-- Interface: none but for laws and proofs. Assumes nothing.
use Rattle.std.specs.Prelude.{true, List, ◌≡◌, ℕ, length}
use Rattle.hdlc.specs.Image.{longest_body}
use Rattle.bus_call_specs.specs.Kept.{found}
use Rattle.report.specs.Ahead.{BookState, ReadyState}
use Rattle.host_book.specs.Octets.{book_octets, book_state_in, is_book}

pub record BookStored (s : BookState) : Type 0 where
  pub is_book_lem : is_book (book_octets s) ≡ true
  pub book_state_is : book_state_in (book_octets s) ≡ s

-- a state that finds no notes of a period before
abbrev pub Settled : BookState → Type 0
Settled s = s.kept ≡ found s.kept.bus s.kept.terminals s.kept.images s.kept.octets s.kept.letters

abbrev pub BookRoundTrip : Type 0
BookRoundTrip = (s : BookState) → ReadyState s → Settled s → length s.kept.octets ≡ longest_body → BookStored s

pub record BookShown (b : List ℕ) : Type 0 where
  pub stored_is : book_octets (book_state_in b) ≡ b
  pub sound : ReadyState (book_state_in b)
  pub octets_fit : length (book_state_in b).kept.octets ≡ longest_body

abbrev pub BookExact : Type 0
BookExact = (b : List ℕ) → is_book b ≡ true → BookShown b
