-- The octets of a book: specs/Laws.antt, specs/Going.antt.
use mathlib.Core.Bool.{Bool, true, false}
use mathlib.Core.List.{List, [], ◌∷◌, ◌++◌}
use mathlib.Core.Path.{◌≡◌, refl, ap, ◌∙◌}
use Prim.Native.Nat.{ℕ, zero, suc, ◌+◌, ◌≤◌}
use native.Mathlib.Omega.{arith}
use lib.Dec.{eqb, leb}
use lib.ListN.{length, get_or, take, drop, replicate, length-append, take-append-drop, drop_of_length-le}
use lib.Seq.{take_at, drop-cons, get_or-append-add}
use borrow.Author.Tests.{eqb-true, eq-eqb, le-leb, leb-true}
use Rattle.test_lemmas.proofs.ByCases.{both}
use Rattle.test_lemmas.proofs.Operators.{and_both}
use Rattle.symbols.specs.Symbols.{line_length}
use Rattle.hdlc.specs.Image.{longest_body}
use Rattle.bus_event.specs.Event.{images_room}
use Rattle.bus_octets.specs.Layout.{flag, bus_octets, bus_length, is_bus}
use Rattle.bus_octets.proofs.Exact.{exact}
use Rattle.bus_octets.proofs.RoundTrip.{flag_back, round_trip}
use Rattle.host_steps.proofs.Laws.{zeros_long, zeros_are_letters}
use Rattle.report.specs.Ahead.{BookState, ReadyState}
use Rattle.report.proofs.Driving.{written_right, fresh_state_ready}
use Rattle.host_book.specs.Octets.{book_length, book_octets, book_state_in, is_book}
use Rattle.host_book.specs.Laws.{BookStored, Settled, BookRoundTrip, BookExact}
use Rattle.host_book.specs.Going.{fresh_book_state, fresh_book, HostWritesRight, FreshIsBook}

-- ---- What is taken for a book.
flag_octet : (n : ℕ) → n ≤ 1 → flag (eqb n 1) ≡ n
flag_octet zero h = refl
flag_octet (suc zero) h = refl
flag_octet (suc (suc n)) h = absurd (omega arith)

pub record Tested (b : List ℕ) : Type 0 where
  pub long : length b ≡ book_length
  pub bus : is_bus (take bus_length b) ≡ true
  pub begun : get_or b (bus_length + 1) 0 ≤ 1
  pub over : get_or b (bus_length + 2) 0 ≤ 1

pub tested : (b : List ℕ) → is_book b ≡ true → Tested b
unfolding is_book
tested b h =
    let a = both (eqb (length b) book_length) _ h in
    let o = and_both _ (leb (get_or b (bus_length + 2) 0) 1) a.1 in
    let g = and_both (is_bus (take bus_length b)) (leb (get_or b (bus_length + 1) 0) 1) o.0 in
    record { long = eqb-true _ _ a.0; bus = g.0; begun = leb-true _ _ g.1; over = leb-true _ _ o.1 }

-- the three octets behind the bus
last_three : (b : List ℕ) → length b ≡ book_length
    → drop bus_length b ≡ get_or b bus_length 0 ∷ get_or b (bus_length + 1) 0 ∷ get_or b (bus_length + 2) 0 ∷ []
last_three b h =
    drop-cons b bus_length 0 (omega arith)
    ∙ ap (λ (l : List ℕ). get_or b bus_length 0 ∷ l)
    (drop-cons b (bus_length + 1) 0 (omega arith)
    ∙ ap (λ (l : List ℕ). get_or b (bus_length + 1) 0 ∷ l)
    (drop-cons b (bus_length + 2) 0 (omega arith)
    ∙ ap (λ (l : List ℕ). get_or b (bus_length + 2) 0 ∷ l) (drop_of_length-le b {i = book_length} (omega arith))))

pub book_exact : BookExact
unfolding book_octets book_state_in
book_exact b h =
    let t = tested b h in
    let e = exact (take bus_length b) t.bus in
    record {
      stored_is =
          rw (e.stored_is, flag_octet (get_or b (bus_length + 1) 0) t.begun, flag_octet (get_or b (bus_length + 2) 0) t.over, ← last_three b t.long)
          (take-append-drop bus_length b);
      sound = e.ready;
      octets_fit = e.octets_fit;
    }

-- ---- What is stored.
flag_small : (f : Bool) → flag f ≤ 1
flag_small true = omega arith
flag_small false = omega arith

behind : (a b : List ℕ) (m i n : ℕ) → length a ≡ m → i ≡ m + n → get_or (a ++ b) i 0 ≡ get_or b n 0
behind a b m i n e p = let q : i ≡ length a + n = omega arith in rw q (get_or-append-add a b n 0)

module _ (s : BookState) (sound : ReadyState s) (settled : Settled s) (long : length s.kept.octets ≡ longest_body) where
  abbrev bus : List ℕ
  bus = bus_octets s.kept

  abbrev three : List ℕ
  three = s.stage ∷ flag s.begun ∷ flag s.over ∷ []

  bus_long : length bus ≡ bus_length
  bus_long = (exact bus (round_trip s.kept sound long).is_bus_lem).long

  stage_is : get_or (bus ++ three) bus_length 0 ≡ s.stage
  stage_is = behind bus three bus_length bus_length 0 bus_long (omega arith)

  begun_is : get_or (bus ++ three) (bus_length + 1) 0 ≡ flag s.begun
  begun_is = behind bus three bus_length (bus_length + 1) 1 bus_long refl

  over_is : get_or (bus ++ three) (bus_length + 2) 0 ≡ flag s.over
  over_is = behind bus three bus_length (bus_length + 2) 2 bus_long refl

  bus_is : take bus_length (bus ++ three) ≡ bus
  bus_is = take_at bus three bus_length bus_long

  stored_long : length (bus ++ three) ≡ book_length
  stored_long = length-append bus three ∙ rw bus_long

  is_stored : is_book (book_octets s) ≡ true
  unfolding is_book book_octets
  is_stored =
      rw (
        eq-eqb _ _ stored_long,
        bus_is,
        (round_trip s.kept sound long).is_bus_lem,
        begun_is,
        over_is,
        le-leb _ _ (flag_small s.begun),
        le-leb _ _ (flag_small s.over),
      )

  book_state_is : book_state_in (book_octets s) ≡ s
  unfolding book_state_in book_octets
  book_state_is = rw (bus_is, (round_trip s.kept sound long).shown_is, ← settled, stage_is, begun_is, over_is, flag_back s.begun, flag_back s.over)

pub book_round_trip : BookRoundTrip
book_round_trip s sound settled long = record { is_book_lem = is_stored s sound settled long; book_state_is = book_state_is s sound settled long }

-- ---- A fresh book.
fresh_stored : BookStored fresh_book_state
fresh_stored =
    book_round_trip fresh_book_state
    (fresh_state_ready (replicate images_room 0) (replicate longest_body 0) (replicate line_length 0) (zeros_long images_room)
    (let e = zeros_long longest_body in omega arith) zeros_are_letters)
    refl (zeros_long longest_body)

pub fresh_bus_long : length (bus_octets fresh_book_state.kept) ≡ bus_length
fresh_bus_long =
    bus_long fresh_book_state
    (fresh_state_ready (replicate images_room 0) (replicate longest_body 0) (replicate line_length 0) (zeros_long images_room)
    (let e = zeros_long longest_body in omega arith) zeros_are_letters)
    refl (zeros_long longest_body)

pub fresh_is_book : FreshIsBook
unfolding fresh_book
fresh_is_book = fresh_stored.is_book_lem

pub host_writes_right : HostWritesRight
unfolding fresh_book
host_writes_right parts w calls d =
    written_right (replicate images_room 0) (replicate longest_body 0) (replicate line_length 0) parts w calls (zeros_long images_room)
    (let e = zeros_long longest_body in omega arith) zeros_are_letters (rw fresh_stored.book_state_is at d)
