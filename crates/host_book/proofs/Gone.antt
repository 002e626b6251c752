-- What going on leaves of a book that is lent as octets.
use mathlib.Core.Bool.{Bool, true}
use mathlib.Core.List.{List, [], ◌∷◌, ◌++◌, append_assoc, append-nil}
use mathlib.Core.Path.{◌≡◌, refl, sym, ap, ◌∙◌}
use Prim.Native.Nat.{ℕ, zero, suc, ◌+◌, ◌≤◌}
use native.Mathlib.Nat.{suc-add}
use native.Mathlib.Omega.{arith}
use lib.ListN.{length, take, drop, length-drop, length-append, take-append-drop, drop_of_length-le}
use lib.Seq.{drop_at, drop-drop, length-take-le}
use borrow.Author.Tests.{eq-eqb}
use Rattle.symbols.specs.Symbols.{line_length}
use Rattle.symbols.proofs.Lines.{fits_length}
use Rattle.combining.specs.Hit.{none_letter}
use Rattle.hdlc.specs.Image.{longest_body}
use Rattle.bus_rules.specs.Calls.{Call}
use Rattle.bus_event.specs.Event.{images_room}
use Rattle.bus_call_specs.specs.Kept.{Kept, settled}
use Rattle.bus_call_specs.proofs.InOrder.{InOrder, in_order, order_reply}
use Rattle.note_text.specs.Room.{laid}
use Rattle.report.specs.Told.{done, done_all}
use Rattle.report.specs.Ahead.{BookState, ReadyState, Stopped}
use Rattle.report.proofs.Order.{order_done}
use Rattle.report.proofs.Driving.{state_stays_ready}
use Rattle.book_go_on.specs.Progress.{book_state_of, reason}
use Rattle.std.specs.Prelude.{Result, Ok, IsOk}
use Rattle.refusals.specs.declared.Refusal.{Refusal}
use Rattle.book_go_on.specs.GoOn.{GoesOn}
use Rattle.book_go_on.proofs.Going.{gone_on_call}
use Rattle.book_go_on.specs.declared.progress.Progress.{Progress}
use Rattle.book_go_on.specs.declared.progress.GoneOn.{GoneOn}
use Rattle.bus_octets.specs.Layout.{record_octets, terminals_octets, head_octets, bus_octets, record_in, terminals_in, letters_read, octets_of, shown, images_at, bus_length}
use Rattle.bus_octets.proofs.Exact.{exact}
use Rattle.bus_octets.proofs.RoundTrip.{record_back, terminals_back, round_trip}
use Rattle.bus_octets.proofs.Lengths.{length_record, length_head, laid_front}
use Rattle.host_steps.proofs.Laws.{octets_called}
use Rattle.host_book.specs.Octets.{book_length, book_octets, book_state_in, progress_in, progress_laid, is_book}
use Rattle.host_book.specs.Going.{Goes}
use Rattle.host_book.proofs.Laws.{tested, book_round_trip}

-- ---- Room of which a part is laid over.
pub laid_behind : (a b text : List ℕ) (n : ℕ) → length a ≡ n → length b ≡ length text → laid (a ++ b) n text ≡ a ++ text
unfolding laid
laid_behind [] b text n e h =
    let z : n ≡ 0 = sym e in
    rw z (laid_front text b (omega arith) ∙ (ap (λ (l : List ℕ). text ++ l) (drop_of_length-le b {i = length text} (omega arith)) ∙ append-nil text))
laid_behind (x ∷ a) b text zero e h = absurd (omega arith)
laid_behind (x ∷ a) b text (suc n) e h = ap (λ (l : List ℕ). x ∷ l) (laid_behind a b text n (omega arith) h)

drop_take : (m n : ℕ) (l : List ℕ) → drop m (take (m + n) l) ≡ take n (drop m l)
drop_take zero n l = let e : zero + n ≡ n = omega arith in rw e
drop_take (suc m) zero [] = rw (suc-add m zero) refl
drop_take (suc m) (suc n) [] = rw (suc-add m (suc n)) refl
drop_take (suc m) n (x ∷ l) = rw (suc-add m n) (drop_take m n l)

-- ---- As many octets for the reader after every list of calls.
octets_done : (k : Kept) (calls : List Call) → InOrder k → length (done_all k calls).octets ≡ length k.octets
unfolding done_all done settled
octets_done k [] o = refl
octets_done k (c ∷ more) o = octets_done (done k c) more (order_done k c o) ∙ octets_called k c o

-- ---- A book, taken apart.
module _ (b : List ℕ) (h : is_book b ≡ true) where
  abbrev s : List ℕ
  s = take bus_length b

  abbrev k : Kept
  k = shown s

  pub long : length b ≡ book_length
  long = (tested b h).long

  bus_long : length s ≡ bus_length
  bus_long = (exact s (tested b h).bus).long

  ready : ReadyState (book_state_in b)
  unfolding book_state_in
  ready = (exact s (tested b h).bus).ready

  order : InOrder k
  order = in_order 0 k (exact s (tested b h).bus).ready

  abbrev rest : List ℕ
  rest = (k.letters ++ (k.octets ++ k.images)) ++ drop bus_length b

  book_is : b ≡ record_octets k.bus ++ (terminals_octets k.terminals ++ rest)
  unfolding bus_octets
  book_is =
      sym (take-append-drop bus_length b)
      ∙ (ap (λ (l : List ℕ). l ++ drop bus_length b) (sym (exact s (tested b h).bus).stored_is) ∙ simp append_assoc)

  record_is : record_in b ≡ k.bus
  record_is = ap record_in book_is ∙ record_back k order _

  terminals_are : terminals_in b ≡ k.terminals
  unfolding terminals_in
  terminals_are =
      ap terminals_in book_is
      ∙ (let e = terminals_back k.terminals order.terminals_fit (record_octets k.bus) rest in rw (order.eight, length_record k.bus) at e)

  letters_are : letters_read s ≡ k.letters
  unfolding letters_read shown
  letters_are = rw (eq-eqb _ _ bus_long)

  octets_are : octets_of s ≡ k.octets
  unfolding octets_of shown
  octets_are = rw (eq-eqb _ _ bus_long)

  images_are : take images_room (drop images_at b) ≡ k.images
  unfolding shown
  images_are = sym (drop_take images_at images_room b)

  -- ---- What is laid over it.
  module _ (p : Progress) (images letters octets : List ℕ) where
    abbrev stand : BookState
    stand = book_state_of p images octets letters

    abbrev room : List ℕ
    room = take images_at b ++ (images ++ drop images_room (drop images_at b))

    pub laid_is : InOrder stand.kept → length octets ≡ longest_body → progress_laid p letters octets room ≡ book_octets stand
    unfolding progress_laid book_octets bus_octets head_octets
    laid_is o octets_long =
        let text : List ℕ = head_octets p.bus p.terminals ++ (letters ++ octets) in
        let letters_long : length letters ≡ line_length = fits_length line_length none_letter letters o.letters_fit in
        let text-long : length text ≡ images_at =
        length-append (head_octets p.bus p.terminals) (letters ++ octets)
        ∙ rw (length_head p.bus p.terminals o.eight, length-append letters octets, letters_long, octets_long) in
        let front : length (take images_at b) ≡ images_at = length-take-le images_at b (omega (arith, long)) in
        let room_long : images_at ≤ length room = omega (arith, length-append (take images_at b) (images ++ drop images_room (drop images_at b)), front) in
        let behind : drop images_at room ≡ images ++ drop bus_length b =
        drop_at (take images_at b) _ images_at front ∙ ap (λ (l : List ℕ). images ++ l) (drop-drop images_room images_at b) in
        let over : laid room 0 text ≡ bus_octets stand.kept ++ drop bus_length b =
        laid_front text room (rw text-long room_long) ∙ rw (text-long, behind) (simp append_assoc) in
        let stored = round_trip stand.kept (order_reply 0 stand.kept o) octets_long in
        let bus-long' : length (bus_octets stand.kept) ≡ bus_length = (exact (bus_octets stand.kept) stored.is_bus_lem).long in
        rw over (laid_behind (bus_octets stand.kept) (drop bus_length b) _ bus_length bus-long' (rw (length-drop bus_length b, long)))

  -- ---- All of it.
  -- it is not refused
  pub taken_on : (text report : List ℕ) (whole : Bool) (said : Result GoneOn Refusal) (progress : Progress) (images letters octets images' letters' octets' report' : List ℕ)
      → progress ≡ progress_in b → images ≡ take images_room (drop images_at b) → letters ≡ letters_read s → octets ≡ octets_of s
      → GoesOn progress images octets letters text report whole said images' octets' letters' report' → IsOk said
  unfolding book_state_in progress_in shown reason
  taken_on text report whole said progress images letters octets images' letters' octets' report' pi ii li oi g =
      let e : book_state_of progress images octets letters ≡ book_state_in b = rw (pi, ii, images_are, li, letters_are, oi, octets_are, record_is, terminals_are) in
      let k = gone_on_call said (g.replies ∙ (ap reason e ∙ ready)) in rw k.1

  pub gone : (text report : List ℕ) (whole : Bool) (said : Result GoneOn Refusal) (w : GoneOn) (progress : Progress) (images letters octets images' letters' octets' report' b' : List ℕ)
      → progress ≡ progress_in b → images ≡ take images_room (drop images_at b) → letters ≡ letters_read s → octets ≡ octets_of s
      → GoesOn progress images octets letters text report whole said images' octets' letters' report' → said ≡ Ok w
      → b' ≡ progress_laid w.progress letters' octets' (take images_at b ++ (images' ++ drop images_room (drop images_at b)))
      → Goes b text report whole w b' report'
  unfolding book_state_in progress_in shown reason
  gone text report whole said w progress images letters octets images' letters' octets' report' b' pi ii li oi g is bi =
      let e : book_state_of progress images octets letters ≡ book_state_in b = rw (pi, ii, images_are, li, letters_are, oi, octets_are, record_is, terminals_are) in
      let left : BookState = book_state_of w.progress images' octets' letters' in
      let stop : Stopped (book_state_in b) text report whole left w.taken w.wrote w.why report' = rw e at (g.stops w is) in
      let sound : ReadyState left = state_stays_ready (book_state_in b) left text report report' whole w.taken w.wrote w.why stop ready in
      let octets_long : length octets' ≡ longest_body =
      ap (λ (x : Kept). length x.octets) stop.went.left ∙ (octets_done k stop.went.made order ∙ (exact s (tested b h).bus).octets_fit) in
      let b-is : b' ≡ book_octets left = bi ∙ laid_is w.progress images' letters' octets' (in_order 0 left.kept sound) octets_long in
      let stored = book_round_trip left sound refl octets_long in
      record { stops = rw (b-is, stored.book_state_is) stop; left = rw b-is stored.is_book_lem }
