-- Calls: the call that goes on with a book (document 01, "Bench book and report"; "Reasons a call
-- is turned down", 1 and 2).
-- Interface: `GoesOn`. Assumes nothing.
use Rattle.std.specs.Prelude.{Result, Ok, Err, Bool, List, ◌≡◌, ℕ}
use Rattle.refusals.specs.Numbers.{number}
use Rattle.refusals.specs.declared.Refusal.{Refusal}
use Rattle.report.specs.Ahead.{BookState, fresh, ReadyState, Stopped}
use Rattle.book_go_on.specs.Progress.{fresh_progress, book_state_of, reason}
use Rattle.book_go_on.specs.declared.progress.Progress.{Progress}
use Rattle.book_go_on.specs.declared.progress.GoneOn.{GoneOn}

-- What a call replies: 0, or the number of the reason for which it is turned down.
abbrev pub reply_of : {A : Type 0} → Result A Refusal → ℕ
reply_of (Ok value) = 0
reply_of (Err reason) = number reason

pub record GoesOn (p : Progress) (images octets letters text room : List ℕ) (whole : Bool)
    (r : Result GoneOn Refusal) (images' octets' letters' room' : List ℕ) : Type 0 where
  -- 0, or the number of the refusal
  pub replies : reply_of r ≡ reason (book_state_of p images octets letters)
  -- refused: everything lent is as it was
  pub refused : (e : Refusal) → r ≡ Err e
      → (images' ≡ images) × (octets' ≡ octets) × (letters' ≡ letters) × (room' ≡ room)
  -- else it has gone on until it needs text or room, or is finished (crate `report`,
  -- specs/Ahead.antt): every lent octet is in what it left
  pub stops : (w : GoneOn) → r ≡ Ok w
      → Stopped (book_state_of p images octets letters) text room whole
      (book_state_of w.progress images' octets' letters') w.taken w.wrote w.why room'

-- ---- A book from its beginning is in the state that crate `report` has for a fresh one, so that
-- its theorems on drivers (specs/Ahead.antt there) speak of these calls; and no call from a sound
-- state is refused: the fresh one is sound, and each call leaves one that is (proofs/Driving.antt
-- there). Proved in proofs/Going.antt.
abbrev pub FreshBookState : Type 0
FreshBookState = (images octets letters : List ℕ) → book_state_of fresh_progress images octets letters ≡ fresh images octets letters

abbrev pub NeverRefused : Type 0
NeverRefused = (s : BookState) → ReadyState s → reason s ≡ 0
