-- What an event puts into the report: its notes or its refusal, and they have room.
use mathlib.Core.Path.{◌≡◌}
use mathlib.Core.List.{List}
use Prim.Native.Nat.{ℕ, ◌≤◌, ◌<◌}
use native.Mathlib.Omega.{arith}
use lib.Dec.{eqb}
use lib.ListN.{length}
use Rattle.test_lemmas.proofs.ByCases.{by_test}
use Rattle.bus_rules.specs.Calls.Call.{event}
use Rattle.bus_call_specs.specs.Kept.{Kept}
use Rattle.bus_call_specs.specs.Lists.{told, replied, notes_told}
use Rattle.bus_call_specs.proofs.Refused.{listed_octet, replies_listed}
use Rattle.note_text.specs.NoteText.{notes_text}
use Rattle.note_text.specs.Lengths.{numbers}
use Rattle.period_text.specs.PeriodText.{event_noted, period_room}
use Rattle.period_text.proofs.Room.{event_fits}
use Rattle.report.specs.Told.{refused_told, book_told}

module _ (k : Kept) (unit number : ℕ) (value : List ℕ) where
  pub event_told_lem : book_told k (event unit number value)
      ≡ event_noted k.bus.periods.0 unit (told unit number value k).notes (told unit number value k).reply
  unfolding book_told notes_told refused_told replied event_noted
  event_told_lem = by_test (eqb (told unit number value k).reply 0) (λ t. rw t) (λ t. rw t)

  pub event_told_fits : k.bus.periods.0 < numbers → unit < numbers → length (notes_text (book_told k (event unit number value))) ≤ period_room
  unfolding replied
  event_told_fits p u =
      rw event_told_lem
      (event_fits k.bus.periods.0 unit (told unit number value k).notes (told unit number value k).reply p u
      (omega (arith, listed_octet (told unit number value k).reply (replies_listed k (event unit number value)))))
