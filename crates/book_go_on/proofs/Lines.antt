-- What `line` gives back at each of its returns: as its contract says it.
use mathlib.Core.Path.{◌≡◌}
use mathlib.Core.Bool.{true, false}
use mathlib.Core.List.{List}
use Prim.Native.Nat.{ℕ, ◌+◌, ◌≤◌, ◌<◌}
use native.Mathlib.Omega.{arith}
use lib.Dec.{ltb, leb}
use lib.ListN.{length}
use borrow.Author.Tests.{ltb-true, ltb-false, leb-true}
use Rattle.test_lemmas.proofs.ByCases.{by_test}
use Rattle.text.specs.declared.field.Ends.{Ends}
use Rattle.book_line.specs.Line.{is_end}
use Rattle.book_line.specs.Value.{value_octets}
use Rattle.book_line.specs.Laying.{value_room}
use Rattle.book_line.proofs.Values.{value_length}
use Rattle.book_reader.specs.Step.{at_lines, after_end, line_at, value_at}
use Rattle.book_reader.specs.Laws.{Entered}
use Rattle.book_reader.specs.declared.step.Step.TheVariants.{Entry}
use Rattle.bus_call_specs.specs.Kept.{found}
use Rattle.note_text.proofs.RoomLaws.{put_length}
use Rattle.period_text.specs.PeriodText.{period_room}
use Rattle.report.specs.Ahead.{ROOM}
use Rattle.report.proofs.AheadLaws.{UnderWay}
use Rattle.book_go_on.specs.Progress.{book_state_of, reached}
use Rattle.book_go_on.specs.RunTo.{RunsTo, Gives}
use Rattle.book_go_on.specs.Steps.{StepsBy}
use Rattle.book_go_on.specs.declared.progress.GoneOn.{GoneOn}
use Rattle.book_go_on.specs.declared.run_to.BusAndRoom.{BusAndRoom}
use Rattle.book_go_on.proofs.Moving.{stops_room, steps_at, line_ran, line_ends, line_gives}

-- the octets of an entry's value are few
pub short_value : {text : List ℕ} {at stage last period unit number : ℕ} {ends : Ends} {size : ℕ} → Entered text at stage last period unit number ends size
    → length (value_octets number (value_at text at (Entry period unit number ends size))) ≤ value_room
short_value {text} {at} {size = size} e = rw (e.value_is, e.event_is) (omega (arith, value_length (line_at text at size) e.form))

module _ (w : GoneOn) (images octets letters value room : List ℕ) (period unit number size : ℕ) (b : w.progress.begun ≡ true)
    (o : w.progress.over ≡ false)
    (u : BusAndRoom) (octets₁ room₁ : List ℕ)
    (r : RunsTo (found w.progress.bus w.progress.terminals images octets letters) period room w.wrote
    (found u.bus u.terminals images octets₁ letters) u.wrote room₁) where
  -- what a return has to say
  abbrev Returns : List ℕ → List ℕ → List ℕ → GoneOn → Type 0
  Returns images' letters' room' x =
      (ends : Ends) → StepsBy (Entry period unit number ends size) value (book_state_of w.progress images octets letters) room w.wrote
      (book_state_of x.progress images' octets₁ letters') x.taken room' x.wrote x.why

  way : UnderWay (book_state_of w.progress images octets letters)
  way = record { begun_is = b; over_is = o }

  pub full_line : leb (u.wrote + period_room) (length room₁) ≡ false → (x : GoneOn) → x ≡ reached w u w.progress.stage 0 ROOM
      → Returns images letters room₁ x
  full_line h x e =
      rw e
      (λ ends text at whole q. steps_at 0
      (stops_room
      (line_ran text whole (book_state_of w.progress images octets letters) at room w.wrote period unit number ends size way q.says
      (found u.bus u.terminals images octets₁ letters) u.wrote room₁ r) h o)
      (omega arith))

  -- there is room, so that the line's period has been reached
  module _ (more : u.bus.periods.0 < period → length room < u.wrote + period_room) (h : leb (u.wrote + period_room) (length room₁) ≡ true) where
    pub has_room : u.wrote + period_room ≤ length room₁
    has_room = leb-true (u.wrote + period_room) (length room₁) h

    pub there : u.bus.periods.0 ≡ period
    there = by_order u.bus.periods.0 period r.up_to (λ l. omega (arith, more l, has_room, put_length r.put))
      where
        by_order : (a c : ℕ) → a ≤ c → (a < c → ⊥) → a ≡ c
        by_order a c l n = by_test (ltb a c) (λ t. absurd (n (ltb-true a c t))) (λ t. omega (arith, ltb-false a c t))

    pub end_line : is_end unit number ≡ true → (x : GoneOn) → x ≡ reached w u after_end size 0 → Returns images letters room₁ x
    end_line t x e =
        rw e
        (λ ends text at whole q. line_ends text whole (book_state_of w.progress images octets letters) at room w.wrote period unit number ends size way
        q.says (found u.bus u.terminals images octets₁ letters) u.wrote room₁ r there t)

    pub given_line : is_end unit number ≡ false
        → (g : BusAndRoom) (images' letters' room₂ : List ℕ)
        → ((kept : List ℕ) → Gives (found u.bus u.terminals images kept letters) unit number value room₁ u.wrote
        (found g.bus g.terminals images' kept letters') g.wrote room₂)
        → (x : GoneOn) → x ≡ reached w g at_lines size 0 → Returns images' letters' room₂ x
    given_line t g images' letters' room₂ gives x e =
        rw e
        (λ ends text at whole q. line_gives text whole (book_state_of w.progress images octets letters) at room w.wrote period unit number ends size way
        q.says (found u.bus u.terminals images octets₁ letters) u.wrote room₁ r there t
        (found g.bus g.terminals images' octets₁ letters') g.wrote room₂ (rw q.value_is (gives octets₁)))
