-- The laws of `specs/Off.antt`.
use mathlib.Core.Path.{◌≡◌, refl, ap, ◌∙◌}
use mathlib.Core.Bool.{Bool, false}
use mathlib.Core.List.{List, [], ◌∷◌, map}
use Prim.Native.Nat.{ℕ, suc, ◌-◌}
use lib.Dec.{eqb}
use Rattle.test_lemmas.proofs.ByCases.{by_test}
use Rattle.frame.specs.Four.{filled_with_ones}
use Rattle.info.specs.Info.{unset}
use Rattle.combining.specs.Combine.{combined}
use Rattle.combining.specs.Sent.{sent_line}
use Rattle.cycle.specs.Cycle.{taken, bits_at, heard_in}
use Rattle.cycle.specs.declared.record.Cycle.{Cycle}
use Rattle.cycle.specs.Periods as cycles
use Rattle.cycle.proofs.Laws.{not_running}
use Rattle.notes_and_cells.specs.Cells.{info_in}
use Rattle.notes_and_cells.specs.Events.{HIT}
use Rattle.table_6_2.specs.Table62 as Table62
use Rattle.bus_rules.specs.Bus.{Bus, Note}
use Rattle.bus_rules.specs.Exchange.{Sender, Opportunity, struck_by, sent_down, sent_up, line_down, onward, begins, exchanged, whole_down, fa_sent, fa_down, sent_from, whole_up}
use Rattle.bus_rules.specs.Order.{no_cycle, unit_by_unit}
use Rattle.bus_rules.specs.CycleNotes.{q_notes, s_notes, cycle_notes}
use Rattle.bus_rules.specs.Period.{cycle_after, heard_by, timed, period_run}
use Rattle.bus_rules.specs.Event.{network_done, hit_given, station_done, event_done}
use Rattle.bus_rules.specs.Calls.{Call, reply, does, after, after_all}
use Rattle.bus_rules.specs.Calls.Call.{event, period}
use Rattle.bus_rules.specs.Off.{down_off, up_off, LinesOff}
use Rattle.bus_rules.specs.Off as off

-- ---- The cycle in the exchange, and after it.
pub cycle_then : (b : Bus) → (exchanged b).cycle ≡ taken b.cycle
unfolding exchanged onward begins
cycle_then b = refl

pub exchanged_off : (b : Bus) → b.cycle.running ≡ false → (exchanged b).cycle ≡ b.cycle
exchanged_off b h = cycle_then b ∙ (not_running b.cycle h).0

pub still_off : (b : Bus) → b.cycle.running ≡ false → (exchanged b).cycle.running ≡ false
still_off b h = ap (λ (c : Cycle). c.running) (exchanged_off b h) ∙ h

heard_off : (fa s g3 : Bool) (f7 : ℕ) (c d : Cycle) → d ≡ taken c → c.running ≡ false → heard_in fa s g3 f7 d ≡ c
unfolding cycles.period
heard_off fa s g3 f7 c d e h = rw e ((not_running c h).5 (record { fa = fa; s = s; g3 = g3; f7 = f7 }))

pub after_off : (b : Bus) → b.cycle.running ≡ false → cycle_after (exchanged b) ≡ b.cycle
unfolding cycle_after
after_off b h = heard_off _ _ _ _ b.cycle (exchanged b).cycle (cycle_then b) h

-- ---- No call starts it.
pub period_off : (b : Bus) → b.cycle.running ≡ false → (period_run b).cycle ≡ b.cycle
unfolding period_run timed heard_by
period_off b h = after_off b h

pub event_off : (unit number : ℕ) (value : List ℕ) (b : Bus) → (event_done unit number value b).cycle ≡ b.cycle
unfolding event_done hit_given network_done station_done
event_off unit number value b =
    by_test (eqb unit 0) (λ t. rw t (by_test (eqb number HIT) (λ u. rw u) (λ u. rw u))) (λ t. rw t)

call_off : (b : Bus) (c : Call) → b.cycle.running ≡ false → (does b c).cycle ≡ b.cycle
unfolding does
call_off b (event unit number value) h = event_off unit number value b
call_off b period h = period_off b h

pub call_stays_off : (b : Bus) (c : Call) → b.cycle.running ≡ false → (after b c).cycle ≡ b.cycle
unfolding after
call_stays_off b c h = by_test (eqb (reply b c) 0) (λ t. rw t (call_off b c h)) (λ t. rw t)

pub cycle_stays_off : off.CycleStaysOff
unfolding after_all
cycle_stays_off b [] h = refl
cycle_stays_off b (c ∷ more) h =
    let e = call_stays_off b c h in
    cycle_stays_off (after b c) more (ap (λ (d : Cycle). d.running) e ∙ h) ∙ e

-- ---- The lines.
bits_off : (c : Cycle) → c.running ≡ false → bits_at c ≡ unset
unfolding bits_at
bits_off c h = rw h

down_off_lem : (m : Opportunity) → m.cycle.running ≡ false → whole_down m ≡ struck_by m.hit (down_off m.network (filled_with_ones m.es))
unfolding whole_down line_down sent_down
down_off_lem m h = rw (bits_off m.cycle h)

pub line_off : (b : Bus) → b.cycle.running ≡ false → whole_down (exchanged b) ≡ line_down unset b.network.state b.hit (exchanged b).es
unfolding whole_down exchanged onward begins
line_off b h = rw (bits_off (exchanged b).cycle (still_off b h))

sent_off : (fas : ℕ → Bool) → ((i : ℕ) → fas i ≡ false) → (i : ℕ) (ss : List Sender) → map sent_line (sent_from fas i ss) ≡ map up_off ss
unfolding sent_from sent_up
sent_off fas h i [] = refl
sent_off fas h i (s ∷ ss) =
    let info = info_in Table62.info_sent s.station.terminal.state in
    rw (sent_off fas h (suc i) ss)
    (by_test (eqb info 3) (λ t. rw (t, h i)) (λ t. rw t (by_test (eqb info 1) (λ u. rw u) (λ u. rw u))))

up_off_lem : (m : Opportunity) → m.cycle.running ≡ false → whole_up m ≡ combined (map up_off m.senders)
unfolding whole_up fa_sent
up_off_lem m h = ap combined (sent_off (fa_sent m) (λ i. (not_running m.cycle h).4 (fa_down m) i) 0 m.senders)

-- ---- The notes.
untold : (now unit : ℕ) (c : Cycle) → c.running ≡ false → cycle_notes now c unit ≡ []
unfolding cycle_notes q_notes s_notes
untold now unit c h =
    let n = not_running c h in
    by_test (eqb unit 0) (λ t. rw (t, n.6)) (λ t. rw (t, n.7 (unit - 1)))

pub told_off : (b : Bus) → b.cycle.running ≡ false → (unit : ℕ) → cycle_notes b.periods (cycle_after (exchanged b)) unit ≡ []
told_off b h unit = rw (after_off b h) (untold b.periods unit b.cycle h)

pub units_off : (cycle : ℕ → List Note) → ((unit : ℕ) → cycle unit ≡ []) → (now unit : ℕ) (codes : List (List ℕ))
    → unit_by_unit now unit cycle codes ≡ unit_by_unit now unit no_cycle codes
unfolding unit_by_unit
units_off cycle h now unit [] = refl
units_off cycle h now unit (cs ∷ more) = rw (h unit, units_off cycle h now (suc unit) more)

pub off_lines : off.OffLines
unfolding exchanged onward begins
off_lines b h =
    record { down = down_off_lem (exchanged b) (still_off b h); up = up_off_lem (exchanged b) (still_off b h); untold = told_off b h }
