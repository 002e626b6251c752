-- The notes of an event and of a run, as the code puts them.
use mathlib.Core.Bool.{true}
use mathlib.Core.List.{List, []}
use mathlib.Core.Path.{◌≡◌, refl, ap, ◌∙◌}
use Prim.Native.Nat.{ℕ, ◌-◌}
use lib.ListN.{length}
use Rattle.bus_rules.specs.Bus.{notes_of}
use Rattle.bus_rules.specs.Order.{unit_by_unit}
use Rattle.bus_rules.specs.Calls.Call.{event}
use Rattle.notes_and_cells.specs.Notes.{noted}
use Rattle.hdlc.specs.Bits.{bit_of}
use Rattle.bus_record.specs.NetworkSide.{refused_run}
use Rattle.bus_call_specs.specs.Kept.{Kept}
use Rattle.bus_call_specs.specs.Run.{run_answer, answer_on, kept_on, not_yet, kept_after}
use Rattle.bus_call_specs.specs.Lists.{told, replied, notes_told, period_told, reader_told, terminals_heard, run_told}
use Rattle.bus_call_specs.proofs.InOrder.{order_reply}
use Rattle.bus_call_specs.proofs.RunLeft.{run_left}
use Rattle.bus_octets.specs.Layout.{octets_in, bus_octets, shown, bus_length, is_bus}
use Rattle.bus_octets.specs.Laws.{StoredAndShown}
use Rattle.bus_octets.proofs.Exact.{exact}
use Rattle.bus_octets.proofs.RoundTrip.{round_trip}
use Rattle.host_steps.proofs.Stepped.{order}

-- ---- An event that is not refused.
pub event_notes_lem : (k : Kept) (unit number : ℕ) (value : List ℕ) → (told unit number value k).reply ≡ 0
    → notes_of k.bus.periods.0 unit (noted (told unit number value k).notes) ≡ notes_told k (event unit number value)
unfolding notes_told replied
event_notes_lem k unit number value z = rw z

-- ---- A run that is not refused. The body of `heard` stands in the octets that it left.
module _ (s : List ℕ) (h : is_bus s ≡ true) (most : ℕ) where
  abbrev ended : Kept
  ended = kept_after most (shown s)

  pub left_fits : StoredAndShown ended
  unfolding shown
  left_fits =
      let l = run_left most (shown s) (order s h) in
      round_trip ended (order_reply 0 ended l.order) (l.octets_long ∙ (exact s h).octets_fit)

  pub left_long : length (bus_octets ended) ≡ bus_length
  left_long = (exact (bus_octets ended) left_fits.is_bus_lem).long

  pub octets_left : octets_in (bus_octets ended) ≡ ended.octets
  unfolding shown
  octets_left = ap (λ (k : Kept). k.octets) left_fits.shown_is

  pub run_notes_lem : (run_answer most (shown s)).reply ≡ 0
      → period_told ((run_answer most (shown s)).bus.periods.0 - 1) (run_answer most (shown s)) ended.notes (octets_in (bus_octets ended)) ≡ run_told most (shown s)
  unfolding run_told
  run_notes_lem z = rw (z, octets_left)

-- ---- A run of no periods.
module _ (s : List ℕ) (h : is_bus s ≡ true) where
  pub none_refused : (run_answer 0 (shown s)).reply ≡ 0
  unfolding run_answer answer_on not_yet refused_run
  none_refused = (exact s h).ready

  pub none_told : run_told 0 (shown s) ≡ []
  unfolding run_told run_answer answer_on not_yet refused_run kept_after kept_on period_told reader_told unit_by_unit terminals_heard notes_of noted bit_of shown
  none_told = rw (exact s h).ready refl
