-- The calls one after another are the period.
use Rattle.std.proofs.Common.{◌≡◌, ℕ, Bool, List, length, refl, sym, ◌∙◌}
use borrow.Author.Tests.{eq-eqb}
use Rattle.timing.specs.declared.counts.Periods.{Periods}
use Rattle.heard_line.specs.declared.heard.Downward.{Downward}
use Rattle.terminal.specs.declared.Terminal.{Terminal}
use Rattle.exchange.specs.Opportunities.{tally_after_four, terminals_after_four}
use Rattle.exchange.specs.declared.tally.Tally.{Tally}
use Rattle.period_hearing.specs.Hears.{listen_reply, listen_terminals, listen_notes}
use Rattle.period_hearing.specs.declared.hears.UnitNotes.{UnitNotes}
use Rattle.bus_record.specs.Echo.{first_tally, heard_down, step_tally, step_exchanged, step_line}
use Rattle.bus_record.specs.NetworkSide.{answer_after, octets_after}
use Rattle.bus_record.specs.declared.record.BusRecord.{BusRecord}
use Rattle.bus_record.specs.declared.side.RunAnswer.{RunAnswer}
use Rattle.bus_call_specs.specs.Step.{step_terminals, step_notes, step_told, step_answer, step_octets}
use Rattle.bus_calls.proofs.step.step.Goals as goal

module _ (bus : BusRecord) (ys : List Terminal) (es os ls : List ℕ) where
  abbrev Promised : RunAnswer → List Terminal → List ℕ → List UnitNotes → Type 0
  Promised r ts octs ns =
      (r ≡ step_answer bus ys es os ls)
      × (ts ≡ step_terminals bus ys es ls)
      × (octs ≡ step_octets bus ys es os ls)
      × (ns ≡ step_notes bus ys es ls)

  abbrev Exchanged : Tally → Tally → List Terminal → Type 0
  Exchanged m₀ m ts = (m ≡ tally_after_four es m₀ ys) × (ts ≡ terminals_after_four es m₀ ys)

  abbrev Listened : Periods → List UnitNotes → List Terminal → Downward → Bool → List Terminal → List UnitNotes → Type 0
  Listened p zs ts line told us ns =
      (told ≡ listen_reply line p zs ts) × (us ≡ listen_terminals line p zs ts) × (ns ≡ listen_notes line p zs ts)

  abbrev Sided : Tally → Bool → RunAnswer → List ℕ → Type 0
  Sided m told r octs = (r ≡ answer_after bus m os told) × (octs ≡ octets_after bus m os)

  promised : (m₀ m : Tally) (ts us : List Terminal) (line : Downward) (p : Periods) (told : Bool) (ns : List UnitNotes) (r : RunAnswer)
      (octs : List ℕ) (zs : List UnitNotes) → length zs ≡ length ts → m₀ ≡ first_tally bus ls → Exchanged m₀ m ts
      → line ≡ heard_down bus m.ds ls → p ≡ bus.periods → Listened p zs ts line told us ns → Sided m told r octs → Promised r us octs ns
  unfolding step_tally step_exchanged step_line step_terminals step_notes step_told step_answer step_octets
      listen_reply listen_terminals listen_notes
  promised m₀ m ts us line p told ns r octs zs even a b d q e f =
      let e' = rw (eq-eqb (length zs) (length ts) even) at e in
      (cc, cc, cc, cc)

pub returns : goal.returns
returns c =
    let x = c.exchange-tally in
    let h = c.listen-told in
    let n = c.network_side in
    let p =
    promised c.args.bus c.args.terminals.now c.args.images.now c.args.octets.now c.args.letters.now _ _ _ _ _ _ _ _ _ _ c.args.notes.now
    (c.requires ∙ sym x.auto.terminals) c.first_tally-first.ensures (x.ensures.value, x.ensures.terminals_after) c.heard_down-line.ensures
    refl (h.ensures.value, h.ensures.terminals_after, h.ensures.notes_after) (n.ensures.value, n.ensures.octets_after) in
    record { value = p.0; terminals_after = p.1; octets_after = p.2; notes_after = p.3 }
