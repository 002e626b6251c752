-- Each way through the call, by the lemmas of `bus_call_specs`, proofs/Events.antt.
use Rattle.std.proofs.Common.{◌≡◌, ℕ, ◌<◌, List, [], length, get_or, refl}
use mathlib.Core.Path.{sym, ap, ◌∙◌}
use lib.Seq.{set-get_or}
use Rattle.std.specs.Prelude.{Result}
use Rattle.std.proofs.lemmas.List.{get_or_default}
use borrow.Author.Tests.{eq-eqb, ne_eqb}
use Rattle.refusals.specs.Numbers.{number}
use Rattle.refusals.specs.declared.Refusal.{Refusal}
use Rattle.notes_and_cells.specs.Notes.{packed_notes}
use Rattle.timing.specs.declared.counts.Periods.{Periods}
use Rattle.terminal.specs.Terminal.{fresh, unchanged}
use Rattle.terminal.specs.declared.Terminal.{Terminal}
use Rattle.terminal.specs.declared.TerminalStep as code
use Rattle.terminal.specs.Steps.{TerminalStep, as_result}
use Rattle.terminal.proofs.Answered.{given}
use Rattle.bus_event.specs.Event.{told, first_reason, terminal_told, images_after, event_settled}
use Rattle.bus_event.proofs.Returns.{turned_down, passed}
use Rattle.bus_call_specs.proofs.Events.{within, when_refused, at_network, at_terminal_lem}
use Rattle.bus_call_specs.proofs.Refused.{listed_reason, reason_listed, refused_step, terminal_answers}
use Rattle.bus_calls.proofs.event.event.Goals as goal

-- The unit's terminal is there, so it is the same whatever is read past the list's end.
told_at : (event : ℕ) (images : List ℕ) (i : ℕ) (value : List ℕ) (p : Periods) (ts : List Terminal) (d : Terminal)
    (s : Result code.TerminalStep Refusal) → i < length ts → s ≡ as_result (terminal_told event images i value p (get_or ts i d))
    → s ≡ as_result (terminal_told event images i value p (get_or ts i fresh))
told_at event images i value p ts d s l is = rw (get_or_default ts i fresh d l) is

images_at : (event i : ℕ) (value images : List ℕ) (ts : List Terminal) (d : Terminal) (images' : List ℕ) → i < length ts
    → images' ≡ images_after event (get_or ts i d) i value images → images' ≡ images_after event (get_or ts i fresh) i value images
images_at event i value images ts d images' l is = rw (get_or_default ts i fresh d l) is

pub returns-in-Err : goal.returns-in-Err
returns-in-Err c =
    let a = c.args in
    let k : ℕ = first_reason c.in_range-ready.result a.bus (length a.images.now) a.letters.now a.unit a.event a.value.now in
    let d = turned_down k c.first_reason.result c.first_reason.ensures c.in-Err.refusal c.in-Err.is in
    let n = listed_reason k (reason_listed c.in_range-ready.result a.bus (length a.images.now) a.letters.now a.unit a.event a.value.now) d.0 ∙ ap number d.1 in
    let p =
    when_refused a.unit a.event a.value.now a.bus a.terminals.now a.images.now a.letters.now
    _ c.in_range-ready.ensures k refl d.0 _ (c.refused.ensures ∙ ap (λ (x : ℕ). told a.bus (packed_notes []) x) (sym n)) in
    record { value = p.0; terminals_after = p.1; images_after = p.2; letters_after = p.3 }

pub returns-then-unit-eq0 : goal.returns-then-unit-eq0
returns-then-unit-eq0 c =
    let a = c.args in
    let k : ℕ = first_reason c.in_range-ready.result a.bus (length a.images.now) a.letters.now a.unit a.event a.value.now in
    let z = passed k c.first_reason.result c.first_reason.ensures _ c.in_default.is in
    let n = c.network_event.ensures in
    let p =
    at_network a.unit a.event a.value.now a.bus a.terminals.now a.images.now a.letters.now
    _ c.in_range-ready.ensures k refl z (eq-eqb _ 0 c.if-unit-eq0.true) _ _ (n.value, n.letters_after) in
    record { value = p.0; terminals_after = p.1; images_after = p.2; letters_after = p.3 }

pub slice_copy_out-t : goal.slice_copy_out-t
slice_copy_out-t c =
    let a = c.args in
    let k : ℕ = first_reason c.in_range-ready.result a.bus (length a.images.now) a.letters.now a.unit a.event a.value.now in
    within a.unit a.event a.value.now a.bus a.terminals.now a.images.now a.letters.now
    _ c.in_range-ready.ensures k refl _ c.index_of-i.ensures (passed k c.first_reason.result c.first_reason.ensures _ c.in_default.is)

pub bounds-terminals-i : goal.bounds-terminals-i
bounds-terminals-i c =
    let a = c.args in
    let k : ℕ = first_reason c.in_range-ready.result a.bus (length a.images.now) a.letters.now a.unit a.event a.value.now in
    within a.unit a.event a.value.now a.bus a.terminals.now a.images.now a.letters.now
    _ c.in_range-ready.ensures k refl _ c.index_of-i.ensures (passed k c.first_reason.result c.first_reason.ensures _ c.in_default.is)

pub returns-in-Ok : goal.returns-in-Ok
returns-in-Ok c =
    let a = c.args in
    let k : ℕ = first_reason c.in_range-ready.result a.bus (length a.images.now) a.letters.now a.unit a.event a.value.now in
    let z = passed k c.first_reason.result c.first_reason.ensures _ c.in_default.is in
    let on = within a.unit a.event a.value.now a.bus a.terminals.now a.images.now a.letters.now _ c.in_range-ready.ensures k refl _ c.index_of-i.ensures z in
    let e = c.terminal_event.ensures in
    let answer = told_at _ _ _ _ _ _ _ _ on e.value in
    let step : TerminalStep = record { terminal = c.in-Ok.step.terminal; notes = c.in-Ok.step.notes; reply = 0 } in
    let p =
    at_terminal_lem a.unit a.event a.value.now a.bus a.terminals.now a.images.now a.letters.now
    _ c.in_range-ready.ensures k refl z (ne_eqb _ 0 c.if-unit-eq0.false) _ c.index_of-i.ensures step _
    (sym (given _ c.in-Ok.step (sym answer ∙ c.in-Ok.is)), images_at _ _ _ _ _ _ _ on e.images_after) _ c.event_settled.ensures in
    record { value = p.0; terminals_after = p.1; images_after = p.2; letters_after = p.3 }

-- A terminal that refuses stays as it was.
pub returns-in-Err-terminal_event : goal.returns-in-Err-terminal_event
unfolding event_settled
returns-in-Err-terminal_event c =
    let a = c.args in
    let k : ℕ = first_reason c.in_range-ready.result a.bus (length a.images.now) a.letters.now a.unit a.event a.value.now in
    let z = passed k c.first_reason.result c.first_reason.ensures _ c.in_default.is in
    let on = within a.unit a.event a.value.now a.bus a.terminals.now a.images.now a.letters.now _ c.in_range-ready.ensures k refl _ c.index_of-i.ensures z in
    let e = c.terminal_event.ensures in
    let answer = told_at _ _ _ _ _ _ _ _ on e.value in
    let t : Terminal = get_or a.terminals.now c.index_of-i.result fresh in
    let r = c.in-Err-terminal_event.refusal in
    let kept = refused_step t _ (terminal_answers a.event a.images.now c.index_of-i.result a.value.now a.bus.periods t) r (sym answer ∙ c.in-Err-terminal_event.is) in
    let p =
    at_terminal_lem a.unit a.event a.value.now a.bus a.terminals.now a.images.now a.letters.now
    _ c.in_range-ready.ensures k refl z (ne_eqb _ 0 c.if-unit-eq0.false) _ c.index_of-i.ensures (unchanged (number r) t) _
    (kept, images_at _ _ _ _ _ _ _ on e.images_after) _ (rw c.number.ensures at c.event_settled-in-Err-terminal_event.ensures) in
    record {
      value = p.0;
      terminals_after = sym (set-get_or a.terminals.now c.index_of-i.result fresh) ∙ p.1;
      images_after = p.2;
      letters_after = p.3;
    }
