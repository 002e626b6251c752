-- Turns of a run's loop: `specs/Turn.antt`.
use mathlib.Core.Path.{◌≡◌, refl, sym, ◌∙◌}
use mathlib.Core.Bool.{true}
use mathlib.Core.List.{List}
use Prim.Native.Nat.{ℕ, ◌+◌, ◌-◌, ◌≤◌, ◌<◌}
use native.Mathlib.Omega.{arith}
use borrow.Author.Tests.{lt-ltb, ltb-true}
use Rattle.terminal.specs.declared.Terminal.{Terminal}
use Rattle.period_hearing.specs.declared.hears.UnitNotes.{UnitNotes}
use Rattle.bus_record.specs.NetworkSide.{answer_with, answer_after, refused_run}
use Rattle.bus_record.specs.declared.record.BusRecord.{BusRecord}
use Rattle.bus_record.specs.declared.side.RunAnswer.{RunAnswer}
use Rattle.bus_call_specs.specs.Kept.{Kept, kept}
use Rattle.bus_call_specs.specs.Period.{period_answer, kept_run}
use Rattle.bus_call_specs.specs.Ready.{run_reply, run_goes_on}
use Rattle.bus_call_specs.specs.Run.{answer_on, kept_on}
use Rattle.bus_call_specs.specs.Step.{step_answer, step_terminals, step_octets, step_notes}
use Rattle.bus_call_specs.proofs.InOrder.{InOrder, in_order, order_reply, one_left}
use Rattle.bus_call_specs.proofs.RunLoop.{ran_goes, kept_goes, goes_reply, Going}
use Rattle.bus_call_specs.proofs.RunSingle.{goes_facts}
use Rattle.idle_periods.specs.Still.{reach, leapt}
use Rattle.idle_periods.specs.Turn.{SameEnd, Turns}
use Rattle.idle_periods.proofs.Leaping.{turn_less, turn_on}

-- ---- A run that goes on by turns.
module _ (images letters : List ℕ) (ended : RunAnswer) (end : Kept) (last : RunAnswer) (left : ℕ) (ts : List Terminal) (os : List ℕ) (ns : List UnitNotes)
    (i : Going images letters ended end last left ts os ns) (g : run_goes_on last left ≡ true) where
  abbrev here : Kept
  here = kept last.bus ts images os letters ns

  order_here : InOrder here
  order_here = i.order (goes_reply last left g)

  reply_here : run_reply 1 here ≡ 0
  reply_here = order_reply 1 here order_here ∙ rw (goes_facts last left g).1

  some_left : 0 < left
  some_left = ltb-true 0 left (goes_facts last left g).0

  module _ (r : RunAnswer) (over : ℕ) (ts' : List Terminal) (os' : List ℕ) (ns' : List UnitNotes) (t : Turns left here r over (kept r.bus ts' images os' letters ns')) where
    pub turned_within : 1 + over ≤ left
    turned_within = (t some_left reply_here).within

    pub turned_on : Going images letters ended end r (left - (1 + over)) ts' os' ns'
    turned_on =
        let o = t some_left reply_here in
        record {
          order = λ _. in_order 0 (kept r.bus ts' images os' letters ns') o.ready;
          ran_to = sym o.answer_on_lem ∙ sym (ran_goes left last here g) ∙ i.ran_to;
          kept_to = sym o.kept_on_lem ∙ sym (kept_goes left last here g) ∙ i.kept_to;
        }

-- ---- A loop whose turns are shown by it.
module _ (left : ℕ) (k : Kept) (some : 0 < left) (h : run_reply 1 k ≡ 0) where
  order_first : InOrder k
  order_first = in_order 1 k h

  -- nothing run yet, and a period can be run
  abbrev first : RunAnswer
  first = refused_run 0 k.bus

  goes_first : run_goes_on first left ≡ true
  unfolding run_goes_on refused_run
  goes_first = rw (lt-ltb 0 left some, one_left 1 k (omega arith) h)

  pub from_first : Going k.images k.letters (answer_on (left - 1) (period_answer k) (kept_run k)) (kept_on (left - 1) (period_answer k) (kept_run k)) first left k.terminals k.octets k.notes
  unfolding refused_run
  from_first = record { order = λ _. order_first; ran_to = ran_goes left first k goes_first; kept_to = kept_goes left first k goes_first }

  pub shown_turn : (r : RunAnswer) (over : ℕ) (ts' : List Terminal) (os' : List ℕ) (ns' : List UnitNotes) → r.reply ≡ 0 → 1 + over ≤ left
      → Going k.images k.letters (answer_on (left - 1) (period_answer k) (kept_run k)) (kept_on (left - 1) (period_answer k) (kept_run k)) r (left - (1 + over)) ts' os' ns'
      → SameEnd left k r over (kept r.bus ts' k.images os' k.letters ns')
  shown_turn r over ts' os' ns' z l i =
      record { within = l; ready = order_reply 0 (kept r.bus ts' k.images os' k.letters ns') (i.order z); answer_on_lem = sym i.ran_to; kept_on_lem = sym i.kept_to }

-- ---- A leap, and the period after it.
step_reply : (b : BusRecord) (ts : List Terminal) (images os letters : List ℕ) → (step_answer b ts images os letters).reply ≡ 0
unfolding step_answer answer_after answer_with
step_reply b ts images os letters = refl

pub leap_turns : (left : ℕ) (k : Kept) →
    let far = reach k.bus k.terminals left in
    let b = leapt far k.bus in
    let r = step_answer b k.terminals k.images k.octets k.letters in
    Turns left k r far
    (kept r.bus (step_terminals b k.terminals k.images k.letters) k.images (step_octets b k.terminals k.images k.octets k.letters) k.letters (step_notes b k.terminals k.images k.letters))
unfolding refused_run
leap_turns left k some h =
    let i = from_first left k some h in
    let g = goes_first left k some h in
    let l = turn_less k.images k.letters (answer_on (left - 1) (period_answer k) (kept_run k)) (kept_on (left - 1) (period_answer k) (kept_run k)) k.terminals k.octets (refused_run 0 k.bus) left k.notes i g in
    let o = turn_on k.images k.letters (answer_on (left - 1) (period_answer k) (kept_run k)) (kept_on (left - 1) (period_answer k) (kept_run k)) k.terminals k.octets (refused_run 0 k.bus) left k.notes i g in
    shown_turn left k some h _ _ _ _ _ (step_reply (leapt (reach k.bus k.terminals left) k.bus) k.terminals k.images k.octets k.letters) l o
