-- A turn of the loop leaves what goes on to the same end, with fewer periods left.
use Rattle.std.proofs.Common.{◌≡◌, true, ℕ, ◌+◌, ◌-◌, ◌≤◌, List, sym, ap, ◌∙◌, arith}
use Rattle.terminal.specs.declared.Terminal.{Terminal}
use Rattle.period_hearing.specs.declared.hears.UnitNotes.{UnitNotes}
use Rattle.bus_record.specs.declared.side.RunAnswer.{RunAnswer}
use Rattle.bus_call_specs.specs.Kept.{Kept, kept}
use Rattle.bus_call_specs.specs.Ready.{run_reply, run_goes_on}
use Rattle.bus_call_specs.proofs.RunLoop.{Going, going_first, going_left, going_lengths, going_ends}
use Rattle.idle_periods.specs.Turn.{Turns}
use Rattle.idle_periods.proofs.Turning.{turned_within, turned_on}
use Rattle.bus_calls.specs.declared.turn.Turn.{Turn}
use Rattle.bus_calls.proofs.Replies.{replied}
use Rattle.bus_calls.proofs.run.run.Goals as goal

module _ (images letters : List ℕ) (ended : RunAnswer) (end : Kept) (last : RunAnswer) (left : ℕ)
    (ts : List Terminal) (os : List ℕ) (ns : List UnitNotes)
    (i : Going images letters ended end last left ts os ns) (on : run_goes_on last left ≡ true)
    (t : Turn) (ts' : List Terminal) (os' : List ℕ) (ns' : List UnitNotes)
    (so : Turns left (kept last.bus ts images os letters ns) t.answer t.over (kept t.answer.bus ts' images os' letters ns')) where
  turn_within : 1 + t.over ≤ left
  turn_within = turned_within images letters ended end last left ts os ns i on t.answer t.over ts' os' ns' so

  goes_after : Going images letters ended end t.answer (left - (1 + t.over)) ts' os' ns'
  goes_after = turned_on images letters ended end last left ts os ns i on t.answer t.over ts' os' ns' so

pub loop-last-init : goal.loop-last-init
unfolding run_reply
loop-last-init c =
    rw (c.refused_run-last.ensures, c.reply_to.ensures, c.run_reason-checked.ensures, replied, c.in_range-ready.ensures) (going_first c.args.most c.args.bus
    c.args.terminals.now c.args.images.now c.args.octets.now c.args.letters.now c.args.notes.now)

pub advance-turn-requires : goal.advance-turn-requires
advance-turn-requires c =
    going_lengths _ _ _ _ _ _ _ _ _ c.loop-last.invariant (sym c.goes_on.ensures ∙ c.loop-last-test.true)

pub overflow_sub-left : goal.overflow_sub-left
overflow_sub-left c =
    turn_within _ _ _ _ _ _ _ _ _ c.loop-last.invariant (sym c.goes_on.ensures ∙ c.loop-last-test.true) c.advance-turn.result
    _ _ _ c.advance-turn.ensures

pub overflow_add-left : goal.overflow_add-left
overflow_add-left c =
    let within =
    turn_within _ _ _ _ _ _ _ _ _ c.loop-last.invariant (sym c.goes_on.ensures ∙ c.loop-last-test.true) c.advance-turn.result
    _ _ _ c.advance-turn.ensures in
    omega arith

pub loop-last-smaller : goal.loop-last-smaller
loop-last-smaller c =
    let some = going_left _ _ _ _ _ _ _ _ _ c.loop-last.invariant (sym c.goes_on.ensures ∙ c.loop-last-test.true) in
    omega arith

pub loop-last-preserved : goal.loop-last-preserved
loop-last-preserved c =
    goes_after _ _ _ _ _ _ _ _ _ c.loop-last.invariant (sym c.goes_on.ensures ∙ c.loop-last-test.true) c.advance-turn.result
    _ _ _ c.advance-turn.ensures

pub returns : goal.returns
returns c =
    let e = going_ends _ _ _ _ _ _ _ _ _ c.loop-last.invariant (sym c.goes_on.ensures ∙ c.loop-last-test.false) in
    record {
      value = e.0;
      terminals_after = ap (λ (k : Kept). k.terminals) e.1;
      octets_after = ap (λ (k : Kept). k.octets) e.1;
      notes_after = ap (λ (k : Kept). k.notes) e.1;
    }
