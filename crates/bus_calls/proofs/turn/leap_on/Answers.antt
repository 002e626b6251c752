-- A leap and a period run on: the law `leap_turns`.
use Rattle.bus_call_specs.specs.Kept.{kept}
use Rattle.idle_periods.proofs.Turning.{leap_turns}
use Rattle.bus_calls.proofs.turn.leap_on.Goals as goal

pub returns : goal.returns
returns c =
    let stepped = c.step-answer.ensures in
    let k = kept c.args.bus c.args.terminals.now c.args.images.now c.args.octets.now c.args.letters.now c.args.notes.now in
    rw (
      stepped.value,
      stepped.terminals_after,
      stepped.octets_after,
      stepped.notes_after,
      c.leapt.ensures,
      c.reach-over.ensures,
    ) (leap_turns c.args.left k)
