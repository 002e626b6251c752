-- What `hear_one` makes of the terminal at hand is one turn more of the three lists' definitions; after the last turn they are those of the
-- contract.
use Rattle.std.proofs.Common.{false, ap, arith, length, ◌<◌}
use Rattle.std.proofs.lemmas.Bool.Decides.{nat_tests}
use Rattle.slice_lemmas.proofs.Over.{put_next, put_all, gather_next, gather_all, fill_next, fill_all}
use Rattle.period_hearing.specs.Hears.{terminal_after, notes_after, told_after, listen_reply, listen_terminals, listen_notes}
use Rattle.period_hearing.proofs.listen.listen.Goals as goal

pub loop-i-preserved : goal.loop-i-preserved
loop-i-preserved c =
    let heard = c.hear_one-heard.ensures in
    let on : c.loop-i.i < length c.loop-i.terminals = omega arith in
    let t = terminal_after c.args.line c.args.period in
    let n = notes_after c.args.line c.args.period in
    let s = told_after c.args.line c.args.period in
    let so_far = c.loop-i.invariant in
    record {
      terminals_so_far = put_next t c.loop-i.i _ _ _ _ so_far.terminals_so_far on (ap (λ r. r.terminal) heard);
      notes_so_far =
          fill_next n t c.loop-i.i _ _ _ _ _ _ so_far.notes_so_far so_far.terminals_so_far on (omega arith) (ap (λ r. r.notes) heard);
      told_so_far = rw heard (gather_next s t false _ c.loop-i.i _ _ _ so_far.told_so_far so_far.terminals_so_far on);
    }

pub returns-clause-value : goal.returns-clause-value
unfolding listen_reply
returns-clause-value c =
    let s = told_after c.args.line c.args.period in
    let all = gather_all s false c.loop-i.told c.loop-i.i _ c.loop-i.invariant.told_so_far (omega arith) in
    grind (arith, nat_tests)

pub returns-clause-terminals_after : goal.returns-clause-terminals_after
unfolding listen_terminals
returns-clause-terminals_after c =
    let t = terminal_after c.args.line c.args.period in
    let all = put_all t c.loop-i.i _ _ c.loop-i.invariant.terminals_so_far (omega arith) in
    grind (arith, nat_tests)

pub returns-clause-notes_after : goal.returns-clause-notes_after
unfolding listen_notes
returns-clause-notes_after c =
    let n = notes_after c.args.line c.args.period in
    let all = fill_all n c.loop-i.i _ _ _ c.loop-i.invariant.notes_so_far c.if-notes-terminals.false (omega arith) in
    grind (arith, nat_tests)
