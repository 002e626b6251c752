-- Each turn adds one terminal.
use Rattle.std.proofs.Common.{◌∙◌}
use Rattle.slice_lemmas.proofs.Over.{read_next}
use Rattle.lone_sender.specs.Search.{no_search, searched_one}
use Rattle.lone_sender.proofs.search.find.Goals as goal

pub loop-i-preserved : goal.loop-i-preserved
loop-i-preserved c =
    c.also-search.ensures
    ∙ read_next (searched_one c.args.period) (no_search c.args.most) _ c.loop-i.i _ _ c.loop-i.invariant c.loop-i-test.true
