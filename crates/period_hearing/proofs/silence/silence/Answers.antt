-- One value in every place is what the definition makes of each.
use Rattle.std.proofs.Common.{rules, sym, ◌∙◌}
use Rattle.slice_lemmas.proofs.Over.{all_one}
use Rattle.period_hearing.specs.Hears.{no_notes}
use Rattle.period_hearing.proofs.silence.silence.Goals as goal

pub returns : goal.returns
returns c = c.fill.ensures.after (λ y h. search rules) ∙ sym (all_one no_notes 0 c.args.notes.now)
