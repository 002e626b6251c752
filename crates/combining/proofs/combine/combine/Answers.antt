-- `combining::combine::combine` meets its contract.
use mathlib.Core.Path.{refl, sym, ◌∙◌}
use borrow.Author.Tests.{eq-eqb}
use Rattle.test_lemmas.proofs.ByCases.{and_both_true}
use Rattle.symbols.specs.Symbols.{minus}
use Rattle.symbols.proofs.Lines.{fits_length}
use Rattle.combining.specs.Calls.{lines_length}
use Rattle.combining.proofs.Gather.{combine_done, combines}
use Rattle.combining.proofs.combine.combine.Goals as goal

pub senders-sends-requires : goal.senders-sends-requires
senders-sends-requires c = fits_length lines_length minus _ (sym c.fits.ensures ∙ c.if-not-fits.false)

pub gather-taken-requires-clause-lines_len : goal.gather-taken-requires-clause-lines_len
gather-taken-requires-clause-lines_len c = fits_length lines_length minus _ (sym c.fits.ensures ∙ c.if-not-fits.false)

pub returns-clause-octets : goal.returns-clause-octets
returns-clause-octets c =
    let args = c.args in
    let good = sym c.fits.ensures ∙ c.if-not-fits.false in
    (combine_done args.lines.now args.out.now _ _ (and_both_true _ _ (eq-eqb _ _ c.if-out-ne-LINE_LENGTH.false) good) c.gather-taken.ensures.taken
    (combines args.lines.now _ _ _ good refl c.gather-taken.ensures.octets (c.copy_from_slice.ensures.after ∙ c.resolve.ensures))).1
