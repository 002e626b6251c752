-- `open_as` meets its contract: the table is the codes that leave something open (proofs/NoteTable), and none of the codes passed is the one looked
-- for.
use mathlib.Core.Path.{sym, ◌∙◌}
use native.Mathlib.Omega.{arith}
use Prim.Native.Nat.{ℕ}
use lib.ListN.{get_or-map}
use Rattle.notes_and_cells.specs.Names.{printed}
use Rattle.text.proofs.Lookup.{looking_next, looking_found, looking_end}
use Rattle.note_text.specs.declared.table.OpenValue.{OpenValue}
use Rattle.note_text.specs.declared.table.OpenValue.TheVariants.{Nothing}
use Rattle.note_text.proofs.NoteTable.{open_codes, open_right}
use Rattle.note_text.proofs.table.open_as.Goals as goal

pub returns-then-open-code : goal.returns-then-open-code
unfolding printed
returns-then-open-code c =
    let k = c.loop-open.open-index in
    let first = get_or-map (λ (p : ℕ × OpenValue). p.0) open_codes k (0, Nothing) in
    let second = get_or-map (λ (p : ℕ × OpenValue). p.1) open_codes k (0, Nothing) in
    sym second ∙ looking_found c.loop-open.invariant Nothing (omega arith) (first ∙ c.if-open-code.true) ∙ open_right _ c.ranges.code.fits

pub loop-open-preserved : goal.loop-open-preserved
unfolding printed
loop-open-preserved c =
    let first = get_or-map (λ (p : ℕ × OpenValue). p.0) open_codes c.loop-open.open-index (0, Nothing) in
    looking_next c.loop-open.invariant (omega arith) (λ e. c.if-open-code.false (sym first ∙ e))

pub returns : goal.returns
unfolding printed
returns c = looking_end c.loop-open.invariant (omega arith) ∙ open_right _ c.ranges.code.fits
