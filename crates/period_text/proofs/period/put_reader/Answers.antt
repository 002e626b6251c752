-- `put_reader` meets its contract: no note, a body, or a note without a value.
use borrow.Author.Tests.{eq-eqb, ne_eqb}
use Rattle.bus_call_specs.specs.Lists.{reader_told}
use Rattle.note_text.specs.NoteText.{notes_in}
use Rattle.note_text.proofs.NoteLaws.{one_note, take_count}
use Rattle.period_text.proofs.period.put_reader.Goals as goal

pub returns-then-said-eq0 : goal.returns-then-said-eq0
unfolding reader_told notes_in
returns-then-said-eq0 c = λ ran s b. rw (s, eq-eqb _ _ c.if-said-eq0.true) c.put.ensures

pub returns-then-said-eq-HEARD : goal.returns-then-said-eq-HEARD
unfolding reader_told
returns-then-said-eq-HEARD c =
    let a = c.args in
    λ ran s b. rw (s, b, c.if-said-eq-HEARD.true, one_note, ← take_count a.octets.now a.body c.min-count.result c.min-count.ensures)
    c.put_note.ensures

pub returns : goal.returns
unfolding reader_told
returns c =
    λ ran s b. rw (s, ne_eqb _ _ c.if-said-eq0.false, ne_eqb _ _ c.if-said-eq-HEARD.false, one_note) c.put_plain.ensures
