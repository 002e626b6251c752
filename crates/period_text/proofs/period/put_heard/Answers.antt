-- `put_heard` meets its contract: three puts, one behind the other.
use mathlib.Core.Path.{refl}
use Rattle.note_text.proofs.RoomLaws.{put_put}
use Rattle.period_text.proofs.PeriodLaws.{heard_parts}
use Rattle.period_text.proofs.period.put_heard.Goals as goal

pub returns : goal.returns
returns c =
    let ran = c.args.answer in
    let said = c.put_reader-a.ensures ran refl refl in
    let heard = c.put_notes-b.ensures in
    rw (← heard_parts _ _ _ _ _) (put_put said (put_put heard (c.put_terminals.ensures ran refl refl)))
