-- `put_value` meets its contract, by what the code leaves open.
use mathlib.Core.Path.{sym, ◌∙◌}
use Rattle.note_text.proofs.RoomLaws.{put_start}
use Rattle.note_text.proofs.value.put_value.Goals as goal

pub returns-in-Nothing : goal.returns-in-Nothing
returns-in-Nothing c = rw (sym c.open_as.ensures ∙ c.in-Nothing.is) (put_start _ _ c.min.ensures)
