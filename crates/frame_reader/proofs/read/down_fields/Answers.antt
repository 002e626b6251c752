-- `frame_reader::read::down_fields` meets its contract.
use Rattle.symbols.proofs.Levels.{level_at, levels_take, levels_drop}
use Rattle.frame.specs.Down.{down_fields}
use Rattle.frame_reader.proofs.read.down_fields.Goals as goal

pub returns : goal.returns
unfolding down_fields
returns c =
    rw (c.octet.ensures, c.octet-2.ensures, c.octet-3.ensures, c.octet-4.ensures, c.four_at.ensures, c.four_at-2.ensures)
    (simp (levels_take, levels_drop, level_at))
