-- Rules: what the terminals send upward (document 01, "The line": INFO 0, INFO 1, INFO 3).
-- Interface: `Sent`, `silent`, `calling`, `frame`, `sent_line`. Assumes nothing.
use Rattle.std.specs.Prelude.{List, ℕ}
use Rattle.frame.specs.Up.{up_line}
use Rattle.frame.specs.declared.fields.UpFields.{UpFields}
use Rattle.info.specs.Info.{info0, info1}

-- What one terminal sends: INFO 0, INFO 1, or an upward frame.
pub data Sent : Type 0 where
  silent : Sent
  calling : Sent
  frame : UpFields → Sent

abbrev pub sent_line : Sent → List ℕ
sent_line silent = info0
sent_line calling = info1
sent_line (frame f) = up_line f
