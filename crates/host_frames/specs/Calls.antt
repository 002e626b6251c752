-- Calls: the two calls of a host that passes only numbers and octets (document 01, "The line";
-- refusals 2 and 10). A frame is downward where the number up is 0, else upward.
-- Interface: `reply_of`, `left_of`, `read_as`, `frame_read`, `accepts`, `frame_written`. Assumes nothing.
use Rattle.std.specs.Prelude.{Bool, cond, ◌&&◌, List, ℕ, eqb, length, Result, Ok, Err}
use Rattle.refusals.specs.declared.Refusal.{Refusal}
use Rattle.refusals.specs.Numbers.{number}
use Rattle.symbols.specs.Calls.{has_line_length}
use Rattle.frame.specs.Down.{down_line}
use Rattle.frame.specs.Up.{up_line}
use Rattle.frame_reader.specs.Read.{down_read, up_read}
use Rattle.frame.specs.declared.fields.DownFields.{DownFields}
use Rattle.frame.specs.declared.fields.UpFields.{UpFields}
use Rattle.host_frames.specs.Octets.{fields_length, down_octets, down_from, as_down, up_from, is_down, is_up}

-- What a call comes to: it writes octets over what it is lent, or is refused.
pub data Outcome : Type 0 where
  wrote : List ℕ → Outcome
  refused : ℕ → Outcome

-- Its reply is 0 or the number of the refusal.
abbrev pub reply_of : Outcome → ℕ
reply_of (wrote new) = 0
reply_of (refused n) = n

-- What it leaves in the lent slice: what it writes, or every octet as it was.
abbrev pub left_of : Outcome → List ℕ → List ℕ
left_of (wrote new) lent = new
left_of (refused n) lent = lent

-- What symbols are read as, an upward frame with every other bit 0.
abbrev pub as_down_read : Result UpFields Refusal → Result DownFields Refusal
as_down_read (Ok f) = Ok (as_down f)
as_down_read (Err r) = Err r

abbrev pub read_as : ℕ → List ℕ → Result DownFields Refusal
read_as up l = cond (eqb up 0) (down_read l) (as_down_read (up_read l))

-- Reading symbols l into lent octets: the octets of the fields, or the refusal; 2 for lent octets
-- of another length.
abbrev pub octets_read : Result DownFields Refusal → Outcome
octets_read (Ok f) = wrote (down_octets f)
octets_read (Err r) = refused (number r)

unfoldable pub frame_read : ℕ → List ℕ → List ℕ → Outcome
frame_read up l lent = cond (eqb (length lent) fields_length) (octets_read (read_as up l)) (refused 2)

-- Writing the frame of octets fs into lent symbols: its line, or 2 for octets that stand for no
-- fields or lent symbols of another length.
abbrev pub accepts : ℕ → List ℕ → Bool
accepts up fs = cond (eqb up 0) (is_down fs) (is_up fs)

abbrev pub line_from : ℕ → List ℕ → List ℕ
line_from up fs = cond (eqb up 0) (down_line (down_from fs)) (up_line (up_from fs))

unfoldable pub frame_written : ℕ → List ℕ → List ℕ → Outcome
frame_written up fs lent = cond (accepts up fs && has_line_length lent) (wrote (line_from up fs)) (refused 2)
