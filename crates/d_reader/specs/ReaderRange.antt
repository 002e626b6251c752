-- Calls: every field of the reader's record in its range (document 01, refusal 1): the bits go up
-- to most_bits, the 1s to 7. An octet is any octet, and a bool has no range.
-- Interface: every name. Assumes nothing.
use Rattle.std.specs.Prelude.{Bool, false, cond, ltb, leb}
use Rattle.d_reader.specs.Counters.{most_bits}
use Rattle.d_reader.specs.declared.Reader.{Reader}

unfoldable pub reader_in_range : Reader → Bool
reader_in_range r = cond (ltb most_bits r.bits) false (leb r.ones 7)
