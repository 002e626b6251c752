-- Calls: "A field of the bus record lies outside its range" (document 01, reason 1), for a
-- terminal's access record with normal level x2 of class 2. Each field has its own range; a bool
-- has none.
-- Interface: every name. Assumes nothing.
use Rattle.std.specs.Prelude.{Bool, ◌&&◌, ℕ, ◌+◌, leb}
use Rattle.hdlc.specs.Image.{longest_image}
use Rattle.dchannel.specs.declared.access.Access.{Access}

-- the class from 0 to 2, the image's bits and those that have left to the longest image, C to the
-- low value of class 2
unfoldable pub access_in_range : ℕ → Access → Bool
access_in_range x2 a = leb a.held 2 && leb a.length longest_image && leb a.sent longest_image && leb a.count (x2 + 1)
