-- Calls: what the call that hands a frame over replies and leaves (document 01, "Reasons a call is
-- turned down", 7 and 8).
-- Interface: `Handed`, `handed`. Assumes nothing.
use Rattle.std.specs.Prelude.{Bool, cond, ◌&&◌, ℕ, leb, eqb}
use Rattle.hdlc.specs.Image.{shortest_image, longest_image}
use Rattle.dchannel.specs.declared.access.Access.{Access}
use Rattle.dchannel.specs.declared.access.Class.{Class}
use Rattle.dchannel.specs.declared.access.Class.TheVariants.{One, Two}
use Rattle.dchannel.specs.Handing.{taken_up}

-- the number of a class
abbrev pub class_number : Class → ℕ
class_number One = 1
class_number Two = 2

-- whether a number of bits is at least the shortest image's and at most the longest's
unfoldable pub is_image_length : ℕ → Bool
is_image_length n = leb shortest_image n && leb n longest_image

-- What handing over a frame gives: the record, and 0, or the number of the refusal (7 or 8) with the
-- record as it was.
pub record Handed : Type 0 where
  pub access : Access
  pub reply : ℕ

-- A frame whose image has n bits is handed over: refused by 7 where n is out of these bounds, by 8
-- where one is held.
unfoldable pub handed : Class → ℕ → Access → Handed
handed class n a =
    cond (is_image_length n)
    (cond (eqb a.held 0)
    (record { access = taken_up (class_number class) n a; reply = 0 })
    (record { access = a; reply = 8 }))
    (record { access = a; reply = 7 })
