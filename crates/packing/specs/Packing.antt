-- Calls: a body's image in a lent buffer, bits packed low first.
-- Interface: `image_room`, `filled_octets`, `onto`, `packed_bit`, `is_body_length`, `imaged`,
-- `imaged_octets`, `image_meaning`, `image_or`. Assumes nothing.
use Rattle.std.specs.Prelude.{Bool, false, cond, List, ◌++◌, ℕ, ◌+◌, ◌/◌, ◌%◌, ltb, leb, eqb, length, take, drop, get_or, Result, Ok, Err}
use Rattle.hdlc.specs.Bits.{body_bits, octets, bit_of}
use Rattle.hdlc.specs.Image.{image, longest_body, longest_image}
use Rattle.refusals.specs.declared.Refusal.{Refusal}
use Rattle.refusals.specs.declared.Refusal.TheVariants.{WrongSlice, BodyLength}
use Rattle.refusals.specs.Numbers.{number}

-- how many octets n bits take
abbrev pub octets_for : ℕ → ℕ
octets_for n = (n + 7) / 8

-- the octets of the longest image
abbrev pub image_room : ℕ
image_room = octets_for longest_image

-- the octets of bits, the last one filled up with 0 bits
unfoldable pub filled_octets : List Bool → List ℕ
filled_octets bs = octets (octets_for (length bs)) bs

-- octets put over the first ones of a buffer
unfoldable pub onto : List ℕ → List ℕ → List ℕ
onto os buf = os ++ drop (length os) buf

-- bit i of packed octets, 0 past their end
unfoldable pub packed_bit : List ℕ → ℕ → Bool
packed_bit os i = cond (ltb (i / 8) (length os)) (bit_of (get_or os (i / 8) 0) (i % 8)) false

-- "A body is 1 to 266 octets": whether it may have n
unfoldable pub is_body_length : ℕ → Bool
is_body_length n = cond (eqb n 0) false (leb n longest_body)

-- the call's reply: the image's length in bits, or reason 2 for a short buffer, or 7 for a body that
-- is empty or too long
unfoldable pub imaged : List ℕ → List ℕ → Result ℕ Refusal
imaged body buf =
    cond (ltb (length buf) image_room) (Err WrongSlice) (cond (is_body_length (length body)) (Ok (length (image body))) (Err BodyLength))

-- the lent octets after the call
unfoldable pub imaged_octets : List ℕ → List ℕ → List ℕ
imaged_octets body buf =
    cond (ltb (length buf) image_room) buf (cond (is_body_length (length body)) (onto (filled_octets (image body)) buf) buf)

-- What a reply means, with the lent octets: bits, or the number of a refusal.
pub data ImageReply : Type 0 where
  image_bits : List Bool → ImageReply
  image_refused : ℕ → ImageReply

unfoldable pub image_meaning : Result ℕ Refusal → List ℕ → ImageReply
image_meaning (Ok n) buf = image_bits (take n (body_bits buf))
image_meaning (Err r) buf = image_refused (number r)

-- what the call is to mean (document 01, refusals 2 and 7): the body's image, or a refusal
unfoldable pub image_or : List ℕ → List ℕ → ImageReply
image_or body buf =
    cond (ltb (length buf) image_room) (image_refused 2) (cond (is_body_length (length body)) (image_bits (image body)) (image_refused 7))
