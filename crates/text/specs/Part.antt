-- Calls: parts of a text. A part is told by where it lies in the caller's slice, and not only by
-- what it holds: another place with the same octets, or octets of somebody else's, are no such
-- part.
-- Interface: `IsPart`. Assumes nothing.
use Rattle.std.specs.Prelude.{◌≡◌, List, ℕ, ◌+◌, ◌-◌, ◌≤◌, min, length, take, drop}
use Rattle.std.specs.Borrow.{Bor}

-- Where the part from `from` to `to` of a text begins and ends, as far as the text goes.
abbrev pub part_end : ℕ → List ℕ → ℕ
part_end to text = min to (length text)

abbrev pub part_begin : ℕ → ℕ → List ℕ → ℕ
part_begin from to text = min from (part_end to text)

-- `part` is the part from `from` to `to` of the slice `text`: in the same block of memory,
-- `part_begin` octets behind the slice's beginning (an octet has size 1), and with the octets that
-- stand there.
pub record IsPart (text : Bor (List ℕ)) (from to : ℕ) (part : Bor (List ℕ)) : Type 0 where
  pub block : part.ref_ptr.0 ≡ text.ref_ptr.0
  pub place : part.ref_ptr.1 ≡ text.ref_ptr.1 + part_begin from to text.now
  pub octets : part.now ≡ take (part_end to text.now - part_begin from to text.now) (drop (part_begin from to text.now) text.now)

-- There is one such part: two of them lie at the same place and hold the same octets.
abbrev pub PartIsOne : Type 0
PartIsOne =
    (text p q : Bor (List ℕ)) (from to : ℕ) → IsPart text from to p → IsPart text from to q → (p.ref_ptr ≡ q.ref_ptr) × (p.now ≡ q.now)

-- Where its ends lie in the text, it begins `from` octets behind the text's beginning, in the
-- text's own block, and has `to - from` octets.
abbrev pub PartLies : Type 0
PartLies =
    (text part : Bor (List ℕ)) (from to : ℕ) → from ≤ to → to ≤ length text.now → IsPart text from to part
    → (part.ref_ptr ≡ (text.ref_ptr.0, text.ref_ptr.1 + from)) × (length part.now ≡ to - from)
