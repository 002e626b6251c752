-- How the code goes: bits that come one by one, in an octet for the last eight and a lent buffer
-- for whole octets.
-- Interface: `shifted`, `BitsKept`. Assumes nothing.
use Rattle.std.specs.Prelude.{Bool, false, cond, List, ◌++◌, ◌≡◌, ℕ, ◌+◌, ◌*◌, ◌/◌, ◌≤◌, ◌<◌, length, take, drop, get_or, replicate}
use Rattle.hdlc.specs.Bits.{number_low_first}

-- the last eight bits with a new one: it is the high-order bit, and the oldest falls out
unfoldable pub shifted : ℕ → Bool → ℕ
shifted o b = cond b (o / 2 + 128) (o / 2)

-- the last eight bits, 0s where there are fewer
unfoldable pub last_eight : List Bool → List Bool
last_eight bs = drop (length bs) (replicate 8 false ++ bs)

-- each whole octet that the bits make, of the first m octets, is in the buffer
abbrev pub WholeOctets : ℕ → List ℕ → List Bool → Type 0
WholeOctets m buf bs = (i : ℕ) → i < m → 8 * i + 8 ≤ length bs → get_or buf i 0 ≡ number_low_first (take 8 (drop (8 * i) bs))

-- .. and the last eight bits are in an octet of their own: so the bits bs are kept
pub record BitsKept (m : ℕ) (bs : List Bool) (octet : ℕ) (buf : List ℕ) : Type 0 where
  pub octet_is : octet ≡ number_low_first (last_eight bs)
  pub whole : WholeOctets m buf bs
