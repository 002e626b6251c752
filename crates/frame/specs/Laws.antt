-- Laws: what holds of a written frame: the statements, each a type. `proofs/Laws.antt` proves each
-- under the same name in small letters.
-- Interface: none but for laws and proofs. Assumes nothing.
use Rattle.std.specs.Prelude.{◌≡◌, Bool, true, cond, ◌&&◌, List, ℕ, suc, ◌<◌, get_or, replicate}
use Rattle.symbols.specs.Symbols.{line_length, none, minus, level, levels, is_line}
use Rattle.frame.specs.Four.{pick, filled_with_ones, all_four, and_four}
use Rattle.frame.specs.Bits.{balanced, d_bits, d_index, fa_bit, fa_index}
use Rattle.frame.specs.Polarity.{next_pulse}
use Rattle.frame.specs.Down.{down_bits, down_line, e_bits, a_bit, m_bit, s_bit, e_index}
use Rattle.frame.specs.Up.{up_bits, up_line}
use Rattle.frame.specs.Groups.{group_symbols, up_groups, laid_out}
use Rattle.frame.specs.declared.fields.Four.{Four}
use Rattle.frame.specs.declared.fields.DownFields.{DownFields}
use Rattle.frame.specs.declared.fields.UpFields.{UpFields}

-- ---- At symbol level a written frame has its own bits.
abbrev pub LevelsDown : Type 0
LevelsDown = (f : DownFields) → levels (down_line f) ≡ down_bits f

abbrev pub LevelsUp : Type 0
LevelsUp = (f : UpFields) → levels (up_line f) ≡ up_bits f

abbrev pub DDown : Type 0
DDown = (f : DownFields) → d_bits (levels (down_line f)) ≡ f.d

abbrev pub EDown : Type 0
EDown = (f : DownFields) → e_bits (levels (down_line f)) ≡ f.e

abbrev pub ADown : Type 0
ADown = (f : DownFields) → a_bit (levels (down_line f)) ≡ f.a

abbrev pub FaDown : Type 0
FaDown = (f : DownFields) → fa_bit (levels (down_line f)) ≡ f.fa

abbrev pub MDown : Type 0
MDown = (f : DownFields) → m_bit (levels (down_line f)) ≡ f.m

abbrev pub SDown : Type 0
SDown = (f : DownFields) → s_bit (levels (down_line f)) ≡ f.s

abbrev pub FaUp : Type 0
FaUp = (f : UpFields) → fa_bit (levels (up_line f)) ≡ f.fa

abbrev pub DUp : Type 0
DUp = (f : UpFields) → d_bits (levels (up_line f)) ≡ f.d

-- ---- What is written is a line.
abbrev pub LineDown : Type 0
LineDown = (f : DownFields) → is_line (down_line f) ≡ true

abbrev pub LineUp : Type 0
LineUp = (f : UpFields) → is_line (up_line f) ≡ true

-- ---- An upward frame is its groups one after the other, each beginning with minus: a group with
-- its L leaves the polarity as it found it. So each D of 0 is a minus.
abbrev pub BalancedPolarity : Type 0
BalancedPolarity = (bs : List Bool) → next_pulse minus (balanced bs) ≡ minus

abbrev pub GroupsUp : Type 0
GroupsUp = (f : UpFields) → up_line f ≡ laid_out up_groups f

abbrev pub DSymbolUp : Type 0
DSymbolUp = (k : ℕ) (f : UpFields) → k < 4 → get_or (up_line f) (d_index k) none ≡ cond (pick k f.d) none minus

-- FA begins its group too, and a 0 there is a minus.
abbrev pub FaSymbolUp : Type 0
FaSymbolUp = (f : UpFields) → get_or (up_line f) fa_index none ≡ cond f.fa none minus

-- A group of 1s, with its L, is nones.
abbrev pub GroupOfOnes : Type 0
GroupOfOnes = (n : ℕ) → group_symbols (replicate n true) ≡ replicate (suc n) none

-- ---- Four bits by their place.
abbrev pub PickAnd : Type 0
PickAnd = (k : ℕ) (a b : Four) → pick k (and_four a b) ≡ (pick k a && pick k b)

abbrev pub PickOnes : Type 0
PickOnes = (k : ℕ) → pick k (all_four true) ≡ true

abbrev pub PickFilled : Type 0
PickFilled = (k : ℕ) (bits : List Bool) → k < 4 → pick k (filled_with_ones bits) ≡ get_or bits k true

abbrev pub PickD : Type 0
PickD = (k : ℕ) (l : List ℕ) → k < 4 → pick k (d_bits (levels l)) ≡ level (get_or l (d_index k) none)

abbrev pub PickE : Type 0
PickE = (k : ℕ) (l : List ℕ) → k < 4 → pick k (e_bits (levels l)) ≡ level (get_or l (e_index k) none)

-- Four bits that are the same at each place are the same.
abbrev pub PickSame : Type 0
PickSame = (a b : Four) → ((k : ℕ) → k < 4 → pick k a ≡ pick k b) → a ≡ b

-- The indices lie in a line.
abbrev pub DIndexInLine : Type 0
DIndexInLine = (k : ℕ) → k < 4 → d_index k < line_length

abbrev pub EIndexInLine : Type 0
EIndexInLine = (k : ℕ) → k < 4 → e_index k < line_length
