-- The laws of `specs/Laws.antt`, proved under the same names in small letters.
use mathlib.Core.Path.{refl}
use Prim.Native.Nat.{zero, suc}
use native.Mathlib.Omega.{arith}
use borrow.Author.Tests.{ltb-true}
use lib.Dec.{ltb}
use Rattle.test_lemmas.proofs.ByCases.{at_each_below}
use Rattle.symbols.specs.Symbols.{line_length}
use Rattle.symbols.proofs.Levels.{level_at}
use Rattle.frame.specs.Four.{pick, filled_with_ones}
use Rattle.frame.specs.Bits.{octet_bits, d_index}
use Rattle.frame.specs.Down.{down_body, down_bits, e_index}
use Rattle.frame.specs.Up.{up_bits}
use Rattle.frame.specs.Laws
use Rattle.frame.proofs.Frames as frames
use Rattle.frame.proofs.Groups as groups

pub levels_down : Laws.LevelsDown
levels_down = frames.down_levels

pub levels_up : Laws.LevelsUp
levels_up = frames.up_levels

pub d_down : Laws.DDown
unfolding down_bits down_body octet_bits
d_down f = rw (frames.down_levels f)

pub e_down : Laws.EDown
unfolding down_bits down_body octet_bits
e_down f = rw (frames.down_levels f)

pub a_down : Laws.ADown
unfolding down_bits down_body octet_bits
a_down f = rw (frames.down_levels f)

pub fa_down_lem : Laws.FaDown
unfolding down_bits down_body octet_bits
fa_down_lem f = rw (frames.down_levels f)

pub m_down : Laws.MDown
unfolding down_bits down_body octet_bits
m_down f = rw (frames.down_levels f)

pub s_down : Laws.SDown
unfolding down_bits down_body octet_bits
s_down f = rw (frames.down_levels f)

pub fa_up : Laws.FaUp
unfolding up_bits octet_bits
fa_up f = rw (frames.up_levels f)

pub d_up : Laws.DUp
unfolding up_bits octet_bits
d_up f = rw (frames.up_levels f)

pub line_down_lem : Laws.LineDown
line_down_lem = frames.down_line_lem

pub line_up_lem : Laws.LineUp
line_up_lem = frames.up_line_lem

-- ---- Groups.
pub balanced_polarity : Laws.BalancedPolarity
balanced_polarity = groups.balanced_polarity

pub groups_up : Laws.GroupsUp
groups_up = groups.groups_up

pub d_symbol_up : Laws.DSymbolUp
d_symbol_up = groups.d_symbol_up

pub fa_symbol_up : Laws.FaSymbolUp
fa_symbol_up = groups.fa_symbol_up

pub group_of_ones : Laws.GroupOfOnes
group_of_ones = groups.group_of_ones

-- ---- Four bits by their place.
pub pick_and : Laws.PickAnd
unfolding pick
pick_and zero a b = refl
pick_and (suc zero) a b = refl
pick_and (suc (suc zero)) a b = refl
pick_and (suc (suc (suc zero))) a b = refl
pick_and (suc (suc (suc (suc k)))) a b = refl

pub pick_ones : Laws.PickOnes
unfolding pick
pick_ones zero = refl
pick_ones (suc zero) = refl
pick_ones (suc (suc zero)) = refl
pick_ones (suc (suc (suc zero))) = refl
pick_ones (suc (suc (suc (suc k)))) = refl

pub pick_filled : Laws.PickFilled
unfolding pick filled_with_ones
pick_filled zero bits h = refl
pick_filled (suc zero) bits h = refl
pick_filled (suc (suc zero)) bits h = refl
pick_filled (suc (suc (suc zero))) bits h = refl
pick_filled (suc (suc (suc (suc k)))) bits h = absurd (omega arith)

pub pick_d : Laws.PickD
unfolding pick
pick_d zero l h = level_at l 11
pick_d (suc zero) l h = level_at l 24
pick_d (suc (suc zero)) l h = level_at l 35
pick_d (suc (suc (suc zero))) l h = level_at l 46
pick_d (suc (suc (suc (suc k)))) l h = absurd (omega arith)

pub pick_e : Laws.PickE
unfolding pick
pick_e zero l h = level_at l 10
pick_e (suc zero) l h = level_at l 23
pick_e (suc (suc zero)) l h = level_at l 34
pick_e (suc (suc (suc zero))) l h = level_at l 45
pick_e (suc (suc (suc (suc k)))) l h = absurd (omega arith)

pub pick_same : Laws.PickSame
unfolding pick
pick_same a b h = rw (h 0 (omega arith), h 1 (omega arith), h 2 (omega arith), h 3 (omega arith))

pub d_index_in_line : Laws.DIndexInLine
d_index_in_line k h = ltb-true (d_index k) line_length (at_each_below (λ j. ltb (d_index j) line_length) 4 k refl h)

pub e_index_in_line : Laws.EIndexInLine
e_index_in_line k h = ltb-true (e_index k) line_length (at_each_below (λ j. ltb (e_index j) line_length) 4 k refl h)
