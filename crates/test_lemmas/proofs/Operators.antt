-- Rattle's operators on bools, as the definitions write them.
use mathlib.Core.Bool.{Bool, true, false, cond, not, ◌&&◌, ◌||◌}
use mathlib.Core.Path.{◌≡◌, refl}
use Prim.Native.Nat.{ℕ}
use mir.Val.{bool_byte}

-- `a | b`
pub or_cond : (a b : Bool) → (a || b) ≡ cond a true b
or_cond true b = refl
or_cond false b = refl

-- `a & b`
pub and_cond : (a b : Bool) → (a && b) ≡ cond a b false
and_cond true b = refl
and_cond false b = refl

pub and_both : (a b : Bool) → (a && b) ≡ true → (a ≡ true) × (b ≡ true)
and_both true b h = (refl, h)
and_both false b h = (h, cc)

-- `!a | b`
pub not_or : (a b : Bool) → (not a || b) ≡ cond a b true
not_or true b = refl
not_or false b = refl

-- `!a & b`
pub without_cond : (a b : Bool) → (not a && b) ≡ cond a false b
without_cond true b = refl
without_cond false b = refl

-- `a as u8`
pub byte_cond : (a : Bool) → bool_byte a ≡ cond {A = ℕ} a 1 0
byte_cond true = refl
byte_cond false = refl

-- `!a` in a choice
pub cond_not : {X : Type 0} (b : Bool) (x y : X) → cond (not b) x y ≡ cond b y x
cond_not true x y = refl
cond_not false x y = refl
