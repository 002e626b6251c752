-- The pulses of INFO 4: the line of nones with ten symbols set is INFO 4, for each of the sixteen echoes.
use mathlib.Core.Path.{◌≡◌, refl}
use mathlib.Core.Bool.{Bool, true, false, cond}
use mathlib.Core.List.{List}
use Prim.Native.Nat.{ℕ}
use lib.Dec.{eqb}
use lib.ListN.{set}
use Rattle.symbols.specs.Symbols.{none, plus, minus}
use Rattle.frame.specs.Bits.{octet_bits, zeros}
use Rattle.frame.specs.Polarity.{opposite, alternate, symbols}
use Rattle.frame.specs.Down.{down_body, down_bits, down_line}
use Rattle.frame.specs.declared.fields.Four.{Four}
use Rattle.info.specs.Info.{info0, info4}

-- a line of nones with F, the first L, and these at the four E, FA, M, S and the last L
abbrev laid : ℕ → ℕ → ℕ → ℕ → ℕ → ℕ → ℕ → ℕ → List ℕ
laid e₁ fa e₂ m e₃ s e₄ l =
    set (set (set (set (set (set (set (set (set (set info0 0 plus) 1 minus) 10 e₁) 13 fa) 23 e₂) 25 m) 34 e₃) 36 s) 45 e₄) 47 l

-- the first pulse behind an E, and the symbol at it
abbrev behind : Bool → ℕ → ℕ
behind b last = cond b (opposite last) last

abbrev at : Bool → ℕ → ℕ
at b last = cond b none (opposite last)

abbrev echoed : Bool → Bool → Bool → Bool → List ℕ
echoed a b c d =
    let fa = behind a plus in
    let m = behind b fa in
    let s = behind c m in
    let l = behind d s in laid (at a plus) fa (at b fa) m (at c m) s (at d s) (at (eqb l minus) minus)

each : (a b c d : Bool) → echoed a b c d ≡ info4 (record { first = a; second = b; third = c; fourth = d })
unfolding down_line down_bits down_body octet_bits zeros symbols alternate
each true true true true = refl
each true true true false = refl
each true true false true = refl
each true true false false = refl
each true false true true = refl
each true false true false = refl
each true false false true = refl
each true false false false = refl
each false true true true = refl
each false true true false = refl
each false true false true = refl
each false true false false = refl
each false false true true = refl
each false false true false = refl
each false false false true = refl
each false false false false = refl

pub pulses_put : (e : Four) {line : List ℕ} {fa m s l e₁ e₂ e₃ e₄ last : ℕ} → line ≡ info0
    → fa ≡ behind e.first plus → m ≡ behind e.second fa → s ≡ behind e.third m → l ≡ behind e.fourth s
    → e₁ ≡ at e.first plus → e₂ ≡ at e.second fa → e₃ ≡ at e.third m → e₄ ≡ at e.fourth s → last ≡ at (eqb l minus) minus
    → set (set (set (set (set (set (set (set (set (set line 0 plus) 1 minus) 10 e₁) 13 fa) 23 e₂) 25 m) 34 e₃) 36 s) 45 e₄) 47 last ≡ info4 e
pulses_put e z p₁ p₂ p₃ p₄ q₁ q₂ q₃ q₄ q₅ = rw (z, q₅, q₄, q₃, q₂, q₁, p₄, p₃, p₂, p₁) (each e.first e.second e.third e.fourth)
