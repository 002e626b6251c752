-- The laws of `specs/Laws.antt`, proved under the same names in small letters.
use mathlib.Core.Path.{◌≡◌, refl, sym, ap, ◌∙◌}
use mathlib.Core.List.{List, [], ◌∷◌}
use Prim.Native.Nat.{ℕ}
use native.Mathlib.Omega.{arith}
use borrow.Author.Tests.{eqb-true, eqb-false, not-false}
use lib.Dec.{eqb}
use lib.ListN.{length, get_or, replicate}
use Rattle.test_lemmas.proofs.ByCases.{by_test}
use Rattle.symbols.specs.Symbols.{none, plus, minus, levels, within, fits}
use Rattle.symbols.proofs.Lines.{same_symbols_true, same_symbols_self}
use Rattle.frame.specs.Polarity.{alternate, symbols}
use Rattle.frame.specs.Up.{up_bits, up_line}
use Rattle.frame.proofs.Laws.{levels_up, line_down_lem, line_up_lem, d_up, fa_up, e_down, a_down, fa_down_lem, m_down, s_down}
use Rattle.frame.specs.declared.fields.UpFields.{UpFields}
use Rattle.framed.specs.Framed.{first_pulse, framed_in, has_pulse}
use Rattle.framed.proofs.Laws.{framed_down_lem, framed_up_lem, pulse_down, pulse_up}
use Rattle.info.specs.Info.{info1, info2_fields, info3_fields, info4_fields, is_info1}
use Rattle.info.specs.Laws

pub framed_info2 : Laws.FramedInfo2
framed_info2 bits = framed_down_lem (info2_fields bits)

pub framed_info3 : Laws.FramedInfo3
framed_info3 fa d = framed_up_lem (info3_fields fa d) (omega arith)

pub framed_info4 : Laws.FramedInfo4
framed_info4 bits e = framed_down_lem (info4_fields bits e)

pub unframed_info0 : Laws.UnframedInfo0
unfolding framed_in first_pulse
unframed_info0 = (refl, refl)

pub unframed_info1 : Laws.UnframedInfo1
unfolding framed_in first_pulse
unframed_info1 = (refl, refl)

pub info1_is_info1 : Laws.Info1IsInfo1
info1_is_info1 = same_symbols_self info1

pub only_info1 : Laws.OnlyInfo1
only_info1 l e = same_symbols_true l info1 e

-- The line of INFO 1's bits has a minus where INFO 1 has its second plus.
first_plus : (f : UpFields) → up_line f ≡ info1 → ⊥
unfolding up_line symbols alternate
first_plus f e =
    let bits : up_bits f ≡ levels info1 = sym (levels_up f) ∙ ap levels e in
    let there : get_or (up_line f) 8 none ≡ minus = rw bits in
    let here : get_or (up_line f) 8 none ≡ plus = rw e in omega arith

pub up_not_info1 : Laws.UpNotInfo1
up_not_info1 f =
    by_test (is_info1 (up_line f))
    (λ t. absurd (first_plus f (same_symbols_true (up_line f) info1 t))) (λ t. t)

pulseless : (l : List ℕ) → first_pulse l ≡ none → l ≡ replicate (length l) none
unfolding first_pulse
pulseless [] e = refl
pulseless (x ∷ l) e =
    by_test (eqb x none) (λ t. rw (eqb-true x none t, ← pulseless l (rw t at e)))
    (λ t. absurd (eqb-false x none t (rw t at e)))

pub pulseless_info0 : Laws.PulselessInfo0
unfolding has_pulse first_pulse
pulseless_info0 l h =
    (λ e. rw h at (pulseless l (eqb-true (first_pulse l) none (not-false (eqb (first_pulse l) none) e))), λ e. rw e)

pub pulse_info1 : Laws.PulseInfo1
unfolding has_pulse first_pulse
pulse_info1 = refl

pub pulse_info2 : Laws.PulseInfo2
pulse_info2 bits = pulse_down (info2_fields bits)

pub pulse_info3 : Laws.PulseInfo3
pulse_info3 fa d = pulse_up (info3_fields fa d)

pub pulse_info4 : Laws.PulseInfo4
pulse_info4 bits e = pulse_down (info4_fields bits e)

pub line_info0 : Laws.LineInfo0
unfolding fits within
line_info0 = refl

pub line_info1 : Laws.LineInfo1
unfolding fits within
line_info1 = refl

pub line_info2 : Laws.LineInfo2
line_info2 bits = line_down_lem (info2_fields bits)

pub line_info3 : Laws.LineInfo3
line_info3 fa d = line_up_lem (info3_fields fa d)

pub line_info4 : Laws.LineInfo4
line_info4 bits e = line_down_lem (info4_fields bits e)

pub e_info0 : Laws.EInfo0
e_info0 = refl

pub e_info2 : Laws.EInfo2
e_info2 bits = e_down (info2_fields bits)

pub e_info4 : Laws.EInfo4
e_info4 bits e = e_down (info4_fields bits e)

pub a_info0 : Laws.AInfo0
a_info0 = refl

pub a_info2 : Laws.AInfo2
a_info2 bits = a_down (info2_fields bits)

pub a_info4 : Laws.AInfo4
a_info4 bits e = a_down (info4_fields bits e)

pub d_info3 : Laws.DInfo3
d_info3 fa d = d_up (info3_fields fa d)

pub fa_info0 : Laws.FaInfo0
fa_info0 = refl

pub fa_info2 : Laws.FaInfo2
fa_info2 bits = fa_down_lem (info2_fields bits)

pub fa_info3 : Laws.FaInfo3
fa_info3 fa d = fa_up (info3_fields fa d)

pub fa_info4 : Laws.FaInfo4
fa_info4 bits e = fa_down_lem (info4_fields bits e)

pub m_info2 : Laws.MInfo2
m_info2 bits = m_down (info2_fields bits)

pub m_info4 : Laws.MInfo4
m_info4 bits e = m_down (info4_fields bits e)

pub s_info0 : Laws.SInfo0
s_info0 = refl

pub s_info2 : Laws.SInfo2
s_info2 bits = s_down (info2_fields bits)

pub s_info4 : Laws.SInfo4
s_info4 bits e = s_down (info4_fields bits e)
