-- A note as octets from its parts.
use mathlib.Core.List.{[], ◌∷◌, ◌++◌}
use mathlib.Core.Path.{◌≡◌, sym, ap, ◌∙◌}
use Prim.Native.Nat.{ℕ, zero, ◌+◌, ◌*◌, ◌/◌, ◌%◌, ◌<◌}
use native.Mathlib.Nat.{mul_assoc, mod-add-div, add-mul-div_left, add-mul-mod_self_left}
use native.Mathlib.Omega.{arith}
use lib.ListN.{length}
use Rattle.bus_rules.specs.Bus.{Note}
use Rattle.note_text.specs.LowFirst.{half, word}
use Rattle.note_text.specs.NoteOctets.{unit_octet, note_octets}

-- what a number has above an octet does not change the octet
octet_low : (n k m : ℕ) → zero < k → n % (k * (256 * m)) / k % 256 ≡ n / k % 256
octet_low n k m h =
    let all = k * (256 * m) in
    let more = m * (n / all) in
    let e : n ≡ n % all + k * (256 * more) = sym (mod-add-div n all) ∙ rw (mul_assoc k (256 * m) (n / all), mul_assoc 256 m (n / all)) in
    sym (ap (λ (x : ℕ). x / k % 256) e ∙ rw (add-mul-div_left (n % all) (256 * more) h, add-mul-mod_self_left (n % all / k) 256 more))

half_low : (n : ℕ) → half (n % 65536) ≡ half n
half_low n =
    let e : n % 65536 % 256 ≡ n % 256 = omega arith in
    rw (e, octet_low n 256 1 (omega arith))

word_low : (n : ℕ) → word (n % 4294967296) ≡ word n
word_low n =
    let e : n % 4294967296 % 256 ≡ n % 256 = omega arith in
    rw (e, octet_low n 256 65536 (omega arith), octet_low n 65536 256 (omega arith), octet_low n 16777216 1 (omega arith))

pub octets_parts : (n : Note) → n.code < 256
    → (n.code ∷ unit_octet n.unit ∷ [])
    ++ (half (length n.value % 65536) ++ (word (n.period % 4294967296) ++ n.value))
    ≡ note_octets n
unfolding note_octets
octets_parts n h =
    let e : n.code % 256 ≡ n.code = omega arith in
    cc (half_low (length n.value), word_low n.period, e)
