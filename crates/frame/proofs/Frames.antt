-- Written frames: their bits come back at symbol level, and they are lines.
use mathlib.Core.Path.{◌≡◌, refl, sym, ◌∙◌}
use mathlib.Core.Bool.{Bool, true, false}
use mathlib.Core.List.{List, [], ◌∷◌}
use lib.ListN.{length, drop}
use Rattle.symbols.specs.Symbols.{plus, minus, levels, within, fits, is_line}
use Rattle.frame.specs.Bits.{octet_bits, zeros}
use Rattle.frame.specs.Polarity.{alternate, symbols}
use Rattle.frame.specs.Down.{down_body, down_bits, down_line}
use Rattle.frame.specs.Up.{up_bits, up_line}
use Rattle.frame.specs.declared.fields.DownFields.{DownFields}
use Rattle.frame.specs.declared.fields.UpFields.{UpFields}
use Rattle.frame.proofs.Emit.{length_alternate}

-- Symbols hold their bits, whatever the next pulse is.
levels_alternate : (bs : List Bool) → (levels (alternate plus bs) ≡ bs) × (levels (alternate minus bs) ≡ bs)
unfolding alternate
levels_alternate [] = (refl, refl)
levels_alternate (true ∷ bs) = let ih = levels_alternate bs in (rw ih.0, rw ih.1)
levels_alternate (false ∷ bs) = let ih = levels_alternate bs in (rw ih.1, rw ih.0)

pub levels_symbols : (bits : List Bool) → levels (symbols bits) ≡ false ∷ false ∷ drop 2 bits
unfolding symbols
levels_symbols bits = rw (levels_alternate (drop 2 bits)).1

pub within_alternate : (bs : List Bool) → (within minus (alternate plus bs) ≡ true) × (within minus (alternate minus bs) ≡ true)
unfolding alternate within
within_alternate [] = (refl, refl)
within_alternate (true ∷ bs) = within_alternate bs
within_alternate (false ∷ bs) = let ih = within_alternate bs in (ih.1, ih.0)

pub symbols_line : (bits : List Bool) → length (drop 2 bits) ≡ 46 → is_line (symbols bits) ≡ true
unfolding symbols fits within
symbols_line bits h = rw (length_alternate, h) (within_alternate (drop 2 bits)).1

-- Downward.
pub down_levels : (f : DownFields) → levels (down_line f) ≡ down_bits f
unfolding down_line down_bits
down_levels f = levels_symbols (down_bits f)

pub down_line_lem : (f : DownFields) → is_line (down_line f) ≡ true
unfolding down_line down_bits down_body octet_bits
down_line_lem f = symbols_line (down_bits f) refl

-- Upward.
up_bits_start : (f : UpFields) → up_bits f ≡ false ∷ false ∷ drop 2 (up_bits f)
unfolding up_bits zeros
up_bits_start f = refl

pub up_levels : (f : UpFields) → levels (up_line f) ≡ up_bits f
unfolding up_line
up_levels f = levels_symbols (up_bits f) ∙ sym (up_bits_start f)

pub up_line_lem : (f : UpFields) → is_line (up_line f) ≡ true
unfolding up_line up_bits octet_bits
up_line_lem f = symbols_line (up_bits f) refl
