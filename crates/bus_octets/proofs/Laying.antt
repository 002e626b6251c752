-- The terminals as octets, one terminal after the other, as the loop of `put_terminals` puts them.
use mathlib.Core.Bool.{Bool, true, false}
use mathlib.Core.List.{List, [], ◌∷◌, ◌++◌, append_assoc, append-nil}
use mathlib.Core.Path.{◌≡◌, refl, sym}
use Prim.Native.Nat.{ℕ, ◌+◌, ◌<◌, min}
use native.Mathlib.Numerals.{add-one}
use lib.ListN.{length, get_or, take}
use lib.Seq.{take-suc}
use Rattle.terminal.specs.declared.Terminal.{Terminal}
use Rattle.note_text.specs.Room.{Put}
use Rattle.note_text.proofs.RoomLaws.{put_put, put_start}
use mir.Val.{bool_byte}
use Rattle.bus_octets.specs.Layout.{flag, terminal_octets, terminals_octets}

-- what the code makes of a yes or a no
pub flag_is : (b : Bool) → bool_byte b ≡ flag b
flag_is true = refl
flag_is false = refl

pub terminals_append : (a b : List Terminal) → terminals_octets (a ++ b) ≡ terminals_octets a ++ terminals_octets b
unfolding terminals_octets
terminals_append [] b = refl
terminals_append (t ∷ a) b = rw (terminals_append a b) (sym (append_assoc (terminal_octets t) (terminals_octets a) (terminals_octets b)))

terminals_next : (ts : List Terminal) (i : ℕ) (d : Terminal) → i < length ts
    → terminals_octets (take (i + 1) ts) ≡ terminals_octets (take i ts) ++ terminal_octets (get_or ts i d)
unfolding terminals_octets
terminals_next ts i d h =
    rw (add-one i, take-suc ts i d h, terminals_append (take i ts) (get_or ts i d ∷ []), append-nil (terminal_octets (get_or ts i d)))

-- ---- The loop of `put_terminals`: none, a terminal more.
pub put_none_of : (room : List ℕ) (wrote : ℕ) {at : ℕ} → at ≡ min wrote (length room) → Put room wrote (terminals_octets []) at room
unfolding terminals_octets
put_none_of room wrote h = put_start room wrote h

pub put_next : {room : List ℕ} {wrote r₁ : ℕ} {room₁ : List ℕ} {r₂ : ℕ} {room₂ : List ℕ} (ts : List Terminal) (i : ℕ) (d : Terminal)
    → i < length ts
    → Put room wrote (terminals_octets (take i ts)) r₁ room₁
    → Put room₁ r₁ (terminal_octets (get_or ts i d)) r₂ room₂
    → Put room wrote (terminals_octets (take (i + 1) ts)) r₂ room₂
put_next ts i d h p q = rw (terminals_next ts i d h) (put_put p q)
