-- What text laid into lent room leaves: two puts are one, and where the text fits, it stands behind what was written and nothing else changes.
use mathlib.Core.List.{List, [], ◌∷◌, ◌++◌}
use mathlib.Core.Path.{◌≡◌, refl, sym, ap, ◌∙◌}
use Prim.Native.Nat.{ℕ, zero, suc, ◌+◌, ◌-◌, ◌≤◌, ◌<◌, min}
use native.Mathlib.Numerals.{add-one}
use native.Mathlib.Omega.{arith}
use borrow.Rule.Slice.PartMut.{put_mid}
use lib.ListN.{length, get_or, set, take, drop, length-append}
use lib.Seq.{take-suc, length-take-le}
use Rattle.note_text.specs.Room.{laid, wrote_after, Put}

pub laid_none : (room : List ℕ) (wrote : ℕ) → laid room wrote [] ≡ room
unfolding laid
laid_none [] wrote = refl
laid_none (x ∷ room) zero = refl
laid_none (x ∷ room) (suc wrote) = rw (laid_none room wrote)

pub length_laid : (room : List ℕ) (wrote : ℕ) (text : List ℕ) → length (laid room wrote text) ≡ length room
unfolding laid
length_laid [] wrote text = refl
length_laid (x ∷ room) (suc wrote) text = rw (length_laid room wrote text)
length_laid (x ∷ room) zero [] = refl
length_laid (x ∷ room) zero (c ∷ text) = rw (length_laid room zero text)

-- one octet, where there is room or not
laid_one : (room : List ℕ) (wrote c : ℕ) → laid room wrote (c ∷ []) ≡ set room wrote c
unfolding laid
laid_one [] wrote c = refl
laid_one (x ∷ room) (suc wrote) c = rw (laid_one room wrote c)
laid_one (x ∷ room) zero c = rw (laid_none room zero)

-- a text behind another: both together
laid_laid : (room : List ℕ) (wrote : ℕ) (s t : List ℕ) → laid (laid room wrote s) (wrote_after room wrote s) t ≡ laid room wrote (s ++ t)
unfolding laid
laid_laid [] wrote s t = refl
laid_laid (x ∷ room) (suc wrote) s t =
    let e : min (suc wrote + length s) (suc (length room)) ≡ suc (min (wrote + length s) (length room)) = omega arith in
    rw (e, laid_laid room wrote s t)
laid_laid (x ∷ room) zero [] t =
    let e : min (zero + zero) (suc (length room)) ≡ zero = omega arith in rw e
laid_laid (x ∷ room) zero (c ∷ s) t =
    let e : min (zero + suc (length s)) (suc (length room)) ≡ suc (min (zero + length s) (length room)) = omega arith in
    rw (e, laid_laid room zero s t)

-- two puts are one put of the texts together
pub put_put : {room : List ℕ} {wrote : ℕ} {s : List ℕ} {r₁ : ℕ} {room₁ : List ℕ} {t : List ℕ} {r₂ : ℕ} {room₂ : List ℕ} →
    Put room wrote s r₁ room₁ → Put room₁ r₁ t r₂ room₂ → Put room wrote (s ++ t) r₂ room₂
put_put {room} {wrote} {s} {r₁} {room₁} {t} {r₂} {room₂} p q =
    record {
      wrote_is =
          let e : length room₁ ≡ length room = ap length p.room_is ∙ length_laid room wrote s in
          q.wrote_is ∙ rw (p.wrote_is, e, length-append s t) (omega arith);
      room_is = q.room_is ∙ rw (p.room_is, p.wrote_is) (laid_laid room wrote s t);
    }

-- the empty text: the room stays, and what is said to be written past its end is not
pub put_start : (room : List ℕ) (wrote : ℕ) {r : ℕ} → r ≡ min wrote (length room) → Put room wrote [] r room
put_start room wrote h = record { wrote_is = omega arith; room_is = sym (laid_none room wrote) }

-- where so much is written, nothing changes
pub put_none : (room : List ℕ) (wrote : ℕ) → wrote ≤ length room → Put room wrote [] wrote room
put_none room wrote h = put_start room wrote (omega arith)

-- a put keeps the room's length
pub put_length : {room : List ℕ} {wrote : ℕ} {text : List ℕ} {r : ℕ} {room' : List ℕ} → Put room wrote text r room' → length room' ≡ length room
put_length {room} {wrote} {text} p = ap length p.room_is ∙ length_laid room wrote text

-- ---- Where the text fits.
pub wrote_fits : (room : List ℕ) (wrote : ℕ) (text : List ℕ) → wrote + length text ≤ length room → wrote_after room wrote text ≡ wrote + length text
wrote_fits room wrote text h = omega arith

-- it stands behind what was written
pub take_laid : (room : List ℕ) (wrote : ℕ) (text : List ℕ) → wrote + length text ≤ length room
    → take (wrote + length text) (laid room wrote text) ≡ take wrote room ++ text
unfolding laid
take_laid [] zero [] h = refl
take_laid [] zero (c ∷ text) h = absurd (omega arith)
take_laid [] (suc wrote) text h = absurd (omega arith)
take_laid (x ∷ room) (suc wrote) text h =
    let e : suc wrote + length text ≡ suc (wrote + length text) = omega arith in rw (e, take_laid room wrote text (omega arith))
take_laid (x ∷ room) zero [] h = refl
take_laid (x ∷ room) zero (c ∷ text) h =
    let e : zero + suc (length text) ≡ suc (zero + length text) = omega arith in rw (e, take_laid room zero text (omega arith))

-- what is past it stays
pub drop_laid : (room : List ℕ) (wrote : ℕ) (text : List ℕ) → wrote + length text ≤ length room
    → drop (wrote + length text) (laid room wrote text) ≡ drop (wrote + length text) room
unfolding laid
drop_laid [] wrote text h = refl
drop_laid (x ∷ room) (suc wrote) text h =
    let e : suc wrote + length text ≡ suc (wrote + length text) = omega arith in rw (e, drop_laid room wrote text (omega arith))
drop_laid (x ∷ room) zero [] h = refl
drop_laid (x ∷ room) zero (c ∷ text) h =
    let e : zero + suc (length text) ≡ suc (zero + length text) = omega arith in rw (e, drop_laid room zero text (omega arith))

-- all four of a put
pub record Whole (room : List ℕ) (wrote : ℕ) (text : List ℕ) (r : ℕ) (room' : List ℕ) : Type 0 where
  pub wrote_is : r ≡ wrote + length text
  pub front_is : take r room' ≡ take wrote room ++ text
  pub rest_stays : drop r room' ≡ drop r room
  pub length_stays : length room' ≡ length room

pub put_whole : {room : List ℕ} {wrote : ℕ} {text : List ℕ} {r : ℕ} {room' : List ℕ}
    → Put room wrote text r room' → wrote + length text ≤ length room → Whole room wrote text r room'
put_whole {room} {wrote} {text} {r} {room'} p h =
    let e : r ≡ wrote + length text = p.wrote_is ∙ wrote_fits room wrote text h in
    record {
      wrote_is = e;
      front_is = rw (e, p.room_is) (take_laid room wrote text h);
      rest_stays = rw (e, p.room_is) (drop_laid room wrote text h);
      length_stays = put_length p;
    }

-- ---- A text copied over the room's octets from `start` on, as far as there is room.
laid_mid : (room : List ℕ) (wrote : ℕ) (text : List ℕ) (start n : ℕ)
    → start ≡ min wrote (length room) → n ≡ min (length text) (length room - start) → put_mid start n room (take n text) ≡ laid room wrote text
unfolding laid
laid_mid [] wrote text start n e f =
    let z : start ≡ zero = omega arith in let y : n ≡ zero = omega arith in rw (z, y)
laid_mid (x ∷ room) (suc wrote) text start n e f =
    let z : start ≡ suc (min wrote (length room)) = omega arith in
    rw (z, laid_mid room wrote text (min wrote (length room)) n refl (omega arith))
laid_mid (x ∷ room) zero [] start n e f =
    let z : start ≡ zero = omega arith in let y : n ≡ zero = omega arith in rw (z, y)
laid_mid (x ∷ room) zero (c ∷ text) start n e f =
    let z : start ≡ zero = omega arith in
    let y : n ≡ suc (min (length text) (length room)) = omega arith in
    rw (z, y, laid_mid room zero text zero (min (length text) (length room)) (omega arith) (omega arith))

pub put_copied : (room : List ℕ) (wrote : ℕ) (text : List ℕ) (start n k : ℕ) (part : List ℕ)
    → start ≡ min wrote (length room) → n ≡ min (length text) (length room - start) → k ≡ n → part ≡ take n text
    → Put room wrote text (start + n) (put_mid start k room part)
put_copied room wrote text start n k part e f g h =
    record { wrote_is = omega arith; room_is = rw (g, h) (laid_mid room wrote text start n e f) }

-- ---- One octet after the other, as the loop of `put` lays them.
laid_next : (room : List ℕ) (wrote : ℕ) (text : List ℕ) (i : ℕ) → wrote + i < length room → i < length text
    → set (laid room wrote (take i text)) (wrote + i) (get_or text i 0) ≡ laid room wrote (take (i + 1) text)
laid_next room wrote text i h k =
    let e : wrote_after room wrote (take i text) ≡ wrote + i = rw (length-take-le i text (omega arith)) (omega arith) in
    sym (laid_one (laid room wrote (take i text)) (wrote + i) (get_or text i 0))
    ∙ rw (add-one i, take-suc text i 0 k, ← laid_laid room wrote (take i text) (get_or text i 0 ∷ []), e)

-- as many octets as there is room for
laid_enough : (room : List ℕ) (wrote : ℕ) (text : List ℕ) (n : ℕ) → min (length text) (length room - wrote) ≤ n
    → laid room wrote (take n text) ≡ laid room wrote text
unfolding laid
laid_enough [] wrote text n h = refl
laid_enough (x ∷ room) (suc wrote) text n h = rw (laid_enough room wrote text n (omega arith))
laid_enough (x ∷ room) zero [] zero h = refl
laid_enough (x ∷ room) zero [] (suc n) h = refl
laid_enough (x ∷ room) zero (c ∷ text) zero h = absurd (omega arith)
laid_enough (x ∷ room) zero (c ∷ text) (suc n) h = rw (laid_enough room zero text n (omega arith))

-- Where the loop stands: i octets of `count` are laid.
pub record Laying (room₀ : List ℕ) (wrote : ℕ) (text : List ℕ) (start count : ℕ) (room : List ℕ) (i : ℕ) : Type 0 where
  pub start_is : start ≡ min wrote (length room₀)
  pub count_is : count ≡ min (length text) (length room₀ - start)
  pub within : i ≤ count
  pub room_is : room ≡ laid room₀ wrote (take i text)

module _ (room₀ : List ℕ) (wrote : ℕ) (text : List ℕ) (start count : ℕ) (room : List ℕ) (i : ℕ) (l : Laying room₀ wrote text start count room i) where
  pub laying_length : length room ≡ length room₀
  laying_length = ap length l.room_is ∙ length_laid room₀ wrote (take i text)

  pub laying_next : i < count → Laying room₀ wrote text start count (set room (start + i) (get_or text i 0)) (i + 1)
  laying_next h =
      let e : start ≡ wrote = omega arith in
      record {
        start_is = l.start_is;
        count_is = l.count_is;
        within = omega arith;
        room_is = rw (l.room_is, e) (laid_next room₀ wrote text i (omega arith) (omega arith));
      }

  pub laying_ends : count ≤ i → Put room₀ wrote text (start + i) room
  laying_ends h =
      record { wrote_is = omega arith; room_is = l.room_is ∙ laid_enough room₀ wrote text i (omega arith) }
