-- What the calls answer and leave, from what their tests say.
use mathlib.Core.Path.{◌≡◌, ◌∙◌}
use mathlib.Core.Bool.{Bool, true, false, cond, ◌&&◌}
use mathlib.Core.List.{List}
use Prim.Native.Nat.{ℕ, ◌+◌, ◌-◌}
use native.Mathlib.Omega.{arith}
use borrow.Author.Tests.{eq-eqb, ne_eqb}
use lib.Dec.{eqb}
use lib.ListN.{length, take, drop, length-take, length-drop}
use lib.Seq.{take_all}
use Rattle.test_lemmas.proofs.ByCases.{by_test}
use Rattle.symbols.specs.Symbols.{within, fits}
use Rattle.symbols.specs.Calls.{has_line_length, reply}
use Rattle.frame.specs.Down.{down_line}
use Rattle.frame.specs.Up.{up_line}
use Rattle.frame.specs.declared.fields.DownFields.{DownFields}
use Rattle.frame_reader.specs.Read.{down_read, up_read}
use Rattle.frame.specs.declared.fields.UpFields.{UpFields}
use Rattle.std.specs.Prelude.{Result}
use Rattle.refusals.specs.declared.Refusal.{Refusal}
use Rattle.host_frames.specs.Octets.{fields_length, down_from, up_part, is_down}
use Rattle.refusals.specs.Numbers.{reply_of as number_of}
use Rattle.host_frames.specs.Calls.{wrote, refused, reply_of, as_down_read, read_as, accepts, frame_written}

-- ---- Reading.
module _ (up : ℕ) (l : List ℕ) where
  pub read_downward : {r : Result DownFields Refusal} → up ≡ 0 → r ≡ down_read l → r ≡ read_as up l
  read_downward h e = rw h e

  pub read_upward : (r : Result UpFields Refusal) → (up ≡ 0 → ⊥) → r ≡ up_read l → as_down_read r ≡ read_as up l
  read_upward r h e = rw (ne_eqb up 0 h, ← e)

-- ---- Writing.
-- The length of a part of octets is right: the test of the part is that of its codes.
part_fits : (at n top : ℕ) (fs : List ℕ) → length fs ≡ at + n → fits n top (take (length fs - at) (drop at fs)) ≡ within top (drop at fs)
unfolding fits
part_fits at n top fs h =
    let long : length (drop at fs) ≡ n = rw length-drop (omega arith) in
    rw (take_all (length fs - at) (drop at fs) (rw length-drop (omega arith)), eq-eqb (length (drop at fs)) n long)

module _ (up : ℕ) (fs : List ℕ) where
  pub accepts_none : (length fs ≡ fields_length → ⊥) → false ≡ accepts up fs
  unfolding is_down
  accepts_none h = let e = ne_eqb (length fs) fields_length h in by_test (eqb up 0) (λ t. rw (t, e)) (λ t. rw (t, e))

  module _ (long : length fs ≡ fields_length) {d : Bool} (e : d ≡ fits 12 1 (take (length fs - 4) (drop 4 fs))) where
    down_is : d ≡ is_down fs
    unfolding is_down
    down_is = rw (eq-eqb (length fs) fields_length long) (e ∙ part_fits 4 12 1 fs long)

    pub accepts_downward : up ≡ 0 → d ≡ accepts up fs
    accepts_downward h = rw h down_is

    -- E and A, and M and S
    echoes_fit : fits 5 0 (take 5 (drop 8 fs)) ≡ within 0 (take 5 (drop 8 fs))
    unfolding fits
    echoes_fit =
        let part : length (take 5 (drop 8 fs)) ≡ 5 = rw (length-take, length-drop) (omega arith) in
        rw (eq-eqb (length (take 5 (drop 8 fs))) 5 part)

    pub accepts_upward : {u v : Bool} → (up ≡ 0 → ⊥) → u ≡ fits 5 0 (take 5 (drop 8 fs)) → v ≡ fits 2 0 (take (length fs - 14) (drop 14 fs))
        → (d && (u && v)) ≡ accepts up fs
    accepts_upward h k l = rw (ne_eqb up 0 h, down_is, k, l, echoes_fit, part_fits 14 2 0 fs long)

  -- the line that is written, by the frame's writer
  module _ (lent : List ℕ) where
    pub written_refused : accepts up fs ≡ false → frame_written up fs lent ≡ refused 2
    unfolding frame_written
    written_refused h = rw h

    pub written_downward : accepts up fs ≡ true → up ≡ 0 → frame_written up fs lent ≡ cond (has_line_length lent) (wrote (down_line (down_from fs))) (refused 2)
    unfolding frame_written
    written_downward h z = rw (h, z)

    pub written_upward : accepts up fs ≡ true → (up ≡ 0 → ⊥) → frame_written up fs lent ≡ cond (has_line_length lent) (wrote (up_line (up_part (down_from fs)))) (refused 2)
    unfolding frame_written
    written_upward h z = rw (h, ne_eqb up 0 z)

-- what the writer replies is what the call does
pub reply_written : (line lent : List ℕ) → number_of (reply (has_line_length lent)) ≡ reply_of (cond (has_line_length lent) (wrote line) (refused 2))
reply_written line lent = by_test (has_line_length lent) (λ t. rw t) (λ t. rw t)
