-- The laws of `specs/Laws.antt`, proved under the same names in small letters.
use mathlib.Core.Path.{◌≡◌, refl, sym, ◌∙◌, ap}
use mathlib.Core.Bool.{true, false}
use mathlib.Core.List.{List}
use Prim.Native.Nat.{ℕ}
use native.Mathlib.Omega.{arith}
use borrow.Author.Tests.{eq-eqb}
use lib.Dec.{eqb}
use lib.ListN.{length}
use Rattle.test_lemmas.proofs.ByCases.{by_test}
use Rattle.symbols.specs.Symbols.{line_length, is_line, same_symbols}
use Rattle.frame.specs.Down.{down_line, down_fields_of}
use Rattle.frame.specs.Up.{up_line, up_fields_of}
use Rattle.frame_reader.specs.Read.{read_by, down_read, up_read}
use Rattle.std.specs.Prelude.{Result, Ok, Err}
use Rattle.refusals.specs.declared.Refusal.{Refusal}
use Rattle.refusals.specs.Numbers.{number}
use Rattle.refusals.specs.declared.Refusal.TheVariants.{WrongSlice, NoFrame}
use Rattle.frame_reader.proofs.Laws as reader
use Rattle.host_frames.specs.Octets.{fields_length, down_octets, down_from, up_octets, up_from}
use Rattle.host_frames.specs.Calls.{Outcome, wrote, refused, reply_of, left_of, as_down_read, octets_read, frame_read, accepts, line_from, frame_written}
use Rattle.host_frames.specs.Laws
use Rattle.host_frames.proofs.Octets.{down_taken, down_back, up_taken, up_back, down_exact, up_exact}

pub round_trip_down : Laws.RoundTripDown
round_trip_down f = (down_taken f, down_back f)

pub round_trip_up : Laws.RoundTripUp
round_trip_up f = (up_taken f, up_back f)

pub exact_down : Laws.ExactDown
exact_down fs e = down_exact fs e

pub exact_up : Laws.ExactUp
exact_up fs e = up_exact fs e

-- ---- The calls. What is written, and that it is read back.
written : (up : ℕ) (fs symbols : List ℕ) → accepts up fs ≡ true → length symbols ≡ line_length → frame_written up fs symbols ≡ wrote (line_from up fs)
unfolding frame_written
written up fs symbols e h = rw (e, eq-eqb (length symbols) line_length h)

read_back : (up : ℕ) (fs fields : List ℕ) → Laws.AreOctets fs → accepts up fs ≡ true → length fields ≡ fields_length → frame_read up (line_from up fs) fields ≡ wrote fs
unfolding frame_read
read_back up fs fields small e k =
    rw (eq-eqb (length fields) fields_length k)
    (by_test (eqb up 0)
    (λ t. rw (t, reader.round_trip_down (down_from fs) (record { b1first = small 0; b2first = small 1; b1second = small 2; b2second = small 3 }), down_exact fs (rw t at e)))
    (λ t. rw (t, reader.round_trip_up (up_from fs) (record { b1first = small 0; b2first = small 1; b1second = small 2; b2second = small 3 }), up_exact fs (rw t at e))))

pub write_then_read : Laws.WriteThenRead
write_then_read up fs symbols fields small e h k = let w = written up fs symbols e h in (rw w, rw w (read_back up fs fields small e k))

-- A reading that replies 0 gives the fields taken from the line.
module _ {F : Type 0} (write : F → List ℕ) (taken : List ℕ → F) (reply : Result F Refusal → ℕ) (numbered : (r : Refusal) → reply (Err r) ≡ number r) where
  zero_read : (l : List ℕ) → reply (read_by write taken l) ≡ 0 → read_by write taken l ≡ Ok (taken l)
  unfolding read_by
  zero_read l z =
      by_test (is_line l)
      (λ h. by_test (same_symbols l (write (taken l))) (λ s. rw (h, s)) (λ s. absurd (omega (arith, rw (h, s) at z, numbered NoFrame))))
      (λ h. absurd (omega (arith, rw h at z, numbered WrongSlice)))

pub read_then_write : Laws.ReadThenWrite
unfolding frame_read
read_then_write up l fields symbols z h =
    by_test (eqb (length fields) fields_length)
    (λ k. by_test (eqb up 0) (λ t. rw (k, t) (downward t (rw (k, t) at z))) (λ t. rw (k, t) (upward t (rw (k, t) at z))))
    (λ k. absurd (omega (arith, rw k at z)))
  where
    downward : eqb up 0 ≡ true → reply_of (octets_read (down_read l)) ≡ 0 → frame_written up (left_of (octets_read (down_read l)) fields) symbols ≡ wrote l
    downward t zero =
        let f = down_fields_of l in
        let read = zero_read down_line down_fields_of (λ r. reply_of (octets_read r)) (λ r. refl) l zero in
        rw read (written up (down_octets f) symbols (rw t (down_taken f)) h ∙ rw (t, down_back f) (ap wrote (sym (reader.exact_down l f read).1)))

    upward : eqb up 0 ≡ false → reply_of (octets_read (as_down_read (up_read l))) ≡ 0 → frame_written up (left_of (octets_read (as_down_read (up_read l))) fields) symbols ≡ wrote l
    upward t zero =
        let f = up_fields_of l in
        let read = zero_read up_line up_fields_of (λ r. reply_of (octets_read (as_down_read r))) (λ r. refl) l zero in
        rw read (written up (up_octets f) symbols (rw t (up_taken f)) h ∙ rw (t, up_back f) (ap wrote (sym (reader.exact_up l f read).1)))

-- A call that does not reply 0 leaves what it was lent.
kept : (o : Outcome) (lent : List ℕ) → (reply_of o ≡ 0 → ⊥) → left_of o lent ≡ lent
kept (wrote new) lent h = absurd (h refl)
kept (refused n) lent h = refl

pub refused_read : Laws.RefusedRead
refused_read up given lent h = kept (frame_read up given lent) lent h

pub refused_written : Laws.RefusedWritten
refused_written up given lent h = kept (frame_written up given lent) lent h
