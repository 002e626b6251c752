-- Every method keeps every field in its range.
use mathlib.Core.Bool.{Bool, true, ◌&&◌}
use mathlib.Core.Path.{◌≡◌}
use Prim.Native.Nat.{ℕ, ◌+◌, ◌≤◌, ◌<◌}
use native.Mathlib.Omega.{arith}
use lib.Dec.{leb, eqb}
use borrow.Author.Tests.{leb-true, le-leb}
use Rattle.test_lemmas.proofs.ByCases.{by_test}
use Rattle.hdlc.specs.Image.{shortest_image, longest_image}
use Rattle.dchannel.specs.Access.{fresh, entered, after_e, sends_next, stops, completes, idles, access_step}
use Rattle.dchannel.specs.Handing.{taken_up, left}
use Rattle.dchannel.specs.Calls.{class_number, is_image_length, handed}
use Rattle.dchannel.specs.Ranges.{access_in_range}
use Rattle.dchannel.specs.declared.access.Access.{Access}
use Rattle.dchannel.specs.declared.access.Class.{Class}
use Rattle.dchannel.specs.declared.access.Class.TheVariants.{One, Two}
use Rattle.dchannel.proofs.AccessLaws.{by_ways, count_most}
use Rattle.test_lemmas.proofs.Operators.{and_both}

-- what the range of an access record says
pub record AccessFits (x2 : ℕ) (a : Access) : Type 0 where
  pub held_fits : a.held ≤ 2
  pub length_fits : a.length ≤ longest_image
  pub sent_fits : a.sent ≤ longest_image
  pub count_fits : a.count ≤ x2 + 1

module _ (x2 : ℕ) (a : Access) where
  pub access_fits : access_in_range x2 a ≡ true → AccessFits x2 a
  unfolding access_in_range
  access_fits h =
      let p = and_both (leb a.held 2 && leb a.length longest_image && leb a.sent longest_image) (leb a.count (x2 + 1)) h in
      let q = and_both (leb a.held 2 && leb a.length longest_image) (leb a.sent longest_image) p.0 in
      let r = and_both (leb a.held 2) (leb a.length longest_image) q.0 in
      record {
        held_fits = leb-true a.held 2 r.0;
        length_fits = leb-true a.length longest_image r.1;
        sent_fits = leb-true a.sent longest_image q.1;
        count_fits = leb-true a.count (x2 + 1) p.1;
      }

  pub fits_access : AccessFits x2 a → access_in_range x2 a ≡ true
  unfolding access_in_range
  fits_access f =
      simp (
        le-leb a.held 2 f.held_fits,
        le-leb a.length longest_image f.length_fits,
        le-leb a.sent longest_image f.sent_fits,
        le-leb a.count (x2 + 1) f.count_fits,
      )

class_fits : (class : Class) → class_number class ≤ 2
class_fits One = omega arith
class_fits Two = omega arith

module _ (x2 : ℕ) where
  pub fresh_in_range : access_in_range x2 fresh ≡ true
  fresh_in_range =
      fits_access x2 fresh (record { held_fits = omega arith; length_fits = omega arith; sent_fits = omega arith; count_fits = omega arith })

  pub left_in_range : (a : Access) → access_in_range x2 (left a).access ≡ true
  unfolding left
  left_in_range a = fresh_in_range

  module _ (a : Access) (h : access_in_range x2 a ≡ true) where
    fits : AccessFits x2 a
    fits = access_fits x2 a h

    pub entered_in_range : access_in_range x2 (entered a) ≡ true
    unfolding entered
    entered_in_range =
        fits_access x2 (entered a)
        (record { held_fits = fits.held_fits; length_fits = fits.length_fits; sent_fits = fits.sent_fits; count_fits = omega arith })

    pub handed_in_range : (class : Class) (n : ℕ) → access_in_range x2 (handed class n a).access ≡ true
    unfolding handed is_image_length taken_up
    handed_in_range class n =
        by_test (is_image_length n)
        (λ i. by_test (eqb a.held 0)
        (λ e.
        simp (i, e)
        (fits_access x2 (taken_up (class_number class) n a)
        (record {
          held_fits = class_fits class;
          length_fits = leb-true n longest_image (and_both (leb shortest_image n) (leb n longest_image) i).1;
          sent_fits = omega arith;
          count_fits = fits.count_fits;
        })))
        (λ e. simp (i, e) h))
        (λ i. simp i h)

    module _ (x1 : ℕ) (e next : Bool) where
      -- a bit leaves only where one is left of the image, or where none has left
      sends_fits : a.sent < longest_image → AccessFits x2 (sends_next next (after_e x1 x2 e a)).access
      unfolding sends_next after_e
      sends_fits l =
          record { held_fits = fits.held_fits; length_fits = fits.length_fits; sent_fits = omega arith; count_fits = count_most x2 e a.count }

      access_step_fits : AccessFits x2 (access_step x1 x2 e next a).access
      unfolding completes stops idles after_e
      access_step_fits =
          by_ways x1 x2 e next a (λ t. AccessFits x2 t.access) (λ s q l. sends_fits (omega (arith, fits.length_fits)))
          (λ s q l. record { held_fits = omega arith; length_fits = omega arith; sent_fits = omega arith; count_fits = count_most x2 e a.count })
          (λ s d.
          record { held_fits = fits.held_fits; length_fits = fits.length_fits; sent_fits = omega arith; count_fits = count_most x2 e a.count })
          (λ s m. sends_fits (omega arith))
          (λ s m.
          record { held_fits = fits.held_fits; length_fits = fits.length_fits; sent_fits = fits.sent_fits; count_fits = count_most x2 e a.count })

      pub access_step_in_range : access_in_range x2 (access_step x1 x2 e next a).access ≡ true
      access_step_in_range = fits_access x2 (access_step x1 x2 e next a).access access_step_fits
