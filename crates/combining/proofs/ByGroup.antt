-- Upward frames are combined group by group.
use mathlib.Core.Path.{◌≡◌, refl, sym, ap, ◌∙◌}
use mathlib.Core.Bool.{Bool, true, false, cond, ◌&&◌}
use mathlib.Core.List.{List, [], ◌∷◌, map, map-map}
use Prim.Native.Nat.{ℕ}
use borrow.Author.Tests.{eqb-true}
use lib.Dec.{eqb}
use lib.ListN.{get_or}
use Rattle.test_lemmas.proofs.ByCases.{and_left, and_right}
use Rattle.symbols.specs.Symbols.{line_length, none, plus, minus, within, tabulate}
use Rattle.frame.specs.Four.{pick, and_all}
use Rattle.frame.specs.Bits.{octet_bits, zeros}
use Rattle.frame.specs.Polarity.{alternate}
use Rattle.frame.specs.Up.{up_line}
use Rattle.frame.specs.Groups.{group_symbols, up_groups, laid_out}
use Rattle.frame.specs.declared.fields.Four.{Four}
use Rattle.frame.specs.declared.fields.UpFields.{UpFields}
use Rattle.frame.proofs.Laws.{groups_up, pick_and, pick_ones}
use Rattle.info.specs.Info.{info3, info3_fields}
use Rattle.combining.specs.Combine.{column, combined_over, combined}
use Rattle.combining.specs.Groups.{Combines, all_of, of_sender}
use Rattle.combining.specs.Groups.Combines.{end, group}
use Rattle.combining.specs.SentD.{is_info3, joint_fields}
use Rattle.combining.proofs.Columns.{map_ext, combined_parts, combined_alike, combined_plus, combined_minus}

laid_out_lem : {X : Type 0} {xs : List X} {gs : List (X → List ℕ)} {n : ℕ} {l : List ℕ} → Combines xs gs n l → combined_over n (map (laid_out gs) xs) ≡ l
unfolding tabulate
laid_out_lem end = refl
laid_out_lem {X} {xs} (group {g} {gs} {m} {n} w e more) = combined_parts m g (laid_out gs) w xs n ∙ rw (e, laid_out_lem more)

pub combined_frames : {X : Type 0} (fields : X → UpFields) (xs : List X) (l : List ℕ)
    → Combines xs (of_sender fields up_groups) line_length l → combined (map (λ x. up_line (fields x)) xs) ≡ l
unfolding combined
combined_frames fields xs l c =
    ap (combined_over line_length) (map_ext (λ x. up_line (fields x)) (laid_out (of_sender fields up_groups)) (λ x. groups_up (fields x)) xs) ∙ laid_out_lem c

-- ---- The group of a bit.
group_of_bit : (b : Bool) → group_symbols (b ∷ []) ≡ cond b none minus ∷ cond b none plus ∷ []
unfolding alternate zeros
group_of_bit true = refl
group_of_bit false = refl

bit_column : {X : Type 0} (i : ℕ) (s : Bool → ℕ) → ((c : Bool) → get_or (group_symbols (c ∷ [])) i none ≡ s c) → (b : X → Bool) (xs : List X)
    → column i (map (λ x. group_symbols (b x ∷ [])) xs) ≡ map (λ x. s (b x)) xs
bit_column i s h b xs =
    map-map (λ l. get_or l i none) (λ x. group_symbols (b x ∷ [])) xs
    ∙ map_ext (λ x. get_or (group_symbols (b x ∷ [])) i none) (λ x. s (b x)) (λ x. h (b x)) xs

pub group_bit : {X : Type 0} (b : X → Bool) (xs : List X) → combined_over 2 (map (λ x. group_symbols (b x ∷ [])) xs) ≡ group_symbols (all_of b xs ∷ [])
unfolding tabulate
group_bit b xs =
    rw (
      bit_column 0 (λ c. cond c none minus) (λ c. ap (λ (l : List ℕ). get_or l 0 none) (group_of_bit c)) b xs,
      bit_column 1 (λ c. cond c none plus) (λ c. ap (λ (l : List ℕ). get_or l 1 none) (group_of_bit c)) b xs,
      combined_minus b xs,
      combined_plus b xs,
    )
    (sym (group_of_bit (all_of b xs)))

-- ---- INFO 3 together.
pub all_and : (k : ℕ) (ds : List Four) → all_of (pick k) ds ≡ pick k (and_all ds)
unfolding all_of and_all
all_and k [] = sym (pick_ones k)
all_and k (d ∷ ds) = rw (all_and k ds, ← pick_and k d (and_all ds))

-- A frame with B at 1 is INFO 3 with its FA and D.
abbrev as_idle : UpFields → UpFields
as_idle f = info3_fields f.fa f.d

idle_is : (f : UpFields) → is_info3 f ≡ true → f ≡ as_idle f
idle_is f e =
    let b1 = eqb f.b1first 255 in
    let b2 = eqb f.b2first 255 in
    let b3 = eqb f.b1second 255 in
    let b4 = eqb f.b2second 255 in
    let rest = and_right b1 (b2 && (b3 && b4)) e in
    let last = and_right b2 (b3 && b4) rest in
    rw (
      eqb-true f.b1first 255 (and_left b1 (b2 && (b3 && b4)) e),
      eqb-true f.b2first 255 (and_left b2 (b3 && b4) rest),
      eqb-true f.b1second 255 (and_left b3 b4 last),
      eqb-true f.b2second 255 (and_right b3 b4 last),
    )

pub all_idle : (fs : List UpFields) → all_of is_info3 fs ≡ true → map up_line fs ≡ map (λ f. up_line (as_idle f)) fs
unfolding all_of
all_idle [] e = refl
all_idle (f ∷ fs) e = rw (← idle_is f (and_left (is_info3 f) (all_of is_info3 fs) e), ← all_idle fs (and_right (is_info3 f) (all_of is_info3 fs) e))

of_map : (k : ℕ) (fs : List UpFields) → all_of (λ (f : UpFields). pick k f.d) fs ≡ all_of (pick k) (map (λ (f : UpFields). f.d) fs)
unfolding all_of
of_map k [] = refl
of_map k (f ∷ fs) = rw (of_map k fs)

module _ (f : UpFields) (fs : List UpFields) where
  abbrev joint_d : Four
  joint_d = and_all (map (λ (x : UpFields). x.d) (f ∷ fs))

  d_group : (k : ℕ) → combined_over 2 (map (λ x. group_symbols (pick k x.d ∷ [])) (f ∷ fs)) ≡ group_symbols (pick k joint_d ∷ [])
  d_group k =
      group_bit (λ x. pick k x.d) (f ∷ fs)
      ∙ ap (λ (b : Bool). group_symbols (b ∷ [])) (of_map k (f ∷ fs) ∙ all_and k (map (λ (x : UpFields). x.d) (f ∷ fs)))

  octet_group : combined_over 9 (map (λ (x : UpFields). group_symbols (octet_bits 255)) (f ∷ fs)) ≡ group_symbols (octet_bits 255)
  unfolding alternate octet_bits zeros within
  octet_group = combined_alike 9 (group_symbols (octet_bits 255)) f fs refl refl

  joint_idle : combined (map (λ x. up_line (as_idle x)) (f ∷ fs)) ≡ up_line (joint_fields (f ∷ fs))
  unfolding pick alternate octet_bits zeros within
  joint_idle =
      combined_frames as_idle (f ∷ fs) (laid_out up_groups (joint_fields (f ∷ fs)))
      (group (λ x. refl) (combined_alike 2 (plus ∷ minus ∷ []) f fs refl refl)
      (group (λ x. refl) octet_group
      (group (λ x. refl) (d_group 0)
      (group (λ x. refl) (group_bit (λ x. x.fa) (f ∷ fs))
      (group (λ x. refl) octet_group
      (group (λ x. refl) (d_group 1)
      (group (λ x. refl) octet_group
      (group (λ x. refl) (d_group 2)
      (group (λ x. refl) octet_group
      (group (λ x. refl) (d_group 3)
      end))))))))))
      ∙ sym (groups_up (joint_fields (f ∷ fs)))

  pub combined_idle : all_of is_info3 (f ∷ fs) ≡ true → combined (map up_line (f ∷ fs)) ≡ up_line (joint_fields (f ∷ fs))
  combined_idle e = ap combined (all_idle (f ∷ fs) e) ∙ joint_idle

-- INFO 3 where no cycle runs: FA is 0 of each, and so of all.
abbrev off_fields : Four → UpFields
off_fields d = info3_fields false d

off_idle : (ds : List Four) → all_of is_info3 (map off_fields ds) ≡ true
unfolding all_of
off_idle [] = refl
off_idle (d ∷ ds) = off_idle ds

off_d : (ds : List Four) → map (λ (f : UpFields). f.d) (map off_fields ds) ≡ ds
off_d [] = refl
off_d (d ∷ ds) = rw (off_d ds)

pub combined_info3 : (d : Four) (ds : List Four) → combined (map info3 (d ∷ ds)) ≡ info3 (and_all (d ∷ ds))
unfolding all_of
combined_info3 d ds =
    rw (map-map up_line off_fields (d ∷ ds), off_d ds) at (combined_idle (off_fields d) (map off_fields ds) (off_idle (d ∷ ds)))
