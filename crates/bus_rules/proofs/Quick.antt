-- The laws of `specs/Quick.antt`, proved under the same names in small letters.
use mathlib.Core.Path.{◌≡◌, refl, sym, ap, ◌∙◌}
use mathlib.Core.Bool.{Bool, true, false, not, cond, ◌&&◌, true≢false}
use mathlib.Core.List.{List, [], ◌∷◌, ◌++◌, map}
use Prim.Native.Nat.{ℕ, zero, suc, ◌<◌}
use native.Mathlib.Numerals.{add-one}
use native.Mathlib.Omega.{arith}
use lib.Dec.{eqb}
use lib.ListN.{length, get_or, length-append}
use lib.Seq.{get_or_at}
use borrow.Author.Tests.{eqb-true}
use Rattle.test_lemmas.proofs.ByCases.{by_test}
use Rattle.symbols.specs.Symbols.{levels}
use Rattle.frame.specs.Four.{pick, filled_with_ones, all_four, and_all}
use Rattle.frame.specs.Bits.{d_bits, fa_bit, fa_index}
use Rattle.frame.specs.Down.{e_bits, s_bit, s_index}
use Rattle.frame.specs.declared.fields.Four.{Four}
use Rattle.frame.specs.declared.fields.CycleBits.{CycleBits}
use Rattle.frame.specs.declared.fields.UpFields.{UpFields}
use Rattle.frame.proofs.Laws.{pick_and, pick_ones, pick_filled}
use Rattle.info.specs.Info.{info1}
use Rattle.info.proofs.Laws.{e_info0, e_info2, e_info4, fa_info0, fa_info2, fa_info4, s_info0, s_info2, s_info4, line_info1}
use Rattle.combining.specs.Combine.{combined}
use Rattle.combining.specs.Groups.{all_of}
use Rattle.combining.specs.Sent.{Sent}
use Rattle.combining.specs.SentD.{sent_d, sent_fa, any_calling, frames, is_info3, frames_line}
use Rattle.combining.specs.Sent.Sent.{silent, calling, frame}
use Rattle.combining.proofs.Laws.{combined_one, combined_info0, combined_sent, combined_calling, combined_sent_d, combined_sent_fa, beside_info3, pick_heard, e_hit, fa_hit, s_hit, pick_struck_e}
use Rattle.cycle.specs.Cycle.{bits_at}
use Rattle.cycle.proofs.Laws.{not_running}
use Rattle.notes_and_cells.specs.Cells.{info_in}
use Rattle.table_6_2.specs.Table62.{F7}
use Rattle.table_6_2.specs.Table62 as Table62
use Rattle.table_6_3.specs.Table63 as Table63
use Rattle.heard_line.specs.Sensing.{shown_up}
use Rattle.heard_line.proofs.Shown.{shown_up_info0, shown_info1, shown_info3, shown_down_info0, shown_info2, shown_info4}
use Rattle.bus_rules.specs.Bus.{Station, Hit}
use Rattle.bus_rules.specs.Bus.Hit.{none, given}
use Rattle.bus_rules.specs.Exchange.{Sender, Opportunity, stations_of, any_sends, any_info1, any_info3, in_f7, sent_down, sent_up, station_after_e, d_of, hears_e, sent_of, line_down, line_up, e_comes, senders_after, d_comes, onward, as_sender, begins, whole_down, whole_up, fa_down, fa_sent, sent_from}
use Rattle.bus_rules.specs.Quick.{sent_e, struck_at, all_d, InStep, sent_bit, struck_in, all_fa, sent_ds, shown_with, shown_from, shown_by}
use Rattle.bus_rules.specs.Quick.InStep.{end, one}
use Rattle.bus_rules.specs.Quick as quick

-- ---- E.
all_zero : (k : ℕ) → k < 4 → pick k (all_four false) ≡ false
unfolding pick
all_zero zero h = refl
all_zero (suc zero) h = refl
all_zero (suc (suc zero)) h = refl
all_zero (suc (suc (suc zero))) h = refl
all_zero (suc (suc (suc (suc k)))) h = absurd (omega arith)

-- the E at place k of what is sent: in INFO 4 the bit at that place
pub e_sent_lem : (k : ℕ) (bits : CycleBits) (state : ℕ) (es : List Bool) → k < 4 → pick k (e_bits (levels (sent_down bits state (filled_with_ones es)))) ≡ sent_e state (get_or es k true)
unfolding sent_down sent_e
e_sent_lem k bits state es h =
    by_test (eqb (info_in Table63.info_sent state) 4)
    (λ t. rw (t, e_info4 bits (filled_with_ones es), pick_filled k es h))
    (λ t. rw t
    (by_test (eqb (info_in Table63.info_sent state) 2) (λ u. rw (u, e_info2 bits, all_zero k h)) (λ u. rw (u, e_info0, pick_ones k))))

-- .. and under a hit
pub e_down : (k : ℕ) (bits : CycleBits) (state : ℕ) (h : Hit) (es : List Bool) → k < 4 → pick k (e_bits (levels (line_down bits state h es))) ≡ struck_at h k (sent_e state (get_or es k true))
unfolding line_down struck_at
e_down k bits state none es h = e_sent_lem k bits state es h
e_down k bits state (given letters) es h =
    rw (e_hit letters (sent_down bits state (filled_with_ones es)), pick_struck_e k letters (e_bits (levels (sent_down bits state (filled_with_ones es)))) h, e_sent_lem k bits state es h)

pub quick_e : quick.QuickE
unfolding e_comes
quick_e m h =
    e_down (length m.es) (bits_at m.cycle) m.network m.hit (m.es ++ (m.heard_d ∷ [])) h
    ∙ rw (get_or_at m.es m.heard_d [] true (length m.es) refl)

-- ---- D.
pub state_turned : (e : Bool) (s : Station) → (station_after_e e s).terminal.state ≡ s.terminal.state
unfolding station_after_e
state_turned e s = by_test (in_f7 s) (λ t. rw t) (λ t. rw t)

abbrev info_of : Station → ℕ
info_of s = info_in Table62.info_sent s.terminal.state

pub calling_is : (ss : List Sender) → any_calling (map sent_of ss) ≡ any_info1 (stations_of ss)
unfolding any_calling any_sends sent_of sent_up
calling_is [] = refl
calling_is (s ∷ ss) =
    rw (calling_is ss)
    (by_test (eqb (info_of s.station) 3) (λ t. rw (t, eqb-true (info_of s.station) 3 t))
    (λ t. rw t (by_test (eqb (info_of s.station) 1) (λ u. rw u) (λ u. rw u))))

in_f7_sends : (s : Station) → eqb (info_of s) 3 ≡ false → in_f7 s ≡ false
unfolding info_in
in_f7_sends s h = by_test (in_f7 s) (λ t. absurd (true≢false (rw (eqb-true s.terminal.state F7 t) at h))) (λ t. t)

outside_1 : (e : Bool) (s : Station) → in_f7 s ≡ false → d_of e s ≡ true
unfolding d_of
outside_1 e s h = rw h

-- the D at place k of what one terminal sends
pub d_sent : (k : ℕ) (s : Sender) → k < 4 → pick k (sent_d (sent_of s)) ≡ cond (eqb (info_of s.station) 3) (get_or s.ds k true) true
unfolding sent_of sent_up
d_sent k s h =
    by_test (eqb (info_of s.station) 3) (λ t. rw (t, pick_filled k s.ds h))
    (λ t. rw t (by_test (eqb (info_of s.station) 1) (λ u. rw (u, pick_ones k)) (λ u. rw (u, pick_ones k))))

d_new : (k : ℕ) (e : Bool) (s : Sender) → k < 4 → length s.ds ≡ k → pick k (sent_d (sent_of (hears_e e s))) ≡ d_of e s.station
unfolding hears_e
d_new k e s h l =
    d_sent k (hears_e e s) h
    ∙ rw (state_turned e s.station, get_or_at s.ds (d_of e s.station) [] true k l)
    (by_test (eqb (info_of s.station) 3) (λ t. rw t) (λ t. rw t (sym (outside_1 e s.station (in_f7_sends s.station t)))))

d_all : (k : ℕ) (e : Bool) (ss : List Sender) → k < 4 → InStep k ss → pick k (and_all (map sent_d (map sent_of (map (hears_e e) ss)))) ≡ all_d e (stations_of ss)
unfolding and_all all_d
d_all k e [] h end = pick_ones k
d_all k e (s ∷ ss) h (one l more) =
    rw (pick_and k (sent_d (sent_of (hears_e e s))) (and_all (map sent_d (map sent_of (map (hears_e e) ss)))), d_new k e s h l, d_all k e ss h more)

pub info1_hears : (e : Bool) (ss : List Sender) → any_info1 (stations_of (map (hears_e e) ss)) ≡ any_info1 (stations_of ss)
unfolding any_sends hears_e
info1_hears e [] = refl
info1_hears e (s ∷ ss) = rw (state_turned e s.station, info1_hears e ss)

pub info3_hears : (e : Bool) (ss : List Sender) → any_info3 (stations_of (map (hears_e e) ss)) ≡ any_info3 (stations_of ss)
unfolding any_sends hears_e
info3_hears e [] = refl
info3_hears e (s ∷ ss) = rw (state_turned e s.station, info3_hears e ss)

-- the D at place k of the line up, from what each sends there
pub d_up : (k : ℕ) (ss : List Sender) → k < 4 →
    let d = pick k (and_all (map sent_d (map sent_of ss))) in
    pick k (d_bits (levels (line_up ss))) ≡ cond (eqb k 1 && any_info1 (stations_of ss)) (not d) d
unfolding line_up
d_up k ss h =
    rw (combined_sent_d (map sent_of ss), pick_heard k (any_calling (map sent_of ss)) (and_all (map sent_d (map sent_of ss))) h, calling_is ss)

pub quick_d : quick.QuickD
unfolding d_comes senders_after
quick_d m h i =
    d_up (length m.es) (map (hears_e (e_comes m)) m.senders) h
    ∙ rw (info1_hears (e_comes m) m.senders, d_all (length m.es) (e_comes m) m.senders h i)

-- ---- In step.
pub in_step_stationed : (ss : List Station) → InStep 0 (map as_sender ss)
unfolding as_sender
in_step_stationed [] = end
in_step_stationed (s ∷ ss) = one refl (in_step_stationed ss)

pub one_more : (bs : List Bool) (b : Bool) (k : ℕ) → length bs ≡ k → length (bs ++ (b ∷ [])) ≡ suc k
one_more bs b k l = simp (length-append, add-one) (ap suc l)

pub in_step_hears : (k : ℕ) (e : Bool) (ss : List Sender) → InStep k ss → InStep (suc k) (map (hears_e e) ss)
unfolding hears_e
in_step_hears k e [] end = end
in_step_hears k e (s ∷ ss) (one l more) = one (one_more s.ds (d_of e s.station) k l) (in_step_hears k e ss more)

pub in_step_begins : quick.InStepBegins
unfolding begins
in_step_begins b = in_step_stationed b.stations

pub in_step_onward : quick.InStepOnward
unfolding onward senders_after
in_step_onward m i = rw (one_more m.es m.heard_d (length m.es) refl) (in_step_hears (length m.es) (e_comes m) m.senders i)

-- ---- FA and S down.
fa_sent_lem : (bits : CycleBits) (state : ℕ) (es : List Bool) → fa_bit (levels (sent_down bits state (filled_with_ones es))) ≡ sent_bit state bits.fa
unfolding sent_down sent_bit
fa_sent_lem bits state es =
    by_test (eqb (info_in Table63.info_sent state) 4) (λ t. rw (t, fa_info4 bits (filled_with_ones es)))
    (λ t. rw t (by_test (eqb (info_in Table63.info_sent state) 2) (λ u. rw (u, fa_info2 bits)) (λ u. rw (u, fa_info0))))

s_sent_lem : (bits : CycleBits) (state : ℕ) (es : List Bool) → s_bit (levels (sent_down bits state (filled_with_ones es))) ≡ sent_bit state bits.s
unfolding sent_down sent_bit
s_sent_lem bits state es =
    by_test (eqb (info_in Table63.info_sent state) 4) (λ t. rw (t, s_info4 bits (filled_with_ones es)))
    (λ t. rw t (by_test (eqb (info_in Table63.info_sent state) 2) (λ u. rw (u, s_info2 bits)) (λ u. rw (u, s_info0))))

fa_struck : (bits : CycleBits) (state : ℕ) (h : Hit) (es : List Bool) → fa_bit (levels (line_down bits state h es)) ≡ struck_in h fa_index (sent_bit state bits.fa)
unfolding line_down struck_in
fa_struck bits state none es = fa_sent_lem bits state es
fa_struck bits state (given letters) es = fa_hit letters (sent_down bits state (filled_with_ones es)) ∙ rw (fa_sent_lem bits state es)

s_struck : (bits : CycleBits) (state : ℕ) (h : Hit) (es : List Bool) → s_bit (levels (line_down bits state h es)) ≡ struck_in h s_index (sent_bit state bits.s)
unfolding line_down struck_in
s_struck bits state none es = s_sent_lem bits state es
s_struck bits state (given letters) es = s_hit letters (sent_down bits state (filled_with_ones es)) ∙ rw (s_sent_lem bits state es)

pub quick_fa : quick.QuickFa
unfolding fa_down whole_down
quick_fa m = fa_struck (bits_at m.cycle) m.network m.hit m.es

pub quick_s : quick.QuickS
unfolding whole_down
quick_s m = s_struck (bits_at m.cycle) m.network m.hit m.es

-- ---- Those that send a frame, among all.
unfoldable some : List UpFields → Bool
some [] = false
some (f ∷ fs) = true

joint_fa_lem : (xs : List Sent) → all_of (λ (f : UpFields). f.fa) (frames xs) ≡ all_of sent_fa xs
unfolding all_of frames
joint_fa_lem [] = refl
joint_fa_lem (silent ∷ xs) = joint_fa_lem xs
joint_fa_lem (calling ∷ xs) = joint_fa_lem xs
joint_fa_lem (frame f ∷ xs) = rw (joint_fa_lem xs)

joint_d_lem : (xs : List Sent) → and_all (map (λ (f : UpFields). f.d) (frames xs)) ≡ and_all (map sent_d xs)
unfolding and_all frames
joint_d_lem [] = refl
joint_d_lem (silent ∷ xs) = joint_d_lem xs
joint_d_lem (calling ∷ xs) = joint_d_lem xs
joint_d_lem (frame f ∷ xs) = rw (joint_d_lem xs)

-- ---- The whole line up: what all send, each with its FA.
module _ (fas : ℕ → Bool) where
  calling_all : (i : ℕ) (ss : List Sender) → any_calling (sent_from fas i ss) ≡ any_info1 (stations_of ss)
  unfolding any_calling any_sends sent_from sent_up
  calling_all i [] = refl
  calling_all i (s ∷ ss) =
      rw (calling_all (suc i) ss)
      (by_test (eqb (info_of s.station) 3) (λ t. rw (t, eqb-true (info_of s.station) 3 t))
      (λ t. rw t (by_test (eqb (info_of s.station) 1) (λ u. rw u) (λ u. rw u))))

  idle_all : (i : ℕ) (ss : List Sender) → all_of is_info3 (frames (sent_from fas i ss)) ≡ true
  unfolding all_of frames sent_from sent_up
  idle_all i [] = refl
  idle_all i (s ∷ ss) =
      by_test (eqb (info_of s.station) 3) (λ t. rw t (idle_all (suc i) ss))
      (λ t. rw t (by_test (eqb (info_of s.station) 1) (λ u. rw u (idle_all (suc i) ss)) (λ u. rw u (idle_all (suc i) ss))))

  d_all_sent : (i : ℕ) (ss : List Sender) → map sent_d (sent_from fas i ss) ≡ map sent_d (map sent_of ss)
  unfolding sent_from sent_of sent_up
  d_all_sent i [] = refl
  d_all_sent i (s ∷ ss) =
      rw (d_all_sent (suc i) ss)
      (by_test (eqb (info_of s.station) 3) (λ t. rw t) (λ t. rw t (by_test (eqb (info_of s.station) 1) (λ u. rw u) (λ u. rw u))))

  fa_all_sent : (i : ℕ) (ss : List Sender) → all_of sent_fa (sent_from fas i ss) ≡ all_fa fas i (stations_of ss)
  unfolding all_of all_fa sent_from sent_up
  fa_all_sent i [] = refl
  fa_all_sent i (s ∷ ss) =
      rw (fa_all_sent (suc i) ss)
      (by_test (eqb (info_of s.station) 3) (λ t. rw t) (λ t. rw t (by_test (eqb (info_of s.station) 1) (λ u. rw u) (λ u. rw u))))

  some_sent : (i : ℕ) (ss : List Sender) → some (frames (sent_from fas i ss)) ≡ any_info3 (stations_of ss)
  unfolding some frames sent_from sent_up any_sends
  some_sent i [] = refl
  some_sent i (s ∷ ss) =
      by_test (eqb (info_of s.station) 3) (λ t. rw t)
      (λ t. rw t (by_test (eqb (info_of s.station) 1) (λ u. rw u (some_sent (suc i) ss)) (λ u. rw u (some_sent (suc i) ss))))

pub quick_up_fa : quick.QuickUpFa
unfolding whole_up
quick_up_fa m = combined_sent_fa (sent_from (fa_sent m) 0 m.senders) ∙ fa_all_sent (fa_sent m) 0 m.senders

-- D does not depend on FA.
pub d_whole : (m : Opportunity) → d_bits (levels (whole_up m)) ≡ d_bits (levels (line_up m.senders))
unfolding whole_up line_up
d_whole m =
    rw (
      combined_sent_d (sent_from (fa_sent m) 0 m.senders),
      combined_sent_d (map sent_of m.senders),
      d_all_sent (fa_sent m) 0 m.senders,
      calling_all (fa_sent m) 0 m.senders,
      calling_is m.senders,
    )

-- ---- What is shown.
shown_frames : (fs : List UpFields) (fa : Bool) (d : Four) (n : Bool) → all_of (λ (f : UpFields). f.fa) fs ≡ fa → and_all (map (λ (f : UpFields). f.d) fs) ≡ d
    → some fs ≡ n → shown_up (frames_line fs) ≡ shown_with false n fa d
unfolding shown_with some
shown_frames [] fa d n p q e = rw (← e) shown_up_info0
shown_frames (f ∷ fs) fa d n p q e = rw (← e, p, q) (shown_info3 fa d)

shown_beside : (fs : List UpFields) (fa : Bool) (d : Four) (n : Bool) → all_of (λ (f : UpFields). f.fa) fs ≡ fa → and_all (map (λ (f : UpFields). f.d) fs) ≡ d
    → shown_up (combined (info1 ∷ frames_line fs ∷ [])) ≡ shown_with true n fa d
unfolding shown_with all_of and_all shown_up
shown_beside [] fa d n p q = rw (← p, ← q, combined_info0 (info1 ∷ []) [], combined_one info1 line_info1) shown_info1
shown_beside (f ∷ fs) fa d n p q = let b = beside_info3 fa d in rw (p, q, b.0, b.1, b.2)

pub up_shown_with : quick.UpShownWith
unfolding whole_up sent_ds
up_shown_with m =
    let ss = m.senders in
    let fas = fa_sent m in
    let xs = sent_from fas 0 ss in
    let fa = joint_fa_lem xs ∙ fa_all_sent fas 0 ss in
    let d = joint_d_lem xs ∙ ap and_all (d_all_sent fas 0 ss) in
    by_test (any_info1 (stations_of ss))
    (λ t. rw (combined_calling xs (idle_all fas 0 ss) (calling_all fas 0 ss ∙ t), t) (shown_beside (frames xs) _ _ _ fa d))
    (λ t. rw (combined_sent xs (idle_all fas 0 ss) (calling_all fas 0 ss ∙ t), t) (shown_frames (frames xs) _ _ _ fa d (some_sent fas 0 ss)))

-- Where no cycle runs FA is 0 upward, unless nobody sends INFO 3: then FA and all D count as 1.
fa_off : (fas : ℕ → Bool) → ((i : ℕ) → fas i ≡ false) → (i : ℕ) (ss : List Station) → all_fa fas i ss ≡ not (any_info3 ss)
unfolding all_fa any_sends
fa_off fas h i [] = refl
fa_off fas h i (s ∷ ss) =
    by_test (eqb (info_of s) 3) (λ t. rw (t, h i)) (λ t. rw (t, fa_off fas h (suc i) ss))

ones_off : (ss : List Sender) → any_info3 (stations_of ss) ≡ false → and_all (map sent_d (map sent_of ss)) ≡ all_four true
unfolding and_all any_sends sent_of sent_up
ones_off [] h = refl
ones_off (s ∷ ss) h =
    by_test (eqb (info_of s.station) 3) (λ t. absurd (true≢false (rw t at h)))
    (λ t. let more = ones_off ss (rw t at h) in
    rw (t, more) (by_test (eqb (info_of s.station) 1) (λ u. rw u) (λ u. rw u)))

shown_off : (info1 info3 : Bool) (d : Four) → (info3 ≡ false → d ≡ all_four true) → shown_with info1 info3 (not info3) d ≡ shown_from info1 info3
unfolding shown_with shown_from
shown_off true true d h = refl
shown_off true false d h = rw (h refl)
shown_off false true d h = by_test d.first (λ t. rw t) (λ t. rw t)
shown_off false false d h = refl

pub up_shown : quick.UpShown
unfolding sent_ds fa_sent
up_shown m off =
    let ss = stations_of m.senders in
    up_shown_with m
    ∙ rw (fa_off (fa_sent m) (λ i. (not_running m.cycle off).4 (fa_down m) i) 0 ss)
    (shown_off (any_info1 ss) (any_info3 ss) (and_all (map sent_d (map sent_of m.senders))) (ones_off m.senders))

pub down_shown : quick.DownShown
unfolding sent_down shown_by
down_shown bits state es =
    by_test (eqb (info_in Table63.info_sent state) 4) (λ t. rw t (shown_info4 bits es))
    (λ t. rw t (by_test (eqb (info_in Table63.info_sent state) 2) (λ u. rw u (shown_info2 bits)) (λ u. rw u shown_down_info0)))
