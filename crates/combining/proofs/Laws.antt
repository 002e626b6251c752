-- The laws of `specs/Laws.antt`, proved under the same names in small letters.
use mathlib.Core.Path.{◌≡◌, refl, sym, ap, ◌∙◌}
use mathlib.Core.Bool.{Bool, true, false}
use mathlib.Core.List.{List, [], ◌∷◌, ◌++◌, map, map-map}
use Prim.Native.Nat.{ℕ, zero, suc, ◌*◌, ◌<◌, ◌≤◌}
use native.Mathlib.Omega.{arith}
use borrow.Author.Tests.{eq-eqb}
use lib.Dec.{eqb, leb}
use lib.ListN.{length, get_or, replicate, length-append, length-map}
use lib.Seq.{take_at, drop_at}
use Rattle.test_lemmas.proofs.ByCases.{by_test, both}
use Rattle.symbols.specs.Symbols.{line_length, none, plus, minus, level, levels, within, is_line, tabulate}
use Rattle.symbols.proofs.Fill.{get_d_tabulate}
use Rattle.symbols.proofs.Levels.{level_at}
use Rattle.symbols.proofs.Lines.{fits_is, line_length_lem, line_small, fits_within, line_by_lem}
use Rattle.frame.specs.Four.{pick}
use Rattle.frame.specs.Bits.{fa_index}
use Rattle.frame.specs.Down.{down_line, e_index, a_index, s_index}
use Rattle.frame.proofs.Laws.{line_up_lem, e_down, a_down}
use Rattle.frame.specs.declared.fields.UpFields.{UpFields}
use Rattle.info.proofs.Laws.{line_info0, line_info1}
use Rattle.combining.specs.Combine.{is_sent, only, combined_symbol, column, combined}
use Rattle.combining.specs.Calls.{terminals, rows, laid}
use Rattle.combining.specs.Sent.{Sent, sent_line}
use Rattle.combining.specs.Sent.Sent.{silent, calling, frame}
use Rattle.combining.specs.SentD.{how_many_send, sent_d, any_calling}
use Rattle.combining.specs.Sending.{sending}
use Rattle.combining.specs.Hit.{keep_letter, plus_letter, minus_letter, struck, hit}
use Rattle.combining.specs.StruckBits.{struck_bit, struck_e, struck_a}
use Rattle.combining.specs.Laws
use Rattle.combining.proofs.Sending as of-senders
use Rattle.combining.proofs.Columns as columns
use Rattle.combining.proofs.ByGroup as by-group
use Rattle.combining.proofs.Senders as senders
use Rattle.combining.proofs.Beside as beside

only_small : (p q : Bool) → only p q ≤ minus
only_small true true = omega arith
only_small true false = omega arith
only_small false true = omega arith
only_small false false = omega arith

struck_small : (k s : ℕ) → s ≤ minus → struck k s ≤ minus
struck_small k s h =
    by_test (eqb k keep_letter) (λ t. rw t h)
    (λ t. rw t (by_test (eqb k plus_letter) (λ u. rw u (omega arith)) (λ u. rw u (by_test (eqb k minus_letter) (λ v. rw v (omega arith)) (λ v. rw v (omega arith))))))

pub line_combined : Laws.LineCombined
unfolding combined
line_combined ls = line_by_lem (λ i. combined_symbol (column i ls)) (λ i. only_small (is_sent plus (column i ls)) (is_sent minus (column i ls)))

pub line_hit : Laws.LineHit
unfolding hit
line_hit letters l h =
    line_by_lem (λ i. struck (get_or letters i keep_letter) (get_or l i none)) (λ i. struck_small (get_or letters i keep_letter) (get_or l i none) (line_small l h i))

-- ---- Several terminals.
pub combined_one : Laws.CombinedOne
unfolding combined
combined_one l h = columns.combined_alone line_length l (line_length_lem l h) (fits_within line_length minus l h)

pub combined_none : Laws.CombinedNone
unfolding combined is_sent tabulate
combined_none = refl

pub combined_info0 : Laws.CombinedInfo0
combined_info0 = senders.combined_info0

pub combined_frames : Laws.CombinedFrames
combined_frames X = by-group.combined_frames

pub group_bit : Laws.GroupBit
group_bit X = by-group.group_bit

pub group_alike : Laws.GroupAlike
group_alike X = columns.combined_alike

pub group_of_one : Laws.GroupOfOne
group_of_one X = columns.combined_of_one

pub combined_idle : Laws.CombinedIdle
combined_idle = by-group.combined_idle

pub combined_info3 : Laws.CombinedInfo3
combined_info3 = by-group.combined_info3

pub combined_sent : Laws.CombinedSent
combined_sent = senders.combined_sent

pub combined_calling : Laws.CombinedCalling
combined_calling = beside.combined_calling

pub beside_info3 : Laws.BesideInfo3
beside_info3 = beside.beside_info3

pub combined_sent_d : Laws.CombinedSentD
combined_sent_d = senders.combined_sent_d

pub combined_quiet_d : Laws.CombinedQuietD
combined_quiet_d xs h = rw h at (senders.combined_sent_d xs)

pub combined_sent_fa : Laws.CombinedSentFa
combined_sent_fa = senders.combined_sent_fa

all_frames : (fs : List UpFields) → any_calling (map frame fs) ≡ false
unfolding any_calling
all_frames [] = refl
all_frames (f ∷ fs) = all_frames fs

pub combined_d : Laws.CombinedD
combined_d fs = rw (map-map sent_line frame fs, map-map sent_d frame fs) at (combined_quiet_d (map frame fs) (all_frames fs))

pub pick_all : Laws.PickAll
pick_all k ds = sym (by-group.all_and k ds)

pub pick_heard : Laws.PickHeard
pick_heard = senders.pick_heard

-- ---- The lines as they are lent.
pub rows_laid : Laws.RowsLaid
unfolding rows laid
rows_laid [] h = refl
rows_laid (l ∷ ls) h =
    let long = h 0 (omega arith) in
    rw (take_at l (laid ls) line_length long, drop_at l (laid ls) line_length long, rows_laid ls (λ i k. h (suc i) (omega arith)))

pub eight_laid : Laws.EightLaid
eight_laid ls n h = ap combined (rw n at (rows_laid ls h))

-- n lines so laid are n times 48 symbols.
within_append : (k : ℕ) (xs ys : List ℕ) → within k xs ≡ true → within k ys ≡ true → within k (xs ++ ys) ≡ true
unfolding within
within_append k [] ys p q = q
within_append k (x ∷ xs) ys p q = let h = both (leb x k) (within k xs) p in rw (h.0, within_append k xs ys h.1 q)

laid_length : (ls : List (List ℕ)) → ((i : ℕ) → i < length ls → is_line (get_or ls i []) ≡ true) → length (laid ls) ≡ length ls * line_length
unfolding laid
laid_length [] h = refl
laid_length (l ∷ ls) h =
    rw (length-append l (laid ls), line_length_lem l (h 0 (omega arith)), laid_length ls (λ i k. h (suc i) (omega arith))) (omega arith)

laid_within : (ls : List (List ℕ)) → ((i : ℕ) → i < length ls → is_line (get_or ls i []) ≡ true) → within minus (laid ls) ≡ true
unfolding laid within
laid_within [] h = refl
laid_within (l ∷ ls) h =
    within_append minus l (laid ls) (fits_within line_length minus l (h 0 (omega arith))) (laid_within ls (λ i k. h (suc i) (omega arith)))

pub fits_laid : Laws.FitsLaid
fits_laid ls n h = sym (fits_is minus (laid ls) (laid_length ls h ∙ rw n) (sym (laid_within ls h)))

-- What terminals send.
pub line_sent : Laws.LineSent
line_sent silent = line_info0
line_sent calling = line_info1
line_sent (frame f) = line_up_lem f

each_sent : (xs : List Sent) (i : ℕ) → i < length (map sent_line xs) → is_line (get_or (map sent_line xs) i []) ≡ true
each_sent [] i h = absurd (omega arith)
each_sent (x ∷ xs) zero h = line_sent x
each_sent (x ∷ xs) (suc i) h = each_sent xs i (omega arith)

pub fits_sent : Laws.FitsSent
fits_sent xs n = fits_laid (map sent_line xs) (length-map xs sent_line ∙ n) (each_sent xs)

pub eight_sent : Laws.EightSent
eight_sent xs n = eight_laid (map sent_line xs) (length-map xs sent_line ∙ n) (λ i h. line_length_lem _ (each_sent xs i h))

-- ---- The lines of terminals that send.
pub combined_sending : Laws.CombinedSending
combined_sending = of-senders.combined_sending

pub sending_pulse : Laws.SendingPulse
sending_pulse = of-senders.sending_pulse

pub sending_sent : Laws.SendingSent
sending_sent = of-senders.sending_sent

pub taken_sent : Laws.TakenSent
taken_sent xs n =
    ap (λ (ls : List (List ℕ)). length (sending ls)) (rw (length-map xs sent_line ∙ n) at (rows_laid (map sent_line xs) (λ i h. line_length_lem _ (each_sent xs i h))))
    ∙ of-senders.sending_sent xs

pub reply_sent : Laws.ReplySent
reply_sent xs lent n m = rw (eq-eqb (length lent) line_length m, fits_sent xs n, taken_sent xs n)

pub taken_none : Laws.TakenNone
taken_none lines h = sym (of-senders.combined_sending (rows terminals lines)) ∙ (ap combined (no_elements (sending (rows terminals lines)) h) ∙ combined_none)
  where
    no_elements : (ls : List (List ℕ)) → length ls ≡ 0 → ls ≡ []
    no_elements [] e = refl
    no_elements (l ∷ ls) e = absurd (omega arith)

pub taken_of_nobody : Laws.TakenOfNobody
unfolding how_many_send
taken_of_nobody = taken_sent (replicate terminals silent) refl

-- ---- Hits.
pub hit_at : Laws.HitAt
unfolding hit
hit_at letters l i h = get_d_tabulate line_length (λ j. struck (get_or letters j keep_letter) (get_or l j none)) i h

pub hit_keeps : Laws.HitKeeps
hit_keeps letters l i h e = hit_at letters l i h ∙ rw e

pub hit_plus : Laws.HitPlus
hit_plus letters l i h e = hit_at letters l i h ∙ rw e

pub hit_minus : Laws.HitMinus
hit_minus letters l i h e = hit_at letters l i h ∙ rw e

pub hit_none : Laws.HitNone
hit_none letters l i h e = hit_at letters l i h ∙ rw e

struck_level : (letter s : ℕ) → level (struck letter s) ≡ struck_bit letter (level s)
struck_level letter s =
    by_test (eqb letter keep_letter) (λ t. rw t)
    (λ t. rw t (by_test (eqb letter plus_letter) (λ u. rw u) (λ u. rw u (by_test (eqb letter minus_letter) (λ v. rw v) (λ v. rw v)))))

pub level_hit : Laws.LevelHit
level_hit letters l i h = rw (hit_at letters l i h) (struck_level (get_or letters i keep_letter) (get_or l i none))

-- The bit at an index of a hit line.
bit_hit : (letters l : List ℕ) (i : ℕ) → i < line_length → get_or (levels (hit letters l)) i true ≡ struck_bit (get_or letters i keep_letter) (get_or (levels l) i true)
bit_hit letters l i h = rw (level_at (hit letters l) i, level_at l i) (level_hit letters l i h)

pub e_hit : Laws.EHit
e_hit letters l =
    rw (bit_hit letters l (e_index 0) (omega arith), bit_hit letters l (e_index 1) (omega arith), bit_hit letters l (e_index 2) (omega arith), bit_hit letters l (e_index 3) (omega arith))

pub e_hit_down : Laws.EHitDown
e_hit_down letters f = e_hit letters (down_line f) ∙ ap (struck_e letters) (e_down f)

pub pick_struck_e : Laws.PickStruckE
unfolding pick
pick_struck_e zero letters e h = refl
pick_struck_e (suc zero) letters e h = refl
pick_struck_e (suc (suc zero)) letters e h = refl
pick_struck_e (suc (suc (suc zero))) letters e h = refl
pick_struck_e (suc (suc (suc (suc k)))) letters e h = absurd (omega arith)

pub fa_hit : Laws.FaHit
fa_hit letters l = bit_hit letters l fa_index (omega arith)

pub s_hit : Laws.SHit
s_hit letters l = bit_hit letters l s_index (omega arith)

pub a_hit : Laws.AHit
a_hit letters l = bit_hit letters l a_index (omega arith)

pub a_hit_down : Laws.AHitDown
a_hit_down letters f = a_hit letters (down_line f) ∙ ap (struck_a letters) (a_down f)
