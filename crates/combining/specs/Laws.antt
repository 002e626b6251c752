-- Laws: what holds of combined and of hit lines: the statements, each a type. `proofs/Laws.antt`
-- proves each under the same name in small letters.
-- Interface: none but for laws and proofs. Assumes nothing.
use Rattle.std.specs.Prelude.{◌≡◌, Bool, true, false, not, cond, ◌&&◌, List, [], ◌∷◌, ◌++◌, map, ℕ, ◌<◌, eqb, length, get_or, replicate, Ok}
use Rattle.symbols.specs.Symbols.{line_length, none, plus, minus, level, levels, within, fits, is_line}
use Rattle.frame.specs.Four.{pick, and_all}
use Rattle.frame.specs.Bits.{d_bits, fa_bit, fa_index}
use Rattle.frame.specs.Down.{down_line, e_bits, e_index, a_bit, s_bit, s_index}
use Rattle.frame.specs.Up.{up_line}
use Rattle.frame.specs.Groups.{group_symbols, up_groups}
use Rattle.frame.specs.declared.fields.Four.{Four}
use Rattle.frame.specs.declared.fields.DownFields.{DownFields}
use Rattle.frame.specs.declared.fields.UpFields.{UpFields}
use Rattle.framed.specs.Framed.{framed_up, has_pulse}
use Rattle.info.specs.Info.{info0, info1, info3_with, info3, is_info1}
use Rattle.combining.specs.Combine.{combined_over, combined}
use Rattle.combining.specs.Calls.{terminals, lines_length, rows, laid, combine_fits, combined_reply, eight}
use Rattle.combining.specs.Groups.{Combines, all_of, of_sender}
use Rattle.combining.specs.Sent.{Sent, sent_line}
use Rattle.combining.specs.SentD.{how_many_send, sent_d, sent_fa, any_calling, frames, is_info3, joint_fields, frames_line}
use Rattle.combining.specs.SentD.{heard_with_info1, all_ones}
use Rattle.combining.specs.Sent.Sent.{silent}
use Rattle.combining.specs.Sending.{is_sending, sending, lines_taken}
use Rattle.combining.specs.Hit.{keep_letter, plus_letter, minus_letter, none_letter, struck, hit}
use Rattle.combining.specs.StruckBits.{struck_bit, struck_e, struck_a}

-- ---- What is combined, and a line after a hit, is a line.
abbrev pub LineCombined : Type 0
LineCombined = (ls : List (List ℕ)) → is_line (combined ls) ≡ true

abbrev pub LineHit : Type 0
LineHit = (letters l : List ℕ) → is_line l ≡ true → is_line (hit letters l) ≡ true

-- ---- Several terminals: one line alone, INFO 0 in any place, and upward frames with B at 1.
abbrev pub CombinedOne : Type 0
CombinedOne = (l : List ℕ) → is_line l ≡ true → combined (l ∷ []) ≡ l

abbrev pub CombinedNone : Type 0
CombinedNone = combined [] ≡ info0

abbrev pub CombinedInfo0 : Type 0
CombinedInfo0 = (ls ms : List (List ℕ)) → combined (ls ++ (info0 ∷ ms)) ≡ combined (ls ++ ms)

-- ---- Upward frames group by group, whatever their fields are: what each group gives, laid out, is
-- the combined line.
abbrev pub CombinedFrames : Type 1
CombinedFrames = (X : Type 0) (fields : X → UpFields) (xs : List X) (l : List ℕ)
    → Combines xs (of_sender fields up_groups) line_length l → combined (map (λ x. up_line (fields x)) xs) ≡ l

-- A group of one bit gives the group of the ANDs; one that all send alike gives itself; one that
-- all but one leave at 1s, that is at none, gives that one's.
abbrev pub GroupBit : Type 1
GroupBit =
    (X : Type 0) (b : X → Bool) (xs : List X) → combined_over 2 (map (λ x. group_symbols (b x ∷ [])) xs) ≡ group_symbols (all_of b xs ∷ [])

abbrev pub GroupAlike : Type 1
GroupAlike =
    (X : Type 0) (n : ℕ) (l : List ℕ) (x : X) (xs : List X) → length l ≡ n → within minus l ≡ true
    → combined_over n (map (λ y. l) (x ∷ xs)) ≡ l

abbrev pub GroupOfOne : Type 1
GroupOfOne = (X : Type 0) (n : ℕ) (g : X → List ℕ) (x : X) (before after : List X)
    → length (g x) ≡ n → within minus (g x) ≡ true
    → map g before ≡ replicate (length before) (replicate n none) → map g after ≡ replicate (length after) (replicate n none)
    → combined_over n (map g (before ++ (x ∷ after))) ≡ g x

-- ---- INFO 3 together are INFO 3 with the ANDs, of FA too; where no cycle runs FA is 0 of all.
abbrev pub CombinedIdle : Type 0
CombinedIdle =
    (f : UpFields) (fs : List UpFields) → all_of is_info3 (f ∷ fs) ≡ true
    → combined (map up_line (f ∷ fs)) ≡ up_line (joint_fields (f ∷ fs))

abbrev pub CombinedInfo3 : Type 0
CombinedInfo3 = (d : Four) (ds : List Four) → combined (map info3 (d ∷ ds)) ≡ info3 (and_all (d ∷ ds))

-- The D bits of upward frames together are the ANDs, whatever the B octets and FA are.
abbrev pub CombinedD : Type 0
CombinedD = (fs : List UpFields) → d_bits (levels (combined (map up_line fs))) ≡ and_all (map (λ (f : UpFields). f.d) fs)

-- Terminals that send INFO 0 or INFO 3: INFO 3 with the ANDs of those that send it, or INFO 0.
abbrev pub CombinedSent : Type 0
CombinedSent =
    (xs : List Sent) → all_of is_info3 (frames xs) ≡ true → any_calling xs ≡ false → combined (map sent_line xs) ≡ frames_line (frames xs)

-- Where any sends INFO 1: INFO 1 beside that line.
abbrev pub CombinedCalling : Type 0
CombinedCalling =
    (xs : List Sent) → all_of is_info3 (frames xs) ≡ true → any_calling xs ≡ true
    → combined (map sent_line xs) ≡ combined (info1 ∷ frames_line (frames xs) ∷ [])

-- INFO 1 beside INFO 3 is no frame. It is INFO 1 itself exactly where that INFO 3 has FA and all D at
-- 1: then F and its L, which both have, are its only pulses.
abbrev pub BesideInfo3 : Type 0
BesideInfo3 =
    (fa : Bool) (d : Four) →
    let l = combined (info1 ∷ info3_with fa d ∷ []) in (has_pulse l ≡ true) × (framed_up l ≡ false) × (is_info1 l ≡ all_ones fa d)

-- The D bits at symbol level, whatever is sent, B octets too: the ANDs, at position 25 inverted where
-- INFO 1 is sent.
abbrev pub CombinedSentD : Type 0
CombinedSentD = (xs : List Sent) → d_bits (levels (combined (map sent_line xs)))
    ≡ heard_with_info1 (any_calling xs) (and_all (map sent_d xs))

abbrev pub CombinedQuietD : Type 0
CombinedQuietD = (xs : List Sent) → any_calling xs ≡ false → d_bits (levels (combined (map sent_line xs))) ≡ and_all (map sent_d xs)

-- FA at symbol level, whatever is sent: the AND. INFO 1 has no pulse at position 14, and a FA of 0 is
-- a minus whatever the B octets are.
abbrev pub CombinedSentFa : Type 0
CombinedSentFa = (xs : List Sent) → fa_bit (levels (combined (map sent_line xs))) ≡ all_of sent_fa xs

-- The ANDs and the heard D bits, place by place.
abbrev pub PickAll : Type 0
PickAll = (k : ℕ) (ds : List Four) → pick k (and_all ds) ≡ all_of (pick k) ds

abbrev pub PickHeard : Type 0
PickHeard =
    (k : ℕ) (info1 : Bool) (d : Four) → k < 4 → pick k (heard_with_info1 info1 d) ≡ cond (eqb k 1 && info1) (not (pick k d)) (pick k d)

-- ---- The lines as they are lent: laid one after the other, they are the rows, and the call
-- combines them.
abbrev pub RowsLaid : Type 0
RowsLaid = (ls : List (List ℕ)) → ((i : ℕ) → i < length ls → length (get_or ls i []) ≡ line_length) → rows (length ls) (laid ls) ≡ ls

abbrev pub EightLaid : Type 0
EightLaid =
    (ls : List (List ℕ)) → length ls ≡ terminals → ((i : ℕ) → i < length ls → length (get_or ls i []) ≡ line_length)
    → eight (laid ls) ≡ combined ls

-- Eight lines so laid fit the call.
abbrev pub FitsLaid : Type 0
FitsLaid =
    (ls : List (List ℕ)) → length ls ≡ terminals → ((i : ℕ) → i < length ls → is_line (get_or ls i []) ≡ true)
    → fits lines_length minus (laid ls) ≡ true

-- The same for what eight terminals send.
abbrev pub LineSent : Type 0
LineSent = (x : Sent) → is_line (sent_line x) ≡ true

abbrev pub FitsSent : Type 0
FitsSent = (xs : List Sent) → length xs ≡ terminals → fits lines_length minus (laid (map sent_line xs)) ≡ true

abbrev pub EightSent : Type 0
EightSent = (xs : List Sent) → length xs ≡ terminals → eight (laid (map sent_line xs)) ≡ combined (map sent_line xs)

-- ---- Only the lines of terminals that send are taken (document 02, 2.4). They alone give the line
-- that all give, whatever the lines are.
abbrev pub CombinedSending : Type 0
CombinedSending = (ls : List (List ℕ)) → combined (sending ls) ≡ combined ls

-- A terminal sends where its line has a pulse.
abbrev pub SendingPulse : Type 0
SendingPulse = (l : List ℕ) → length l ≡ line_length → is_sending l ≡ has_pulse l

-- Of several terminals, whatever they send, as many lines are taken as send other than INFO 0, and
-- so it is with the eight of the call.
abbrev pub SendingSent : Type 0
SendingSent = (xs : List Sent) → length (sending (map sent_line xs)) ≡ how_many_send xs

abbrev pub TakenSent : Type 0
TakenSent = (xs : List Sent) → length xs ≡ terminals → lines_taken (laid (map sent_line xs)) ≡ how_many_send xs

-- That number is what the call replies.
abbrev pub ReplySent : Type 0
ReplySent =
    (xs : List Sent) (lent : List ℕ) → length xs ≡ terminals → length lent ≡ line_length →
    let lines = laid (map sent_line xs) in
    combined_reply (combine_fits lines lent) (lines_taken lines) ≡ Ok (how_many_send xs)

-- Where no line is taken, INFO 0 is given; so it is with the lines of nobody.
abbrev pub TakenNone : Type 0
TakenNone = (lines : List ℕ) → lines_taken lines ≡ 0 → eight lines ≡ info0

abbrev pub TakenOfNobody : Type 0
TakenOfNobody = lines_taken (laid (map sent_line (replicate terminals silent))) ≡ 0

-- ---- A hit changes exactly its letters' positions: keep leaves the symbol, plus, minus and none
-- give theirs.
abbrev pub HitAt : Type 0
HitAt = (letters l : List ℕ) (i : ℕ) → i < line_length → get_or (hit letters l) i none
    ≡ struck (get_or letters i keep_letter) (get_or l i none)

abbrev pub HitKeeps : Type 0
HitKeeps =
    (letters l : List ℕ) (i : ℕ) → i < line_length → get_or letters i keep_letter ≡ keep_letter
    → get_or (hit letters l) i none ≡ get_or l i none

abbrev pub HitPlus : Type 0
HitPlus = (letters l : List ℕ) (i : ℕ) → i < line_length → get_or letters i keep_letter ≡ plus_letter → get_or (hit letters l) i none ≡ plus

abbrev pub HitMinus : Type 0
HitMinus = (letters l : List ℕ) (i : ℕ) → i < line_length → get_or letters i keep_letter ≡ minus_letter
    → get_or (hit letters l) i none ≡ minus

abbrev pub HitNone : Type 0
HitNone = (letters l : List ℕ) (i : ℕ) → i < line_length → get_or letters i keep_letter ≡ none_letter → get_or (hit letters l) i none ≡ none

-- At symbol level each bit comes from its own letter and itself alone: E and A of any line, and of
-- a frame.
abbrev pub LevelHit : Type 0
LevelHit =
    (letters l : List ℕ) (i : ℕ) → i < line_length
    → level (get_or (hit letters l) i none) ≡ struck_bit (get_or letters i keep_letter) (level (get_or l i none))

abbrev pub EHit : Type 0
EHit = (letters l : List ℕ) → e_bits (levels (hit letters l)) ≡ struck_e letters (e_bits (levels l))

abbrev pub EHitDown : Type 0
EHitDown = (letters : List ℕ) (f : DownFields) → e_bits (levels (hit letters (down_line f))) ≡ struck_e letters f.e

abbrev pub PickStruckE : Type 0
PickStruckE =
    (k : ℕ) (letters : List ℕ) (e : Four) → k < 4 → pick k (struck_e letters e)
    ≡ struck_bit (get_or letters (e_index k) keep_letter) (pick k e)

-- FA and S, under the letters of positions 14 and 37.
abbrev pub FaHit : Type 0
FaHit = (letters l : List ℕ) → fa_bit (levels (hit letters l)) ≡ struck_bit (get_or letters fa_index keep_letter) (fa_bit (levels l))

abbrev pub SHit : Type 0
SHit = (letters l : List ℕ) → s_bit (levels (hit letters l)) ≡ struck_bit (get_or letters s_index keep_letter) (s_bit (levels l))

abbrev pub AHit : Type 0
AHit = (letters l : List ℕ) → a_bit (levels (hit letters l)) ≡ struck_a letters (a_bit (levels l))

abbrev pub AHitDown : Type 0
AHitDown = (letters : List ℕ) (f : DownFields) → a_bit (levels (hit letters (down_line f))) ≡ struck_a letters f.a
