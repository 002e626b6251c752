-- Laws: how the cycle carries messages: "it is sent once, in the first cycle to begin in that
-- period or later; until then a second replaces it" (document 02, 2.1): the statements, each a
-- type. `proofs/Messages.antt` proves each under the same name in small letters.
-- Interface: none but for laws and proofs. Assumes nothing.
use Rattle.std.specs.Prelude.{◌≡◌, Bool, true, false, ◌&&◌, List, [], ◌∷◌, ℕ, zero, suc, ◌+◌, ◌^◌, ◌<◌, ◌≤◌, eqb, length, get_or, replicate}
use Rattle.frame.specs.Bits.{number_high_first}
use Rattle.cycle.specs.Cycle.{fresh, cycle_in_range, q_given, s_given, taken, bits_at, up_fa, joint_fa, q_told, s_told}
use Rattle.cycle.specs.Periods.{Heard, period, periods, fa_sent, m_sent, s_sent, q_sent, joint_sent, s_heard, fa_heard}
use Rattle.cycle.specs.Periods.{throughout, in_g3, in_f7, Whole, until_next, on_line, q_of, messages_of, and_of, all_of}
use Rattle.cycle.specs.declared.record.Cycle.{Cycle}

-- ---- S.
-- A message given at any moment, the one that starts the cycle too, and none after it: until the
-- next cycle begins what is sent is what would have been sent without it, so that it changes no
-- message that is being sent; the next cycle sends it, first bit highest; and no period behind that
-- cycle sends any of it.
abbrev pub SOnce : Type 0
SOnce = (value : ℕ) (before hs more : List Heard) (c : Cycle)
    → value < 1048576 → cycle_in_range c ≡ true → length before ≡ until_next c → length hs ≡ 20
    → (s_sent before (s_given value c) ≡ s_sent before c)
    × (number_high_first (s_sent hs (periods before (s_given value c))) ≡ value)
    × (s_sent more (periods hs (periods before (s_given value c))) ≡ replicate (length more) false)

-- A second message before a cycle begins, in that cycle's own period 1 too, replaces the first: all
-- is as if it had been given in its place. So it is what the cycle sends.
abbrev pub SReplaces : Type 0
SReplaces = (value second : ℕ) (early : List Heard) (c : Cycle) → cycle_in_range c ≡ true → length early ≤ until_next c
    → s_given second (periods early (s_given value c)) ≡ periods early (s_given second c)

abbrev pub SSecond : Type 0
SSecond = (value second : ℕ) (early before hs : List Heard) (c : Cycle)
    → second < 1048576 → cycle_in_range c ≡ true → length early + length before ≡ until_next c → length hs ≡ 20
    → number_high_first (s_sent hs (periods before (s_given second (periods early (s_given value c))))) ≡ second

-- What waits as a cycle begins is told to a terminal in F7 throughout, where each bit is heard as
-- it is sent.
abbrev pub SThrough : Type 0
SThrough = (i : ℕ) (hs : List Heard) (c : Cycle) → i < 8 → Whole hs c → cycle_in_range c ≡ true → throughout (in_f7 i) hs ≡ true
    → s_heard hs ≡ s_sent hs c → s_told i (periods hs c) ≡ c.swaiting

-- ---- Q, of each terminal.
-- The FA of a terminal: the bits of its message in the periods 1, 6, 11 and 16 where the downward
-- FA is heard at 1, 0 otherwise.
abbrev pub UpFaIs : Type 0
UpFaIs = (heard : Bool) (i : ℕ) (c : Cycle) → c.place < 20
    → up_fa heard i c ≡ ((c.running && heard) && get_or (on_line (get_or c.qsent i 0)) c.place false)

-- Its four bits are the message.
abbrev pub OnLineIs : Type 0
OnLineIs = (q : ℕ) → q ≤ 15 → q_of (on_line q) ≡ q

-- As for S. Behind the cycle a terminal sends the 1s of no message: FA as it is downward.
abbrev pub QOnce : Type 0
QOnce = (i value : ℕ) (before hs more : List Heard) (c : Cycle)
    → i < 8 → cycle_in_range c ≡ true → length before ≡ until_next c → length hs ≡ 20
    → (q_sent i before (q_given i value c) ≡ q_sent i before c)
    × (q_sent i hs (periods before (q_given i value c)) ≡ on_line value)
    × (q_sent i more (periods hs (periods before (q_given i value c))) ≡ fa_sent more (periods hs (periods before (q_given i value c))))

abbrev pub QReplaces : Type 0
QReplaces = (i value second : ℕ) (early : List Heard) (c : Cycle) → cycle_in_range c ≡ true → length early ≤ until_next c
    → q_given i second (periods early (q_given i value c)) ≡ periods early (q_given i second c)

abbrev pub QSecond : Type 0
QSecond = (i value second : ℕ) (early before hs : List Heard) (c : Cycle)
    → i < 8 → cycle_in_range c ≡ true → length early + length before ≡ until_next c → length hs ≡ 20
    → q_sent i hs (periods before (q_given i second (periods early (q_given i value c)))) ≡ on_line second

-- ---- Q, of several terminals.
-- The FA of those that send INFO 3 are ANDed: 1 where none sends.
abbrev pub QTogether : Type 0
QTogether = (heard : Bool) (senders : ℕ) (c : Cycle) → c.place < 20
    → joint_fa heard senders c
    ≡ all_of (λ q. (c.running && heard) && get_or (on_line q) c.place false) (messages_of senders c.qsent)

-- So a cycle that the same terminals send, and whose FA are heard as they are sent, tells the AND of
-- the messages that waited as it began; of one terminal its message, of none nothing.
abbrev pub Received : ℕ → List Heard → Cycle → Type 0
Received senders hs c =
    Whole hs c × (cycle_in_range c ≡ true) × (throughout in_g3 hs ≡ true) × (fa_heard hs ≡ joint_sent senders hs c)

abbrev pub QThrough : Type 0
QThrough = (senders : ℕ) (hs : List Heard) (c : Cycle) → Received senders hs c
    → q_told (periods hs c) ≡ and_of (messages_of senders c.qwaiting)

abbrev pub QOne : Type 0
QOne = (i : ℕ) (hs : List Heard) (c : Cycle) → i < 8 → Received (2 ^ i) hs c → q_told (periods hs c) ≡ get_or c.qwaiting i 0

abbrev pub QNone : Type 0
QNone = (hs : List Heard) (c : Cycle) → Received 0 hs c → q_told (periods hs c) ≡ 15

-- ---- A message to one unit changes nothing that another sends, now or later, and does not move a
-- cycle that runs.
abbrev pub SApart : Type 0
SApart = (i value : ℕ) (hs : List Heard) (c : Cycle) → c.running ≡ true → s_sent hs (q_given i value c) ≡ s_sent hs c

abbrev pub QApart : Type 0
QApart = (value j : ℕ) (hs : List Heard) (c : Cycle) → c.running ≡ true → q_sent j hs (s_given value c) ≡ q_sent j hs c

abbrev pub QOthers : Type 0
QOthers = (i value j : ℕ) (hs : List Heard) (c : Cycle) → c.running ≡ true → eqb j i ≡ false
    → q_sent j hs (q_given i value c) ≡ q_sent j hs c

abbrev pub PlaceKept : Type 0
PlaceKept = (i value : ℕ) (hs : List Heard) (c : Cycle) → c.running ≡ true
    → (fa_sent hs (q_given i value c) ≡ fa_sent hs c) × (m_sent hs (q_given i value c) ≡ m_sent hs c)
    × (fa_sent hs (s_given value c) ≡ fa_sent hs c) × (m_sent hs (s_given value c) ≡ m_sent hs c)

-- Nor does a message change what is told of the same bits heard.
abbrev pub ToldKept : Type 0
ToldKept = (i value : ℕ) (hs : List Heard) (c : Cycle) → c.running ≡ true
    → (q_told (periods hs (q_given i value c)) ≡ q_told (periods hs c)) × (q_told (periods hs (s_given value c)) ≡ q_told (periods hs c))
    × ((j : ℕ) → s_told j (periods hs (q_given i value c)) ≡ s_told j (periods hs c))
    × ((j : ℕ) → s_told j (periods hs (s_given value c)) ≡ s_told j (periods hs c))

-- ---- A scene, computed: terminals 1 and 4 have the messages 13 and 7, the network end has 524,289.
-- Both send INFO 3 and are in F7 throughout; each bit is heard as it is sent.
abbrev pub as_sent : ℕ → Cycle → Heard
as_sent mask c = record { fa = joint_fa (bits_at c).fa mask c; s = (bits_at c).s; g3 = true; f7 = mask }

unfoldable pub all_as_sent : ℕ → ℕ → Cycle → List Heard
all_as_sent zero mask c = []
all_as_sent (suc n) mask c = as_sent mask (taken c) ∷ all_as_sent n mask (period (as_sent mask (taken c)) c)

abbrev pub given : Cycle
given = s_given 524289 (q_given 3 7 (q_given 0 13 fresh))

abbrev pub a_cycle : List Heard
a_cycle = all_as_sent 20 9 given

abbrev pub Scene : Type 0
Scene = Received 9 a_cycle given
    × (q_told (periods a_cycle given) ≡ 5) × (s_told 0 (periods a_cycle given) ≡ 524289) × (s_told 1 (periods a_cycle given) ≡ 0)
