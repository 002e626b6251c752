-- How the code goes: what is on the line without building it: E, D and what is heard, from the
-- states and the D bits alone, in every period. The statements are types; `proofs/Quick.antt`
-- proves each under the same name in small letters.
-- Interface: `sent_e`, `shown_from`, `shown_by`. Assumes nothing.
use Rattle.std.specs.Prelude.{◌≡◌, Bool, true, false, not, cond, ◌&&◌, ◌||◌, List, [], ◌∷◌, map, ℕ, suc, ◌<◌, eqb, length, get_or}
use Rattle.symbols.specs.Symbols.{levels}
use Rattle.frame.specs.Four.{and_all}
use Rattle.frame.specs.Bits.{fa_bit, fa_index}
use Rattle.frame.specs.Down.{e_index, s_bit, s_index}
use Rattle.frame.specs.declared.fields.Four.{Four}
use Rattle.frame.specs.declared.fields.CycleBits.{CycleBits}
use Rattle.combining.specs.SentD.{sent_d, all_ones}
use Rattle.combining.specs.Hit.{keep_letter}
use Rattle.combining.specs.StruckBits.{struck_bit}
use Rattle.cycle.specs.Cycle.{bits_at}
use Rattle.notes_and_cells.specs.Cells.{info_in}
use Rattle.table_6_2.specs.Table62 as Table62
use Rattle.table_6_3.specs.Table63 as Table63
use Rattle.heard_line.specs.Sensing.{shown_up, shown_down}
use Rattle.heard_line.specs.declared.heard.Downward.{Downward}
use Rattle.heard_line.specs.declared.heard.Upward.{Upward}
use Rattle.bus_rules.specs.Bus.{Station, Hit, Bus}
use Rattle.bus_rules.specs.Bus.Hit.{none, given}
use Rattle.bus_rules.specs.Exchange.{Sender, Opportunity, stations_of, any_info1, any_info3, sent_down, d_of, sent_of, e_comes}
use Rattle.bus_rules.specs.Exchange.{d_comes, onward, begins, whole_down, fa_down, fa_sent, whole_up}

-- ---- E: INFO 4 has the last D heard, INFO 2 has 0, INFO 0 has no pulse.
unfoldable pub sent_e : ℕ → Bool → Bool
sent_e state d =
    let info = info_in Table63.info_sent state in
    cond (eqb info 4) d (cond (eqb info 2) false true)

-- The E at place k under a hit.
unfoldable pub struck_at : Hit → ℕ → Bool → Bool
struck_at none k e = e
struck_at (given letters) k e = struck_bit (get_or letters (e_index k) keep_letter) e

abbrev pub QuickE : Type 0
QuickE = (m : Opportunity) → length m.es < 4 → e_comes m ≡ struck_at m.hit (length m.es) (sent_e m.network m.heard_d)

-- ---- D: 0 where any terminal sends 0; INFO 1 inverts it at place 1, position 25.
unfoldable pub all_d : Bool → List Station → Bool
all_d e [] = true
all_d e (s ∷ ss) = d_of e s && all_d e ss

-- each terminal has sent k D bits, one for each D opportunity so far
pub data InStep (k : ℕ) : List Sender → Type 0 where
  end : InStep k []
  one : {s : Sender} {ss : List Sender} → length s.ds ≡ k → InStep k ss → InStep k (s ∷ ss)

abbrev pub QuickD : Type 0
QuickD =
    (m : Opportunity) → length m.es < 4 → InStep (length m.es) m.senders →
    let d = all_d (e_comes m) (stations_of m.senders) in
    d_comes m ≡ cond (eqb (length m.es) 1 && any_info1 (stations_of m.senders)) (not d) d

-- which holds in every exchange
abbrev pub InStepBegins : Type 0
InStepBegins = (b : Bus) → InStep (length (begins b).es) (begins b).senders

abbrev pub InStepOnward : Type 0
InStepOnward = (m : Opportunity) → InStep (length m.es) m.senders → InStep (length (onward m).es) (onward m).senders

-- ---- FA and S: of INFO 2 and INFO 4 the cycle's, of INFO 0 1; under a hit by their own letters.
unfoldable pub sent_bit : ℕ → Bool → Bool
sent_bit state b =
    let info = info_in Table63.info_sent state in
    cond (eqb info 4 || eqb info 2) b true

unfoldable pub struck_in : Hit → ℕ → Bool → Bool
struck_in none i b = b
struck_in (given letters) i b = struck_bit (get_or letters i keep_letter) b

abbrev pub QuickFa : Type 0
QuickFa = (m : Opportunity) → fa_down m ≡ struck_in m.hit fa_index (sent_bit m.network (bits_at m.cycle).fa)

abbrev pub QuickS : Type 0
QuickS = (m : Opportunity) → s_bit (levels (whole_down m)) ≡ struck_in m.hit s_index (sent_bit m.network (bits_at m.cycle).s)

-- Upward, the AND of the FA of those that send INFO 3, from an index on.
unfoldable pub all_fa : (ℕ → Bool) → ℕ → List Station → Bool
all_fa fas i [] = true
all_fa fas i (s ∷ ss) = cond (eqb (info_in Table62.info_sent s.terminal.state) 3) (fas i) true && all_fa fas (suc i) ss

abbrev pub QuickUpFa : Type 0
QuickUpFa = (m : Opportunity) → fa_bit (levels (whole_up m)) ≡ all_fa (fa_sent m) 0 (stations_of m.senders)

-- ---- What the line up shows. INFO 1 alone is INFO 1; beside INFO 3 it leaves a signal, unless that
-- INFO 3 has FA and all D at 1: then the line is INFO 1. INFO 3 alone is framed unless its first D
-- and its FA are 1. Where nobody sends INFO 3, FA and D count as 1.
unfoldable pub shown_with : (info1 info3 fa : Bool) → Four → Upward
shown_with true info3 fa d = record { pulse = true; framed = false; info1 = all_ones fa d }
shown_with false true fa d = record { pulse = true; framed = not (d.first && fa); info1 = false }
shown_with false false fa d = record { pulse = false; framed = false; info1 = false }

-- the ANDs of the D bits of those that send INFO 3
unfoldable pub sent_ds : List Sender → Four
sent_ds ss = and_all (map sent_d (map sent_of ss))

abbrev pub UpShownWith : Type 0
UpShownWith =
    (m : Opportunity) →
    let ss = stations_of m.senders in
    shown_up (whole_up m) ≡ shown_with (any_info1 ss) (any_info3 ss) (all_fa (fa_sent m) 0 ss) (sent_ds m.senders)

-- So where no cycle runs, by who sends what alone: INFO 1 beside INFO 3 leaves a signal.
unfoldable pub shown_from : (info1 info3 : Bool) → Upward
shown_from true false = record { pulse = true; framed = false; info1 = true }
shown_from true true = record { pulse = true; framed = false; info1 = false }
shown_from false true = record { pulse = true; framed = true; info1 = false }
shown_from false false = record { pulse = false; framed = false; info1 = false }

abbrev pub UpShown : Type 0
UpShown =
    (m : Opportunity) → m.cycle.running ≡ false →
    shown_up (whole_up m) ≡ shown_from (any_info1 (stations_of m.senders)) (any_info3 (stations_of m.senders))

-- ---- What the line down shows before a hit: INFO 4, INFO 2 or INFO 0.
unfoldable pub shown_by : ℕ → Downward
shown_by state =
    let info = info_in Table63.info_sent state in
    cond (eqb info 4) (record { pulse = true; framed = true; a = true })
    (cond (eqb info 2) (record { pulse = true; framed = true; a = false }) (record { pulse = false; framed = false; a = true }))

abbrev pub DownShown : Type 0
DownShown = (bits : CycleBits) (state : ℕ) (es : Four) → shown_down (sent_down bits state es) ≡ shown_by state
