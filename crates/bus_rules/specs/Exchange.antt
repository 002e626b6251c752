-- Rules: the exchange of a period by lines (document 01, "The line" and "Order inside a period";
-- document 02, 2.1). A line is written from the bits that are known so far, with 1 for the rest;
-- nothing later changes what was taken from it (the law `as_taken`, Later.antt).
-- Interface: `sent_down`, `any_sends`, `any_info1`, `any_info3`, `Sender`, `stations_of`, `Opportunity`,
-- `in_f7`, `access_step_of`, `station_after_e`, `d_of`, `done_of`, `sent_of`, `line_up`, `e_comes`, `d_comes`,
-- `in_g3`, `said_to`, `onward`, `begins`, `opportunities_of`, `exchanged`, `whole_down`, `fa_down`,
-- `fa_sent`, `whole_up`. Assumes nothing.
use Rattle.std.specs.Prelude.{Bool, true, false, cond, ◌||◌, List, [], ◌∷◌, ◌++◌, map, ℕ, suc, eqb, length, get_or}
use Rattle.symbols.specs.Symbols.{levels}
use Rattle.frame.specs.Four.{pick, filled_with_ones}
use Rattle.frame.specs.Bits.{d_bits, fa_bit}
use Rattle.frame.specs.Down.{e_bits}
use Rattle.frame.specs.declared.fields.Four.{Four}
use Rattle.frame.specs.declared.fields.CycleBits.{CycleBits}
use Rattle.info.specs.Info.{info0, info2_with, info3_fields, info4_with}
use Rattle.combining.specs.Combine.{combined}
use Rattle.combining.specs.Sent.{Sent, silent, calling, frame, sent_line}
use Rattle.combining.specs.Hit.{hit}
use Rattle.notes_and_cells.specs.Cells.{info_in}
use Rattle.table_6_2.specs.Table62.{F7}
use Rattle.table_6_2.specs.Table62 as Table62
use Rattle.table_6_3.specs.Table63.{G3}
use Rattle.table_6_3.specs.Table63 as Table63
use Rattle.dchannel.specs.Access.{normal1, normal2, access_step}
use Rattle.dchannel.specs.declared.access.AccessStep.{AccessStep}
use Rattle.hdlc.specs.Reading.{Reading, Said, said, next}
use Rattle.hdlc.specs.Reading.Said.{nothing}
use Rattle.cycle.specs.Cycle.{taken, bits_at, up_fa}
use Rattle.cycle.specs.declared.record.Cycle.{Cycle}
use Rattle.terminal.specs.Terminal.{with_access}
use Rattle.bus_rules.specs.Bus.{Station, Hit, Bus, with_terminal}
use Rattle.bus_rules.specs.Bus.Hit.{none, given}

-- The line that a network end sends in a state, with the cycle's bits and four E bits: INFO 0, 2 or
-- 4.
unfoldable pub sent_down : CycleBits → ℕ → Four → List ℕ
sent_down bits state es =
    let info = info_in Table63.info_sent state in
    cond (eqb info 4) (info4_with bits es) (cond (eqb info 2) (info2_with bits) info0)

-- What a terminal sends in a state, with its FA and its D bits so far: INFO 0, 1 or 3.
unfoldable pub sent_up : Bool → ℕ → List Bool → Sent
sent_up fa state ds =
    let info = info_in Table62.info_sent state in
    cond (eqb info 3) (frame (info3_fields fa (filled_with_ones ds))) (cond (eqb info 1) calling silent)

-- Who sends what: whether a terminal in any of some states sends the INFO of a number; whether any
-- terminal sends INFO 1, and whether any sends INFO 3.
unfoldable pub any_sends : ℕ → List ℕ → Bool
any_sends info [] = false
any_sends info (state ∷ states) = eqb (info_in Table62.info_sent state) info || any_sends info states

abbrev pub any_info1 : List Station → Bool
any_info1 ss = any_sends 1 (map (λ (s : Station). s.terminal.state) ss)

abbrev pub any_info3 : List Station → Bool
any_info3 ss = any_sends 3 (map (λ (s : Station). s.terminal.state) ss)

-- "hit: .. for this period's downward line"
abbrev pub struck_by : Hit → List ℕ → List ℕ
struck_by none l = l
struck_by (given letters) l = hit letters l

-- A terminal in the exchange: its D bits so far, and the classes of the frames completed so far.
pub record Sender : Type 0 where
  pub station : Station
  pub ds : List Bool
  pub done : List ℕ

abbrev pub stations_of : List Sender → List Station
stations_of ss = map (λ (s : Sender). s.station) ss

-- A D opportunity: the exchange as its E comes. What does not change in the exchange, and what has
-- been sent, heard and said in it before.
pub record Opportunity : Type 0 where
  -- the network end's state and the hit
  pub network : ℕ
  pub hit : Hit
  -- the cycle, with the messages that it has taken
  pub cycle : Cycle
  pub senders : List Sender
  -- the E bits so far; INFO 4 carries them, INFO 0 and INFO 2 do not
  pub es : List Bool
  -- the last combined D that the network end heard, and its reader
  pub heard_d : Bool
  pub reading : Reading
  -- what the reader has said
  pub saids : List Said

-- "A terminal in F7"
abbrev pub in_f7 : Station → Bool
in_f7 s = eqb s.terminal.state F7

-- What an E gives in F7: one step of the D access, with the next bit of the image.
unfoldable pub access_step_of : Bool → Station → AccessStep
access_step_of e s = access_step normal1 normal2 e (get_or s.image s.terminal.access.sent true) s.terminal.access

unfoldable pub station_after_e : Bool → Station → Station
station_after_e e s = cond (in_f7 s) (with_terminal (with_access (access_step_of e s).access s.terminal) s) s

-- "D as D access says; in F6 D is 1"
unfoldable pub d_of : Bool → Station → Bool
d_of e s = cond (in_f7 s) (access_step_of e s).d true

-- the class of the frame that is completed at the E, if any
unfoldable pub done_of : Bool → Station → List ℕ
done_of e s = cond (in_f7 s) (cond (eqb (access_step_of e s).done 0) [] ((access_step_of e s).done ∷ [])) []

-- a terminal in the exchange after an E
unfoldable pub hears_e : Bool → Sender → Sender
hears_e e s =
    record {
      station = station_after_e e s.station;
      ds = s.ds ++ (d_of e s.station ∷ []);
      done = s.done ++ done_of e s.station;
    }

-- what it sends as a D is taken from the line, with 1 for FA: the whole line (`whole_up`) has its FA
unfoldable pub sent_of : Sender → Sent
sent_of s = sent_up true s.station.terminal.state s.ds

-- The line that all powered terminals hear, with the E bits so far, and the line that all terminals
-- give together.
unfoldable pub line_down : CycleBits → ℕ → Hit → List Bool → List ℕ
line_down bits network h es = struck_by h (sent_down bits network (filled_with_ones es))

unfoldable pub line_up : List Sender → List ℕ
line_up ss = combined (map sent_line (map sent_of ss))

-- "each E the last combined D that the network heard": the E that comes, at symbol level of the
-- downward line after the hit
unfoldable pub e_comes : Opportunity → Bool
e_comes m =
    pick (length m.es) (e_bits (levels (line_down (bits_at m.cycle) m.network m.hit (m.es ++ (m.heard_d ∷ [])))))

unfoldable pub senders_after : Opportunity → List Sender
senders_after m = map (hears_e (e_comes m)) m.senders

-- the D after it, at symbol level of the combined line
unfoldable pub d_comes : Opportunity → Bool
d_comes m = pick (length m.es) (d_bits (levels (line_up (senders_after m))))

-- "In G3 the network reads D"
abbrev pub in_g3 : Opportunity → Bool
in_g3 m = eqb m.network G3

unfoldable pub said_to : Opportunity → Said
said_to m = cond (in_g3 m) (said m.reading (d_comes m)) nothing

-- The exchange after this opportunity: as the next one's E comes, or after the last one.
unfoldable pub onward : Opportunity → Opportunity
onward m =
    record {
      network = m.network;
      hit = m.hit;
      cycle = m.cycle;
      senders = senders_after m;
      es = m.es ++ (m.heard_d ∷ []);
      heard_d = d_comes m;
      reading = cond (in_g3 m) (next m.reading (d_comes m)) m.reading;
      saids = m.saids ++ (said_to m ∷ []);
    }

-- "What is sent follows the states before hearing": the exchange as E11 comes. A cycle that begins
-- has taken the messages that wait.
unfoldable pub as_sender : Station → Sender
as_sender s = record { station = s; ds = []; done = [] }

unfoldable pub begins : Bus → Opportunity
begins b =
    record {
      network = b.network.state;
      hit = b.hit;
      cycle = taken b.cycle;
      senders = map as_sender b.stations;
      es = [];
      heard_d = b.heard_d;
      reading = b.reading;
      saids = [];
    }

-- "Echo and D go E11, D12, E24, D25, E35, D36, E46, D47": the four D opportunities, each as its E
-- comes, and the exchange after the last one.
unfoldable pub opportunities_of : Bus → List Opportunity
opportunities_of b = begins b ∷ onward (begins b) ∷ onward (onward (begins b)) ∷ onward (onward (onward (begins b))) ∷ []

unfoldable pub exchanged : Bus → Opportunity
exchanged b = onward (onward (onward (onward (begins b))))

-- the downward line when all bits are known
unfoldable pub whole_down : Opportunity → List ℕ
whole_down m = line_down (bits_at m.cycle) m.network m.hit m.es

-- "A terminal that hears FA at 1 .. (it hears 14 before it sends 14)": the downward FA after the hit,
-- at symbol level, and the FA that the terminal at an index sends in INFO 3
unfoldable pub fa_down : Opportunity → Bool
fa_down m = fa_bit (levels (whole_down m))

unfoldable pub fa_sent : Opportunity → ℕ → Bool
fa_sent m i = up_fa (fa_down m) i m.cycle

-- what the terminals from an index on send, when all bits are known, and the line that all give
-- together
unfoldable pub sent_from : (ℕ → Bool) → ℕ → List Sender → List Sent
sent_from fas i [] = []
sent_from fas i (s ∷ ss) = sent_up (fas i) s.station.terminal.state s.ds ∷ sent_from fas (suc i) ss

unfoldable pub whole_up : Opportunity → List ℕ
whole_up m = combined (map sent_line (sent_from (fa_sent m) 0 m.senders))
