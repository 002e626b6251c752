-- Laws: scenes of still buses, each computed: how far they are still, and what a leap makes of
-- their counts.
-- Interface: none but for laws and proofs. Assumes nothing.
use Rattle.std.specs.Prelude.{Bool, true, false, cond, ◌&&◌, List, [], ◌∷◌, ◌≡◌, refl, ℕ, eqb, replicate}
use Rattle.slice_lemmas.specs.Over.{fold_from}
use Rattle.notes_and_cells.specs.Cells.{info_in}
use Rattle.table_6_2.specs.Table62.{F3, F4, F5, F7}
use Rattle.table_6_3.specs.Table63.{G1, G2, G3, G4}
use Rattle.timing.specs.Calls.{at_period}
use Rattle.timing.specs.Clear.{clear}
use Rattle.dchannel.specs.AtRest.{at_rest}
use Rattle.dchannel.specs.Access as dchannel
use Rattle.dchannel.specs.declared.access.Access.{Access}
use Rattle.alignment.specs.Alignment.{unaligned, in_alignment}
use Rattle.alignment.specs.declared.Alignment.{Alignment}
use Rattle.terminal.specs.Terminal as terminal
use Rattle.terminal.specs.declared.Terminal.{Terminal}
use Rattle.d_reader.specs.Counters.{fresh_reader, opened_reader}
use Rattle.d_reader.specs.declared.Reader.{Reader}
use Rattle.bus_rules.specs.Quick.{shown_by, shown_from}
use Rattle.exchange.specs.Rest.{part_rests}
use Rattle.period_hearing.specs.Hears.{rests}
use Rattle.bus_record.specs.Reading.{reader_waits}
use Rattle.bus_record.specs.NetworkSide.{counted_over, network_rests}
use Rattle.bus_record.specs.Record.{fresh_record, with_counts, with_network, with_echo, with_hit}
use Rattle.bus_record.specs.declared.record.BusRecord.{BusRecord}
use Rattle.idle_periods.specs.Still.{quiet, farthest, first_ahead, over_with, also_ahead, reached, reach, leapt}

-- ---- Units.
-- aligned or not, with no run
abbrev settled : Bool → Alignment
settled aligned = cond aligned (in_alignment 0) (unaligned 0)

-- a network end in `state`, aligned or not, after 1,000 periods, with T1 due at period `t1`, T2 at
-- period `t2`, and a reader
abbrev bus : ℕ → Bool → ℕ → ℕ → Reader → BusRecord
bus state aligned t1 t2 reader =
    with_counts (at_period 1000) (record { 0 = 400 })
    (with_network (record { t1 = t1; t2 = t2; state = state; alignment = settled aligned }) reader fresh_record)

-- a D access with this C and class, after a frame of class 1
abbrev counting : ℕ → ℕ → Access
counting count held = record { length = 0; sent = 0; count = count; held = held; low1 = true; low2 = false; last = true }

-- after one of class 2
abbrev low : Access
low = record { length = 0; sent = 0; count = 11; held = 0; low1 = false; low2 = true; last = true }

-- a terminal in `state` with that access, aligned or not, and with T3 due at period `t3`
abbrev unit : ℕ → Bool → ℕ → Access → Terminal
unit state aligned t3 access = terminal.with_fields t3 access state (settled aligned) terminal.fresh

abbrev active : Terminal
active = unit F7 true 0 (counting 11 0)

-- how far a bus is still, with 500 periods left
abbrev far : BusRecord → List Terminal → ℕ
far b ts = reach b ts 500

-- a bus in G3, and that bus with a hit pending, and after a D of 0
abbrev in_g3_lem : BusRecord
in_g3_lem = bus G3 true 0 0 fresh_reader

abbrev hit_pending : BusRecord
hit_pending = with_hit true in_g3_lem

abbrev after_0 : BusRecord
after_0 = with_echo false in_g3_lem

-- and one that has 100 periods left in all
abbrev at_the_end : BusRecord
at_the_end = with_counts (at_period 3999900) in_g3_lem.opportunities in_g3_lem

-- a bus in G4 until T2 at period 1,100
abbrev in_g4 : BusRecord
in_g4 = bus G4 false 0 1100 fresh_reader

-- ---- How far: a row is how far a bus is found still, and how far it should be.
abbrev still : List (ℕ × ℕ)
still =
    -- nothing powered: all periods but the last
    (far fresh_record (replicate 8 terminal.fresh), 499)
    -- in G1, one terminal waits in F3; one in F5, until T3 at period 1,020
    ∷ (far (bus G1 false 0 0 fresh_reader) (unit F3 false 0 dchannel.fresh ∷ unit F5 false 1020 dchannel.fresh ∷ []), 19)
    -- nothing powered in G2, until T1 at period 1,200
    ∷ (far (bus G2 false 1200 0 fresh_reader) (terminal.fresh ∷ []), 199)
    -- in G3, two terminals activated, C at its end; up to the last period that a bus can run
    ∷ (far in_g3_lem (active ∷ terminal.fresh ∷ active ∷ []), 499)
    ∷ (far at_the_end (active ∷ []), 99)
    -- in G4 a terminal calls: until T2, and until its own T3 at period 1,050
    ∷ (far in_g4 (unit F3 false 0 dchannel.fresh ∷ unit F4 false 1300 dchannel.fresh ∷ []), 99)
    ∷ (far in_g4 (unit F4 false 1050 dchannel.fresh ∷ []), 49)
    ∷ []

abbrev not_still : List (ℕ × ℕ)
not_still =
    -- C at 10; a frame held; class 2 at its low level
    (far in_g3_lem (unit F7 true 0 (counting 10 0) ∷ []), 0)
    ∷ (far in_g3_lem (unit F7 true 0 (counting 11 2) ∷ []), 0)
    ∷ (far in_g3_lem (unit F7 true 0 low ∷ []), 0)
    -- the reader inside a frame; a hit pending; the last D at 0
    ∷ (far (bus G3 true 0 0 opened_reader) (active ∷ []), 0)
    ∷ (far hit_pending (active ∷ []), 0)
    ∷ (far after_0 (active ∷ []), 0)
    -- G3 without a terminal that sends INFO 3; with one that is not aligned
    ∷ (far in_g3_lem (terminal.fresh ∷ []), 0)
    ∷ (far in_g3_lem (unit F7 false 0 (counting 11 0) ∷ []), 0)
    -- a call in G1; G4 without a call; one period left
    ∷ (far (bus G1 false 0 0 fresh_reader) (unit F4 false 0 dchannel.fresh ∷ []), 0)
    ∷ (far in_g4 (unit F3 false 0 dchannel.fresh ∷ []), 0)
    ∷ (reach fresh_record [] 1, 0)
    ∷ []

abbrev each : List (ℕ × ℕ) → Bool
each [] = true
each (row ∷ rows) = eqb row.0 row.1 && each rows

pub how_far : (each still ≡ true) × (each not_still ≡ true)
unfolding reach reached first_ahead also_ahead over_with farthest quiet reader_waits network_rests shown_from clear rests part_rests
    shown_by info_in fold_from at_rest
how_far = (refl, refl)

-- ---- What a leap makes of the counts: four opportunities a period in G3, none elsewhere.
pub leap_in_g3 : ((leapt 30 in_g3_lem).periods.0 ≡ 1030) × ((leapt 30 in_g3_lem).opportunities.0 ≡ 520)
unfolding leapt counted_over
leap_in_g3 = (refl, refl)

pub leap_outside_g3 : ((leapt 30 (bus G1 false 0 0 fresh_reader)).periods.0 ≡ 1030)
    × ((leapt 30 (bus G1 false 0 0 fresh_reader)).opportunities.0 ≡ 400)
unfolding leapt counted_over
leap_outside_g3 = (refl, refl)
