-- Laws: the cases marked ● in document 01, "Edges": one table, computed by the definitions, and a
-- single fact that proves it.
-- Interface: none but for laws and proofs. Assumes nothing.
use Rattle.std.specs.Prelude.{◌≡◌, refl, Bool, true, false, cond, not, List, [], ◌∷◌, ◌++◌, ℕ, zero, suc, ◌+◌, eqb, length, get_or, replicate}
use Rattle.symbols.specs.Symbols.{none, plus, minus, same_symbols}
use Rattle.framed.specs.Framed.{first_pulse, framed_in, framed_up, has_pulse}
use Rattle.info.specs.Info.{info0, info1}
use Rattle.hdlc.specs.Bits.{low_bits, body_bits}
use Rattle.hdlc.specs.Image.{flag, stuff, image}
use Rattle.dchannel.specs.Access.{normal1, normal2, count_after, low_after, after_e, low_of, threshold, may_start, sends_next, stops}
use Rattle.dchannel.specs.Access.{completes, idles, access_step}
use Rattle.dchannel.specs.Ranges.{access_in_range}
use Rattle.dchannel.specs.Access as access
use Rattle.dchannel.specs.declared.access.Access.{Access}
use Rattle.dchannel.specs.declared.access.AccessStep.{AccessStep}
use Rattle.notes_and_cells.specs.Cells.{cell_in}
use Rattle.table_6_2.specs.Table62.{F6}
use Rattle.table_6_3.specs.Table63.{G1, G4}
use Rattle.timing.specs.Timers.{due, started_by, timer_after}
use Rattle.alignment.specs.Alignment.{unaligned, in_alignment, followed}
use Rattle.heard_line.specs.Heard.{upward_event, loss_up}
use Rattle.notes_and_cells.specs.Notes.{noted}
use Rattle.heard_line.specs.Sensing.{shown_up}
use Rattle.network.specs.Network as network
use Rattle.network.specs.Calls as networkCalls
use Rattle.terminal.specs.Terminal as terminal
use Rattle.terminal.specs.Calls as terminalCalls

-- bits written as 0 and 1, and whether two lists of bits are the same
abbrev bits : List ℕ → List Bool
bits [] = []
bits (n ∷ ns) = eqb n 1 ∷ bits ns

abbrev alike : List Bool → List Bool → Bool
alike [] [] = true
alike [] (y ∷ ys) = false
alike (x ∷ xs) [] = false
alike (x ∷ xs) (y ∷ ys) = cond (cond x y (not y)) (alike xs ys) false

-- a terminal in F7 with C at c that holds a frame of class k with an image of n bits, the class at
-- its low level or not, and the other class at the other level
abbrev holding : ℕ → Bool → ℕ → ℕ → Access
holding k low n c =
    let first = eqb k 1 in
    record { length = n; sent = 0; count = c; held = k; low1 = cond first low (not low); low2 = cond first (not low) low; last = true }

-- whether such a terminal starts to send its frame
abbrev starts : ℕ → Bool → ℕ → Bool
starts k low c = may_start normal1 normal2 (holding k low 24 c)

-- Two terminals with accesses a and b that send images x and y, over some D opportunities from the
-- echo e: the classes of the frames that each completes, added to m and to n.
abbrev completed : ℕ → List Bool → List Bool → Access → Access → Bool → ℕ → ℕ → List ℕ
completed zero x y a b e m n = m ∷ n ∷ []
completed (suc k) x y a b e m n =
    let s : AccessStep = access_step normal1 normal2 e (get_or x a.sent true) a in
    let t : AccessStep = access_step normal1 normal2 e (get_or y b.sent true) b in
    completed k x y s.access t.access (cond s.d t.d false) (m + s.done) (n + t.done)

abbrev first00 : List ℕ
first00 = completed 25 (image (0 ∷ [])) (image (1 ∷ [])) (holding 1 false 24 8) (holding 1 false 24 8) true 0 0

-- the state of the network end in G4 after it has heard a line, and of a terminal in F6 after its
-- T3 is due
abbrev g4_hears : List ℕ → ℕ
g4_hears line =
    (networkCalls.hear_call (shown_up line) (record { 0 = 9 }) (record { t1 = 0; t2 = 0; state = G4; alignment = unaligned 0 })
    ).network.state

abbrev f6_due : ℕ
f6_due =
    (terminalCalls.timer_call (record { 0 = 9 }) (terminal.with_fields 9 access.fresh F6 (in_alignment 0) terminal.fresh)
    ).terminal.state

-- an upward line whose first pulse after symbol 2 is minus, with `before` nones before it and
-- `after` nones after it
abbrev pulse_at : ℕ → ℕ → List ℕ
pulse_at before after = plus ∷ minus ∷ (replicate before none ++ (minus ∷ replicate after none))

-- The table: each case as a test that comes out true.
unfoldable pub edges : List Bool
edges =
    -- Body 00 becomes 24 bits; body ff has 111110111 between the flags.
    eqb (length (image (0 ∷ []))) 24
    ∷ alike (image (255 ∷ [])) (flag ++ (bits (1 ∷ 1 ∷ 1 ∷ 1 ∷ 1 ∷ 0 ∷ 1 ∷ 1 ∷ 1 ∷ []) ++ flag))
    -- Class 1, normal: C = 7 waits, C = 8 starts. Low: 8 waits, 9 starts.
    ∷ not (starts 1 false 7)
    ∷ starts 1 false 8
    ∷ not (starts 1 true 8)
    ∷ starts 1 true 9
    -- Class 2: 9 waits, 10 starts; low: 10 waits, 11 starts.
    ∷ not (starts 2 false 9)
    ∷ starts 2 false 10
    ∷ not (starts 2 true 10)
    ∷ starts 2 true 11
    -- Bodies 00 and 01 started together: 00 is completed, and at that opportunity 01 is not.
    ∷ same_symbols first00 (1 ∷ 0 ∷ [])
    -- INFO 1 is not framed. First pulse upward at 14 minus: framed; at 15: not.
    ∷ not (framed_up info1)
    ∷ framed_up (pulse_at 11 34)
    ∷ not (framed_up (pulse_at 12 33))
    -- G4 hearing INFO 0 goes to G1. F6 with T3 due stays in F6.
    ∷ eqb (g4_hears info0) G1
    ∷ eqb f6_due F6
    ∷ []

-- every test holds
abbrev all : List Bool → Bool
all [] = true
all (b ∷ bs) = cond b (all bs) false

pub edges_hold : all edges ≡ true
unfolding edges image stuff body_bits low_bits may_start threshold low_of access_step after_e count_after low_after sends_next stops
    completes idles same_symbols framed_in first_pulse has_pulse shown_up networkCalls.checked networkCalls.ready
    networkCalls.network_in_range network.hears network.heard_as network.and_then network.happens network.acts network.moved
    network.aligned loss_up upward_event followed noted cell_in timer_after started_by due terminalCalls.checked terminal.timer
    terminalCalls.ready terminalCalls.terminal_in_range terminal.happens terminal.acts terminal.no_timer access_in_range
edges_hold = refl
