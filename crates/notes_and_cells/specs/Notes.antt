-- Rules: the notes of document 01, "Bench book and report", and of document 02, 2.1, each with a
-- code.
-- Interface: every name. Assumes nothing.
use Rattle.std.specs.Prelude.{List, [], ◌∷◌, ℕ, length, get_or, take}
use Rattle.notes_and_cells.specs.declared.notes.Notes.{Notes}

-- The standard's PH-AI and PH-DI, to layer 2.
abbrev pub ph_act : ℕ
ph_act = 1

abbrev pub ph_deact : ℕ
ph_deact = 2

-- Its MPH-AI and MPH-DI, to management.
abbrev pub mph_act : ℕ
mph_act = 3

abbrev pub mph_deact : ℕ
mph_deact = 4

-- Error indications: of the network end; a terminal's error, and its recovery.
abbrev pub mph_ei : ℕ
mph_ei = 5

abbrev pub mph_ei1 : ℕ
mph_ei1 = 6

abbrev pub mph_ei2 : ℕ
mph_ei2 = 7

-- MPH-II with its value connected, MPH-II(c), and with its value disconnected, MPH-II(d).
abbrev pub mph_ii_connected : ℕ
mph_ii_connected = 8

abbrev pub mph_ii_disconnected : ℕ
mph_ii_disconnected = 9

-- D notes.
abbrev pub HEARD : ℕ
HEARD = 10

abbrev pub TORN : ℕ
TORN = 11

abbrev pub DONE1 : ℕ
DONE1 = 12

abbrev pub DONE2 : ℕ
DONE2 = 13

abbrev pub DROPPED1 : ℕ
DROPPED1 = 14

abbrev pub DROPPED2 : ℕ
DROPPED2 = 15

-- A call of the book that was turned down.
abbrev pub REFUSED : ℕ
REFUSED = 16

-- What a cycle of Q and S bits has received: the network end the four Q bits, a terminal the twenty S
-- bits. No bus has these notes yet.
abbrev pub Q : ℕ
Q = 17

abbrev pub S : ℕ
S = 18

-- A call's notes: how many, and the codes in their order. A place that has none is 0. There are four
-- places: no cell, and no two that act in one call, have more.
abbrev pub packed_notes : List ℕ → Notes
packed_notes codes = (length codes, get_or codes 0 0, get_or codes 1 0, get_or codes 2 0, get_or codes 3 0)

-- The codes of a call's notes, as a list.
unfoldable pub noted : Notes → List ℕ
noted n = take n.0 (n.1 ∷ n.2 ∷ n.3 ∷ n.4 ∷ [])
