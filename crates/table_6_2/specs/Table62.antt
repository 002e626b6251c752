-- Rules: table 6-2 of JT-I430, activation and deactivation at a terminal: a row for each event and
-- a cell for each of the states F1 to F8, as printed. PH-AI is PH-ACT, PH-DI is PH-DEACT, MPH-AI is
-- MPH-ACT, MPH-DI is MPH-DEACT. "ST,T3" starts T3, "S/R T3" stops it.
-- Interface: every name. Assumes nothing.
use Rattle.std.specs.Prelude.{List, [], ◌∷◌, ℕ}
use Rattle.notes_and_cells.specs.Notes.{ph_act, ph_deact, mph_act, mph_deact, mph_ei1, mph_ei2, mph_ii_connected, mph_ii_disconnected}
use Rattle.notes_and_cells.specs.Cells.{to, starts_to, stops_to, stay, stay_with, impossible, absent}
use Rattle.notes_and_cells.specs.declared.cell.Cell.{Cell}

-- The numbers of the states.
abbrev pub F1 : ℕ
F1 = 1

abbrev pub F2 : ℕ
F2 = 2

abbrev pub F3 : ℕ
F3 = 3

abbrev pub F4 : ℕ
F4 = 4

abbrev pub F5 : ℕ
F5 = 5

abbrev pub F6 : ℕ
F6 = 6

abbrev pub F7 : ℕ
F7 = 7

abbrev pub F8 : ℕ
F8 = 8

-- The INFO that is sent in each state.
abbrev pub info_sent : List ℕ
info_sent = 0 ∷ 0 ∷ 0 ∷ 1 ∷ 0 ∷ 3 ∷ 3 ∷ 0 ∷ []

-- Power on and a source detected.
abbrev pub power_on : List Cell
power_on = to F2 [] ∷ stay ∷ stay ∷ stay ∷ stay ∷ stay ∷ stay ∷ stay ∷ []

-- Source off.
abbrev pub power_off : List Cell
power_off =
    stay
    ∷ to F1 []
    ∷ to F1 (mph_ii_disconnected ∷ [])
    ∷ to F1 (mph_ii_disconnected ∷ mph_deact ∷ ph_deact ∷ [])
    ∷ to F1 (mph_ii_disconnected ∷ mph_deact ∷ ph_deact ∷ [])
    ∷ to F1 (mph_ii_disconnected ∷ mph_deact ∷ ph_deact ∷ [])
    ∷ to F1 (mph_ii_disconnected ∷ mph_deact ∷ ph_deact ∷ [])
    ∷ to F1 (mph_ii_disconnected ∷ mph_deact ∷ ph_deact ∷ [])
    ∷ []

-- PH-AR, the request for activation.
abbrev pub activation_request : List Cell
activation_request = impossible ∷ absent ∷ starts_to F4 [] ∷ absent ∷ absent ∷ stay ∷ absent ∷ stay ∷ []

-- T3 expires.
abbrev pub t3_expiry : List Cell
t3_expiry =
    impossible
    ∷ impossible
    ∷ stay
    ∷ to F3 (mph_deact ∷ ph_deact ∷ [])
    ∷ to F3 (mph_deact ∷ ph_deact ∷ [])
    ∷ stay_with (mph_deact ∷ ph_deact ∷ [])
    ∷ impossible
    ∷ to F3 (mph_deact ∷ ph_deact ∷ [])
    ∷ []

-- INFO 0 is received.
abbrev pub info0_received : List Cell
info0_received =
    impossible
    ∷ to F3 (mph_ii_connected ∷ [])
    ∷ stay
    ∷ stay
    ∷ stay
    ∷ to F3 (mph_deact ∷ ph_deact ∷ [])
    ∷ to F3 (mph_deact ∷ ph_deact ∷ [])
    ∷ to F3 (mph_deact ∷ ph_deact ∷ mph_ei2 ∷ [])
    ∷ []

-- Any signal is received.
abbrev pub signal_received : List Cell
signal_received = impossible ∷ stay ∷ stay ∷ to F5 [] ∷ stay ∷ impossible ∷ impossible ∷ stay ∷ []

-- INFO 2 is received.
abbrev pub info2_received : List Cell
info2_received =
    impossible ∷ to F6 (mph_ii_connected ∷ []) ∷ to F6 [] ∷ to F6 [] ∷ to F6 [] ∷ stay ∷ to F6 (mph_ei1 ∷ []) ∷ to F6 (mph_ei2 ∷ []) ∷ []

-- INFO 4 is received.
abbrev pub info4_received : List Cell
info4_received =
    impossible
    ∷ to F7 (mph_ii_connected ∷ ph_act ∷ mph_act ∷ [])
    ∷ stops_to F7 (ph_act ∷ mph_act ∷ [])
    ∷ stops_to F7 (ph_act ∷ mph_act ∷ [])
    ∷ stops_to F7 (ph_act ∷ mph_act ∷ [])
    ∷ stops_to F7 (ph_act ∷ mph_act ∷ mph_ei2 ∷ [])
    ∷ stay
    ∷ stops_to F7 (ph_act ∷ mph_act ∷ mph_ei2 ∷ [])
    ∷ []

-- Frame alignment is lost.
abbrev pub alignment_lost : List Cell
alignment_lost = impossible ∷ impossible ∷ impossible ∷ impossible ∷ impossible ∷ to F8 (mph_ei1 ∷ []) ∷ to F8 (mph_ei1 ∷ []) ∷ stay ∷ []

-- The whole table. The events are numbered from 1 in the order of its rows.
abbrev pub table62 : List (List Cell)
table62 =
    power_on ∷ power_off ∷ activation_request ∷ t3_expiry ∷ info0_received ∷ signal_received ∷ info2_received ∷ info4_received
    ∷ alignment_lost ∷ []

-- The numbers of the events.
abbrev pub on_row : ℕ
on_row = 1

abbrev pub off_row : ℕ
off_row = 2

abbrev pub ar_row : ℕ
ar_row = 3

abbrev pub t3_row : ℕ
t3_row = 4

abbrev pub info_0_row : ℕ
info_0_row = 5

abbrev pub signal_row : ℕ
signal_row = 6

abbrev pub info_2_row : ℕ
info_2_row = 7

abbrev pub info_4_row : ℕ
info_4_row = 8

abbrev pub loss_row : ℕ
loss_row = 9
