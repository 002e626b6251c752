-- Rules: table 6-3 of JT-I430, activation and deactivation at the network end: a row for each event
-- and a cell for each of the states G1 to G4, as printed; the loss row as annex IV's tests 16 and
-- 23 have it (docs/DECISIONS.md, reading 10: the scan lost a cell). The optional notes of its note
-- 3 are given.
-- Interface: every name. Assumes nothing.
use Rattle.std.specs.Prelude.{List, [], ◌∷◌, ℕ}
use Rattle.notes_and_cells.specs.Notes.{ph_act, ph_deact, mph_act, mph_deact, mph_ei}
use Rattle.notes_and_cells.specs.Cells.{to, starts_to, stops_to, starts_t2_to, stay, impossible, absent}
use Rattle.notes_and_cells.specs.declared.cell.Cell.{Cell}

-- The numbers of the states.
abbrev pub G1 : ℕ
G1 = 1

abbrev pub G2 : ℕ
G2 = 2

abbrev pub G3 : ℕ
G3 = 3

abbrev pub G4 : ℕ
G4 = 4

-- The INFO that is sent in each state.
abbrev pub info_sent : List ℕ
info_sent = 0 ∷ 2 ∷ 4 ∷ 0 ∷ []

-- PH-AR, the request for activation.
abbrev pub activation_request : List Cell
activation_request = starts_to G2 [] ∷ absent ∷ absent ∷ starts_to G2 [] ∷ []

-- MPH-DR, the request for deactivation.
abbrev pub deactivation_request : List Cell
deactivation_request = absent ∷ starts_t2_to G4 (ph_deact ∷ []) ∷ starts_t2_to G4 (ph_deact ∷ []) ∷ absent ∷ []

-- T1 expires.
abbrev pub t1_expiry : List Cell
t1_expiry = stay ∷ starts_t2_to G4 (ph_deact ∷ []) ∷ impossible ∷ stay ∷ []

-- T2 expires.
abbrev pub t2_expiry : List Cell
t2_expiry = stay ∷ stay ∷ stay ∷ to G1 [] ∷ []

-- INFO 0 is received.
abbrev pub info0_received : List Cell
info0_received = stay ∷ stay ∷ to G2 (mph_deact ∷ mph_ei ∷ []) ∷ to G1 [] ∷ []

-- INFO 1 is received.
abbrev pub info1_received : List Cell
info1_received = starts_to G2 [] ∷ stay ∷ impossible ∷ stay ∷ []

-- INFO 3 is received.
abbrev pub info3_received : List Cell
info3_received = impossible ∷ stops_to G3 (ph_act ∷ mph_act ∷ []) ∷ stay ∷ stay ∷ []

-- Frame alignment is lost.
abbrev pub alignment_lost : List Cell
alignment_lost = impossible ∷ impossible ∷ to G2 (mph_deact ∷ mph_ei ∷ []) ∷ stay ∷ []

-- The whole table. The events are numbered from 1 in the order of its rows.
abbrev pub table63 : List (List Cell)
table63 = activation_request ∷ deactivation_request ∷ t1_expiry ∷ t2_expiry ∷ info0_received ∷ info1_received ∷ info3_received
    ∷ alignment_lost ∷ []

-- The numbers of the events.
abbrev pub ar_row : ℕ
ar_row = 1

abbrev pub dr_row : ℕ
dr_row = 2

abbrev pub t1_row : ℕ
t1_row = 3

abbrev pub t2_row : ℕ
t2_row = 4

abbrev pub info_0_row : ℕ
info_0_row = 5

abbrev pub info_1_row : ℕ
info_1_row = 6

abbrev pub info_3_row : ℕ
info_3_row = 7

abbrev pub loss_row : ℕ
loss_row = 8
