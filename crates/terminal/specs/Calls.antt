-- Calls: a terminal's, with refusal 1 before the rules (document 01, "Reasons a call is turned
-- down"). The rules are in specs/Terminal.antt.
-- Interface: every name. Assumes nothing.
use Rattle.std.specs.Prelude.{Bool, false, cond, [], ℕ, ◌+◌, eqb, ltb}
use Rattle.dchannel.specs.Access.{normal2}
use Rattle.dchannel.specs.Calls.{Handed, handed}
use Rattle.dchannel.specs.Ranges.{access_in_range}
use Rattle.notes_and_cells.specs.Notes.{packed_notes}
use Rattle.dchannel.specs.declared.access.Class.{Class}
use Rattle.table_6_2.specs.Table62.{F1, F7, F8}
use Rattle.timing.specs.Counts.{most_periods}
use Rattle.timing.specs.Calls.{periods_in_range}
use Rattle.timing.specs.Timers.{T3}
use Rattle.timing.specs.declared.counts.Periods.{Periods}
use Rattle.alignment.specs.Alignment.{alignment_in_range}
use Rattle.heard_line.specs.declared.heard.Downward.{Downward}
use Rattle.terminal.specs.Terminal.{with_access, unchanged, switches_on, switches_off, requests, timer, hears}
use Rattle.terminal.specs.declared.Terminal.{Terminal}
use Rattle.terminal.specs.Steps.{TerminalStep}

-- Refusal 1: each field in its range. The latest T3 is one started when the last period has been
-- run.
unfoldable pub terminal_in_range : Terminal → Bool
terminal_in_range t =
    cond (ltb t.state F1) false
    (cond (ltb F8 t.state) false
    (cond (ltb (most_periods + T3) t.t3) false
    (cond (alignment_in_range t.alignment) (access_in_range normal2 t.access) false)))

unfoldable pub ready : Periods → Terminal → Bool
ready now t = cond (terminal_in_range t) (periods_in_range now) false

-- The calls: refusal 1 for a field outside its range, or a period past the last; else what the
-- rules say.
unfoldable pub checked : (ℕ → Terminal → TerminalStep) → Periods → Terminal → TerminalStep
checked step now t = cond (ready now t) (step now.0 t) (unchanged 1 t)

abbrev pub switch_on_call : Periods → Terminal → TerminalStep
switch_on_call now t = checked switches_on now t

abbrev pub switch_off_call : Periods → Terminal → TerminalStep
switch_off_call now t = checked switches_off now t

abbrev pub request_call : Periods → Terminal → TerminalStep
request_call now t = checked requests now t

abbrev pub timer_call : Periods → Terminal → TerminalStep
timer_call now t = checked timer now t

abbrev pub hear_call : Downward → Periods → Terminal → TerminalStep
hear_call line now t = checked (hears line) now t

-- What the access answers to a hand-over, taken into the record.
unfoldable pub holding : Handed → Terminal → TerminalStep
holding h t = record { terminal = with_access h.access t; notes = packed_notes []; reply = h.reply }

-- A frame whose image has n bits is handed over: refusal 6 outside F7, then 7 and 8.
unfoldable pub hands_over : Class → ℕ → Terminal → TerminalStep
hands_over class n t = cond (eqb t.state F7) (holding (handed class n t.access) t) (unchanged 6 t)

-- Handing a frame over takes no period.
unfoldable pub hand_over_call : Class → ℕ → Terminal → TerminalStep
hand_over_call class n t = cond (terminal_in_range t) (hands_over class n t) (unchanged 1 t)
