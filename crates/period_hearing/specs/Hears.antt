-- How the code goes: one terminal's hearing of a period, and then its timer at the next one's start
-- (document 01, "Order inside a period"); and that of all terminals.
-- Interface: `rests`, `has_note`, `heard_one`, `terminal_after`, `notes_after`, `told_after`,
-- `listen_reply`, `listen_terminals`, `listen_notes`, `no_notes`, `silenced`. Assumes nothing.
use Rattle.std.specs.Prelude.{Bool, false, cond, not, ◌&&◌, ◌||◌, List, [], ℕ, eqb, ltb, leb, length}
use Rattle.slice_lemmas.specs.Over.{map_from, fold_from}
use Rattle.table_6_2.specs.Table62.{F1, F3, F5, F7}
use Rattle.timing.specs.Calls.{next_period}
use Rattle.timing.specs.declared.counts.Periods.{Periods}
use Rattle.heard_line.specs.declared.heard.Downward.{Downward}
use Rattle.terminal.specs.Calls as terminalCalls
use Rattle.terminal.specs.declared.Terminal.{Terminal}
use Rattle.terminal.specs.Steps.{TerminalStep}
use Rattle.notes_and_cells.specs.Notes.{packed_notes}
use Rattle.notes_and_cells.specs.declared.notes.Notes.{Notes}
use Rattle.period_hearing.specs.declared.hears.UnitNotes.{UnitNotes}
use Rattle.period_hearing.specs.declared.hears.HeardOne.{HeardOne}

-- F3, F4 and F5: the states in which a terminal that is not aligned stays while there is no pulse
abbrev pub stays_in_silence : ℕ → Bool
stays_in_silence state = leb F3 state && leb state F5

-- whether a terminal hears what it heard before, so that nothing happens
unfoldable pub rests : Downward → Terminal → Bool
rests line t =
    cond (eqb t.alignment.run 0)
    (cond (eqb t.state F7)
    (((t.alignment.aligned && line.pulse) && line.framed) && line.a)
    (cond (stays_in_silence t.state) (not t.alignment.aligned && not line.pulse) (eqb t.state F1)))
    (eqb t.state F1)

-- the two calls one after the other: the hearing, and the timer on what it leaves
unfoldable pub hearing_step : Downward → Periods → Terminal → TerminalStep
hearing_step line period t = terminalCalls.hear_call line period t

unfoldable pub timer_step : Downward → Periods → Terminal → TerminalStep
timer_step line period t = terminalCalls.timer_call (next_period period) (hearing_step line period t).terminal

unfoldable pub has_note : Notes → Bool
has_note n = ltb 0 n.0

unfoldable pub heard_one : Downward → Periods → Terminal → HeardOne
heard_one line period t =
    record {
      terminal = (timer_step line period t).terminal;
      notes = record { hearing = (hearing_step line period t).notes; timers = (timer_step line period t).notes };
      told = has_note (hearing_step line period t).notes || has_note (timer_step line period t).notes;
    }

-- what becomes of a terminal, its notes, and whether there is any, at whatever index
abbrev pub terminal_after : Downward → Periods → ℕ → Terminal → Terminal
terminal_after line period i t = (heard_one line period t).terminal

abbrev pub notes_after : Downward → Periods → ℕ → Terminal → UnitNotes
notes_after line period i t = (heard_one line period t).notes

abbrev pub told_after : Downward → Periods → ℕ → Bool → Terminal → Bool
told_after line period i told t = told || (heard_one line period t).told

-- ---- All terminals: nothing is done where the places for notes are not as many as the terminals.
unfoldable pub listen_reply : Downward → Periods → List UnitNotes → List Terminal → Bool
listen_reply line period ns ts = cond (eqb (length ns) (length ts)) (fold_from (told_after line period) 0 false ts) false

unfoldable pub listen_terminals : Downward → Periods → List UnitNotes → List Terminal → List Terminal
listen_terminals line period ns ts = cond (eqb (length ns) (length ts)) (map_from (terminal_after line period) 0 ts) ts

unfoldable pub listen_notes : Downward → Periods → List UnitNotes → List Terminal → List UnitNotes
listen_notes line period ns ts = cond (eqb (length ns) (length ts)) (map_from (notes_after line period) 0 ts) ns

-- ---- No notes.
abbrev pub no_notes : UnitNotes
no_notes = record { hearing = packed_notes []; timers = packed_notes [] }

-- the place for notes at any index, emptied
abbrev pub silenced : ℕ → UnitNotes → UnitNotes
silenced i n = no_notes
