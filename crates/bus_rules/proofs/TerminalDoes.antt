-- What an event does to a terminal: what holds of power, of a request and of a terminal as it is holds of every event.
use mathlib.Core.Path.{◌≡◌}
use Prim.Native.Nat.{ℕ}
use lib.Dec.{eqb}
use Rattle.test_lemmas.proofs.ByCases.{by_test}
use Rattle.notes_and_cells.specs.Events.{ON, OFF, AR}
use Rattle.terminal.specs.Terminal as terminal
use Rattle.terminal.specs.declared.Terminal.{Terminal}
use Rattle.terminal.specs.Steps.{TerminalStep}
use Rattle.terminal.proofs.Laws.{AccessByState, switches_on_access, switches_off_access, requests_access, unchanged_access}
use Rattle.bus_rules.specs.Event.{terminal_does}

pub does_each : (P : TerminalStep → Type 0) (number now : ℕ) (t : Terminal) → P (terminal.switches_on now t) → P (terminal.switches_off now t)
    → P (terminal.requests now t) → P (terminal.unchanged 0 t) → P (terminal_does number now t)
unfolding terminal_does
does_each P number now t on off ar none =
    by_test (eqb number ON) (λ u. rw u on)
    (λ u. rw u (by_test (eqb number OFF) (λ v. rw v off) (λ v. rw v (by_test (eqb number AR) (λ w. rw w ar) (λ w. rw w none)))))

pub does_by_state : (number now : ℕ) (t : Terminal) → AccessByState (terminal_does number now) t
does_by_state number now t =
    does_each (λ s. s.terminal.access ≡ (terminal.access_after t.state s.terminal.state t.access).access) number now t
    (switches_on_access now t) (switches_off_access now t) (requests_access now t) (unchanged_access 0 t)
