-- `call_reason` meets its contract: each return is the first reason that holds.
use mathlib.Core.Path.{ap}
use mathlib.Core.Bool.{not}
use borrow.Author.Tests.{lt-ltb, le-ltb}
use Rattle.bus_rules.specs.Event.{call_reasons}
use Rattle.bus_event.proofs.Returns.{stops, goes_on, at_end, refuse}
use Rattle.bus_event.proofs.event.call_reason.Goals as goal

pub returns-then-event-fits : goal.returns-then-event-fits
unfolding call_reasons
returns-then-event-fits c = refuse (stops 2 _ _ (rw (← c.fits.ensures) c.if-event-fits.true))

pub returns-then-unit-gt-LAST_UNIT : goal.returns-then-unit-gt-LAST_UNIT
unfolding call_reasons
returns-then-unit-gt-LAST_UNIT c =
    refuse (goes_on 2 _ _ 3 (rw (← c.fits.ensures) c.if-event-fits.false) (stops 3 _ _ (lt-ltb _ _ c.if-unit-gt-LAST_UNIT.true)))

pub returns-then-not-event_for : goal.returns-then-not-event_for
unfolding call_reasons
returns-then-not-event_for c =
    refuse (goes_on 2 _ _ 4 (rw (← c.fits.ensures) c.if-event-fits.false) (goes_on 3 _ _ 4 (le-ltb _ _ c.if-unit-gt-LAST_UNIT.false)
    (stops 4 _ _ (rw (← c.event_for.ensures) (ap not c.if-not-event_for.true)))))

pub returns : goal.returns
unfolding call_reasons
returns c =
    refuse (goes_on 2 _ _ 0 (rw (← c.fits.ensures) c.if-event-fits.false) (goes_on 3 _ _ 0 (le-ltb _ _ c.if-unit-gt-LAST_UNIT.false)
    (goes_on 4 _ _ 0 (rw (← c.event_for.ensures) (ap not c.if-not-event_for.false)) at_end)))
