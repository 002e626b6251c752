-- `first_reason` meets its contract: each return is the first reason that holds.
use mathlib.Core.Path.{ap, refl, ◌∙◌}
use mathlib.Core.Bool.{not}
use Rattle.bus_event.specs.Event.{first_reason}
use Rattle.bus_event.proofs.Returns.{stops, goes_on, refuse}
use Rattle.bus_event.proofs.event.first_reason.Goals as goal

pub returns-then-not-ready-in_range : goal.returns-then-not-ready-in_range
unfolding first_reason
returns-then-not-ready-in_range c = refuse (stops 1 _ _ (rw (← c.in_range.ensures) (ap not c.if-not-ready-in_range.true)))

pub returns-then-not-images-fits : goal.returns-then-not-images-fits
unfolding first_reason
returns-then-not-images-fits c =
    refuse (goes_on 1 _ _ 2 (rw (← c.in_range.ensures) (ap not c.if-not-ready-in_range.false))
    (stops 2 _ _ (rw (← c.fits.ensures) (ap not c.if-not-images-fits.true))))

pub returns : goal.returns
unfolding first_reason
returns c =
    c.call_reason.ensures ∙ refuse (goes_on 1 _ _ _ (rw (← c.in_range.ensures) (ap not c.if-not-ready-in_range.false))
    (goes_on 2 _ _ _ (rw (← c.fits.ensures) (ap not c.if-not-images-fits.false)) refl))
