-- Two buses that are the same, field by field: of what a record shows and of a bus without its reader and its terminals.
use mathlib.Core.Path.{◌≡◌, ap}
use Rattle.bus_rules.specs.Bus.{Bus}

module _ {x y : Bus} (h : x ≡ y) where
  pub periods_of : x.periods ≡ y.periods
  periods_of = ap (λ (b : Bus). b.periods) h

  pub opportunities_of_lem : x.opportunities ≡ y.opportunities
  opportunities_of_lem = ap (λ (b : Bus). b.opportunities) h

  pub network_of : x.network ≡ y.network
  network_of = ap (λ (b : Bus). b.network) h

  pub heard_of_lem : x.heard_d ≡ y.heard_d
  heard_of_lem = ap (λ (b : Bus). b.heard_d) h

  pub hit_of : x.hit ≡ y.hit
  hit_of = ap (λ (b : Bus). b.hit) h

  pub cycle_of : x.cycle ≡ y.cycle
  cycle_of = ap (λ (b : Bus). b.cycle) h
