-- What is known of all terminals, as a fold over them.
use Rattle.std.proofs.Common.{List, fold, refl, ◌≡◌}
use Rattle.slice_lemmas.proofs.Over.{folded}
use Rattle.terminal.specs.declared.Terminal.{Terminal}
use Rattle.exchange.specs.Rest.{none_yet, also_rests, rest_of}

pub rest_gathered : (ts : List Terminal) → rest_of ts ≡ fold (also_rests 0) none_yet ts
unfolding rest_of
rest_gathered ts = folded also_rests (also_rests 0) (λ i r t. refl) 0 none_yet ts
