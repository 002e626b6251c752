-- Whether all terminals are in order, as a fold over them.
use Rattle.std.proofs.Common.{◌≡◌, ◌∙◌, List, Bool, ◌&&◌, fold, eqb, length, refl, sym}
use Rattle.slice_lemmas.proofs.Over.{folded}
use Rattle.terminal.specs.Calls.{terminal_in_range}
use Rattle.terminal.specs.declared.Terminal.{Terminal}
use Rattle.bus_call_specs.specs.Ready.{eight_in_range}
use Rattle.bus_call_specs.proofs.InOrder.{also_in_range, from_first}

pub ready_gathered : (ts : List Terminal) → eight_in_range ts ≡ fold (λ (ok : Bool) (t : Terminal). ok && terminal_in_range t) (eqb (length ts) 8) ts
unfolding eight_in_range
ready_gathered ts =
    sym (from_first 0 (eqb (length ts) 8) ts)
    ∙ folded also_in_range (λ (ok : Bool) (t : Terminal). ok && terminal_in_range t) (λ i ok t. refl) 0 (eqb (length ts) 8) ts
