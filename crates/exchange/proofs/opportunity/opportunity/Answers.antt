-- Each turn takes one terminal through the E. Going through terminals does not change the E.
use Rattle.std.proofs.Common.{◌≡◌, ℕ, ◌+◌, ◌<◌, Bool, List, [], ◌∷◌, length, get_or, set, zero, suc, refl, ap, ◌∙◌, arith}
use Rattle.slice_lemmas.proofs.Over.{upto, acc, put_next, put_all, gather_next, gather_all}
use Rattle.terminal.specs.declared.Terminal.{Terminal}
use Rattle.exchange.specs.declared.tally.Tally.{Tally}
use Rattle.exchange.specs.declared.part.Part.{Part}
use Rattle.exchange.specs.Part.{terminal_after_e, tally_with, taken}
use Rattle.exchange.specs.Tally.{begun, ended, also}
use Rattle.exchange.specs.Opportunities.{tally_after, terminals_after}
use Rattle.exchange.proofs.opportunity.opportunity.Goals as goal

same_e : (es : List ℕ) (m : Tally) (j k : ℕ) (ys : List Terminal) → (acc (tally_with es) m j k ys).e ≡ m.e
unfolding tally_with also
same_e es m zero k ys = refl
same_e es m (suc j) k [] = refl
same_e es m (suc j) k (y ∷ ys) = same_e es (tally_with es k m y) j (suc k) ys

module _ (es : List ℕ) (m tally : Tally) (k : ℕ) (ys xs : List Terminal) (d : Terminal) (r : Part)
    (list : xs ≡ upto (terminal_after_e es m.e) k 0 ys) (gathered : tally ≡ acc (tally_with es) m k 0 ys) (on : k < length xs)
    (is : r ≡ taken es k tally (get_or xs k d)) where
  next_list : set xs k r.terminal ≡ upto (terminal_after_e es m.e) (k + 1) 0 ys
  unfolding taken
  next_list =
      put_next (terminal_after_e es m.e) k ys xs d r.terminal list on
      (ap (λ (s : Part). s.terminal) is
      ∙ ap (λ (e : Bool). terminal_after_e es e k (get_or xs k d)) (ap (λ (t : Tally). t.e) gathered ∙ same_e es m k 0 ys))

  next_tally : r.tally ≡ acc (tally_with es) m (k + 1) 0 ys
  unfolding taken
  next_tally =
      ap (λ (s : Part). s.tally) is
      ∙ gather_next (tally_with es) (terminal_after_e es m.e) m tally k ys xs d gathered list on

pub loop-i-preserved : goal.loop-i-preserved
loop-i-preserved c =
    let so_far = c.loop-i.invariant in
    let at = c.one_part-part.ensures in
    let on : c.loop-i.i < length c.loop-i.terminals = omega arith in
    record {
      terminals_so_far = next_list _ _ _ c.loop-i.i _ _ _ _ so_far.terminals_so_far so_far.tally_so_far on at;
      tally_so_far = next_tally _ _ _ c.loop-i.i _ _ _ _ so_far.terminals_so_far so_far.tally_so_far on at;
    }

pub returns-clause-value : goal.returns-clause-value
unfolding tally_after
returns-clause-value c =
    c.ended.ensures
    ∙ ap ended
    (gather_all (tally_with c.args.images.now) (begun c.args.before) _ c.loop-i.i _ c.loop-i.invariant.tally_so_far (omega arith))

pub returns-clause-terminals_after : goal.returns-clause-terminals_after
unfolding terminals_after
returns-clause-terminals_after c =
    put_all (terminal_after_e c.args.images.now (begun c.args.before).e) c.loop-i.i _ _ c.loop-i.invariant.terminals_so_far
    (omega arith)
