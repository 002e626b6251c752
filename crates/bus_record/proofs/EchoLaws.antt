-- The line that is built under a hit is a line, and what is sensed of it; and what the lines show that are not built.
use mathlib.Core.Bool.{Bool, true, false, not, ◌&&◌, ◌||◌}
use mathlib.Core.List.{List}
use mathlib.Core.Path.{◌≡◌, refl}
use Prim.Native.Nat.{ℕ, zero, suc, ◌≤◌}
use native.Mathlib.Omega.{arith}
use lib.Dec.{eqb}
use lib.ListN.{length, get_or}
use Rattle.test_lemmas.proofs.ByCases.{by_test}
use Rattle.symbols.specs.Symbols.{line_length, none, minus, is_line, tabulate}
use Rattle.symbols.specs.Calls.{leaves}
use Rattle.symbols.proofs.Lines.{line_small, line_by_lem}
use Rattle.symbols.proofs.Written.{left_written}
use Rattle.frame.specs.declared.fields.Four.{Four}
use Rattle.frame.proofs.Frames.{down_line_lem}
use Rattle.info.specs.Info.{unset, info2_fields, info4_fields}
use Rattle.combining.specs.Hit.{keep_letter, plus_letter, minus_letter, struck, hit}
use Rattle.combining.specs.Calls.{hit_fits}
use Rattle.notes_and_cells.specs.Cells.{info_in}
use Rattle.table_6_3.specs.Table63.{info_sent}
use Rattle.heard_line.specs.Calls.{sensed_down}
use Rattle.heard_line.specs.declared.heard.Downward.{Downward}
use Rattle.heard_line.specs.declared.heard.Upward.{Upward}
use Rattle.std.specs.Prelude.{Ok}
use Rattle.bus_rules.specs.Quick.{shown_by, shown_from}
use Rattle.bus_rules.specs.Exchange.{sent_down}
use Rattle.bus_record.specs.Echo.{built_down, sent_es, heard_down}
use Rattle.bus_record.specs.declared.record.BusRecord.{BusRecord}

-- INFO 0, 2 and 4 are lines
line_for : (state : ℕ) (es : Four) → is_line (sent_down unset state es) ≡ true
unfolding sent_down tabulate
line_for state es =
    by_test (eqb (info_in info_sent state) 4)
    (λ t. simp t (down_line_lem (info4_fields unset es)))
    (λ t. by_test (eqb (info_in info_sent state) 2) (λ u. simp (t, u) (down_line_lem (info2_fields unset))) (λ u. simp (t, u) (line_by_lem (λ i. none) (λ i. omega arith))))

struck_small : (letter s : ℕ) → s ≤ minus → struck letter s ≤ minus
struck_small letter s h =
    by_test (eqb letter keep_letter) (λ t. simp t h)
    (λ t. by_test (eqb letter plus_letter) (λ u. simp (t, u) (omega arith))
    (λ u. by_test (eqb letter minus_letter) (λ v. simp (t, u, v) (omega arith)) (λ v. simp (t, u, v) (omega arith))))

-- a line under a hit is a line, the hit taken or not
struck_line : (letters l : List ℕ) → is_line l ≡ true → is_line (leaves (hit_fits letters l) (hit letters l) l) ≡ true
unfolding hit
struck_line letters l h =
    by_test (hit_fits letters l)
    (λ t. simp t (line_by_lem (λ i. struck (get_or letters i keep_letter) (get_or l i none)) (λ i. struck_small (get_or letters i keep_letter) (get_or l i none) (line_small l h i))))
    (λ t. simp t h)

-- what a line shows that is heard under a hit
pub heard_under : (bus : BusRecord) (ds : Four) (letters start built after : List ℕ) → bus.hit ≡ true → length start ≡ line_length
    → built ≡ built_down bus.network.state (sent_es bus ds) start
    → after ≡ leaves (hit_fits letters built) (hit letters built) built
    → sensed_down after ≡ Ok (heard_down bus ds letters)
unfolding sensed_down heard_down built_down
heard_under bus ds letters start built after struck long b a =
    let l : List ℕ = sent_down unset bus.network.state (sent_es bus ds) in
    let is : built ≡ l = left_written l start long b in
    let e : after ≡ leaves (hit_fits letters l) (hit letters l) l = rw is at a in
    rw e (simp (struck_line letters l (line_for bus.network.state (sent_es bus ds)), struck))

-- what a state's line shows, by its INFO
pub shown_by_state : (state : ℕ)
    → ◌≡◌ {A = Downward}
    (record { pulse = not (eqb (info_in info_sent state) 0); framed = not (eqb (info_in info_sent state) 0); a = not (eqb (info_in info_sent state) 2) })
    (shown_by state)
unfolding shown_by info_in
shown_by_state zero = refl
shown_by_state (suc zero) = refl
shown_by_state (suc (suc zero)) = refl
shown_by_state (suc (suc (suc zero))) = refl
shown_by_state (suc (suc (suc (suc zero)))) = refl
shown_by_state (suc (suc (suc (suc (suc n))))) = refl

-- what the terminals' line shows
pub shown_up_lem : (info1 info3 : Bool)
    → ◌≡◌ {A = Upward} (record { pulse = info1 || info3; framed = info3 && not info1; info1 = info1 && not info3 }) (shown_from info1 info3)
unfolding shown_from
shown_up_lem true true = refl
shown_up_lem true false = refl
shown_up_lem false true = refl
shown_up_lem false false = refl
