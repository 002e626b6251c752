-- Whatever is taken for a bus has 0 in every reserved place: specs/Laws.antt.
use mathlib.Core.List.{List, [], ◌∷◌, ◌++◌, append_assoc}
use mathlib.Core.Path.{◌≡◌, refl, ◌∙◌}
use Prim.Native.Nat.{ℕ, zero, suc, ◌+◌, ◌-◌, ◌*◌, ◌≤◌, ◌<◌}
use native.Mathlib.Omega.{arith}
use lib.ListN.{length, get_or, replicate, get_or-replicate, get_or-append}
use lib.Seq.{get_or-append-add}
use Rattle.terminal.specs.declared.Terminal.{Terminal}
use Rattle.bus_rules.specs.Bus.{terminals}
use Rattle.bus_record.specs.declared.record.BusRecord.{BusRecord}
use Rattle.bus_call_specs.specs.Kept.{Kept}
use Rattle.bus_octets.specs.Layout.{record_length, terminal_length, terminals_at, filled_up, record_fields, record_octets, terminal_fields, terminal_octets}
use Rattle.bus_octets.specs.Layout.{terminals_octets, bus_octets, terminal_at, terminals_from, terminals_in, shown}
use Rattle.bus_octets.specs.Laws.{ReserveIsZero}
use Rattle.bus_octets.proofs.Lengths.{length_record, length_terminal}
use Rattle.bus_octets.proofs.Exact.{exact}

-- behind what is filled up there is 0
filled_zero : (n : ℕ) (s : List ℕ) (j : ℕ) → length s ≤ j → j < n → get_or (filled_up n s) j 0 ≡ 0
filled_zero n s j h k =
    let e : j ≡ length s + (j - length s) = omega arith in
    rw (e, get_or-append-add s (replicate (n - length s) 0) (j - length s) 0) (get_or-replicate (n - length s) (j - length s) 0 0 (omega arith))

record_zero : (r : BusRecord) (j : ℕ) → length (record_fields r) ≤ j → j < record_length → get_or (record_octets r) j 0 ≡ 0
unfolding record_octets
record_zero r j h k = filled_zero record_length (record_fields r) j h k

terminal_zero : (t : Terminal) (j : ℕ) → length (terminal_fields t) ≤ j → j < terminal_length → get_or (terminal_octets t) j 0 ≡ 0
unfolding terminal_octets
terminal_zero t j h k = filled_zero terminal_length (terminal_fields t) j h k

-- every terminal has as many fields as any other
terminals_zero : (any : Terminal) (ts : List Terminal) (rest : List ℕ) (i j : ℕ) → i < length ts → length (terminal_fields any) ≤ j → j < terminal_length
    → get_or (terminals_octets ts ++ rest) (i * terminal_length + j) 0 ≡ 0
unfolding terminals_octets
terminals_zero any [] rest i j h f k = absurd (omega arith)
terminals_zero any (t ∷ ts) rest zero j h f k =
    let e : zero * terminal_length + j ≡ j = omega arith in
    let long = length_terminal t in
    rw (append_assoc (terminal_octets t) (terminals_octets ts) rest, e, get_or-append (terminal_octets t) (terminals_octets ts ++ rest) 0 j (omega arith))
    (terminal_zero t j f k)
terminals_zero any (t ∷ ts) rest (suc i) j h f k =
    let long = length_terminal t in
    let e : suc i * terminal_length + j ≡ length (terminal_octets t) + (i * terminal_length + j) = omega arith in
    rw (append_assoc (terminal_octets t) (terminals_octets ts) rest, e, get_or-append-add (terminal_octets t) (terminals_octets ts ++ rest) (i * terminal_length + j) 0)
    (terminals_zero any ts rest i j (omega arith) f k)

-- what is stored as a bus
module _ (k : Kept) where
  stored_record : (j : ℕ) → length (record_fields k.bus) ≤ j → j < record_length → get_or (bus_octets k) j 0 ≡ 0
  unfolding bus_octets
  stored_record j f h =
      let long = length_record k.bus in
      get_or-append (record_octets k.bus) _ 0 j (omega arith) ∙ record_zero k.bus j f h

  stored_terminal : (any : Terminal) (i j : ℕ) → i < length k.terminals → length (terminal_fields any) ≤ j → j < terminal_length
      → get_or (bus_octets k) (terminals_at + i * terminal_length + j) 0 ≡ 0
  unfolding bus_octets
  stored_terminal any i j h f g =
      let long = length_record k.bus in
      let e : terminals_at + i * terminal_length + j ≡ length (record_octets k.bus) + (i * terminal_length + j) = omega arith in
      rw (e, get_or-append-add (record_octets k.bus) (terminals_octets k.terminals ++ (k.letters ++ (k.octets ++ k.images))) (i * terminal_length + j) 0)
      (terminals_zero any k.terminals (k.letters ++ (k.octets ++ k.images)) i j h f g)

eight : (s : List ℕ) → length (shown s).terminals ≡ terminals
unfolding shown terminals_in terminals_from
eight s = refl

pub reserve_is_zero : ReserveIsZero
unfolding shown
reserve_is_zero s h =
    let e = (exact s h).stored_is in
    let all = eight s in
    record {
      of_record = λ j f k. rw e at (stored_record (shown s) j f k);
      of_terminal = λ i j n f k. rw e at (stored_terminal (shown s) (terminal_at s (terminals_at + i * terminal_length)) i j (omega arith) f k);
    }
