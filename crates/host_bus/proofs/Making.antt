-- A fresh bus as octets: the records laid over zeros.
use mathlib.Core.List.{List, ◌++◌}
use mathlib.Core.Path.{◌≡◌}
use Prim.Native.Nat.{ℕ, zero, suc, ◌+◌}
use native.Mathlib.Nat.{suc-add}
use native.Mathlib.Omega.{arith}
use lib.ListN.{drop, replicate, length-replicate}
use Rattle.symbols.specs.Symbols.{line_length}
use Rattle.hdlc.specs.Image.{longest_body}
use Rattle.terminal.specs.Terminal.{fresh}
use Rattle.terminal.specs.declared.Terminal.{Terminal}
use Rattle.bus_rules.specs.Bus.{terminals}
use Rattle.bus_record.specs.Record.{fresh_record}
use Rattle.bus_record.specs.declared.record.BusRecord.{BusRecord}
use Rattle.bus_event.specs.Event.{images_room}
use Rattle.note_text.specs.Room.{laid}
use Rattle.bus_octets.specs.Layout.{head_octets, images_at, bus_length}
use Rattle.bus_octets.proofs.Lengths.{stored_over}
use Rattle.host_bus.specs.Fresh.{fresh_zeros, fresh_octets}

abbrev zeros : ℕ → List ℕ
zeros n = replicate n 0

drop_zeros : (m n : ℕ) → drop m (zeros (m + n)) ≡ zeros n
drop_zeros zero n = let e : zero + n ≡ n = omega arith in rw e
drop_zeros (suc m) n = rw (suc-add m n) (drop_zeros m n)

pub fresh_made : (bus : BusRecord) → bus ≡ fresh_record → (t : Terminal) → t ≡ fresh
    → laid (zeros bus_length) 0 (head_octets bus (replicate terminals t) ++ (replicate line_length 0 ++ replicate longest_body 0)) ≡ fresh_octets
unfolding fresh_octets fresh_zeros
fresh_made bus b t e =
    rw (b, e)
    (stored_over (zeros bus_length) fresh_zeros (length-replicate terminals fresh) (length-replicate {A = ℕ} line_length 0) (length-replicate {A = ℕ} longest_body 0)
    (rw (length-replicate {A = ℕ} bus_length 0) (omega arith)) (drop_zeros images_at images_room))
