-- How long the parts of a bus are as octets, and text laid over the beginning of some room.
use mathlib.Core.List.{List, [], ◌∷◌, ◌++◌, append_assoc, append-nil}
use mathlib.Core.Path.{◌≡◌, refl, ap, ◌∙◌}
use Prim.Native.Nat.{ℕ, ◌+◌, ◌*◌, ◌≤◌}
use native.Mathlib.Omega.{arith}
use lib.ListN.{length, take, drop, replicate, length-append, length-drop, length-replicate, drop_of_length-le}
use lib.Seq.{length-take-le}
use Rattle.symbols.specs.Symbols.{line_length}
use Rattle.hdlc.specs.Image.{longest_body}
use Rattle.terminal.specs.declared.Terminal.{Terminal}
use Rattle.bus_rules.specs.Bus.{terminals}
use Rattle.bus_record.specs.declared.record.BusRecord.{BusRecord}
use Rattle.bus_call_specs.specs.Kept.{Kept}
use Rattle.note_text.specs.Room.{laid}
use Rattle.note_text.proofs.RoomLaws.{laid_none}
use Rattle.bus_octets.specs.Layout.{record_octets, terminal_octets, terminals_octets, head_octets, bus_octets, terminals_at, terminal_length, letters_at, images_at}

pub length_record : (r : BusRecord) → length (record_octets r) ≡ terminals_at
unfolding record_octets
length_record r = refl

pub length_terminal : (t : Terminal) → length (terminal_octets t) ≡ terminal_length
unfolding terminal_octets
length_terminal t = refl

length_terminals : (ts : List Terminal) → length (terminals_octets ts) ≡ length ts * terminal_length
unfolding terminals_octets
length_terminals [] = refl
length_terminals (t ∷ ts) =
    rw (length-append (terminal_octets t) (terminals_octets ts), length_terminal t, length_terminals ts) (omega arith)

pub length_head : (r : BusRecord) (ts : List Terminal) → length ts ≡ terminals → length (head_octets r ts) ≡ letters_at
unfolding head_octets
length_head r ts h =
    rw (length-append (record_octets r) (terminals_octets ts), length_record r, length_terminals ts, h)

-- ---- Text laid over the beginning of some room; over all of it.
pub laid_front : (text room : List ℕ) → length text ≤ length room → laid room 0 text ≡ text ++ drop (length text) room
unfolding laid
laid_front [] room h = laid_none room 0
laid_front (c ∷ text) [] h = absurd (omega arith)
laid_front (c ∷ text) (x ∷ room) h = ap (λ (l : List ℕ). c ∷ l) (laid_front text room (omega arith))

-- the record and the terminals, laid into room that just holds them
pub head_back : (r : BusRecord) (ts : List Terminal) → length ts ≡ terminals → laid (replicate letters_at 0) 0 (head_octets r ts) ≡ head_octets r ts
head_back r ts h =
    let e = length_head r ts h in
    laid_front (head_octets r ts) (replicate letters_at 0) (rw e (omega arith)) ∙ rw (e, append-nil)

-- a part of the octets, laid into room that just holds it
pub part_back : (n at : ℕ) (s : List ℕ) → at + n ≤ length s → laid (replicate n 0) 0 (take n (drop at s)) ≡ take n (drop at s)
part_back n at s h =
    let part : List ℕ = take n (drop at s) in
    let e : length part ≡ n = length-take-le n (drop at s) (rw (length-drop at s) (omega arith)) in
    let r : length {A = ℕ} (replicate n 0) ≡ n = length-replicate n 0 in
    laid_front part (replicate n 0) (omega arith) ∙ (ap (λ (l : List ℕ). part ++ l) (drop_of_length-le (replicate n 0) {i = length part} (omega arith)) ∙ append-nil part)

-- ---- What a call has left of a bus, laid over the octets of which only the images are new.
pub stored_over : (room : List ℕ) (k : Kept) → length k.terminals ≡ terminals → length k.letters ≡ line_length → length k.octets ≡ longest_body
    → images_at ≤ length room → drop images_at room ≡ k.images
    → laid room 0 (head_octets k.bus k.terminals ++ (k.letters ++ k.octets)) ≡ bus_octets k
unfolding bus_octets head_octets
stored_over room k eight letters octets h images =
    let text : List ℕ = head_octets k.bus k.terminals ++ (k.letters ++ k.octets) in
    let long : length text ≡ images_at =
    length-append (head_octets k.bus k.terminals) (k.letters ++ k.octets)
    ∙ rw (length_head k.bus k.terminals eight, length-append k.letters k.octets, letters, octets) in
    laid_front text room (rw long h) ∙ rw (long, images) (simp append_assoc)
