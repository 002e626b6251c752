-- Calls: a bus as octets: its layout, version 2. Numbers stand with the low-order octet first
-- (`half` two octets, `word` four), a yes is 1 and a no is 0.
--   0   the record, 112 octets: 32 of fields, 80 reserved
--   112 the eight terminals, terminal 1 first, 24 octets each: 16 of fields, 8 reserved
--   304 the letters of the hit, 48
--   352 the octets of the network end's reader, 266
--   618 the rooms of the eight images, 322 octets each, terminal 1 first
-- 3,194 octets in all. Reserved octets are 0; octets of which one is not are no bus.
-- Interface: `flag`, `record_length`, `terminal_length`, `terminals_at`, `bus_length`, `counts_fields`,
-- `network_fields`, `reader_fields`, `record_fields`, `record_octets`, `access_fields`, `terminal_fields`,
-- `terminal_octets`, `terminals_octets`, `bus_octets`, `flag_at`, `alignment_at`, `network_in`, `reader_in`,
-- `record_in`, `access_at`, `terminal_at`, `terminals_in`, `part_read`, `letters_read`, `octets_of`, `shown`, `head_octets`,
-- `is_head`, `is_bus`. Assumes nothing.
use Rattle.std.specs.Prelude.{Bool, true, false, cond, ◌&&◌, List, [], ◌∷◌, ◌++◌, ℕ, zero, suc, ◌+◌, ◌-◌, ◌*◌, eqb, length, get_or, take, drop, replicate}
use Rattle.notes_and_cells.specs.Names.{ascii}
use Rattle.hdlc.specs.Image.{longest_body}
use Rattle.symbols.specs.Symbols.{line_length, same_symbols}
use Rattle.timing.specs.Calls.{at_period}
use Rattle.alignment.specs.declared.Alignment.{Alignment}
use Rattle.dchannel.specs.declared.access.Access.{Access}
use Rattle.cycle.specs.Cycle as cycle
use Rattle.d_reader.specs.declared.Reader.{Reader}
use Rattle.network.specs.declared.Network.{Network}
use Rattle.terminal.specs.declared.Terminal.{Terminal}
use Rattle.bus_rules.specs.Bus.{terminals}
use Rattle.bus_record.specs.Record.{record_in_range}
use Rattle.bus_record.specs.declared.record.BusRecord.{BusRecord}
use Rattle.bus_event.specs.Event.{images_room, are_letters}
use Rattle.bus_call_specs.specs.Kept.{Kept}
use Rattle.bus_call_specs.specs.Ready.{eight_in_range}
use Rattle.bus_call_specs.specs.Kept.{found}
use Rattle.note_text.specs.LowFirst.{half, word}
use Rattle.bus_octets.specs.Numbers.{half_at, word_at}

abbrev pub version : ℕ
version = 2

abbrev pub flag : Bool → ℕ
flag true = 1
flag false = 0

-- ---- The parts, by their place and length.
abbrev pub record_length : ℕ
record_length = 112

abbrev pub terminal_length : ℕ
terminal_length = 24

abbrev pub terminals_at : ℕ
terminals_at = record_length

abbrev pub letters_at : ℕ
letters_at = terminals_at + terminals * terminal_length

abbrev pub octets_at : ℕ
octets_at = letters_at + line_length

abbrev pub images_at : ℕ
images_at = octets_at + longest_body

abbrev pub bus_length : ℕ
bus_length = images_at + images_room

-- ---- Records as octets.

-- n octets: s, and 0 in those behind it, which are reserved
abbrev pub filled_up : ℕ → List ℕ → List ℕ
filled_up n s = s ++ replicate (n - length s) 0

-- what the record begins with: four letters, the version, the counts
abbrev pub counts_fields : ℕ → ℕ → List ℕ
counts_fields periods opportunities = ascii "SBUS" ++ (version ∷ []) ++ word periods ++ word opportunities

-- the network end: its timers, its state, its alignment
abbrev pub network_fields : Network → List ℕ
network_fields n = word n.t1 ++ word n.t2 ++ (n.state ∷ flag n.alignment.aligned ∷ n.alignment.run ∷ [])

-- its reader of D
abbrev pub reader_fields : Reader → List ℕ
reader_fields r = half r.bits ++ (r.ones ∷ r.octet ∷ flag r.opened ∷ flag r.zero ∷ [])

-- The record: these, the last D heard, whether a hit is pending. Its cycle of Q and S bits rests, and
-- has no octets yet.
abbrev pub record_fields : BusRecord → List ℕ
record_fields r =
    counts_fields r.periods.0 r.opportunities.0
    ++ network_fields r.network
    ++ reader_fields r.reader
    ++ (flag r.echo ∷ flag r.hit ∷ [])

unfoldable pub record_octets : BusRecord → List ℕ
record_octets r = filled_up record_length (record_fields r)

-- how a terminal stands with D
abbrev pub access_fields : Access → List ℕ
access_fields a = half a.length ++ half a.sent ++ (a.count ∷ a.held ∷ flag a.low1 ∷ flag a.low2 ∷ flag a.last ∷ [])

-- A terminal: T3, the bits of the held frame and how many of them have left, C, the class held, the
-- two levels, the bit that left last, the state, its alignment.
abbrev pub terminal_fields : Terminal → List ℕ
terminal_fields t =
    word t.t3
    ++ half t.access.length
    ++ half t.access.sent
    ++ (t.access.count ∷ t.access.held ∷ flag t.access.low1 ∷ flag t.access.low2 ∷ flag t.access.last ∷ [])
    ++ (t.state ∷ [])
    ++ (flag t.alignment.aligned ∷ t.alignment.run ∷ [])

unfoldable pub terminal_octets : Terminal → List ℕ
terminal_octets t = filled_up terminal_length (terminal_fields t)

unfoldable pub terminals_octets : List Terminal → List ℕ
terminals_octets [] = []
terminals_octets (t ∷ ts) = terminal_octets t ++ terminals_octets ts

-- what a bus keeps, as octets; the notes of its last period are no part of it
unfoldable pub bus_octets : Kept → List ℕ
bus_octets k = record_octets k.bus ++ (terminals_octets k.terminals ++ (k.letters ++ (k.octets ++ k.images)))

-- ---- What octets stand for.

abbrev pub flag_at : List ℕ → ℕ → Bool
flag_at s at = eqb (get_or s at 0) 1

-- whether a unit is aligned, and how long its run is
abbrev pub alignment_at : List ℕ → ℕ → Alignment
alignment_at s at = record { aligned = flag_at s at; run = get_or s (at + 1) 0 }

abbrev pub network_in : List ℕ → Network
network_in s =
    record {
      t1 = word_at s 13;
      t2 = word_at s 17;
      state = get_or s 21 0;
      alignment = record { aligned = flag_at s 22; run = get_or s 23 0 };
    }

abbrev pub reader_in : List ℕ → Reader
reader_in s = record { bits = half_at s 24; ones = get_or s 26 0; octet = get_or s 27 0; opened = flag_at s 28; zero = flag_at s 29 }

unfoldable pub record_in : List ℕ → BusRecord
record_in s =
    record {
      periods = at_period (word_at s 5);
      opportunities = record { 0 = word_at s 9 };
      network = network_in s;
      reader = reader_in s;
      cycle = cycle.fresh;
      echo = flag_at s 30;
      hit = flag_at s 31;
    }

abbrev pub access_at : List ℕ → ℕ → Access
access_at s at =
    record {
      length = half_at s (at + 4);
      sent = half_at s (at + 6);
      count = get_or s (at + 8) 0;
      held = get_or s (at + 9) 0;
      low1 = flag_at s (at + 10);
      low2 = flag_at s (at + 11);
      last = flag_at s (at + 12);
    }

-- the terminal whose octets begin at index `at`
unfoldable pub terminal_at : List ℕ → ℕ → Terminal
terminal_at s at =
    record {
      t3 = word_at s at;
      access = access_at s at;
      state = get_or s (at + 13) 0;
      alignment = record { aligned = flag_at s (at + 14); run = get_or s (at + 15) 0 };
    }

-- n terminals; the octets of the first begin at index `at`
unfoldable pub terminals_from : ℕ → List ℕ → ℕ → List Terminal
terminals_from zero s at = []
terminals_from (suc n) s at = terminal_at s at ∷ terminals_from n s (at + terminal_length)

unfoldable pub terminals_in : List ℕ → List Terminal
terminals_in s = terminals_from terminals s terminals_at

abbrev pub letters_in : List ℕ → List ℕ
letters_in s = take line_length (drop letters_at s)

abbrev pub octets_in : List ℕ → List ℕ
octets_in s = take longest_body (drop octets_at s)

abbrev pub images_in : List ℕ → List ℕ
images_in s = drop images_at s

-- n octets, those from index `at` on; nothing but 0 where the octets are not as many as those of a bus
unfoldable pub part_read : ℕ → ℕ → List ℕ → List ℕ
part_read n at s = cond (eqb (length s) bus_length) (take n (drop at s)) (replicate n 0)

-- the same of any octets: nothing but 0 where they are not as many as those of a bus
unfoldable pub letters_read : List ℕ → List ℕ
letters_read s = cond (eqb (length s) bus_length) (letters_in s) (replicate line_length 0)

unfoldable pub octets_of : List ℕ → List ℕ
octets_of s = cond (eqb (length s) bus_length) (octets_in s) (replicate longest_body 0)

-- what the octets of a bus stand for; there are no notes of a period yet
unfoldable pub shown : List ℕ → Kept
shown s = found (record_in s) (terminals_in s) (images_in s) (octets_in s) (letters_in s)

-- ---- Octets are a bus where they have the length of one, the records that they stand for are
-- written as them, and every field is in its range.
unfoldable pub head_octets : BusRecord → List Terminal → List ℕ
head_octets r ts = record_octets r ++ terminals_octets ts

unfoldable pub is_head : BusRecord → List Terminal → List ℕ → Bool
is_head r ts s = same_symbols (head_octets r ts) s

unfoldable pub is_bus : List ℕ → Bool
is_bus s =
    cond (eqb (length s) bus_length)
    (((is_head (record_in s) (terminals_in s) (take letters_at s) && record_in_range (record_in s)) && eight_in_range (terminals_in s))
    && are_letters (letters_in s))
    false
