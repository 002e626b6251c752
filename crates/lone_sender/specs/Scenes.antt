-- Laws: scenes, each computed: a terminal that is found to send alone, and its next period;
-- terminals among which none is.
-- Interface: none but for laws and proofs. Assumes nothing.
use Rattle.std.specs.Prelude.{true, false, List, [], ◌∷◌, ◌≡◌, refl, ℕ, replicate}
use Rattle.slice_lemmas.specs.Over.{fold_from}
use Rattle.notes_and_cells.specs.Cells.{info_in}
use Rattle.table_6_2.specs.Table62.{F7}
use Rattle.timing.specs.Calls.{at_period}
use Rattle.timing.specs.Clear.{clear}
use Rattle.dchannel.specs.Access.{count_after}
use Rattle.hdlc.specs.Bits.{bit_of}
use Rattle.packing.specs.Packing.{packed_bit}
use Rattle.alignment.specs.Alignment.{in_alignment}
use Rattle.terminal.specs.Terminal as terminal
use Rattle.terminal.specs.declared.Terminal.{Terminal}
use Rattle.bus_rules.specs.Quick.{shown_by}
use Rattle.exchange.specs.Part.{image_bit}
use Rattle.period_hearing.specs.Hears.{rests}
use Rattle.lone_sender.specs.Lone.{counted_at, lone_bit, lone_after_e, lone_sends, lone_after_four, lone_goes, lone_station}
use Rattle.lone_sender.specs.Lone.{lone_stations, sender_in}
use Rattle.lone_sender.specs.Search.{sender_after, fits_in, searched_one, searched, alone_for}
use Rattle.lone_sender.specs.declared.search.Search.{Search}

-- a terminal in F7 that holds a frame of class 1 with an image of 200 bits: `sent` of them have
-- left, C is `count`, and T3 is due at period `t3`
abbrev holding : ℕ → ℕ → ℕ → Terminal
holding sent count t3 =
    terminal.with_fields t3 (record { length = 200; sent = sent; count = count; held = 1; low1 = false; low2 = false; last = true }) F7
    (in_alignment 0) terminal.fresh

-- from period 1,000 on, at most 500 periods
abbrev search : List Terminal → Search
search ts = searched (at_period 1000) 500 ts

-- the second sends, the third waits, the first has no power
abbrev one_sends : List Terminal
one_sends = terminal.fresh ∷ holding 9 3 0 ∷ holding 0 3 1020 ∷ []

-- it is found, until T3 of the third, and is the one that `lone_four` asks for
pub found : (alone_for (search one_sends) ≡ 19) × ((search one_sends).lone.at ≡ 1) × (lone_stations 1 200 0 one_sends ≡ true)
    × (sender_in 1 0 one_sends ≡ true)
unfolding alone_for searched searched_one sender_after fits_in clear rests shown_by info_in fold_from lone_stations lone_station sender_in
found = (refl, refl, refl, refl)

-- its image is 1 and 0 in turn, packed: four bits leave, and C stays low
abbrev images : List ℕ
images = replicate 400 85

pub period : (lone_goes images (search one_sends).lone ≡ true) × ((lone_after_four images (search one_sends).lone).sent ≡ 13)
    × ((lone_after_four images (search one_sends).lone).count ≡ 0)
unfolding searched searched_one sender_after fits_in clear rests shown_by info_in fold_from lone_goes lone_sends lone_after_e
    lone_after_four
    counted_at count_after lone_bit image_bit packed_bit bit_of
period = (refl, refl, refl)

-- at a C of 7 the one that waits would start
pub not_at_7 : lone_goes images (search (holding 9 7 0 ∷ holding 0 7 0 ∷ [])).lone ≡ false
unfolding searched searched_one sender_after fits_in clear rests shown_by info_in fold_from lone_goes lone_sends lone_after_e counted_at
    count_after lone_bit image_bit packed_bit bit_of
not_at_7 = refl

-- not found: two that send, another C, nobody that sends
pub not_found : alone_for (search (holding 9 3 0 ∷ holding 9 3 0 ∷ [])) ∷ alone_for (search (holding 9 3 0 ∷ holding 0 4 0 ∷ []))
    ∷ alone_for (search (holding 0 3 0 ∷ [])) ∷ [] ≡ replicate 3 0
unfolding alone_for searched searched_one sender_after fits_in clear rests shown_by info_in fold_from
not_found = refl
