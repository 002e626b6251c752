-- Laws: the terms of the laws about what several terminals send: how many send other than INFO 0,
-- their D bits and FA, whether one sends INFO 1, the upward frames among them, and the D that are
-- heard where INFO 1 is on the line.
-- Interface: `sent_d`, `all_ones`. Assumes nothing.
use Rattle.std.specs.Prelude.{Bool, true, false, not, cond, ◌&&◌, ◌||◌, List, [], ◌∷◌, map, ℕ, suc, eqb}
use Rattle.frame.specs.Four.{all_four, and_all}
use Rattle.frame.specs.Up.{up_line}
use Rattle.frame.specs.declared.fields.Four.{Four}
use Rattle.frame.specs.declared.fields.UpFields.{UpFields}
use Rattle.info.specs.Info.{info0, info3_fields}
use Rattle.combining.specs.Groups.{all_of}
use Rattle.combining.specs.Sent.{Sent}
use Rattle.combining.specs.Sent.Sent.{silent, calling, frame}

-- How many send other than INFO 0.
unfoldable pub how_many_send : List Sent → ℕ
how_many_send [] = 0
how_many_send (silent ∷ xs) = how_many_send xs
how_many_send (calling ∷ xs) = suc (how_many_send xs)
how_many_send (frame f ∷ xs) = suc (how_many_send xs)

-- The D bits and FA of what one terminal sends: INFO 0 and INFO 1 count as 1s.
abbrev pub sent_d : Sent → Four
sent_d silent = all_four true
sent_d calling = all_four true
sent_d (frame f) = f.d

abbrev pub sent_fa : Sent → Bool
sent_fa silent = true
sent_fa calling = true
sent_fa (frame f) = f.fa

abbrev pub is_calling : Sent → Bool
is_calling silent = false
is_calling calling = true
is_calling (frame f) = false

-- Whether any terminal sends INFO 1.
unfoldable pub any_calling : List Sent → Bool
any_calling [] = false
any_calling (x ∷ xs) = is_calling x || any_calling xs

-- The frames of those that send one.
unfoldable pub frames : List Sent → List UpFields
frames [] = []
frames (silent ∷ xs) = frames xs
frames (calling ∷ xs) = frames xs
frames (frame f ∷ xs) = f ∷ frames xs

-- A frame with B at 1 is INFO 3.
abbrev pub is_info3 : UpFields → Bool
is_info3 f = eqb f.b1first 255 && (eqb f.b2first 255 && (eqb f.b1second 255 && eqb f.b2second 255))

-- Several INFO 3 together: INFO 3 with the ANDs. Their line, or INFO 0 where there is none.
abbrev pub joint_fields : List UpFields → UpFields
joint_fields fs = info3_fields (all_of (λ (f : UpFields). f.fa) fs) (and_all (map (λ (f : UpFields). f.d) fs))

abbrev pub frames_line : List UpFields → List ℕ
frames_line [] = info0
frames_line (f ∷ fs) = up_line (joint_fields (f ∷ fs))

-- Whether FA and all D are 1.
abbrev pub all_ones : Bool → Four → Bool
all_ones fa d = fa && ((d.first && d.second) && (d.third && d.fourth))

-- The D bits at symbol level of the combined line, where the ANDs are d. INFO 1 has a plus at
-- position 25, where a D of 0 is a minus: together they give none, and the plus alone is a pulse.
abbrev pub heard_with_info1 : Bool → Four → Four
heard_with_info1 info1 d =
    record {
      first = d.first;
      second = cond info1 (not d.second) d.second;
      third = d.third;
      fourth = d.fourth;
    }
