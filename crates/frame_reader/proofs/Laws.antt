-- The laws of `specs/Laws.antt`, proved under the same names in small letters.
use Rattle.frame.specs.Down.{down_line, down_fields_of}
use Rattle.frame.specs.Up.{up_line, up_fields_of}
use Rattle.frame.proofs.Laws.{line_down_lem, line_up_lem}
use Rattle.frame_reader.specs.Laws
use Rattle.frame_reader.proofs.Fields.{down_back, down_good, up_back, up_good}
use Rattle.frame_reader.proofs.Reader as reader

pub round_trip_down : Laws.RoundTripDown
round_trip_down =
    reader.round_trip Laws.DownGood down_line down_fields_of line_down_lem down_back down_good

pub exact_down : Laws.ExactDown
exact_down =
    reader.exact Laws.DownGood down_line down_fields_of line_down_lem down_back down_good

pub ten_down : Laws.TenDown
ten_down =
    reader.ten Laws.DownGood down_line down_fields_of line_down_lem down_back down_good

pub two_down : Laws.TwoDown
two_down =
    reader.two Laws.DownGood down_line down_fields_of line_down_lem down_back down_good

pub round_trip_up : Laws.RoundTripUp
round_trip_up =
    reader.round_trip Laws.UpGood up_line up_fields_of line_up_lem up_back up_good

pub exact_up : Laws.ExactUp
exact_up = reader.exact Laws.UpGood up_line up_fields_of line_up_lem up_back up_good

pub ten_up : Laws.TenUp
ten_up = reader.ten Laws.UpGood up_line up_fields_of line_up_lem up_back up_good

pub two_up : Laws.TwoUp
two_up = reader.two Laws.UpGood up_line up_fields_of line_up_lem up_back up_good
