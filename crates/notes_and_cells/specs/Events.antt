-- Rules: the events of a book by number (document 01, "Bench book and report").
-- Interface: every name. Assumes nothing.
use Rattle.std.specs.Prelude.{ℕ}

-- in the order in which document 01 names them; 0 is none
abbrev pub ON : ℕ
ON = 1

abbrev pub OFF : ℕ
OFF = 2

abbrev pub AR : ℕ
AR = 3

abbrev pub DR : ℕ
DR = 4

abbrev pub D1 : ℕ
D1 = 5

abbrev pub D2 : ℕ
D2 = 6

abbrev pub HIT : ℕ
HIT = 7

abbrev pub END : ℕ
END = 8
