-- Rules: what a heard line is (document 01, "The line", last paragraph): a number of an event of
-- table 6-2 or 6-3.
-- Interface: every name. Assumes nothing.
use Rattle.std.specs.Prelude.{cond, ℕ}
use Rattle.table_6_2.specs.Table62 as Table62
use Rattle.table_6_3.specs.Table63 as Table63
use Rattle.alignment.specs.declared.Followed.{Followed}
use Rattle.heard_line.specs.declared.heard.Downward.{Downward}
use Rattle.heard_line.specs.declared.heard.Upward.{Upward}

-- A terminal's: INFO 0 has no pulse; loss; "In alignment a framed period is INFO 2 or 4 by A"; else
-- a signal. The period that gives alignment is itself identified: alignment is as it stands after
-- the period.
unfoldable pub downward_event : Downward → Followed → ℕ
downward_event line f =
    cond line.pulse
    (cond f.lost
    Table62.loss_row
    (cond line.framed
    (cond f.alignment.aligned (cond line.a Table62.info_4_row Table62.info_2_row) Table62.signal_row)
    Table62.signal_row))
    Table62.info_0_row

-- The network end's INFO: INFO 0, INFO 1, INFO 3. "Any other period with a pulse is a signal", for
-- which table 6-3 has no row: 0.
unfoldable pub upward_event : Upward → Followed → ℕ
upward_event line f =
    cond line.pulse
    (cond line.info1 Table63.info_1_row (cond line.framed (cond f.alignment.aligned Table63.info_3_row 0) 0))
    Table63.info_0_row

-- Its event of loss, which may fall together with INFO 1, or 0.
unfoldable pub loss_up : Followed → ℕ
loss_up f = cond f.lost Table63.loss_row 0
