use Rattle.json_members.proofs.AppendLemmas.{then}
use Rattle.fixture_windows.proofs.element_summary.write_start.Goals as goal

pub returns : goal.returns
returns g c =
    rw (c.from.ensures, c.requires.bonus, c.clean_sheets.ensures, c.from-2.ensures, c.get.ensures.value, c.from-3.ensures, c.get-2.ensures.value) at
    (then c.in_ok-write_figure.ensures (then c.in_ok-write_count.ensures (then c.in_ok-write_bps.ensures (then c.in_ok-write_count-2.ensures (then c.in_ok-write_count-3.ensures
    (then c.in_ok-write_count-4.ensures (then c.in_ok-write_figure-2.ensures (then c.in_ok-write_figure-3.ensures (then c.in_ok-write_moment.ensures c.write_figure-4.ensures)))))))))
