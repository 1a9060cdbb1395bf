use Rattle.json_members.proofs.AppendLemmas.{one, then}
use Rattle.fixture_windows.proofs.told.write_stats.Goals as goal

pub returns : goal.returns
returns c =
    then (one c.in_ok-begin_array.ensures) (then c.in_ok-write_stat.ensures (then c.in_ok-write_stat-2.ensures (then c.in_ok-write_stat-3.ensures (then c.in_ok-write_stat-4.ensures
    (then c.in_ok-write_stat-5.ensures (then c.in_ok-write_stat-6.ensures (then c.in_ok-write_stat-7.ensures (then c.in_ok-write_stat-8.ensures (then c.in_ok-write_stat-9.ensures
    (then c.in_ok-write_stat-10.ensures (one c.end_array.ensures)))))))))))
