use Rattle.fpl_run.proofs.CourseLemmas.{session_counts, session_reads_few}
use Rattle.fpl_run.proofs.talk.talks_count.Goals as goal

pub returns : goal.returns
returns g c = record {
  counts = session_counts _ g.K.Keeper.tells g.K.Keeper.serves g.K.Keeper.holds g.K.Keeper.passes c.sessions_split.ensures.sessions;
  reads = session_reads_few _ c.sessions_answer.ensures c.looks_read_few.ensures;
}
