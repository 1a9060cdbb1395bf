use Rattle.fpl_run.proofs.CourseLemmas.{session_leads}
use Rattle.fpl_run.proofs.talk.talks_lead.Goals as goal

pub returns : goal.returns
returns g c = record {
  leads = session_leads _ g.K.Keeper.tells g.K.Keeper.serves g.K.Keeper.holds g.K.Keeper.passes c.sessions_split.ensures.sessions c.sessions_split-2.ensures.sessions c.sessions_split-3.ensures.sessions
      c.sessions_lift.ensures.sessions c.sessions_lift-2.ensures.sessions c.sessions_lift-3.ensures.sessions;
}
