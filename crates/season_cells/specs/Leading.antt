-- That what the plan of a command says is so.
use Rattle.std.specs.Prelude.{◌≡◌, ◌≢◌, ℕ, true}
use Rattle.fpl_base.specs.declared.kinds.Caller.{Caller}
use Rattle.rule_book.specs.Calendar.{IsCalendar, stands_in}
use Rattle.rule_book.specs.MatchFacts.{is_finished, line_of}
use Rattle.rescore_graph.specs.Graph.{Among}
use Rattle.manager_book.specs.Managers.{AreRisen}
use Rattle.season_book.specs.declared.command.Command.{Command}
use Rattle.season_graph.specs.Changes.{AreAlike, DifferInLeague, DifferInLine, DifferInMark, DifferInPlace, DifferInPlayer, DifferInSheet}
use Rattle.season_nodes.specs.Season.{IsSeason, SeasonFacts}
use Rattle.season_running.specs.Accepting.{IsGrantedTo}
use Rattle.season_running.specs.Changed.{IsChangedBy}
use Rattle.season_running.specs.Standing.{Running}
use Rattle.season_cells.specs.Kept.{season_seen}
use Rattle.season_cells.specs.Plans.{IsPlanOf}
use Rattle.season_cells.specs.declared.plan.Plan.{Plan}
use Rattle.season_cells.specs.declared.plan.Plan.TheVariants as plan

module _ (b d : SeasonFacts) where
  -- the facts differ as a plan says, and in nothing else
  abbrev pub DifferAs : Plan → Type 0
  DifferAs plan.Nothing = AreAlike b d
  DifferAs (plan.Player p) = DifferInPlayer b d p
  DifferAs (plan.Place f from to) = DifferInPlace b d f × (from ≡ stands_in b.calendar f) × (to ≡ stands_in d.calendar f) × (from ≢ to)
  DifferAs (plan.Line f p) = DifferInLine b d f p × (line_of b.matches f p ≢ line_of d.matches f p)
  DifferAs (plan.Mark f) = DifferInMark b d f × (is_finished b.matches f ≢ is_finished d.matches f)
  DifferAs (plan.Sheet f players marked) =
      DifferInSheet b d f players.items marked
      × ((p : ℕ) → Among players.items p → line_of b.matches f p ≢ line_of d.matches f p)
      × (marked ≡ true → is_finished b.matches f ≢ is_finished d.matches f)
  DifferAs (plan.League l) = DifferInLeague b d l

  -- and they are those of a season
  pub record LeadsTo (plan : Plan) : Type 0 where
    pub season : IsSeason d
    pub differ : DifferAs plan

-- behind a command stands a season, which differs as its plan says
abbrev pub PlansLead : Type 0
PlansLead = (caller : Caller) (now : ℕ) (command : Command) (old new : Running) (plan : Plan)
    → IsSeason (season_seen old.facts old.managers old.leagues old.cups) → IsGrantedTo old caller now command → IsPlanOf old.facts old.leagues command plan
    → IsChangedBy caller command old new → IsCalendar new.facts.calendar → AreRisen old.managers → AreRisen new.managers
    → LeadsTo (season_seen old.facts old.managers old.leagues old.cups) (season_seen new.facts new.managers new.leagues new.cups) plan
