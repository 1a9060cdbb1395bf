use Rattle.std.proofs.Common.{◌≡◌, ◌∙◌, sym, map, subst}
use Rattle.std.specs.Prelude.{IfNone, IfSome}
use Rattle.std.proofs.lemmas.Result.{IfOk-weaker}
use Rattle.squad_rules.specs.Dreams.{HasNoEleven, IsDream}
use Rattle.squad_rules.specs.Elevens.{Row}
use Rattle.season_book.specs.TeamOfTheWeek.{team_of_the_week}
use Rattle.live_windows.proofs.DreamIs.{nobody, players_are}
use Rattle.live_windows.proofs.team.team_of.Goals as goal

pub returns-in-Some : goal.returns-in-Some
returns-in-Some c =
    let rows = c.args.rows.now in
    let is = subst (λ o. IfSome o (IsDream rows)) c.in-Some.is c.in_ok-dream.ensures.some in
    IfOk-weaker c.copied.result (λ copy. copy.items ≡ c.in-Some.dream.players) (λ players. players.items ≡ map (λ (row : Row). row.0) (team_of_the_week rows))
    (λ copy same. same ∙ players_are rows c.requires.differ c.in-Some.dream is) c.copied.ensures

pub returns-in-None : goal.returns-in-None
returns-in-None c =
    let rows = c.args.rows.now in
    let none = subst (λ o. IfNone o (HasNoEleven rows)) c.in-None.is c.in_ok-dream.ensures.none in
    c.new.ensures.items ∙ (λ i. map (λ (row : Row). row.0) (sym (nobody rows c.requires.differ none) i))
