use Rattle.std.proofs.Common.{◌≤◌, ◌∙◌, All, ap, length, map, refl, subst, sym}
use Rattle.json_members.specs.Tokens.{tokens_of}
use Rattle.rule_book.specs.FigureRange.{IsWithin}
use Rattle.rule_book.specs.Ranks.{AllDiffer}
use Rattle.squad_rules.specs.Elevens.{Row}
use Rattle.season_views.proofs.Written.{retold}
use Rattle.season_book.specs.DreamTeamWindow.{dream_team_data}
use Rattle.season_book.specs.TeamOfTheWeek.{team_of_the_week}
use Rattle.live_windows.proofs.dream.write_there.Goals as goal

pub team_of-requires-clause-few : goal.team_of-requires-clause-few
team_of-requires-clause-few g c = subst (λ rows. length rows ≤ 1200) (sym c.deref.ensures.value) c.in_ok-rows.ensures.few

pub team_of-requires-clause-differ : goal.team_of-requires-clause-differ
team_of-requires-clause-differ g c = subst (λ rows. AllDiffer (map (λ (row : Row). row.0) rows)) (sym c.deref.ensures.value) c.in_ok-rows.ensures.differ

pub team_of-requires-clause-near : goal.team_of-requires-clause-near
team_of-requires-clause-near g c = subst (All (λ (row : Row). IsWithin 1000000 row.2)) (sym c.deref.ensures.value) c.in_ok-rows.ensures.near

pub write_dream-requires-clause-team : goal.write_dream-requires-clause-team
write_dream-requires-clause-team g c =
    c.deref-2.ensures.value ∙ c.in_ok-team.ensures
    ∙ ap (λ rows. map (λ (row : Row). row.0) (team_of_the_week rows)) (c.deref.ensures.value ∙ sym c.deref-3.ensures.value)

pub write_dream-requires-clause-differ : goal.write_dream-requires-clause-differ
write_dream-requires-clause-differ g c = subst (λ rows. AllDiffer (map (λ (row : Row). row.0) rows)) (sym c.deref-3.ensures.value) c.in_ok-rows.ensures.differ

pub returns-clause-value : goal.returns-clause-value
returns-clause-value g c =
    let wrote = retold (ap (λ rows. tokens_of (dream_team_data rows)) (c.deref-3.ensures.value ∙ c.in_ok-rows.ensures.value)) c.in_ok-write_dream.ensures in
    (refl, wrote.tokens, wrote.before)
