-- The laws of an entry's gameweeks.
use Rattle.std.proofs.Common.{◌+◌, ◌+ℤ◌, Bool, ap, ◌∙◌, if◌then◌else◌}
use Rattle.rule_book.specs.Calendar.{has_ended}
use Rattle.rule_book.specs.MatchFacts.{is_finished}
use Rattle.season_book.specs.EntryViews.{score_by, team_by}
use Rattle.season_book.specs.LeagueViews.{no_side, side_of}
use Rattle.entry_windows.specs.EntryLaws.{MultipliersAddUp, TotalsAddUp}
use Rattle.season_book.specs.EntryRows.{figures_by}
use Rattle.season_book.specs.EntryTotals.{total_through}
use Rattle.entry_windows.proofs.MultiplierFacts.{multipliers_add_up}
use Rattle.entry_windows.proofs.Through.{through_more}

pub totals_add_up : TotalsAddUp
totals_add_up facts entries row g begun =
    let h = row.1.history in
    through_more facts h g
    ∙ ap (λ (b : Bool). total_through facts h g +ℤ (if b then side_of (score_by facts h (g + 1)) else no_side).net) begun

pub multipliers_add : MultipliersAddUp
multipliers_add facts h g lead =
    multipliers_add_up (team_by facts h g) (figures_by facts h g) (has_ended facts.calendar (is_finished facts.matches) g) lead.captain_from lead.captain_to lead.vice_from lead.vice_to
