-- What judging works out fits the rows, and adds its deeds to each history for which they stand.
use Rattle.std.proofs.Common.{◌≡◌, ◌<◌, ℕ, List, [], ◌∷◌, length, map, refl, sym, ap, ◌∙◌, subst}
use Rattle.std.proofs.lemmas.List.{length-map}
use Rattle.rule_book.specs.declared.player.Player.{Player}
use Rattle.rule_book.specs.declared.team.Team.{Team}
use Rattle.rule_book.specs.declared.transfers.Sale.{Sale}
use Rattle.rule_book.specs.declared.transfers.Swap.{Swap}
use Rattle.rule_book.specs.Batch.{sale_of}
use Rattle.rule_book.specs.EntryCalls.{batch_deeds, picks_from}
use Rattle.rule_book.specs.History.{Deed, Holding}
use Rattle.rule_book.specs.History.Deed.{First, Swap as Swapped, Lineup}
use Rattle.rule_book.specs.HistoryTeam.{holdings}
use Rattle.rule_book.specs.Players.{ArePlayers}
use Rattle.season_ledger.specs.declared.row.Row.{Row}
use Rattle.season_ledger.specs.Rows.{AllUpTo}
use Rattle.manager_book.specs.declared.deed.JudgedDeed.TheVariants as judged
use Rattle.manager_book.specs.Calls.{IsBatchOf, IsFirstOf, IsLineupOf}
use Rattle.manager_book.specs.Deeds.{IsWorkedOut}
use Rattle.manager_book.specs.HistoryLaws.{RowsAlwaysRefuseAlike}
use Rattle.manager_book.proofs.Firsts.{first_is_team, fit_first, placed_first}

pub squad_worked : (g : ℕ) (players : List Player) (squad : List ℕ) (c v : ℕ) (rows : List Row) (team : Team) → ArePlayers players → rows ≡ [] → IsFirstOf players squad c v team
    → IsWorkedOut g players rows (λ h. First (holdings (picks_from players squad)) c v ∷ []) (judged.Squad g team)
squad_worked g players squad c v rows team are new f = record {
  gameweek = refl;
  fits = record { new = new; first = first_is_team players squad c v team f; fit = fit_first players squad c v team are f };
  placed = λ position h have st. placed_first position players squad c v team have f;
  adds = λ h st. ap (λ (d : Deed). d ∷ []) (ap (λ (ks : List Holding). First ks team.captain team.vice) (ap holdings f.picks) ∙ ap (λ x. First (holdings (picks_from players squad)) x team.vice) f.captain ∙ ap (λ x. First (holdings (picks_from players squad)) c x) f.vice);
}

pub batch_worked : RowsAlwaysRefuseAlike → (g : ℕ) (players : List Player) (swaps : List Swap) (rows : List Row) (sales : List Sale) (team : Team) → AllUpTo g rows → 0 < length swaps → IsBatchOf g players swaps rows sales team
    → IsWorkedOut g players rows (λ h. batch_deeds players h swaps g) (judged.Transfers g team sales)
batch_worked law g players swaps rows sales team later some b = record {
  gameweek = refl;
  fits = record {
    later = later;
    some = subst (λ n. 0 < n) (sym (ap length b.sold ∙ length-map swaps (sale_of players b.before.picks))) some;
    few = b.few;
    on = b.on;
    cheap = b.cheap;
    fit = b.fit;
  };
  placed = b.placed;
  adds = λ h st. ap (map Swapped) b.sold ∙ (law players rows h g st).deeds swaps b.before b.stood;
}

pub lineup_worked : (g : ℕ) (players : List Player) (order : List ℕ) (c v : ℕ) (rows : List Row) (team : Team) → AllUpTo g rows → IsLineupOf g order c v rows team
    → IsWorkedOut g players rows (λ h. Lineup order c v ∷ []) (judged.Lineup g team)
lineup_worked g players order c v rows team later l = record {
  gameweek = refl;
  fits = record { later = later; on = l.on; fit = l.fit };
  placed = λ position h have st. l.placed position h st;
  adds = λ h st. ap (λ (d : Deed). d ∷ []) (ap (λ (ps : List ℕ). Lineup ps team.captain team.vice) l.named ∙ ap (λ x. Lineup order x team.vice) l.lined.captain ∙ ap (λ x. Lineup order c x) l.lined.vice);
}
