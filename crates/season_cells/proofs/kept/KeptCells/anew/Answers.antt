use Rattle.std.proofs.Common.{ℕ, sym, subst}
use Rattle.rule_book.specs.MatchFacts.{MatchFacts, lines_of, players_in}
use Rattle.season_graph.specs.Followed.{AreEvaluated}
use Rattle.season_nodes.specs.IndexFacts.{IsIndex, holders_in}
use Rattle.season_nodes.specs.Season.{IsSeason, Rising, SeasonFacts}
use Rattle.season_cells.proofs.Seen.{is_season}
use Rattle.season_cells.proofs.kept.KeptCells.anew.Goals as goal

pub evaluate_all-requires : goal.evaluate_all-requires
evaluate_all-requires g c =
    let rise : (f : ℕ) → Rising (players_in (lines_of c.args.season.now.matches f)) = subst (λ (m : MatchFacts). (f : ℕ) → Rising (players_in (lines_of m f))) c.matches.ensures c.rising.ensures in
    subst IsSeason (sym c.books_of-books.ensures)
    (is_season c.args.season.now c.args.managers.now c.args.leagues.now c.args.cups.now c.keeps_facts.ensures.calendar rise c.keeps_facts.ensures.ranges c.keeps_facts.ensures.there c.orders_are_of_members.ensures c.cups_are_brackets.ensures)

pub returns : goal.returns
returns g c =
    let same = c.books_of-books.ensures in
    let rise : (f : ℕ) → Rising (players_in (lines_of c.args.season.now.matches f)) = subst (λ (m : MatchFacts). (f : ℕ) → Rising (players_in (lines_of m f))) c.matches.ensures c.rising.ensures in
    record {
      season = is_season c.args.season.now c.args.managers.now c.args.leagues.now c.args.cups.now c.keeps_facts.ensures.calendar rise c.keeps_facts.ensures.ranges c.keeps_facts.ensures.there c.orders_are_of_members.ensures c.cups_are_brackets.ensures;
      index = subst (λ (b : SeasonFacts). IsIndex b (holders_in c.in_ok-cells.index)) same c.in_ok-cells.ensures.index;
      evaluated = subst (λ (b : SeasonFacts). AreEvaluated b c.in_ok-cells.cells) same c.in_ok-cells.ensures.cells;
    }
