use Rattle.std.proofs.Common.{◌≡◌, ◌==◌, drop}
use Rattle.std.specs.List.{list_any}
use Rattle.season_nodes.specs.Season.{classic_starts}
use Rattle.season_nodes.proofs.books.Books.has_league_from.Given as goal

abbrev pub invariant-loop-league : goal.invariant-loop-league
invariant-loop-league l =
    list_any (λ n. list_any (λ k. l.start == k) (classic_starts l.self.leagues.now n)) l.league-items
    ≡ list_any (λ n. list_any (λ k. l.start == k) (classic_starts l.self.leagues.now n)) (drop l.league-index l.league-items)
