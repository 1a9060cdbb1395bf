use Rattle.std.proofs.Common.{ℕ, ◌==◌, ◌∙◌, Bool, ap, sym, arith}
use Rattle.std.specs.List.{list_any}
use Rattle.rule_book.specs.LeagueCalls.{leagues_of}
use Rattle.season_nodes.specs.Season.{classic_starts}
use Rattle.season_nodes.proofs.Lists.{any_flat, any_found, any_none}
use Rattle.season_nodes.proofs.books.Books.has_league_from.Goals as goal

pub returns-then-starts_with : goal.returns-then-starts_with
returns-then-starts_with c =
    let leagues = c.args.self.now.leagues.now in
    let test : ℕ → Bool = λ n. list_any (λ k. c.args.start == k) (classic_starts leagues n) in
    sym (any_found test c.leagues_of-league-items.result.now c.loop-league.league-index c.league-item.result c.loop-league-test.true c.league-item.is c.loop-league.invariant
    (sym c.starts_with.ensures ∙ c.if-starts_with.true))
    ∙ ap (list_any test) c.leagues_of-league-items.ensures
    ∙ any_flat (λ k. c.args.start == k) (classic_starts leagues) (leagues_of leagues c.args.entry)

pub returns : goal.returns
returns c =
    let leagues = c.args.self.now.leagues.now in
    let test : ℕ → Bool = λ n. list_any (λ k. c.args.start == k) (classic_starts leagues n) in
    sym (any_none test c.leagues_of-league-items.result.now c.loop-league.league-index (omega (arith, c.loop-league-test.false)) c.loop-league.invariant)
    ∙ ap (list_any test) c.leagues_of-league-items.ensures
    ∙ any_flat (λ k. c.args.start == k) (classic_starts leagues) (leagues_of leagues c.args.entry)
