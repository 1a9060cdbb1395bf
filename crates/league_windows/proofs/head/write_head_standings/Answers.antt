use Rattle.std.proofs.Common.{◌≡◌, ◌++◌, true, Some, sym, ap, subst, ◌∙◌}
use Rattle.std.specs.Prelude.{IfSome}
use Rattle.std.specs.Option.{option_copied}
use Rattle.json_members.specs.Tokens.{tokens_of}
use Rattle.rule_book.specs.Entries.{entry_in}
use Rattle.rule_book.specs.LeagueCalls.{is_head}
use Rattle.season_book.specs.HeadStandings.{head_standings, head_standings_window}
use Rattle.league_windows.proofs.StandingsShown.{head_due, is_shown}
use Rattle.league_windows.proofs.head.write_head_standings.Goals as goal

pub returns-in_ok-write_standings-in-Head-clause-value : goal.returns-in_ok-write_standings-in-Head-clause-value
returns-in_ok-write_standings-in-Head-clause-value g c entries are =
    let seen = c.args.seen.now in
    let facts = seen.facts in
    let n = c.args.number in
    let league = c.in-Some-get.league.now in
    let number : c.in-Some.id ≡ n = subst (λ o. IfSome o (λ l. l ≡ n)) c.in-Some.is c.new.ensures.value in
    let there : entry_in seen.leagues c.in-Some.id ≡ Some league = ap (λ ls. entry_in ls c.in-Some.id) (sym c.leagues.ensures) ∙ sym c.get.ensures ∙ ap option_copied c.in-Some-get.is in
    let at : entry_in seen.leagues n ≡ Some league = subst (λ l. entry_in seen.leagues l ≡ Some league) number there in
    let head : is_head league.kind ≡ true = ap is_head (sym c.kind.ensures ∙ c.in-Head.is) in
    let wrote : (c.write_standings.new.out.tokens ≡ c.args.out.now.tokens ++ tokens_of (head_standings facts entries c.in-Some.id league)) × (c.write_standings.new.out.before ≡ c.args.out.now.before) =
    c.in_ok-write_standings-in-Head.ensures.value entries are in
    is_shown {u = tt} (head_standings_window facts entries seen.leagues n) (head_standings facts entries n league) c.args.out.now c.write_standings.new.out (head_due facts entries seen.leagues n league at head)
    (wrote.0 ∙ ap (λ l. c.args.out.now.tokens ++ tokens_of (head_standings facts entries l league)) number, wrote.1)
