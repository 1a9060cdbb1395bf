use Rattle.std.proofs.Common.{◌≡◌, true, subst}
use Rattle.season_nodes.specs.BookFacts.{facts_of}
use Rattle.season_nodes.specs.IndexFacts.{holders_in}
use Rattle.season_nodes.specs.declared.nodes.Node.TheVariants as node
use Rattle.season_nodes.specs.Season.{is_live}
use Rattle.season_nodes.specs.SeasonLaws.{match_alive, tie_alive}
use Rattle.season_nodes.proofs.DependentFacts.{dependents_are}
use Rattle.season_rules.proofs.rules.SeasonRulesRules.dependents.Goals as goal

pub returns-in_ok-line_dependents-in-Line : goal.returns-in_ok-line_dependents-in-Line
returns-in_ok-line_dependents-in-Line c =
    dependents_are (facts_of c.args.self.now.books) c.requires.0 (holders_in c.args.self.now.index.now) c.requires.1 c.args.n (node.Line c.in-Line.fixture c.in-Line.player)
    c.in_ok-line_dependents-in-Line.field-0.items c.in-Line.is c.in_ok-line_dependents-in-Line.ensures

pub returns-in_ok-bonus_dependents-in-Bonus : goal.returns-in_ok-bonus_dependents-in-Bonus
returns-in_ok-bonus_dependents-in-Bonus c =
    dependents_are (facts_of c.args.self.now.books) c.requires.0 (holders_in c.args.self.now.index.now) c.requires.1 c.args.n (node.Bonus c.in-Bonus.fixture)
    c.in_ok-bonus_dependents-in-Bonus.field-0.items c.in-Bonus.is c.in_ok-bonus_dependents-in-Bonus.ensures

pub returns-in_ok-gameweek_dependents-in-PlayerGw : goal.returns-in_ok-gameweek_dependents-in-PlayerGw
returns-in_ok-gameweek_dependents-in-PlayerGw c =
    dependents_are (facts_of c.args.self.now.books) c.requires.0 (holders_in c.args.self.now.index.now) c.requires.1 c.args.n (node.PlayerGw c.in-PlayerGw.player c.in-PlayerGw.gameweek)
    c.in_ok-gameweek_dependents-in-PlayerGw.field-0.items c.in-PlayerGw.is c.in_ok-gameweek_dependents-in-PlayerGw.ensures

pub returns-in_ok-team_dependents-in-TeamGw : goal.returns-in_ok-team_dependents-in-TeamGw
returns-in_ok-team_dependents-in-TeamGw c =
    dependents_are (facts_of c.args.self.now.books) c.requires.0 (holders_in c.args.self.now.index.now) c.requires.1 c.args.n (node.TeamGw c.in-TeamGw.entry c.in-TeamGw.gameweek)
    c.in_ok-team_dependents-in-TeamGw.field-0.items c.in-TeamGw.is c.in_ok-team_dependents-in-TeamGw.ensures

pub returns-in-Total : goal.returns-in-Total
returns-in-Total c =
    dependents_are (facts_of c.args.self.now.books) c.requires.0 (holders_in c.args.self.now.index.now) c.requires.1 c.args.n (node.Total c.in-Total.field-0 c.in-Total.field-1)
    c.new.result.items c.in-Total.is c.new.ensures.items

pub returns-in_ok-average_dependents-in-Average : goal.returns-in_ok-average_dependents-in-Average
returns-in_ok-average_dependents-in-Average c =
    dependents_are (facts_of c.args.self.now.books) c.requires.0 (holders_in c.args.self.now.index.now) c.requires.1 c.args.n (node.Average c.in-Average.league c.in-Average.gameweek)
    c.in_ok-average_dependents-in-Average.field-0.items c.in-Average.is c.in_ok-average_dependents-in-Average.ensures

pub returns-in_ok-match_dependents-in-Match : goal.returns-in_ok-match_dependents-in-Match
returns-in_ok-match_dependents-in-Match c live =
    let b = facts_of c.args.self.now.books in
    let one = c.in-Match in
    let alive = match_alive b one.league one.gameweek one.place (subst (λ q. is_live b q ≡ true) one.is live) in
    dependents_are b c.requires.0 (holders_in c.args.self.now.index.now) c.requires.1 c.args.n (node.Match one.league one.gameweek one.place)
    c.in_ok-match_dependents-in-Match.field-0.items one.is (c.in_ok-match_dependents-in-Match.ensures alive.1) live

pub returns-in-HeadRow : goal.returns-in-HeadRow
returns-in-HeadRow c =
    dependents_are (facts_of c.args.self.now.books) c.requires.0 (holders_in c.args.self.now.index.now) c.requires.1 c.args.n (node.HeadRow c.in-HeadRow.field-0 c.in-HeadRow.field-1)
    c.new-in-HeadRow.result.items c.in-HeadRow.is c.new-in-HeadRow.ensures.items

pub returns-in_ok-tie_dependents-in-Tie : goal.returns-in_ok-tie_dependents-in-Tie
returns-in_ok-tie_dependents-in-Tie c live =
    let b = facts_of c.args.self.now.books in
    let one = c.in-Tie in
    let alive = tie_alive b one.cup one.round one.place (subst (λ q. is_live b q ≡ true) one.is live) in
    dependents_are b c.requires.0 (holders_in c.args.self.now.index.now) c.requires.1 c.args.n (node.Tie one.cup one.round one.place)
    c.in_ok-tie_dependents-in-Tie.field-0.items one.is (c.in_ok-tie_dependents-in-Tie.ensures alive.1) live
