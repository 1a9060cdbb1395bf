use Rattle.std.proofs.Common.{◌∙◌, ap, sym}
use Rattle.store_validation.specs.LeagueRules.{league_breaks}
use Rattle.store_validation.specs.Lawful.{rules_broken}
use Rattle.store_validation.proofs.judging.rules_broken.Goals as goal

pub returns-in-Club-clause-broken : goal.returns-in-Club-clause-broken
returns-in-Club-clause-broken c = c.club_breaks.ensures ∙ sym (ap (rules_broken c.args.stored.now) c.in-Club.is)

pub returns-in-Player-clause-broken : goal.returns-in-Player-clause-broken
returns-in-Player-clause-broken c = c.player_breaks.ensures ∙ sym (ap (rules_broken c.args.stored.now) c.in-Player.is)

pub returns-in-League-clause-broken : goal.returns-in-League-clause-broken
returns-in-League-clause-broken c =
    let league = c.in-League in
    c.league_breaks.ensures
    ∙ (ap (league_breaks c.args.stored.now league.league league.kind league.start league.creator) c.as_slice-in-League.ensures ∙ sym (ap (rules_broken c.args.stored.now) league.is))

pub returns-in-Line-clause-broken : goal.returns-in-Line-clause-broken
returns-in-Line-clause-broken c = c.line_breaks.ensures ∙ sym (ap (rules_broken c.args.stored.now) c.in-Line.is)

pub returns-in-Entry-clause-broken : goal.returns-in-Entry-clause-broken
returns-in-Entry-clause-broken c = c.issue_breaks.ensures ∙ sym (ap (rules_broken c.args.stored.now) c.in-Entry.is)

pub returns-in-Member-clause-broken : goal.returns-in-Member-clause-broken
returns-in-Member-clause-broken c = c.member_breaks.ensures ∙ sym (ap (rules_broken c.args.stored.now) c.in-Member.is)
