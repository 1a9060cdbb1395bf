use Rattle.std.proofs.Common.{◌≡◌, Bool, true, false, None, Some, Err, if◌then◌else◌, refl, sym, ap, subst, ◌∙◌, rules}
use Rattle.rule_book.specs.declared.player.Player.{Player}
use Rattle.rule_book.specs.Players.{player_refusal}
use Rattle.season_book.specs.Book.{Facts}
use Rattle.season_book.specs.Commands.{changed_by, has_club}
use Rattle.season_book.specs.Verdict.{unless_refused}
use Rattle.season_book.specs.declared.answer.Answer.TheVariants as answer
use Rattle.season_book.specs.declared.command.Command.TheVariants as command
use Rattle.season_facts.proofs.season.Season.judge_player.Goals as goal

pub returns-in-Ok : goal.returns-in-Ok
returns-in-Ok c = λ name position.
    let same : c.unwrap-tenths.result ≡ c.args.price = search rules in
    let new : Player = record { id = c.args.id; name = name; position = position; club = c.args.club; price = c.args.price; gone = false } in
    record {
      begins_none = refl;
      there = sym c.has_club.ensures ∙ c.if-not-has_club.false;
      unbroken = subst (λ (f : Facts). player_refusal f.players new ≡ None) c.self.view_is (c.in-Ok.ensures new refl (sym same));
    }

pub returns-in-Err : goal.returns-in-Err
returns-in-Err c = λ name position.
    let same : c.unwrap-tenths.result ≡ c.args.price = search rules in
    let facts = c.args.self.now in
    let new : Player = record { id = c.args.id; name = name; position = position; club = c.args.club; price = c.args.price; gone = false } in
    let next : Facts = changed_by facts (command.Player c.args.id name position c.args.club c.args.price) in
    let there : has_club facts c.args.club ≡ true = sym c.has_club.ensures ∙ c.if-not-has_club.false in
    let broken : player_refusal facts.players new ≡ Some c.in-Err.rule = subst (λ (f : Facts). player_refusal f.players new ≡ Some c.in-Err.rule) c.self.view_is (c.in-Err.ensures new refl (sym same)) in
    ap (λ (b : Bool). if b then unless_refused (player_refusal facts.players new) next else Err answer.Unknown) there ∙ ap (λ o. unless_refused o next) broken
