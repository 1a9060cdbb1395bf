use Rattle.std.proofs.Common.{Result, Ok, Err, subst, rules}
use Rattle.rule_book.specs.Players.{ArePlayers}
use Rattle.manager_book.specs.declared.deed.JudgedDeed.{JudgedDeed}
use Rattle.season_book.specs.declared.answer.Answer.{Answer}
use Rattle.season_book.specs.declared.answer.Answer.TheVariants as answer
use Rattle.season_entries.proofs.Books.{judged_by_books}
use Rattle.season_entries.proofs.judge.judge_deed.Goals as goal

pub returns-in-Ok-clause-books : goal.returns-in-Ok-clause-books
returns-in-Ok-clause-books c =
    let done : Result JudgedDeed Answer = Ok c.in-Ok.deed in
    judged_by_books c.rows_refuse_alike.ensures c.args.season.now c.args.managers.now c.args.e c.args.command.now done (subst ArePlayers c.players.ensures c.len-count.ensures.lawful) (search rules)

pub returns-in-Err-clause-books : goal.returns-in-Err-clause-books
returns-in-Err-clause-books c =
    let done : Result JudgedDeed Answer = Err (answer.Rule c.in-Err.rule) in
    judged_by_books c.rows_refuse_alike.ensures c.args.season.now c.args.managers.now c.args.e c.args.command.now done (subst ArePlayers c.players.ensures c.len-count.ensures.lawful) (search rules)
