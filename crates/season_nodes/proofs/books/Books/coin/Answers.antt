use Rattle.std.proofs.Common.{◌≡◌, Some, rules}
use Rattle.rule_book.specs.Entries.{entry_in}
use Rattle.season_nodes.specs.TieLaws.{tie_there}
use Rattle.season_nodes.proofs.books.Books.coin.Goals as goal

pub coin-requires-clause-tie : goal.coin-requires-clause-tie
coin-requires-clause-tie c =
    let at : entry_in c.args.self.now.cups.now c.args.cup ≡ Some c.in-Some.bracket.now = search rules in
    tie_there c.args.self.now.cups.now c.args.cup c.args.round c.args.place c.in-Some.bracket.now at c.requires
