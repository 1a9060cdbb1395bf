use Rattle.std.proofs.Common.{◌≡◌, ◌+◌, ◌*◌, ◌/◌, ◌<◌, ◌≤◌, ◌^◌, length, sym, subst, arith, rules}
use Rattle.std.proofs.lemmas.Nat.{shr_le}
use Rattle.season_nodes.specs.BookFacts.{facts_of}
use Rattle.season_nodes.specs.Season.{bracket_of}
use Rattle.season_nodes.specs.TieLaws.{none_after, whole_round}
use Rattle.season_nodes.proofs.books.Books.ties.Goals as goal

pub returns-then-round-ge10-clause-value : goal.returns-then-round-ge10-clause-value
returns-then-round-ge10-clause-value c =
    let up : 10 ≤ c.args.round = search rules in
    let few = subst (λ slots. length slots ≤ 1024) c.slots-slots.ensures.value c.slots-slots.ensures.few in
    sym (none_after (length (bracket_of (facts_of c.args.self.now) c.args.cup).slots) c.args.round few up)

pub returns-clause-whole : goal.returns-clause-whole
returns-clause-whole c some =
    let slots = c.slots-slots.result.now in
    let there : 0 < length slots = omega (arith, some, shr_le (length slots) (c.args.round + 1)) in
    let shape = c.slots-slots.ensures.shape there in
    subst (λ l. length l ≡ 2 ^ (c.args.round + 1) * (length slots / 2 ^ (c.args.round + 1))) c.slots-slots.ensures.value (whole_round (length slots) shape.0 (c.args.round + 1) shape.1 some)
