use Rattle.std.proofs.Common.{◌≡◌, false, map, rules}
use Rattle.command_line.proofs.MemberLemmas.{few_said}
use Rattle.command_line.proofs.OrderLemmas.{read_says}
use Rattle.command_line.proofs.orders.words_of.Goals as goal

pub returns : goal.returns
returns c =
    let line : map (λ w. w.now) c.as_slice.result.now ≡ c.args.words.now = search rules in
    let says = read_says _ c.args.words.now c.read.result false line c.if-has_dash.ensures c.read.ensures in
    record { ordered = says; few = few_said c.args.words.now c.read.result says }
