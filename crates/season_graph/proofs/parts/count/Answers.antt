use Rattle.std.proofs.Common.{◌+◌, ◌≤◌, length, ap, map, nat_lt, arith}
use Rattle.std.specs.List.{range_with_len}
use Rattle.season_nodes.specs.BookFacts.{facts_of}
use Rattle.season_nodes.specs.Rounds.{order_in}
use Rattle.season_nodes.specs.declared.nodes.Node.TheVariants as node
use Rattle.season_graph.specs.declared.parts.Part.TheVariants as part
use Rattle.season_graph.proofs.PartFacts.{as_part, gameweeks_few, length_if, numbers_few}
use Rattle.season_graph.proofs.parts.count.Goals as goal

pub returns-in-Player : goal.returns-in-Player
returns-in-Player c =
    let d = facts_of c.args.books.now in
    let i = c.in-Player in
    as_part d c.args.part.now (part.Player i.field-0 i.field-1) (c.from-gameweeks.result + 1) i.is (gameweeks_few (λ g. part.One (node.PlayerGw i.field-0 g)) (i.field-1 + 1) d.calendar.locked (c.from-gameweeks.result + 1) (omega (arith, c.from-gameweeks.ensures, c.locked.ensures.value)))

pub returns-in-Entries : goal.returns-in-Entries
returns-in-Entries c =
    let d = facts_of c.args.books.now in
    let i = c.in-Entries in
    as_part d c.args.part.now (part.Entries i.field-0) (c.entries-entries.result) i.is (numbers_few (λ e. part.Entry e i.field-0) 1 d.entries (c.entries-entries.result) (omega (arith, c.entries-entries.ensures.count)))

pub returns-in-Entry : goal.returns-in-Entry
returns-in-Entry c =
    let d = facts_of c.args.books.now in
    let i = c.in-Entry in
    as_part d c.args.part.now (part.Entry i.field-0 i.field-1) (c.from-gameweeks.result + 1) i.is (gameweeks_few (λ g. part.One (node.TeamGw i.field-0 g)) (i.field-1 + 1) d.calendar.locked (c.from-gameweeks.result + 1) (omega (arith, c.from-gameweeks.ensures, c.locked.ensures.value)))

pub returns-in-Teams : goal.returns-in-Teams
returns-in-Teams c =
    let d = facts_of c.args.books.now in
    let i = c.in-Teams in
    as_part d c.args.part.now (part.Teams i.field-0) (c.entries-entries.result) i.is (numbers_few (λ e. part.One (node.TeamGw e i.field-0)) 1 d.entries (c.entries-entries.result) (omega (arith, c.entries-entries.ensures.count)))

pub returns-in-Totals : goal.returns-in-Totals
returns-in-Totals c =
    let d = facts_of c.args.books.now in
    let i = c.in-Totals in
    as_part d c.args.part.now (part.Totals i.field-0) (c.entries-entries.result) i.is (length_if (nat_lt i.field-0 d.calendar.locked) (map part.TotalsOf (range_with_len 1 d.entries)) (c.entries-entries.result) (numbers_few part.TotalsOf 1 d.entries (c.entries-entries.result) (omega (arith, c.entries-entries.ensures.count))))

pub returns-in-Heads : goal.returns-in-Heads
returns-in-Heads c =
    let d = facts_of c.args.books.now in
    let i = c.in-Heads in
    as_part d c.args.part.now (part.Heads) (c.count-leagues.result) i.is (numbers_few part.Head 1 (length d.leagues) (c.count-leagues.result) (omega (arith, c.count-leagues.ensures.value)))

pub returns-in-Leagues : goal.returns-in-Leagues
returns-in-Leagues c =
    let d = facts_of c.args.books.now in
    let i = c.in-Leagues in
    as_part d c.args.part.now (part.Leagues i.field-0) (c.count-leagues.result) i.is (length_if (nat_lt i.field-0 d.calendar.locked) (map (λ l. part.League l i.field-0) (range_with_len 1 (length d.leagues))) (c.count-leagues.result) (numbers_few (λ l. part.League l i.field-0) 1 (length d.leagues) (c.count-leagues.result) (omega (arith, c.count-leagues.ensures.value))))

pub returns-in-Rounds : goal.returns-in-Rounds
returns-in-Rounds c =
    let d = facts_of c.args.books.now in
    let i = c.in-Rounds in
    as_part d c.args.part.now (part.Rounds i.field-0 i.field-1) (c.from-gameweeks.result + 1) i.is (gameweeks_few (part.Round i.field-0) i.field-1 d.calendar.locked (c.from-gameweeks.result + 1) (omega (arith, c.from-gameweeks.ensures, c.locked.ensures.value)))

pub returns-in-Matches : goal.returns-in-Matches
returns-in-Matches c =
    let d = facts_of c.args.books.now in
    let i = c.in-Matches in
    let n = length (order_in d.leagues i.league) in
    as_part d c.args.part.now (part.Matches i.league i.field-1) (length c.order.result.now) i.is
    (numbers_few (λ x. part.One (node.Match i.league i.field-1 x)) 0 n (length c.order.result.now) (omega (arith, ap length c.order.ensures.value)))

pub returns-in-Cups : goal.returns-in-Cups
returns-in-Cups c =
    let d = facts_of c.args.books.now in
    let i = c.in-Cups in
    as_part d c.args.part.now (part.Cups) (c.count-cups.result) i.is (numbers_few (λ x. part.Cup x 0) 1 (length d.cups) (c.count-cups.result) (omega (arith, c.count-cups.ensures.count)))

pub returns-in-LaterCups : goal.returns-in-LaterCups
returns-in-LaterCups c =
    let d = facts_of c.args.books.now in
    let i = c.in-LaterCups in
    as_part d c.args.part.now (part.LaterCups i.field-0) (c.count-cups.result) i.is (length_if (nat_lt i.field-0 d.calendar.locked) (map (λ x. part.Cup x (i.field-0 + 1)) (range_with_len 1 (length d.cups))) (c.count-cups.result) (numbers_few (λ x. part.Cup x (i.field-0 + 1)) 1 (length d.cups) (c.count-cups.result) (omega (arith, c.count-cups.ensures.count))))

pub returns-in-Cup : goal.returns-in-Cup
returns-in-Cup c =
    let d = facts_of c.args.books.now in
    let i = c.in-Cup in
    as_part d c.args.part.now (part.Cup i.field-0 i.field-1) (c.from-gameweeks.result + 1) i.is (gameweeks_few (part.CupRound i.field-0) i.field-1 d.calendar.locked (c.from-gameweeks.result + 1) (omega (arith, c.from-gameweeks.ensures, c.locked.ensures.value)))
