use Rattle.std.proofs.Common.{◌≡◌, ◌-◌, ℕ, arith, subst}
use Rattle.season_nodes.specs.BookFacts.{facts_of}
use Rattle.season_nodes.specs.Held.{held}
use Rattle.season_nodes.specs.IndexFacts.{holders_in}
use Rattle.season_nodes.specs.Season.{is_live}
use Rattle.season_graph.specs.Followed.{Refreshes}
use Rattle.season_graph.specs.Touched.{holding_nodes, player_nodes}
use Rattle.season_graph.proofs.ComingFacts.{coming_follows, coming_marks}
use Rattle.season_graph.proofs.RefreshedFacts.{refreshed_append}
use Rattle.season_graph.proofs.changes.player_added.Goals as goal

less_none : (n : ℕ) → n - 0 ≡ n
less_none n = omega arith

pub returns-clause-nodes : goal.returns-clause-nodes
returns-clause-nodes c =
    let books = c.args.books.now in
    let p = c.args.player in
    let n = books.calendar.now.locked in
    refreshed_append (is_live (facts_of books)) (player_nodes p 0 n) (holding_nodes (holders_in c.args.index.now) p n)
    (held c.args.cells.now) (held c.refresh.new.cells) (held c.refresh_holding.new.cells)
    (subst (λ k. Refreshes books (player_nodes p 0 k) c.args.cells.now c.refresh.new.cells) (less_none n) c.in_ok-refresh.ensures)
    c.in_ok-refresh_holding.ensures

pub returns-clause-sound : goal.returns-clause-sound
returns-clause-sound c = λ index old is_old is_new differ.
    coming_follows old (facts_of c.args.books.now) is_old c.args.player differ (holders_in c.args.index.now) index is_new (held c.args.cells.now) (held c.refresh_holding.new.cells) (returns-clause-nodes c)

pub returns-clause-exact : goal.returns-clause-exact
returns-clause-exact c = λ index old is_old is_new differ.
    coming_marks old (facts_of c.args.books.now) is_old c.args.player differ (holders_in c.args.index.now) index is_new (held c.args.cells.now) (held c.refresh_holding.new.cells) (returns-clause-nodes c)
