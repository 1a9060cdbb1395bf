use Rattle.std.proofs.Common.{◌≡◌, length, map, sym, ap, ◌∙◌}
use Rattle.std.specs.Prelude.{nat_lt}
use Rattle.std.proofs.lemmas.Result.{IfOk-weaker}
use Rattle.rule_book.specs.Ranks.{rank_among}
use Rattle.season_views.specs.Seen.{OfEachSeen}
use Rattle.season_book.specs.LeagueTables.{classic_last_rank}
use Rattle.league_windows.specs.Standings.{comes_before}
use Rattle.league_windows.proofs.Added.{zeros, zeros_of}
use Rattle.league_windows.proofs.StandingsBefore.{is_behind, is_not_behind, ranks_are, ranks_are_zero}
use Rattle.league_windows.proofs.classic.last_ranks.Goals as goal

pub returns-in_ok-standings-in-Some-clause-value : goal.returns-in_ok-standings-in-Some-clause-value
returns-in_ok-standings-in-Some-clause-value g c =
    let seen = c.args.seen.now in
    let facts = seen.facts in
    let league = c.args.league.now in
    let last = facts.calendar.locked in
    let behind = ap (λ s. nat_lt s last) (sym c.start.ensures) ∙ (is_behind (nat_lt c.start.result last) last c.in-Some.last c.last_behind.result c.last_behind.ensures c.in-Some.is).0 in
    IfOk-weaker c.ranks.result (λ ranks. ranks.items ≡ map (rank_among comes_before c.deref.result.now) c.deref.result.now) (λ ranks. OfEachSeen seen (λ entries. ranks.items ≡ map (classic_last_rank facts entries league) league.members))
    (λ ranks is. λ entries are.
    ranks_are facts entries league c.args.rows.now c.deref.result.now ranks.items behind (c.requires.rows entries are) (c.deref.ensures.value ∙ c.in_ok-standings-in-Some.ensures.value entries are) is) c.ranks.ensures

pub returns-in_ok-vec-in-None-clause-value : goal.returns-in_ok-vec-in-None-clause-value
returns-in_ok-vec-in-None-clause-value g c = λ entries are.
    let facts = c.args.seen.now.facts in
    let league = c.args.league.now in
    let last = facts.calendar.locked in
    let not = ap (λ s. nat_lt s last) (sym c.start.ensures) ∙ is_not_behind (nat_lt c.start.result last) last c.last_behind.result c.last_behind.ensures c.in-None.is in
    ranks_are_zero facts entries league c.in_ok-vec-in-None.field-0.items not
    (c.in_ok-vec-in-None.ensures.items_if_clones_equal (λ y is. cc is) ∙ ap zeros_of (ap length c.members-members.ensures.value) ∙ zeros league.members)
