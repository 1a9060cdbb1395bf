use Rattle.std.proofs.Common.{ap, sym, ◌∙◌}
use Rattle.season_book.specs.Commands.{club_ids}
use Rattle.fpl_requests.specs.Requests.{differ}
use Rattle.fpl_requests.proofs.DifferLemmas.{AllDiffer-differ}
use Rattle.fpl_requests.proofs.lists.clubs.Goals as goal

pub returns-then-differ-clause-differ : goal.returns-then-differ-clause-differ
returns-then-differ-clause-differ c = AllDiffer-differ (club_ids c.in_ok-list.list)
    (ap (λ xs. differ (club_ids xs)) (sym c.as_slice-then-is_long.ensures) ∙ sym c.differ.ensures ∙ c.if-differ.true)
