use Rattle.std.proofs.Common.{◌≡◌, ◌∙◌, Some, sym}
use Rattle.rule_book.specs.ById.{at_id}
use Rattle.rule_book.proofs.Placed.{at_id-lookup}
use Rattle.season_running.proofs.LastFacts.{repeated_at}
use Rattle.season_running.proofs.lasts.Lasts.repeated.Goals as goal

pub returns-in-Some : goal.returns-in-Some
returns-in-Some c =
    let rows = c.self.inside.rows.entries in
    let k = c.number_of.result in
    let here : at_id rows k ≡ Some c.in-Some.last.now = sym (at_id-lookup rows k) ∙ sym c.in-Some.ensures.value in
    rw (← c.number_of.ensures, ← c.self.view_is)
    (repeated_at (at_id rows k) c.in-Some.last.now (λ made. record { number = c.args.number; command = c.args.command.now; made = made }) c.repeated.result here c.repeated.ensures)
