use Rattle.std.proofs.Common.{◌≡◌, arith, rules}
use Rattle.fpl_reports.proofs.FieldFacts.{same_numbers}
use Rattle.fpl_reports.proofs.files.two_clubs.Goals as goal

pub returns-then-eq : goal.returns-then-eq
returns-then-eq c = λ clubs are.
    let same : c.in_ok-home.home ≡ c.in_ok-away.away = search rules in
    are.2 (same_numbers 255 c.args.home.now c.args.away.now _ _ clubs.0 clubs.1 (omega arith) c.in_ok-home.ensures c.in_ok-away.ensures are.0 are.1 same)
