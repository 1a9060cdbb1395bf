use Rattle.match_facts.proofs.SheetEntries.{sheet_found}
use Rattle.match_facts.proofs.facts.MatchFacts.has_room.Goals as goal

pub returns-in-Some : goal.returns-in-Some
returns-in-Some c =
    let found = sheet_found c.self.inside.sheets c.args.fixture c.in-Some.sheet.now c.in-Some.ensures in
    rw (← c.self.view_is, ← found) c.has_room.ensures
