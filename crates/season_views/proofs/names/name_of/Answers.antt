use Rattle.std.proofs.Common.{◌≡◌, ◌≤◌, rules, ◌∙◌}
use Rattle.std.proofs.lemmas.Result.{IfOk-weaker}
use Rattle.season_book.specs.LeagueViews.{name_of}
use Rattle.season_views.specs.Entries.{OfEachNames}
use Rattle.season_views.proofs.Histories.{name_in_books}
use Rattle.season_views.proofs.names.name_of.Goals as goal

pub returns : goal.returns
returns g c =
    let one : 1 ≤ c.args.entry = search rules in
    IfOk-weaker c.copy.result (λ name. name ≡ c.in-Some.name.now) (λ name. OfEachNames c.args.seen.now.managers (λ entries. name ≡ name_of entries c.args.entry))
    (λ name same players entries are. same ∙ name_in_books c.args.seen.now.managers c.args.entry c.in-Some.name.now one c.in-Some.ensures players entries are) c.copy.ensures
