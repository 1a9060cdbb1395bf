use Rattle.std.proofs.Common.{◌≡◌, ◌≤◌, ◌<◌, ◌∙◌, ◌-◌, ℕ, zero, suc, List, [], ◌∷◌, None, Option, ap, arith, length, rules, sym}
use Rattle.std.specs.List.{slice_get}
use Rattle.std.specs.Option.{option_map, option_map_or}
use Rattle.std.proofs.lemmas.Option.{none-some}
use Rattle.manager_book.specs.declared.manager.Manager.{Manager}
use Rattle.season_book.specs.Book.{EntryFacts}
use Rattle.season_views.proofs.Histories.{name_in_books}
use Rattle.league_windows.proofs.head_matches.name_of.Goals as goal

-- there is nobody behind the managers
past_all : (ms : List Manager) (k : ℕ) → None ≡ option_map (λ (m : Manager). m.name) (slice_get ms k) → length ms ≤ k
past_all [] k at = omega arith
past_all (m ∷ ms) zero at = absurd (none-some m.name at)
past_all (m ∷ ms) (suc k) at = omega (arith, past_all ms k at)

pub returns-in-Some : goal.returns-in-Some
returns-in-Some g c = λ entries are.
    let seen = c.args.seen.now in
    let one : 1 ≤ c.args.entry = search rules in
    c.text_of.ensures ∙ name_in_books seen.managers c.args.entry c.in-Some.name.now one c.in-Some.ensures seen.facts.players entries are

pub returns-in-None : goal.returns-in-None
returns-in-None g c = λ entries are.
    let seen = c.args.seen.now in
    let e = c.args.entry in
    let one : 1 ≤ e = search rules in
    let few = past_all seen.managers.managers (e - 1) c.in-None.ensures in
    let past : length seen.managers.managers < e = omega (arith, few, one) in
    let none = (c.entries_are_issued.ensures seen.facts.players seen.managers.managers entries e are).none past in
    ap (λ (o : Option EntryFacts). option_map_or (λ (entry : EntryFacts). entry.name) o []) (sym none)
