use Rattle.std.proofs.Common.{◌≡◌, ◌++◌, ◌∷◌, [], List, sym, subst, rules}
use Rattle.manager_book.specs.declared.manager.Manager.{Manager}
use Rattle.season_entries.specs.Deeds.{AreInTime}
use Rattle.season_entries.specs.Keys.{StandForBooksWith, new_manager}
use Rattle.season_entries.proofs.Keyed.{books_with, in_time_with}
use Rattle.season_entries.proofs.keys.do_key.Goals as goal

pub returns-in-Ok-clause-books : goal.returns-in-Ok-clause-books
returns-in-Ok-clause-books c =
    let same : c.issue.new.self.managers ≡ c.args.managers.now.managers ++ new_manager c.args.key.now c.args.name.now ∷ [] = search rules in
    subst (λ (new : List Manager). StandForBooksWith c.args.key.now c.args.name.now c.args.managers.now.managers new) (sym same) (books_with c.args.key.now c.args.name.now c.args.managers.now.managers)

pub returns-in-Ok-clause-later : goal.returns-in-Ok-clause-later
returns-in-Ok-clause-later c next stay =
    let same : c.issue.new.self.managers ≡ c.args.managers.now.managers ++ new_manager c.args.key.now c.args.name.now ∷ [] = search rules in
    subst (λ (new : List Manager). AreInTime next new) (sym same) (in_time_with next c.args.key.now c.args.name.now c.args.managers.now.managers stay)
