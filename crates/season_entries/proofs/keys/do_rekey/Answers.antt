use Rattle.std.proofs.Common.{◌≡◌, ℕ, List, IfSome, sym, subst, rules}
use Rattle.manager_book.specs.Managers.{entry_with, rekeyed}
use Rattle.manager_book.specs.declared.manager.Manager.{Manager}
use Rattle.season_entries.specs.Deeds.{AreInTime}
use Rattle.season_entries.specs.Keys.{StandForBooksRekeyed}
use Rattle.season_entries.proofs.Keyed.{books_rekeyed, in_time_rekeyed}
use Rattle.season_entries.proofs.keys.do_rekey.Goals as goal

pub rekey-requires-clause-free : goal.rekey-requires-clause-free
rekey-requires-clause-free c =
    let entry : c.unwrap-entry.result ≡ c.args.number = search rules in
    let bytes : c.in_ok-key.key ≡ c.args.key.now = search rules in
    subst (λ (e : ℕ). IfSome (entry_with c.args.managers.now c.in_ok-key.key) (λ owner. owner ≡ e)) (sym entry)
    (subst (λ (key : List ℕ). IfSome (entry_with c.args.managers.now key) (λ owner. owner ≡ c.args.number)) (sym bytes) c.requires.granted.free)

pub returns-in-Ok-clause-books : goal.returns-in-Ok-clause-books
returns-in-Ok-clause-books c =
    let same : c.rekey.new.self.managers ≡ rekeyed c.args.managers.now.managers c.args.number c.args.key.now c.args.name.now = search rules in
    subst (λ (new : List Manager). StandForBooksRekeyed c.args.number c.args.key.now c.args.name.now c.args.managers.now.managers new) (sym same)
    (books_rekeyed c.args.number c.args.key.now c.args.name.now c.args.managers.now.managers)

pub returns-in-Ok-clause-later : goal.returns-in-Ok-clause-later
returns-in-Ok-clause-later c next stay =
    let same : c.rekey.new.self.managers ≡ rekeyed c.args.managers.now.managers c.args.number c.args.key.now c.args.name.now = search rules in
    subst (λ (new : List Manager). AreInTime next new) (sym same) (in_time_rekeyed next c.args.number c.args.key.now c.args.name.now c.args.managers.now.managers stay)
