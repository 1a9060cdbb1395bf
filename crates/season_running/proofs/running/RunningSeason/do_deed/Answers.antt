use Rattle.std.proofs.Common.{◌≡◌, ◌≤◌, ◌∙◌, ℕ, List, ap, arith, length, refl, subst, sym}
use Rattle.season_book.specs.Book.{caller_number}
use Rattle.season_book.specs.declared.command.Command.{Command}
use Rattle.manager_book.specs.declared.deed.JudgedDeed.{JudgedDeed}
use Rattle.manager_book.specs.Managers.{manager_in}
use Rattle.season_entries.specs.Deeds.{IsDeedJudged}
use Rattle.season_running.specs.Accepting.{IsDone}
use Rattle.season_running.specs.Changed.{IsChangedBy}
use Rattle.season_running.specs.Standing.{Running}
use Rattle.season_running.proofs.ChangedFacts.{deed_changed}
use Rattle.season_running.proofs.RuledFacts.{deed_done, on_ok}
use Rattle.season_running.proofs.StepFacts.{as_many}
use Rattle.season_running.proofs.running.RunningSeason.do_deed.Goals as goal

-- judged by the rows of the caller's entry
here : (kept seen : Running) (number e : ℕ) (command : Command) (deed : JudgedDeed) → kept ≡ seen → number ≡ e
    → IsDeedJudged seen.facts (manager_in seen.managers number).season command deed → IsDeedJudged kept.facts (manager_in kept.managers e).season command deed
here kept seen number e command deed same is judged =
    subst (λ n. IsDeedJudged kept.facts (manager_in kept.managers n).season command deed) is
    (subst (λ (r : Running). IsDeedJudged r.facts (manager_in r.managers number).season command deed) (sym same) judged)

pub do_deed-requires-clause-judged : goal.do_deed-requires-clause-judged
do_deed-requires-clause-judged c = (c.requires.judged.0, here (record { facts = c.self.inside.season; managers = c.self.inside.managers.managers; leagues = c.self.inside.leagues; cups = c.self.inside.cups }) c.args.self.now (caller_number c.args.caller.now) c.in-Entry.entry c.requires.judged.0 c.args.deed.now c.self.view_is (ap caller_number c.in-Entry.is) c.requires.judged.1)

pub returns-in-Entry-clause-done : goal.returns-in-Entry-clause-done
returns-in-Entry-clause-done c = λ now command is judged.
    let before : Running = record { facts = c.self.inside.season; managers = c.self.inside.managers.managers; leagues = c.self.inside.leagues; cups = c.self.inside.cups } in
    let after : Running = record { facts = c.self.inside.season; managers = c.do_deed.new.managers.managers; leagues = c.self.inside.leagues; cups = c.self.inside.cups } in
    let number = ap caller_number c.in-Entry.is in
    let one : 1 ≤ c.in-Entry.entry = subst (λ n. 1 ≤ n) number c.requires.first in
    let few : c.in-Entry.entry ≤ length before.managers =
    subst (λ (r : Running). c.in-Entry.entry ≤ length r.managers) (sym c.self.view_is) (subst (λ n. n ≤ length c.args.self.now.managers) number c.requires.issued) in
    on_ok c.do_deed.result (c.do_deed.ensures.books command (here (record { facts = c.self.inside.season; managers = c.self.inside.managers.managers; leagues = c.self.inside.leagues; cups = c.self.inside.cups }) c.args.self.now (caller_number c.args.caller.now) c.in-Entry.entry command c.args.deed.now c.self.view_is (ap caller_number c.in-Entry.is) judged)) (λ stand. subst (λ (r : Running). IsDone c.args.caller.now now command r after) c.self.view_is
    (λ operator book plays ok. deed_done operator book c.args.caller.now now command before plays after c.entries_are_issued.ensures c.in-Entry.entry
    is number one few refl refl refl stand ok))

pub returns-in-Entry-clause-changed : goal.returns-in-Entry-clause-changed
returns-in-Entry-clause-changed c = λ command is.
    let facts = c.self.inside.season in
    let after : Running = record { facts = facts; managers = c.do_deed.new.managers.managers; leagues = c.self.inside.leagues; cups = c.self.inside.cups } in
    on_ok c.do_deed.result (c.do_deed.ensures.books c.requires.judged.0 (here (record { facts = c.self.inside.season; managers = c.self.inside.managers.managers; leagues = c.self.inside.leagues; cups = c.self.inside.cups }) c.args.self.now (caller_number c.args.caller.now) c.in-Entry.entry c.requires.judged.0 c.args.deed.now c.self.view_is (ap caller_number c.in-Entry.is) c.requires.judged.1)) (λ stand. subst (λ (r : Running). IsChangedBy c.args.caller.now command r after) c.self.view_is
    (deed_changed c.args.caller.now command facts c.self.inside.leagues c.self.inside.cups c.self.inside.managers c.do_deed.new.managers c.in-Entry.entry
    is (ap caller_number c.in-Entry.is) c.do_deed.ensures.others c.do_deed.ensures.earlier))

pub invariant_of-self : goal.invariant_of-self
invariant_of-self c =
    let season = c.self.inside.season in
    let old = c.self.inside.managers in
    let new = c.do_deed.new.managers in
    let judged = here (record { facts = c.self.inside.season; managers = c.self.inside.managers.managers; leagues = c.self.inside.leagues; cups = c.self.inside.cups }) c.args.self.now (caller_number c.args.caller.now) c.in-Entry.entry c.requires.judged.0 c.args.deed.now c.self.view_is (ap caller_number c.in-Entry.is) c.requires.judged.1 in
    let many : length new.managers ≡ length old.managers = as_many {Y = List ℕ × List ℕ} (λ m. (m.key, m.name)) old.managers new.managers c.do_deed.ensures.others.keys in
    record {
      profile = c.do_deed.ensures.others.profile ∙ c.self.invariant.profile;
      early = c.early_is_in_time.ensures.early season judged.gameweek new.managers judged.next c.do_deed.ensures.later;
      members = (c.members_stay.ensures season old.managers c.self.inside.leagues).entries (length new.managers) (omega (arith, many)) c.self.invariant.members;
    }
