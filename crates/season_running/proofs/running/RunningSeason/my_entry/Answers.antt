use Rattle.std.proofs.Common.{◌≡◌, ◌≤◌, ◌<◌, ◌∙◌, Some, ap, arith, length, refl, subst, sym}
use Rattle.rule_book.specs.Entries.{entry_in}
use Rattle.rule_book.specs.PlayerFigures.{position_in}
use Rattle.rule_book.specs.Players.{ArePlayers}
use Rattle.season_ledger.specs.Stands.{StandsFor}
use Rattle.manager_book.specs.Managers.{season_of}
use Rattle.season_book.specs.Book.{caller_number}
use Rattle.season_book.specs.EntryViews.{gameweek_seen}
use Rattle.season_book.specs.Verdict.{my_answer}
use Rattle.fpl_base.specs.declared.rule.Rule.TheVariants as rule
use Rattle.season_book.specs.declared.answer.Answer.{Answer}
use Rattle.season_book.specs.declared.answer.Answer.TheVariants as answer
use Rattle.season_book.specs.declared.shown.Shown.TheVariants as shown
use Rattle.season_entries.proofs.Placing.{have_positions}
use Rattle.season_entries.proofs.Times.{in_time_at}
use Rattle.season_views.specs.Seen.{SeenSeason}
use Rattle.season_running.proofs.RuledFacts.{me_seen, me_unseen}
use Rattle.season_running.proofs.SeenFacts.{entries_seen}
use Rattle.season_running.proofs.running.RunningSeason.my_entry.Goals as goal

pub my_entry-requires : goal.my_entry-requires
my_entry-requires g c =
    let s = c.seen-seen.result.0 in
    let seen = gameweek_seen s.facts.calendar in
    record {
      profile = c.seen-seen.ensures.kept.profile;
      kept = (s.leagues, s.cups, c.seen-seen.ensures.kept.kept);
      later = in_time_at (Some seen) (Some seen) s.managers c.in-Entry.entry refl c.seen-seen.ensures.early;
    }

pub returns-then-get-entries-clause-seen : goal.returns-then-get-entries-clause-seen
returns-then-get-entries-clause-seen g c = λ book plays is_last.
    let facts = c.args.self.now.facts in
    let s = c.seen-seen.result.0 in
    let are = entries_seen c.args.self.now book s c.seen-seen.ensures.seen plays in
    let past : length s.managers.managers < c.in-Entry.entry = omega (arith, c.get.ensures.value, c.entries.ensures, c.if-get-entries.true) in
    let none = (c.entries_are_issued.ensures s.facts.players s.managers.managers book.entries c.in-Entry.entry are).none past in
    sym (ap (λ n. my_answer book facts c.args.caller.now (entry_in book.entries n)) (ap caller_number c.in-Entry.is) ∙ ap (my_answer book facts c.args.caller.now) none)

pub returns-in-Some-clause-seen : goal.returns-in-Some-clause-seen
returns-in-Some-clause-seen g c = λ book plays is_last.
    let s = c.seen-seen.result.0 in
    let e = c.in-Entry.entry in
    let one : 1 ≤ e = subst (λ n. 1 ≤ n) c.get.ensures.value c.get.ensures.range in
    let few : e ≤ length s.managers.managers = omega (arith, c.get.ensures.value, c.entries.ensures, c.if-get-entries.false) in
    let there = (c.entries_are_issued.ensures s.facts.players s.managers.managers book.entries e (entries_seen c.args.self.now book s c.seen-seen.ensures.seen plays)).there one few in
    let stands : StandsFor (position_in s.facts.players) (season_of s.managers e) there.0.history =
    there.2.history (position_in s.facts.players) (have_positions s.facts.players (subst ArePlayers c.players.ensures c.len-count.ensures.lawful)) in
    let seen : Answer = answer.Shown (shown.Me c.in-Some.shown) in
    subst (λ (s : SeenSeason). seen ≡ my_answer book s.facts c.args.caller.now (entry_in book.entries (caller_number c.args.caller.now))) c.seen-seen.ensures.seen
    (me_seen book s.facts c.args.caller.now e c.args.last there.0 there.1 (ap caller_number c.in-Entry.is) is_last c.in-Some.shown
    (sym (c.my_entry.ensures.value there.0.history stands) ∙ c.in-Some.is))

pub returns-in-None-clause-seen : goal.returns-in-None-clause-seen
returns-in-None-clause-seen g c = λ book plays is_last.
    let s = c.seen-seen.result.0 in
    let e = c.in-Entry.entry in
    let one : 1 ≤ e = subst (λ n. 1 ≤ n) c.get.ensures.value c.get.ensures.range in
    let few : e ≤ length s.managers.managers = omega (arith, c.get.ensures.value, c.entries.ensures, c.if-get-entries.false) in
    let there = (c.entries_are_issued.ensures s.facts.players s.managers.managers book.entries e (entries_seen c.args.self.now book s c.seen-seen.ensures.seen plays)).there one few in
    let stands : StandsFor (position_in s.facts.players) (season_of s.managers e) there.0.history =
    there.2.history (position_in s.facts.players) (have_positions s.facts.players (subst ArePlayers c.players.ensures c.len-count.ensures.lawful)) in
    let seen : Answer = answer.Rule rule.NotRegistered in
    subst (λ (s : SeenSeason). seen ≡ my_answer book s.facts c.args.caller.now (entry_in book.entries (caller_number c.args.caller.now))) c.seen-seen.ensures.seen
    (me_unseen book s.facts c.args.caller.now e c.args.last there.0 there.1 (ap caller_number c.in-Entry.is) is_last
    (sym (c.my_entry.ensures.value there.0.history stands) ∙ c.in-None.is))
