-- What refuses a command on leagues, and what nothing refuses.
use Rattle.std.proofs.Common.{◌≡◌, ℕ, Bool, true, false, ◌&&◌, List, [], ◌∷◌, Option, Some, None, if◌then◌else◌, refl, sym, ap, ◌∙◌, subst}
use Rattle.std.specs.Prelude.{Result, Ok, Err, OnOk, is_some}
use Rattle.std.specs.List.{list_all}
use Rattle.std.specs.Option.{option_and_then, option_map}
use Rattle.std.proofs.lemmas.Bool.{false≢true}
use Rattle.std.proofs.lemmas.Option.{none-some}
use Rattle.fpl_base.specs.declared.rule.Rule.{Rule}
use Rattle.fpl_base.specs.declared.rule.Rule.TheVariants as rule
use Rattle.rule_book.specs.Entries.{entry_in}
use Rattle.rule_book.specs.LeagueCalls.{create_refusal, draw_refusal, join_refusal}
use Rattle.rule_book.specs.Leagues.{LeagueFacts}
use Rattle.rule_book.specs.Refusals.{first_broken, unless}
use Rattle.manager_book.specs.declared.manager.Manager.{Manager}
use Rattle.season_book.specs.Book.{Facts}
use Rattle.season_book.specs.Commands.{has_gameweek}
use Rattle.season_book.specs.LeagueCommands.{league_refusal, leagues_there}
use Rattle.season_book.specs.declared.answer.Answer.{Answer}
use Rattle.season_book.specs.declared.answer.Answer.TheVariants as answer
use Rattle.season_book.specs.declared.command.Command.{Command}
use Rattle.season_book.specs.declared.command.Command.TheVariants as command
use Rattle.season_entries.specs.Deeds.{IsAnswered}
use Rattle.season_entries.specs.Known.{is_issued_by, is_registered_by}
use Rattle.season_competitions.specs.Leagues.{IsLeagueGranted, league_answer_by}
use Rattle.season_competitions.proofs.KnownFacts.{all_hold}

-- judging

alone : (o : Option Rule) → first_broken (o ∷ []) ≡ o
alone None = refl
alone (Some broken) = refl

behind : (registered : Bool) (o : Option Rule) → registered ≡ true → first_broken (unless registered rule.NotRegistered ∷ o ∷ []) ≡ o
behind true o is = alone o
behind false o is = absurd (false≢true is)

-- a call on an id that is there is answered by its rule
pub answered : {T : Type 0} (there : Bool) (broken due : Option Rule) (result : Result T Answer) → there ≡ true → broken ≡ due
    → IsAnswered (option_map answer.Rule due) result → IsAnswered (if there then option_map answer.Rule broken else Some answer.Unknown) result
answered true broken due result is same told = subst (λ o. IsAnswered (option_map answer.Rule o) result) (sym same) told
answered false broken due result is same told = absurd (false≢true is)

pub created : {T : Type 0} (facts : Facts) (managers : List Manager) (leagues : List LeagueFacts) (e : ℕ) (cmd : Command) (start : ℕ) (result : Result T Answer)
    → leagues_there facts (is_issued_by managers) leagues cmd ≡ has_gameweek facts start
    → league_refusal facts (is_registered_by managers e) leagues e cmd ≡ first_broken (unless (is_registered_by managers e) rule.NotRegistered ∷ create_refusal leagues e start facts.calendar.locked ∷ [])
    → has_gameweek facts start ≡ true → is_registered_by managers e ≡ true
    → IsAnswered (option_map answer.Rule (create_refusal leagues e start facts.calendar.locked)) result
    → IsAnswered (league_answer_by facts managers leagues e cmd) result
created facts managers leagues e cmd start result there refusal has registered told =
    answered (leagues_there facts (is_issued_by managers) leagues cmd) (league_refusal facts (is_registered_by managers e) leagues e cmd) (create_refusal leagues e start facts.calendar.locked) result
    (there ∙ has) (refusal ∙ behind (is_registered_by managers e) (create_refusal leagues e start facts.calendar.locked) registered) told

pub joined : {T : Type 0} (facts : Facts) (managers : List Manager) (leagues : List LeagueFacts) (e l : ℕ) (code : List ℕ) (league : LeagueFacts) (result : Result T Answer)
    → entry_in leagues l ≡ Some league → is_registered_by managers e ≡ true
    → IsAnswered (option_map answer.Rule (join_refusal leagues e league code)) result
    → IsAnswered (league_answer_by facts managers leagues e (command.Join l code)) result
joined facts managers leagues e l code league result at registered told =
    answered (is_some (entry_in leagues l)) (league_refusal facts (is_registered_by managers e) leagues e (command.Join l code)) (join_refusal leagues e league code) result
    (ap is_some at)
    (behind (is_registered_by managers e) (option_and_then (λ x. join_refusal leagues e x code) (entry_in leagues l)) registered ∙ ap (option_and_then (λ x. join_refusal leagues e x code)) at)
    told

both : (a b : Bool) → a ≡ true → b ≡ true → (a && b) ≡ true
both true b is holds = holds
both false b is holds = absurd (false≢true is)

pub drawn : {T : Type 0} (facts : Facts) (managers : List Manager) (leagues : List LeagueFacts) (e l : ℕ) (order : List ℕ) (league : LeagueFacts) (result : Result T Answer)
    → entry_in leagues l ≡ Some league → list_all (is_issued_by managers) order ≡ true
    → IsAnswered (option_map answer.Rule (draw_refusal league order facts.calendar.locked)) result
    → IsAnswered (league_answer_by facts managers leagues e (command.Draw l order)) result
drawn facts managers leagues e l order league result at issued told =
    answered (is_some (entry_in leagues l) && list_all (is_issued_by managers) order) (league_refusal facts (is_registered_by managers e) leagues e (command.Draw l order))
    (draw_refusal league order facts.calendar.locked) result
    (both (is_some (entry_in leagues l)) (list_all (is_issued_by managers) order) (ap is_some at) issued)
    (ap (option_and_then (λ x. draw_refusal x order facts.calendar.locked)) at) told

-- what nothing refuses

record Free (there : Bool) (broken : Option Rule) : Type 0 where
  there_is : there ≡ true
  unbroken : broken ≡ None

free : (there : Bool) (broken : Option Rule) → (if there then option_map answer.Rule broken else Some answer.Unknown) ≡ None → Free there broken
free true None is = record { there_is = refl; unbroken = refl }
free true (Some broken) is = absurd (none-some (answer.Rule broken) (sym is))
free false broken is = absurd (none-some answer.Unknown (sym is))

is_registered_then : (registered : Bool) (o : Option Rule) → first_broken (unless registered rule.NotRegistered ∷ o ∷ []) ≡ None → registered ≡ true
is_registered_then true o is = refl
is_registered_then false o is = absurd (none-some rule.NotRegistered (sym is))

left : (a b : Bool) → (a && b) ≡ true → a ≡ true
left true b is = refl
left false b is = absurd (false≢true is)

module _ (facts : Facts) (managers : List Manager) (leagues : List LeagueFacts) (e : ℕ) where
  abbrev Unrefused : Command → Type 0
  Unrefused cmd = league_answer_by facts managers leagues e cmd ≡ None

  unrefused : (cmd : Command) → Unrefused cmd → IsLeagueGranted facts managers leagues e cmd
  unrefused (command.League kind name code start) none =
      let registered = is_registered_by managers e in
      let own = create_refusal leagues e start facts.calendar.locked in
      let f = free (has_gameweek facts start) (first_broken (unless registered rule.NotRegistered ∷ own ∷ [])) none in
      let is = is_registered_then registered own f.unbroken in
      record { by_entry = is; there = f.there_is; unbroken = alone own ∙ sym (behind registered own is) ∙ f.unbroken }
  unrefused (command.Join l code) none =
      let registered = is_registered_by managers e in
      let own = option_and_then (λ x. join_refusal leagues e x code) (entry_in leagues l) in
      let f = free (is_some (entry_in leagues l)) (first_broken (unless registered rule.NotRegistered ∷ own ∷ [])) none in
      let is = is_registered_then registered own f.unbroken in
      record { by_entry = is; there = f.there_is; unbroken = alone own ∙ sym (behind registered own is) ∙ f.unbroken }
  unrefused (command.Draw l order) none =
      let own = option_and_then (λ x. draw_refusal x order facts.calendar.locked) (entry_in leagues l) in
      let f = free (is_some (entry_in leagues l) && list_all (is_issued_by managers) order) own none in
      record {
        by_entry = tt;
        there = both (is_some (entry_in leagues l)) (list_all (λ number. true) order) (left (is_some (entry_in leagues l)) (list_all (is_issued_by managers) order) f.there_is) (all_hold order);
        unbroken = f.unbroken;
      }
  unrefused (command.Season a b c d) none = absurd (none-some answer.Unknown (sym none))
  unrefused (command.Deadline a b) none = absurd (none-some answer.Unknown (sym none))
  unrefused (command.Player a b c d f) none = absurd (none-some answer.Unknown (sym none))
  unrefused (command.Price a b) none = absurd (none-some answer.Unknown (sym none))
  unrefused (command.Club a b) none = absurd (none-some answer.Unknown (sym none))
  unrefused (command.Gone a b) none = absurd (none-some answer.Unknown (sym none))
  unrefused (command.Fixture a b c d f) none = absurd (none-some answer.Unknown (sym none))
  unrefused (command.Move a b c) none = absurd (none-some answer.Unknown (sym none))
  unrefused (command.AmendFixture a b c) none = absurd (none-some answer.Unknown (sym none))
  unrefused (command.AmendPlayer a b c) none = absurd (none-some answer.Unknown (sym none))
  unrefused (command.Sheet a b c) none = absurd (none-some answer.Unknown (sym none))
  unrefused (command.Line a b c) none = absurd (none-some answer.Unknown (sym none))
  unrefused (command.Drop a b) none = absurd (none-some answer.Unknown (sym none))
  unrefused (command.Finished a b) none = absurd (none-some answer.Unknown (sym none))
  unrefused (command.Key a b) none = absurd (none-some answer.Unknown (sym none))
  unrefused (command.Rekey a b c) none = absurd (none-some answer.Unknown (sym none))
  unrefused (command.Squad a b c) none = absurd (none-some answer.Unknown (sym none))
  unrefused (command.Transfers a) none = absurd (none-some answer.Unknown (sym none))
  unrefused (command.Lineup a b c) none = absurd (none-some answer.Unknown (sym none))
  unrefused (command.Chip a) none = absurd (none-some answer.Unknown (sym none))
  unrefused command.CancelChip none = absurd (none-some answer.Unknown (sym none))
  unrefused (command.Cup a b c) none = absurd (none-some answer.Unknown (sym none))

  pub league_granted : {T : Type 0} (cmd : Command) (result : Result T Answer) → IsAnswered (league_answer_by facts managers leagues e cmd) result → OnOk result (IsLeagueGranted facts managers leagues e cmd)
  league_granted cmd (Ok value) none = unrefused cmd none
  league_granted cmd (Err reply) refused = tt
