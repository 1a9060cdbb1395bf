-- What a running season and last commands tell, taken together.
use Rattle.std.proofs.Common.{◌≡◌, ◌∙◌, ◌<◌, ◌≤◌, ◌-◌, ◌==◌, ℕ, cond, zero, suc, true, false, List, [], ◌∷◌, length, slice_get, Option, Some, None, ap, arith, refl, subst, sym}
use Rattle.std.proofs.lemmas.Bool.{ne_eqb}
use Rattle.std.specs.Option.{option_and_then, option_map}
use Rattle.fpl_base.specs.Keeping.{Map, map_of, no_records}
use Rattle.rule_book.specs.ById.{AreSorted, at_id}
use Rattle.rule_book.specs.Entries.{entry_in}
use Rattle.season_records.specs.declared.slot.Slot.{Slot}
use Rattle.season_records.specs.declared.slot.Slot.TheVariants as slot
use Rattle.season_records.specs.declared.item.Item.{Item}
use Rattle.manager_book.specs.declared.manager.Manager.{Manager}
use Rattle.manager_book.specs.Managers.{Managers}
use Rattle.rule_book.specs.Leagues.{LeagueFacts}
use Rattle.season_book.specs.Book.{Facts, Last}
use Rattle.season_competitions.specs.Leagues.{AreMembers}
use Rattle.season_entries.specs.EntryLaws.{AreEarly}
use Rattle.season_restoring.specs.Restored.{TellsFacts}
use Rattle.season_records.specs.Records.{cup_item, last_item, league_item, made_id, member_told, told_in}
use Rattle.season_records.specs.Told.{AreInOrder, made_by}
use Rattle.stored_records.specs.Stored.{Rows, told}
use Rattle.season_running.specs.Standing.{InStep, Running, host_rows}
use Rattle.record_changes.specs.Ordered.{AreRowsInOrder}
use Rattle.record_changes.specs.RowsTold.{manager_item, team_by, told_by, transfer_by}
use Rattle.season_restoring.specs.Books.{IsRunningInOrder, MayRun, RunningTells}

-- with a running season that tells what the records tell
pub running_tells : (m : Map) (operator : List ℕ) (running : Running) (lasts : List (ℕ × Last)) → RunningTells m running
    → ((c : ℕ) → option_map (last_item c) (at_id lasts c) ≡ told m (slot.Last c))
    → (s : Slot) → told_by (host_rows operator (Some running) lasts) s ≡ told m s
running_tells m operator running lasts tells kept slot.Season = tells.facts.season
running_tells m operator running lasts tells kept (slot.Club c) = tells.facts.clubs c
running_tells m operator running lasts tells kept (slot.Player p) = tells.facts.players p
running_tells m operator running lasts tells kept (slot.Fixture f) = tells.facts.fixtures f
running_tells m operator running lasts tells kept (slot.Line f p) = tells.facts.lines f p
running_tells m operator running lasts tells kept (slot.Entry e) = tells.entries e
running_tells m operator running lasts tells kept (slot.Team e g) = tells.teams e g
running_tells m operator running lasts tells kept (slot.Transfer e g n) = tells.transfers e g n
running_tells m operator running lasts tells kept (slot.League l) = tells.leagues l
running_tells m operator running lasts tells kept (slot.Member l e) = tells.members l e
running_tells m operator running lasts tells kept (slot.Cup c) = tells.cups c
running_tells m operator running lasts tells kept (slot.Last c) = kept c

-- what is in a Some
some_same : {X : Type 0} {x y : X} → Some x ≡ Some y → x ≡ y
some_same e = cc

none_some : {X : Type 0} {Y : Type 0} {x : X} → None ≡ Some x → Y
none_some e = cc

-- the entry of a number among none
entry_none : {X : Type 0} (e : ℕ) → entry_in {X = X} [] e ≡ None
entry_none {X = X} e = elim (e == 0) as (λ b. cond b None (slice_get {X = X} [] (e - 1)) ≡ None) [
  | true ↦ refl
  | false ↦ none_at (e - 1)
]
  where
    none_at : (n : ℕ) → slice_get {X = X} [] n ≡ None
    none_at zero = refl
    none_at (suc n) = refl

-- without one, where there are no records
pub none_tell : (operator : List ℕ) (lasts : List (ℕ × Last))
    → ((c : ℕ) → option_map (last_item c) (at_id lasts c) ≡ told no_records (slot.Last c))
    → (s : Slot) → told_by (host_rows operator None lasts) s ≡ told no_records s
none_tell operator lasts kept slot.Season = refl
none_tell operator lasts kept (slot.Club c) = refl
none_tell operator lasts kept (slot.Player p) = refl
none_tell operator lasts kept (slot.Fixture f) = refl
none_tell operator lasts kept (slot.Line f p) = refl
none_tell operator lasts kept (slot.Entry e) = ap (option_map (manager_item e)) (entry_none e)
none_tell operator lasts kept (slot.Team e g) = ap (option_and_then (team_by e g)) (entry_none e)
none_tell operator lasts kept (slot.Transfer e g n) = ap (option_and_then (transfer_by e g n)) (entry_none e)
none_tell operator lasts kept (slot.League l) = ap (option_map (league_item l)) (entry_none l)
none_tell operator lasts kept (slot.Member l e) = ap (option_and_then (member_told l e)) (entry_none l)
none_tell operator lasts kept (slot.Cup c) = ap (option_map (cup_item c)) (entry_none c)
none_tell operator lasts kept (slot.Last c) = kept c

-- Rows in order.

pub running_order : (operator : List ℕ) (running : Running) (lasts : List (ℕ × Last)) → IsRunningInOrder running → AreSorted lasts
    → ((c : ℕ) (last : Last) → at_id lasts c ≡ Some last → last.made ≡ made_by last.command (made_id last.made))
    → AreRowsInOrder (host_rows operator (Some running) lasts)
running_order operator running lasts order sorted makes = record {
  facts = λ facts is. subst AreInOrder (some_same is) order.facts;
  managers = order.managers;
  members = order.members;
  lasts = sorted;
  makes = makes;
}

pub none_order : (operator : List ℕ) (lasts : List (ℕ × Last)) → AreSorted lasts
    → ((c : ℕ) (last : Last) → at_id lasts c ≡ Some last → last.made ≡ made_by last.command (made_id last.made))
    → AreRowsInOrder (host_rows operator None lasts)
none_order operator lasts sorted makes = record {
  facts = λ facts is. none_some is;
  managers = tt;
  members = λ l league is. none_some (sym (entry_none l) ∙ is);
  lasts = sorted;
  makes = makes;
}

-- Parts that stand together.

-- what is found in a list stands within it
found_within : {X : Type 0} (xs : List X) (i : ℕ) (x : X) → slice_get xs i ≡ Some x → i < length xs
found_within [] zero x is = cc
found_within [] (suc i) x is = cc
found_within (y ∷ xs) zero x is = omega (arith)
found_within (y ∷ xs) (suc i) x is = let less = found_within xs i x is in omega (arith, less)

-- the entry behind so many
entry_at : {X : Type 0} (xs : List X) (i : ℕ) → entry_in xs (suc i) ≡ slice_get xs i
entry_at xs i = ap (λ b. cond b None (slice_get xs (suc i - 1))) (ne_eqb (suc i) 0 (λ e. omega (arith, e))) ∙ ap (slice_get xs) (omega arith)

entry_within : {X : Type 0} (xs : List X) (e : ℕ) (x : X) → entry_in xs e ≡ Some x → e ≤ length xs
entry_within xs zero x is = omega (arith)
entry_within xs (suc e) x is = let less = found_within xs e x (sym (entry_at xs e) ∙ is) in omega (arith, less)

-- an entry that is told is there
entry_there : (m : Map) (managers : List Manager)
    → ((e : ℕ) → option_map (manager_item e) (entry_in managers e) ≡ told m (slot.Entry e))
    → (e : ℕ) (i : Item) → told m (slot.Entry e) ≡ Some i → e ≤ length managers
entry_there m managers tell e i is = there (entry_in managers e) refl (tell e ∙ is)
  where
    there : (found : Option Manager) → entry_in managers e ≡ found → option_map (manager_item e) found ≡ Some i → e ≤ length managers
    there None at none = cc
    there (Some manager) at some = entry_within managers e manager at

-- the parts of a season that records tell are in step
pub in_step : (m : Map) (facts : Facts) (book : Managers) (leagues : List LeagueFacts) → book.profile ≡ facts.profile
    → TellsFacts m facts → ((other : Facts) → told_in other slot.Season ≡ told m slot.Season → AreEarly other book.managers)
    → ((e : ℕ) → option_map (manager_item e) (entry_in book.managers e) ≡ told m (slot.Entry e))
    → ((n : ℕ) → ((e : ℕ) (i : Item) → told m (slot.Entry e) ≡ Some i → e ≤ n) → AreMembers n leagues)
    → InStep facts book leagues
in_step m facts book leagues profile tells early tell members = record {
  profile = profile;
  early = early facts tells.season;
  members = members (length book.managers) (entry_there m book.managers tell);
}

-- A season that may run, with the last commands.

module _ (rows : Rows) (lasts : List (ℕ × Last))
    (kept : (c : ℕ) → option_map (last_item c) (at_id lasts c) ≡ told (map_of rows) (slot.Last c)) where
  pub books_tell : (running : Option Running) → MayRun rows running → (operator : List ℕ) (s : Slot)
      → told_by (host_rows operator running lasts) s ≡ told (map_of rows) s
  books_tell None none operator s =
      let P = λ (r : Rows). ((c : ℕ) → option_map (last_item c) (at_id lasts c) ≡ told (map_of r) (slot.Last c))
      → told_by (host_rows operator None lasts) s ≡ told (map_of r) s in
      subst P (sym none) (λ of_none. none_tell operator lasts of_none s) kept
  books_tell (Some running) runs operator s = running_tells (map_of rows) operator running lasts runs.0 kept s

pub books_order : (rows : Rows) (lasts : List (ℕ × Last)) → AreSorted lasts
    → ((c : ℕ) (last : Last) → at_id lasts c ≡ Some last → last.made ≡ made_by last.command (made_id last.made))
    → (running : Option Running) → MayRun rows running → (operator : List ℕ) → AreRowsInOrder (host_rows operator running lasts)
books_order rows lasts sorted makes None none operator = none_order operator lasts sorted makes
books_order rows lasts sorted makes (Some running) runs operator = running_order operator running lasts runs.1 sorted makes
