-- The money of entries in books that a host stands for.
use Rattle.std.proofs.Common.{◌≡◌, ◌≤◌, ◌+◌, ◌-◌, ◌++◌, ◌∷◌, [], ℕ, zero, suc, slice_get, Bool, true, false, not, ◌==◌, if◌then◌else◌, List, Option, Some, None, length, nat_le, nat_lt, arith, refl, sym, ap, subst, ◌∙◌}
use Rattle.std.specs.Prelude.{Ok, Err, IfSome}
use Rattle.std.specs.Option.{option_map, option_map_or}
use Rattle.std.proofs.lemmas.Bool.{false≢true}
use Rattle.std.proofs.lemmas.Bool.Decides.{nat_tests}
use Rattle.std.proofs.lemmas.Option.{none-some}
use Rattle.fpl_base.specs.declared.kinds.Caller.{Caller}
use Rattle.fpl_base.specs.declared.kinds.Position.{Position}
use Rattle.fpl_base.specs.declared.rule.Rule.{Rule}
use Rattle.fpl_base.specs.declared.rule.Rule.TheVariants as rule
use Rattle.rule_book.specs.declared.team.Team.{Team}
use Rattle.rule_book.specs.declared.transfers.Sale.{Sale}
use Rattle.rule_book.specs.declared.transfers.Swap.{Swap}
use Rattle.rule_book.specs.Batch.{HavePositions, IsTeamAfter, batch_refusal, earned_by, is_held, first_held, first_full_club, first_gone, first_moved, first_not_held, paid_by, picks_after, shortage}
use Rattle.rule_book.specs.Calendar.{next_gameweek}
use Rattle.rule_book.specs.Entries.{entry_in}
use Rattle.rule_book.specs.EntryCalls.{in_next, of_team, starts_in, transfer_limit}
use Rattle.rule_book.specs.History.{Event, chip_at, in_gameweek, kept}
use Rattle.rule_book.specs.HistorySquad.{earned, holdings_of, spent}
use Rattle.rule_book.specs.HistoryRules.{NoneAfter, is_started}
use Rattle.rule_book.specs.HistoryTeam.{Balances, IsTeam, TeamBalances, TeamTold, holdings, is_begun}
use Rattle.rule_book.specs.HistoryTransfers.{swaps_in}
use Rattle.rule_book.specs.PlayerFigures.{position_in}
use Rattle.rule_book.specs.Refusals.{first_broken, unless}
use Rattle.rule_book.specs.TeamOfHistory.{CanPay, told_team}
use Rattle.rule_book.proofs.TeamFacts.{team_is_the_one}
use Rattle.player_market.proofs.BatchLaws.{Distinct, distinct_from_none, one_by_one, placed_after}
use Rattle.season_ledger.specs.Batches.{AfterBatch}
use Rattle.season_ledger.specs.Rows.{AllUpTo, standing_at, team_in}
use Rattle.season_ledger.specs.Stands.{IsPlaced, StandsFor}
use Rattle.season_ledger.specs.declared.row.Row.{Row}
use Rattle.season_ledger.specs.declared.row.Standing.{Standing}
use Rattle.season_ledger.proofs.Carry.{standing_told}
use Rattle.season_ledger.proofs.Held.{IsHeld, StandingHeld}
use Rattle.season_ledger.proofs.Placed.{stands, up}
use Rattle.season_ledger.proofs.Season.{balances_for, rows_tell, standing_for}
use Rattle.season_ledger.proofs.Steps.{none_after, team_after_batch}
use Rattle.manager_book.specs.declared.manager.Manager.{Manager}
use Rattle.manager_book.specs.Managers.{Managers, season_of}
use Rattle.manager_book.proofs.Batched.{all_placed, batch_on, placed_all}
use Rattle.manager_book.proofs.Lined.{placed_of}
use Rattle.season_book.specs.Book.{Book, EntryFacts, Facts, caller_number, histories_with}
use Rattle.season_book.specs.EntryCommands.{deed_refusal, deeds_in, history_after, names_players, refused_in}
use Rattle.season_book.specs.EntryViews.{team_by}
use Rattle.season_book.specs.Verdict.{Outcome, in_season, locked_at, ruled, ruled_of, unless_broken, with_history}
use Rattle.season_book.specs.declared.answer.Answer.TheVariants as answer
use Rattle.season_book.specs.declared.command.Command.TheVariants as command
use Rattle.season_book.specs.declared.made.Made.TheVariants as made
use Rattle.season_entries.specs.Entries.{AreEntries}
use Rattle.season_entries.proofs.Books.{entry_of, slice_there}
use Rattle.season_entries.proofs.Placing.{have_positions}
use Rattle.season_entries.proofs.Stay.{early_in_time, moments_leave_entries}
use Rattle.season_entries.proofs.Times.{in_time_at}
use Rattle.season_running.specs.EntryLaws.{BatchesMoveMoney, IsEntryOf, IsOrderly, IsPaid, MomentsKeepEntries, MoneyIsRecorded, MovesBySales, RowsTellHistories, history_with, sales_by}
use Rattle.season_running.specs.Standing.{HostRows, players_in}

-- The rows of an entry.

abbrev places : Facts → ℕ → Position
places facts = position_in facts.players

abbrev managers_of : Facts → List Manager → Managers
managers_of facts managers = record { profile = facts.profile; managers = managers }

module _ (host : HostRows) (book : Book) (facts : Facts) (e : ℕ) (entry : EntryFacts) (is : IsEntryOf host book facts e entry) where
  abbrev rows : List Row
  rows = season_of (managers_of facts host.managers) e

  orderly : IsOrderly facts host.managers
  orderly = subst (λ o. IfSome o (λ f. IsOrderly f host.managers)) is.season is.orderly

  rows_stand : StandsFor (places facts) rows entry.history
  rows_stand =
      let are : AreEntries facts.players host.managers book.entries = subst (λ o. AreEntries (players_in o) host.managers book.entries) is.season is.stands.entries in
      (entry_of facts.players (managers_of facts host.managers) book.entries e entry are is.there).history (places facts) (have_positions facts.players orderly.players)

  rows_up_to : (g : ℕ) → next_gameweek facts.calendar ≡ Some g → AllUpTo g rows
  rows_up_to g next = in_time_at (next_gameweek facts.calendar) (Some g) (managers_of facts host.managers) e (sym next) (early_in_time facts host.managers orderly.early)

pub moments_keep : MomentsKeepEntries
moments_keep host book facts e entry now is =
    let order : IsOrderly facts host.managers = orderly host book facts e entry is in
    let season : option_map (locked_at now) host.facts ≡ Some (locked_at now facts) = ap (option_map (locked_at now)) is.season in
    let are : AreEntries facts.players host.managers book.entries = subst (λ o. AreEntries (players_in o) host.managers book.entries) is.season is.stands.entries in
    record {
      orderly = subst (λ o. IfSome o (λ f. IsOrderly f host.managers)) (sym season) (record {
        players = order.players;
        early = moments_leave_entries facts now host.managers order.early;
      });
      stands = record {
        facts = ap (option_map (locked_at now)) is.stands.facts;
        entries = subst (λ o. AreEntries (players_in o) host.managers book.entries) (sym season) are;
        leagues = is.stands.leagues;
        cups = is.stands.cups;
        lasts = is.stands.lasts;
      };
      season = season;
      there = is.there;
    }

-- The team that stands.

module _ (facts : Facts) (rows : List Row) (h : List Event) (g : ℕ) (st : StandsFor (places facts) rows h) (begun : is_begun h g ≡ true) where
  paid : IsPaid facts h g
  paid = by_team (team_in (standing_at rows g)) (standing_for (places facts) rows h g st) (balances_for (places facts) rows h g st)
    where
      by_team : (o : Option Team) → TeamTold (places facts) h g o → TeamBalances h g o → IsPaid facts h g
      by_team None told balances = absurd (false≢true (sym told ∙ begun))
      by_team (Some t) told balances =
          let one = (team_is_the_one (places facts) h g t).0 told.1 in
          record { pays = one.0; balances = subst (Balances h g) one.1 balances }

  standing_held : (s : Standing) × IsHeld h g s × (s.team ≡ team_by facts h g)
  standing_held =
      let s = stands (places facts) rows h st in
      by_standing (standing_at rows g) (standing_told rows h g st.rise s.history s.held) (standing_for (places facts) rows h g st)
    where
      by_standing : (o : Option Standing) → StandingHeld h g o → TeamTold (places facts) h g (team_in o) → (s : Standing) × IsHeld h g s × (s.team ≡ team_by facts h g)
      by_standing None held told = absurd (false≢true (sym held ∙ begun))
      by_standing (Some s) held told = (s, held.1, ((team_is_the_one (places facts) h g s.team).0 told.1).1)

pub rows_tell_all : RowsTellHistories
rows_tell_all host book facts e entry is = rows_tell (places facts) (rows host book facts e entry is) entry.history (rows_stand host book facts e entry is)

pub money_recorded : MoneyIsRecorded
money_recorded host book facts e entry g is begun = paid facts (rows host book facts e entry is) entry.history g (rows_stand host book facts e entry is) begun

-- A batch that nothing refuses.

-- what no rule breaks
none_of_three : (a b c : Option Rule) → first_broken (a ∷ b ∷ c ∷ []) ≡ None → (a ≡ None) × (c ≡ None)
none_of_three (Some r) b c none = absurd (none-some r (sym none))
none_of_three None (Some r) c none = absurd (none-some r (sym none))
none_of_three None None (Some r) none = absurd (none-some r (sym none))
none_of_three None None None none = (refl, refl)

record Fits (a b d f : Option ℕ) : Type 0 where
  outs : a ≡ None
  intos : b ≡ None
  positions : d ≡ None
  money : f ≡ None

none_of_six : (a b c d e f : Option ℕ)
    → first_broken (option_map rule.NotHeld a ∷ option_map rule.Held b ∷ option_map rule.PlayerGone c ∷ option_map rule.PositionSwap d ∷ option_map rule.ClubLimit e ∷ option_map rule.OverBudget f ∷ []) ≡ None
    → Fits a b d f
none_of_six (Some n) b c d e f none = absurd (none-some (rule.NotHeld n) (sym none))
none_of_six None (Some n) c d e f none = absurd (none-some (rule.Held n) (sym none))
none_of_six None None (Some n) d e f none = absurd (none-some (rule.PlayerGone n) (sym none))
none_of_six None None None (Some n) e f none = absurd (none-some (rule.PositionSwap n) (sym none))
none_of_six None None None None (Some n) f none = absurd (none-some (rule.ClubLimit n) (sym none))
none_of_six None None None None None (Some n) none = absurd (none-some (rule.OverBudget n) (sym none))
none_of_six None None None None None None none = record { outs = refl; intos = refl; positions = refl; money = refl }

enough : (bank : ℕ) (sales : List Sale) → shortage bank sales ≡ None → paid_by sales ≤ bank + earned_by sales
enough bank sales none = by_test (nat_lt (bank + earned_by sales) (paid_by sales)) refl none
  where
    by_test : (b : Bool) → nat_lt (bank + earned_by sales) (paid_by sales) ≡ b → (if b then Some (paid_by sales - (bank + earned_by sales)) else None) ≡ None → paid_by sales ≤ bank + earned_by sales
    by_test true is none = absurd (none-some (paid_by sales - (bank + earned_by sales)) (sym none))
    by_test false is none = grind (arith, nat_tests)

-- the team behind it
record Moved (facts : Facts) (h : List Event) (g : ℕ) (swaps : List Swap) : Type 0 where
  pays : CanPay (history_with facts h g swaps) g
  team : IsTeamAfter (sales_by facts h g swaps) (team_by facts h g) (team_by facts (history_with facts h g swaps) g)

module _ (facts : Facts) (have : HavePositions (places facts) facts.players) (h : List Event) (g : ℕ) (swaps : List Swap)
    (s : Standing) (held : IsHeld h g s) (is : s.team ≡ team_by facts h g) (begun : is_begun h g ≡ true) (paid : CanPay h g)
    (fits : Fits (first_not_held (team_by facts h g).picks swaps) (first_held (team_by facts h g).picks swaps)
    (first_moved facts.players (team_by facts h g).picks swaps) (shortage (team_by facts h g).bank (sales_by facts h g swaps))) where
  abbrev before : Team
  before = team_by facts h g

  abbrev sales : List Sale
  sales = sales_by facts h g swaps

  abbrev after : Team
  after = record {
    picks = picks_after sales before.picks;
    captain = before.captain;
    vice = before.vice;
    bank = (before.bank + earned_by sales) - paid_by sales;
    chip = before.chip;
  }

  abbrev stood : Standing
  stood = record { made = s.made; team = before }

  abbrev stands_then : Standing
  stands_then = record { made = s.made + length sales; team = after }

  stood_held : IsHeld h g stood
  stood_held = record {
    squad = subst (λ (t : Team). holdings t.picks ≡ holdings_of (kept h g)) is held.squad;
    captain = sym (ap (λ (t : Team). t.captain) is) ∙ held.captain;
    vice = sym (ap (λ (t : Team). t.vice) is) ∙ held.vice;
    bank = subst (λ (t : Team). t.bank + spent (kept h g) ≡ 1000 + earned (kept h g)) is held.bank;
    chip = sym (ap (λ (t : Team). t.chip) is) ∙ held.chip;
    made = held.made;
  }

  outs : Distinct (λ s. s.out) (λ id. not (is_held before.picks id)) swaps
  outs = distinct_from_none (λ s. s.out) (λ id. not (is_held before.picks id)) [] swaps fits.outs

  intos : Distinct (λ s. s.into) (is_held before.picks) swaps
  intos = distinct_from_none (λ s. s.into) (is_held before.picks) [] swaps fits.intos

  is_after : IsTeamAfter sales before after
  is_after = let most : paid_by sales ≤ before.bank + earned_by sales = enough before.bank sales fits.money in
      record { picks = refl; captain = refl; vice = refl; bank = omega (arith, most); chip = refl }

  goes : AfterBatch sales before after
  goes = batch_on (Some stood) stood after sales refl is_after (one_by_one facts.players before.picks before.picks swaps outs intos)

  placed : IsPlaced (places facts) after.picks
  placed =
      let told : TeamTold (places facts) h g (Some before) = (begun, (team_is_the_one (places facts) h g before).1 (paid, refl)) in
      all_placed (places facts) after.picks
      (placed_after (places facts) facts.players have before.picks (placed_all (places facts) before.picks (placed_of (places facts) h g (Some stood) stood refl told)) swaps fits.positions outs)

  moved : Moved facts h g swaps
  moved =
      let team : IsTeam (places facts) (history_with facts h g swaps) g after = up (places facts) (history_with facts h g swaps) g stands_then (team_after_batch h g sales stood stands_then stood_held goes refl) placed in
      let one = (team_is_the_one (places facts) (history_with facts h g swaps) g after).0 team in
      record { pays = one.0; team = subst (IsTeamAfter sales before) one.1 is_after }

-- How it was ruled.

begun_from : (h : List Event) (g : ℕ) → is_started h ≡ true → NoneAfter g h → is_begun h g ≡ true
begun_from [] g started none = started
begun_from (e ∷ h) g started none = let first : e.gw ≤ g = none.0 in grind (arith, nat_tests)

holds : (b : Bool) (broken : Rule) → unless b broken ≡ None → b ≡ true
holds true broken none = refl
holds false broken none = absurd (none-some broken (sym none))

-- what was ruled well broke no rule, and led to this
well_ruled : (names : Bool) (broken : Option Rule) (due outcome : Outcome) → (if names then unless_broken broken due else Err answer.Unknown) ≡ Ok outcome → (broken ≡ None) × (outcome ≡ due)
well_ruled true None due outcome is = (refl, same)
  where
    same : outcome ≡ due
    same = cc
well_ruled true (Some broken) due outcome is = cc
well_ruled false broken due outcome is = cc

-- the entry with its history behind
with_it : (entries : List EntryFacts) (place : ℕ) (entry : EntryFacts) (h : List Event) → slice_get entries place ≡ Some entry
    → slice_get (histories_with entries (suc place) h) place ≡ Some (record entry { history = h })
with_it [] place entry h is = cc
with_it (x ∷ entries) zero entry h is = ap (λ o. option_map (λ (y : EntryFacts). record y { history = h }) o) is
with_it (x ∷ entries) (suc place) entry h is = with_it entries place entry h is

entry_behind : (entries : List EntryFacts) (e : ℕ) (entry : EntryFacts) (h : List Event) → entry_in entries e ≡ Some entry → entry_in (histories_with entries e h) e ≡ Some (record entry { history = h })
entry_behind entries e entry h is = by_number (e == 0) refl
  where
    by_number : (b : Bool) → (e == 0) ≡ b → entry_in (histories_with entries e h) e ≡ Some (record entry { history = h })
    by_number true zero_is = absurd (none-some entry (sym (ap (λ b. if b then None else slice_get entries (e - 1)) zero_is) ∙ is))
    by_number false some =
        let at : suc (e - 1) ≡ e = grind (arith, nat_tests) in
        ap (λ b. if b then None else slice_get (histories_with entries e h) (e - 1)) some
        ∙ ap (λ n. slice_get (histories_with entries n h) (e - 1)) (sym at)
        ∙ with_it entries (e - 1) entry h (slice_there entries e entry is)

module _ (operator : List ℕ) (host : HostRows) (book : Book) (facts : Facts) (entry : EntryFacts) (caller : Caller) (now g : ℕ) (swaps : List Swap) (outcome : Outcome)
    (is : IsEntryOf host book facts (caller_number caller) entry) (next : next_gameweek facts.calendar ≡ Some g)
    (well : ruled operator book caller now (command.Transfers swaps) ≡ Ok outcome) where
  abbrev number : ℕ
  number = caller_number caller

  abbrev past : List Event
  past = entry.history

  abbrev rows_before : List Row
  rows_before = rows host book facts number entry is

  stand : StandsFor (places facts) rows_before past
  stand = rows_stand host book facts number entry is

  abbrev due : Outcome
  due = record { made = made.Nothing; book = with_history book number (history_after facts past (command.Transfers swaps)) }

  ruled_well : (deed_refusal facts past (command.Transfers swaps) ≡ None) × (outcome ≡ due)
  ruled_well = well_ruled (names_players facts (command.Transfers swaps)) (deed_refusal facts past (command.Transfers swaps)) due outcome
      (sym (ap (λ o. in_season o (λ f. ruled_of book f number (command.Transfers swaps) (entry_in book.entries number))) (is.stands.facts ∙ is.season)
      ∙ ap (ruled_of book facts number (command.Transfers swaps)) is.there) ∙ well)

  unbroken : (is_started past ≡ true) × (of_team (λ t. batch_refusal facts.players t swaps) (told_team (places facts) past g) ≡ None)
  unbroken =
      let registered = unless (is_started past) rule.NotRegistered in
      let limited = unless (nat_le (swaps_in past g + length swaps) (transfer_limit (starts_in past g) (chip_at past g))) rule.TransferLimit in
      let batch = of_team (λ t. batch_refusal facts.players t swaps) (told_team (places facts) past g) in
      let three = none_of_three registered limited batch (sym (ap (λ o. in_next o (refused_in facts past (command.Transfers swaps))) next) ∙ ruled_well.0) in
      (holds (is_started past) rule.NotRegistered three.0, three.1)

  has_begun : is_begun past g ≡ true
  has_begun = begun_from past g unbroken.0 (none_after rows_before past g (stands (places facts) rows_before past stand).held (rows_up_to host book facts number entry is g next))

  moves : Moved facts past g swaps
  moves =
      let there = standing_held facts rows_before past g stand has_begun in
      let unrefused : batch_refusal facts.players (team_by facts past g) swaps ≡ None =
      sym (ap (λ b. of_team (λ t. batch_refusal facts.players t swaps) (if b then Some (team_by facts past g) else None)) has_begun) ∙ unbroken.1 in
      let team = team_by facts past g in
      moved facts (have_positions facts.players (orderly host book facts number entry is).players) past g swaps there.0 there.1 there.2 has_begun
      (paid facts rows_before past g stand has_begun).pays
      (none_of_six (first_not_held team.picks swaps) (first_held team.picks swaps) (first_gone facts.players swaps) (first_moved facts.players team.picks swaps)
      (first_full_club facts.players (picks_after (sales_by facts past g swaps) team.picks) swaps) (shortage team.bank (sales_by facts past g swaps)) unrefused)

  behind : history_after facts past (command.Transfers swaps) ≡ history_with facts past g swaps
  behind = ap (λ (o : Option ℕ). past ++ option_map_or (λ w. in_gameweek w (deeds_in facts past (command.Transfers swaps) w)) o []) next

  book_behind : outcome.book ≡ with_history book number (history_with facts past g swaps)
  book_behind = ap (λ o. o.book) ruled_well.1 ∙ ap (with_history book number) behind

  by_sales : MovesBySales facts number entry g swaps book outcome.book
  by_sales = record {
    book = book_behind;
    there = ap (λ (b : Book). entry_in b.entries number) book_behind ∙ entry_behind book.entries number entry (history_with facts past g swaps) is.there;
    pays = moves.pays;
    team = moves.team;
  }

pub batches_move : BatchesMoveMoney
batches_move operator host book facts entry caller now g swaps outcome is next well = by_sales operator host book facts entry caller now g swaps outcome is next well
