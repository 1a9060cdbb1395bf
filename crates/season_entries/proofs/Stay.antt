-- Changes of the facts leave the entries.
use Rattle.std.proofs.Common.{◌≡◌, ◌≢◌, ◌<◌, ◌≤◌, ◌+◌, ◌-◌, ◌++◌, ◌∷◌, [], ℕ, zero, suc, Bool, true, false, cond, List, Option, Some, None, is_some, length, max, min, filter, set, arith, refl, sym, subst, inl, inr, ⊎_elim, nat_eq, nat_lt, nat_le, if◌then◌else◌}
use Rattle.std.specs.List.{All, AllByRecursion as Each}
use Rattle.std.proofs.lemmas.Bool.Decides.{nat_tests}
use Rattle.std.proofs.lemmas.Bool.{cases_eq, cases_lt}
use Rattle.std.proofs.lemmas.List.{length-set}
use Rattle.std.proofs.lemmas.Option.{none-some}
use Rattle.std.proofs.lemmas.List.Elements.{All-head, All-tail}
use Rattle.fpl_base.specs.declared.kinds.Position.{Position}
use Rattle.fpl_base.specs.declared.rule.Rule.TheVariants as rules
use Rattle.rule_book.specs.declared.player.Player.{Player}
use Rattle.rule_book.specs.Batch.{HavePositions}
use Rattle.rule_book.specs.Calendar.{CalendarFacts, passed_deadlines}
use Rattle.rule_book.specs.Players.{most_players, player_of, player_refusal, price_refusal, with_change, with_player}
use Rattle.season_ledger.specs.declared.row.Row.{Row}
use Rattle.season_ledger.specs.Rows.{AllUpTo}
use Rattle.manager_book.specs.declared.manager.Manager.{Manager}
use Rattle.season_book.specs.Book.{EntryFacts}
use Rattle.season_book.specs.declared.command.Command.TheVariants as command
use Rattle.season_book.specs.EntryViews.{gameweek_seen}
use Rattle.season_entries.specs.Deeds.{AreInTime}
use Rattle.season_entries.specs.Entries.{AreEntries}
use Rattle.season_entries.specs.EntryLaws.{EarlyIsInTime, FactsLeaveEntries, InTimeIsEarly, MomentsLeaveEntries}

-- all, in both words
pub all_each : {A : Type 0} (P : A → Type 0) (xs : List A) → All P xs → Each P xs
all_each P [] a = tt
all_each P (x ∷ xs) a = (All-head P x xs a, all_each P xs (All-tail P x xs a))

pub each_all : {A : Type 0} (P : A → Type 0) (xs : List A) → Each P xs → All P xs
each_all P [] a i d l = absurd (omega arith)
each_all P (x ∷ xs) a zero d l = a.0
each_all P (x ∷ xs) a (suc i) d l = each_all P xs a.1 i d (omega (arith, l))

abbrev IsAt : (ℕ → Position) → Player → Type 0
IsAt position p = p.position ≡ position p.id

-- the players were where they are, a new one aside
parts : {A : Type 0} (P : A → Type 0) (xs : List A) (y : A) (ys : List A) → Each P (xs ++ y ∷ ys) → Each P xs × Each P ys
parts P [] y ys a = (tt, a.1)
parts P (x ∷ xs) y ys a = let r = parts P xs y ys a.1 in ((a.0, r.0), r.1)

joined : (P : Player → Type 0) (players : List Player) (id : ℕ) → player_of players id ≡ None → Each P (filter (λ p. nat_lt p.id id) players) → Each P (filter (λ p. nat_lt id p.id) players) → Each P players
joined P [] id none below above = tt
joined P (p ∷ players) id none below above = ⊎_elim
    (λ (q : p.id ≡ id). let t : nat_eq p.id id ≡ true = grind (arith, nat_tests) in let bad : Some p ≡ None = rw t at none in cc)
    (λ (n : p.id ≢ id). let t : nat_eq p.id id ≡ false = grind (arith, nat_tests) in let rest : player_of players id ≡ None = rw t at none in ⊎_elim
    (λ (lt : p.id < id). let u : nat_lt p.id id ≡ true = grind (arith, nat_tests) in let v : nat_lt id p.id ≡ false = grind (arith, nat_tests) in
    let b : Each P (p ∷ filter (λ p. nat_lt p.id id) players) = rw u at below in let a : Each P (filter (λ p. nat_lt id p.id) players) = rw v at above in (b.0, joined P players id rest b.1 a))
    (λ (le : id ≤ p.id). let u : nat_lt p.id id ≡ false = grind (arith, nat_tests) in let v : nat_lt id p.id ≡ true = grind (arith, nat_tests, n) in
    let b : Each P (filter (λ p. nat_lt p.id id) players) = rw u at below in let a : Each P (p ∷ filter (λ p. nat_lt id p.id) players) = rw v at above in (a.0, joined P players id rest b a.1))
    (cases_lt p.id id))
    (cases_eq p.id id)

new_there : (players : List Player) (new : Player) → player_refusal players new ≡ None → player_of players new.id ≡ None
new_there players new e = by_player (player_of players new.id) e
  where
    by_player : (o : Option Player) → (if is_some o then Some (rules.PlayerThere new.id) else (if nat_le most_players (length players) then Some rules.PlayersFull else price_refusal new.price)) ≡ None → o ≡ None
    by_player None e = refl
    by_player (Some p) e = cc

with_new : (position : ℕ → Position) (players : List Player) (new : Player) → player_refusal players new ≡ None → HavePositions position (with_player players new) → HavePositions position players
with_new position players new e have =
    let b = parts (IsAt position) (filter (λ p. nat_lt p.id new.id) players) new (filter (λ p. nat_lt new.id p.id) players) (all_each (IsAt position) (with_player players new) have) in
    each_all (IsAt position) players (joined (IsAt position) players new.id (new_there players new e) b.0 b.1)

-- a change that keeps ids and positions
with_changed : (position : ℕ → Position) (change : Player → Player) (players : List Player) (id : ℕ) → ((p : Player) → IsAt position (change p) → IsAt position p) → HavePositions position (with_change change players id) → HavePositions position players
with_changed position change players id back have = each_all (IsAt position) players (walk players (all_each (IsAt position) (with_change change players id) have))
  where
    one : (p : Player) (b : Bool) → IsAt position (cond b (change p) p) → IsAt position p
    one p true a = back p a
    one p false a = a

    walk : (ps : List Player) → Each (IsAt position) (with_change change ps id) → Each (IsAt position) ps
    walk [] a = tt
    walk (p ∷ ps) a = (one p (nat_eq p.id id) a.0, walk ps a.1)

-- entries stay where positions do
pub entries_stay : (old new : List Player) (managers : List Manager) (entries : List EntryFacts) → ((position : ℕ → Position) → HavePositions position new → HavePositions position old) → AreEntries old managers entries → AreEntries new managers entries
entries_stay old new [] [] back a = tt
entries_stay old new [] (x ∷ entries) back a = absurd a
entries_stay old new (m ∷ managers) [] back a = absurd a
entries_stay old new (m ∷ managers) (x ∷ entries) back a =
    (record { key = a.0.key; name = a.0.name; history = λ position have. a.0.history position (back position have); sales = a.0.sales }, entries_stay old new managers entries back a.1)

-- the next gameweek stays, or a later one comes
rows_stay : (g k : ℕ) (rows : List Row) → g ≤ k → AllUpTo g rows → AllUpTo k rows
rows_stay g k [] le up = tt
rows_stay g k (r ∷ rows) le up = ((omega (arith, le, up.0)), rows_stay g k rows le up.1)

early_stays : (g k : ℕ) (managers : List Manager) → g ≤ k → AreInTime (Some g) managers → AreInTime (Some k) managers
early_stays g k [] le a = tt
early_stays g k (m ∷ managers) le a = (rows_stay g k m.season le a.0, early_stays g k managers le a.1)

later_seen : (locked more gameweeks : ℕ) → min (locked + 1) gameweeks ≤ min (max locked more + 1) gameweeks
later_seen locked more gameweeks = omega arith

pub moments_leave_entries : MomentsLeaveEntries
moments_leave_entries facts now managers a =
    early_stays (gameweek_seen facts.calendar) _ managers (later_seen facts.calendar.locked (passed_deadlines facts.calendar.deadlines now) (length facts.calendar.deadlines)) a

-- in time and early

over_in_time : (managers : List Manager) → AreInTime None managers
over_in_time [] = tt
over_in_time (m ∷ managers) = (tt, over_in_time managers)

seen_open : (locked gameweeks : ℕ) → locked < gameweeks → min (locked + 1) gameweeks ≡ locked + 1
seen_open locked gameweeks lt = omega (arith, lt)

pub early_in_time : EarlyIsInTime
early_in_time facts managers early = elim (cases_lt facts.calendar.locked (length facts.calendar.deadlines)) [
  | inl lt ↦
      let t : nat_lt facts.calendar.locked (length facts.calendar.deadlines) ≡ true = grind (arith, nat_tests) in
      subst (λ b. AreInTime (cond b (Some (facts.calendar.locked + 1)) None) managers) (sym t)
      (subst (λ g. AreInTime (Some g) managers) (seen_open facts.calendar.locked (length facts.calendar.deadlines) lt) early)
  | inr le ↦
      let t : nat_lt facts.calendar.locked (length facts.calendar.deadlines) ≡ false = grind (arith, nat_tests) in
      subst (λ b. AreInTime (cond b (Some (facts.calendar.locked + 1)) None) managers) (sym t) (over_in_time managers)
]

open_next : (b : Bool) (n g : ℕ) → cond b (Some n) None ≡ Some g → b ≡ true
open_next true n g is = refl
open_next false n g is = absurd (none-some g is)

pub in_time_early : InTimeIsEarly
in_time_early facts g managers is in_time =
    let t : nat_lt facts.calendar.locked (length facts.calendar.deadlines) ≡ true = open_next (nat_lt facts.calendar.locked (length facts.calendar.deadlines)) (facts.calendar.locked + 1) g is in
    let lt : facts.calendar.locked < length facts.calendar.deadlines = grind (arith, nat_tests, t) in
    subst (λ n. AreInTime (Some n) managers) (sym (seen_open facts.calendar.locked (length facts.calendar.deadlines) lt))
    (subst (λ b. AreInTime (cond b (Some (facts.calendar.locked + 1)) None) managers) t in_time)

-- a new deadline leaves the next gameweek
deadline_set : (c : CalendarFacts) (g t : ℕ) → length (set c.deadlines (g - 1) t) ≡ length c.deadlines
deadline_set c g t = length-set c.deadlines (g - 1) t

pub facts_leave_entries : FactsLeaveEntries
facts_leave_entries facts now (command.Player id name position club price) managers granted = record {
  books = λ entries a. entries_stay facts.players _ managers entries (λ where_at have. with_new where_at facts.players _ granted.unbroken have) a;
  later = λ a. a;
}
facts_leave_entries facts now (command.Price p price) managers granted = record {
  books = λ entries a. entries_stay facts.players _ managers entries (λ position have. with_changed position (λ q. record q { price = price }) facts.players p (λ q at. at) have) a;
  later = λ a. a;
}
facts_leave_entries facts now (command.Club p club) managers granted = record {
  books = λ entries a. entries_stay facts.players _ managers entries (λ position have. with_changed position (λ q. record q { club = club }) facts.players p (λ q at. at) have) a;
  later = λ a. a;
}
facts_leave_entries facts now (command.Gone p gone) managers granted = record {
  books = λ entries a. entries_stay facts.players _ managers entries (λ position have. with_changed position (λ q. record q { gone = gone }) facts.players p (λ q at. at) have) a;
  later = λ a. a;
}
facts_leave_entries facts now (command.Deadline g t) managers granted = record {
  books = λ entries a. a;
  later = λ a. subst (λ n. AreInTime (Some (min (facts.calendar.locked + 1) n)) managers) (sym (deadline_set facts.calendar g t)) a;
}
facts_leave_entries facts now (command.Season a b c d) managers granted = record { books = λ entries x. x; later = λ x. x }
facts_leave_entries facts now (command.Fixture a b c d e) managers granted = record { books = λ entries x. x; later = λ x. x }
facts_leave_entries facts now (command.Move a b c) managers granted = record { books = λ entries x. x; later = λ x. x }
facts_leave_entries facts now (command.AmendFixture a b c) managers granted = record { books = λ entries x. x; later = λ x. x }
facts_leave_entries facts now (command.AmendPlayer a b c) managers granted = record { books = λ entries x. x; later = λ x. x }
facts_leave_entries facts now (command.Sheet a b c) managers granted = record { books = λ entries x. x; later = λ x. x }
facts_leave_entries facts now (command.Line a b c) managers granted = record { books = λ entries x. x; later = λ x. x }
facts_leave_entries facts now (command.Drop a b) managers granted = record { books = λ entries x. x; later = λ x. x }
facts_leave_entries facts now (command.Finished a b) managers granted = record { books = λ entries x. x; later = λ x. x }
facts_leave_entries facts now (command.Key a b) managers granted = record { books = λ entries x. x; later = λ x. x }
facts_leave_entries facts now (command.Rekey a b c) managers granted = record { books = λ entries x. x; later = λ x. x }
facts_leave_entries facts now (command.Squad a b c) managers granted = record { books = λ entries x. x; later = λ x. x }
facts_leave_entries facts now (command.Transfers a) managers granted = record { books = λ entries x. x; later = λ x. x }
facts_leave_entries facts now (command.Lineup a b c) managers granted = record { books = λ entries x. x; later = λ x. x }
facts_leave_entries facts now (command.Chip a) managers granted = record { books = λ entries x. x; later = λ x. x }
facts_leave_entries facts now command.CancelChip managers granted = record { books = λ entries x. x; later = λ x. x }
facts_leave_entries facts now (command.League a b c d) managers granted = record { books = λ entries x. x; later = λ x. x }
facts_leave_entries facts now (command.Join a b) managers granted = record { books = λ entries x. x; later = λ x. x }
facts_leave_entries facts now (command.Draw a b) managers granted = record { books = λ entries x. x; later = λ x. x }
facts_leave_entries facts now (command.Cup a b c) managers granted = record { books = λ entries x. x; later = λ x. x }
