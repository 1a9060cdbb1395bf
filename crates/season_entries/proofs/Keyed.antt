-- The keys of managers and those of the entries for which they stand.
use Rattle.std.proofs.Common.{◌≡◌, ◌≢◌, ◌<◌, ◌≤◌, ◌+◌, ◌==◌, ◌++◌, ◌∷◌, [], ℕ, zero, suc, Bool, true, false, not, ◌||◌, cond, if◌then◌else◌, ◌&&◌, nat_le, nat_lt, List, Option, Some, None, is_some, length, IfSome, arith, refl, sym, ap, inl, inr, ◌∙◌}
use Rattle.std.proofs.lemmas.Bool.{cases_lt}
use Rattle.std.proofs.lemmas.Bool.Decides.{nat_tests}
use Rattle.std.specs.List.{position_from}
use Rattle.std.specs.Option.{option_map}
use Rattle.std.specs.Str.{bytes_eq}
use Rattle.std.proofs.lemmas.Cmp.{nat_list_eq_equiv}
use Rattle.std.proofs.lemmas.Iterator.Adapters.{position_from-zero}
use Rattle.fpl_base.specs.declared.kinds.Caller.TheVariants.{Operator, Entry}
use Rattle.fpl_base.specs.declared.rule.Rule.{Rule}
use Rattle.fpl_base.specs.declared.rule.Rule.TheVariants as rules
use Rattle.rule_book.specs.declared.player.Player.{Player}
use Rattle.rule_book.specs.Entries.{changed_in, most_entries}
use Rattle.rule_book.specs.Refusals.{first_broken, unless}
use Rattle.manager_book.specs.declared.manager.Manager.{Manager}
use Rattle.manager_book.specs.Managers.{Managers, entry_with, issue_refusal, number_from, rekeyed, with_key}
use Rattle.season_book.specs.Book.{EntryFacts}
use Rattle.season_book.specs.Hosts as hosts
use Rattle.season_book.specs.KeyCommands as KeyCommands
use Rattle.season_book.specs.KeyCommands.{is_open_to, rekey_refusal}
use Rattle.season_book.specs.LeagueCommands.{is_issued}
use Rattle.season_book.specs.Verdict.{key_refusal}
use Rattle.season_book.specs.declared.answer.Answer.{Answer}
use Rattle.season_book.specs.declared.answer.Answer.TheVariants as answer
use Rattle.season_entries.specs.Deeds.{AreInTime}
use Rattle.season_entries.specs.Entries.{AreEntries}
use Rattle.season_entries.specs.EntryLaws.{OwnersAreAlike}
use Rattle.season_entries.specs.Keys.{StandForBooksRekeyed, StandForBooksWith, key_broken, keys_of, new_entry, new_manager, rekey_answer, rekey_broken}
use Rattle.season_entries.proofs.Issued.{entries_issued}
use Rattle.season_entries.proofs.Times.{nothing_in_time}

-- by the room and the key
abbrev refused : Bool → Bool → Option Rule
refused room taken = first_broken (unless room rules.EntriesFull ∷ unless (not taken) rules.KeyThere ∷ [])

-- the same keys, and as many
same_keys : (players : List Player) (managers : List Manager) (entries : List EntryFacts) → AreEntries players managers entries → hosts.keys_of entries ≡ keys_of managers
same_keys players [] [] a = refl
same_keys players [] (x ∷ entries) a = absurd a
same_keys players (m ∷ managers) [] a = absurd a
same_keys players (m ∷ managers) (x ∷ entries) a = ap (λ k. k ∷ hosts.keys_of entries) a.0.key ∙ ap (λ l. m.key ∷ l) (same_keys players managers entries a.1)

-- as many entries as managers
pub same_many : (players : List Player) (managers : List Manager) (entries : List EntryFacts) → AreEntries players managers entries → length entries ≡ length managers
same_many players [] [] a = refl
same_many players [] (x ∷ entries) a = absurd a
same_many players (m ∷ managers) [] a = absurd a
same_many players (m ∷ managers) (x ∷ entries) a = ap suc (same_many players managers entries a.1)

pub key_same : (operator key : List ℕ) (players : List Player) (managers : List Manager) (entries : List EntryFacts) → AreEntries players managers entries → key_broken operator managers key ≡ key_refusal operator entries key
key_same operator key players managers entries a =
    ap (λ n. refused (nat_lt n most_entries) (is_some (hosts.caller_with operator (keys_of managers) key))) (sym (same_many players managers entries a))
    ∙ ap (λ l. refused (nat_lt (length entries) most_entries) (is_some (hosts.caller_with operator l key))) (sym (same_keys players managers entries a))

-- the entry with a key is the manager with it
numbered : (key : List ℕ) (managers : List Manager) (n : ℕ) → option_map (λ place. Entry (place + 1)) (position_from (λ other. bytes_eq other key) n (keys_of managers)) ≡ option_map Entry (number_from (n + 1) managers key)
numbered key [] n = refl
numbered key (m ∷ managers) n = ap (λ b. option_map (λ place. Entry (place + 1)) (cond b (Some n) (position_from (λ other. bytes_eq other key) (n + 1) (keys_of managers)))) (nat_list_eq_equiv.symm m.key key)
    ∙ step (bytes_eq key m.key) (numbered key managers (n + 1))
  where
    step : (b : Bool) → option_map (λ place. Entry (place + 1)) (position_from (λ other. bytes_eq other key) (n + 1) (keys_of managers)) ≡ option_map Entry (number_from ((n + 1) + 1) managers key)
        → option_map (λ place. Entry (place + 1)) (cond b (Some n) (position_from (λ other. bytes_eq other key) (n + 1) (keys_of managers))) ≡ option_map Entry (cond b (Some (n + 1)) (number_from ((n + 1) + 1) managers key))
    step true i = refl
    step false i = i

pub owners_alike : (book : Managers) (bytes : List ℕ) → hosts.entry_with (keys_of book.managers) bytes ≡ option_map Entry (entry_with book bytes)
owners_alike book bytes = ap (option_map (λ place. Entry (place + 1))) (position_from-zero (λ other. bytes_eq other bytes) (keys_of book.managers)) ∙ numbered bytes book.managers 0

pub owners_of_books : OwnersAreAlike
owners_of_books players managers entries bytes stand = ap (λ l. hosts.entry_with l bytes) (same_keys players managers.managers entries stand) ∙ owners_alike managers bytes

-- the operator has it, or an entry
taken : (operator : List ℕ) (book : Managers) (key : List ℕ) → is_some (hosts.caller_with operator (keys_of book.managers) key) ≡ (bytes_eq operator key || is_some (entry_with book key))
taken operator book key = by_test (bytes_eq operator key)
  where
    mapped : (o : Option ℕ) → is_some (option_map Entry o) ≡ is_some o
    mapped None = refl
    mapped (Some n) = refl

    by_test : (b : Bool) → is_some (cond b (Some Operator) (hosts.entry_with (keys_of book.managers) key)) ≡ (b || is_some (entry_with book key))
    by_test true = refl
    by_test false = ap is_some (owners_alike book key) ∙ mapped (entry_with book key)

broken_as : (operator : List ℕ) (book : Managers) (key : List ℕ) → key_broken operator book.managers key ≡ refused (nat_lt (length book.managers) most_entries) (bytes_eq operator key || is_some (entry_with book key))
broken_as operator book key = ap (refused (nat_lt (length book.managers) most_entries)) (taken operator book key)

-- what refuses an entry refuses it here too
pub still_broken : (operator : List ℕ) (book : Managers) (key : List ℕ) (rule : Rule) → issue_refusal book key ≡ Some rule → key_broken operator book.managers key ≡ Some rule
still_broken operator book key rule e = broken_as operator book key ∙ by_tests (nat_lt (length book.managers) most_entries) (bytes_eq operator key) (is_some (entry_with book key)) e
  where
    by_tests : (room own other : Bool) → refused room other ≡ Some rule → refused room (own || other) ≡ Some rule
    by_tests false own other e = e
    by_tests true true true e = e
    by_tests true true false e = cc
    by_tests true false other e = e

-- the operator's key is there
pub own_key : (operator : List ℕ) (book : Managers) (key : List ℕ) → issue_refusal book key ≡ None → bytes_eq operator key ≡ true → key_broken operator book.managers key ≡ Some rules.KeyThere
own_key operator book key e own = broken_as operator book key ∙ ap (λ b. refused (nat_lt (length book.managers) most_entries) (b || is_some (entry_with book key))) own ∙ by_room (nat_lt (length book.managers) most_entries) e
  where
    by_room : (room : Bool) → refused room (is_some (entry_with book key)) ≡ None → refused room true ≡ Some rules.KeyThere
    by_room true e = refl
    by_room false e = cc

-- a key that is free
pub free_key : (operator : List ℕ) (book : Managers) (key : List ℕ) → issue_refusal book key ≡ None → bytes_eq operator key ≡ false → key_broken operator book.managers key ≡ None
free_key operator book key e own = broken_as operator book key ∙ ap (λ b. refused (nat_lt (length book.managers) most_entries) (b || is_some (entry_with book key))) own ∙ e

pub books_with : (key name : List ℕ) (managers : List Manager) → StandForBooksWith key name managers (managers ++ new_manager key name ∷ [])
books_with key name managers players entries a = walk managers entries a
  where
    walk : (ms : List Manager) (es : List EntryFacts) → AreEntries players ms es → AreEntries players (ms ++ new_manager key name ∷ []) (es ++ new_entry key name ∷ [])
    walk [] [] a = (record { key = refl; name = refl; history = λ position have. record { rise = tt; history = tt; told = λ g. refl }; sales = λ g. refl }, tt)
    walk [] (x ∷ es) a = absurd a
    walk (m ∷ ms) [] a = absurd a
    walk (m ∷ ms) (x ∷ es) a = (a.0, walk ms es a.1)

pub in_time_with : (next : Option ℕ) (key name : List ℕ) (managers : List Manager) → AreInTime next managers → AreInTime next (managers ++ new_manager key name ∷ [])
in_time_with next key name [] a = (nothing_in_time next, tt)
in_time_with next key name (m ∷ managers) a = (a.0, in_time_with next key name managers a.1)

-- Another key of an entry.

-- a number is that of an entry where it is 1 at least, and so many are there
is_number : (n most : ℕ) → 1 ≤ n → n ≤ most → (nat_le 1 n && nat_le n most) ≡ true
is_number n most one few =
    let first : nat_le 1 n ≡ true = grind (arith, nat_tests, one) in
    let second : nat_le n most ≡ true = grind (arith, nat_tests, few) in
    ap (λ b. b && nat_le n most) first ∙ second

none_of_number : (n most : ℕ) → n ≡ 0 → (nat_le 1 n && nat_le n most) ≡ false
none_of_number n most is = let first : nat_le 1 n ≡ false = grind (arith, nat_tests, is) in ap (λ b. b && nat_le n most) first

past_number : (n most : ℕ) → most < n → (nat_le 1 n && nat_le n most) ≡ false
past_number n most past =
    let first : nat_le 1 n ≡ true = grind (arith, nat_tests, past) in
    let second : nat_le n most ≡ false = grind (arith, nat_tests, past) in
    ap (λ b. b && nat_le n most) first ∙ second

module _ (operator : List ℕ) (book : Managers) (e : ℕ) (key : List ℕ) where
  abbrev broken_if : Bool → Option Answer
  broken_if there = if there then option_map answer.Rule (rekey_refusal operator (keys_of book.managers) e key) else Some answer.Unknown

  -- by whose key it is
  abbrev by_owner : Bool → Option ℕ → Option Answer
  by_owner own owner = option_map answer.Rule (unless (is_open_to e (cond own (Some Operator) (option_map Entry owner))) rules.KeyThere)

  -- there is no such entry
  pub rekey_none : (e ≡ 0) → rekey_broken operator book.managers e key ≡ Some answer.Unknown
  rekey_none is = ap broken_if (none_of_number e (length book.managers) is)

  pub rekey_past : length book.managers < e → rekey_broken operator book.managers e key ≡ Some answer.Unknown
  rekey_past past = ap broken_if (past_number e (length book.managers) past)

  here : 1 ≤ e → e ≤ length book.managers → rekey_broken operator book.managers e key ≡ by_owner (bytes_eq operator key) (entry_with book key)
  here one few =
      ap broken_if (is_number e (length book.managers) one few)
      ∙ ap (λ o. option_map answer.Rule (unless (is_open_to e (cond (bytes_eq operator key) (Some Operator) o)) rules.KeyThere)) (owners_alike book key)

  -- it is the operator's
  pub rekey_own : 1 ≤ e → e ≤ length book.managers → bytes_eq operator key ≡ true → rekey_broken operator book.managers e key ≡ Some (answer.Rule rules.KeyThere)
  rekey_own one few own = here one few ∙ ap (λ b. by_owner b (entry_with book key)) own

  -- it is another entry's
  pub rekey_taken : (owner : ℕ) → 1 ≤ e → e ≤ length book.managers → bytes_eq operator key ≡ false → entry_with book key ≡ Some owner → owner ≢ e
      → rekey_broken operator book.managers e key ≡ Some (answer.Rule rules.KeyThere)
  rekey_taken owner one few other is apart =
      let another : (owner == e) ≡ false = grind (arith, nat_tests, apart) in
      here one few ∙ ap (λ b. by_owner b (entry_with book key)) other ∙ ap (by_owner false) is ∙ ap (λ b. option_map answer.Rule (unless b rules.KeyThere)) another

  -- it is nobody's, or its own
  pub rekey_free : 1 ≤ e → e ≤ length book.managers → bytes_eq operator key ≡ false → IfSome (entry_with book key) (λ owner. owner ≡ e) → rekey_broken operator book.managers e key ≡ None
  rekey_free one few other free = here one few ∙ ap (λ b. by_owner b (entry_with book key)) other ∙ by_case (entry_with book key) free
    where
      by_case : (o : Option ℕ) → IfSome o (λ owner. owner ≡ e) → by_owner false o ≡ None
      by_case None free = refl
      by_case (Some owner) free =
          let same : (owner == e) ≡ true = grind (arith, nat_tests, free) in
          ap (λ b. option_map answer.Rule (unless b rules.KeyThere)) same

-- the entries of a book are those of the managers, by number and by key
issued_by : (players : List Player) (managers : List Manager) (entries : List EntryFacts) (e : ℕ) → AreEntries players managers entries → (nat_le 1 e && nat_le e (length managers)) ≡ is_issued entries e
issued_by players managers entries zero a = refl
issued_by players managers entries (suc n) a = elim (cases_lt (length managers) (suc n)) [
  | inl past ↦
      past_number (suc n) (length managers) past
      ∙ sym (ap is_some ((entries_issued players managers entries (suc n) a).none past))
  | inr few ↦
      is_number (suc n) (length managers) (omega arith) few
      ∙ sym (ap is_some ((entries_issued players managers entries (suc n) a).there (omega arith) few).1)
]

pub rekey_same : (operator key : List ℕ) (e : ℕ) (players : List Player) (managers : List Manager) (entries : List EntryFacts) → AreEntries players managers entries
    → rekey_broken operator managers e key ≡ rekey_answer operator entries e key
rekey_same operator key e players managers entries a =
    ap (λ b. if b then option_map answer.Rule (rekey_refusal operator (keys_of managers) e key) else Some answer.Unknown) (issued_by players managers entries e a)
    ∙ ap (λ l. if is_issued entries e then option_map answer.Rule (rekey_refusal operator l e key) else Some answer.Unknown) (sym (same_keys players managers entries a))

pub books_rekeyed : (e : ℕ) (key name : List ℕ) (managers : List Manager) → StandForBooksRekeyed e key name managers (rekeyed managers e key name)
books_rekeyed e key name managers players entries a = walk managers entries e a
  where
    walk : (ms : List Manager) (es : List EntryFacts) (n : ℕ) → AreEntries players ms es
        → AreEntries players (changed_in (with_key key name) ms n) (changed_in (KeyCommands.with_key (record { entry = e; key = key; name = name })) es n)
    walk [] [] n a = tt
    walk [] (x ∷ es) n a = absurd a
    walk (m ∷ ms) [] n a = absurd a
    walk (m ∷ ms) (x ∷ es) zero a = a
    walk (m ∷ ms) (x ∷ es) (suc zero) a = (record { key = refl; name = refl; history = a.0.history; sales = a.0.sales }, a.1)
    walk (m ∷ ms) (x ∷ es) (suc (suc n)) a = (a.0, walk ms es (suc n) a.1)

pub in_time_rekeyed : (next : Option ℕ) (e : ℕ) (key name : List ℕ) (managers : List Manager) → AreInTime next managers → AreInTime next (rekeyed managers e key name)
in_time_rekeyed next e key name managers a = walk managers e a
  where
    walk : (ms : List Manager) (n : ℕ) → AreInTime next ms → AreInTime next (changed_in (with_key key name) ms n)
    walk [] n a = tt
    walk (m ∷ ms) zero a = a
    walk (m ∷ ms) (suc zero) a = a
    walk (m ∷ ms) (suc (suc n)) a = (a.0, walk ms (suc n) a.1)
