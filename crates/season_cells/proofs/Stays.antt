-- What a manager does, and a new entry, leave of the gameweeks that are locked.
use Rattle.std.proofs.Common.{◌≡◌, ⊎_elim, ◌≤◌, ◌<◌, ◌+◌, ◌-◌, ℕ, zero, suc, Bool, true, false, ◌&&◌, cond, nat_le, nat_lt, List, [], ◌∷◌, ◌++◌, Some, None, length, IfSome, refl, sym, ◌∙◌, ap, ap₂, subst, arith}
use Rattle.std.specs.Option.{option_map_or, unwrap_or}
use Rattle.std.specs.Prelude.{slice_index_or}
use Rattle.std.proofs.lemmas.Bool.Decides.{nat_tests}
use Rattle.std.proofs.lemmas.List.{length-map}
use Rattle.std.proofs.lemmas.Option.{same_Some}
use Rattle.rule_book.specs.declared.cup.Bracket.{Bracket}
use Rattle.rule_book.specs.Calendar.{CalendarFacts, next_gameweek}
use Rattle.rule_book.specs.Entries.{changed_in}
use Rattle.rule_book.specs.Leagues.{LeagueFacts}
use Rattle.season_ledger.specs.declared.row.Row.{Row}
use Rattle.season_ledger.specs.Rows.{cost_by, first_in, is_begun_by, standing_at, team_in}
use Rattle.manager_book.specs.declared.manager.Manager.{Manager}
use Rattle.manager_book.specs.Managers.{AreRisen, IsSameBut, manager_in, nobody, rekeyed, with_key}
use Rattle.season_book.specs.Book.{Facts}
use Rattle.season_entries.specs.Earlier.{EarlierRowsTell, RowsStayBefore, TellAlike, rows_before}
use Rattle.season_entries.specs.Keys.{new_manager}
use Rattle.season_running.specs.Changed.{played_by}
use Rattle.season_graph.specs.Changes.{EntriesStay}
use Rattle.season_graph.proofs.ChangedFacts.{same_or_not}
use Rattle.season_graph.proofs.TeamFacts.{team_alive}
use Rattle.season_nodes.specs.BookFacts.{no_team}
use Rattle.season_nodes.specs.Season.{has_begun}
use Rattle.season_cells.specs.Kept.{season_seen}

first_test : (rows : List Row) (g : ℕ) → option_map_or (λ first. nat_le first g) (first_in rows) false ≡ is_begun_by rows g
first_test [] g = refl
first_test (row ∷ rows) g = refl

at_most : (h n : ℕ) → nat_le h n ≡ true → h ≤ n
at_most h n e = grind (arith, nat_tests)

second_of : (x y : Bool) → (x && y) ≡ true → y ≡ true
second_of true y e = e
second_of false y e = cc

next_case : (t : Bool) (k n : ℕ) → cond t (Some k) None ≡ Some n → k ≡ n
next_case true k n e = same_Some k n e
next_case false k n e = cc

-- a gameweek that is locked is one before the next
locked_before : (c : CalendarFacts) (n g : ℕ) → next_gameweek c ≡ Some n → nat_le g c.locked ≡ true → g < n
locked_before c n g next locked =
    let is : c.locked + 1 ≡ n = next_case (nat_lt c.locked (length c.deadlines)) (c.locked + 1) n next in
    let low : g ≤ c.locked = at_most g c.locked locked in
    omega (arith, is, low)

and_same : (a b t u : Bool) (x y : Bool) → (t ≡ true → (a ≡ b) × (x ≡ y)) → ((t && a) && x) ≡ ((t && b) && y)
and_same a b true u x y e = ap₂ (λ p q. p && q) (e refl).0 (e refl).1
and_same a b false u x y e = refl

-- a manager's command
module _ (tell : EarlierRowsTell) (facts : Facts) (leagues : List LeagueFacts) (cups : List Bracket) (n e : ℕ) (olds news : List Manager) (next : next_gameweek facts.calendar ≡ Some n)
    (same : IsSameBut e (played_by facts.profile olds) (played_by facts.profile news))
    (earlier : RowsStayBefore (next_gameweek facts.calendar) e (played_by facts.profile olds) (played_by facts.profile news))
    (up_old : AreRisen olds) (up_new : AreRisen news) where
  abbrev rows_old : ℕ → List Row
  rows_old k = (manager_in olds k).season

  abbrev rows_new : ℕ → List Row
  rows_new k = (manager_in news k).season

  before : rows_before n (rows_new e) ≡ rows_before n (rows_old e)
  before = subst (λ o. IfSome o (λ g. rows_before g (rows_new e) ≡ rows_before g (rows_old e))) next earlier

  alike : (k g : ℕ) → 1 ≤ k → g < n → TellAlike facts.profile g (rows_old k) (rows_new k)
  alike k g low soon = ⊎_elim
      (λ i. subst (λ j. TellAlike facts.profile g (rows_old j) (rows_new j)) (sym i) (tell facts.profile n g (rows_old e) (rows_new e) (up_old e) (up_new e) before soon))
      (λ other. let stay = same.others k low other in record {
        standing = ap (λ rows. standing_at rows g) stay;
        begun = ap (λ rows. is_begun_by rows g) stay;
        cost = ap (λ rows. cost_by facts.profile rows g) stay;
      })
      (same_or_not k e)

  as_many : length olds ≡ length news
  as_many = sym (length-map olds (λ m. (m.key, m.name))) ∙ ap length (sym same.keys) ∙ length-map news (λ m. (m.key, m.name))

  pub deed_stays : EntriesStay (season_seen facts olds leagues cups) (season_seen facts news leagues cups)
  deed_stays = record {
    begun = λ k g w. and_same (nat_le k (length olds)) (nat_le k (length news)) (nat_le 1 k) false _ _
        (λ low. (
          ap (nat_le k) as_many,
          first_test (rows_old k) g ∙ sym (alike k g (at_most 1 k low) (locked_before facts.calendar n g next (second_of (nat_le 1 g) (nat_le g facts.calendar.locked) w))).begun ∙ sym (first_test (rows_new k) g),
        ));
    team = λ k g l. let live = team_alive (season_seen facts olds leagues cups) k g l in
        ap (λ s. unwrap_or (team_in s) no_team) (sym (alike k g live.0 (locked_before facts.calendar n g next live.3)).standing);
    cost = λ k g l. let live = team_alive (season_seen facts olds leagues cups) k g l in
        sym (alike k g live.0 (locked_before facts.calendar n g next live.3)).cost;
  }

-- a new entry
index_pushed : (xs : List Manager) (x : Manager) (k : ℕ) → x.season ≡ [] → (slice_index_or (xs ++ x ∷ []) k nobody).season ≡ (slice_index_or xs k nobody).season
index_pushed [] x zero none = none
index_pushed [] x (suc k) none = refl
index_pushed (y ∷ ys) x zero none = refl
index_pushed (y ∷ ys) x (suc k) none = index_pushed ys x k none

index_behind : (xs : List Manager) (k : ℕ) → length xs ≤ k → (slice_index_or xs k nobody).season ≡ []
index_behind [] k behind = refl
index_behind (y ∷ ys) zero behind = absurd (omega arith)
index_behind (y ∷ ys) (suc k) behind = index_behind ys k (omega arith)

key_case : (k n : ℕ) (rows : List Row) (g : ℕ) → 1 ≤ k → (n ≤ k - 1 → rows ≡ [])
    → (nat_le k n && option_map_or (λ first. nat_le first g) (first_in rows) false) ≡ (nat_le k (n + 1) && option_map_or (λ first. nat_le first g) (first_in rows) false)
key_case k n rows g low none = by_case (nat_le k n) refl
  where
    more : (a b : ℕ) → nat_le a b ≡ true → nat_le a (b + 1) ≡ true
    more a b e = grind (arith, nat_tests)

    past : (a b : ℕ) → 1 ≤ a → nat_le a b ≡ false → b ≤ a - 1
    past a b low e = grind (arith, nat_tests)

    and_false : (x : Bool) → (x && false) ≡ false
    and_false true = refl
    and_false false = refl

    by_case : (t : Bool) → nat_le k n ≡ t → (nat_le k n && option_map_or (λ first. nat_le first g) (first_in rows) false) ≡ (nat_le k (n + 1) && option_map_or (λ first. nat_le first g) (first_in rows) false)
    by_case true e = ap (λ t. t && option_map_or (λ first. nat_le first g) (first_in rows) false) (e ∙ sym (more k n e))
    by_case false e =
        let empty : option_map_or (λ first. nat_le first g) (first_in rows) false ≡ false = ap (λ r. option_map_or (λ first. nat_le first g) (first_in r) false) (none (past k n low e)) in
        ap (λ t. nat_le k n && t) empty ∙ and_false (nat_le k n) ∙ sym (ap (λ t. nat_le k (n + 1) && t) empty ∙ and_false (nat_le k (n + 1)))

and_assoc : (x y z : Bool) → ((x && y) && z) ≡ (x && (y && z))
and_assoc true y z = refl
and_assoc false y z = refl

length_pushed : (xs : List Manager) (x : Manager) → length (xs ++ x ∷ []) ≡ length xs + 1
length_pushed [] x = refl
length_pushed (y ∷ ys) x = let more : length (ys ++ x ∷ []) ≡ length ys + 1 = length_pushed ys x in omega (arith, more)

module _ (facts : Facts) (leagues : List LeagueFacts) (cups : List Bracket) (olds : List Manager) (key name : List ℕ) where
  abbrev news : List Manager
  news = olds ++ new_manager key name ∷ []

  rows_same : (k : ℕ) → (manager_in news k).season ≡ (manager_in olds k).season
  rows_same k = index_pushed olds (new_manager key name) (k - 1) refl

  begun_same : (k g : ℕ) → has_begun (season_seen facts olds leagues cups) k g ≡ has_begun (season_seen facts news leagues cups) k g
  begun_same k g = by_case (nat_le 1 k) refl
    where
      test : List Row → Bool
      test rows = option_map_or (λ first. nat_le first g) (first_in rows) false

      by_case : (t : Bool) → nat_le 1 k ≡ t → ((nat_le 1 k && nat_le k (length olds)) && test (manager_in olds k).season) ≡ ((nat_le 1 k && nat_le k (length news)) && test (manager_in news k).season)
      by_case true low =
          and_assoc (nat_le 1 k) (nat_le k (length olds)) (test (manager_in olds k).season)
          ∙ ap (λ t. nat_le 1 k && t) (key_case k (length olds) (manager_in olds k).season g (at_most 1 k low) (λ behind. index_behind olds (k - 1) behind)
          ∙ ap₂ (λ m t. nat_le k m && t) (sym (length_pushed olds (new_manager key name))) (ap test (sym (rows_same k))))
          ∙ sym (and_assoc (nat_le 1 k) (nat_le k (length news)) (test (manager_in news k).season))
      by_case false high =
          ap (λ t. (t && nat_le k (length olds)) && test (manager_in olds k).season) high ∙ sym (ap (λ t. (t && nat_le k (length news)) && test (manager_in news k).season) high)

  pub key_stays : EntriesStay (season_seen facts olds leagues cups) (season_seen facts news leagues cups)
  key_stays = record {
    begun = λ k g w. begun_same k g;
    team = λ k g l. ap (λ rows. unwrap_or (team_in (standing_at rows g)) no_team) (sym (rows_same k));
    cost = λ k g l. ap (λ rows. cost_by facts.profile rows g) (sym (rows_same k));
  }

-- another key of an entry leaves what each did

module _ (key name : List ℕ) where
  season_same : (ms : List Manager) (e j : ℕ) → (slice_index_or (changed_in (with_key key name) ms e) j nobody).season ≡ (slice_index_or ms j nobody).season
  season_same [] e j = refl
  season_same (m ∷ ms) zero j = refl
  season_same (m ∷ ms) (suc zero) zero = refl
  season_same (m ∷ ms) (suc zero) (suc j) = refl
  season_same (m ∷ ms) (suc (suc e)) zero = refl
  season_same (m ∷ ms) (suc (suc e)) (suc j) = season_same ms (suc e) j

  same_many : (ms : List Manager) (e : ℕ) → length (changed_in (with_key key name) ms e) ≡ length ms
  same_many [] e = refl
  same_many (m ∷ ms) zero = refl
  same_many (m ∷ ms) (suc zero) = refl
  same_many (m ∷ ms) (suc (suc e)) = ap suc (same_many ms (suc e))

  pub rekey_stays : (facts : Facts) (leagues : List LeagueFacts) (cups : List Bracket) (olds : List Manager) (e : ℕ)
      → EntriesStay (season_seen facts olds leagues cups) (season_seen facts (rekeyed olds e key name) leagues cups)
  rekey_stays facts leagues cups olds e = record {
    begun = λ k g w i. (nat_le 1 k && nat_le k (sym (same_many olds e) i)) && option_map_or (λ first. nat_le first g) (first_in (sym (season_same olds e (k - 1)) i)) false;
    team = λ k g l. ap (λ rows. unwrap_or (team_in (standing_at rows g)) no_team) (sym (season_same olds e (k - 1)));
    cost = λ k g l. ap (λ rows. cost_by facts.profile rows g) (sym (season_same olds e (k - 1)));
  }
