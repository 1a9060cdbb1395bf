-- What a change of the leagues leaves.
use Rattle.std.proofs.Common.{◌≡◌, ◌≢◌, ℕ, zero, suc, ◌+◌, ◌-◌, ◌≤◌, ◌==◌, Bool, true, false, if◌then◌else◌, inl, inr, ⊎_elim, List, [], ◌∷◌, ◌++◌, length, Option, Some, None, IsSomeAnd, refl, sym, ◌∙◌, ap, subst, arith}
use Rattle.std.specs.List.{slice_get}
use Rattle.std.proofs.lemmas.Bool.Decides.{nat_tests}
use Rattle.std.proofs.lemmas.Option.{none-some, same_Some, slice_get_past}
use Rattle.rule_book.specs.Entries.{changed_in, entry_in}
use Rattle.rule_book.specs.LeagueCalls.{is_member, with_member, with_order}
use Rattle.rule_book.specs.Leagues.{LeagueFacts}
use Rattle.leagues_and_cups.proofs.Members.{member_as_before, member_now}
use Rattle.season_graph.specs.BookChanges.{LeagueIsDrawn, LeagueIsJoined, LeagueIsMade, with_leagues}
use Rattle.season_graph.specs.Changes.{DifferInLeague, EntriesStay, GoesOn}
use Rattle.season_nodes.specs.Season.{SeasonFacts, AreOrders, IsOrder, IsSeason}
use Rattle.season_nodes.proofs.OrderFacts.{joined_by, not_drawn}
use Rattle.season_graph.proofs.ChangedFacts.{same_or_not}
use Rattle.season_graph.proofs.LeagueFacts.{above_0, from_entry}

below_1 : (k : ℕ) → (k == 0) ≡ false → 1 ≤ k
below_1 k e = grind (arith, nat_tests, e)

entry_case : {X : Type 0} (t : Bool) (o r : Option X) → (t ≡ false → o ≡ r) → (if t then None else o) ≡ (if t then None else r)
entry_case true o r same = refl
entry_case false o r same = same refl

none_case : {X : Type 0} (t : Bool) (o : Option X) → o ≡ None → (if t then None else o) ≡ None
none_case true o e = refl
none_case false o e = e

module _ {X : Type 0} where
  pushed : (xs : List X) (x : X) (i : ℕ) → i ≢ length xs → slice_get xs i ≡ slice_get (xs ++ x ∷ []) i
  pushed [] x zero n = absurd (n refl)
  pushed [] x (suc i) n = refl
  pushed (y ∷ ys) x zero n = refl
  pushed (y ∷ ys) x (suc i) n = pushed ys x i (λ e. n (ap suc e))

  changed : (change : X → X) (xs : List X) (l i : ℕ) → i + 1 ≢ l → slice_get xs i ≡ slice_get (changed_in change xs l) i
  changed change [] l i n = refl
  changed change (x ∷ xs) zero i n = refl
  changed change (x ∷ xs) (suc zero) zero n = absurd (n (omega arith))
  changed change (x ∷ xs) (suc zero) (suc i) n = refl
  changed change (x ∷ xs) (suc (suc l)) zero n = refl
  changed change (x ∷ xs) (suc (suc l)) (suc i) n = changed change xs (suc l) i (λ e. n (omega (arith, e)))

  changed_there : (change : X → X) (xs : List X) (l : ℕ) (x : X) → slice_get xs l ≡ Some x → slice_get (changed_in change xs (suc l)) l ≡ Some (change x)
  changed_there change [] l x e = absurd (cc)
  changed_there change (y ∷ ys) zero x e = ap (λ z. Some (change z)) (same_Some y x e)
  changed_there change (y ∷ ys) (suc l) x e = changed_there change ys l x e

  -- the entries of other numbers stay where one is added, or changed
  pub entry_pushed : (xs : List X) (x : X) (k : ℕ) → k ≢ length xs + 1 → entry_in xs k ≡ entry_in (xs ++ x ∷ []) k
  entry_pushed xs x k n = entry_case (k == 0) (slice_get xs (k - 1)) (slice_get (xs ++ x ∷ []) (k - 1))
      (λ t. let low = below_1 k t in pushed xs x (k - 1) (λ e. n (omega (arith, low, e))))

  pub entry_past : (xs : List X) → entry_in xs (length xs + 1) ≡ None
  entry_past xs = none_case ((length xs + 1) == 0) (slice_get xs ((length xs + 1) - 1)) (slice_get_past xs ((length xs + 1) - 1) (omega arith))

  entry_changed : (change : X → X) (xs : List X) (l k : ℕ) → k ≢ l → entry_in xs k ≡ entry_in (changed_in change xs l) k
  entry_changed change xs l k n = entry_case (k == 0) (slice_get xs (k - 1)) (slice_get (changed_in change xs l) (k - 1))
      (λ t. let low = below_1 k t in changed change xs l (k - 1) (λ e. n (omega (arith, low, e))))

-- and the changed one is there
entry_there : (change : LeagueFacts → LeagueFacts) (leagues : List LeagueFacts) (l : ℕ) (league : LeagueFacts) → entry_in leagues l ≡ Some league → entry_in (changed_in change leagues l) l ≡ Some (change league)
entry_there change leagues l league e =
    let at = from_entry leagues l league (l == 0) refl e in
    let place : suc (l - 1) ≡ l = omega (arith, at.0) in
    ap (λ t. if t then None else slice_get (changed_in change leagues l) (l - 1)) (above_0 l at.0)
    ∙ subst (λ n. slice_get (changed_in change leagues n) (l - 1) ≡ Some (change league)) place (changed_there change leagues (l - 1) league at.1)

season_stays : (b : SeasonFacts) (leagues : List LeagueFacts) → IsSeason b → AreOrders leagues → IsSeason (with_leagues b leagues)
season_stays b leagues is orders = record { calendar = is.calendar; ascending = is.ascending; ranges = is.ranges; there = is.there; orders = orders; brackets = is.brackets }

nobody_moves : (b : SeasonFacts) (leagues : List LeagueFacts) → EntriesStay b (with_leagues b leagues)
nobody_moves b leagues = record { begun = λ e g w. refl; team = λ e g l. refl; cost = λ e g l. refl }

-- the one that is added is there
entry_last : (leagues : List LeagueFacts) (league other : LeagueFacts) → entry_in (leagues ++ league ∷ []) (length leagues + 1) ≡ Some other → league ≡ other
entry_last leagues league other at =
    let there = from_entry (leagues ++ league ∷ []) (length leagues + 1) other ((length leagues + 1) == 0) refl at in
    same_Some league other (sym (last_there leagues league ((length leagues + 1) - 1) (omega arith)) ∙ there.1)
  where
    last_there : (xs : List LeagueFacts) (x : LeagueFacts) (i : ℕ) → i ≡ length xs → slice_get (xs ++ x ∷ []) i ≡ Some x
    last_there [] x zero e = refl
    last_there [] x (suc i) e = absurd (omega (arith, e))
    last_there (y ∷ ys) x zero e = absurd (omega (arith, e))
    last_there (y ∷ ys) x (suc i) e = last_there ys x i (omega (arith, e))

pub league_is_made : LeagueIsMade
league_is_made b league is none =
    let leagues = b.leagues ++ league ∷ [] in (
      season_stays b leagues is (λ k other at. ⊎_elim
          (λ e. subst IsOrder (entry_last b.leagues league other (subst (λ n. entry_in leagues n ≡ Some other) e at)) (not_drawn league none))
          (λ n. is.orders k other (entry_pushed b.leagues league k n ∙ at))
          (same_or_not k (length b.leagues + 1))),
      record {
        profile = refl;
        calendar = refl;
        players = refl;
        matches = refl;
        others = entry_pushed b.leagues league;
        cups = refl;
        goes_on = λ old at. absurd (none-some old (sym (entry_past b.leagues) ∙ at));
        entries = nobody_moves b leagues;
      },
    )

-- a league that is not there before is not there behind
nowhere : (change : LeagueFacts → LeagueFacts) (leagues : List LeagueFacts) (l : ℕ) (o : Option LeagueFacts) (other : LeagueFacts) → entry_in leagues l ≡ o
    → entry_in (changed_in change leagues l) l ≡ Some other → (old : LeagueFacts) × ((entry_in leagues l ≡ Some old) × (change old ≡ other))
nowhere change leagues l (Some old) other before at = (old, (before, same_Some (change old) other (sym (entry_there change leagues l old before) ∙ at)))
nowhere change leagues l None other before at =
    let there = from_entry (changed_in change leagues l) l other (l == 0) refl at in
    let past : slice_get leagues (l - 1) ≡ None = ap (λ t. if t then None else slice_get leagues (l - 1)) (sym (above_0 l there.0)) ∙ before in
    absurd (none-some other (sym (gone leagues l (l - 1) past) ∙ there.1))
  where
    gone : (xs : List LeagueFacts) (k i : ℕ) → slice_get xs i ≡ None → slice_get (changed_in change xs k) i ≡ None
    gone [] k i e = e
    gone (x ∷ xs) zero i e = e
    gone (x ∷ xs) (suc zero) zero e = absurd (none-some x (sym e))
    gone (x ∷ xs) (suc zero) (suc i) e = e
    gone (x ∷ xs) (suc (suc k)) zero e = absurd (none-some x (sym e))
    gone (x ∷ xs) (suc (suc k)) (suc i) e = gone xs (suc k) i e

-- a league that is changed in a way in which it goes on, in an order of its members
league_changes : (b : SeasonFacts) (change : LeagueFacts → LeagueFacts) (l : ℕ)
    → ((old : LeagueFacts) → entry_in b.leagues l ≡ Some old → GoesOn old (change old) × IsOrder (change old)) → IsSeason b
    → let d = with_leagues b (changed_in change b.leagues l) in IsSeason d × DifferInLeague b d l
league_changes b change l on is =
    let leagues = changed_in change b.leagues l in (
      season_stays b leagues is (λ k other at. ⊎_elim
          (λ e. let r = nowhere change b.leagues l (entry_in b.leagues l) other refl (subst (λ n. entry_in leagues n ≡ Some other) e at) in subst IsOrder r.1.1 (on r.0 r.1.0).1)
          (λ n. is.orders k other (entry_changed change b.leagues l k n ∙ at))
          (same_or_not k l)),
      record {
        profile = refl;
        calendar = refl;
        players = refl;
        matches = refl;
        others = entry_changed change b.leagues l;
        cups = refl;
        goes_on = λ old at. subst (λ o. IsSomeAnd o (GoesOn old)) (sym (entry_there change b.leagues l old at)) (on old at).0;
        entries = nobody_moves b leagues;
      },
    )

stays_member : (e : ℕ) (old : LeagueFacts) (m : ℕ) → is_member old m ≡ true → is_member (with_member e old) m ≡ true
stays_member e old m y = ⊎_elim
    (λ i. subst (λ x. is_member (with_member e old) x ≡ true) (sym i) (member_now old e))
    (λ n. member_as_before old e m n ∙ y)
    (same_or_not m e)

pub league_is_joined : LeagueIsJoined
league_is_joined b l e is = league_changes b (with_member e) l
    (λ old at. (record { kind = refl; start = refl; members = stays_member e old; order = inr refl }, joined_by old e (is.orders l old at)))
    is

pub league_is_drawn : LeagueIsDrawn
league_is_drawn b l order is can = league_changes b (with_order order) l
    (λ old at. (record { kind = refl; start = refl; members = λ m y. y; order = inl (can old at).open_still }, (can old at).drawn))
    is
