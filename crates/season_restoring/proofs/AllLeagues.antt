-- All leagues of lawful records: what restored leagues tell is what the records tell.
use Rattle.std.proofs.Common.{◌≡◌, ◌<◌, ◌≤◌, ◌+◌, ◌-◌, ◌∙◌, ℕ, zero, suc, true, false, not, ◌&&◌, ◌==◌, cond, List, [], ◌∷◌, ◌++◌, length, get_or, nat_le, Option, Some, None, IfOk, if◌then◌else◌, refl, sym, ap, subst, inl, inr, arith}
use Rattle.std.specs.List.{All, AllPairs, list_any}
use Rattle.std.specs.Option.{is_some, option_and_then, option_map}
use Rattle.std.specs.Prelude.{Result, Ok, Err, slice_get}
use Rattle.std.proofs.lemmas.Bool.{cases_Bool, cases_lt, ne_eqb, not-false, or_parts, true≢false}
use Rattle.std.proofs.lemmas.Bool.Decides.{nat_tests}
use Rattle.fpl_base.specs.Keeping.{KeysRise, Map, map_of}
use Rattle.season_records.specs.ItemReading.{item_of}
use Rattle.season_records.specs.Keys.{key_of}
use Rattle.season_records.specs.declared.item.Item.{Item}
use Rattle.season_records.specs.declared.item.Item.TheVariants as item
use Rattle.season_records.specs.declared.slot.Slot.TheVariants as slot
use Rattle.rule_book.specs.Entries.{entry_in}
use Rattle.rule_book.specs.LeagueCalls.{most_leagues}
use Rattle.rule_book.specs.Leagues.{LeagueFacts}
use Rattle.stored_records.specs.SeasonRules.{misses}
use Rattle.stored_records.specs.Stored.{Rows, between, is_there, told}
use Rattle.store_validation.proofs.EntriesJudged.{and_then_some, nothing_broken}
use Rattle.store_validation.specs.Lawful.{judged}
use Rattle.store_validation.specs.LeagueRules.{member_breaks, members_of}
use Rattle.season_competitions.specs.Leagues.{AreMembers}
use Rattle.season_records.specs.Records.{league_item, member_told}
use Rattle.season_restoring.specs.LeagueRestoring.{AreLeaguesRestored, GoesOn, IsLeagueRestored, LeaguesEnd}
use Rattle.season_restoring.proofs.Issued.{slice_pushed, slice_there}
use Rattle.season_restoring.proofs.LeagueNumbers.{AreThere, at_least}
use Rattle.season_restoring.proofs.MemberRows.{each_member, member_is, members_rise}
use Rattle.season_restoring.proofs.Numbers.{entry_at}
use Rattle.season_restoring.proofs.OneLeague.{few_leagues, no_gap, parts_there, spelled}

some_is : {A : Type 0} (x y : A) → Some x ≡ Some y → x ≡ y
some_is x y e = cc

some_not_none : {A : Type 0} (x : A) (o : Option A) → o ≡ Some x → o ≡ None → ⊥
some_not_none x o some none = absurd (cc)

-- Lists.

slice_at : {A : Type 0} (xs : List A) (i : ℕ) (d : A) → i < length xs → slice_get xs i ≡ Some (get_or xs i d)
slice_at [] i d less = absurd (omega (arith, less))
slice_at (x ∷ xs) zero d less = refl
slice_at (x ∷ xs) (suc i) d less = slice_at xs i d (omega (arith, less))

-- One more.

pub one_more : (rows : Rows) (leagues more : List LeagueFacts) (new : LeagueFacts) → more ≡ leagues ++ new ∷ [] → AreLeaguesRestored rows leagues → IsLeagueRestored rows (length leagues + 1) new
    → AreLeaguesRestored rows more
one_more rows leagues more new is restored last = subst (AreLeaguesRestored rows) (sym is) by
  where
    by : AreLeaguesRestored rows (leagues ++ new ∷ [])
    by zero league found = absurd (cc)
    by (suc i) league found = elim (slice_pushed leagues new i league (sym (entry_at (leagues ++ new ∷ []) i) ∙ found)) [
      | inl there ↦ restored (suc i) league (entry_at leagues i ∙ there)
      | inr at ↦ subst (IsLeagueRestored rows (suc i)) at.1 (subst (λ n. IsLeagueRestored rows n new) (ap (λ n. n + 1) (sym at.0) ∙ omega arith) last)
    ]

-- A league and its members by what is there.

untold : (m : Map) (l : ℕ) → is_there m (slot.League l) ≡ false → told m (slot.League l) ≡ None
untold m l away = by (m (key_of (slot.League l))) refl
  where
    by : (o : Option (List ℕ)) → m (key_of (slot.League l)) ≡ o → told m (slot.League l) ≡ None
    by None is = ap (option_and_then (item_of (key_of (slot.League l)))) is
    by (Some body) is = absurd (true≢false (sym (ap is_some is) ∙ away))

there_told : (m : Map) (l : ℕ) (i : Item) → told m (slot.League l) ≡ Some i → is_there m (slot.League l) ≡ true
there_told m l i is = ap is_some (and_then_some (item_of (key_of (slot.League l))) (m (key_of (slot.League l))) i is).1

no_league_zero : (m : Map) → told m (slot.League 0) ≡ None
no_league_zero m = by (m (key_of (slot.League 0)))
  where
    by : (o : Option (List ℕ)) → option_and_then (item_of (key_of (slot.League 0))) o ≡ None
    by None = refl
    by (Some body) = refl

module _ (rows : Rows) (rise : KeysRise rows) (lawful : judged rows ≡ None) where
  -- Behind one that is not there, none is.
  none_behind : (count : ℕ) → LeaguesEnd rows count → (d : ℕ) → is_there (map_of rows) (slot.League (count + 1 + d)) ≡ false
  none_behind count ends zero = ap (λ l. is_there (map_of rows) (slot.League l)) (omega arith) ∙ ends
  none_behind count ends (suc d) = elim (cases_Bool (is_there (map_of rows) (slot.League (count + 1 + suc d)))) [
    | inr away ↦ away
    | inl there ↦
        let own = parts_there rows lawful (count + 1 + suc d) there in
        let gap = no_gap rows rise lawful (count + 1 + suc d) own.0 own.1 in
        let later : (count + 1 + suc d == 1) ≡ false = ne_eqb (count + 1 + suc d) 1 (λ e. omega (arith, e)) in
        let misses_it : misses (map_of rows) (slot.League (count + 1 + suc d - 1)) ≡ false
        = sym (ap (λ b. not b && misses (map_of rows) (slot.League (count + 1 + suc d - 1))) later) ∙ gap in
        let before : is_there (map_of rows) (slot.League (count + 1 + suc d - 1)) ≡ true = not-false (is_there (map_of rows) (slot.League (count + 1 + suc d - 1))) misses_it in
        let same : count + 1 + suc d - 1 ≡ count + 1 + d = omega arith in
        absurd (true≢false (sym before ∙ (ap (λ l. is_there (map_of rows) (slot.League l)) same ∙ none_behind count ends d)))
  ]

  module _ (leagues : List LeagueFacts) (restored : AreLeaguesRestored rows leagues) where
    are_there : AreThere rows (length leagues)
    are_there zero low high = absurd (omega (arith, low))
    are_there (suc i) low high =
        let league = slice_there leagues i (omega (arith, high)) in
        let own = restored (suc i) league.0 (entry_at leagues i ∙ league.1) in
        there_told (map_of rows) (suc i) (league_item (suc i) league.0) (sym own.own)

    -- There is room for one that is there.
    pub room : GoesOn rows (length leagues) → length leagues < most_leagues
    room there =
        let own = parts_there rows lawful (length leagues + 1) there in
        less (between rows (key_of (slot.League 0)) (key_of (slot.League (length leagues + 1)))) (few_leagues rows rise lawful (length leagues + 1) own.0 own.1) (at_least rows (length leagues) are_there)
      where
        less : (n : ℕ) → nat_le 512 n ≡ false → length leagues ≤ n → length leagues < 512
        less n few many = grind (arith, nat_tests, few, many)

    -- So many are all that there can be.
    pub full : 512 ≤ length leagues → LeaguesEnd rows (length leagues)
    full many = elim (cases_Bool (is_there (map_of rows) (slot.League (length leagues + 1)))) [
      | inr away ↦ away
      | inl there ↦ absurd (let less = room there in omega (arith, less, many))
    ]

    module _ (ends : LeaguesEnd rows (length leagues)) where
      no_league : (l : ℕ) → entry_in leagues l ≡ None → told (map_of rows) (slot.League l) ≡ None
      no_league zero none = no_league_zero (map_of rows)
      no_league (suc i) none =
          elim (cases_lt i (length leagues)) [
            | inl less ↦ absurd (let there = slice_there leagues i less in some_not_none there.0 (slice_get leagues i) there.1 (sym (entry_at leagues i) ∙ none))
            | inr more ↦ ap (λ l. told (map_of rows) (slot.League l)) (same more) ∙ untold (map_of rows) (length leagues + 1 + (i - length leagues)) (none_behind (length leagues) ends (i - length leagues))
          ]
        where
          same : length leagues ≤ i → suc i ≡ length leagues + 1 + (i - length leagues)
          same more = omega (arith, more)

      pub leagues_told : (l : ℕ) → option_map (league_item l) (entry_in leagues l) ≡ told (map_of rows) (slot.League l)
      leagues_told l = by (entry_in leagues l) refl
        where
          by : (o : Option LeagueFacts) → entry_in leagues l ≡ o → option_map (league_item l) o ≡ told (map_of rows) (slot.League l)
          by None is = sym (no_league l is)
          by (Some league) is = (restored l league is).own

      no_member : (l e : ℕ) → entry_in leagues l ≡ None → told (map_of rows) (slot.Member l e) ≡ None
      no_member l e none = elim (cases_Bool (list_any (λ m. m == e) (members_of rows l))) [
        | inr away ↦ sym (member_is rows rise lawful l e) ∙ ap (λ b. cond b (Some (item.Member l e)) None) away
        | inl so ↦
            let is : told (map_of rows) (slot.Member l e) ≡ Some (item.Member l e) = sym (member_is rows rise lawful l e) ∙ ap (λ b. cond b (Some (item.Member l e)) None) so in
            let right : member_breaks rows l e ≡ false = nothing_broken rows lawful (slot.Member l e) (item.Member l e) is in
            let there : is_there (map_of rows) (slot.League l) ≡ true = not-false (is_there (map_of rows) (slot.League l)) (or_parts _ _ (or_parts _ _ (or_parts _ _ right).0).0).0 in
            let tells = spelled rows lawful (slot.League l) there in
            absurd (some_not_none tells.0 (told (map_of rows) (slot.League l)) tells.1 (no_league l none))
      ]

      pub members_told : (l e : ℕ) → option_and_then (member_told l e) (entry_in leagues l) ≡ told (map_of rows) (slot.Member l e)
      members_told l e = by (entry_in leagues l) refl
        where
          by : (o : Option LeagueFacts) → entry_in leagues l ≡ o → option_and_then (member_told l e) o ≡ told (map_of rows) (slot.Member l e)
          by None is = sym (no_member l e is)
          by (Some league) is =
              ap (λ (ms : List ℕ). if list_any (λ m. m == e) ms then Some (item.Member l e) else None) (restored l league is).of_rows ∙ member_is rows rise lawful l e

    pub ordered : (l : ℕ) (league : LeagueFacts) → entry_in leagues l ≡ Some league → AllPairs (λ m n. m < n) league.members
    ordered l league is = subst (AllPairs (λ m n. m < n)) (sym (restored l league is).of_rows) (members_rise rows rise lawful l)

    entries_of : (n : ℕ) → ((e : ℕ) (i : Item) → told (map_of rows) (slot.Entry e) ≡ Some i → e ≤ n) → (l : ℕ) → All (λ e. e ≤ n) (members_of rows l)
    entries_of n all l i d lt =
        let own = each_member rows rise lawful l i d lt in
        let there : is_there (map_of rows) (slot.Entry (get_or (members_of rows l) i d)) ≡ true
        = not-false (is_there (map_of rows) (slot.Entry (get_or (members_of rows l) i d))) (or_parts _ _ (or_parts _ _ (or_parts _ _ own.1.right).0).0).1 in
        let tells = spelled rows lawful (slot.Entry (get_or (members_of rows l) i d)) there in
        all (get_or (members_of rows l) i d) tells.0 tells.1

    pub entries : (n : ℕ) → ((e : ℕ) (i : Item) → told (map_of rows) (slot.Entry e) ≡ Some i → e ≤ n) → AreMembers n leagues
    entries n all i d lt =
        let own = restored (suc i) (get_or leagues i d) (entry_at leagues i ∙ slice_at leagues i d lt) in
        subst (All (λ e. e ≤ n)) (sym own.of_rows) (entries_of n all (suc i))

-- Of calls.

pub if_one : {T E : Type 0} (P R : T → Type 0) (r : Result T E) → ((t : T) → P t → R t) → IfOk r P → IfOk r R
if_one P R (Ok t) to p = to t p
if_one P R (Err e) to p = p
