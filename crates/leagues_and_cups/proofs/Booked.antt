-- The rows of entries beside the leagues, as leagues are added and changed, and leagues by their numbers.
use Rattle.std.proofs.Common.{◌≡◌, ◌≢◌, ◌∙◌, sym, ap, refl, subst, ℕ, zero, suc, ◌+◌, ◌-◌, ◌<◌, ◌≤◌, Bool, true, false, List, [], ◌∷◌, ◌++◌, length, get_or, set, arith, inl, inr, if◌then◌else◌, length-append}
use Rattle.std.specs.Prelude.{IsSomeAnd, ◌==◌, slice_get}
use Rattle.std.specs.List.{All, list_any}
use Rattle.std.proofs.lemmas.Bool.{cases_eq}
use Rattle.std.proofs.lemmas.Bool.Decides.{nat_tests}
use Rattle.std.proofs.lemmas.List.{append-nil, length-set}
use Rattle.std.proofs.lemmas.List.Elements.{All-weaker}
use Rattle.rule_book.specs.Entries.{changed_in, entry_in}
use Rattle.rule_book.specs.LeagueCalls.{is_member, leagues_of, most_leagues, with_member}
use Rattle.rule_book.specs.Leagues.{LeagueFacts}
use Rattle.leagues_and_cups.specs.Books.{AreBooked, row_entered, row_of, with_number}
use Rattle.leagues_and_cups.proofs.Members.{member_as_before}
use Rattle.leagues_and_cups.proofs.LeaguesOf.{absent_from, added_from, changed_from, in_range, joined_from}
use Rattle.leagues_and_cups.proofs.Numbers.{with_between}

-- a league that is there stands at the place before its number
there_at : (P : LeagueFacts → Type 0) (leagues : List LeagueFacts) (k : ℕ) → IsSomeAnd (slice_get leagues k) P → (k < length leagues) × ((d : LeagueFacts) → P (get_or leagues k d))
there_at P [] k holds = absurd holds
there_at P (league ∷ leagues) zero holds = (omega arith, λ d. holds)
there_at P (league ∷ leagues) (suc k) holds = let more = there_at P leagues k holds in (omega (arith, more.0), more.1)

pub there : (P : LeagueFacts → Type 0) (leagues : List LeagueFacts) (l : ℕ) → 1 ≤ l → IsSomeAnd (entry_in leagues l) P → (l - 1 < length leagues) × ((d : LeagueFacts) → P (get_or leagues (l - 1) d))
there P leagues l from_1 holds =
    let some : (l == 0) ≡ false = grind (arith, nat_tests) in
    there_at P leagues (l - 1) (rw some at holds)

-- a change of a league is written at its place
changed_at : (change : LeagueFacts → LeagueFacts) (leagues : List LeagueFacts) (k : ℕ) (d : LeagueFacts) → changed_in change leagues (suc k) ≡ set leagues k (change (get_or leagues k d))
changed_at change [] k d = refl
changed_at change (league ∷ leagues) zero d = refl
changed_at change (league ∷ leagues) (suc k) d = ap (λ r. league ∷ r) (changed_at change leagues k d)

pub changed : (change : LeagueFacts → LeagueFacts) (leagues : List LeagueFacts) (l : ℕ) (d : LeagueFacts) → 1 ≤ l → set leagues (l - 1) (change (get_or leagues (l - 1) d)) ≡ changed_in change leagues l
changed change leagues l d from_1 = sym (subst (λ n. changed_in change leagues n ≡ set leagues (l - 1) (change (get_or leagues (l - 1) d))) {x = suc (l - 1)} (omega arith) (changed_at change leagues (l - 1) d))

module _ (leagues : List LeagueFacts) (rows : List (List ℕ)) (booked : AreBooked leagues rows) (e : ℕ) where
  -- the next number is none of an entry's leagues
  below : All (λ l. l < length leagues + 1) (leagues_of leagues e)
  below = All-weaker (λ l. (1 ≤ l) × (l < 1 + length leagues)) (λ l. l < length leagues + 1) (λ l h. omega (arith, h.1)) (leagues_of leagues e) (in_range 1 leagues e)

  pub next_is_new : (l : ℕ) → l ≡ length leagues + 1 → All (λ m. m ≢ l) (row_of rows e)
  next_is_new l next = rw (booked.told e) (All-weaker (λ m. m < length leagues + 1) (λ m. m ≢ l) (λ m h same. omega arith) (leagues_of leagues e) below)

  -- and no league is one of them where the entry is no member
  pub joined_is_new : (l : ℕ) (d : LeagueFacts) → 1 ≤ l → l - 1 < length leagues → is_member (get_or leagues (l - 1) d) e ≡ false → All (λ m. m ≢ l) (row_of rows e)
  joined_is_new l d from_1 lt none =
      let number : 1 + (l - 1) ≡ l = omega arith in
      rw (booked.told e) (subst (λ n. All (λ m. m ≢ n) (leagues_of leagues e)) number (absent_from 1 leagues (l - 1) d e lt none))

  -- the next league is the last of its members
  pub row_more : (l : ℕ) (new : LeagueFacts) → l ≡ length leagues + 1 → row_entered new.members l rows e ≡ leagues_of (leagues ++ new ∷ []) e
  row_more l new next = by (is_member new e) ∙ sym (added_from 1 leagues new e)
    where
      last : with_number l (leagues_of leagues e) ≡ leagues_of leagues e ++ l ∷ []
      last =
          subst (λ ls. with_number l ls ≡ leagues_of leagues e ++ l ∷ []) (append-nil (leagues_of leagues e))
          (with_between l (leagues_of leagues e) [] (All-weaker (λ m. m < length leagues + 1) (λ m. m < l) (λ m h. omega arith) (leagues_of leagues e) below) (λ k d lt. absurd (omega arith)))

      by : (b : Bool) → (if b then with_number l (row_of rows e) else row_of rows e) ≡ leagues_of leagues e ++ (if b then (1 + length leagues) ∷ [] else [])
      by true = ap (with_number l) (booked.told e) ∙ (last ∙ ap (λ n. leagues_of leagues e ++ n ∷ []) (omega (arith, next)))
      by false = booked.told e ∙ sym (append-nil (leagues_of leagues e))

  module _ (rows_new : List (List ℕ)) (l : ℕ) (put : row_of rows_new e ≡ with_number l (row_of rows e)) (others : (d : ℕ) → d ≢ e → row_of rows_new d ≡ row_of rows d) where
    -- a new league with one member
    pub booked_add : (new : LeagueFacts) → length leagues < most_leagues → l ≡ length leagues + 1 → new.members ≡ e ∷ [] → AreBooked (leagues ++ new ∷ []) rows_new
    booked_add new room next alone = record {
      few = omega (arith, length-append leagues (new ∷ []));
      told = λ d. elim (cases_eq d e) [
        | inl same ↦ subst (λ n. row_of rows_new n ≡ leagues_of (leagues ++ new ∷ []) n) (sym same) his
        | inr other ↦ others d other ∙ (booked.told d ∙ sym (theirs d other))
      ];
    }
      where
        member : (d : ℕ) (b : Bool) → (e == d) ≡ b → leagues_of (leagues ++ new ∷ []) d ≡ leagues_of leagues d ++ (if b then l ∷ [] else [])
        member d b is =
            let one : is_member new d ≡ b = ap (λ members. list_any (λ m. m == d) members) alone ∙ grind (arith, nat_tests, is) in
            let number : 1 + length leagues ≡ l = omega (arith, next) in
            added_from 1 leagues new d ∙ rw (one, number) refl

        his : row_of rows_new e ≡ leagues_of (leagues ++ new ∷ []) e
        his =
            let last : with_number l (leagues_of leagues e) ≡ leagues_of leagues e ++ l ∷ [] =
            subst (λ ls. with_number l ls ≡ leagues_of leagues e ++ l ∷ []) (append-nil (leagues_of leagues e))
            (with_between l (leagues_of leagues e) [] (All-weaker (λ m. m < length leagues + 1) (λ m. m < l) (λ m h. omega arith) (leagues_of leagues e) below) (λ k d lt. absurd (omega arith))) in
            put ∙ (ap (with_number l) (booked.told e) ∙ (last ∙ sym (member e true (grind (arith, nat_tests)))))

        theirs : (d : ℕ) → d ≢ e → leagues_of (leagues ++ new ∷ []) d ≡ leagues_of leagues d
        theirs d other = member d false (grind (arith, nat_tests)) ∙ append-nil (leagues_of leagues d)

    -- a member more
    pub booked_join : (d : LeagueFacts) → 1 ≤ l → l - 1 < length leagues → is_member (get_or leagues (l - 1) d) e ≡ false → AreBooked (set leagues (l - 1) (with_member e (get_or leagues (l - 1) d))) rows_new
    booked_join z from_1 lt none = record {
      few = omega (arith, length-set leagues (l - 1) (with_member e (get_or leagues (l - 1) z)), booked.few);
      told = λ d. elim (cases_eq d e) [
        | inl same ↦ subst (λ n. row_of rows_new n ≡ leagues_of after n) (sym same) his
        | inr other ↦ others d other ∙ (booked.told d ∙ sym (changed_from 1 leagues (l - 1) (with_member e (get_or leagues (l - 1) z)) z d (member_as_before (get_or leagues (l - 1) z) e d other)))
      ];
    }
      where
        after : List LeagueFacts
        after = set leagues (l - 1) (with_member e (get_or leagues (l - 1) z))

        his : row_of rows_new e ≡ leagues_of after e
        his =
            let number : 1 + (l - 1) ≡ l = omega arith in
            put ∙ (ap (with_number l) (booked.told e) ∙ sym (joined_from 1 leagues (l - 1) z e lt none ∙ ap (λ n. with_number n (leagues_of leagues e)) number))

-- a new league with its members
pub booked_more : (leagues : List LeagueFacts) (rows rows_new : List (List ℕ)) (l : ℕ) (new : LeagueFacts) → AreBooked leagues rows → length leagues < most_leagues → l ≡ length leagues + 1
    → ((e : ℕ) → row_of rows_new e ≡ row_entered new.members l rows e) → AreBooked (leagues ++ new ∷ []) rows_new
booked_more leagues rows rows_new l new booked room next entered = record {
  few = omega (arith, length-append leagues (new ∷ []));
  told = λ e. entered e ∙ row_more leagues rows booked e l new next;
}

-- the rows stay where no one comes or goes
pub booked_stay : (leagues : List LeagueFacts) (rows : List (List ℕ)) (k : ℕ) (new d : LeagueFacts) → new.members ≡ (get_or leagues k d).members → AreBooked leagues rows → AreBooked (set leagues k new) rows
booked_stay leagues rows k new d same booked = record {
  few = omega (arith, length-set leagues k new, booked.few);
  told = λ e. booked.told e ∙ sym (changed_from 1 leagues k new d e (ap (λ members. list_any (λ m. m == e) members) same));
}
