-- The teams and transfers of an entry whose records break no rule are records that a book takes.
use Rattle.std.proofs.Common.{◌≡◌, ℕ, ◌+◌, ◌-◌, ◌<◌, ◌≤◌, Bool, true, false, cond, not, ◌&&◌, ◌||◌, eqb, List, [], ◌∷◌, length, Option, Some, None, arith, refl, sym, ap, ◌∙◌, subst, ◌⊎◌, inl, inr}
use Rattle.std.specs.List.{AllByRecursion as Each}
use Rattle.std.specs.Option.{is_some, option_map, option_map_or}
use Rattle.std.specs.Prelude.{nat_le, nat_lt}
use Rattle.std.proofs.lemmas.Bool.{and_parts, not-false, not-true, or_cases, eqb-true, eq-eqb, leb-true, ltb-true, cases_Bool, true≢false}
use Rattle.fpl_base.specs.Keeping.{Map}
use Rattle.fpl_base.specs.declared.kinds.Chip.{Chip}
use Rattle.fpl_base.specs.declared.kinds.Chip.TheVariants.{None as NoChip, Wildcard, FreeHit, BenchBoost, TripleCaptain}
use Rattle.record_fields.specs.Ranges.{is_between}
use Rattle.rule_book.specs.declared.team.Team.{Team}
use Rattle.rule_book.specs.declared.transfers.Sale.{Sale}
use Rattle.rule_book.specs.EntryCalls.{transfer_limit}
use Rattle.rule_book.specs.EntryRecords.{FirstIsBare, FollowsOn, IsFifteen, IsPriced, IsPricedSale, RecordFollows, SameHoldings, after_sales, earned_for, first_of, paid_for, sales_in, team_before, team_recorded}
use Rattle.rule_book.specs.History.{is_free_hit}
use Rattle.rule_book.specs.HistoryTeam.{holdings}
use Rattle.rule_book.specs.HistoryTransfers.{makes_free}
use Rattle.stored_records.specs.declared.entry_told.RecordedTeam.{RecordedTeam}
use Rattle.stored_records.specs.EntryTold.{chip_told, first_told, is_between_ends, is_first_of, is_in_time, last_open, sale_told, team_told}
use Rattle.stored_records.specs.SeasonRules.{terms_told}
use Rattle.stored_records.specs.Sequels.{are_same_holdings, base_told, every_sale_told, follows, goes_on, holdings_told, opens_with, sales_told}
use Rattle.stored_records.proofs.Alike.{same_from}
use Rattle.store_validation.proofs.Picks.{different_from, holdings_at, priced_from}
use Rattle.store_validation.specs.EntryRules.{entry_breaks}
use Rattle.store_validation.specs.TeamRules.{is_distinct, is_fit, is_lined_up, is_playable, is_played_again, is_priced, is_too_early, has_players, is_lawful_team, position_told, positions_told}
use Rattle.store_validation.specs.TransferRules.{is_next_number, is_priced_sale, names_players, term_told, is_lawful_sale}
use Rattle.store_validation.specs.EntryLaws.{AreItsSales, AreItsTeams, IsLawfulEntry, LawfulEntriesAreRestored, NumberedSale, sales_of_rows, team_of_record}
use Rattle.store_validation.proofs.Listed.{all_from_one, found_first, before_as, first_is, none_before_first, none_is}
use Rattle.store_validation.proofs.Numbered.{IsGapless, every_is, few_from, nothing_told, of_each, sales_are}

-- Time: what the gameweek of a lawful record is.

pub record IsInTime (first : Option ℕ) (g : ℕ) : Type 0 where
  pub start : ℕ
  pub first_is : first ≡ Some start
  pub from_one : 1 ≤ g
  pub from_start : start ≤ g

time_from : (m : Map) (g : ℕ) (first : Option ℕ) → option_map_or (λ s. is_between_ends (terms_told m) s g) first false ≡ true → IsInTime first g
time_from m g None e = absurd (true≢false (sym e))
time_from m g (Some s) e =
    let last = and_parts (nat_le 1 g && nat_le g (length (terms_told m).deadlines) && nat_le s g) (nat_le g (last_open (terms_told m))) e in
    let low = and_parts (nat_le 1 g && nat_le g (length (terms_told m).deadlines)) (nat_le s g) last.0 in
    let one = and_parts (nat_le 1 g) (nat_le g (length (terms_told m).deadlines)) low.0 in
    record { start = s; first_is = refl; from_one = leb-true 1 g one.0; from_start = leb-true s g low.1 }

-- What a lawful team keeps.

pub record IsLawfulTeam (m : Map) (e g : ℕ) (t : RecordedTeam) : Type 0 where
  pub time : IsInTime (first_told m e) g
  pub distinct : is_distinct t.picks ≡ true
  pub priced : is_priced t.picks ≡ true
  pub on_time : is_too_early m e g t.chip ≡ false
  pub sequel : goes_on m e g t ≡ true

lawful_team : (m : Map) (e g : ℕ) (t : RecordedTeam) → not (is_lawful_team m e g t) ≡ false → IsLawfulTeam m e g t
lawful_team m e g t lawful =
    let all = and_parts (is_in_time m e g && is_fit m t && is_playable m e g t.chip) (goes_on m e g t) (not-false _ lawful) in
    let three = and_parts (is_in_time m e g && is_fit m t) (is_playable m e g t.chip) all.0 in
    let two = and_parts (is_in_time m e g) (is_fit m t) three.0 in
    let chips = and_parts (not (is_too_early m e g t.chip)) (not (is_played_again m e g t.chip)) three.1 in
    let fit = and_parts (has_players m t.picks && is_priced t.picks && is_distinct t.picks) (is_lined_up (positions_told m t.picks) t.captain t.vice) two.1 in
    let fit_two = and_parts (has_players m t.picks && is_priced t.picks) (is_distinct t.picks) fit.0 in
    let fit_one = and_parts (has_players m t.picks) (is_priced t.picks) fit_two.0 in
    record {
      time = time_from m g (first_told m e) two.0;
      distinct = fit_two.1;
      priced = fit_one.1;
      on_time = not-true _ chips.0;
      sequel = all.1;
    }

-- What a lawful transfer keeps.

pub record IsLawfulSale (m : Map) (e g n : ℕ) (s : Sale) : Type 0 where
  pub team : is_some (team_told m e g) ≡ true
  pub few : n ≤ 1000
  pub next : (n ≡ 1) ⊎ ((1 < n) × (is_some (sale_told m e g (n - 1)) ≡ true))
  pub priced : IsPricedSale s

limit_most : (first : Bool) (chip : Chip) → transfer_limit first chip ≤ 1000
limit_most first chip = limit_of (first || makes_free chip)
  where
    limit_of : (b : Bool) → cond b 1000 20 ≤ 1000
    limit_of true = omega arith
    limit_of false = omega arith

between : (p : ℕ) → is_between 30 200 p ≡ true → (30 ≤ p) × (p ≤ 200)
between p e = let parts = and_parts (nat_le 30 p) (nat_le p 200) e in (leb-true 30 p parts.0, leb-true p 200 parts.1)

lawful_sale : (m : Map) (e g n : ℕ) (s : Sale) → not (is_lawful_sale m e g n s) ≡ false → IsLawfulSale m e g n s
lawful_sale m e g n s lawful =
    let term = term_told m e g in
    let all = and_parts (term.open_to_transfers && nat_le n term.most && is_next_number m e g n && names_players m s) (is_priced_sale s) (not-false _ lawful) in
    let four = and_parts (term.open_to_transfers && nat_le n term.most && is_next_number m e g n) (names_players m s) all.0 in
    let three = and_parts (term.open_to_transfers && nat_le n term.most) (is_next_number m e g n) four.0 in
    let two = and_parts term.open_to_transfers (nat_le n term.most) three.0 in
    let there = and_parts (is_in_time m e g) (is_some (team_told m e g)) two.0 in
    let prices = and_parts (is_between 30 200 s.sold) (is_between 30 200 s.bought) all.1 in
    let sold = between s.sold prices.0 in
    let bought = between s.bought prices.1 in
    record {
      team = there.1;
      few = omega (arith, leb-true n term.most two.1, limit_most (is_first_of m e g) (chip_told m e g));
      next = elim (or_cases (eqb n 1) (nat_lt 1 n && is_some (sale_told m e g (n - 1))) three.1) [
        | inl one ↦ inl (eqb-true n 1 one)
        | inr more ↦ (let parts = and_parts (nat_lt 1 n) (is_some (sale_told m e g (n - 1))) more in inr (ltb-true 1 n parts.0, parts.1))
      ];
      priced = (sold.0, sold.1, bought.0, bought.1);
    }

-- Look-ups.

pub mapped_some : {A B : Type 0} (f : A → B) (o : Option A) (y : B) → option_map f o ≡ Some y → (x : A) × (o ≡ Some x)
mapped_some f None y e = absurd (cc)
mapped_some f (Some x) y e = (x, refl)

is_some_from : {A : Type 0} (o : Option A) → is_some o ≡ true → (x : A) × (o ≡ Some x)
is_some_from None e = absurd (true≢false (sym e))
is_some_from (Some x) e = (x, refl)

same_some : (a b : ℕ) (o : Option ℕ) → o ≡ Some a → o ≡ Some b → a ≡ b
same_some a b o one other = cc

-- An entry's first gameweek has a team.
team_first : (m : Map) (e : ℕ) (first : Option ℕ) (s : ℕ) → entry_breaks m e first ≡ false → first ≡ Some s → is_some (team_told m e s) ≡ true
team_first m e None s lawful is = absurd (cc)
team_first m e (Some g) s lawful is =
    let same : g ≡ s = same_some g s (Some g) refl is in
    subst (λ h. is_some (team_told m e h) ≡ true) same (not-false _ lawful)

pub lawful_at : (m : Map) (e : ℕ) → IsLawfulEntry m e → (g : ℕ) (t : RecordedTeam) → team_told m e g ≡ Some t → IsLawfulTeam m e g t
lawful_at m e lawful g t found = lawful_team m e g t (lawful.teams g t found)

pub lawful_sale_at : (m : Map) (e : ℕ) → IsLawfulEntry m e → (g n : ℕ) (s : Sale) → sale_told m e g n ≡ Some s → IsLawfulSale m e g n s
lawful_sale_at m e lawful g n s found = lawful_sale m e g n s (lawful.sales g n s found)

-- before an entry's first gameweek, and without one, there is no team
pub no_team : (m : Map) (e : ℕ) → IsLawfulEntry m e → (g : ℕ) → (IsInTime (first_told m e) g → ⊥) → team_told m e g ≡ None
no_team m e lawful g out = none_of (team_told m e g) refl
  where
    none_of : (o : Option RecordedTeam) → team_told m e g ≡ o → team_told m e g ≡ None
    none_of None is = is
    none_of (Some t) is = absurd (out (lawful_at m e lawful g t is).time)

pub recorded_at : (m : Map) (e : ℕ) (teams : List (ℕ × Team)) → AreItsTeams m e teams → (g : ℕ) (x : Team) → team_recorded teams g ≡ Some x
    → (t : RecordedTeam) × (team_told m e g ≡ Some t) × (x ≡ team_of_record m t)
recorded_at m e teams its g x found =
    let there = mapped_some (team_of_record m) (team_told m e g) x (sym (its.told g) ∙ found) in
    (there.0, there.1, some_same x (team_of_record m there.0) (team_recorded teams g) found (its.told g ∙ ap (option_map (team_of_record m)) there.1))
  where
    some_same : (a b : Team) (o : Option Team) → o ≡ Some a → o ≡ Some b → a ≡ b
    some_same a b o one other = cc

starts_with : (m : Map) (e : ℕ) (teams : List (ℕ × Team)) → IsLawfulEntry m e → AreItsTeams m e teams → (first : Option ℕ) → first_told m e ≡ first → first_of teams ≡ first
starts_with m e teams lawful its None is =
    none_is teams (λ g. its.told g ∙ ap (option_map (team_of_record m)) (no_team m e lawful g (λ time. never time.start (first_told m e) time.first_is is)))
  where
    never : (s : ℕ) (o : Option ℕ) → o ≡ Some s → o ≡ None → ⊥
    never s o some none = absurd (cc)
starts_with m e teams lawful its (Some s) is =
    let there = is_some_from (team_told m e s) (team_first m e (first_told m e) s lawful.entry is) in
    first_is teams s (team_of_record m there.0) its.rise (its.told s ∙ ap (option_map (team_of_record m)) there.1)
    (λ g y found.
    let at = recorded_at m e teams its g y found in
    let time = (lawful_at m e lawful g at.0 at.1).time in
    let same : time.start ≡ s = same_some time.start s (first_told m e) time.first_is is in
    omega (arith, time.from_start))

-- the first gameweek has no free hit
free_hit_is_free : (chip : Chip) → makes_free chip ≡ false → is_free_hit chip ≡ false
free_hit_is_free NoChip e = refl
free_hit_is_free Wildcard e = refl
free_hit_is_free FreeHit e = absurd (true≢false e)
free_hit_is_free BenchBoost e = refl
free_hit_is_free TripleCaptain e = refl

first_when : (m : Map) (e g : ℕ) → first_told m e ≡ Some g → is_first_of m e g ≡ true
first_when m e g is = ap (λ o. option_map_or (λ first. eqb first g) o false) is ∙ eq-eqb g g refl

not_both : (a b : Bool) → a ≡ true → (a && b) ≡ false → b ≡ false
not_both a b holds e = sym (ap (λ x. x && b) holds) ∙ e

bare_from : (m : Map) (e : ℕ) (teams : List (ℕ × Team)) → IsLawfulEntry m e → AreItsTeams m e teams → first_of teams ≡ first_told m e → FirstIsBare teams
bare_from m e [] lawful its starts = tt
bare_from m e (t ∷ teams) lawful its starts =
    let at = recorded_at m e (t ∷ teams) its t.0 t.1 (found_first t teams) in
    let own = lawful_at m e lawful t.0 at.0 at.1 in
    let free = not_both (is_first_of m e t.0) (makes_free at.0.chip) (first_when m e t.0 (sym starts)) own.on_time in
    ap (λ u. is_free_hit u.chip) at.2 ∙ free_hit_is_free at.0.chip free

-- The transfers of a gameweek.

pub gapless : (m : Map) (e : ℕ) → IsLawfulEntry m e → (g : ℕ) → IsGapless (sale_told m e g)
gapless m e lawful g = record {
  behind = λ n s found. (lawful_sale_at m e lawful g n s found).next;
  few = λ n s found. (lawful_sale_at m e lawful g n s found).few;
}

every_as : (m : Map) (e : ℕ) → IsLawfulEntry m e → (g : ℕ) → every_sale_told m e g ≡ sales_told m e g
every_as m e lawful g = every_is (sale_told m e g) (gapless m e lawful g)

sales_as : (m : Map) (e : ℕ) (rows : List NumberedSale) → IsLawfulEntry m e → AreItsSales m e rows → (g : ℕ) → sales_in (sales_of_rows rows) g ≡ sales_told m e g
sales_as m e rows lawful its g =
    sales_are (sale_told m e g) (gapless m e lawful g) g rows its.rise
    (of_each (λ g n s. 1 ≤ n) rows its.rise
    (λ h n s found.
    elim (lawful_sale_at m e lawful h n s (sym (its.told h n) ∙ found)).next [ inl one ↦ omega arith | inr more ↦ omega (arith, more.0) ]))
    (its.told g)

each_mapped : (P : Sale → Type 0) (rows : List NumberedSale) → Each (λ r. P r.sale) rows → Each (λ s. P s.1) (sales_of_rows rows)
each_mapped P [] each = tt
each_mapped P (r ∷ rows) each = (each.0, each_mapped P rows each.1)

priced_sales : (m : Map) (e : ℕ) (rows : List NumberedSale) → IsLawfulEntry m e → AreItsSales m e rows → Each (λ s. IsPricedSale s.1) (sales_of_rows rows)
priced_sales m e rows lawful its =
    each_mapped IsPricedSale rows
    (of_each (λ g n s. IsPricedSale s) rows its.rise (λ g n s found. (lawful_sale_at m e lawful g n s (sym (its.told g n) ∙ found)).priced))

-- A gameweek follows from what was before it.

opened : (m : Map) (t : RecordedTeam) (sales : List Sale) → opens_with (paid_for sales) (earned_for sales) t.bank ≡ true → FollowsOn None sales (team_of_record m t)
opened m t sales e =
    let parts = and_parts (nat_le (t.bank + paid_for sales + 450) (1000 + earned_for sales)) (nat_le (1000 + earned_for sales) (t.bank + paid_for sales + 1000)) e in
    let low = leb-true _ _ parts.0 in
    let high = leb-true _ _ parts.1 in
    ((1000 + earned_for sales) - (t.bank + paid_for sales), omega (arith, low), omega (arith, high), omega (arith, low))

followed : (m : Map) (t : RecordedTeam) (sales : List Sale) (base : Option RecordedTeam) → follows base sales t ≡ true → FollowsOn (option_map (team_of_record m) base) sales (team_of_record m t)
followed m t sales None e = absurd (true≢false (sym e))
followed m t sales (Some b) e =
    let parts = and_parts (are_same_holdings (holdings_told t.picks) (after_sales sales (holdings_told b.picks))) (eqb (t.bank + paid_for sales) (b.bank + earned_for sales)) e in
    let same : SameHoldings (holdings_told t.picks) (after_sales sales (holdings_told b.picks)) = same_from _ _ parts.0 in (
      subst (λ a. SameHoldings a (after_sales sales (holdings (team_of_record m b).picks))) (sym (holdings_at (position_told m) t.picks))
          (subst (λ k. SameHoldings (holdings_told t.picks) (after_sales sales k)) (sym (holdings_at (position_told m) b.picks)) same),
      eqb-true _ _ parts.1,
    )

first_from : (m : Map) (e g : ℕ) (first : Option ℕ) → option_map_or (λ s. eqb s g) first false ≡ true → first ≡ Some g
first_from m e g None holds = absurd (true≢false (sym holds))
first_from m e g (Some s) holds = ap Some (eqb-true s g holds)

nothing_before : (m : Map) (e g : ℕ) → IsLawfulEntry m e → first_told m e ≡ Some g → base_told m e g ≡ None
nothing_before m e g lawful first =
    none_before_first (team_told m e) g
    (λ w less. no_team m e lawful w
    (λ time. let same : time.start ≡ g = same_some time.start g (first_told m e) time.first_is first in omega (arith, time.from_start)))

sequel_of : (m : Map) (e g : ℕ) (t : RecordedTeam) → IsLawfulEntry m e → goes_on m e g t ≡ true
    → FollowsOn (option_map (team_of_record m) (base_told m e g)) (every_sale_told m e g) (team_of_record m t)
sequel_of m e g t lawful on =
    elim (cases_Bool (is_first_of m e g)) [
      | inl holds ↦ (
          let none = nothing_before m e g lawful (first_from m e g (first_told m e) holds) in
          let opens = sym (ap (λ b. cond b (opens_with (paid_for (every_sale_told m e g)) (earned_for (every_sale_told m e g)) t.bank) (follows (base_told m e g) (every_sale_told m e g) t)) holds) ∙ on in
          subst (λ o. FollowsOn (option_map (team_of_record m) o) (every_sale_told m e g) (team_of_record m t)) (sym none) (opened m t (every_sale_told m e g) opens))
      | inr fails ↦ (
          let goes = sym (ap (λ b. cond b (opens_with (paid_for (every_sale_told m e g)) (earned_for (every_sale_told m e g)) t.bank) (follows (base_told m e g) (every_sale_told m e g) t)) fails) ∙ on in
          followed m t (every_sale_told m e g) (base_told m e g) goes)
    ]

fifteen : (m : Map) (t : RecordedTeam) → is_distinct t.picks ≡ true → is_priced t.picks ≡ true → IsFifteen (team_of_record m t)
fifteen m t distinct priced = record {
  different = different_from (position_told m) t.picks distinct;
  priced = subst (λ k. Each IsPriced k) (sym (holdings_at (position_told m) t.picks)) (priced_from t.picks priced);
}

follows_at : (m : Map) (e : ℕ) → IsLawfulEntry m e → (g : ℕ) (o : Option RecordedTeam) → team_told m e g ≡ o
    → RecordFollows (option_map (team_of_record m) (base_told m e g)) (sales_told m e g) (option_map (team_of_record m) o)
follows_at m e lawful g None is = nothing_told (sale_told m e g) (no_sale (sale_told m e g 1) refl)
  where
    no_sale : (o : Option Sale) → sale_told m e g 1 ≡ o → sale_told m e g 1 ≡ None
    no_sale None none = none
    no_sale (Some s) some = absurd (true≢false (sym (lawful_sale_at m e lawful g 1 s some).team ∙ ap is_some is))
follows_at m e lawful g (Some t) is =
    let own = lawful_at m e lawful g t is in (
      subst (λ sales. FollowsOn (option_map (team_of_record m) (base_told m e g)) sales (team_of_record m t)) (every_as m e lawful g)
          (sequel_of m e g t lawful own.sequel),
      fifteen m t own.distinct own.priced,
    )

follow : (m : Map) (e : ℕ) (teams : List (ℕ × Team)) (rows : List NumberedSale) → IsLawfulEntry m e → AreItsTeams m e teams → AreItsSales m e rows
    → (g : ℕ) → RecordFollows (team_before teams g) (sales_in (sales_of_rows rows) g) (team_recorded teams g)
follow m e teams rows lawful teams_are sales_are g =
    let before = before_as (team_of_record m) (λ t. refl) (team_told m e) teams teams_are.rise teams_are.told g in
    let sales = sales_as m e rows lawful sales_are g in
    subst (λ a. RecordFollows a (sales_in (sales_of_rows rows) g) (team_recorded teams g)) (sym before)
    (subst (λ b. RecordFollows (option_map (team_of_record m) (base_told m e g)) b (team_recorded teams g)) (sym sales)
    (subst (λ c. RecordFollows (option_map (team_of_record m) (base_told m e g)) (sales_told m e g) c) (sym (teams_are.told g))
    (follows_at m e lawful g (team_told m e g) refl)))

pub lawful_restored : LawfulEntriesAreRestored
lawful_restored m e teams rows lawful teams_are sales_are =
    let starts = starts_with m e teams lawful teams_are (first_told m e) refl in
    record {
      starts = starts;
      from_one = all_from_one teams teams_are.rise
          (λ g x found. let at = recorded_at m e teams teams_are g x found in (lawful_at m e lawful g at.0 at.1).time.from_one);
      rise = teams_are.rise;
      bare = bare_from m e teams lawful teams_are starts;
      follow = follow m e teams rows lawful teams_are sales_are;
      priced = priced_sales m e rows lawful sales_are;
      few = λ g. subst (λ sales. length sales ≤ 1000) (sym (sales_as m e rows lawful sales_are g)) (few_from (sale_told m e g) 1000 1);
    }
