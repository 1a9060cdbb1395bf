-- What views show of books that are the same to a caller.
use Rattle.std.proofs.Common.{◌≡◌, ◌≤◌, ◌-◌, ℕ, zero, suc, Bool, true, false, ◌&&◌, if◌then◌else◌, nat_eq, nat_le, List, [], ◌∷◌, Option, Some, None, map, arith, refl, ap, ◌∙◌, subst}
use Rattle.std.specs.Prelude.{slice_get}
use Rattle.std.specs.Option.{option_and_then, option_map, option_map_or}
use Rattle.std.proofs.lemmas.Bool.Decides.{nat_tests}
use Rattle.fpl_base.specs.declared.kinds.Caller.{Caller}
use Rattle.fpl_base.specs.declared.rule.Rule.TheVariants as rule
use Rattle.rule_book.specs.Calendar.{is_locked}
use Rattle.rule_book.specs.Entries.{entry_in}
use Rattle.rule_book.specs.History.{Event}
use Rattle.rule_book.specs.HistoryRules.{is_started}
use Rattle.rule_book.specs.HistoryTeam.{is_begun}
use Rattle.rule_book.specs.PlayerFigures.{position_in}
use Rattle.rule_book.specs.UpTo.{AgreeUpTo, start_of}
use Rattle.rule_book.proofs.AgreeFacts.{scores_agree}
use Rattle.rule_book.proofs.UpToFacts.{count_the_same, tell_the_same}
use Rattle.season_book.specs.Book.{Book, EntryFacts, Facts, caller_number, last_number}
use Rattle.season_book.specs.EntryViews.{entry_gameweek_shown, entry_shown, has_scored, me_shown, score_by, team_by}
use Rattle.season_book.specs.Verdict.{my_answer, page_of, pass, seen_in, shown_or_unknown, unseen, view_answer, wants_no_season}
use Rattle.season_book.specs.declared.answer.Answer.TheVariants as answer
use Rattle.season_book.specs.declared.request.View.{View}
use Rattle.season_book.specs.declared.request.View.TheVariants as view
use Rattle.season_book.specs.declared.shown.Shown.TheVariants as shown
use Rattle.season_book.specs.declared.shown.ShownEntryGameweek.{ShownEntryGameweek}
use Rattle.season_book.specs.Agree.{Alike, EntriesAlike, EntryAlike}
use Rattle.season_book.specs.Isolation.{ViewsAreIsolated}
use Rattle.season_book.proofs.TableFacts.{cup_alike, league_alike}
use Rattle.season_book.proofs.WindowFacts.{me_alike, number_alike, window_alike}

-- what is shown of a gameweek is looked at only where the gameweek is locked
where_locked : {T : Type 0} (first locked begun also : Bool) (x y : T) → (locked ≡ true → (begun ≡ also) × (x ≡ y))
    → (if first && (locked && begun) then Some x else None) ≡ (if first && (locked && also) then Some y else None)
where_locked false locked begun also x y same = refl
where_locked true false begun also x y same = refl
where_locked true true begun also x y same = let s = same refl in λ i. if s.0 i then Some (s.1 i) else None

-- histories that agree up to the locked gameweeks scored the same in one
shown_alike : (facts : Facts) (h h2 : List Event) → AgreeUpTo facts.calendar.locked h h2 → start_of h ≡ start_of h2 → (g : ℕ) → g ≤ facts.calendar.locked
    → entry_gameweek_shown facts h g ≡ entry_gameweek_shown facts h2 g
shown_alike facts h h2 a s g le =
    let team : team_by facts h g ≡ team_by facts h2 g = (tell_the_same facts.calendar.locked h h2 a g le).team (position_in facts.players) in
    let score : score_by facts h g ≡ score_by facts h2 g = scores_agree facts.profile facts.calendar facts.players facts.matches facts.calendar.locked h h2 a s g le in
    λ i. record { players = map (λ pick. pick.player) (team i).picks; chip = (team i).chip; score = score i }

scored_alike : (facts : Facts) (g : ℕ) (entry other : EntryFacts) → EntryAlike (Some facts) entry other
    → (if has_scored facts entry.history g then Some (entry_gameweek_shown facts entry.history g) else None)
    ≡ (if has_scored facts other.history g then Some (entry_gameweek_shown facts other.history g) else None)
scored_alike facts g entry other a =
    where_locked (nat_le 1 g) (is_locked facts.calendar g) (is_begun entry.history g) (is_begun other.history g) (entry_gameweek_shown facts entry.history g) (entry_gameweek_shown facts other.history g)
    (λ l. let le : g ≤ facts.calendar.locked = grind (arith, nat_tests) in (
      (count_the_same facts.calendar.locked entry.history other.history a.locked a.start g le).begun,
      shown_alike facts entry.history other.history a.locked a.start g le,
    ))

-- what is the same of entries that are the same to others is the same at each place
placed_alike : {T : Type 0} (facts : Option Facts) (f : EntryFacts → Option T) → ((entry other : EntryFacts) → EntryAlike facts entry other → f entry ≡ f other)
    → (entries others : List EntryFacts) → EntriesAlike facts entries others → (n : ℕ) → option_and_then f (slice_get entries n) ≡ option_and_then f (slice_get others n)
placed_alike facts f same [] [] a n = refl
placed_alike facts f same [] (other ∷ others) a n = absurd a
placed_alike facts f same (entry ∷ entries) [] a n = absurd a
placed_alike facts f same (entry ∷ entries) (other ∷ others) (head, rest) zero = same entry other head
placed_alike facts f same (entry ∷ entries) (other ∷ others) (head, rest) (suc n) = placed_alike facts f same entries others rest n

numbered_alike : {T : Type 0} (f : EntryFacts → Option T) (none : Bool) (x y : Option EntryFacts) → option_and_then f x ≡ option_and_then f y
    → option_and_then f (if none then None else x) ≡ option_and_then f (if none then None else y)
numbered_alike f true x y same = refl
numbered_alike f false x y same = same

entry_alike : (facts : Facts) (entries others : List EntryFacts) → EntriesAlike (Some facts) entries others → (e g : ℕ) → entry_shown facts entries e g ≡ entry_shown facts others e g
entry_alike facts entries others a e g =
    let f : EntryFacts → Option ShownEntryGameweek = λ entry. if has_scored facts entry.history g then Some (entry_gameweek_shown facts entry.history g) else None in
    numbered_alike f (nat_eq e 0) (slice_get entries (e - 1)) (slice_get others (e - 1)) (placed_alike (Some facts) f (scored_alike facts g) entries others a (e - 1))

mine_alike : (caller : Caller) (book other : Book) (facts : Facts) → Alike caller book other → (entry : Option EntryFacts) → my_answer book facts caller entry ≡ my_answer other facts caller entry
mine_alike caller book other facts a None = refl
mine_alike caller book other facts a (Some entry) =
    ap (λ n. if is_started entry.history then answer.Shown (shown.Me (me_shown facts entry.history (caller_number caller) n)) else answer.Rule rule.NotRegistered) (number_alike caller book other a)

seen_alike : (caller : Caller) (book other : Book) → Alike caller book other → (facts : Facts) → book.facts ≡ Some facts → (view : View) → seen_in book caller view facts ≡ seen_in other caller view facts
seen_alike caller book other a facts is view.Me =
    ap (my_answer book facts caller) a.own ∙ mine_alike caller book other facts a (entry_in other.entries (caller_number caller))
seen_alike caller book other a facts is (view.EntryGameweek e g) =
    ap (λ o. shown_or_unknown (option_map shown.EntryGameweek o)) (entry_alike facts book.entries other.entries (subst (λ f. EntriesAlike f book.entries other.entries) is a.entries) e g)
seen_alike caller book other a facts is (view.League l) =
    let table = league_alike facts book.entries other.entries (subst (λ f. EntriesAlike f book.entries other.entries) is a.entries) in
    λ i. shown_or_unknown (option_map (λ league. table league i) (entry_in (a.leagues i) l))
seen_alike caller book other a facts is (view.Cup c) =
    let rounds = cup_alike facts book.entries other.entries (subst (λ f. EntriesAlike f book.entries other.entries) is a.entries) in
    λ i. shown_or_unknown (option_map (λ b. shown.Cup (rounds b i)) (entry_in (a.cups i) c))
seen_alike caller book other a facts is (view.Window w) =
    ap (λ d. shown_or_unknown (option_map page_of d)) (window_alike caller book other a facts is w)
seen_alike caller book other a facts is view.Season = refl
seen_alike caller book other a facts is (view.Player p) = refl
seen_alike caller book other a facts is (view.PlayerGameweek p g) = refl
seen_alike caller book other a facts is (view.Fixture f) = refl

view_alike : (caller : Caller) (book other : Book) (view : View) → Alike caller book other → view_answer book caller view ≡ view_answer other caller view
view_alike caller book other view a =
    by_facts book.facts refl ∙ ap (λ f. option_map_or (seen_in other caller view) f (unseen other caller view)) a.facts
  where
    by_facts : (facts : Option Facts) → book.facts ≡ facts
        → option_map_or (seen_in book caller view) facts (unseen book caller view) ≡ option_map_or (seen_in other caller view) facts (unseen other caller view)
    by_facts None is =
        ap (λ d. if wants_no_season view then answer.Shown (page_of d) else answer.Rule rule.NoSeason) (me_alike caller book other a)
    by_facts (Some facts) is = seen_alike caller book other a facts is view

pub views_are_isolated : ViewsAreIsolated
views_are_isolated caller now book other view a = view_alike caller (pass book now) (pass other now) view a
