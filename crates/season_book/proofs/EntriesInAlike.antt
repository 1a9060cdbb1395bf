-- What entries that are the same to others have in locked gameweeks.
use Rattle.std.proofs.Common.{◌≡◌, ◌≤◌, ◌+◌, ℕ, cond, List, [], ◌∷◌, Option, Some, None, map, filter, refl, ap, ◌∙◌, subst}
use Rattle.std.specs.List.{enumerate_from}
use Rattle.std.specs.Option.{option_and_then}
use Rattle.fpl_base.specs.declared.kinds.Caller.{Caller}
use Rattle.rule_book.specs.UpToLaws.{CountTheSame, TellTheSame}
use Rattle.rule_book.proofs.AgreeFacts.{scores_agree}
use Rattle.rule_book.proofs.UpToFacts.{count_the_same, tell_the_same}
use Rattle.rule_book.specs.PlayerFigures.{position_in}
use Rattle.season_book.specs.Book.{Book, EntryFacts, Facts}
use Rattle.season_book.specs.EntryViews.{score_by, team_by}
use Rattle.season_book.specs.Agree.{Alike, EntriesAlike, EntryAlike}
use Rattle.season_book.specs.EntryTotals.{entries_in, is_in}
use Rattle.season_book.proofs.EntriesFacts.{BothAlike}
use Rattle.season_book.proofs.ListsAlike.{kept_same}

-- the entries of books that are the same to a caller
pub entries_are : (caller : Caller) (book other : Book) → Alike caller book other → (facts : Facts) → book.facts ≡ Some facts → EntriesAlike (Some facts) book.entries other.entries
entries_are caller book other a facts is = subst (λ o. EntriesAlike o book.entries other.entries) is a.entries

-- what is the same of each two entries that are the same to others
pub of_both : {T : Type 0} (facts : Option Facts) (f f2 : EntryFacts → Option T) → ((entry other : EntryFacts) → EntryAlike facts entry other → f entry ≡ f2 other)
    → (x y : Option EntryFacts) → BothAlike facts x y → option_and_then f x ≡ option_and_then f2 y
of_both facts f f2 same None None b = refl
of_both facts f f2 same None (Some y) b = absurd b
of_both facts f f2 same (Some x) None b = absurd b
of_both facts f f2 same (Some x) (Some y) b = same x y b

module _ (facts : Facts) where
  -- two entries in a locked gameweek
  module _ (entry other : EntryFacts) (a : EntryAlike (Some facts) entry other) (g : ℕ) (le : g ≤ facts.calendar.locked) where
    pub counts_alike : CountTheSame entry.history other.history g
    counts_alike = count_the_same facts.calendar.locked entry.history other.history a.locked a.start g le

    pub tells_alike : TellTheSame entry.history other.history g
    tells_alike = tell_the_same facts.calendar.locked entry.history other.history a.locked g le

    pub in_alike : is_in entry g ≡ is_in other g
    in_alike = counts_alike.begun

    pub team_by_alike : team_by facts entry.history g ≡ team_by facts other.history g
    team_by_alike = tells_alike.team (position_in facts.players)

    pub score_by_alike : score_by facts entry.history g ≡ score_by facts other.history g
    score_by_alike = scores_agree facts.profile facts.calendar facts.players facts.matches facts.calendar.locked entry.history other.history a.locked a.start g le

  -- what is the same of each two entries is so of all of them
  pub all_alike : {X : Type 0} (f : EntryFacts → X) → ((entry other : EntryFacts) → EntryAlike (Some facts) entry other → f entry ≡ f other)
      → (entries others : List EntryFacts) → EntriesAlike (Some facts) entries others → map f entries ≡ map f others
  all_alike f same [] [] all = refl
  all_alike f same [] (other ∷ others) all = absurd all
  all_alike f same (entry ∷ entries) [] all = absurd all
  all_alike f same (entry ∷ entries) (other ∷ others) (one, more) =
      let first = same entry other one in
      let rest = all_alike f same entries others more in
      λ i. first i ∷ rest i

  -- and of all that are in a locked gameweek, each with its number
  module _ {X : Type 0} (f : ℕ × EntryFacts → X) (g : ℕ) (le : g ≤ facts.calendar.locked)
      (same : (n : ℕ) (entry other : EntryFacts) → EntryAlike (Some facts) entry other → f (n, entry) ≡ f (n, other)) where
    from_alike : (entries others : List EntryFacts) → EntriesAlike (Some facts) entries others → (n : ℕ)
        → map f (filter (λ row. is_in row.1 g) (enumerate_from n entries)) ≡ map f (filter (λ row. is_in row.1 g) (enumerate_from n others))
    from_alike [] [] all n = refl
    from_alike [] (other ∷ others) all n = absurd all
    from_alike (entry ∷ entries) [] all n = absurd all
    from_alike (entry ∷ entries) (other ∷ others) (one, more) n =
        let behind : List (ℕ × EntryFacts) = filter (λ (row : ℕ × EntryFacts). is_in row.1 g) (enumerate_from (n + 1) entries) in
        ap (λ b. map f (cond b ((n, entry) ∷ behind) behind)) (in_alike entry other one g le)
        ∙ kept_same f (n, entry) (n, other) behind (filter (λ row. is_in row.1 g) (enumerate_from (n + 1) others)) (is_in other g)
        (same n entry other one) (from_alike entries others more (n + 1))

    pub all_in_alike : (entries others : List EntryFacts) → EntriesAlike (Some facts) entries others → map f (entries_in entries g) ≡ map f (entries_in others g)
    all_in_alike entries others all = from_alike entries others all 1
