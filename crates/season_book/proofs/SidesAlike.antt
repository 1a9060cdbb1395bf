-- What entries have in locked gameweeks, of books that are the same to a caller.
use Rattle.std.proofs.Common.{◌≡◌, ◌≤◌, ℕ, List, [], Option, Some, None, if◌then◌else◌, refl, ap}
use Rattle.std.specs.Option.{option_map_or}
use Rattle.rule_book.specs.Entries.{entry_in}
use Rattle.rule_book.specs.History.{Event}
use Rattle.rule_book.specs.HistoryTeam.{is_begun}
use Rattle.rule_book.specs.ScoresAgree.{AllSameUpTo}
use Rattle.rule_book.specs.UpTo.{AgreeUpTo, start_of}
use Rattle.rule_book.proofs.AgreeFacts.{scores_agree}
use Rattle.rule_book.proofs.UpToFacts.{count_the_same}
use Rattle.season_book.specs.Book.{EntryFacts, Facts}
use Rattle.season_book.specs.EntryViews.{score_by}
use Rattle.season_book.specs.LeagueViews.{first_of, history_of, name_of, net_in, no_side, side_by, side_in, side_of}
use Rattle.season_book.specs.Agree.{EntriesAlike}
use Rattle.season_book.proofs.EntriesFacts.{BothAlike, both_alike}

sides_agree : (facts : Facts) (h h2 : List Event) → AgreeUpTo facts.calendar.locked h h2 → start_of h ≡ start_of h2 → (g : ℕ) → g ≤ facts.calendar.locked
    → side_by facts h g ≡ side_by facts h2 g
sides_agree facts h h2 a s g le =
    let begun : is_begun h g ≡ is_begun h2 g = (count_the_same facts.calendar.locked h h2 a s g le).begun in
    let score : score_by facts h g ≡ score_by facts h2 g = scores_agree facts.profile facts.calendar facts.players facts.matches facts.calendar.locked h h2 a s g le in
    λ i. if begun i then side_of (score i) else no_side

module _ (facts : Facts) (entries others : List EntryFacts) (a : EntriesAlike (Some facts) entries others) where
  -- the names
  pub name_alike : (e : ℕ) → name_of entries e ≡ name_of others e
  name_alike e = of_both (entry_in entries e) (entry_in others e) (both_alike (Some facts) entries others a e)
    where
      of_both : (x y : Option EntryFacts) → BothAlike (Some facts) x y → option_map_or (λ (entry : EntryFacts). entry.name) x [] ≡ option_map_or (λ (entry : EntryFacts). entry.name) y []
      of_both None None b = refl
      of_both None (Some y) b = absurd b
      of_both (Some x) None b = absurd b
      of_both (Some x) (Some y) b = b.name

  -- the gameweeks that they start in
  pub first_alike : (e : ℕ) → first_of entries e ≡ first_of others e
  first_alike e = of_both (entry_in entries e) (entry_in others e) (both_alike (Some facts) entries others a e)
    where
      of_both : (x y : Option EntryFacts) → BothAlike (Some facts) x y
          → start_of (option_map_or (λ (entry : EntryFacts). entry.history) x []) ≡ start_of (option_map_or (λ (entry : EntryFacts). entry.history) y [])
      of_both None None b = refl
      of_both None (Some y) b = absurd b
      of_both (Some x) None b = absurd b
      of_both (Some x) (Some y) b = b.start

  -- their histories, up to the locked gameweeks
  pub history_alike : (e : ℕ) → AgreeUpTo facts.calendar.locked (history_of entries e) (history_of others e)
  history_alike e = of_both (entry_in entries e) (entry_in others e) (both_alike (Some facts) entries others a e)
    where
      of_both : (x y : Option EntryFacts) → BothAlike (Some facts) x y
          → AgreeUpTo facts.calendar.locked (option_map_or (λ (entry : EntryFacts). entry.history) x []) (option_map_or (λ (entry : EntryFacts). entry.history) y [])
      of_both None None b = refl
      of_both None (Some y) b = absurd b
      of_both (Some x) None b = absurd b
      of_both (Some x) (Some y) b = b.locked

  -- what each gives to a tie, and its points
  pub side_alike : AllSameUpTo facts.calendar.locked (side_in facts entries) (side_in facts others)
  side_alike e g le = sides_agree facts (history_of entries e) (history_of others e) (history_alike e) (first_alike e) g le

  pub net_alike : AllSameUpTo facts.calendar.locked (net_in facts entries) (net_in facts others)
  net_alike e g le = ap (λ side. side.net) (side_alike e g le)
