-- Entries that stay, and go on with what they did: those who play, and are registered, still do and are.
use Rattle.std.proofs.Common.{◌≡◌, ℕ, true, false, List, [], ◌∷◌, ◌++◌, Option, Some, None, nat_le, refl, sym, ap, ◌∙◌, inl, inr}
use Rattle.std.specs.Prelude.{is_some}
use Rattle.std.specs.List.{list_all}
use Rattle.std.specs.Option.{option_map_or}
use Rattle.std.proofs.lemmas.Bool.{cases_eq}
use Rattle.std.proofs.lemmas.Option.{none-some}
use Rattle.rule_book.specs.Entries.{entry_in}
use Rattle.rule_book.specs.History.{Event}
use Rattle.rule_book.specs.HistoryRules.{is_started}
use Rattle.rule_book.specs.UpTo.{start_of}
use Rattle.season_book.specs.Book.{EntryFacts, histories_with}
use Rattle.season_book.specs.KeyCommands.{NewKey, entries_rekeyed, with_key}
use Rattle.season_book.specs.LeagueCommands.{is_issued, is_registered}
use Rattle.season_book.specs.LeagueViews.{first_of}
use Rattle.season_records.proofs.Deeds.{entry_kept, one_here}
use Rattle.season_records.proofs.Finds.{numbered_changed, numbered_more}
use Rattle.lawful_books.specs.Leagues.{plays_from}
use Rattle.lawful_books.proofs.Numbers.{stays_beside, stays_changed}
use Rattle.lawful_books.proofs.Tests.{all_also}

-- each entry that was issued is still there, with the first gameweek that it had
pub record IsGrown (before after : List EntryFacts) : Type 0 where
  pub issued : (e : ℕ) → is_issued before e ≡ true → is_issued after e ≡ true
  pub first : (e g : ℕ) → first_of before e ≡ Some g → first_of after e ≡ Some g

pub grown_same : (entries : List EntryFacts) → IsGrown entries entries
grown_same entries = record { issued = λ e is. is; first = λ e g is. is }

-- by the first gameweeks
pub registered_first : (entries : List EntryFacts) (e : ℕ) → is_registered entries e ≡ is_some (first_of entries e)
registered_first entries e = of_entry (entry_in entries e)
  where
    of_history : (h : List Event) → is_started h ≡ is_some (start_of h)
    of_history [] = refl
    of_history (x ∷ h) = refl

    of_entry : (o : Option EntryFacts)
        → option_map_or (λ (entry : EntryFacts). is_started entry.history) o false ≡ is_some (start_of (option_map_or (λ (entry : EntryFacts). entry.history) o []))
    of_entry None = refl
    of_entry (Some entry) = of_history entry.history

pub issued_registered : (entries : List EntryFacts) (e : ℕ) → is_registered entries e ≡ true → is_issued entries e ≡ true
issued_registered entries e = of_entry (entry_in entries e)
  where
    of_entry : (o : Option EntryFacts) → option_map_or (λ (entry : EntryFacts). is_started entry.history) o false ≡ true → is_some o ≡ true
    of_entry None is = absurd cc
    of_entry (Some entry) is = refl

pub registered_plays : (entries : List EntryFacts) (start e : ℕ) → plays_from entries start e ≡ true → is_registered entries e ≡ true
registered_plays entries start e plays = registered_first entries e ∙ of_first (first_of entries e) plays
  where
    of_first : (o : Option ℕ) → option_map_or (λ first. nat_le first start) o false ≡ true → is_some o ≡ true
    of_first None plays = absurd cc
    of_first (Some g) plays = refl

module _ (before after : List EntryFacts) (grown : IsGrown before after) where
  first_grown : {Y : Type 0} (look : Option ℕ → Y) (e : ℕ) (o : Option ℕ) → first_of before e ≡ o → (y : Y) → (look None ≡ y → ⊥) → look o ≡ y → look (first_of after e) ≡ y
  first_grown look e None at y apart is = absurd (apart is)
  first_grown look e (Some g) at y apart is = ap look (grown.first e g at) ∙ is

  pub registered_grown : (e : ℕ) → is_registered before e ≡ true → is_registered after e ≡ true
  registered_grown e is =
      registered_first after e ∙ first_grown is_some e (first_of before e) refl true (λ no. cc) (sym (registered_first before e) ∙ is)

  pub plays_grown : (start e : ℕ) → plays_from before start e ≡ true → plays_from after start e ≡ true
  plays_grown start e = first_grown (λ o. option_map_or (λ first. nat_le first start) o false) e (first_of before e) refl true (λ no. cc)

  pub play_grown : (start : ℕ) (es : List ℕ) → list_all (plays_from before start) es ≡ true → list_all (plays_from after start) es ≡ true
  play_grown start es = all_also (plays_from before start) (plays_from after start) (plays_grown start) es

-- one entry more
pub grown_more : (entries : List EntryFacts) (key name : List ℕ) → IsGrown entries (entries ++ record { key = key; name = name; history = [] } ∷ [])
grown_more entries key name = record {
  issued = stays_beside entries (record { key = key; name = name; history = [] } ∷ []);
  first = λ e g is.
      sym (numbered_more (λ o. start_of (option_map_or (λ (entry : EntryFacts). entry.history) o [])) entries (record { key = key; name = name; history = [] }) e (λ last. refl)) ∙ is;
}

-- one with another key
pub grown_rekeyed : (entries : List EntryFacts) (given : NewKey) → IsGrown entries (entries_rekeyed entries given)
grown_rekeyed entries given = record {
  issued = stays_changed (with_key given) entries given.entry;
  first = λ e g is.
      sym (numbered_changed (λ o. start_of (option_map_or (λ (entry : EntryFacts). entry.history) o [])) (with_key given) entries given.entry e (λ same x at. refl)) ∙ is;
}

-- one with a history that goes on
module _ (entries : List EntryFacts) (e : ℕ) (entry : EntryFacts) (more : List Event) (at : entry_in entries e ≡ Some entry) where
  abbrev h : List Event
  h = entry.history ++ more

  start_goes_on : (h more : List Event) (g : ℕ) → start_of h ≡ Some g → start_of (h ++ more) ≡ Some g
  start_goes_on [] more g is = absurd (none-some g is)
  start_goes_on (x ∷ h) more g is = is

  abbrev first_in : Option EntryFacts → Option ℕ
  first_in o = start_of (option_map_or (λ (entry : EntryFacts). entry.history) o [])

  pub grown_history : IsGrown entries (histories_with entries e h)
  grown_history = record {
    issued = λ q is. sym (entry_kept is_some entries e q h entry at (λ same. refl)) ∙ is;
    first = λ q g is. elim (cases_eq q e) [
      | inl here ↦
          let own : start_of entry.history ≡ Some g = sym (ap first_in (ap (entry_in entries) here ∙ at)) ∙ is in
          ap first_in (ap (entry_in (histories_with entries e h)) here ∙ one_here entries e h entry at) ∙ start_goes_on entry.history more g own
      | inr other ↦ sym (entry_kept first_in entries e q h entry at (λ same. absurd (other same))) ∙ is
    ];
  }
