-- The window of a cup shows the same of books that are the same to a caller.
use Rattle.std.proofs.Common.{◌≡◌, ◌∙◌, ◌≤◌, ◌+◌, ◌*◌, ◌/◌, ◌^◌, ◌==◌, ℕ, Bool, true, false, List, Option, Some, None, length, nat_le, if◌then◌else◌, arith, refl, ap, subst}
use Rattle.std.specs.List.{range_with_len}
use Rattle.std.specs.Option.{option_map}
use Rattle.std.proofs.lemmas.Bool.Decides.{nat_tests}
use Rattle.std.specs.Prelude.{codes}
use Rattle.serde_json.specs.Data.{member, no_members, object}
use Rattle.json_members.specs.Members.{count}
use Rattle.fpl_base.specs.declared.kinds.Caller.{Caller}
use Rattle.rule_book.specs.declared.cup.Bracket.{Bracket}
use Rattle.rule_book.specs.CupRounds.{rounds_of}
use Rattle.rule_book.specs.Entries.{entry_in}
use Rattle.rule_book.proofs.AgreeFacts.{rounds_agree}
use Rattle.season_book.specs.Book.{Book, EntryFacts, Facts}
use Rattle.season_book.specs.LeagueViews.{net_in, side_in}
use Rattle.season_book.specs.Windows.{listed}
use Rattle.season_book.specs.Agree.{Alike, EntriesAlike}
use Rattle.season_book.specs.CupWindow.{comer_at, comers_to, cup_data, cup_window, points_of_comer, round_row, tie_data, tie_row}
use Rattle.season_book.proofs.SidesAlike.{net_alike, side_alike}

is_by : (a b : ℕ) → nat_le a b ≡ true → a ≤ b
is_by a b is = grind (arith, nat_tests, is)

module _ (facts : Facts) (entries others : List EntryFacts) (a : EntriesAlike (Some facts) entries others) (b : Bracket) where
  comers_alike : (before : ℕ) → comers_to facts entries b before ≡ comers_to facts others b before
  comers_alike before =
      ap (λ w. if before == 0 then Some b.slots else w)
      (rounds_agree b (side_in facts entries) (side_in facts others) facts.calendar.locked before (side_alike facts entries others a))

  points_by : (g : ℕ) (comer : Option ℕ) (t : Bool) → nat_le g facts.calendar.locked ≡ t
      → (if t then option_map (λ e. net_in facts entries e g) comer else None) ≡ (if t then option_map (λ e. net_in facts others e g) comer else None)
  points_by g comer false is = refl
  points_by g None true is = refl
  points_by g (Some e) true is = ap Some (net_alike facts entries others a e g (is_by g facts.calendar.locked is))

  points_alike : (g : ℕ) (comer other : Option ℕ) → comer ≡ other → points_of_comer facts entries g comer ≡ points_of_comer facts others g other
  points_alike g comer other same = points_by g comer (nat_le g facts.calendar.locked) refl ∙ ap (points_of_comer facts others g) same

  tie_alike : (before tie : ℕ) → tie_row facts entries b before tie ≡ tie_row facts others b before tie
  tie_alike before tie =
      let g : ℕ = b.start + before in
      let one : comer_at (comers_to facts entries b before) (2 * tie) ≡ comer_at (comers_to facts others b before) (2 * tie) = ap (λ c. comer_at c (2 * tie)) (comers_alike before) in
      let other : comer_at (comers_to facts entries b before) (2 * tie + 1) ≡ comer_at (comers_to facts others b before) (2 * tie + 1) = ap (λ c. comer_at c (2 * tie + 1)) (comers_alike before) in
      let its : points_of_comer facts entries g (comer_at (comers_to facts entries b before) (2 * tie)) ≡ points_of_comer facts others g (comer_at (comers_to facts others b before) (2 * tie)) =
      points_alike g (comer_at (comers_to facts entries b before) (2 * tie)) (comer_at (comers_to facts others b before) (2 * tie)) one in
      let others_points : points_of_comer facts entries g (comer_at (comers_to facts entries b before) (2 * tie + 1)) ≡ points_of_comer facts others g (comer_at (comers_to facts others b before) (2 * tie + 1)) =
      points_alike g (comer_at (comers_to facts entries b before) (2 * tie + 1)) (comer_at (comers_to facts others b before) (2 * tie + 1)) other in
      let next = comers_alike (before + 1) in
      λ i. tie_data (one i) (its i) (other i) (others_points i) (comer_at (next i) tie)

  round_alike : (before : ℕ) → round_row facts entries b before ≡ round_row facts others b before
  round_alike before = let ties = tie_alike before in λ i. object
      (member (codes "event") (count (b.start + before))
      (member (codes "ties") (listed (λ tie. ties tie i) (range_with_len 0 (length b.slots / 2 ^ (before + 1))))
      no_members))

  shown_alike : (c : ℕ) → cup_data facts entries b c ≡ cup_data facts others b c
  shown_alike c = λ i. object
      (member (codes "id") (count c)
      (member (codes "rounds") (listed (λ before. round_alike before i) (range_with_len 0 (rounds_of b)))
      (member (codes "start_event") (count b.start)
      no_members)))

pub cup_window_alike : (caller : Caller) (book other : Book) → Alike caller book other → (facts : Facts) → book.facts ≡ Some facts → (c : ℕ)
    → cup_window facts book.entries book.cups c ≡ cup_window facts other.entries other.cups c
cup_window_alike caller book other a facts there c =
    of_cup (entry_in book.cups c) ∙ ap (λ cups. cup_window facts other.entries cups c) a.cups
  where
    alike : EntriesAlike (Some facts) book.entries other.entries
    alike = subst (λ f. EntriesAlike f book.entries other.entries) there a.entries

    of_cup : (o : Option Bracket) → option_map (λ b. cup_data facts book.entries b c) o ≡ option_map (λ b. cup_data facts other.entries b c) o
    of_cup None = refl
    of_cup (Some b) = ap Some (shown_alike facts book.entries other.entries alike b c)
