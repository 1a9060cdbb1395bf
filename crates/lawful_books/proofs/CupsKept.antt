-- A cup, and a last command, stay lawful where entries go on and more is there.
use Rattle.std.proofs.Common.{◌≡◌, ◌<◌, ◌≤◌, ℕ, Bool, true, false, cond, List, [], Some, None, All, nat_le, nat_lt, refl, sym, inl, inr, arith}
use Rattle.std.specs.Prelude.{is_some}
use Rattle.std.specs.List.{list_all}
use Rattle.std.proofs.lemmas.Bool.{le-leb}
use Rattle.std.proofs.lemmas.Bool.Decides.{nat_tests}
use Rattle.std.proofs.lemmas.List.Sums.{list_all-from_AllPass}
use Rattle.std.proofs.lemmas.Option.{none-some}
use Rattle.fpl_base.specs.declared.rule.Rule.TheVariants as rule
use Rattle.rule_book.specs.declared.cup.Bracket.{Bracket}
use Rattle.rule_book.specs.CupCalls.{cup_refusal, entrants, most_cups}
use Rattle.rule_book.specs.Cups.{is_cup, wrong_cup}
use Rattle.rule_book.specs.Entries.{entry_in}
use Rattle.rule_book.specs.Leagues.{LeagueFacts}
use Rattle.leagues_and_cups.proofs.CupTests.{is_cup-Decides}
use Rattle.season_book.specs.Book.{EntryFacts, Last}
use Rattle.season_book.specs.declared.made.Made.{Made}
use Rattle.season_book.specs.declared.made.Made.TheVariants as made
use Rattle.lawful_books.specs.Leagues.{IsLawfulCup, IsLawfulLast, IsMade}
use Rattle.lawful_books.proofs.Grown.{IsGrown, play_grown}
use Rattle.lawful_books.proofs.Tests.{passed, unbroken_first}

-- a cup that can be played can be played in a longer season
longer : (cup : Bracket) (g k : ℕ) → g ≤ k → is_cup cup g ≡ true → is_cup cup k ≡ true
longer cup g k le is =
    let that = (is_cup-Decides cup g).0 is in
    let rounds = that.rounds in
    (is_cup-Decides cup k).1 (record {
      rounds = (rounds.0, rounds.1, rounds.2, rounds.3, omega (arith, le, rounds.4));
      coin_for_each_tie = that.coin_for_each_tie;
      stands_once = that.stands_once;
      no_bye_tie = that.no_bye_tie;
    })

pub cup_kept : (before after : List EntryFacts) → IsGrown before after → (g k : ℕ) → g ≤ k → (cup : Bracket) → IsLawfulCup before g cup → IsLawfulCup after k cup
cup_kept before after grown g k le cup lawful = record {
  from_one = lawful.from_one;
  in_season = omega (arith, le, lawful.in_season);
  playable = longer cup g k le lawful.playable;
  play = play_grown before after grown cup.start (entrants cup.slots) lawful.play;
  few = lawful.few;
  coins = lawful.coins;
}

-- what no rule refuses: there is room, it starts after the locked gameweeks, it can be played, and its entries are
-- registered
pub record IsOpen (registered : ℕ → Bool) (count : ℕ) (cup : Bracket) (gameweeks locked : ℕ) : Type 0 where
  pub room : count < most_cups
  pub later : locked < cup.start
  pub playable : is_cup cup gameweeks ≡ true
  pub all : list_all registered (entrants cup.slots) ≡ true

pub open_cup : (registered : ℕ → Bool) (count : ℕ) (cup : Bracket) (gameweeks locked : ℕ) → cup_refusal registered count cup gameweeks locked ≡ None → IsOpen registered count cup gameweeks locked
open_cup registered count cup gameweeks locked unbroken =
    let room = passed (nat_lt count most_cups) rule.CupsFull _ unbroken in
    let right = unbroken_first (wrong_cup cup gameweeks locked) _ room.1 in
    let all = passed (list_all registered (entrants cup.slots)) rule.DrawWrong [] right.1 in
    let both = by (nat_le cup.start locked) (is_cup cup gameweeks) right.0 in
    record {
      room = grind (arith, nat_tests, room.0);
      later = grind (arith, nat_tests, both.0);
      playable = both.1;
      all = all.0;
    }
  where
    by : (passed can : Bool) → cond passed (Some (rule.StartPassed cup.start)) (cond can None (Some rule.DrawWrong)) ≡ None → (passed ≡ false) × (can ≡ true)
    by true can is = absurd (none-some (rule.StartPassed cup.start) (sym is))
    by false true is = (refl, refl)
    by false false is = absurd (none-some rule.DrawWrong (sym is))

pub coins_small : (coins : List ℕ) → All (λ coin. coin ≤ 1) coins → list_all (λ coin. nat_le coin 1) coins ≡ true
coins_small coins all = list_all-from_AllPass (λ coin. nat_le coin 1) coins (λ k d lt. le-leb (_) 1 (all k d lt))

-- Last commands.

module _ (entries after : List EntryFacts) (grown : IsGrown entries after)
    (leagues more : List LeagueFacts) (leagues_stay : (l : ℕ) → is_some (entry_in leagues l) ≡ true → is_some (entry_in more l) ≡ true)
    (cups others : List Bracket) (cups_stay : (c : ℕ) → is_some (entry_in cups c) ≡ true → is_some (entry_in others c) ≡ true) where
  made_kept : (made : Made) → IsMade entries leagues cups made → IsMade after more others made
  made_kept made.Nothing is = tt
  made_kept (made.Entry e) is = grown.issued e is
  made_kept (made.League l) is = leagues_stay l is
  made_kept (made.Cup c) is = cups_stay c is

  pub last_kept : (caller : ℕ) (last : Last) → IsLawfulLast entries leagues cups caller last → IsLawfulLast after more others caller last
  last_kept caller last lawful = record {
    issued = elim lawful.issued [
      | inl operator ↦ inl operator
      | inr issued ↦ inr (grown.issued caller issued)
    ];
    from_one = lawful.from_one;
    most = lawful.most;
    there = made_kept last.made lawful.there;
  }
