-- Where standings are due, and that nothing is where they are not.
use Rattle.std.proofs.Common.{◌≡◌, ℕ, Bool, true, false, List, Option, Some, None, Ok, refl, sym, ap, subst, ◌∙◌, if◌then◌else◌}
use Rattle.std.specs.Option.{option_and_then}
use Rattle.json.specs.Written.{Written}
use Rattle.serde_json.specs.Data.{Data}
use Rattle.rule_book.specs.Entries.{entry_in}
use Rattle.rule_book.specs.LeagueCalls.{is_head}
use Rattle.rule_book.specs.Leagues.{LeagueFacts}
use Rattle.season_book.specs.Book.{EntryFacts, Facts}
use Rattle.season_views.specs.Seen.{WritesShown}
use Rattle.season_book.specs.ClassicStandings.{classic_standings, classic_standings_window}
use Rattle.season_book.specs.HeadStandings.{head_standings, head_standings_window}
use Rattle.league_windows.specs.Openings.{WritesData}

-- what is due is shown
pub is_shown : {u : Unit {0}} (due : Option Data) (d : Data) (a b : Written) → due ≡ Some d → WritesData d (Ok u) a b → WritesShown due (Ok true) a b
is_shown due d a b is wrote = subst (λ o. WritesShown o (Ok true) a b) (sym is) (refl, wrote.0, wrote.1)

module _ (facts : Facts) (entries : List EntryFacts) (leagues : List LeagueFacts) (n : ℕ) where
  pub classic_due : (league : LeagueFacts) → entry_in leagues n ≡ Some league → is_head league.kind ≡ false → classic_standings_window facts entries leagues n ≡ Some (classic_standings facts entries n league)
  classic_due league there classic =
      ap (option_and_then (λ league. if is_head league.kind then None else Some (classic_standings facts entries n league))) there
      ∙ ap (λ (b : Bool). if b then None else Some (classic_standings facts entries n league)) classic

  pub head_due : (league : LeagueFacts) → entry_in leagues n ≡ Some league → is_head league.kind ≡ true → head_standings_window facts entries leagues n ≡ Some (head_standings facts entries n league)
  head_due league there head =
      ap (option_and_then (λ league. if is_head league.kind then Some (head_standings facts entries n league) else None)) there
      ∙ ap (λ (b : Bool). if b then Some (head_standings facts entries n league) else None) head
