-- What a cell holds of a player's locked gameweek is what he did in it, also where he is not there.
use Rattle.std.proofs.Common.{◌≡◌, ◌≤◌, ◌&&◌, ℕ, ℤ, pos, ◌+ℤ◌, Bool, true, false, true≢false, List, [], ◌∷◌, ◌++◌, Option, Some, None, is_some, nat_le, refl, sym, ap, ◌∙◌}
use Rattle.std.specs.List.{flat_map, fold, list_any, sum_by}
use Rattle.std.specs.Option.{option_map_or}
use Rattle.std.proofs.Math.Bool.{and-true}
use Rattle.std.proofs.lemmas.Bool.{le-leb}
use Rattle.rule_book.specs.declared.line.Line.{Line}
use Rattle.rule_book.specs.declared.team_score.Figures.{Figures}
use Rattle.rule_book.specs.Calendar.{standing}
use Rattle.rule_book.specs.MatchFacts.{line_of}
use Rattle.rule_book.specs.Figures.{figure}
use Rattle.rule_book.specs.PlayerFigures.{figures_in, line_beside, played_with, points_at}
use Rattle.season_nodes.specs.Season.{IsSeason, SeasonFacts, is_live, is_there, no_figures}
use Rattle.season_nodes.specs.declared.nodes.Node.TheVariants as node

-- where nobody of a number has a line in these fixtures, there are none of his beside them
none_beside : (b : SeasonFacts) (p : ℕ) → ((f : ℕ) → line_of b.matches f p ≡ None) → (fs : List ℕ) → flat_map (line_beside b.matches p) fs ≡ []
none_beside b p none [] = refl
none_beside b p none (f ∷ fs) =
    ap (λ o. option_map_or (λ (line : Line). (f, line) ∷ []) o [] ++ flat_map (line_beside b.matches p) fs) (none f) ∙ none_beside b p none fs

no_line : (o : Option Line) → (is_some o ≡ true → ⊥) → o ≡ None
no_line None never = refl
no_line (Some line) never = absurd (never refl)

-- the figures of some lines of a player, each beside its fixture
abbrev figures_of : SeasonFacts → ℕ → List (ℕ × Line) → Figures
figures_of b p lines = record {
  points = fold (λ (total : ℤ) (row : ℕ × Line). total +ℤ points_at b.profile b.players b.matches row.0 (p, row.1)) (pos 0) lines;
  played = list_any (λ (row : ℕ × Line). played_with row.1) lines;
  goals = sum_by (λ (row : ℕ × Line). figure row.1 2) lines;
  conceded = sum_by (λ (row : ℕ × Line). figure row.1 4) lines;
}

module _ (b : SeasonFacts) (season : IsSeason b) (p g : ℕ) where
  -- who is not there did nothing
  absent : is_there b p ≡ false → no_figures ≡ figures_in b.profile b.calendar b.players b.matches p g
  absent gone =
      ap (figures_of b p)
      (sym (none_beside b p (λ f. no_line (line_of b.matches f p) (λ has. true≢false (sym (season.there f p has) ∙ gone))) (standing b.calendar g)))

  by_presence : (there : Bool) (figures : Figures) → is_there b p ≡ there → (there ≡ true → figures ≡ figures_in b.profile b.calendar b.players b.matches p g) → (there ≡ false → figures ≡ no_figures) → figures ≡ figures_in b.profile b.calendar b.players b.matches p g
  by_presence true figures is told none = told refl
  by_presence false figures is told none = none refl ∙ absent is

  live_is : 1 ≤ g → g ≤ b.calendar.locked → (there : Bool) → is_there b p ≡ there → is_live b (node.PlayerGw p g) ≡ there
  live_is one by there is =
      ap (λ t. t && (nat_le 1 g && nat_le g b.calendar.locked)) is
      ∙ ap (λ t. there && (t && nat_le g b.calendar.locked)) (le-leb 1 g one)
      ∙ ap (λ t. there && t) (le-leb g b.calendar.locked by)
      ∙ and-true there

  pub figures_held : (figures : Figures) → 1 ≤ g → g ≤ b.calendar.locked → (is_live b (node.PlayerGw p g) ≡ true → figures ≡ figures_in b.profile b.calendar b.players b.matches p g) → (is_live b (node.PlayerGw p g) ≡ false → figures ≡ no_figures)
      → figures ≡ figures_in b.profile b.calendar b.players b.matches p g
  figures_held figures one by told none =
      by_presence (is_there b p) figures refl (λ t. told (live_is one by (is_there b p) refl ∙ t)) (λ f. none (live_is one by (is_there b p) refl ∙ f))
