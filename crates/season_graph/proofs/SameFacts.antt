-- A line, a mark or a place that is named and is the same is no difference.
use Rattle.std.proofs.Common.{◌≡◌, ℕ, inl, is_some, ⊎_elim, ap, subst, sym, ◌∙◌}
use Rattle.std.specs.Option.{option_map}
use Rattle.rule_book.specs.Calendar.{standing, stands_in}
use Rattle.rule_book.specs.MatchFacts.{is_finished, line_of}
use Rattle.rule_book.specs.Players.{player_of}
use Rattle.season_graph.specs.Changes.{AreAlike, DifferInLine, DifferInMark, DifferInPlace, SameIsAlike}
use Rattle.season_nodes.specs.Brackets.{bracket_in}
use Rattle.season_nodes.specs.Season.{IsSeason, SeasonFacts}
use Rattle.season_nodes.proofs.DependentFacts.{stands_there, there_stands}
use Rattle.season_nodes.proofs.RisingFacts.{rising_same}
use Rattle.season_graph.proofs.ChangedFacts.{both_or_other, same_or_not}
use Rattle.season_graph.proofs.PlaceFacts.{standing_rises}

line_alike : (b d : SeasonFacts) (f p : ℕ) → DifferInLine b d f p → line_of b.matches f p ≡ line_of d.matches f p → AreAlike b d
line_alike b d f p c same = record {
  profile = c.profile;
  locked = ap (λ x. x.locked) c.calendar;
  stand = λ g. ap (λ x. standing x g) c.calendar;
  lines = λ k q. ⊎_elim
      (λ i. subst (λ x. line_of b.matches x q ≡ line_of d.matches x q) (sym i.0) (subst (λ x. line_of b.matches f x ≡ line_of d.matches f x) (sym i.1) same))
      (λ o. c.others k q o)
      (both_or_other k q f p);
  marks = c.marks;
  there = λ q. ap (λ ps. is_some (player_of ps q)) c.players;
  positions = λ k q h. ap (λ ps. option_map (λ x. x.position) (player_of ps q)) c.players;
  leagues = c.leagues;
  cups = λ k. inl (λ x. bracket_in (c.cups x) k);
  entries = c.entries;
}

mark_alike : (b d : SeasonFacts) (f : ℕ) → DifferInMark b d f → is_finished b.matches f ≡ is_finished d.matches f → AreAlike b d
mark_alike b d f c same = record {
  profile = c.profile;
  locked = ap (λ x. x.locked) c.calendar;
  stand = λ g. ap (λ x. standing x g) c.calendar;
  lines = c.lines;
  marks = λ k. ⊎_elim (λ e. subst (λ x. is_finished b.matches x ≡ is_finished d.matches x) (sym e) same) (λ n. c.marks k n) (same_or_not k f);
  there = λ q. ap (λ ps. is_some (player_of ps q)) c.players;
  positions = λ k q h. ap (λ ps. option_map (λ x. x.position) (player_of ps q)) c.players;
  leagues = c.leagues;
  cups = λ k. inl (λ x. bracket_in (c.cups x) k);
  entries = c.entries;
}

place_alike : (b d : SeasonFacts) (f : ℕ) → IsSeason b → IsSeason d → DifferInPlace b d f → stands_in b.calendar f ≡ stands_in d.calendar f → AreAlike b d
place_alike b d f is_b is_d c same =
    let places : (k : ℕ) → stands_in b.calendar k ≡ stands_in d.calendar k =
    λ k. ⊎_elim (λ e. subst (λ x. stands_in b.calendar x ≡ stands_in d.calendar x) (sym e) same) (λ n. c.others k n) (same_or_not k f) in
    record {
      profile = c.profile;
      locked = c.locked;
      stand = λ g. rising_same (standing b.calendar g) (standing d.calendar g)
          (standing_rises b.calendar.fixtures g is_b.calendar.ids_rise)
          (standing_rises d.calendar.fixtures g is_d.calendar.ids_rise)
          (λ k a. there_stands d.calendar.fixtures k g (sym (places k) ∙ stands_there b.calendar.fixtures k g is_b.calendar.ids_rise a))
          (λ k a. there_stands b.calendar.fixtures k g (places k ∙ stands_there d.calendar.fixtures k g is_d.calendar.ids_rise a));
      lines = λ k q. ap (λ m. line_of m k q) c.matches;
      marks = λ k. ap (λ m. is_finished m k) c.matches;
      there = λ q. ap (λ ps. is_some (player_of ps q)) c.players;
      positions = λ k q h. ap (λ ps. option_map (λ x. x.position) (player_of ps q)) c.players;
      leagues = c.leagues;
      cups = λ k. inl (λ x. bracket_in (c.cups x) k);
      entries = c.entries;
    }

pub same_is_alike : SameIsAlike
same_is_alike = record { line = line_alike; mark = mark_alike; place = place_alike }
