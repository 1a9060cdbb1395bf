-- What a member has of his matches, match by match.
use Rattle.std.specs.Prelude.{ℤ, ◌+◌, ◌+ℤ◌, int_lt, if◌then◌else◌}
use Rattle.std.specs.Ordering.{int_eq}
use Rattle.rule_book.specs.HeadToHead.{match_points}
use Rattle.rule_book.specs.declared.tables.HeadScore.{HeadScore}

-- what he has with one match more
abbrev pub with_match : HeadScore → ℤ × ℤ → HeadScore
with_match score m = record {
  points = score.points + match_points m.0 m.1;
  won = score.won + (if int_lt m.1 m.0 then 1 else 0);
  drawn = score.drawn + (if int_eq m.0 m.1 then 1 else 0);
  lost = score.lost + (if int_lt m.0 m.1 then 1 else 0);
  scored = score.scored +ℤ m.0;
}
