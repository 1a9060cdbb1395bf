-- What views show of entries, computed anew from their histories and the facts.
use Rattle.std.specs.Prelude.{ℕ, ℤ, ◌+◌, ◌-◌, Bool, ◌&&◌, List, Option, Some, None, length, map, min, nat_le, slice_get, if◌then◌else◌}
use Rattle.std.specs.Option.{option_and_then, option_map, unwrap_or}
use Rattle.rule_book.specs.declared.team.Pick.{Pick}
use Rattle.rule_book.specs.declared.team.Team.{Team}
use Rattle.rule_book.specs.declared.team_score.TeamScore.{TeamScore}
use Rattle.rule_book.specs.declared.player.Player.{Player}
use Rattle.rule_book.specs.Batch.{price_of}
use Rattle.rule_book.specs.Calendar.{CalendarFacts, is_locked, next_gameweek}
use Rattle.rule_book.specs.Entries.{entry_in}
use Rattle.rule_book.specs.EntryScores.{score_at}
use Rattle.rule_book.specs.History.{Event}
use Rattle.rule_book.specs.HistoryTeam.{is_begun}
use Rattle.rule_book.specs.HistoryTransfers.{cost_at}
use Rattle.rule_book.specs.PlayerFigures.{position_in}
use Rattle.rule_book.specs.Prices.{selling_price}
use Rattle.rule_book.specs.TeamOfHistory.{team_of, told_free}
use Rattle.rule_book.specs.Totals.{total_from}
use Rattle.rule_book.specs.UpTo.{start_of}
use Rattle.season_book.specs.Book.{EntryFacts, Facts}
use Rattle.season_book.specs.declared.shown.ShownEntryGameweek.{ShownEntryGameweek}
use Rattle.season_book.specs.declared.shown.ShownMe.{ShownMe}
use Rattle.season_book.specs.declared.shown.ShownPick.{ShownPick}

-- the gameweek whose team a manager sees of himself: the next one, and the last when the season is over
abbrev pub gameweek_seen : CalendarFacts → ℕ
gameweek_seen calendar = min (calendar.locked + 1) (length calendar.deadlines)

-- a player of a team, and what he would bring
abbrev pub pick_shown : List Player → Pick → ShownPick
pick_shown players pick = record {
  player = pick.player;
  bought = pick.bought;
  price = price_of players pick.player;
  sell = selling_price pick.bought (price_of players pick.player);
}

-- the player at a place, from 0
abbrev pub player_at : List Pick → ℕ → Option ℕ
player_at picks place = option_map (λ pick. pick.player) (slice_get picks place)

-- the player in a slot; the first where the team has no such slot
abbrev pub player_in_slot : List Pick → ℕ → ℕ
player_in_slot picks slot = unwrap_or (player_at picks (slot - 1)) (unwrap_or (player_at picks 0) 0)

-- the score of a history in a gameweek of a season
abbrev pub score_by : Facts → List Event → ℕ → TeamScore
score_by facts h g = score_at facts.profile facts.calendar facts.players facts.matches h g

-- the points after deductions over all locked gameweeks
abbrev pub total_by : Facts → List Event → ℤ
total_by facts h = total_from (λ g. (score_by facts h g).net) 1 (start_of h) facts.calendar.locked

-- the team of a history in a gameweek of a season
abbrev pub team_by : Facts → List Event → ℕ → Team
team_by facts h g = team_of (position_in facts.players) h g

-- what a registered manager sees of his entry, whose last accepted command has this number
abbrev pub me_shown : Facts → List Event → ℕ → ℕ → ShownMe
me_shown facts h e last =
    let g = gameweek_seen facts.calendar in
    let team = team_by facts h g in
    record {
      entry = e;
      last = last;
      gameweek = next_gameweek facts.calendar;
      players = map (pick_shown facts.players) team.picks;
      captain = player_in_slot team.picks team.captain;
      vice = player_in_slot team.picks team.vice;
      bank = team.bank;
      chip = team.chip;
      free = told_free facts.profile h g;
      cost = cost_at facts.profile h g;
      total = total_by facts h;
    }

-- what a history's team scored in a gameweek
abbrev pub entry_gameweek_shown : Facts → List Event → ℕ → ShownEntryGameweek
entry_gameweek_shown facts h g = record {
  players = map (λ pick. pick.player) (team_by facts h g).picks;
  chip = (team_by facts h g).chip;
  score = score_by facts h g;
}

-- a gameweek is locked, and a history has begun by then
abbrev pub has_scored : Facts → List Event → ℕ → Bool
has_scored facts h g = nat_le 1 g && (is_locked facts.calendar g && is_begun h g)

-- the same of an entry; none where it was not issued, is not registered, or has no team in this gameweek, and where the
-- gameweek is not locked
abbrev pub entry_shown : Facts → List EntryFacts → ℕ → ℕ → Option ShownEntryGameweek
entry_shown facts entries e g =
    option_and_then (λ entry. if has_scored facts entry.history g then Some (entry_gameweek_shown facts entry.history g) else None) (entry_in entries e)
