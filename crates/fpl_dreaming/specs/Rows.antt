-- What answers tell of the players of a gameweek.
use Rattle.std.specs.Prelude.{◌≡◌, ℕ, ℤ, pos, negsuc, int_lt, if◌then◌else◌, List, [], ◌∷◌, ◌++◌, Option, Some, None, Result, Ok, Err, MatchOption}
use Rattle.fpl_base.specs.declared.kinds.Caller.TheVariants as caller
use Rattle.fpl_base.specs.declared.kinds.Position.{Position}
use Rattle.rule_book.specs.declared.team_score.Figures.{Figures}
use Rattle.season_book.specs.declared.answer.Answer.{Answer}
use Rattle.season_book.specs.declared.answer.Answer.TheVariants as answer
use Rattle.season_book.specs.declared.request.Request.TheVariants as request
use Rattle.season_book.specs.declared.request.View.TheVariants as view
use Rattle.season_book.specs.declared.shown.Shown.TheVariants as shown
use Rattle.request_handler.specs.Replying.{Served}
use Rattle.local_requests.specs.Asking.{IsHeard}
use Rattle.squad_rules.specs.Elevens.{Row}

-- how many gameweeks are locked, by an answer that shows the season
abbrev pub locked_in : Answer → Option ℕ
locked_in (answer.Shown (shown.Season season)) = Some season.locked
locked_in told = None

-- where a player plays, by an answer that shows him
abbrev pub position_in : Answer → Option Position
position_in (answer.Shown (shown.Player player)) = Some player.position
position_in told = None

-- what he did in a gameweek, by an answer that shows it
abbrev pub figures_in : Answer → Option Figures
figures_in (answer.Shown (shown.PlayerGameweek figures)) = Some figures
figures_in told = None

-- points that are no further from 0 than a million; nobody's are
abbrev pub near : ℤ → ℤ
near points = if int_lt points (negsuc 999999) then negsuc 999999 else (if int_lt (pos 1000000) points then pos 1000000 else points)

-- the row of a player who played; none of one who did not
abbrev pub row_of : ℕ → Position → Figures → Option Row
row_of player position figures = if figures.played then Some (player, position, near figures.points) else None

-- the operator asked for what a player of this position did in a gameweek: he has a row, or none; or the answer shows nothing
-- of that
abbrev pub ArePointsAsked : ℕ → Position → ℕ → Result (Option Row) Answer → Served → Served → Type 0
ArePointsAsked player position gameweek gave old new =
    (told : Answer) × IsHeard old caller.Operator (request.View (view.PlayerGameweek player gameweek)) told new
    × MatchOption (figures_in told) (gave ≡ Err told) (λ figures. gave ≡ Ok (row_of player position figures))

-- he asked for the player before; where that answer shows nothing of him, nothing is asked behind it
abbrev pub IsRowAsked : ℕ → ℕ → Result (Option Row) Answer → Served → Served → Type 0
IsRowAsked player gameweek gave old new =
    (told : Answer) × (mid : Served) × IsHeard old caller.Operator (request.View (view.Player player)) told mid
    × MatchOption (position_in told) ((gave ≡ Err told) × (new ≡ mid)) (λ position. ArePointsAsked player position gameweek gave mid new)

-- rows, and one more if there is one
abbrev pub with_row : List Row → Option Row → List Row
with_row rows None = rows
with_row rows (Some row) = rows ++ row ∷ []
