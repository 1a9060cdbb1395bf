-- What a draft asks of a host behind its rows, and what it writes.
use Rattle.std.specs.Prelude.{◌≡◌, ◌≢◌, ◌⊎◌, ◌++◌, [], ◌∷◌, ℕ, ℤ, List, Option, Some, None, MatchBool, MatchOption, Result, Ok, Err, length, nat_lt, if◌then◌else◌}
use Rattle.fpl_base.specs.declared.kinds.Caller.TheVariants as caller
use Rattle.season_book.specs.declared.answer.Answer.{Answer}
use Rattle.season_book.specs.declared.answer.Answer.TheVariants as answer
use Rattle.season_book.specs.declared.request.Request.TheVariants as request
use Rattle.season_book.specs.declared.request.View.TheVariants as view
use Rattle.season_book.specs.declared.shown.Shown.TheVariants as shown
use Rattle.request_handler.specs.Replying.{Served}
use Rattle.local_requests.specs.Asking.{IsHeard}
use Rattle.local_requests.specs.Printing.{EndsBy, PrintsOne}
use Rattle.draft_league.specs.Leagues.{League, founded, is_over}
use Rattle.fpl_drafting.specs.Texts.{outcomes_text, picks_text}
use Rattle.fpl_drafting.specs.Totals.{IsTableText, asked_of_all}
use Rattle.fpl_drafting.specs.declared.row.DraftRow.{DraftRow}
use Rattle.fpl_drafting.specs.declared.totals.Told.{Told}
use Rattle.fpl_drafting.specs.Steps.{StepsOn}

-- how many gameweeks are locked, by an answer that shows the season; no season has more than 38
abbrev pub locked_in : Answer → Option ℕ
locked_in (answer.Shown (shown.Season season)) = Some (if nat_lt season.locked 38 then season.locked else 38)
locked_in told = None

-- the points of a player, by an answer that shows them
abbrev pub points_told : Answer → Option ℤ
points_told (answer.Shown (shown.PlayerGameweek figures)) = Some figures.points
points_told told = None

-- the points that were told for a player in a gameweek
abbrev pub told_of : ℕ × ℕ → ℤ → Told
told_of one points = record { player = one.0; gw = one.1; points = points }

-- players' gameweeks were asked, one after another, and the points that were told stand behind those of before; the first
-- answer that shows none ends the command, and so does want of memory for what was told
abbrev pub PointsOn : List (ℕ × ℕ) → List Told → Option (List ℕ) → Option (List ℕ) → Result (List Told) ℕ → Served → Served → Type 0
PointsOn [] so_far before after gave old new = (gave ≡ Ok so_far) × (after ≡ before) × (new ≡ old)
PointsOn (one ∷ more) so_far before after gave old new =
    (told : Answer) × (mid : Served) × IsHeard old caller.Operator (request.View (view.PlayerGameweek one.0 one.1)) told mid
    × MatchOption (points_told told) ((status : ℕ) × (gave ≡ Err status) × EndsBy told status before after × (new ≡ mid))
    (λ points. ((gave ≡ Err 6) × (after ≡ before) × (new ≡ mid))
    ⊎ PointsOn more (so_far ++ told_of one points ∷ []) before after gave mid new)

-- these players' gameweeks were asked, and the table was written, by the points that were told; or one of them ended the command
abbrev pub IsScored : League → ℕ → List (ℕ × ℕ) → Option (List ℕ) → Option (List ℕ) → ℕ → Served → Served → Type 0
IsScored league locked asked before after status old new =
    PointsOn asked [] before after (Err status) old new
    ⊎ ((points : List Told) × PointsOn asked [] before before (Ok points) old new × PrintsOne (IsTableText league locked points) 0 status before after)

-- the points of all members' players in so many gameweeks were asked, unless memory was wanting for their list, and the table was
-- written
abbrev pub IsTabledOver : League → ℕ → Option (List ℕ) → Option (List ℕ) → ℕ → Served → Served → Type 0
IsTabledOver league locked before after status old new =
    ((status ≡ 6) × (after ≡ before) × (new ≡ old)) ⊎ IsScored league locked (asked_of_all league locked) before after status old new

-- the season was asked, as the operator: where it is shown, the table was written over its locked gameweeks; every other answer
-- ends the command
abbrev pub IsTabled : League → Option (List ℕ) → Option (List ℕ) → ℕ → Served → Served → Type 0
IsTabled league before after status old new =
    (told : Answer) × (mid : Served) × IsHeard old caller.Operator (request.View view.Season) told mid
    × MatchOption (locked_in told) ((new ≡ mid) × EndsBy told status before after) (λ locked. IsTabledOver league locked before after status mid new)

-- the outcomes of all waivers were written, and then, where the draft is open, how many picks were made, and else the table;
-- or the outcomes could not be written
abbrev pub IsToldOf : League → Option (List ℕ) → Option (List ℕ) → ℕ → Served → Served → Type 0
IsToldOf league before after status old new =
    (PrintsOne (λ text. text ≡ outcomes_text league.past) 0 status before after × (status ≢ 0) × (new ≡ old))
    ⊎ ((between : Option (List ℕ)) × PrintsOne (λ text. text ≡ outcomes_text league.past) 0 0 before between
    × MatchBool (is_over league) (IsTabled league between after status old new)
    (PrintsOne (λ text. text ≡ picks_text (length league.drafted)) 0 status between after × (new ≡ old)))

-- the rows of a draft of so many members were done, and then it was told what became of it; or one of the rows ended the command
abbrev pub IsDrafted : ℕ → List DraftRow → Option (List ℕ) → Option (List ℕ) → ℕ → Served → Served → Type 0
IsDrafted members rows before after status old new =
    StepsOn 1 rows (founded members) before after (Err status) old new
    ⊎ ((league : League) × (mid : Served) × StepsOn 1 rows (founded members) before before (Ok league) old mid × IsToldOf league before after status mid new)
