-- What is asked of a host for rows, and what each does in the league.
use Rattle.std.specs.Prelude.{◌≡◌, ◌⊎◌, ◌+◌, [], ◌∷◌, ℕ, List, Option, Some, None, MatchOption, Result, Ok, Err}
use Rattle.fpl_base.specs.declared.kinds.Caller.TheVariants as caller
use Rattle.fpl_base.specs.declared.kinds.Position.{Position}
use Rattle.season_book.specs.declared.answer.Answer.{Answer}
use Rattle.season_book.specs.declared.answer.Answer.TheVariants as answer
use Rattle.season_book.specs.declared.request.Request.TheVariants as request
use Rattle.season_book.specs.declared.request.View.TheVariants as view
use Rattle.season_book.specs.declared.shown.Shown.TheVariants as shown
use Rattle.request_handler.specs.Replying.{Served}
use Rattle.local_requests.specs.Asking.{IsHeard}
use Rattle.local_requests.specs.Printing.{EndsBy, PrintsOne}
use Rattle.draft_league.specs.Leagues.{AreOutcomes, League, bidden, picked, waived}
use Rattle.draft_league.specs.RuleNumbers.{number_of}
use Rattle.draft_league.specs.Rules.{bid_refusal, pick_refusal, waive_refusal}
use Rattle.draft_league.specs.declared.kinds.Bid.{Bid}
use Rattle.draft_league.specs.declared.kinds.Outcome.{Outcome}
use Rattle.draft_league.specs.declared.rule.DraftRefused.{DraftRefused}
use Rattle.draft_league.specs.declared.rule.DraftRefused.TheVariants as refused
use Rattle.draft_league.specs.declared.rule.DraftRule.{DraftRule}
use Rattle.fpl_drafting.specs.declared.row.DraftRow.{DraftRow}
use Rattle.fpl_drafting.specs.declared.row.DraftRow.TheVariants as row
use Rattle.local_requests.specs.RowFaults.{refused_text}

-- Each part goes on with something, `Ok`, and then nothing was written; or it ends the command with an exit status, `Err`, and
-- nothing is asked behind it.

-- the player whose position a row asks
abbrev pub asked_of : DraftRow → Option ℕ
asked_of (row.Pick player) = Some player
asked_of (row.Bid gw member into out) = Some into
asked_of (row.Waive gw) = None

-- the position that an answer shows
abbrev pub position_in : Answer → Option Position
position_in (answer.Shown (shown.Player player)) = Some player.position
position_in told = None

-- why a row is refused, its player having this position
abbrev pub refusal_of : DraftRow → Position → League → Option DraftRule
refusal_of (row.Pick player) position league = pick_refusal league player position
refusal_of (row.Bid gw member into out) position league = bid_refusal league (record { gw = gw; member = member; into = into; out = out }) position
refusal_of (row.Waive gw) position league = waive_refusal league gw

-- the waivers of a gameweek settled its bids
abbrev pub Waives : ℕ → League → League → Type 0
Waives gw old new = (outcomes : List Outcome) × AreOutcomes old gw outcomes × (new ≡ waived old gw outcomes)

-- what a row makes of the league
abbrev pub Changes : DraftRow → Position → League → League → Type 0
Changes (row.Pick player) position old new = new ≡ picked old player position
Changes (row.Bid gw member into out) position old new = new ≡ bidden old (record { gw = gw; member = member; into = into; out = out })
Changes (row.Waive gw) position old new = Waives gw old new

-- why a row is refused ends the command so: the row is named with the rule, with status 14; where memory was wanting nothing is
-- written, with status 6
abbrev pub StopsBy : ℕ → DraftRefused → ℕ → Option (List ℕ) → Option (List ℕ) → Type 0
StopsBy number (refused.Rule rule) status before after = PrintsOne (λ text. text ≡ refused_text number (number_of rule)) 14 status before after
StopsBy number refused.Memory status before after = (status ≡ 6) × (after ≡ before)

-- a row is done; or it is refused, which is told with status 14; or memory is wanting, with status 6
abbrev pub IsDone : ℕ → DraftRow → Position → League → Option (List ℕ) → Option (List ℕ) → Result League ℕ → Type 0
IsDone number row position league before after gave =
    ((new : League) × (refusal_of row position league ≡ None) × Changes row position league new × (gave ≡ Ok new) × (after ≡ before))
    ⊎ ((rule : DraftRule) × (status : ℕ) × (refusal_of row position league ≡ Some rule) × (gave ≡ Err status)
    × PrintsOne (λ text. text ≡ refused_text number (number_of rule)) 14 status before after)
    ⊎ ((gave ≡ Err 6) × (after ≡ before))

-- the position that the row asks was told, and the row is done with it; any other answer ends the command
abbrev pub DoesAs : Answer → ℕ → DraftRow → League → Option (List ℕ) → Option (List ℕ) → Result League ℕ → Type 0
DoesAs told number row league before after gave =
    MatchOption (position_in told) ((status : ℕ) × (gave ≡ Err status) × EndsBy told status before after)
    (λ position. IsDone number row position league before after gave)

-- a row was done in the league: where it names a player, the operator asked the host for him first
abbrev pub IsStep : ℕ → DraftRow → League → Option (List ℕ) → Option (List ℕ) → Result League ℕ → Served → Served → Type 0
IsStep number row league before after gave old new =
    MatchOption (asked_of row) ((position : Position) × IsDone number row position league before after gave × (new ≡ old))
    (λ player. (told : Answer) × IsHeard old caller.Operator (request.View (view.Player player)) told new × DoesAs told number row league before after gave)

-- these rows were done one after another, the first of them having this number, up to the first that ends the command
abbrev pub StepsOn : ℕ → List DraftRow → League → Option (List ℕ) → Option (List ℕ) → Result League ℕ → Served → Served → Type 0
StepsOn number [] league before after gave old new = (gave ≡ Ok league) × (after ≡ before) × (new ≡ old)
StepsOn number (row ∷ rows) league before after gave old new =
    ((status : ℕ) × (gave ≡ Err status) × IsStep number row league before after (Err status) old new)
    ⊎ ((next : League) × (mid : Served) × IsStep number row league before before (Ok next) old mid × StepsOn (number + 1) rows next before after gave mid new)
