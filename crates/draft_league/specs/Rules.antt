-- Why picks, bids and waivers are refused.
use Rattle.std.specs.Prelude.{◌≡◌, ◌==◌, ℕ, Bool, false, List, [], ◌∷◌, Option, Some, None, Result, Ok, Err, length, count_by, nat_lt, if◌then◌else◌}
use Rattle.std.specs.Option.{option_map}
use Rattle.fpl_base.specs.declared.kinds.Position.{Position}
use Rattle.draft_league.specs.Holdings.{count_in, is_position, number_in, owner_in, position_in}
use Rattle.draft_league.specs.Leagues.{League, held_now, is_over, turn}
use Rattle.draft_league.specs.declared.kinds.Bid.{Bid}
use Rattle.draft_league.specs.declared.rule.DraftRefused.{DraftRefused}
use Rattle.draft_league.specs.declared.rule.DraftRefused.TheVariants as refused
use Rattle.draft_league.specs.declared.rule.DraftRule.{DraftRule}
use Rattle.draft_league.specs.declared.rule.DraftRule.TheVariants as rule

-- the first of the refusals that comes
abbrev pub first_broken : List (Option DraftRule) → Option DraftRule
first_broken [] = None
first_broken (None ∷ more) = first_broken more
first_broken (Some broken ∷ more) = Some broken

-- this refusal, unless the test holds
abbrev pub unless : Bool → DraftRule → Option DraftRule
unless holds broken = if holds then None else Some broken

-- the member to whom the next pick belongs
abbrev pub next_member : League → ℕ
next_member league = turn league.members (length league.drafted)

-- why a pick is refused: the draft is over, the player has an owner, or the member has enough of his position
abbrev pub pick_refused : Bool → Option ℕ → Bool → Option DraftRule
pick_refused over owner fits =
    first_broken ((if over then Some rule.DraftOver else None) ∷ option_map rule.Owned owner ∷ unless fits rule.PositionFull ∷ [])

abbrev pub pick_refusal : League → ℕ → Position → Option DraftRule
pick_refusal league player position =
    pick_refused (is_over league) (owner_in (held_now league) player) (nat_lt (count_in (held_now league) (next_member league) position) (number_in position))

-- the gameweek is after the last whose waivers were settled
abbrev pub order_refusal : Option ℕ → ℕ → Option DraftRule
order_refusal None g = None
order_refusal (Some last) g = unless (nat_lt last g) (rule.WaiveOrder last)

-- a player has this owner, and this position
abbrev pub is_member : Option ℕ → ℕ → Bool
is_member None member = false
is_member (Some owner) member = owner == member

abbrev pub is_at : Option Position → Position → Bool
is_at None position = false
is_at (Some other) position = is_position other position

-- how many bids of a member wait
abbrev pub waiting_of : List Bid → ℕ → ℕ
waiting_of bids member = count_by (λ (bid : Bid). bid.member == member) bids

-- why waivers are refused: the draft is open, or the gameweek is not after the last one
abbrev pub waive_refused : Option ℕ → ℕ → Bool → Option DraftRule
waive_refused last g over = first_broken (unless over rule.DraftOpen ∷ order_refusal last g ∷ [])

abbrev pub waive_refusal : League → ℕ → Option DraftRule
waive_refusal league g = waive_refused league.last g (is_over league)

-- why a bid is refused, the player who would come having this position: as waivers are; or a hundred bids of the member wait;
-- or he does not own the player who would go; or the positions of the two differ
abbrev pub bid_refused : Option DraftRule → Bool → Bool → Bool → Option DraftRule
bid_refused early few own same =
    first_broken (early ∷ unless few rule.BidsFull ∷ unless own rule.BidNotHeld ∷ unless same rule.BidPosition ∷ [])

abbrev pub bid_refusal : League → Bid → Position → Option DraftRule
bid_refusal league bid position =
    bid_refused (waive_refusal league bid.gw) (nat_lt (waiting_of league.waiting bid.member) 100)
    (is_member (owner_in (held_now league) bid.out) bid.member) (is_at (position_in (held_now league) bid.out) position)

-- a call is refused exactly where a rule is broken, and names that one; memory runs out only where none is
abbrev pub IsJudged : {T : Type 0} → Option DraftRule → Result T DraftRefused → Type 0
IsJudged broken (Ok value) = broken ≡ None
IsJudged broken (Err (refused.Rule rule)) = broken ≡ Some rule
IsJudged broken (Err refused.Memory) = broken ≡ None
