-- Examples of turns, waivers and refusals, computed by the definitions.
use Rattle.std.proofs.Common.{◌≡◌, refl, ℕ, true, false, [], ◌∷◌, None, Some, map}
use Rattle.std.specs.Prelude.{List, Option}
use Rattle.fpl_base.specs.declared.kinds.Position.TheVariants.{Midfielder}
use Rattle.draft_league.specs.Leagues.{bids_after, bids_for, founded, turn}
use Rattle.draft_league.specs.Rules.{bid_refused, pick_refusal, waive_refusal, waive_refused}
use Rattle.draft_league.specs.Waivers.{AreSettled, Table, after_all, first_order, settled_as}
use Rattle.draft_league.specs.declared.kinds.Bid.{Bid}
use Rattle.draft_league.specs.declared.kinds.End.TheVariants.{Granted, Owned}
use Rattle.draft_league.specs.declared.kinds.Holding.{Holding}
use Rattle.draft_league.specs.declared.kinds.Outcome.{Outcome}
use Rattle.draft_league.specs.declared.rule.DraftRule.TheVariants as rule
use Rattle.draft_league.proofs.Settlings.{are_settled}

-- three members pick in turns, and four over two whole rounds
seven_picks : map (turn 3) (0 ∷ 1 ∷ 2 ∷ 3 ∷ 4 ∷ 5 ∷ 6 ∷ []) ≡ 1 ∷ 2 ∷ 3 ∷ 3 ∷ 2 ∷ 1 ∷ 1 ∷ []
seven_picks = refl

two_rounds : map (turn 4) (0 ∷ 1 ∷ 2 ∷ 3 ∷ 4 ∷ 5 ∷ 6 ∷ 7 ∷ 8 ∷ []) ≡ 1 ∷ 2 ∷ 3 ∷ 4 ∷ 4 ∷ 3 ∷ 2 ∷ 1 ∷ 1 ∷ []
two_rounds = refl

-- member 1 owns player 10, and member 2 players 20 and 21; the last member is the first of the order
abbrev owns : ℕ → ℕ → Holding
owns member player = record { player = player; position = Midfielder; member = member }

abbrev before : Table
before = record { held = owns 1 10 ∷ owns 2 20 ∷ owns 2 21 ∷ []; order = first_order 2 }

-- both bid for player 900, and member 2 for player 901 too
abbrev asks : ℕ → ℕ → ℕ → Bid
asks member into out = record { gw = 3; member = member; into = into; out = out }

abbrev bids : List Bid
bids = asks 1 900 10 ∷ asks 2 900 20 ∷ asks 2 901 21 ∷ []

-- the last member comes first, and behind the first, which was granted player 900
abbrev outcomes : List Outcome
outcomes = settled_as (asks 2 900 20) Granted ∷ settled_as (asks 1 900 10) Owned ∷ settled_as (asks 2 901 21) Granted ∷ []

these_are_the_outcomes : AreSettled before bids outcomes
these_are_the_outcomes =
    are_settled before bids outcomes (
      asks 1 900 10 ∷ [],
      asks 2 901 21 ∷ [],
      record { parts = refl; none_before = refl; turn = refl; end = refl },
      (
        [],
        asks 2 901 21 ∷ [],
        record { parts = refl; none_before = refl; turn = refl; end = refl },
        ([], [], record { parts = refl; none_before = refl; turn = refl; end = refl }, refl),
      ),
    )

-- who was granted something comes last, and who was not keeps his place
so_they_stand : after_all before outcomes ≡ (record { held = owns 1 10 ∷ owns 2 900 ∷ owns 2 901 ∷ []; order = 1 ∷ 2 ∷ [] })
so_they_stand = refl

-- bids are not settled in the order in which they were made
abbrev as_they_came : List Outcome
as_they_came = settled_as (asks 1 900 10) Granted ∷ settled_as (asks 2 900 20) Owned ∷ settled_as (asks 2 901 21) Granted ∷ []

another_first : ◌≡◌ {A = Option ℕ} (Some 2) (Some 1) → ⊥
another_first is = cc

these_are_not : AreSettled before bids as_they_came → ⊥
these_are_not are = another_first (are.turns [] (settled_as (asks 2 900 20) Owned ∷ settled_as (asks 2 901 21) Granted ∷ []) (settled_as (asks 1 900 10) Granted) refl)

-- a bid for a later gameweek waits
one_waits : bids_for 2 bids ≡ []
one_waits = refl

and_stays : bids_after 2 bids ≡ bids
and_stays = refl

one_passed_over_is_dropped : bids_after 4 bids ≡ []
one_passed_over_is_dropped = refl

-- the first rule that is broken refuses
no_waivers_in_an_open_draft : waive_refusal (founded 2) 1 ≡ Some rule.DraftOpen
no_waivers_in_an_open_draft = refl

no_waivers_again : waive_refused (Some 3) 3 true ≡ Some (rule.WaiveOrder 3)
no_waivers_again = refl

nobody_is_picked_twice : pick_refusal (record (founded 2) { drafted = owns 1 10 ∷ [] }) 10 Midfielder ≡ Some (rule.Owned 1)
nobody_is_picked_twice = refl

a_player_of_another : bid_refused None true false false ≡ Some rule.BidNotHeld
a_player_of_another = refl
