-- Examples of the calls on leagues and cups, computed by the definitions.
use Rattle.std.proofs.Common.{◌≡◌, refl, ℕ, Bool, pos, [], ◌∷◌, None, Some, ◌==◌}
use Rattle.std.specs.Prelude.{List, not}
use Rattle.fpl_base.specs.declared.rule.Rule.TheVariants as rule
use Rattle.rule_book.specs.declared.cup.Bracket.{Bracket}
use Rattle.rule_book.specs.declared.cup.Side.{Side}
use Rattle.rule_book.specs.declared.league.LeagueKind.{LeagueKind}
use Rattle.rule_book.specs.declared.league.LeagueKind.TheVariants as kind
use Rattle.rule_book.specs.CupCalls.{cup_refusal}
use Rattle.rule_book.specs.CupRounds.{rounds_shown}
use Rattle.rule_book.specs.Entries.{changed_in}
use Rattle.rule_book.specs.LeagueCalls.{create_refusal, draw_refusal, join_refusal, leagues_of, with_member, with_order}
use Rattle.rule_book.specs.Leagues.{LeagueFacts}

-- a classic league and a head-to-head league, of entries 2 and 5, that start in gameweek 3
abbrev league : LeagueKind → List ℕ → LeagueFacts
league kind order = record { kind = kind; name = 65 ∷ []; code = 90 ∷ []; start = 3; creator = 5; members = 2 ∷ 5 ∷ []; order = order }

abbrev two : List LeagueFacts
two = league kind.Classic [] ∷ league kind.Head (5 ∷ 2 ∷ []) ∷ []

entry_two_is_in_both : leagues_of two 2 ≡ 1 ∷ 2 ∷ []
entry_two_is_in_both = refl

entry_three_is_in_none : leagues_of two 3 ≡ []
entry_three_is_in_none = refl

-- a league is created while its start is open
created_in_time : create_refusal two 2 3 2 ≡ None
created_in_time = refl

created_late : create_refusal two 2 3 3 ≡ Some (rule.StartPassed 3)
created_late = refl

-- who joins: the right code, once, and not once it was drawn
joined : join_refusal two 3 (league kind.Classic []) (90 ∷ []) ≡ None
joined = refl

another_code : join_refusal two 3 (league kind.Classic []) (91 ∷ []) ≡ Some rule.Code
another_code = refl

a_member_already : join_refusal two 5 (league kind.Classic []) (90 ∷ []) ≡ Some rule.Member
a_member_already = refl

closed_before_the_code : join_refusal two 3 (league kind.Head (5 ∷ 2 ∷ [])) (91 ∷ []) ≡ Some rule.LeagueClosed
closed_before_the_code = refl

-- a member takes his place by number
between_two_members : (with_member 3 (league kind.Classic [])).members ≡ 2 ∷ 3 ∷ 5 ∷ []
between_two_members = refl

-- only a head-to-head league is drawn, before its start, by an order of all its members
drawn_well : draw_refusal (league kind.Head []) (5 ∷ 2 ∷ []) 2 ≡ None
drawn_well = refl

drawn_late : draw_refusal (league kind.Head []) (5 ∷ 2 ∷ []) 3 ≡ Some (rule.StartPassed 3)
drawn_late = refl

drawn_twice : draw_refusal (league kind.Head (5 ∷ 2 ∷ [])) (5 ∷ 2 ∷ []) 3 ≡ Some rule.LeagueClosed
drawn_twice = refl

a_classic_one : draw_refusal (league kind.Classic []) (5 ∷ 2 ∷ []) 2 ≡ Some rule.DrawWrong
a_classic_one = refl

a_member_is_left_out : draw_refusal (league kind.Head []) (5 ∷ 5 ∷ []) 2 ≡ Some rule.DrawWrong
a_member_is_left_out = refl

the_second_is_drawn : changed_in (with_order (2 ∷ 5 ∷ [])) (league kind.Classic [] ∷ league kind.Head [] ∷ []) 2
    ≡ league kind.Classic [] ∷ league kind.Head (2 ∷ 5 ∷ []) ∷ []
the_second_is_drawn = refl

-- a cup of four with one bye from gameweek 3 on, in a season of 38 gameweeks of which 2 are locked
abbrev cup_of_four : Bracket
cup_of_four = record { start = 3; slots = 1 ∷ 0 ∷ 2 ∷ 3 ∷ []; coins = 0 ∷ 1 ∷ 0 ∷ [] }

abbrev all_but : ℕ → ℕ → Bool
all_but one e = not (e == one)

drawn_for_registered_entries : cup_refusal (all_but 4) 31 cup_of_four 38 2 ≡ None
drawn_for_registered_entries = refl

an_entry_is_not_registered : cup_refusal (all_but 3) 31 cup_of_four 38 2 ≡ Some rule.DrawWrong
an_entry_is_not_registered = refl

the_start_before_the_entries : cup_refusal (all_but 3) 31 cup_of_four 38 3 ≡ Some (rule.StartPassed 3)
the_start_before_the_entries = refl

the_thirty_third : cup_refusal (all_but 4) 32 cup_of_four 38 3 ≡ Some rule.CupsFull
the_thirty_third = refl

-- all level: the bye lets entry 1 through, the coin sends entry 3 on; the second round is open
abbrev level : ℕ → ℕ → Side
level entry gameweek = record { net = pos 50; goals = 3; conceded = 1 }

one_round_is_locked : rounds_shown cup_of_four level 3 ≡ Some (1 ∷ 3 ∷ []) ∷ None ∷ []
one_round_is_locked = refl

both_are_locked : rounds_shown cup_of_four level 4 ≡ Some (1 ∷ 3 ∷ []) ∷ Some (1 ∷ []) ∷ []
both_are_locked = refl
