-- What nothing refuses of a draw.
use Rattle.std.proofs.Common.{◌≡◌, ℕ, Bool, true, false, List, [], ◌∷◌, Option, Some, None, length, if◌then◌else◌, refl, sym, ap, ◌∙◌, subst}
use Rattle.std.specs.Prelude.{Result, Ok, Err, OnOk, nat_lt}
use Rattle.std.specs.List.{list_all}
use Rattle.std.specs.Option.{option_map, option_map_or}
use Rattle.std.proofs.lemmas.Option.{none-some, same_Some}
use Rattle.fpl_base.specs.declared.rule.Rule.{Rule}
use Rattle.fpl_base.specs.declared.rule.Rule.TheVariants as rule
use Rattle.rule_book.specs.declared.cup.Bracket.{Bracket}
use Rattle.rule_book.specs.CupCalls.{entrants, most_cups}
use Rattle.rule_book.specs.Cups.{wrong_cup}
use Rattle.rule_book.specs.Refusals.{first_broken, unless}
use Rattle.season_book.specs.Book.{Facts}
use Rattle.season_book.specs.LeagueCommands.{cup_broken, cup_drawn, cup_there}
use Rattle.season_book.specs.declared.answer.Answer.{Answer}
use Rattle.season_book.specs.declared.answer.Answer.TheVariants as answer
use Rattle.season_book.specs.declared.command.Command.{Command}
use Rattle.season_book.specs.declared.command.Command.TheVariants as command
use Rattle.leagues_and_cups.specs.Shapes.{HasShape}
use Rattle.season_entries.specs.Deeds.{IsAnswered}
use Rattle.season_competitions.specs.Cups.{IsCupGranted, cup_answer, draw_answer}
use Rattle.season_competitions.proofs.KnownFacts.{all_hold}

abbrev broken_of : Bool → Option Rule → Bool → Option Rule
broken_of room wrong known = first_broken (unless room rule.CupsFull ∷ wrong ∷ unless known rule.DrawWrong ∷ [])

-- where nothing refuses, nothing but what is asked of entries could
known_or_not : (room : Bool) (wrong : Option Rule) (known : Bool) → broken_of room wrong known ≡ None → broken_of room wrong true ≡ None
known_or_not true None known is = refl
known_or_not true (Some broken) known is = absurd (none-some broken (sym is))
known_or_not false wrong known is = absurd (none-some rule.CupsFull (sym is))

-- so there is room, and the cup can be played
pub record Playable (room : Bool) (wrong : Option Rule) : Type 0 where
  pub room_is : room ≡ true
  pub right : wrong ≡ None

pub playable : (room : Bool) (wrong : Option Rule) (known : Bool) → broken_of room wrong known ≡ None → Playable room wrong
playable true None known is = record { room_is = refl; right = refl }
playable true (Some broken) known is = absurd (none-some broken (sym is))
playable false wrong known is = absurd (none-some rule.CupsFull (sym is))

unbroken_for_all : (facts : Facts) (registered : ℕ → Bool) (count : ℕ) (b : Bracket) → cup_broken facts registered count b ≡ None → cup_broken facts (λ number. true) count b ≡ None
unbroken_for_all facts registered count b is =
    let wrong = wrong_cup b (length facts.calendar.deadlines) facts.calendar.locked in
    ap (broken_of (nat_lt count most_cups) wrong) (all_hold (entrants b.slots))
    ∙ known_or_not (nat_lt count most_cups) wrong (list_all registered (entrants b.slots)) is

not_answered : (there : Bool) (broken : Option Rule) → (if there then option_map answer.Rule broken else Some answer.Unknown) ≡ None → broken ≡ None
not_answered true None is = refl
not_answered true (Some broken) is = absurd (none-some (answer.Rule broken) (sym is))
not_answered false broken is = absurd (none-some answer.Unknown (sym is))

granted_drawn : (facts : Facts) (issued registered : ℕ → Bool) (cups : List Bracket) (command : Command) (drawn : Option Bracket) → cup_drawn command ≡ drawn
    → option_map_or (draw_answer facts issued registered (length cups)) drawn (Some answer.Unknown) ≡ None → IsCupGranted facts cups command
granted_drawn facts issued registered cups command None is none = absurd (none-some answer.Unknown (sym none))
granted_drawn facts issued registered cups command (Some b) is none = (
  b,
  is,
  unbroken_for_all facts registered (length cups) b (not_answered (cup_there facts issued b) (cup_broken facts registered (length cups) b) none),
)

pub cup_granted : {T : Type 0} (facts : Facts) (issued registered : ℕ → Bool) (cups : List Bracket) (command : Command) (result : Result T Answer)
    → IsAnswered (cup_answer facts issued registered (length cups) command) result → OnOk result (IsCupGranted facts cups command)
cup_granted facts issued registered cups command (Ok value) none = granted_drawn facts issued registered cups command (cup_drawn command) refl none
cup_granted facts issued registered cups command (Err reply) refused = tt

-- what nothing refuses has the shape of a cup, and there is room for it
pub record CanAdd (cups : List Bracket) (b : Bracket) : Type 0 where
  pub room : nat_lt (length cups) most_cups ≡ true
  pub shape : HasShape b

pub can_add : ((b : Bracket) (gameweeks locked : ℕ) → wrong_cup b gameweeks locked ≡ None → HasShape b)
    → (facts : Facts) (cups : List Bracket) (start : ℕ) (slots coins : List ℕ) → IsCupGranted facts cups (command.Cup start slots coins)
    → CanAdd cups (record { start = start; slots = slots; coins = coins })
can_add law facts cups start slots coins (b, is, none) =
    let own : Bracket = record { start = start; slots = slots; coins = coins } in
    let play = playable (nat_lt (length cups) most_cups) (wrong_cup b (length facts.calendar.deadlines) facts.calendar.locked) (list_all (λ number. true) (entrants b.slots)) none in
    record {
      room = play.room_is;
      shape = subst HasShape (sym (same_Some own b is)) (law b (length facts.calendar.deadlines) facts.calendar.locked play.right);
    }
