-- What hangs on the gameweeks up to one alone.
use Rattle.std.proofs.Common.{◌≡◌, ◌∙◌, ◌≤◌, ◌<◌, ◌+◌, ◌-◌, ◌*◌, ◌/◌, ◌^◌, ℕ, zero, Bool, true, false, nat_le, if◌then◌else◌, suc, List, [], ◌∷◌, Option, Some, None, length, map, arith, refl, ap}
use Rattle.std.specs.Prelude.{ℤ, max, slice_index}
use Rattle.std.specs.List.{range_with_len}
use Rattle.std.specs.Option.{option_map_or}
use Rattle.std.proofs.lemmas.Bool.Decides.{nat_tests}
use Rattle.rule_book.specs.declared.cup.Bracket.{Bracket}
use Rattle.rule_book.specs.declared.cup.Side.{Side}
use Rattle.rule_book.specs.declared.pairing.Opponent.{Opponent}
use Rattle.rule_book.specs.declared.pairing.Opponent.TheVariants.{Place, Average}
use Rattle.rule_book.specs.CupRounds.{winners_of}
use Rattle.rule_book.specs.Cups.{coin_after, goes_through, winner}
use Rattle.rule_book.specs.EntryScores.{score_in}
use Rattle.rule_book.specs.HeadToHead.{head_score, total_of}
use Rattle.rule_book.specs.HistoryTransfers.{cost_at}
use Rattle.rule_book.specs.LeagueRows.{classic_row, classic_rows, head_row, head_rows, match_in, matches_of, place_of, points_against}
use Rattle.rule_book.specs.Leagues.{LeagueFacts}
use Rattle.rule_book.specs.Opponents.{mean_of, opponent_of}
use Rattle.rule_book.specs.PlayerFigures.{position_in}
use Rattle.rule_book.specs.ScoresAgree.{AllSameUpTo, RoundsAgree, RowsOfLeaguesAgree, SameUpTo, ScoresAgree, TotalsAgree, WinnersAgree}
use Rattle.rule_book.specs.TeamOfHistory.{team_of}
use Rattle.rule_book.specs.Totals.{gameweeks}
use Rattle.rule_book.proofs.UpToFacts.{count_the_same, tell_the_same}

pub scores_agree : ScoresAgree
scores_agree profile calendar players facts k h h2 a s g le =
    ap (λ team. score_in profile calendar players facts team (cost_at profile h g) g) ((tell_the_same k h h2 a g le).team (position_in players))
    ∙ ap (λ cost. score_in profile calendar players facts (team_of (position_in players) h2 g) cost g) ((count_the_same k h h2 a s g le).cost profile)

over_range : {A : Type 0} (f g : ℕ → A) (a n : ℕ) → ((x : ℕ) → x < a + n → a ≤ x → f x ≡ g x) → map f (range_with_len a n) ≡ map g (range_with_len a n)
over_range f g a zero same = refl
over_range f g a (suc n) same =
    ap (λ y. y ∷ map f (range_with_len (a + 1) n)) (same a (omega arith) (omega arith))
    ∙ ap (λ ys. g a ∷ ys) (over_range f g (a + 1) n (λ x lt low. same x (omega arith) (omega arith)))

over_gameweeks : {A : Type 0} (f g : ℕ → A) (from to : ℕ) → SameUpTo to f g → map f (gameweeks from to) ≡ map g (gameweeks from to)
over_gameweeks f g from to same = over_range f g from ((to + 1) - from) (λ x lt low. same x (omega arith))

pub totals_agree : TotalsAgree
totals_agree net other from locked None same = refl
totals_agree net other from locked (Some first) same = ap total_of (over_gameweeks net other (max from first) locked same)

each : {A B : Type 0} (f g : A → B) → ((x : A) → f x ≡ g x) → (xs : List A) → map f xs ≡ map g xs
each f g same [] = refl
each f g same (x ∷ xs) = ap (λ y. y ∷ map f xs) (same x) ∙ ap (λ ys. g x ∷ ys) (each f g same xs)

against : (net other : ℕ → ℕ → ℤ) (order : List ℕ) (g : ℕ) (opponent : Opponent) → ((entry : ℕ) → net entry g ≡ other entry g) → points_against net order g opponent ≡ points_against other order g opponent
against net other order g (Place j) same = same (slice_index order j)
against net other order g Average same = ap mean_of (each (λ entry. net entry g) (λ entry. other entry g) same order)

matched : (net other : ℕ → ℕ → ℤ) (locked : ℕ) (league : LeagueFacts) (entry place : ℕ) → AllSameUpTo locked net other → SameUpTo locked (match_in net league entry place) (match_in other league entry place)
matched net other locked league entry place same g le =
    let opponent = opponent_of (length league.order) (g - league.start) place in
    let one : net entry g ≡ other entry g = same entry g le in
    let two : points_against net league.order g opponent ≡ points_against other league.order g opponent = against net other league.order g opponent (λ e. same e g le) in
    λ i. (one i, two i)

all_matches : (net other : ℕ → ℕ → ℤ) (locked : ℕ) (league : LeagueFacts) (entry : ℕ) → AllSameUpTo locked net other → (place : Option ℕ) → option_map_or (λ p. map (match_in net league entry p) (gameweeks league.start locked)) place [] ≡ option_map_or (λ p. map (match_in other league entry p) (gameweeks league.start locked)) place []
all_matches net other locked league entry same None = refl
all_matches net other locked league entry same (Some place) = over_gameweeks (match_in net league entry place) (match_in other league entry place) league.start locked (matched net other locked league entry place same)

head_agree : (net other : ℕ → ℕ → ℤ) (locked : ℕ) (league : LeagueFacts) → AllSameUpTo locked net other → head_rows net locked league ≡ head_rows other locked league
head_agree net other locked league same = each (head_row net locked league) (head_row other locked league) one league.members
  where
    one : (entry : ℕ) → head_row net locked league entry ≡ head_row other locked league entry
    one entry = let t : matches_of net locked league entry ≡ matches_of other locked league entry = all_matches net other locked league entry same (place_of league.order entry) in λ i. (entry, head_score (t i))

classic_agree : (net other : ℕ → ℕ → ℤ) (locked : ℕ) (league : LeagueFacts) → AllSameUpTo locked net other → (first : ℕ → Option ℕ) (counted : ℕ → ℕ) → classic_rows net first counted locked league ≡ classic_rows other first counted locked league
classic_agree net other locked league same first counted =
    each (classic_row net first counted locked league) (classic_row other first counted locked league) one league.members
  where
    one : (entry : ℕ) → classic_row net first counted locked league entry ≡ classic_row other first counted locked league entry
    one entry = let t = totals_agree (net entry) (other entry) league.start locked (first entry) (same entry) in λ i. (entry, t i, counted entry)

pub rows_agree : RowsOfLeaguesAgree
rows_agree net other locked league same = record { classic = classic_agree net other locked league same; head = head_agree net other locked league same }

through_agrees : (a b : ℕ) (side other : ℕ → Side) (coin : ℕ) → ((e : ℕ) → side e ≡ other e) → goes_through a b side coin ≡ goes_through a b other coin
through_agrees a b side other coin e = rw (e a, e b) refl

pub winners_agree : WinnersAgree
winners_agree b side other k zero i e le = refl
winners_agree b side other k (suc r) i e le =
    let one : winner b side r (2 * i) ≡ winner b other r (2 * i) = winners_agree b side other k r (2 * i) e (omega arith) in
    let two : winner b side r (2 * i + 1) ≡ winner b other r (2 * i + 1) = winners_agree b side other k r (2 * i + 1) e (omega arith) in
    ap (λ n. goes_through n (winner b side r (2 * i + 1)) (λ x. side x (b.start + r)) (coin_after b r i)) one
    ∙ ap (λ n. goes_through (winner b other r (2 * i)) n (λ x. side x (b.start + r)) (coin_after b r i)) two
    ∙ through_agrees (winner b other r (2 * i)) (winner b other r (2 * i + 1)) (λ x. side x (b.start + r)) (λ x. other x (b.start + r)) (coin_after b r i) (λ x. e x (b.start + r) (omega arith))

rounds_by : (b : Bracket) (side other : ℕ → ℕ → Side) (locked round : ℕ) (is : Bool) → nat_le (b.start + round) (locked + 1) ≡ is → AllSameUpTo locked side other → (if is then Some (winners_of b side round) else None) ≡ (if is then Some (winners_of b other round) else None)
rounds_by b side other locked round false e same = refl
rounds_by b side other locked round true e same =
    let le : b.start + round ≤ locked + 1 = grind (arith, nat_tests) in
    ap Some (each (winner b side round) (winner b other round) (λ tie. winners_agree b side other locked round tie same le) (range_with_len 0 (length b.slots / 2 ^ round)))

pub rounds_agree : RoundsAgree
rounds_agree b side other locked round same = rounds_by b side other locked round (nat_le (b.start + round) (locked + 1)) refl same
