-- A lawful history goes on by a batch of transfers.
use Rattle.std.proofs.Common.{◌≡◌, ◌≤◌, ◌+◌, ◌&&◌, ◌||◌, nat_eq, nat_le, ℕ, Bool, true, false, cond, not, List, [], ◌∷◌, ◌++◌, Option, Some, None, find, length, map, refl, sym, ap, subst, ◌∙◌, if◌then◌else◌}
use Rattle.std.specs.List.{AllByRecursion as Each, flat_map, list_all, list_any}
use Rattle.std.specs.Option.{option_map, option_map_or}
use Rattle.std.proofs.lemmas.Bool.{and_parts, false≢true, leb-true, not-false}
use Rattle.std.proofs.lemmas.List.{length-map}
use Rattle.fpl_base.specs.declared.kinds.Position.{Position}
use Rattle.fpl_base.specs.declared.kinds.Position.TheVariants.{Keeper, Defender, Midfielder, Forward}
use Rattle.fpl_base.specs.declared.rule.Rule.{Rule}
use Rattle.fpl_base.specs.declared.rule.Rule.TheVariants as rule
use Rattle.rule_book.specs.declared.player.Player.{Player}
use Rattle.rule_book.specs.declared.team.Pick.{Pick}
use Rattle.rule_book.specs.declared.team.Team.{Team}
use Rattle.rule_book.specs.declared.transfers.Sale.{Sale}
use Rattle.rule_book.specs.declared.transfers.Swap.{Swap}
use Rattle.rule_book.specs.Batch.{batch_refusal, bought_for, first_barred, first_gone, first_held, first_moved, first_not_held, is_held, is_same_position, moves_position, plays_at, price_of, sale_of, sales_of}
use Rattle.rule_book.specs.EntryCalls.{batch_deeds, batch_refused, of_team, starts_in, transfer_limit}
use Rattle.rule_book.specs.History.{Event, chip_at, chip_said, kept, last_of}
use Rattle.rule_book.specs.History.Deed.{Swap as Swapped}
use Rattle.rule_book.specs.HistoryRules.{IsHistory, NoneAfter, is_started}
use Rattle.rule_book.specs.HistorySquad.{bought_at, picks_of}
use Rattle.rule_book.specs.HistoryTransfers.{swaps_in}
use Rattle.rule_book.specs.PlayerFigures.{position_in}
use Rattle.rule_book.specs.Players.{player_of}
use Rattle.rule_book.specs.Prices.{selling_price}
use Rattle.rule_book.specs.Refusals.{first_broken, unless}
use Rattle.rule_book.specs.TeamOfHistory.{team_of}
use Rattle.season_book.specs.Book.{Facts}
use Rattle.season_book.specs.Commands.{has_player}
use Rattle.season_ledger.proofs.Counts.{swaps_batch}
use Rattle.season_ledger.proofs.Kept.{chip_here}
use Rattle.store_validation.proofs.EntriesJudged.{none_mapped}
use Rattle.lawful_books.specs.Histories.{IsLawfulDeed, IsLawfulHistory, IsLawfulSwap}
use Rattle.lawful_books.specs.EntriesKeeping.{AreLawfulPlayers}
use Rattle.lawful_books.proofs.Grows.{MayGoOn, may_go_on, starts_same}
use Rattle.lawful_books.proofs.EntriesPlayers.{all_of, present, selling}
use Rattle.lawful_books.proofs.Standing.{begun, bought_priced, pick_is}
use Rattle.lawful_books.proofs.Unbroken.{holds, none_first}

none_barred : (named : Swap → ℕ) (barred : ℕ → Bool) (before swaps : List Swap) → first_barred named barred before swaps ≡ None → Each (λ s. barred (named s) ≡ false) swaps
none_barred named barred before [] is = tt
none_barred named barred before (swap ∷ swaps) is = by (barred (named swap)) (list_any (λ earlier. nat_eq (named earlier) (named swap)) before) is (none_barred named barred (before ++ swap ∷ []) swaps)
  where
    by : (b c : Bool) → (if b || c then Some (named swap) else first_barred named barred (before ++ swap ∷ []) swaps) ≡ None
        → (first_barred named barred (before ++ swap ∷ []) swaps ≡ None → Each (λ s. barred (named s) ≡ false) swaps) → (b ≡ false) × Each (λ s. barred (named s) ≡ false) swaps
    by true c is more = absurd (cc)
    by false true is more = absurd (cc)
    by false false is more = (refl, more is)

pub none_found : {X : Type 0} (p : X → Bool) (xs : List X) → find p xs ≡ None → Each (λ x. p x ≡ false) xs
none_found p [] is = tt
none_found p (x ∷ xs) is = by (p x) is (none_found p xs)
  where
    by : (b : Bool) → cond b (Some x) (find p xs) ≡ None → (find p xs ≡ None → Each (λ x. p x ≡ false) xs) → (b ≡ false) × Each (λ x. p x ≡ false) xs
    by true is more = absurd (cc)
    by false is more = (refl, more is)

same_position : (a b : Position) → is_same_position a b ≡ true → a ≡ b
same_position Keeper Keeper is = refl
same_position Defender Defender is = refl
same_position Midfielder Midfielder is = refl
same_position Forward Forward is = refl
same_position Keeper Defender is = absurd (false≢true is)
same_position Keeper Midfielder is = absurd (false≢true is)
same_position Keeper Forward is = absurd (false≢true is)
same_position Defender Keeper is = absurd (false≢true is)
same_position Defender Midfielder is = absurd (false≢true is)
same_position Defender Forward is = absurd (false≢true is)
same_position Midfielder Keeper is = absurd (false≢true is)
same_position Midfielder Defender is = absurd (false≢true is)
same_position Midfielder Forward is = absurd (false≢true is)
same_position Forward Keeper is = absurd (false≢true is)
same_position Forward Defender is = absurd (false≢true is)
same_position Forward Midfielder is = absurd (false≢true is)

plays_there : (position : Position) (o : Option Player) → option_map_or (λ (p : Player). is_same_position p.position position) o false ≡ true
    → option_map_or (λ (p : Player). p.position) o Keeper ≡ position
plays_there position None is = absurd (false≢true is)
plays_there position (Some p) is = same_position p.position position is

none_said : (sales : List Sale) → flat_map chip_said (map Swapped sales) ≡ []
none_said [] = refl
none_said (s ∷ sales) = none_said sales

module _ (facts : Facts) (h : List Event) (g : ℕ) (players : AreLawfulPlayers facts) (early : NoneAfter g h) (history : IsHistory h) (lawful : IsLawfulHistory facts h) where
  abbrev picks : List Pick
  picks = picks_of (position_in facts.players) (kept h g)

  -- each sale
  lawful_swap : (swap : Swap) → (has_player facts swap.out && has_player facts swap.into) ≡ true → not (is_held picks swap.out) ≡ false
      → moves_position facts.players picks swap ≡ false → IsLawfulSwap facts (sale_of facts.players picks swap)
  lawful_swap swap named held moves =
      let there = and_parts (has_player facts swap.out) (has_player facts swap.into) named in
      let picked = pick_is (position_in facts.players) (kept h g) swap.out (not-false _ held) in
      let out = present facts swap.out players there.0 in
      let into = present facts swap.into players there.1 in
      let bought = bought_priced facts h g swap.out history lawful picked.1 in
      let paid : bought_for picks swap.out ≡ bought_at (kept h g) swap.out = ap (λ o. option_map_or (λ (k : Pick). k.bought) o 0) picked.0 in
      let sold = selling (bought_at (kept h g) swap.out) (price_of facts.players swap.out) bought.0 bought.1 out.0 out.1 in
      record {
        out = there.0;
        into = there.1;
        position = plays_there (position_in facts.players swap.out) (player_of facts.players swap.into)
            (not-false _ (sym (ap (λ o. option_map_or (λ (k : Pick). not (plays_at facts.players k.position swap.into)) o false) picked.0) ∙ moves));
        priced = subst (λ n. (30 ≤ selling_price n (price_of facts.players swap.out)) × (selling_price n (price_of facts.players swap.out) ≤ 200)
            × (30 ≤ price_of facts.players swap.into) × (price_of facts.players swap.into ≤ 200)) (sym paid) (sold.0, sold.1, into.0, into.1);
      }

  lawful_swaps : (swaps : List Swap) → Each (λ swap. (has_player facts swap.out && has_player facts swap.into) ≡ true) swaps → Each (λ swap. not (is_held picks swap.out) ≡ false) swaps
      → Each (λ swap. moves_position facts.players picks swap ≡ false) swaps → Each (IsLawfulDeed facts) (map Swapped (sales_of facts.players picks swaps))
  lawful_swaps [] named held moves = tt
  lawful_swaps (swap ∷ swaps) named held moves = (lawful_swap swap named.0 held.0 moves.0, lawful_swaps swaps named.1 held.1 moves.1)

  pub transferred : (swaps : List Swap) → list_all (λ swap. has_player facts swap.out && has_player facts swap.into) swaps ≡ true
      → batch_refused facts.players h swaps g ≡ None → MayGoOn facts h g (batch_deeds facts.players h swaps g)
  transferred swaps named granted =
      let team : Team = team_of (position_in facts.players) h g in
      let judged : Option Team → List (Option Rule) = λ o. of_team (λ t. batch_refusal facts.players t swaps) o ∷ [] in
      let on = none_first _ _ granted in
      let few = none_first (unless (nat_le (swaps_in h g + length swaps) (transfer_limit (starts_in h g) (chip_at h g))) rule.TransferLimit) _ on.1 in
      let started : is_started h ≡ true = holds (is_started h) rule.NotRegistered on.0 in
      let standing : batch_refusal facts.players team swaps ≡ None =
      (none_first (batch_refusal facts.players team swaps) []
      (subst (λ b. first_broken (judged (if b then Some team else None)) ≡ None) (begun h g early started) few.1)).0 in
      let held = none_first (option_map rule.NotHeld (first_not_held picks swaps)) _ standing in
      let fresh = none_first (option_map rule.Held (first_held picks swaps)) _ held.1 in
      let stay = none_first (option_map rule.PlayerGone (first_gone facts.players swaps)) _ fresh.1 in
      let moves = none_first (option_map rule.PositionSwap (first_moved facts.players picks swaps)) _ stay.1 in
      let sales : List Sale = sales_of facts.players picks swaps in
      let many : length sales ≡ length swaps = length-map swaps (sale_of facts.players picks) in
      may_go_on facts h g (map Swapped sales) (chip_at h g) (starts_in h g) (swaps_in h g + length swaps)
      (lawful_swaps swaps (all_of (λ swap. has_player facts swap.out && has_player facts swap.into) swaps named)
      (none_barred (λ s. s.out) (λ id. not (is_held picks id)) [] swaps (none_mapped rule.NotHeld (first_not_held picks swaps) held.0))
      (none_found (moves_position facts.players picks) swaps (none_mapped (λ (s : Swap). s.into) _ (none_mapped rule.PositionSwap (first_moved facts.players picks swaps) moves.0))))
      (chip_here h g (map Swapped sales) ∙ ap (last_of (chip_at h g)) (none_said sales))
      (starts_same h g g (map Swapped sales) started)
      (swaps_batch h g sales ∙ ap (λ n. swaps_in h g + n) many)
      (leb-true _ _ (holds (nat_le (swaps_in h g + length swaps) (transfer_limit (starts_in h g) (chip_at h g))) rule.TransferLimit few.0))
      (lawful.late g)
      (lawful.once g)
