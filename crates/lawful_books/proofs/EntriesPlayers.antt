-- Players who are there, and the prices that they have.
use Rattle.std.proofs.Common.{◌≡◌, ◌<◌, ◌≤◌, ◌+◌, ◌*◌, ◌-◌, ◌/◌, ◌==◌, ◌||◌, ◌&&◌, nat_le, nat_lt, ℕ, Bool, true, false, cond, List, [], ◌∷◌, Some, None, length, arith, refl, sym, ap, subst, ◌∙◌, if◌then◌else◌}
use Rattle.std.specs.List.{AllByRecursion as Each, list_all}
use Rattle.std.specs.Option.{option_map_or}
use Rattle.std.proofs.lemmas.Bool.{and_parts, eqb-true, or_parts, ltb-false, leb-false}
use Rattle.std.proofs.lemmas.List.Sums.{sum_by-cons}
use Rattle.fpl_base.specs.declared.kinds.Position.{Position}
use Rattle.fpl_base.specs.declared.kinds.Position.TheVariants.{Keeper, Defender, Midfielder, Forward}
use Rattle.fpl_base.specs.declared.rule.Rule.TheVariants as rule
use Rattle.rule_book.specs.declared.player.Player.{Player}
use Rattle.rule_book.specs.Batch.{price_of}
use Rattle.rule_book.specs.EntryCalls.{over_budget}
use Rattle.rule_book.specs.EntryRecords.{IsPriced}
use Rattle.rule_book.specs.History.{Holding}
use Rattle.rule_book.specs.HistorySquad.{sum_bought}
use Rattle.rule_book.specs.Players.{player_of, price_refusal}
use Rattle.rule_book.specs.Positions.{defenders, forwards, is_defender, is_forward, is_keeper, is_midfielder, keepers, midfielders}
use Rattle.rule_book.specs.Prices.{selling_price}
use Rattle.rule_book.specs.Squads.{has_squad_shape}
use Rattle.season_book.specs.Book.{Facts}
use Rattle.season_book.specs.Commands.{has_player}
use Rattle.store_validation.proofs.Numbered.{some_from}
use Rattle.lawful_books.specs.EntriesKeeping.{AreLawfulPlayers}

pub all_of : {A : Type 0} (p : A → Bool) (xs : List A) → list_all p xs ≡ true → Each (λ x. p x ≡ true) xs
all_of p [] all = tt
all_of p (x ∷ xs) all = let parts = and_parts (p x) (list_all p xs) all in (parts.0, all_of p xs parts.1)

-- who is found has the id that was looked for
pub found_id : (players : List Player) (q : ℕ) (x : Player) → player_of players q ≡ Some x → x.id ≡ q
found_id [] q x at = absurd (cc)
found_id (p ∷ players) q x at = by (p.id == q) refl at (found_id players q x)
  where
    by : (b : Bool) → (p.id == q) ≡ b → cond b (Some p) (player_of players q) ≡ Some x → (player_of players q ≡ Some x → x.id ≡ q) → x.id ≡ q
    by true is at more = let same : p ≡ x = cc in sym (ap (λ (y : Player). y.id) same) ∙ eqb-true p.id q is
    by false is at more = more at

-- prices
pub in_range : (price : ℕ) → price_refusal price ≡ None → (30 ≤ price) × (price ≤ 200)
in_range price is = let parts = or_parts (nat_lt price 30) (nat_lt 200 price) (by (nat_lt price 30 || nat_lt 200 price) is) in (ltb-false price 30 parts.0, ltb-false 200 price parts.1)
  where
    by : (b : Bool) → (if b then Some rule.PriceRange else None) ≡ None → b ≡ false
    by true is = absurd (cc)
    by false is = refl

pub present : (facts : Facts) (p : ℕ) → AreLawfulPlayers facts → has_player facts p ≡ true → (30 ≤ price_of facts.players p) × (price_of facts.players p ≤ 200)
present facts p players there =
    let x = some_from (player_of facts.players p) there in
    subst (λ o. (30 ≤ option_map_or (λ (x : Player). x.price) o 0) × (option_map_or (λ (x : Player). x.price) o 0 ≤ 200)) (sym x.1)
    (in_range x.0.price (players p x.0 x.1))

pub selling : (bought now : ℕ) → 30 ≤ bought → bought ≤ 200 → 30 ≤ now → now ≤ 200 → (30 ≤ selling_price bought now) × (selling_price bought now ≤ 200)
selling bought now low high least most = by (nat_le now bought) refl
  where
    by : (b : Bool) → nat_le now bought ≡ b → (30 ≤ cond b now (bought + (now - bought) / 2)) × (cond b now (bought + (now - bought) / 2) ≤ 200)
    by true is = (least, most)
    by false is = let more : bought < now = leb-false now bought is in (omega (arith, low), omega (arith, more, most))

pub within_budget : (cost : ℕ) → over_budget cost ≡ None → cost ≤ 1000
within_budget cost is = ltb-false 1000 cost (by (nat_lt 1000 cost) is)
  where
    by : (b : Bool) → (if b then Some (rule.OverBudget (cost - 1000)) else None) ≡ None → b ≡ false
    by true is = absurd (cc)
    by false is = refl

-- each costs 3.0 million at least
pub sum_least : (squad : List Holding) → Each IsPriced squad → 30 * length squad ≤ sum_bought squad
sum_least [] all = omega arith
sum_least (k ∷ squad) all = omega (arith, all.0.0, sum_least squad all.1)

-- a squad has fifteen players by its shape
kinds : (ps : List Position) → length ps ≡ ((keepers ps + defenders ps) + midfielders ps) + forwards ps
kinds [] = refl
kinds (p ∷ ps) =
    let more = kinds ps in
    omega (arith, more, sum_by-cons (λ p. cond (is_keeper p) 1 0) p ps, sum_by-cons (λ p. cond (is_defender p) 1 0) p ps, sum_by-cons (λ p. cond (is_midfielder p) 1 0) p ps, sum_by-cons (λ p. cond (is_forward p) 1 0) p ps, one p)
  where
    one : (p : Position) → ((cond (is_keeper p) 1 0 + cond (is_defender p) 1 0) + cond (is_midfielder p) 1 0) + cond (is_forward p) 1 0 ≡ 1
    one Keeper = refl
    one Defender = refl
    one Midfielder = refl
    one Forward = refl

pub fifteen : (ps : List Position) → has_squad_shape ps ≡ true → length ps ≡ 15
fifteen ps shape =
    let f = and_parts (keepers ps == 2 && defenders ps == 5 && midfielders ps == 5) (forwards ps == 3) shape in
    let m = and_parts (keepers ps == 2 && defenders ps == 5) (midfielders ps == 5) f.0 in
    let d = and_parts (keepers ps == 2) (defenders ps == 5) m.0 in
    omega (arith, kinds ps, eqb-true (keepers ps) 2 d.0, eqb-true (defenders ps) 5 d.1, eqb-true (midfielders ps) 5 m.1, eqb-true (forwards ps) 3 f.1)
