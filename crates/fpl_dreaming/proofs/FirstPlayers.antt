-- The first ids of a list, taken one after another, and the players of a season.
use Rattle.std.proofs.Common.{◌≡◌, ◌∙◌, ◌<◌, ◌≤◌, ◌+◌, ℕ, zero, suc, List, [], ◌∷◌, ◌++◌, Option, Some, None, IfSome, AllPairs, length, map, take, get_or, arith, ap, refl, sym, subst}
use Rattle.std.specs.List.{slice_get}
use Rattle.std.specs.Option.{option_map}
use Rattle.std.proofs.lemmas.List.{get_or-map, length-map, length_push, take_all, take_more}
use Rattle.std.proofs.lemmas.Option.{get_or_from_slice_get, none-some, slice_get-map, slice_get_within}
use Rattle.rule_book.specs.declared.player.Player.{Player}
use Rattle.season_book.specs.Book.{Facts}
use Rattle.season_running.specs.EntryLaws.{IsOrderly, IsOrderlyHost}
use Rattle.season_running.specs.Standing.{HostRows, players_in}

-- ids are the first of all
pub record AreFirst (all ids : List ℕ) : Type 0 where
  pub so_far : ids ≡ take (length ids) all
  pub within : length ids ≤ length all

pub none_first : (all ids : List ℕ) → ids ≡ [] → AreFirst all ids
none_first all ids none = subst (AreFirst all) (sym none) (record { so_far = refl; within = omega arith })

-- one more was found behind them
pub one_first : (all ids next : List ℕ) (place id : ℕ) → place ≡ length ids → slice_get all place ≡ Some id → next ≡ ids ++ id ∷ [] → AreFirst all ids → AreFirst all next
one_first all ids next place id is found more first =
    let there : slice_get all (length ids) ≡ Some id = ap (slice_get all) (sym is) ∙ found in
    let inside : length ids < length all = slice_get_within all (length ids) id there in
    let last : length next ≡ length ids + 1 = ap length more ∙ length_push ids id in
    record {
      so_far = more ∙ ap (λ (xs : List ℕ). xs ++ id ∷ []) first.so_far
          ∙ ap (λ (x : ℕ). take (length ids) all ++ x ∷ []) (sym (get_or_from_slice_get all (length ids) id id there))
          ∙ sym (take_more all (length ids) id inside) ∙ ap (λ (n : ℕ). take n all) (sym last);
      within = omega (arith, last, inside);
    }

past : (all : List ℕ) (place : ℕ) → slice_get all place ≡ None → length all ≤ place
past [] place none = omega arith
past (x ∷ xs) zero none = absurd (none-some x (sym none))
past (x ∷ xs) (suc place) none = let shorter : length xs ≤ place = past xs place none in omega (arith, shorter)

-- none was found behind them, so they are all
pub all_first : (all ids : List ℕ) (place : ℕ) → place ≡ length ids → slice_get all place ≡ None → AreFirst all ids → ids ≡ all
all_first all ids place is none first =
    let end : length all ≤ place = past all place none in
    first.so_far ∙ take_all (length ids) all (omega (arith, is, end))

-- what stands at a place of the ids
pub id_at : (players : List Player) (place : ℕ) → slice_get (map (λ (player : Player). player.id) players) place ≡ option_map (λ (player : Player). player.id) (slice_get players place)
id_at players place = slice_get-map (λ (player : Player). player.id) players place

rise_of : (players : List Player) → AllPairs (λ p q. p.id < q.id) players → AllPairs (λ a b. a < b) (map (λ (player : Player). player.id) players)
rise_of [] rise = λ i j d less inside. absurd (omega (arith, inside))
rise_of (first ∷ rest) rise = λ i j d less inside.
    let id : Player → ℕ = λ player. player.id in
    let players = first ∷ rest in
    let within : j < length players = omega (arith, length-map players id, inside) in
    let one = get_or-map id players i first d (omega (arith, less, within)) in
    let other = get_or-map id players j first d within in
    let lower : (get_or players i first).id < (get_or players j first).id = rise i j first less within in
    omega (arith, one, other, lower)

rise_in : (facts : Option Facts) (host : HostRows) → IfSome facts (λ f. IsOrderly f host.managers) → AllPairs (λ a b. a < b) (map (λ (player : Player). player.id) (players_in facts))
rise_in None host is = rise_of [] (λ i j d less inside. absurd (omega (arith, inside)))
rise_in (Some facts) host is = rise_of facts.players is.players.ascending

few_in : (facts : Option Facts) (host : HostRows) → IfSome facts (λ f. IsOrderly f host.managers) → length (map (λ (player : Player). player.id) (players_in facts)) ≤ 1200
few_in None host is = omega arith
few_in (Some facts) host is =
    let few : length facts.players ≤ 1200 = is.players.few in
    omega (arith, length-map facts.players (λ (player : Player). player.id), few)

-- the players of an orderly host ascend by id, and there is an end to them
pub rise : (host : HostRows) (ids : List ℕ) → IsOrderlyHost host → ids ≡ map (λ (player : Player). player.id) (players_in host.facts) → AllPairs (λ a b. a < b) ids
rise host ids is are = subst (AllPairs (λ a b. a < b)) (sym are) (rise_in host.facts host is)

pub few : (host : HostRows) (ids : List ℕ) → IsOrderlyHost host → ids ≡ map (λ (player : Player). player.id) (players_in host.facts) → length ids ≤ 1200
few host ids is are = subst (λ (xs : List ℕ). length xs ≤ 1200) (sym are) (few_in host.facts host is)
