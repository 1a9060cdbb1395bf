-- The gameweeks and the totals of entries that are as they were.
use Rattle.std.proofs.Common.{◌≡◌, ℕ, ◌+◌, ◌-◌, ◌<◌, ◌≤◌, ◌==◌, nat_le, Bool, true, false, ◌&&◌, ⊎_elim, ◌∷◌, map, refl, sym, ◌∙◌, ap, arith}
use Rattle.std.specs.List.{filter, flat_map, list_any}
use Rattle.std.specs.Option.{option_map_or}
use Rattle.std.proofs.lemmas.Bool.Decides.{leb_tells, nat_tests}
use Rattle.rule_book.specs.declared.team.Team.{Team}
use Rattle.rule_book.specs.LeagueCalls.{leagues_of}
use Rattle.rule_book.specs.Totals.{gameweeks}
use Rattle.rescore_graph.specs.Graph.{Among}
use Rattle.season_graph.specs.Changes.{EntriesStay, IsKept}
use Rattle.season_nodes.specs.declared.nodes.Node.TheVariants as node
use Rattle.season_nodes.specs.Season.{SeasonFacts, classic_starts, counted_gameweeks, ended, fielded_in, fifteen_of, has_begun, has_start, is_live, is_there}
use Rattle.season_nodes.specs.Reading.{filter_local, from_range}
use Rattle.season_nodes.specs.SeasonLaws.{both_true, first_true, second_true, total_alive}

clash : true ≡ false → ⊥
clash e = cc

and_false : (x y : Bool) → y ≡ false → (x && y) ≡ false
and_false true y e = e
and_false false y e = refl

at_most : (h n : ℕ) → nat_le h n ≡ true → h ≤ n
at_most h n e = grind (arith, nat_tests)

within : (h n : ℕ) → h ≤ n → nat_le h n ≡ true
within h n e = ⊎_elim (λ a. a.0) (λ a. let x : n < h = a.1 in absurd (omega arith)) (leb_tells h n)

-- where a gameweek is locked the last locked one is
pub last_locked : (s n : ℕ) → (nat_le 1 s && nat_le s n) ≡ true → (nat_le 1 n && nat_le n n) ≡ true
last_locked s n w =
    let low = at_most 1 s (first_true (nat_le 1 s) (nat_le s n) w) in
    let high = at_most s n (second_true (nat_le 1 s) (nat_le s n) w) in
    both_true (nat_le 1 n) (nat_le n n) (within 1 n (omega (arith, low, high))) (within n n (omega arith))

-- who has begun was issued
pub begun_issued : (d : SeasonFacts) (e g : ℕ) → has_begun d e g ≡ true → (1 ≤ e) × (e ≤ d.entries)
begun_issued d e g l =
    let issued = first_true (nat_le 1 e && nat_le e d.entries) (option_map_or (λ first. nat_le first g) (d.first e) false) l in
    (at_most 1 e (first_true (nat_le 1 e) (nat_le e d.entries) issued), at_most e d.entries (second_true (nat_le 1 e) (nat_le e d.entries) issued))

-- of a live one the entry was issued, and the gameweek is locked
pub team_alive : (d : SeasonFacts) (e g : ℕ) → is_live d (node.TeamGw e g) ≡ true → (1 ≤ e) × (e ≤ d.entries) × (nat_le 1 g ≡ true) × (nat_le g d.calendar.locked ≡ true)
team_alive d e g l =
    let there = second_true (has_begun d e g) (nat_le 1 g && nat_le g d.calendar.locked) l in
    let issued = first_true (nat_le 1 e && nat_le e d.entries) (option_map_or (λ first. nat_le first g) (d.first e) false) (first_true (has_begun d e g) (nat_le 1 g && nat_le g d.calendar.locked) l) in (
      at_most 1 e (first_true (nat_le 1 e) (nat_le e d.entries) issued),
      at_most e d.entries (second_true (nat_le 1 e) (nat_le e d.entries) issued),
      first_true (nat_le 1 g) (nat_le g d.calendar.locked) there,
      second_true (nat_le 1 g) (nat_le g d.calendar.locked) there,
    )

module _ (b d : SeasonFacts) (stay : EntriesStay b d) where
  -- the same are live, where the gameweek is locked in both or in neither
  pub team_live : (e g : ℕ) → nat_le g b.calendar.locked ≡ nat_le g d.calendar.locked → is_live b (node.TeamGw e g) ≡ is_live d (node.TeamGw e g)
  team_live e g same = by_case (nat_le 1 g && nat_le g b.calendar.locked) refl
    where
      by_case : (t : Bool) → (nat_le 1 g && nat_le g b.calendar.locked) ≡ t → is_live b (node.TeamGw e g) ≡ is_live d (node.TeamGw e g)
      by_case true w = λ i. stay.begun e g w i && (nat_le 1 g && same i)
      by_case false w = and_false (has_begun b e g) (nat_le 1 g && nat_le g b.calendar.locked) w
          ∙ sym (and_false (has_begun d e g) (nat_le 1 g && nat_le g d.calendar.locked) (ap (λ x. nat_le 1 g && x) (sym same) ∙ w))

  -- those of a team are there who were
  fielded_same : (e g : ℕ) → b.team e g ≡ d.team e g → ((q : ℕ) → Among (fifteen_of d e g) q → is_there b q ≡ is_there d q) → fielded_in b e g ≡ fielded_in d e g
  fielded_same e g same there = ap (λ (t : Team). filter (is_there b) (map (λ pick. pick.player) t.picks)) same ∙ filter_local (is_there b) (is_there d) (fifteen_of d e g) there

  -- one is kept where its gameweek has ended in both or in neither, and the same of its team are there
  pub team_kept : (e g : ℕ) → nat_le g b.calendar.locked ≡ nat_le g d.calendar.locked → ended b g ≡ ended d g → ((q : ℕ) → Among (fifteen_of d e g) q → is_there b q ≡ is_there d q) → IsKept b d (node.TeamGw e g)
  team_kept e g same over there =
      let live = team_live e g same in
      (live, λ l. let team = stay.team e g (live ∙ l) in (team, stay.cost e g (live ∙ l), over, fielded_same e g team there))

  -- and where it is not live
  pub team_dead : (e g : ℕ) → nat_le g b.calendar.locked ≡ nat_le g d.calendar.locked → is_live d (node.TeamGw e g) ≡ false → IsKept b d (node.TeamGw e g)
  team_dead e g same dead = (team_live e g same, λ l. absurd (clash (sym l ∙ dead)))

  -- the same have begun by the last locked gameweek, if one is locked
  pub begun_same : b.calendar.locked ≡ d.calendar.locked → (e s : ℕ) → (nat_le 1 s && nat_le s b.calendar.locked) ≡ true → has_begun b e b.calendar.locked ≡ has_begun d e d.calendar.locked
  begun_same locked e s w = stay.begun e b.calendar.locked (last_locked s b.calendar.locked w) ∙ ap (has_begun d e) locked

  -- so the same totals are live where the leagues are the same
  pub total_live : b.calendar.locked ≡ d.calendar.locked → b.leagues ≡ d.leagues → (e s : ℕ) → is_live b (node.Total e s) ≡ is_live d (node.Total e s)
  total_live locked leagues e s = by_case (nat_le 1 s && nat_le s b.calendar.locked) refl
    where
      by_case : (t : Bool) → (nat_le 1 s && nat_le s b.calendar.locked) ≡ t → is_live b (node.Total e s) ≡ is_live d (node.Total e s)
      by_case true w = λ i. (begun_same locked e s w i && list_any (λ k. s == k) (1 ∷ flat_map (classic_starts (leagues i)) (leagues_of (leagues i) e))) && (nat_le 1 s && nat_le s (locked i))
      by_case false w = and_false (has_begun b e b.calendar.locked && has_start b e s) (nat_le 1 s && nat_le s b.calendar.locked) w
          ∙ sym (and_false (has_begun d e d.calendar.locked && has_start d e s) (nat_le 1 s && nat_le s d.calendar.locked) (ap (λ n. nat_le 1 s && nat_le s n) (sym locked) ∙ w))

  -- and they count the same gameweeks
  pub counted_same : b.calendar.locked ≡ d.calendar.locked → (e s : ℕ) → 1 ≤ s → counted_gameweeks b e s ≡ counted_gameweeks d e s
  counted_same locked e s low =
      filter_local (has_begun b e) (has_begun d e) (gameweeks s b.calendar.locked)
      (λ g a. let r = from_range s ((b.calendar.locked + 1) - s) g a in
      stay.begun e g (both_true (nat_le 1 g) (nat_le g b.calendar.locked) (within 1 g (omega (arith, low, r.0))) (within g b.calendar.locked (omega (arith, r.0, r.1)))))
      ∙ ap (λ n. filter (has_begun d e) (gameweeks s n)) locked

  pub total_kept : b.calendar.locked ≡ d.calendar.locked → b.leagues ≡ d.leagues → (e s : ℕ) → IsKept b d (node.Total e s)
  total_kept locked leagues e s = (total_live locked leagues e s, λ l. counted_same locked e s (total_alive d e s l).2)
