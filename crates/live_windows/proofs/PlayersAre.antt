-- What is written of players by the lines of a gameweek is what the gameweek shows of them.
use Rattle.std.proofs.Common.{◌≡◌, ◌≤◌, ◌∙◌, sym, refl, ap, suc, ℕ, ◌+◌, ℤ, pos, ◌+ℤ◌, ◌&&◌, ◌||◌, ◌==◌, Bool, true, false, List, [], ◌∷◌, Some, None, codes, length, map, filter, fold, sum_by, get_or, nat_le, arith, All, if◌then◌else◌}
use Rattle.std.specs.List.{list_any}
use Rattle.std.proofs.lemmas.Bool.{le-leb}
use Rattle.std.proofs.lemmas.List.{length-map}
use Rattle.std.proofs.lemmas.Option.{none-some}
use Rattle.std.proofs.lemmas.Simd.{map-map}
use Rattle.serde_json.specs.Data.{Data, array, member, no_members, object}
use Rattle.serde_json.specs.View.{items_of}
use Rattle.json_members.specs.Members.{count}
use Rattle.rule_book.specs.declared.line.Line.{Line}
use Rattle.rule_book.specs.declared.player.Player.{Player}
use Rattle.rule_book.specs.BonusPoints.{bps_of}
use Rattle.rule_book.specs.Calendar.{is_locked, standing}
use Rattle.rule_book.specs.Figures.{figure}
use Rattle.rule_book.specs.MatchFacts.{lines_of, players_in}
use Rattle.rule_book.specs.PlayerFigures.{position_in}
use Rattle.rule_book.specs.Players.{ArePlayers}
use Rattle.rule_book.specs.Points.{counted_yellow, points_of}
use Rattle.squad_rules.specs.Elevens.{Row}
use Rattle.season_book.specs.Book.{Facts}
use Rattle.season_nodes.specs.Season.{Rising}
use Rattle.season_entries.proofs.Placing.{have_positions}
use Rattle.season_book.specs.DreamTeamWindow.{rows_of_gameweek}
use Rattle.season_book.specs.LineSums.{clean_sheets_of, gameweek_lines}
use Rattle.season_book.specs.LiveWindow.{explained_data, is_in_team, live_data, live_row, stats_data}
use Rattle.season_book.specs.TeamOfTheWeek.{team_of_the_week}
use Rattle.live_windows.specs.declared.sums.LiveLine.{LiveLine}
use Rattle.live_windows.specs.Gathered.{gathered, no_elements, own_data, own_explained, own_line, own_row, own_stats, own_sum, players_data, stats_with}
use Rattle.live_windows.proofs.GatheredFacts.{own_few, own_is}

sum_mapped : {X Y : Type 0} (f : Y → ℕ) (h : X → Y) (xs : List X) → sum_by f (map h xs) ≡ sum_by (λ x. f (h x)) xs
sum_mapped {X} f h xs = from 0 xs
  where
    from : (n : ℕ) (xs : List X) → fold (λ a y. a + f y) n (map h xs) ≡ fold (λ a x. a + f (h x)) n xs
    from n [] = refl
    from n (x ∷ xs) = from (n + f (h x)) xs

total_mapped : {X Y : Type 0} (f : Y → ℤ) (h : X → Y) (z : ℤ) (xs : List X) → fold (λ total y. total +ℤ f y) z (map h xs) ≡ fold (λ total x. total +ℤ f (h x)) z xs
total_mapped f h z [] = refl
total_mapped f h z (x ∷ xs) = total_mapped f h (z +ℤ f (h x)) xs

any_mapped : {X Y : Type 0} (p : Y → Bool) (h : X → Y) (xs : List X) → list_any p (map h xs) ≡ list_any (λ x. p (h x)) xs
any_mapped p h [] = refl
any_mapped p h (x ∷ xs) = ap (λ b. p (h x) || b) (any_mapped p h xs)

map_same : {X Y : Type 0} (f h : X → Y) (xs : List X) → All (λ x. f x ≡ h x) xs → map f xs ≡ map h xs
map_same f h [] same = refl
map_same f h (x ∷ xs) same = λ i. same 0 x (omega arith) i ∷ map_same f h xs (λ k d lt. same (suc k) d (omega (arith, lt))) i

module _ (facts : Facts) (p : ℕ) (rows : List (ℕ × Line)) where
  stats_are : (is_dreamed : Bool) → own_stats facts.profile (position_in facts.players p) (map (own_line facts p) rows) is_dreamed ≡ stats_data facts p rows is_dreamed
  stats_are is_dreamed =
      let sum : (field : ℕ) → own_sum field (map (own_line facts p) rows) ≡ sum_by (λ (row : ℕ × Line). figure row.1 field) rows = λ field. sum_mapped (λ (line : LiveLine). figure line.line field) (own_line facts p) rows in
      λ i. stats_with (sum 3 i) (sum_mapped (λ (line : LiveLine). line.bonus) (own_line facts p) rows i)
      (total_mapped (λ (line : LiveLine). bps_of (position_in facts.players p) line.line) (own_line facts p) (pos 0) rows i)
      (sum_mapped (λ (line : LiveLine). clean_sheets_of line.line) (own_line facts p) rows i) (sum 4 i) (sum 2 i) is_dreamed (sum 1 i) (sum 10 i) (sum 7 i) (sum 6 i) (sum 9 i) (sum 5 i)
      (total_mapped (λ (line : LiveLine). points_of facts.profile (position_in facts.players p) line.line +ℤ pos line.bonus) (own_line facts p) (pos 0) rows i)
      (sum_mapped (λ (line : LiveLine). counted_yellow line.line) (own_line facts p) rows i)

  explained_are : map (own_explained facts.profile (position_in facts.players p)) (map (own_line facts p) rows) ≡ map (explained_data facts p) rows
  explained_are = map-map (own_explained facts.profile (position_in facts.players p)) (own_line facts p) rows

  own_are : (is_dreamed : Bool) → own_data facts.profile (position_in facts.players p) p (map (own_line facts p) rows) is_dreamed
      ≡ object (member (codes "explain") (array (items_of (map (explained_data facts p) rows))) (member (codes "id") (count p) (member (codes "stats") (stats_data facts p rows is_dreamed) no_members)))
  own_are is_dreamed =
      λ i. object (member (codes "explain") (array (items_of (explained_are i))) (member (codes "id") (count p) (member (codes "stats") (stats_are is_dreamed i) no_members)))

module _ (facts : Facts) (g : ℕ) (lines : List LiveLine) (are : lines ≡ gathered facts g) (rising : (f : ℕ) → Rising (players_in (lines_of facts.matches f))) where
  -- the lines of a player are his own
  his : (p : ℕ) → filter (λ (line : LiveLine). line.player == p) lines ≡ map (own_line facts p) (gameweek_lines facts p g)
  his p = ap (filter (λ (line : LiveLine). line.player == p)) are ∙ own_is facts p g rising

  -- and are few
  pub his_few : length (standing facts.calendar g) ≤ 20 → (p : ℕ) → length (filter (λ (line : LiveLine). line.player == p) lines) ≤ 20
  his_few few p =
      let some = own_few facts p g few in
      omega (arith, some, ap length (his p), length-map (gameweek_lines facts p g) (own_line facts p))

  row_is : (team : List Row) (player : Player) → player.position ≡ position_in facts.players player.id → own_row facts.profile lines (map (λ (row : Row). row.0) team) player ≡ live_row facts team g player
  row_is team player at =
      (λ i. own_data facts.profile (at i) player.id (his player.id i) (any_mapped (λ other. other == player.id) (λ (row : Row). row.0) team i))
      ∙ own_are facts player.id (gameweek_lines facts player.id g) (is_in_team team player.id)

  pub players_are : (team : List ℕ) → team ≡ map (λ (row : Row). row.0) (team_of_the_week (rows_of_gameweek facts g)) → ArePlayers facts.players → g ≤ facts.calendar.locked → players_data facts lines team ≡ live_data facts g
  players_are team is lawful locked =
      let best : List Row = team_of_the_week (rows_of_gameweek facts g) in
      ap (λ (t : List ℕ). players_data facts lines t) is
      ∙ ap (λ (rows : List Data). object (member (codes "elements") (array (items_of rows)) no_members))
      (map_same (own_row facts.profile lines (map (λ (row : Row). row.0) best)) (live_row facts best g) facts.players (λ k d lt. row_is best (get_or facts.players k d) (have_positions facts.players lawful k d lt))
      ∙ sym (ap (λ (b : Bool). map (live_row facts best g) (if b then facts.players else [])) (le-leb g facts.calendar.locked locked)))

-- a gameweek that is not locked is open, and shows nobody
pub nobody_is : (facts : Facts) (number : ℕ) → 1 ≤ number → (if nat_le 1 number && is_locked facts.calendar number then Some number else None) ≡ None → no_elements ≡ live_data facts number
nobody_is facts number from e = go (is_locked facts.calendar number) refl
  where
    go : (b : Bool) → is_locked facts.calendar number ≡ b → no_elements ≡ live_data facts number
    go true f = absurd (none-some number (sym (sym (λ i. if le-leb 1 number from i && f i then Some number else None) ∙ e)))
    go false f =
        sym (ap (λ (b : Bool). object (member (codes "elements") (array (items_of (map (live_row facts (team_of_the_week (rows_of_gameweek facts number)) number) (if b then facts.players else [])))) no_members)) f)
