-- The points of the items of a line are its points with the bonus.
use Rattle.std.proofs.Common.{◌≡◌, ◌∙◌, refl, ap, ℕ, ◌+◌, ◌*◌, ℤ, pos, ◌+ℤ◌, ◌-ℤ◌, Bool, true, false, cond, not, List, [], ◌∷◌, filter, fold, arith}
use Rattle.std.specs.Ordering.{int_eq}
use Rattle.std.proofs.lemmas.Bool.Decides.{Decides-int_eq}
use Rattle.std.proofs.lemmas.Int.{ints}
use Rattle.fpl_base.specs.declared.kinds.Position.{Position}
use Rattle.fpl_base.specs.declared.kinds.Profile.{Profile}
use Rattle.rule_book.specs.declared.line.Line.{Line}
use Rattle.rule_book.specs.Figures.{figure}
use Rattle.rule_book.specs.PlayerFigures.{position_in}
use Rattle.rule_book.specs.Points.{clean_sheet_points, counted_yellow, goal_points, minutes_points, points_of}
use Rattle.rule_book.specs.Scoring.{gain, loss}
use Rattle.season_book.specs.Explained.{Item, conceded_worth, other_items, points_of_items, saves_worth, told_items}
use Rattle.season_book.specs.LineSums.{gameweek_lines, line_bonus, line_points}
use Rattle.season_book.specs.LiveWindow.{explained_items}
use Rattle.live_windows.specs.LiveLaws.{PointsAreExplained, PointsAreHis}

added : ℤ → List Item → ℤ
added z items = fold (λ total (it : Item). total +ℤ it.points) z items

nothing_added : (z p : ℤ) → p ≡ pos 0 → z ≡ z +ℤ p
nothing_added z p e = omega (arith, ints, e)

off : {b : Bool} → not b ≡ false → b ≡ true
off {b = true} e = refl
off {b = false} e = absurd (cc e)

-- what gives no points adds none
all_added : (z : ℤ) (items : List Item) → added z (filter (λ it. not (int_eq it.points (pos 0))) items) ≡ added z items
unfolding added
all_added z [] = refl
all_added z (it ∷ items) = go (not (int_eq it.points (pos 0))) refl (all_added (z +ℤ it.points) items) (all_added z items)
  where
    go : (b : Bool) → not (int_eq it.points (pos 0)) ≡ b
        → fold (λ total (i : Item). total +ℤ i.points) (z +ℤ it.points) (filter (λ (i : Item). not (int_eq i.points (pos 0))) items) ≡ fold (λ total (i : Item). total +ℤ i.points) (z +ℤ it.points) items
        → fold (λ total (i : Item). total +ℤ i.points) z (filter (λ (i : Item). not (int_eq i.points (pos 0))) items) ≡ fold (λ total (i : Item). total +ℤ i.points) z items
        → fold (λ total (i : Item). total +ℤ i.points) z (filter (λ (i : Item). not (int_eq i.points (pos 0))) (it ∷ items)) ≡ fold (λ total (i : Item). total +ℤ i.points) (z +ℤ it.points) items
    go true e more same =
        ap (λ t. fold (λ total (i : Item). total +ℤ i.points) z (cond t (it ∷ filter (λ (i : Item). not (int_eq i.points (pos 0))) items) (filter (λ (i : Item). not (int_eq i.points (pos 0))) items))) e ∙ more
    go false e more same =
        ap (λ t. fold (λ total (i : Item). total +ℤ i.points) z (cond t (it ∷ filter (λ (i : Item). not (int_eq i.points (pos 0))) items) (filter (λ (i : Item). not (int_eq i.points (pos 0))) items))) e ∙ same
        ∙ ap (λ y. fold (λ total (i : Item). total +ℤ i.points) y items) (nothing_added z it.points ((Decides-int_eq it.points (pos 0)).0 (off e)))

-- so much given and so much taken, with more of either
more : (z : ℤ) (g l c d : ℕ) → z ≡ pos g -ℤ pos l → z +ℤ (pos c -ℤ pos d) ≡ pos (g + c) -ℤ pos (l + d)
more z g l c d e = omega (arith, ints, e)

more_given : (z : ℤ) (g l c : ℕ) → z ≡ pos g -ℤ pos l → z +ℤ pos c ≡ pos (g + c) -ℤ pos l
more_given z g l c e = omega (arith, ints, e)

started : (c : ℕ) → pos 0 +ℤ pos c ≡ pos c -ℤ pos 0
started c = omega (arith, ints)

given : (mi go ai cs cg ps sg : ℕ) → ((((((((mi + go) + ai) + cs) + cg) + 0) + ps) + 0) + 0) + 0 + sg ≡ mi + (cs + (go + (ai + (cg + (sg + (ps + (0 + (0 + (0 + 0)))))))))
given mi go ai cs cg ps sg = omega arith

lost : (cl ow pm ye one re sl : ℕ) → one ≡ ye → (((((((((0 + 0) + 0) + cl) + ow) + 0) + pm) + one) + re) + sl) ≡ ye + (0 + (0 + (cl + (sl + (0 + (pm + (re + (ow + 0))))))))
lost cl ow pm ye one re sl e = omega (arith, e)

sums : (mi go ai cs cg cl ow ps pm ye one re sg sl bo : ℕ) → one ≡ ye
    → (((((((((((pos 0 +ℤ pos mi) +ℤ (pos go -ℤ pos 0)) +ℤ (pos ai -ℤ pos 0)) +ℤ pos cs) +ℤ (pos cg -ℤ pos cl)) +ℤ (pos 0 -ℤ pos ow)) +ℤ (pos ps -ℤ pos 0)) +ℤ (pos 0 -ℤ pos pm)) +ℤ (pos 0 -ℤ pos one))
    +ℤ (pos 0 -ℤ pos re)) +ℤ (pos sg -ℤ pos sl)) +ℤ pos bo
    ≡ (pos (mi + (cs + (go + (ai + (cg + (sg + (ps + (0 + (0 + (0 + 0)))))))))) -ℤ pos (ye + (0 + (0 + (cl + (sl + (0 + (pm + (re + (ow + 0)))))))))) +ℤ pos bo
sums mi go ai cs cg cl ow ps pm ye one re sg sl bo e =
    let to_goals = more (pos 0 +ℤ pos mi) mi 0 go 0 (started mi) in
    let to_assists = more _ (mi + go) (0 + 0) ai 0 to_goals in
    let g4 : ℕ = ((mi + go) + ai) + cs in
    let l4 : ℕ = (0 + 0) + 0 in
    let to_sheet = more_given _ ((mi + go) + ai) l4 cs to_assists in
    let to_conceded = more _ g4 l4 cg cl to_sheet in
    let to_own = more _ (g4 + cg) (l4 + cl) 0 ow to_conceded in
    let to_saved = more _ ((g4 + cg) + 0) ((l4 + cl) + ow) ps 0 to_own in
    let to_missed = more _ (((g4 + cg) + 0) + ps) (((l4 + cl) + ow) + 0) 0 pm to_saved in
    let to_yellow = more _ ((((g4 + cg) + 0) + ps) + 0) ((((l4 + cl) + ow) + 0) + pm) 0 one to_missed in
    let to_red = more _ (((((g4 + cg) + 0) + ps) + 0) + 0) (((((l4 + cl) + ow) + 0) + pm) + one) 0 re to_yellow in
    let to_saves = more _ ((((((g4 + cg) + 0) + ps) + 0) + 0) + 0) ((((((l4 + cl) + ow) + 0) + pm) + one) + re) sg sl to_red in
    ap (λ z. z +ℤ pos bo) (to_saves ∙ (λ i. pos (given mi go ai cs cg ps sg i) -ℤ pos (lost cl ow pm ye one re sl e i)))

once : (n : ℕ) → 1 * n ≡ n
once n = omega arith

module _ (profile : Profile) (position : Position) (line : Line) (bonus : ℕ) where
  all_items : points_of_items (told_items profile position line bonus) ≡ added (pos 0 +ℤ pos (minutes_points line)) (other_items profile position line bonus)
  unfolding added
  all_items = all_added (pos 0 +ℤ pos (minutes_points line)) (other_items profile position line bonus)

  pub items_sum : points_of_items (told_items profile position line bonus) ≡ points_of profile position line +ℤ pos bonus
  unfolding added points_of
  items_sum =
      all_items
      ∙ sums (minutes_points line) (goal_points profile position * figure line 2) (3 * figure line 3) (clean_sheet_points position line)
      (gain (conceded_worth position) (figure line 4)) (loss (conceded_worth position) (figure line 4)) (2 * figure line 10) (5 * figure line 6) (2 * figure line 7)
      (counted_yellow line) (1 * counted_yellow line) (3 * figure line 9) (gain (saves_worth position) (figure line 5)) (loss (saves_worth position) (figure line 5)) bonus
      (once (counted_yellow line))

-- two sums of the same are the same
sum_same : (f g : ℕ × Line → ℤ) (z : ℤ) (rows : List (ℕ × Line)) → ((row : ℕ × Line) → f row ≡ g row)
    → fold (λ total (row : ℕ × Line). total +ℤ f row) z rows ≡ fold (λ total (row : ℕ × Line). total +ℤ g row) z rows
sum_same f g z [] same = refl
sum_same f g z (row ∷ rows) same =
    ap (λ w. fold (λ total (r : ℕ × Line). total +ℤ f r) (z +ℤ w) rows) (same row) ∙ sum_same f g (z +ℤ g row) rows same

pub points_are_explained : PointsAreExplained
points_are_explained facts p g =
    sum_same (λ row. points_of_items (explained_items facts p row)) (line_points facts p) (pos 0) (gameweek_lines facts p g)
    (λ row. items_sum facts.profile (position_in facts.players p) row.1 (line_bonus facts p row))

pub points_are_his : PointsAreHis
points_are_his facts p g = refl
