-- Scores and totals.
use Rattle.std.proofs.Common.{◌≡◌, ◌∙◌, ◌≤◌, ◌+◌, ◌*◌, ℕ, ℤ, Bool, true, false, cond, eqb, ◌&&◌, List, [], ◌∷◌, ◌++◌, map, ap, arith, refl, subst, sym, add-one}
use Rattle.std.specs.Prelude.{◌+ℤ◌}
use Rattle.std.proofs.lemmas.List.Sums.{sum_by-cons}
use Rattle.fpl_base.specs.declared.kinds.Position.{Position}
use Rattle.fpl_base.specs.declared.kinds.Position.TheVariants.{Keeper, Defender, Midfielder, Forward}
use Rattle.rule_book.specs.FigureRange.{IsWithin}
use Rattle.rule_book.specs.Ranks.{AllDiffer}
use Rattle.squad_rules.specs.Dreams.{HasNoEleven, IsGreatestTotal}
use Rattle.squad_rules.specs.Elevens.{Row, count_in}
use Rattle.squad_rules.specs.Pools.{is_at}
use Rattle.draft_league.specs.Holdings.{count_in as held_count, is_position}
use Rattle.draft_league.specs.Leagues.{HasFullSquads, League, held_at, is_over}
use Rattle.draft_league.specs.Squads.{player_in, players_in}
use Rattle.draft_league.specs.declared.kinds.Holding.{Holding}
use Rattle.fpl_drafting.specs.Totals.{AreTotals, IsTotal, row_at, rows_at}
use Rattle.fpl_drafting.specs.declared.totals.Told.{Told}
use Rattle.fpl_drafting.specs.declared.totals.Total.{Total}
use Rattle.fpl_drafting.proofs.Elevens.{has_eleven, rows_apart}

-- ---- a squad's rows

names_of : (told : List Told) (g : ℕ) (squad : List (ℕ × Position)) → map (λ (row : Row). row.0) (map (row_at told g) squad) ≡ map (λ (one : ℕ × Position). one.0) squad
names_of told g [] = refl
names_of told g (one ∷ squad) = ap (λ more. one.0 ∷ more) (names_of told g squad)

-- players who differ have rows that do
pub rows_differ : (told : List Told) (g : ℕ) (squad : List (ℕ × Position)) (rows : List Row) → rows ≡ map (row_at told g) squad → AllDiffer (map (λ (one : ℕ × Position). one.0) squad)
    → AllDiffer (map (λ (row : Row). row.0) rows)
rows_differ told g squad rows are differ =
    subst (λ names. AllDiffer names) (sym (ap (map (λ (row : Row). row.0)) are ∙ names_of told g squad)) differ

same_test : (p x : Position) → is_at p x ≡ is_position p x
same_test Keeper x = refl
same_test Defender x = refl
same_test Midfielder x = refl
same_test Forward x = refl

-- a member's rows have a position as often as he owns a player of it
count_rows : (told : List Told) (g : ℕ) (held : List Holding) (member : ℕ) (p : Position) → count_in (is_at p) (map (row_at told g) (players_in held member)) ≡ held_count held member p
count_rows told g [] member p = refl
count_rows told g (holding ∷ held) member p =
    go (eqb holding.member member) refl (count_rows told g held member p)
    ∙ sym (sum_by-cons (λ (h : Holding). cond (eqb h.member member && is_position p h.position) 1 0) holding held)
  where
    go : (b : Bool) → eqb holding.member member ≡ b → count_in (is_at p) (map (row_at told g) (players_in held member)) ≡ held_count held member p
        → count_in (is_at p) (map (row_at told g) (players_in (holding ∷ held) member)) ≡ cond (eqb holding.member member && is_position p holding.position) 1 0 + held_count held member p
    go true is more =
        rw is (sum_by-cons (λ (r : Row). cond (is_at p r.1) 1 0) (row_at told g (player_in holding)) (map (row_at told g) (players_in held member))
        ∙ ap (λ n. cond (is_at p holding.position) 1 0 + n) more ∙ ap (λ b. cond b 1 0 + held_count held member p) (same_test p holding.position))
    go false is more = rw is (omega (arith, more))

-- the fifteen of a member have a legal eleven
pub squad_plays : (league : League) (told : List Told) (member g : ℕ) (squad : List (ℕ × Position)) (rows : List Row) → is_over league ≡ true → HasFullSquads league → 1 ≤ member → member ≤ league.members
    → squad ≡ players_in (held_at league g) member → rows ≡ map (row_at told g) squad → AllDiffer (map (λ (row : Row). row.0) rows) → HasNoEleven rows → ⊥
squad_plays league told member g squad rows over full least most squad_is rows_are differ =
    let are : rows ≡ map (row_at told g) (players_in (held_at league g) member) = rows_are ∙ ap (map (row_at told g)) squad_is in
    has_eleven rows (rows_apart rows differ)
    (ap (count_in (is_at Keeper)) are ∙ count_rows told g (held_at league g) member Keeper ∙ full over g member Keeper least most)
    (ap (count_in (is_at Defender)) are ∙ count_rows told g (held_at league g) member Defender ∙ full over g member Defender least most)
    (ap (count_in (is_at Midfielder)) are ∙ count_rows told g (held_at league g) member Midfielder ∙ full over g member Midfielder least most)
    (ap (count_in (is_at Forward)) are ∙ count_rows told g (held_at league g) member Forward ∙ full over g member Forward least most)

-- ---- totals

-- one more score
pub total_more : (league : League) (told : List Told) (member g : ℕ) (before score total : ℤ) → IsTotal league told member g before → IsGreatestTotal (rows_at league told member (g + 1)) score
    → total ≡ before +ℤ score → IsTotal league told member (g + 1) total
total_more league told member g before score total so_far one is = rw add-one (before, score, so_far, rw add-one at one, is)

-- one more member
pub totals_more : (league : League) (told : List Told) (locked member : ℕ) (before after : List Total) (total : ℤ) → AreTotals league told locked member before
    → IsTotal league told (member + 1) locked total → after ≡ before ++ (record { member = member + 1; total = total }) ∷ [] → AreTotals league told locked (member + 1) after
totals_more league told locked member before after total so_far one is = rw add-one (before, total, so_far, rw add-one at one, rw add-one at is)

-- the bound that grows with each score
pub within_more : (place : ℕ) (before total : ℤ) → IsWithin (2147483648 * place) before → ((n : ℕ) → IsWithin n before → IsWithin (n + 2147483648) total) → IsWithin (2147483648 * (place + 1)) total
within_more place before total within more =
    let same : 2147483648 * place + 2147483648 ≡ 2147483648 * (place + 1) = omega arith in
    subst (λ (n : ℕ). IsWithin n total) same (more (2147483648 * place) within)
