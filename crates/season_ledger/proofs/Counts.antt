-- How many swaps a gameweek has, as events come.
use Rattle.std.proofs.Common.{◌≡◌, ◌+◌, ◌≢◌, ◌∷◌, [], ◌++◌, ℕ, suc, Bool, true, false, cond, ◌&&◌, ◌||◌, List, length, map, arith, refl, ap, ◌∙◌, nat_eq}
use Rattle.std.proofs.lemmas.Bool.Decides.{nat_tests}
use Rattle.rule_book.specs.declared.transfers.Sale.{Sale}
use Rattle.rule_book.specs.History.{Deed, Event, is_touched, in_gameweek}
use Rattle.rule_book.specs.History.Deed.{Swap}
use Rattle.rule_book.specs.HistoryTransfers.{is_swap, swaps_in}

pub swaps_in-append : (h k : List Event) (g : ℕ) → swaps_in (h ++ k) g ≡ swaps_in h g + swaps_in k g
swaps_in-append [] k g = omega arith
swaps_in-append (e ∷ h) k g = let i : swaps_in (h ++ k) g ≡ swaps_in h g + swaps_in k g = swaps_in-append h k g in step (nat_eq e.gw g && is_swap e.deed) i
  where
    step : (b : Bool) → swaps_in (h ++ k) g ≡ swaps_in h g + swaps_in k g → cond b (suc (swaps_in (h ++ k) g)) (swaps_in (h ++ k) g) ≡ cond b (suc (swaps_in h g)) (swaps_in h g) + swaps_in k g
    step true i = omega arith
    step false i = i

swaps_elsewhere : (g w : ℕ) (ds : List Deed) → w ≢ g → swaps_in (in_gameweek g ds) w ≡ 0
swaps_elsewhere g w [] n = refl
swaps_elsewhere g w (d ∷ ds) n = let i : swaps_in (in_gameweek g ds) w ≡ 0 = swaps_elsewhere g w ds n in let t : nat_eq g w ≡ false = grind (arith, nat_tests) in rw t i

pub swaps_other : (h : List Event) (g w : ℕ) (ds : List Deed) → w ≢ g → swaps_in (h ++ in_gameweek g ds) w ≡ swaps_in h w
swaps_other h g w ds n = let a : swaps_in (h ++ in_gameweek g ds) w ≡ swaps_in h w + swaps_in (in_gameweek g ds) w = swaps_in-append h (in_gameweek g ds) w in let b : swaps_in (in_gameweek g ds) w ≡ 0 = swaps_elsewhere g w ds n in omega arith

batch : (g : ℕ) (ss : List Sale) → swaps_in (in_gameweek g (map Swap ss)) g ≡ length ss
batch g [] = refl
batch g (s ∷ ss) = let i : swaps_in (in_gameweek g (map Swap ss)) g ≡ length ss = batch g ss in let t : nat_eq g g ≡ true = grind (arith, nat_tests) in rw t (ap suc i)

pub swaps_batch : (h : List Event) (g : ℕ) (ss : List Sale) → swaps_in (h ++ in_gameweek g (map Swap ss)) g ≡ swaps_in h g + length ss
swaps_batch h g ss = swaps_in-append h (in_gameweek g (map Swap ss)) g ∙ ap (λ n. swaps_in h g + n) (batch g ss)

pub swaps_deed : (h : List Event) (g : ℕ) (d : Deed) → is_swap d ≡ false → swaps_in (h ++ in_gameweek g (d ∷ [])) g ≡ swaps_in h g
swaps_deed h g d n = let a : swaps_in (h ++ in_gameweek g (d ∷ [])) g ≡ swaps_in h g + swaps_in (in_gameweek g (d ∷ [])) g = swaps_in-append h (in_gameweek g (d ∷ [])) g in let b : swaps_in (in_gameweek g (d ∷ [])) g ≡ 0 = none in omega arith
  where
    none : swaps_in (in_gameweek g (d ∷ [])) g ≡ 0
    none = let t : nat_eq g g ≡ true = grind (arith, nat_tests) in rw (t, n) refl

-- nothing done, nothing swapped
pub swaps_untouched : (h : List Event) (g : ℕ) → is_touched h g ≡ false → swaps_in h g ≡ 0
swaps_untouched [] g t = refl
swaps_untouched (e ∷ h) g t = let p = parts (nat_eq e.gw g) (is_touched h g) t in let a : nat_eq e.gw g ≡ false = p.0 in let i : swaps_in h g ≡ 0 = swaps_untouched h g p.1 in rw a i
  where
    parts : (a b : Bool) → (a || b) ≡ false → (a ≡ false) × (b ≡ false)
    parts true b e = cc
    parts false b e = (refl, e)
