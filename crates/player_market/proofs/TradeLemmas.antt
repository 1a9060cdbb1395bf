-- What is found among players.
use Rattle.std.proofs.Common.{◌≡◌, ◌<◌, ◌+◌, ◌≤◌, ◌∷◌, [], ◌++◌, map, ℕ, Bool, true, false, Some, List, length, get_or, drop, set, take, refl, sym, ap, subst, arith, ◌∙◌}
use Rattle.std.specs.Prelude.{All, find}
use Rattle.std.proofs.lemmas.List.{drop_more, take_more_set, map_more, take_all, length-set}
use Rattle.std.proofs.lemmas.List.Elements.{All-head, All-tail}
use Rattle.rule_book.specs.declared.player.Player.{Player}
use Rattle.rule_book.specs.declared.team.Pick.{Pick}
use Rattle.rule_book.specs.declared.transfers.Swap.{Swap}
use Rattle.rule_book.specs.Batch.{club_of, is_club_full, first_full_club}

-- what holds of each element holds of one that is found
pub found_has : {A : Type 0} (P : A → Type 0) (test : A → Bool) (xs : List A) (x : A) → All P xs → find test xs ≡ Some x → P x
found_has P test [] x all found = cc
found_has P test (y ∷ ys) x all found = by_test (found_has P test ys x (All-tail P y ys all)) (test y) refl
  where
    by_test : (find test ys ≡ Some x → P x) → (b : Bool) → test y ≡ b → P x
    by_test more true e = let same : y ≡ x = let f : Some y ≡ Some x = rw e at found in cc in subst P same (All-head P y ys all)
    by_test more false e = more (rw e at found)

-- the club of the first incomer whose club is full: no further where it is not
pub full_more : (players : List Player) (after : List Pick) (swaps : List Swap) (i : ℕ) (d : Swap) → i < length swaps → is_club_full players after (get_or swaps i d).into ≡ false
    → first_full_club players after (drop (i + 1) swaps) ≡ first_full_club players after (drop i swaps)
full_more players after swaps i d within room = sym (ap (first_full_club players after) (drop_more swaps i d within) ∙ (rw room refl))

-- and here where it is
pub full_here : (players : List Player) (after : List Pick) (swaps : List Swap) (i : ℕ) (d : Swap) → i < length swaps → is_club_full players after (get_or swaps i d).into ≡ true
    → first_full_club players after (drop i swaps) ≡ Some (club_of players (get_or swaps i d).into)
full_here players after swaps i d within full = ap (first_full_club players after) (drop_more swaps i d within) ∙ (rw full refl)

-- the first elements of one array are made of those of another
pub record MadeUpTo {A : Type 0} (f : A → A) (xs ys : List A) (i : ℕ) : Type 0 where
  pub long : length ys ≡ length xs
  pub front : take i ys ≡ map f (take i xs)

pub made_more : {A : Type 0} (f : A → A) (xs ys : List A) (i : ℕ) (d : A) → i < length xs → MadeUpTo f xs ys i → MadeUpTo f xs (set ys i (f (get_or xs i d))) (i + 1)
made_more f xs ys i d within made = record {
  long = length-set ys i (f (get_or xs i d)) ∙ made.long;
  front = take_more_set ys i (f (get_or xs i d)) (omega (arith, made.long)) ∙ ap (λ l. l ++ f (get_or xs i d) ∷ []) made.front ∙ sym (map_more f xs i d within);
}

pub made_whole : {A : Type 0} (f : A → A) (xs ys : List A) (i : ℕ) → length xs ≤ i → MadeUpTo f xs ys i → ys ≡ map f xs
made_whole f xs ys i whole made = sym (take_all i ys (omega (arith, made.long))) ∙ made.front ∙ ap (map f) (take_all i xs whole)
