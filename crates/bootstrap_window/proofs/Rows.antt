-- Rows of entries that a loop goes through, one more at a time.
use Rattle.std.proofs.Common.{◌≡◌, ◌<◌, ◌≤◌, ◌+◌, ◌∷◌, [], ◌++◌, ◌∙◌, ℕ, Bool, true, false, cond, List, Some, arith, length, map, take, refl, sym, ap, subst, if◌then◌else◌}
use Rattle.std.specs.Prelude.{filter, is_some}
use Rattle.std.specs.List.{enumerate_from, slice_get}
use Rattle.std.proofs.lemmas.List.{map-append, take_all}
use Rattle.std.proofs.lemmas.List.FromFn.{get_or-enumerate_from, length-enumerate_from}
use Rattle.std.proofs.lemmas.Option.{slice_get_read}
use Rattle.json_members.proofs.ListLemmas.{got}
use Rattle.rule_book.specs.History.{Event}
use Rattle.rule_book.specs.HistoryRules.{is_started}
use Rattle.rule_book.specs.UpTo.{start_of}
use Rattle.season_book.specs.Windows.{numbered}
use Rattle.season_views.proofs.Lists.{take_next}

-- what stands at a place of a list is numbered there
pub numbered_get : {X : Type 0} (xs : List X) (i n : ℕ) (x : X) → slice_get xs i ≡ Some x → 1 + i ≡ n → slice_get (numbered xs) i ≡ Some (n, x)
numbered_get xs i n x at number =
    let there = got xs i x at in
    let within : i < length (enumerate_from 1 xs) = subst (λ m. i < m) (sym (length-enumerate_from 1 xs)) there.0 in
    slice_get_read (enumerate_from 1 xs) (length (enumerate_from 1 xs)) i (n, x) refl within (sym (get_or-enumerate_from 1 xs i (n, x) there.0 ∙ (λ j. (number j, there.1 j))))

filter_push : {X : Type 0} (p : X → Bool) (xs : List X) (x : X) → filter p (xs ++ x ∷ []) ≡ filter p xs ++ cond (p x) (x ∷ []) []
filter_push p [] x = refl
filter_push p (y ∷ xs) x = by_test (p y) (filter_push p xs x)
  where
    by_test : (b : Bool) → filter p (xs ++ x ∷ []) ≡ filter p xs ++ cond (p x) (x ∷ []) []
        → cond b (y ∷ filter p (xs ++ x ∷ [])) (filter p (xs ++ x ∷ [])) ≡ cond b (y ∷ filter p xs) (filter p xs) ++ cond (p x) (x ∷ []) []
    by_test true rest = ap (λ l. y ∷ l) rest
    by_test false rest = rest

-- what is kept of the first of a list and of one more
pub kept_push : {X : Type 0} (p : X → Bool) (xs : List X) (i : ℕ) (x : X) → slice_get xs i ≡ Some x → filter p (take (i + 1) xs) ≡ filter p (take i xs) ++ (if p x then x ∷ [] else [])
kept_push p xs i x at = ap (filter p) (take_next xs i x at) ∙ filter_push p (take i xs) x

map_if : {X Y : Type 0} (f : X → Y) (b : Bool) (x : X) → map f (if b then x ∷ [] else []) ≡ (if b then f x ∷ [] else [])
map_if f true x = refl
map_if f false x = refl

pub mapped_push : {X Y : Type 0} (f : X → Y) (p : X → Bool) (xs : List X) (i : ℕ) (x : X) → slice_get xs i ≡ Some x
    → map f (filter p (take (i + 1) xs)) ≡ map f (filter p (take i xs)) ++ (if p x then f x ∷ [] else [])
mapped_push f p xs i x at =
    ap (map f) (kept_push p xs i x at) ∙ map-append f (filter p (take i xs)) (if p x then x ∷ [] else []) ∙ ap (λ l. map f (filter p (take i xs)) ++ l) (map_if f (p x) x)

-- all that is numbered stands before a place behind it
pub all_numbered : {X : Type 0} (xs : List X) (i : ℕ) → length xs ≤ i → take i (numbered xs) ≡ numbered xs
all_numbered xs i past = take_all i (numbered xs) (omega (arith, length-enumerate_from 1 xs, past))

-- a history has begun where it has a first gameweek
pub started_is : (h : List Event) → is_some (start_of h) ≡ is_started h
started_is [] = refl
started_is (e ∷ h) = refl
