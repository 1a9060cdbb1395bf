-- Lists that a loop makes, one more element at a time.
use Rattle.std.proofs.Common.{◌≡◌, ◌<◌, ◌≤◌, ◌+◌, ◌==◌, ◌||◌, ◌∷◌, [], ◌++◌, ℕ, Bool, true, false, cond, if◌then◌else◌, List, Option, Some, is_some, length, get_or, map, take, drop, refl, sym, ap, ◌∙◌}
use Rattle.std.specs.List.{filter, flat_map, list_any}
use Rattle.std.proofs.lemmas.List.{at_drop_all, at_drop_more, take_all, take_more, map-append, append-nil, flat_map_more}
use Rattle.std.proofs.lemmas.List.Elements.{filter_more}
use Rattle.std.proofs.lemmas.List.Sums.{fold_push}
use Rattle.rule_book.specs.declared.line.Line.{Line}
use Rattle.rule_book.specs.declared.team_score.Figures.{Figures}
use Rattle.rule_book.specs.MatchFacts.{Lines, line_in, players_in}
use Rattle.season_nodes.specs.declared.nodes.LineWorth.{LineWorth}
use Rattle.season_nodes.specs.Season.{no_figures, with_worth, gathered}

-- one more element behind the first i
pub take_next : {X : Type 0} (xs : List X) (i : ℕ) (x : X) → i < length xs → x ≡ get_or xs i x → take (i + 1) xs ≡ take i xs ++ x ∷ []
take_next xs i x within is = take_more xs i x within ∙ ap (λ y. take i xs ++ y ∷ []) (sym is)

listed_case : (b c : Bool) (line : Line) (rest : Option Line) → c ≡ is_some rest → (b || c) ≡ is_some (cond b (Some line) rest)
listed_case true c line rest e = refl
listed_case false c line rest e = e

-- who is listed has a line
pub listed_test : (lines : Lines) (p : ℕ) → list_any (λ q. q == p) (players_in lines) ≡ is_some (line_in lines p)
listed_test [] p = refl
listed_test (row ∷ lines) p = listed_case (row.0 == p) (list_any (λ q. q == p) (players_in lines)) row.1 (line_in lines p) (listed_test lines p)

step_case : (w : ℕ → LineWorth) (u : ℕ → ℕ) (fs : List ℕ) (f : ℕ) (b : Bool) → gathered w u (fs ++ cond b (f ∷ []) []) ≡ (if b then with_worth (gathered w u fs) (w f) (u f) else gathered w u fs)
step_case w u fs f true = fold_push (λ figures f. with_worth figures (w f) (u f)) no_figures fs f
step_case w u fs f false = ap (gathered w u) (append-nil fs)

-- the figures with one fixture more
pub gathered_more : (test : ℕ → Bool) (w : ℕ → LineWorth) (u : ℕ → ℕ) (fs : List ℕ) (i f : ℕ) (old new : Figures) → i < length fs → f ≡ get_or fs i f
    → old ≡ gathered w u (filter test (take i fs)) → new ≡ (if test f then with_worth old (w f) (u f) else old) → new ≡ gathered w u (filter test (take (i + 1) fs))
gathered_more test w u fs i f old new within is so_far more =
    more ∙ ap (λ figures. if test f then with_worth figures (w f) (u f) else figures) so_far
    ∙ sym (step_case w u (filter test (take i fs)) f (test f))
    ∙ ap (λ k. gathered w u (filter test (take i fs) ++ cond (test k) (k ∷ []) [])) is
    ∙ ap (gathered w u) (sym (filter_more test fs i f within))

-- a list that is mapped, with one more
pub mapped_more : {X Y : Type 0} (f : X → Y) (xs : List X) (i : ℕ) (d : X) → i < length xs → map f (take i xs) ++ f (get_or xs i d) ∷ [] ≡ map f (take (i + 1) xs)
mapped_more f xs i d within = sym (map-append f (take i xs) (get_or xs i d ∷ [])) ∙ ap (map f) (sym (take_more xs i d within))

-- what a function makes of each, one after another, with one more
pub flat_more : {X Y : Type 0} (f : X → List Y) (xs : List X) (i : ℕ) (d : X) → i < length xs → flat_map f (take i xs) ++ f (get_or xs i d) ≡ flat_map f (take (i + 1) xs)
flat_more f xs i d within = flat_map_more f [] (take i xs) (get_or xs i d) ∙ ap (flat_map f) (sym (take_more xs i d within))

-- a list whose first n are made of the first n of another, where neither has more
pub made_whole : {X Y : Type 0} (f : X → Y) (xs : List X) (ys : List Y) (n : ℕ) → length xs ≤ n → length ys ≤ n → take n ys ≡ map f (take n xs) → ys ≡ map f xs
made_whole f xs ys n short also made = sym (take_all n ys also) ∙ made ∙ ap (map f) (take_all n xs short)

any_append : (t : ℕ → Bool) (xs ys : List ℕ) → list_any t (xs ++ ys) ≡ (list_any t xs || list_any t ys)
any_append t [] ys = refl
any_append t (x ∷ xs) ys = ap (λ b. t x || b) (any_append t xs ys) ∙ parts (t x) (list_any t xs) (list_any t ys)
  where
    parts : (x y z : Bool) → (x || (y || z)) ≡ ((x || y) || z)
    parts true y z = refl
    parts false y z = refl

-- whether one of the lists has an element that passes
pub any_flat : (t : ℕ → Bool) (f : ℕ → List ℕ) (xs : List ℕ) → list_any (λ x. list_any t (f x)) xs ≡ list_any t (flat_map f xs)
any_flat t f [] = refl
any_flat t f (x ∷ xs) = ap (λ b. list_any t (f x) || b) (any_flat t f xs) ∙ sym (any_append t (f x) (flat_map f xs))

-- an element that passes, in the rest of a list that has all that pass
pub any_found : (t : ℕ → Bool) (xs : List ℕ) (i x : ℕ) → i < length xs → x ≡ get_or xs i x → list_any t xs ≡ list_any t (drop i xs) → t x ≡ true → list_any t xs ≡ true
any_found t xs i x within is rest passes =
    rest ∙ at_drop_more (list_any t) xs i x within ∙ ap (λ y. t y || list_any t (drop (i + 1) xs)) (sym is) ∙ ap (λ b. b || list_any t (drop (i + 1) xs)) passes

-- and none
pub any_none : (t : ℕ → Bool) (xs : List ℕ) (i : ℕ) → length xs ≤ i → list_any t xs ≡ list_any t (drop i xs) → list_any t xs ≡ false
any_none t xs i past rest = rest ∙ at_drop_all (list_any t) xs i past
