-- A list that is filled by a function of another one.
use Rattle.std.proofs.Common.{◌≡◌, ℕ, ◌≤◌, ◌<◌, ◌+◌, List, [], ◌∷◌, ◌++◌, map, take, set, get_or, length, sym, ap, ◌∙◌, arith}
use Rattle.std.proofs.lemmas.List.{take_all, take_more, take_more_set, take-map, length-map, length-set, map-append}

-- the first places of xs hold what f gives of those of ys
pub record Copied {X Y : Type 0} (f : Y → X) (ys : List Y) (n : ℕ) (xs : List X) : Type 0 where
  pub all : length xs ≡ length ys
  pub front : take n xs ≡ take n (map f ys)

pub copied_whole : {X Y : Type 0} (f : Y → X) (ys : List Y) (n : ℕ) (xs : List X) → length ys ≤ n → Copied f ys n xs → xs ≡ map f ys
copied_whole f ys n xs long c =
    let few : length xs ≤ n = omega (arith, c.all) in
    sym (take_all n xs few) ∙ c.front ∙ take_all n (map f ys) (omega (arith, length-map ys f))

pub copied_more : {X Y : Type 0} (f : Y → X) (ys : List Y) (n : ℕ) (xs : List X) (y : Y) → n < length ys → Copied f ys n xs → Copied f ys (n + 1) (set xs n (f (get_or ys n y)))
copied_more f ys n xs y inside c =
    let all : length xs ≡ length ys = c.all in
    record {
      all = length-set xs n (f (get_or ys n y)) ∙ c.all;
      front = take_more_set xs n (f (get_or ys n y)) (omega arith) ∙ ap (λ zs. zs ++ f (get_or ys n y) ∷ []) (c.front ∙ take-map f n ys)
          ∙ sym (take-map f (n + 1) ys ∙ ap (map f) (take_more ys n y inside) ∙ map-append f (take n ys) (get_or ys n y ∷ []));
    }
