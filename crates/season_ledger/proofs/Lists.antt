-- Lists, and the last of one.
use Rattle.std.proofs.Common.{◌≡◌, ◌∷◌, [], ◌++◌, Bool, true, false, List, map, refl, ap}
use Rattle.std.specs.Prelude.{filter}
use Rattle.std.specs.List.{AllByRecursion as Each}
use Rattle.rule_book.specs.History.{last_of}

pub last_of-push : {A : Type 0} (d : A) (xs : List A) (x : A) → last_of d (xs ++ x ∷ []) ≡ x
last_of-push d [] x = refl
last_of-push d (y ∷ xs) x = last_of-push y xs x

pub last_of-append : {A : Type 0} (d : A) (xs ys : List A) → last_of d (xs ++ ys) ≡ last_of (last_of d xs) ys
last_of-append d [] ys = refl
last_of-append d (x ∷ xs) ys = last_of-append x xs ys

-- two tests that agree at each element of xs keep the same
pub filter_agree_on : {A : Type 0} (p q : A → Bool) (xs : List A) → Each (λ x. p x ≡ q x) xs → filter p xs ≡ filter q xs
filter_agree_on p q [] h = refl
filter_agree_on p q (x ∷ xs) h = let e : filter p xs ≡ filter q xs = filter_agree_on p q xs h.1 in let f : p x ≡ q x = h.0 in cc

pub map_map : {A B C : Type 0} (f : B → C) (g : A → B) (xs : List A) → map f (map g xs) ≡ map (λ x. f (g x)) xs
map_map f g [] = refl
map_map f g (x ∷ xs) = ap (λ r. f (g x) ∷ r) (map_map f g xs)

pub filter_all : {A : Type 0} (p : A → Bool) (xs : List A) → Each (λ x. p x ≡ true) xs → filter p xs ≡ xs
filter_all p [] h = refl
filter_all p (x ∷ xs) h = let e : filter p xs ≡ xs = filter_all p xs h.1 in let f : p x ≡ true = h.0 in rw (f, e)

pub filter_none : {A : Type 0} (p : A → Bool) (xs : List A) → Each (λ x. p x ≡ false) xs → filter p xs ≡ []
filter_none p [] h = refl
filter_none p (x ∷ xs) h = let e : filter p xs ≡ [] = filter_none p xs h.1 in let f : p x ≡ false = h.0 in rw (f, e)

pub each_every : {A : Type 0} (P : A → Type 0) (every : (x : A) → P x) (xs : List A) → Each P xs
each_every P every [] = tt
each_every P every (x ∷ xs) = (every x, each_every P every xs)

pub each_weaker : {A : Type 0} (P Q : A → Type 0) (weaker : (x : A) → P x → Q x) (xs : List A) → Each P xs → Each Q xs
each_weaker P Q weaker [] h = tt
each_weaker P Q weaker (x ∷ xs) h = (weaker x h.0, each_weaker P Q weaker xs h.1)
