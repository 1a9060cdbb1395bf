-- Lists that a loop makes, and lists of zeros.
use Rattle.std.proofs.Common.{◌≡◌, ◌<◌, ◌+◌, ◌++◌, ◌∷◌, [], ℕ, List, length, get_or, map, replicate, take, arith, refl, ap, length-append}
use Rattle.std.proofs.lemmas.List.{take_more}

-- a list with one element more is as long as the first elements of another with one more
pub long_more : {X Y : Type 0} (xs : List X) (i : ℕ) (x : X) (y : Y) (old new : List Y) → i < length xs → x ≡ get_or xs i x → new ≡ old ++ y ∷ [] → length old ≡ length (take i xs)
    → length new ≡ length (take (i + 1) xs)
long_more xs i x y old new within is more so_far =
    let a = ap length more in
    let b = length-append old (y ∷ []) in
    let c = ap length (take_more xs i x within) in
    let d = length-append (take i xs) (get_or xs i x ∷ []) in
    omega (arith, a, b, c, d, so_far)

-- zeros are what each gives where each gives 0
abbrev pub zeros_of : ℕ → List ℕ
zeros_of n = replicate n 0

pub zeros : (members : List ℕ) → zeros_of (length members) ≡ map (λ m. 0) members
zeros [] = refl
zeros (m ∷ members) = ap (λ ns. 0 ∷ ns) (zeros members)
