-- Lists of rows, one record after the other.
use Rattle.std.proofs.Common.{◌≡◌, ◌+◌, ℕ, List, [], ◌∷◌, ◌++◌, length, length-append, map, arith, ap, refl, sym, ◌∙◌, append_assoc}
use Rattle.std.specs.List.{All}
use Rattle.std.proofs.lemmas.List.{map-append}
use Rattle.std.proofs.lemmas.List.Elements.{All-push}
use Rattle.fpl_reports.specs.Rows.{AddAll}

-- one more row behind these
pub AddAll-more : {Row : Type 0} (Adds : List Row → List (List ℕ) → Row → Type 0) (before : List Row) (front : List (List (List ℕ))) (rows : List Row) (fields : List (List ℕ)) (row : Row)
    → AddAll Adds before front rows → Adds rows fields row → AddAll Adds before (front ++ fields ∷ []) (rows ++ row ∷ [])
unfolding AddAll
AddAll-more {Row} Adds before [] rows fields row h adds = (row, rw (← h) adds, ap (λ (r : List Row). r ++ row ∷ []) h)
AddAll-more Adds before (f ∷ fs) rows fields row h adds = (h.0, h.1, AddAll-more Adds (before ++ h.0 ∷ []) fs rows fields row h.2 adds)

pub one_longer : {X : Type 0} (xs : List X) (x : X) (n m : ℕ) → n ≡ length xs + 1 → m ≡ n + 1 → m ≡ length (xs ++ x ∷ []) + 1
one_longer xs x n m h k = simp length-append (omega arith)

pub nothing_left : {X : Type 0} (xs : List X) → length xs ≡ 0 → xs ≡ []
nothing_left [] h = refl
nothing_left (x ∷ xs) h = absurd (omega arith)

-- what f makes of one more, behind what stood before
pub put_more : {X Y : Type 0} (f : X → Y) (old before after : List Y) (xs : List X) (x : X) (y : Y) → before ≡ old ++ map f xs → after ≡ before ++ y ∷ [] → y ≡ f x → after ≡ old ++ map f (xs ++ x ∷ [])
put_more f old before after xs x y is_before is_after is_y =
    is_after ∙ ap (λ ys. ys ++ y ∷ []) is_before ∙ append_assoc old (map f xs) (y ∷ []) ∙ ap (λ z. old ++ (map f xs ++ z ∷ [])) is_y ∙ ap (λ ys. old ++ ys) (sym (map-append f xs (x ∷ [])))

-- what is true of each row that the records spell
pub each_row : {Row : Type 0} (Adds : List Row → List (List ℕ) → Row → Type 0) (P : Row → Type 0) → ((before : List Row) (fields : List (List ℕ)) (row : Row) → Adds before fields row → P row)
    → (before : List Row) (records : List (List (List ℕ))) (rows : List Row) → All P before → AddAll Adds before records rows → All P rows
unfolding AddAll
each_row Adds P each before [] rows all add = rw add all
each_row Adds P each before (f ∷ fs) rows all add = each_row Adds P each (before ++ add.0 ∷ []) fs rows (All-push P before add.0 all (each before f add.0 add.1)) add.2
