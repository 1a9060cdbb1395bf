-- Lists of rows, one record after the other.
use Rattle.std.proofs.Common.{◌≡◌, ◌<◌, ◌≤◌, ◌+◌, ◌==◌, ℕ, suc, List, [], ◌∷◌, ◌++◌, length, get_or, take, drop, map, true, false, arith, sym, ap, ◌∙◌}
use Rattle.std.specs.List.{list_any}
use Rattle.std.proofs.lemmas.Bool.{false≢true}
use Rattle.std.proofs.lemmas.List.{map-append, take-append-drop, length-map, length-take}
use Rattle.std.proofs.Math.Seq.{drop-cons}
use Rattle.csv.specs.Records.{field_at}
use Rattle.std.proofs.lemmas.Fmt.{decimal_injective}
use Rattle.rule_book.specs.declared.line.Appearance.{Appearance}
use Rattle.score_sheet.specs.Rows.{Spells, Adds, AddAll}
use Rattle.score_sheet.proofs.Fields.{same_some}

-- one more row behind these
pub AddAll-more : (before : List Appearance) (front : List (List (List ℕ))) (rows : List Appearance) (fields : List (List ℕ)) (row : Appearance)
    → AddAll before front rows → Adds rows fields row → AddAll before (front ++ fields ∷ []) (rows ++ row ∷ [])
unfolding AddAll
AddAll-more before [] rows fields row h adds = (row, rw (← h) adds, ap (λ (r : List Appearance). r ++ row ∷ []) h)
AddAll-more before (f ∷ fs) rows fields row h adds = (h.0, h.1, AddAll-more (before ++ h.0 ∷ []) fs rows fields row h.2 adds)

-- a list, cut before and after one of its elements
pub cut_around : {X Y : Type 0} (f : X → Y) (xs : List X) (i : ℕ) (x : X) → i < length xs → x ≡ get_or xs i x
    → map f xs ≡ map f (take i xs) ++ f x ∷ map f (drop (suc i) xs)
cut_around f xs i x h e =
    ap (map f) (sym (take-append-drop i xs) ∙ ap (λ t. take i xs ++ t) (drop-cons xs i x h ∙ ap (λ y. y ∷ drop (suc i) xs) (sym e)))
    ∙ map-append f (take i xs) (x ∷ drop (suc i) xs)

-- fields that spell two rows give both the same player
pub same_player : (fields : List (List ℕ)) (a b : Appearance) → Spells fields a → Spells fields b → a.player ≡ b.player
same_player fields a b p q =
    decimal_injective a.player b.player (omega (arith, p.player_range.1)) (omega (arith, q.player_range.1)) (same_some (field_at fields 0) p.player q.player)

pub player_not_new : (before : List Appearance) (fields : List (List ℕ)) (a b : Appearance) → Spells fields a → Adds before fields b
    → list_any (λ (earlier : Appearance). earlier.player == a.player) before ≡ true → ⊥
player_not_new before fields a b p adds there =
    false≢true (sym adds.new_player ∙ ap (λ (n : ℕ). list_any (λ (earlier : Appearance). earlier.player == n) before) (sym (same_player fields a b p adds.spelled)) ∙ there)

pub length-map-take : {X Y : Type 0} (f : X → Y) (xs : List X) (i : ℕ) → i ≤ length xs → length (map f (take i xs)) ≡ i
length-map-take f xs i h = simp (length-map, length-take) (omega arith)
