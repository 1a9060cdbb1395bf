-- The lines of players, one more at a time.
use Rattle.std.proofs.Common.{◌≡◌, ◌∙◌, ◌<◌, ◌+◌, ℕ, List, [], ◌∷◌, ◌++◌, length, get_or, take, ap, sym}
use Rattle.std.proofs.lemmas.List.{flat_map_more, take_more}
use Rattle.squad_rules.specs.Elevens.{Row}
use Rattle.fpl_dreaming.specs.Texts.{line_of, lines_of}

pub lines_more : (rows : List Row) (players : List ℕ) (at player : ℕ) (old new line : List ℕ) → at < length players → player ≡ get_or players at player
    → new ≡ old ++ line → line ≡ line_of rows player → old ≡ lines_of rows (take at players) → new ≡ lines_of rows (take (at + 1) players)
lines_more rows players at player old new line within is joined are so_far =
    joined
    ∙ ap (λ (xs : List ℕ). xs ++ line) so_far
    ∙ ap (λ (xs : List ℕ). lines_of rows (take at players) ++ xs) are
    ∙ flat_map_more (line_of rows) [] (take at players) player
    ∙ ap (lines_of rows) (sym (take_more players at player within ∙ ap (λ (p : ℕ). take at players ++ p ∷ []) (sym is)))
