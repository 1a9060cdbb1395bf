-- Clubs by id, one more of them.
use Rattle.std.proofs.Common.{◌≡◌, ◌<◌, ◌+◌, ℕ, List, [], ◌∷◌, length, take, get_or, ap, sym, ◌∙◌}
use Rattle.std.proofs.lemmas.List.Sums.{fold_more}
use Rattle.rule_book.specs.ById.{placed_at}
use Rattle.season_book.specs.Commands.{by_id}

pub by_id_more : (clubs : List (ℕ × List ℕ)) (i : ℕ) (row : ℕ × List ℕ) → i < length clubs → row ≡ get_or clubs i row
    → placed_at (by_id (take i clubs)) row.0 ((row.0, row.1) ∷ []) ≡ by_id (take (i + 1) clubs)
by_id_more clubs i row within same =
    ap (λ (r : ℕ × List ℕ). placed_at (by_id (take i clubs)) r.0 (r ∷ [])) same
    ∙ sym (fold_more (λ so_far club. placed_at so_far club.0 (club ∷ [])) [] clubs i row within)
