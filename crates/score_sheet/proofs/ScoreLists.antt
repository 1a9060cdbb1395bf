-- The lines for the rows, one more at a time.
use Rattle.std.proofs.Common.{◌≡◌, ◌<◌, ◌+◌, ◌∷◌, [], ◌++◌, ℕ, ℤ, List, Bool, length, get_or, take, sym, ap, ◌∙◌}
use Rattle.std.specs.List.{flat_map}
use Rattle.std.proofs.lemmas.List.{flat_map_more, take_more}
use mir.Val.{bool_byte}
use Rattle.fpl_base.specs.declared.kinds.Profile.{Profile}
use Rattle.rule_book.specs.declared.line.Appearance.{Appearance}
use Rattle.rule_book.specs.Bonus.{takes_part, bonus_in}
use Rattle.rule_book.specs.BonusPoints.{bps_of}
use Rattle.score_sheet.specs.Scores.{line_text, numbers_text}

-- whether a row took part, and what stands of it then
abbrev pub took_part : Appearance → Bool
took_part row = takes_part row.line

abbrev pub entry_of : Appearance → ℕ × ℤ
entry_of row = (row.player, bps_of row.position row.line)

-- one more element behind the first i
pub take_one_more : {X : Type 0} (xs : List X) (i : ℕ) (x : X) → i < length xs → x ≡ get_or xs i x → take (i + 1) xs ≡ take i xs ++ x ∷ []
take_one_more xs i x h e = take_more xs i x h ∙ ap (λ y. take i xs ++ y ∷ []) (sym e)

pub text_more : (profile : Profile) (rows : List Appearance) (i : ℕ) (row : Appearance) (old new piece : List ℕ) (won : ℕ)
    → i < length rows → row ≡ get_or rows i row → new ≡ old ++ piece → piece ≡ line_text profile row won → won ≡ bonus_in rows row
    → old ≡ flat_map (λ r. line_text profile r (bonus_in rows r)) (take i rows)
    → new ≡ flat_map (λ r. line_text profile r (bonus_in rows r)) (take (i + 1) rows)
text_more profile rows i row old new piece won h e joined is_piece is_won is_old =
    let line : Appearance → List ℕ = λ r. line_text profile r (bonus_in rows r) in
    let last : piece ≡ line row = is_piece ∙ ap (line_text profile row) is_won in
    joined
    ∙ ap (λ xs. xs ++ piece) is_old
    ∙ ap (λ xs. flat_map line (take i rows) ++ xs) last
    ∙ flat_map_more line [] (take i rows) row
    ∙ ap (flat_map line) (sym (take_one_more rows i row h e))

pub numbers_same : (t : List ℕ) (p p' : ℕ) (a a' b b' : ℤ) (w : ℕ) (s s' : ℤ) → t ≡ numbers_text p a b w s → p ≡ p' → a ≡ a' → b ≡ b' → s ≡ s' → t ≡ numbers_text p' a' b' w s'
numbers_same t p p' a a' b b' w s s' h ep ea eb es = rw (← ep, ← ea, ← eb, ← es) h
