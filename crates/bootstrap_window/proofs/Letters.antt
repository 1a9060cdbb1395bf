-- The first characters of a text, one more at a time.
use Rattle.std.proofs.Common.{◌≡◌, ◌<◌, ◌≤◌, ◌+◌, ◌∷◌, [], ◌++◌, ◌∙◌, ℕ, List, arith, length, get_or, take, sym, ap}
use Rattle.std.specs.Prelude.{encode_utf8, encode_utf8_all}
use Rattle.std.proofs.lemmas.List.{append-nil, take_all, take_more}
use Rattle.std.proofs.lemmas.Str.{encodes-append}

-- the text of the first n and of one more
pub letter_more : (cs bytes more : List ℕ) (n letter : ℕ) → n < length cs → letter ≡ get_or cs n letter → bytes ≡ encode_utf8_all (take n cs) → more ≡ bytes ++ encode_utf8 letter
    → more ≡ encode_utf8_all (take (n + 1) cs)
letter_more cs bytes more n letter within is so_far with =
    with
    ∙ ap (λ b. b ++ encode_utf8 letter) so_far
    ∙ ap (λ b. encode_utf8_all (take n cs) ++ b) (sym (append-nil (encode_utf8 letter)))
    ∙ sym (encodes-append (take n cs) (letter ∷ []))
    ∙ ap (λ c. encode_utf8_all (take n cs ++ c ∷ [])) is
    ∙ ap encode_utf8_all (sym (take_more cs n letter within))

-- where a list is at most so long, so many of its first are all
pub all_of : (cs : List ℕ) (n m : ℕ) → length cs ≡ n → n ≤ m → take n cs ≡ take m cs
all_of cs n m is few = take_all n cs (omega (arith, is)) ∙ sym (take_all m cs (omega (arith, is, few)))
