-- the bytes of the response where memory is wanting, and of a head
use Rattle.std.proofs.Common.{◌≡◌, ◌≤◌, ◌∙◌, ◌==◌, ℕ, Bool, List, ◌++◌, refl, arith, true, false, append_assoc, length}
use Rattle.std.specs.Prelude.{codes, if◌then◌else◌}
use Rattle.std.specs.Fmt.{decimal, digits}
use Rattle.fpl_http.specs.Responses.{closing_line, head_text, memory_text, phrase, response_text}

status_text : decimal 507 ≡ codes "507"
unfolding digits
status_text = refl

length_text : decimal 18 ≡ codes "18"
unfolding digits
length_text = refl

pub memory_closing : response_text 507 memory_text true ≡ codes "HTTP/1.1 507 Insufficient Storage\r\nContent-Type: application/json\r\nContent-Length: 18\r\nConnection: close\r\n\r\n{\"error\":\"memory\"}"
memory_closing = rw (status_text, length_text) refl

pub memory_open : response_text 507 memory_text false ≡ codes "HTTP/1.1 507 Insufficient Storage\r\nContent-Type: application/json\r\nContent-Length: 18\r\n\r\n{\"error\":\"memory\"}"
memory_open = rw (status_text, length_text) refl

-- a head, put together from its parts
parts : (o a b c d e f g : List ℕ) → ((((((o ++ a) ++ b) ++ c) ++ d) ++ e) ++ f) ++ g ≡ o ++ (a ++ (b ++ (c ++ (d ++ (e ++ (f ++ g))))))
parts o a b c d e f g = simp append_assoc refl

pub head_of_parts : (n size : ℕ) (closing : Bool) (o a b c d e f g : List ℕ)
    → a ≡ o ++ codes "HTTP/1.1 " → b ≡ a ++ decimal n → c ≡ b ++ codes " " → d ≡ c ++ phrase n → e ≡ d ++ codes "\r\nContent-Type: application/json\r\nContent-Length: "
    → f ≡ e ++ decimal size → g ≡ f ++ (codes "\r\n" ++ (closing_line closing ++ codes "\r\n")) → g ≡ o ++ head_text n size closing
head_of_parts n size closing o a b c d e f g pa pb pc pd pe pf pg =
    pg ∙ rw (pf, pe, pd, pc, pb, pa) (parts o (codes "HTTP/1.1 ") (decimal n) (codes " ") (phrase n) (codes "\r\nContent-Type: application/json\r\nContent-Length: ") (decimal size) (codes "\r\n" ++ (closing_line closing ++ codes "\r\n")))

-- a text of two that are short
either_short : (b : Bool) (x y : List ℕ) → length x ≤ 31 → length y ≤ 31 → length (if b then x else y) ≤ 31
either_short true x y p q = p
either_short false x y p q = q

-- no phrase is longer
pub phrase_short : (n : ℕ) → length (phrase n) ≤ 31
phrase_short n =
    let short = either_short in
    short (n == 200) _ _ (omega arith) (short (n == 201) _ _ (omega arith) (short (n == 400) _ _ (omega arith) (short (n == 401) _ _ (omega arith)
    (short (n == 403) _ _ (omega arith) (short (n == 404) _ _ (omega arith) (short (n == 405) _ _ (omega arith) (short (n == 409) _ _ (omega arith)
    (short (n == 411) _ _ (omega arith) (short (n == 413) _ _ (omega arith) (short (n == 431) _ _ (omega arith) (short (n == 500) _ _ (omega arith)
    (short (n == 501) _ _ (omega arith) (short (n == 503) _ _ (omega arith) (short (n == 507) _ _ (omega arith) (omega arith)))))))))))))))
