-- one more field
use Rattle.std.proofs.Common.{zero, suc, inl, inr, take, ◌*◌, ◌^◌, ◌-◌, lit<}
use Rattle.std.proofs.lemmas.Bool.{cases_Bool}
use Rattle.std.proofs.lemmas.Bool.Decides.{nat_tests}
use Rattle.std.proofs.lemmas.List.{length-take, drop_all}
use Rattle.std.proofs.lemmas.Str.{digit_value_digit}
use Rattle.std.proofs.lemmas.Int.Digits.{digits_value_more, digits_value-lt}
use Rattle.std.proofs.Math.Nat.{pow-le-pow_right}
use Rattle.std.specs.Prelude.{◌&&◌}
use Rattle.std.specs.List.{list_all, list_any}
use Rattle.std.specs.Char.{is_ascii_digit, digit_value}
use Rattle.std.specs.Str.Parse.{digits_value, AllDigits}
use Rattle.std.proofs.Common.{◌≡◌, ◌∙◌, ap, sym, refl, ℕ, List, [], ◌∷◌, ◌++◌, ◌+◌, ◌<◌, length, map, drop, get_or, true, false, append_assoc}
use Rattle.std.proofs.lemmas.List.{at_drop_more, length-append}
use Rattle.std.proofs.Common.{◌≤◌, arith}
use Rattle.httparse.specs.declared.spans.Span.{Span}
use Rattle.std.proofs.lemmas.Slice.Eq.{bytes_eq-Decides}
use Rattle.std.specs.Str.{bytes_eq}
use Rattle.std.specs.Prelude.{Bool, IsTrue, ◌↔◌}
use Rattle.httparse.specs.Spans.{header_bytes, span_bytes}
use Rattle.httparse.specs.declared.spans.HeaderSpan.{HeaderSpan}
use Rattle.fpl_http.specs.Fields.{values_of, same_name, Shows}
use Rattle.fpl_http.specs.declared.fields.Sought.{Sought}

pub value_found : (name : List ℕ) (f : List ℕ × List ℕ) (front : List (List ℕ)) (rest : List (List ℕ × List ℕ)) → same_name f.0 name ≡ true → front ++ values_of name (f ∷ rest) ≡ (front ++ f.1 ∷ []) ++ values_of name rest
value_found name f front rest e = rw e (sym (append_assoc front (f.1 ∷ []) (values_of name rest)))

pub value_passed : (name : List ℕ) (f : List ℕ × List ℕ) (front : List (List ℕ)) (rest : List (List ℕ × List ℕ)) → same_name f.0 name ≡ false → front ++ values_of name (f ∷ rest) ≡ front ++ values_of name rest
value_passed name f front rest e = rw e refl

-- the fields from a place on
pub fields_more : (buf name : List ℕ) (front : List (List ℕ)) (hs : List HeaderSpan) (i : ℕ) (d : HeaderSpan) → i < length hs
    → front ++ values_of name (map (header_bytes buf) (drop i hs)) ≡ front ++ values_of name (header_bytes buf (get_or hs i d) ∷ map (header_bytes buf) (drop (i + 1) hs))
fields_more buf name front hs i d lt = at_drop_more (λ ws. front ++ values_of name (map (header_bytes buf) ws)) hs i d lt

-- a test that tells whether two texts are one
pub test_is : (r : Bool) (a b : List ℕ) → IsTrue r ↔ (a ≡ b) → r ≡ bytes_eq a b
test_is r a b h = go r (bytes_eq a b) h refl
  where
    go : (r v : Bool) → IsTrue r ↔ (a ≡ b) → bytes_eq a b ≡ v → r ≡ bytes_eq a b
    go true v h e = sym ((bytes_eq-Decides a b).1 (h.0 refl))
    go false true h e = absurd (cc (h.1 ((bytes_eq-Decides a b).0 e)))
    go false false h e = sym e

pub once_more : (buf : List ℕ) (s : Span) (vs : List (List ℕ)) (v : List ℕ) → vs ≡ span_bytes buf s ∷ [] → 2 ≤ length (vs ++ v ∷ [])
once_more buf s vs v e = rw e (omega arith)

pub twice_more : (vs : List (List ℕ)) (v : List ℕ) → 2 ≤ length vs → 2 ≤ length (vs ++ v ∷ [])
twice_more vs v h = omega (arith, length-append vs (v ∷ []))

-- one more field of the name, from what was seen of those before
pub seen_more : (buf name : List ℕ) (front : List (List ℕ)) (hs : List HeaderSpan) (i : ℕ) (d : HeaderSpan) (s : Sought) (whole : List (List ℕ)) → i < length hs
    → same_name (header_bytes buf (get_or hs i d)).0 name ≡ true → Shows buf s (front ++ (header_bytes buf (get_or hs i d)).1 ∷ [])
    → front ++ values_of name (map (header_bytes buf) (drop i hs)) ≡ whole
    → (x : List (List ℕ)) × Shows buf s x × (x ++ values_of name (map (header_bytes buf) (drop (i + 1) hs)) ≡ whole)
seen_more buf name front hs i d s whole lt e shows all = (
  front ++ (header_bytes buf (get_or hs i d)).1 ∷ [],
  shows,
  sym (value_found name (header_bytes buf (get_or hs i d)) front (map (header_bytes buf) (drop (i + 1) hs)) e) ∙ sym (fields_more buf name front hs i d lt) ∙ all,
)

pub passed_more : (buf name : List ℕ) (front : List (List ℕ)) (hs : List HeaderSpan) (i : ℕ) (d : HeaderSpan) (s : Sought) (whole : List (List ℕ)) → i < length hs
    → same_name (header_bytes buf (get_or hs i d)).0 name ≡ false → Shows buf s front
    → front ++ values_of name (map (header_bytes buf) (drop i hs)) ≡ whole
    → (x : List (List ℕ)) × Shows buf s x × (x ++ values_of name (map (header_bytes buf) (drop (i + 1) hs)) ≡ whole)
passed_more buf name front hs i d s whole lt e shows all = (
  front,
  shows,
  sym (value_passed name (header_bytes buf (get_or hs i d)) front (map (header_bytes buf) (drop (i + 1) hs)) e) ∙ sym (fields_more buf name front hs i d lt) ∙ all,
)

hit : (name text : List ℕ) (f : List ℕ × List ℕ) (fs : List (List ℕ × List ℕ)) → (same_name f.0 name && same_name f.1 text) ≡ true → list_any (λ v. same_name v text) (values_of name (f ∷ fs)) ≡ true
hit name text f fs e = elim (cases_Bool (same_name f.0 name)) [
  | inl y ↦ let e2 : same_name f.1 text ≡ true = rw y at e in rw y (rw e2 refl)
  | inr n ↦ let e2 : false ≡ true = rw n at e in absurd (cc)
]

miss : (name text : List ℕ) (f : List ℕ × List ℕ) (fs : List (List ℕ × List ℕ)) → (same_name f.0 name && same_name f.1 text) ≡ false → list_any (λ v. same_name v text) (values_of name (f ∷ fs)) ≡ list_any (λ v. same_name v text) (values_of name fs)
miss name text f fs e = elim (cases_Bool (same_name f.0 name)) [
  | inl y ↦ let e2 : same_name f.1 text ≡ false = rw y at e in rw y (rw e2 refl)
  | inr n ↦ rw n refl
]

pub any_hit : (buf name text : List ℕ) (hs : List HeaderSpan) (i : ℕ) (d : HeaderSpan) (whole : Bool) → i < length hs
    → (same_name (header_bytes buf (get_or hs i d)).0 name && same_name (header_bytes buf (get_or hs i d)).1 text) ≡ true
    → list_any (λ v. same_name v text) (values_of name (map (header_bytes buf) (drop i hs))) ≡ whole → true ≡ whole
any_hit buf name text hs i d whole lt e all =
    sym (hit name text (header_bytes buf (get_or hs i d)) (map (header_bytes buf) (drop (i + 1) hs)) e)
    ∙ sym (at_drop_more (λ ws. list_any (λ v. same_name v text) (values_of name (map (header_bytes buf) ws))) hs i d lt) ∙ all

pub any_miss : (buf name text : List ℕ) (hs : List HeaderSpan) (i : ℕ) (d : HeaderSpan) (whole : Bool) → i < length hs
    → (same_name (header_bytes buf (get_or hs i d)).0 name && same_name (header_bytes buf (get_or hs i d)).1 text) ≡ false
    → list_any (λ v. same_name v text) (values_of name (map (header_bytes buf) (drop i hs))) ≡ whole
    → list_any (λ v. same_name v text) (values_of name (map (header_bytes buf) (drop (i + 1) hs))) ≡ whole
any_miss buf name text hs i d whole lt e all =
    sym (miss name text (header_bytes buf (get_or hs i d)) (map (header_bytes buf) (drop (i + 1) hs)) e)
    ∙ sym (at_drop_more (λ ws. list_any (λ v. same_name v text) (values_of name (map (header_bytes buf) ws))) hs i d lt) ∙ all

pub any_none : (buf name text : List ℕ) (hs : List HeaderSpan) (i : ℕ) (whole : Bool) → length hs ≤ i
    → list_any (λ v. same_name v text) (values_of name (map (header_bytes buf) (drop i hs))) ≡ whole → false ≡ whole
any_none buf name text hs i whole le all = ap (λ ws. list_any (λ v. same_name v text) (values_of name (map (header_bytes buf) ws))) (sym (drop_all i hs le)) ∙ all

-- ---- digits

digit_facts : (b : ℕ) → is_ascii_digit b ≡ true → (48 ≤ b) × (b ≤ 57)
digit_facts b e = (grind (arith, nat_tests), grind (arith, nat_tests))

digits_front : (i : ℕ) (bs : List ℕ) → list_all is_ascii_digit bs ≡ true → AllDigits 10 (take i bs)
digits_front zero bs h = tt
digits_front (suc i) [] h = tt
digits_front (suc i) (b ∷ bs) h = elim (cases_Bool (is_ascii_digit b)) [
  | inl y ↦
      let h2 : list_all is_ascii_digit bs ≡ true = rw y at h in
      let (low, high) = digit_facts b y in
      let is = digit_value_digit b (low, high) in
      (omega (arith, is, low, high), digits_front i bs h2)
  | inr n ↦ let h2 : false ≡ true = rw n at h in absurd (cc)
]

digit_at : (bs : List ℕ) (i : ℕ) → i < length bs → list_all is_ascii_digit bs ≡ true → is_ascii_digit (get_or bs i 0) ≡ true
digit_at [] i lt h = absurd (omega arith)
digit_at (b ∷ bs) i lt h = elim (cases_Bool (is_ascii_digit b)) [
  | inl y ↦ let h2 : list_all is_ascii_digit bs ≡ true = rw y at h in at_zero i y (λ j l. digit_at bs j l h2) lt
  | inr n ↦ let h2 : false ≡ true = rw n at h in absurd (cc)
]
  where
    at_zero : (i : ℕ) → is_ascii_digit b ≡ true → ((j : ℕ) → j < length bs → is_ascii_digit (get_or bs j 0) ≡ true) → i < suc (length bs) → is_ascii_digit (get_or (b ∷ bs) i 0) ≡ true
    at_zero zero y ih l = y
    at_zero (suc j) y ih l = ih j (omega arith)

pub number_step : (bs : List ℕ) (i : ℕ) → i < length bs → length bs ≤ 10 → list_all is_ascii_digit bs ≡ true
    → (digits_value 10 (take (i + 1) bs) ≡ digits_value 10 (take i bs) * 10 + (get_or bs i 0 - 48)) × (digits_value 10 (take (i + 1) bs) < 10 ^ 10) × (48 ≤ get_or bs i 0)
number_step bs i lt short all =
    let (low, high) = digit_facts (get_or bs i 0) (digit_at bs i lt all) in
    let is = digit_value_digit (get_or bs i 0) (low, high) in
    let value : digit_value (get_or bs i 0) ≡ get_or bs i 0 - 48 = omega (arith, is, low) in
    let more = digits_value_more 10 bs i lt in
    let below = digits_value-lt 10 (take (i + 1) bs) (digits_front (i + 1) bs all) in
    let size : length (take (i + 1) bs) ≤ 10 = omega (arith, length-take (i + 1) bs, short) in
    let most = pow-le-pow_right {n = 10} (lit< tt) size in
    (more ∙ ap (λ (d : ℕ). digits_value 10 (take i bs) * 10 + d) value, omega (arith, below, most), low)
