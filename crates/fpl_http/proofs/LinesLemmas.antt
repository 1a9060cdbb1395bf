-- the lines of a stream that goes on, and the search for the end of a head
use Rattle.std.proofs.Common.{◌≡◌, ◌∙◌, ap, sym, subst, refl, ℕ, zero, suc, List, [], ◌∷◌, ◌++◌, ◌+◌, ◌-◌, ◌<◌, ◌≤◌, length, drop, take, get_or, Bool, true, false, arith, inl, inr}
use Rattle.std.proofs.lemmas.Bool.{cases_Bool, cases_lt}
use Rattle.std.proofs.lemmas.Bool.Decides.{nat_tests}
use Rattle.std.proofs.lemmas.List.Sums.{sum_by-cons}
use Rattle.std.proofs.lemmas.List.{take-append-le, length-append, length-take, take_all}
use Rattle.std.specs.Prelude.{Option, Some, None, option_map, ◌==◌, ◌&&◌, if◌then◌else◌, nat_le, nat_lt, min}
use Rattle.fpl_http.specs.Lines.{empty_line, strip, head_len, head_len_behind, or_else, line_count, head_end_of, head_end_in}
use Rattle.fpl_http.specs.declared.lines.HeadEnd.TheVariants.{Missing, TooLarge, At}

-- ---- empty lines

strip_lf : (b : ℕ) (x : List ℕ) → (b == 10) ≡ true → strip (b ∷ x) ≡ strip x
strip_lf b [] e = rw e refl
strip_lf b (c ∷ rest) e = rw e refl

strip_crlf : (b c : ℕ) (rest : List ℕ) → (b == 10) ≡ false → ((b == 13) && (c == 10)) ≡ true → strip (b ∷ c ∷ rest) ≡ strip rest
strip_crlf b c rest n y = rw (n, y) refl

strip_stop : (b c : ℕ) (rest : List ℕ) → (b == 10) ≡ false → ((b == 13) && (c == 10)) ≡ false → strip (b ∷ c ∷ rest) ≡ b ∷ c ∷ rest
strip_stop b c rest n m = rw (n, m) refl

strip_one : (b : ℕ) → (b == 10) ≡ false → strip (b ∷ []) ≡ b ∷ []
strip_one b n = rw n refl

pub strip_idem : (s : List ℕ) → strip (strip s) ≡ strip s
strip_idem [] = refl
strip_idem (b ∷ []) = elim (cases_Bool (b == 10)) [
  | inl y ↦ let e = strip_lf b [] y in ap strip e ∙ sym e
  | inr n ↦ let e = strip_one b n in ap strip e
]
strip_idem (b ∷ c ∷ rest) = elim (cases_Bool (b == 10)) [
  | inl y ↦ let e = strip_lf b (c ∷ rest) y in ap strip e ∙ strip_idem (c ∷ rest) ∙ sym e
  | inr n ↦ elim (cases_Bool ((b == 13) && (c == 10))) [
    | inl y ↦ let e = strip_crlf b c rest n y in ap strip e ∙ strip_idem rest ∙ sym e
    | inr m ↦ ap strip (strip_stop b c rest n m)
  ]
]

-- more bytes after those without empty lines
pub strip_more : (s x : List ℕ) → strip (strip s ++ x) ≡ strip (s ++ x)
strip_more [] x = refl
strip_more (b ∷ []) x = elim (cases_Bool (b == 10)) [
  | inl y ↦ ap (λ (l : List ℕ). strip (l ++ x)) (strip_lf b [] y) ∙ sym (strip_lf b x y)
  | inr n ↦ ap (λ (l : List ℕ). strip (l ++ x)) (strip_one b n)
]
strip_more (b ∷ c ∷ rest) x = elim (cases_Bool (b == 10)) [
  | inl y ↦ ap (λ (l : List ℕ). strip (l ++ x)) (strip_lf b (c ∷ rest) y) ∙ strip_more (c ∷ rest) x ∙ sym (strip_lf b (c ∷ rest ++ x) y)
  | inr n ↦ elim (cases_Bool ((b == 13) && (c == 10))) [
    | inl y ↦ ap (λ (l : List ℕ). strip (l ++ x)) (strip_crlf b c rest n y) ∙ strip_more rest x ∙ sym (strip_crlf b c (rest ++ x) n y)
    | inr m ↦ ap (λ (l : List ℕ). strip (l ++ x)) (strip_stop b c rest n m)
  ]
]

pub strip_same_more : (s r x : List ℕ) → strip s ≡ strip r → strip (s ++ x) ≡ strip (r ++ x)
strip_same_more s r x e = sym (strip_more s x) ∙ ap (λ (l : List ℕ). strip (l ++ x)) e ∙ strip_more r x

-- two bytes that are no empty line stay
pub strip_long : (s x : List ℕ) → 2 ≤ length (strip s) → strip (s ++ x) ≡ strip s ++ x
strip_long [] x h = absurd (omega arith)
strip_long (b ∷ []) x h = elim (cases_Bool (b == 10)) [
  | inl y ↦ absurd (omega (arith, ap length (strip_lf b [] y)))
  | inr n ↦ absurd (omega (arith, ap length (strip_one b n)))
]
strip_long (b ∷ c ∷ rest) x h = elim (cases_Bool (b == 10)) [
  | inl y ↦
      let e = strip_lf b (c ∷ rest) y in
      strip_lf b (c ∷ rest ++ x) y ∙ strip_long (c ∷ rest) x (omega (arith, ap length e)) ∙ ap (λ (l : List ℕ). l ++ x) (sym e)
  | inr n ↦ elim (cases_Bool ((b == 13) && (c == 10))) [
    | inl y ↦
        let e = strip_crlf b c rest n y in
        strip_crlf b c (rest ++ x) n y ∙ strip_long rest x (omega (arith, ap length e)) ∙ ap (λ (l : List ℕ). l ++ x) (sym e)
    | inr m ↦ strip_stop b c (rest ++ x) n m ∙ ap (λ (l : List ℕ). l ++ x) (sym (strip_stop b c rest n m))
  ]
]

-- ---- the end of a head

empty_more : (t x : List ℕ) (k : ℕ) → empty_line t ≡ Some k → empty_line (t ++ x) ≡ Some k
empty_more [] x k h = absurd (cc)
empty_more (b ∷ []) [] k h = h
empty_more (b ∷ []) (y ∷ ys) k h = elim (cases_Bool (b == 10)) [
  | inl e ↦ rw e (rw e at h)
  | inr e ↦ let h2 : None ≡ Some k = rw e at h in absurd (cc)
]
empty_more (b ∷ c ∷ rest) x k h = h

empty_none : (t x : List ℕ) → 2 ≤ length t → empty_line t ≡ None → empty_line (t ++ x) ≡ None
empty_none [] x two h = absurd (omega arith)
empty_none (b ∷ []) x two h = absurd (omega arith)
empty_none (b ∷ c ∷ rest) x two h = h

empty_le : (t : List ℕ) (k : ℕ) → empty_line t ≡ Some k → k ≤ length t
empty_le [] k h = absurd (cc)
empty_le (b ∷ []) k h = elim (cases_Bool (b == 10)) [
  | inl e ↦ let h2 : Some 1 ≡ Some k = rw e at h in let e2 : 1 ≡ k = cc in omega arith
  | inr e ↦ let h2 : None ≡ Some k = rw e at h in absurd (cc)
]
empty_le (b ∷ c ∷ rest) k h = elim (cases_Bool (b == 10)) [
  | inl e ↦ let h2 : Some 1 ≡ Some k = rw e at h in let e2 : 1 ≡ k = cc in omega arith
  | inr e ↦ elim (cases_Bool ((b == 13) && (c == 10))) [
    | inl f ↦ let h2 : Some 2 ≡ Some k = rw (e, f) at h in let e2 : 2 ≡ k = cc in omega arith
    | inr f ↦ let h2 : None ≡ Some k = rw (e, f) at h in absurd (cc)
  ]
]

head_two : (t : List ℕ) (k : ℕ) → head_len t ≡ Some k → 2 ≤ length t
head_two [] k h = absurd (cc)
head_two (b ∷ []) k h = elim (cases_Bool (b == 10)) [
  | inl e ↦ let h2 : None ≡ Some k = rw e at h in absurd (cc)
  | inr e ↦ let h2 : None ≡ Some k = rw e at h in absurd (cc)
]
head_two (b ∷ c ∷ rest) k h = omega arith

pub head_le : (t : List ℕ) (n : ℕ) → head_len t ≡ Some n → (1 ≤ n) × (n ≤ length t)
head_le [] n h = absurd (cc)
head_le (b ∷ rest) n h = go (λ k e. (head_le rest k e).1) (b == 10) (empty_line rest) (head_len rest) refl refl refl h
  where
    go : ((k : ℕ) → head_len rest ≡ Some k → k ≤ length rest) → (y : Bool) (e r : Option ℕ) → (b == 10) ≡ y → empty_line rest ≡ e → head_len rest ≡ r
        → option_map (λ n. 1 + n) (or_else (if (b == 10) then empty_line rest else None) (head_len rest)) ≡ Some n → (1 ≤ n) × (n ≤ length (b ∷ rest))
    go ih true (Some k) r be ee re h =
        let h2 : Some (1 + k) ≡ Some n = rw (be, ee) at h in
        let e2 : 1 + k ≡ n = cc in
        let le = empty_le rest k ee in
        (omega arith, omega arith)
    go ih true None (Some k) be ee re h =
        let h2 : Some (1 + k) ≡ Some n = rw (be, ee, re) at h in
        let e2 : 1 + k ≡ n = cc in
        let le = ih k re in
        (omega arith, omega arith)
    go ih true None None be ee re h = let h2 : None ≡ Some n = rw (be, ee, re) at h in absurd (cc)
    go ih false e (Some k) be ee re h =
        let h2 : Some (1 + k) ≡ Some n = rw (be, re) at h in
        let e2 : 1 + k ≡ n = cc in
        let le = ih k re in
        (omega arith, omega arith)
    go ih false e None be ee re h = let h2 : None ≡ Some n = rw (be, re) at h in absurd (cc)

pub head_more : (t x : List ℕ) (n : ℕ) → head_len t ≡ Some n → head_len (t ++ x) ≡ Some n
head_more [] x n h = absurd (cc)
head_more (b ∷ rest) x n h = go (λ k e. head_more rest x k e) (b == 10) (empty_line rest) (head_len rest) refl refl refl h
  where
    go : ((k : ℕ) → head_len rest ≡ Some k → head_len (rest ++ x) ≡ Some k) → (y : Bool) (e r : Option ℕ) → (b == 10) ≡ y → empty_line rest ≡ e → head_len rest ≡ r
        → option_map (λ n. 1 + n) (or_else (if (b == 10) then empty_line rest else None) (head_len rest)) ≡ Some n
        → option_map (λ n. 1 + n) (or_else (if (b == 10) then empty_line (rest ++ x) else None) (head_len (rest ++ x))) ≡ Some n
    go ih true (Some k) r be ee re h =
        let h2 : Some (1 + k) ≡ Some n = rw (be, ee) at h in
        rw (be, empty_more rest x k ee) h2
    go ih true None (Some k) be ee re h =
        let h2 : Some (1 + k) ≡ Some n = rw (be, ee, re) at h in
        rw (be, empty_none rest x (head_two rest k re) ee, ih k re) h2
    go ih true None None be ee re h = let h2 : None ≡ Some n = rw (be, ee, re) at h in absurd (cc)
    go ih false e (Some k) be ee re h =
        let h2 : Some (1 + k) ≡ Some n = rw (be, re) at h in
        rw (be, ih k re) h2
    go ih false e None be ee re h = let h2 : None ≡ Some n = rw (be, re) at h in absurd (cc)

-- more bytes after those that the head may take
take_some : (most : ℕ) (t x : List ℕ) → (y : List ℕ) × (take most (t ++ x) ≡ take most t ++ y)
take_some zero t x = ([], refl)
take_some (suc k) [] x = (take (suc k) x, refl)
take_some (suc k) (b ∷ t) x = let (y, e) = take_some k t x in (y, ap (λ (l : List ℕ). b ∷ l) e)

take_full : (most : ℕ) (t x : List ℕ) → most ≤ length t → take most (t ++ x) ≡ take most t
take_full most t x h = take-append-le most t x h

pub end_at : (most : ℕ) (t : List ℕ) (n : ℕ) → head_end_in most t ≡ At n → (head_len (take most t) ≡ Some n) × (nat_lt 66 (line_count (take n t)) ≡ false)
end_at most t n h = go (head_len (take most t)) (nat_le most (length t)) refl h
  where
    go : (o : Option ℕ) (f : Bool) → head_len (take most t) ≡ o → head_end_of o f t ≡ At n → (head_len (take most t) ≡ Some n) × (nat_lt 66 (line_count (take n t)) ≡ false)
    go None true e h = absurd (cc)
    go None false e h = absurd (cc)
    go (Some k) f e h = elim (cases_Bool (nat_lt 66 (line_count (take k t)))) [
      | inl y ↦ let h2 : TooLarge ≡ At n = rw y at h in absurd (cc)
      | inr y ↦
          let h2 : At k ≡ At n = rw y at h in
          let same : k ≡ n = cc in
          (e ∙ ap Some same, ap (λ (i : ℕ). nat_lt 66 (line_count (take i t))) (sym same) ∙ y)
    ]

pub end_size : (most : ℕ) (t : List ℕ) (n : ℕ) → head_end_in most t ≡ At n → (1 ≤ n) × (n ≤ length t) × (2 ≤ length t)
end_size most t n h =
    let e = (end_at most t n h).0 in
    let le = head_le (take most t) n e in
    let two = head_two (take most t) n e in
    (le.0, omega (arith, length-take most t, le.1), omega (arith, length-take most t, two))

pub end_more : (most : ℕ) (t x : List ℕ) (n : ℕ) → head_end_in most t ≡ At n → head_end_in most (t ++ x) ≡ At n
end_more most t x n h =
    let both = end_at most t n h in
    let (y, cut) = take_some most t x in
    let len : head_len (take most (t ++ x)) ≡ Some n = ap head_len cut ∙ head_more (take most t) y n both.0 in
    let le = (end_size most t n h).1 in
    let same : take n (t ++ x) ≡ take n t = take-append-le n t x le in
    let lines : nat_lt 66 (line_count (take n (t ++ x))) ≡ false = ap (λ (l : List ℕ). nat_lt 66 (line_count l)) same ∙ both.1 in
    ap (λ (o : Option ℕ). head_end_of o (nat_le most (length (t ++ x))) (t ++ x)) len ∙ rw lines refl

pub end_large : (most : ℕ) (t x : List ℕ) → 2 ≤ most → head_end_in most t ≡ TooLarge → (head_end_in most (t ++ x) ≡ TooLarge) × (2 ≤ length t)
end_large most t x big h = go (head_len (take most t)) (nat_le most (length t)) refl refl h
  where
    go : (o : Option ℕ) (f : Bool) → head_len (take most t) ≡ o → nat_le most (length t) ≡ f → head_end_of o f t ≡ TooLarge → (head_end_in most (t ++ x) ≡ TooLarge) × (2 ≤ length t)
    go None true e f h =
        let le : most ≤ length t = grind (arith, nat_tests) in
        let len : head_len (take most (t ++ x)) ≡ None = ap head_len (take_full most t x le) ∙ e in
        let more : nat_le most (length (t ++ x)) ≡ true = grind (arith, nat_tests, length-append t x) in
        (rw (len, more) refl, omega arith)
    go None false e f h = absurd (cc)
    go (Some k) f e fe h = elim (cases_Bool (nat_lt 66 (line_count (take k t)))) [
      | inl y ↦
          let (z, cut) = take_some most t x in
          let len : head_len (take most (t ++ x)) ≡ Some k = ap head_len cut ∙ head_more (take most t) z k e in
          let le : k ≤ length t = omega (arith, length-take most t, (head_le (take most t) k e).1) in
          let lines : nat_lt 66 (line_count (take k (t ++ x))) ≡ true = ap (λ (l : List ℕ). nat_lt 66 (line_count l)) (take-append-le k t x le) ∙ y in
          (rw len (rw lines refl), omega (arith, length-take most t, head_two (take most t) k e))
      | inr y ↦ let h2 : At k ≡ TooLarge = rw y at h in absurd (cc)
    ]

-- ---- steps of the search for the first byte

pub blank_some : (t : List ℕ) (n : ℕ) → empty_line t ≡ Some n → strip (drop n t) ≡ strip t
blank_some [] n h = absurd (cc)
blank_some (b ∷ []) n h = elim (cases_Bool (b == 10)) [
  | inl e ↦ let h2 : Some 1 ≡ Some n = rw e at h in let e2 : 1 ≡ n = cc in subst (λ (i : ℕ). strip (drop i (b ∷ [])) ≡ strip (b ∷ [])) e2 (sym (strip_lf b [] e))
  | inr e ↦ let h2 : None ≡ Some n = rw e at h in absurd (cc)
]
blank_some (b ∷ c ∷ rest) n h = elim (cases_Bool (b == 10)) [
  | inl e ↦ let h2 : Some 1 ≡ Some n = rw e at h in let e2 : 1 ≡ n = cc in subst (λ (i : ℕ). strip (drop i (b ∷ c ∷ rest)) ≡ strip (b ∷ c ∷ rest)) e2 (sym (strip_lf b (c ∷ rest) e))
  | inr e ↦ elim (cases_Bool ((b == 13) && (c == 10))) [
    | inl f ↦ let h2 : Some 2 ≡ Some n = rw (e, f) at h in let e2 : 2 ≡ n = cc in subst (λ (i : ℕ). strip (drop i (b ∷ c ∷ rest)) ≡ strip (b ∷ c ∷ rest)) e2 (sym (strip_crlf b c rest e f))
    | inr f ↦ let h2 : None ≡ Some n = rw (e, f) at h in absurd (cc)
  ]
]

pub blank_none : (t : List ℕ) → empty_line t ≡ None → strip t ≡ t
blank_none [] h = refl
blank_none (b ∷ []) h = elim (cases_Bool (b == 10)) [
  | inl e ↦ let h2 : Some 1 ≡ None = rw e at h in absurd (cc)
  | inr e ↦ strip_one b e
]
blank_none (b ∷ c ∷ rest) h = elim (cases_Bool (b == 10)) [
  | inl e ↦ let h2 : Some 1 ≡ None = rw e at h in absurd (cc)
  | inr e ↦ elim (cases_Bool ((b == 13) && (c == 10))) [
    | inl f ↦ let h2 : Some 2 ≡ None = rw (e, f) at h in absurd (cc)
    | inr f ↦ strip_stop b c rest e f
  ]
]

pub strip_le : (s : List ℕ) → length (strip s) ≤ length s
strip_le [] = omega arith
strip_le (b ∷ []) = elim (cases_Bool (b == 10)) [
  | inl y ↦ omega (arith, ap length (strip_lf b [] y))
  | inr n ↦ omega (arith, ap length (strip_one b n))
]
strip_le (b ∷ c ∷ rest) = elim (cases_Bool (b == 10)) [
  | inl y ↦ omega (arith, ap length (strip_lf b (c ∷ rest) y), strip_le (c ∷ rest))
  | inr n ↦ elim (cases_Bool ((b == 13) && (c == 10))) [
    | inl y ↦ omega (arith, ap length (strip_crlf b c rest n y), strip_le rest)
    | inr m ↦ omega (arith, ap length (strip_stop b c rest n m))
  ]
]

-- ---- how much may wait

pub missing_short : (most : ℕ) (t : List ℕ) → head_end_in most t ≡ Missing → length t < most
missing_short most t h = go (head_len (take most t)) (nat_le most (length t)) refl h
  where
    go : (o : Option ℕ) (f : Bool) → nat_le most (length t) ≡ f → head_end_of o f t ≡ Missing → length t < most
    go None true e h = absurd (cc)
    go None false e h = grind (arith, nat_tests)
    go (Some k) f e h = elim (cases_Bool (nat_lt 66 (line_count (take k t)))) [
      | inl y ↦ let h2 : TooLarge ≡ Missing = rw y at h in absurd (cc)
      | inr y ↦ let h2 : At k ≡ Missing = rw y at h in absurd (cc)
    ]

pub missing_none : (most : ℕ) (t : List ℕ) → head_end_in most t ≡ Missing → head_len (take (length t) t) ≡ None
missing_none most t h = go (head_len (take most t)) (nat_le most (length t)) refl refl h
  where
    go : (o : Option ℕ) (f : Bool) → head_len (take most t) ≡ o → nat_le most (length t) ≡ f → head_end_of o f t ≡ Missing → head_len (take (length t) t) ≡ None
    go None true e f h = absurd (cc)
    go None false e f h =
        let short : length t < most = grind (arith, nat_tests) in
        ap head_len (take_all (length t) t (omega arith) ∙ sym (take_all most t (omega arith))) ∙ e
    go (Some k) f e g h = elim (cases_Bool (nat_lt 66 (line_count (take k t)))) [
      | inl y ↦ let h2 : TooLarge ≡ Missing = rw y at h in absurd (cc)
      | inr y ↦ let h2 : At k ≡ Missing = rw y at h in absurd (cc)
    ]

pub end_most : (most : ℕ) (t : List ℕ) (n : ℕ) → head_end_in most t ≡ At n → n ≤ most
end_most most t n h = omega (arith, length-take most t, (head_le (take most t) n (end_at most t n h).0).1)

-- ---- the end of the head, as the code finds it

take_min : (t : List ℕ) (most k : ℕ) → k ≡ min (length t) most → take k t ≡ take most t
take_min t most k e = elim (cases_lt (length t) most) [
  | inl h ↦ take_all k t (omega arith) ∙ sym (take_all most t (omega arith))
  | inr h ↦ let same : k ≡ most = omega arith in ap (λ (i : ℕ). take i t) same
]

pub end_none : (most : ℕ) (t : List ℕ) (k : ℕ) (f : Bool) → k ≡ min (length t) most → None ≡ head_len (take k t) → nat_le most (length t) ≡ f → (if f then TooLarge else Missing) ≡ head_end_in most t
end_none most t k f e none full = rw (sym (ap head_len (take_min t most k e)) ∙ sym none, full) refl

pub end_some : (most : ℕ) (t : List ℕ) (k n : ℕ) (f : Bool) → k ≡ min (length t) most → Some n ≡ head_len (take k t) → nat_lt 66 (line_count (take n t)) ≡ f → (if f then TooLarge else At n) ≡ head_end_in most t
end_some most t k n f e some lines = rw (sym (ap head_len (take_min t most k e)) ∙ sym some, lines) refl

-- ---- steps of the search for the end

-- a byte after which the head does not end
pub head_past : (b : ℕ) (rest : List ℕ) → ((b == 10) ≡ true → empty_line rest ≡ None) → head_len (b ∷ rest) ≡ option_map (λ n. 1 + n) (head_len rest)
head_past b rest h = elim (cases_Bool (b == 10)) [
  | inl feed ↦ rw (feed, h feed) refl
  | inr other ↦ rw other refl
]

-- ---- a search that goes on

none_parts : (b : ℕ) (rest : List ℕ) → head_len (b ∷ rest) ≡ None → ((b == 10) ≡ true → empty_line rest ≡ None) × (head_len rest ≡ None)
none_parts b rest h = go (b == 10) (empty_line rest) (head_len rest) refl refl refl h
  where
    go : (y : Bool) (e r : Option ℕ) → (b == 10) ≡ y → empty_line rest ≡ e → head_len rest ≡ r
        → option_map (λ n. 1 + n) (or_else (if (b == 10) then empty_line rest else None) (head_len rest)) ≡ None
        → ((b == 10) ≡ true → empty_line rest ≡ None) × (head_len rest ≡ None)
    go true (Some k) r be ee re h = let h2 : Some (1 + k) ≡ None = rw (be, ee) at h in absurd (cc)
    go true None (Some k) be ee re h = let h2 : Some (1 + k) ≡ None = rw (be, ee, re) at h in absurd (cc)
    go true None None be ee re h = (λ _. ee, re)
    go false e (Some k) be ee re h = let h2 : Some (1 + k) ≡ None = rw (be, re) at h in absurd (cc)
    go false e None be ee re h = (λ y. absurd (cc), re)

-- two bytes show whether an empty line begins
empty_cut : (n : ℕ) (t : List ℕ) → empty_line (take (suc (suc n)) t) ≡ empty_line t
empty_cut n [] = refl
empty_cut n (b ∷ []) = refl
empty_cut n (b ∷ c ∷ rest) = refl

from_none : (o : Option ℕ) → option_map (λ k. 0 + k) o ≡ o
from_none None = refl
from_none (Some k) = ap Some (omega arith)

from_next : (n : ℕ) (o : Option ℕ) → option_map (λ k. suc n + k) o ≡ option_map (λ k. 1 + k) (option_map (λ k. n + k) o)
from_next n None = refl
from_next n (Some k) = ap Some (omega arith)

from_two : (t : List ℕ) (n : ℕ) → head_len (take (suc (suc n)) t) ≡ None → option_map (λ k. n + k) (head_len (drop n t)) ≡ head_len t
from_two t zero h = from_none (head_len t)
from_two [] (suc n) h = refl
from_two (b ∷ rest) (suc n) h =
    let (empty, none) = none_parts b (take (suc (suc n)) rest) h in
    from_next n (head_len (drop n rest)) ∙ ap (option_map (λ k. 1 + k)) (from_two rest n none)
    ∙ sym (head_past b rest (λ y. sym (empty_cut n rest) ∙ empty y))

-- where no head ends in the first n bytes, the search goes on two bytes before them
pub search_on : (t : List ℕ) (n i : ℕ) → head_len (take n t) ≡ None → i ≡ n - 2 → option_map (λ k. i + k) (head_len (drop i t)) ≡ head_len t
search_on t zero i h e = let z : i ≡ 0 = omega arith in rw z (from_none (head_len t))
search_on t (suc zero) i h e = let z : i ≡ 0 = omega arith in rw z (from_none (head_len t))
search_on t (suc (suc n)) i h e = let z : i ≡ n = omega arith in rw z (from_two t n h)

-- ---- the first line

abbrev pub IsNoFeed : List ℕ → ℕ → Type 0
IsNoFeed t j = (get_or t j 0 == 10) ≡ false

counted_first : (b : ℕ) (rest : List ℕ) → line_count (b ∷ rest) ≡ (if b == 10 then 1 else 0) + line_count rest
counted_first b rest = sum_by-cons (λ x. if x == 10 then 1 else 0) b rest

counted_past : (b : ℕ) (rest : List ℕ) → (b == 10) ≡ false → line_count (b ∷ rest) ≡ line_count rest
counted_past b rest other =
    let same : line_count (b ∷ rest) ≡ 0 + line_count rest = counted_first b rest ∙ ap (λ (y : Bool). (if y then 1 else 0) + line_count rest) other in
    omega (arith, same)

counted_feed : (b : ℕ) (rest : List ℕ) → (b == 10) ≡ true → line_count (b ∷ rest) ≡ 1 + line_count rest
counted_feed b rest feed = counted_first b rest ∙ ap (λ (y : Bool). (if y then 1 else 0) + line_count rest) feed

later : (b : ℕ) (rest : List ℕ) (k : ℕ) → ((j : ℕ) → j < suc k → IsNoFeed (b ∷ rest) j) → (j : ℕ) → j < k → IsNoFeed rest j
later b rest k none j lt = none (suc j) (omega arith)

pub no_line : (t : List ℕ) → ((j : ℕ) → j < length t → IsNoFeed t j) → (head_len t ≡ None) × (line_count t ≡ 0)
no_line [] none = (refl, refl)
no_line (b ∷ rest) none =
    let other = none 0 (omega arith) in
    let (ends, counted) = no_line rest (later b rest (length rest) none) in
    (head_past b rest (λ y. absurd (cc)) ∙ ap (option_map (λ n. 1 + n)) ends, counted_past b rest other ∙ counted)

line_next : (k : ℕ) (o : Option ℕ) → option_map (λ n. 1 + n) (option_map (λ n. k + 1 + n) o) ≡ option_map (λ n. suc (k + 1) + n) o
line_next k None = refl
line_next k (Some n) = ap Some (omega arith)

pub line_ends : (t : List ℕ) (k : ℕ) → ((j : ℕ) → j < k → IsNoFeed t j) → k < length t → (get_or t k 0 == 10) ≡ true
    → head_len t ≡ head_len_behind (k + 1) t
line_ends [] k none lt feed = absurd (omega arith)
line_ends (b ∷ rest) zero none lt feed = rw feed refl
line_ends (b ∷ rest) (suc k) none lt feed =
    let next : suc k + 1 ≡ suc (k + 1) = omega arith in
    let other = none 0 (omega arith) in
    rw next
    (head_past b rest (λ y. absurd (cc))
    ∙ ap (option_map (λ n. 1 + n)) (line_ends rest k (later b rest k none) (omega arith) feed)
    ∙ line_next k (or_else (empty_line (drop (k + 1) rest)) (head_len (drop (k + 1) rest))))

pub line_counted : (t : List ℕ) (k : ℕ) → ((j : ℕ) → j < k → IsNoFeed t j) → k < length t → (get_or t k 0 == 10) ≡ true
    → line_count t ≡ 1 + line_count (drop (k + 1) t)
line_counted [] k none lt feed = absurd (omega arith)
line_counted (b ∷ rest) zero none lt feed = counted_feed b rest feed
line_counted (b ∷ rest) (suc k) none lt feed =
    let next : suc k + 1 ≡ suc (k + 1) = omega arith in
    rw next (counted_past b rest (none 0 (omega arith)) ∙ line_counted rest k (later b rest k none) (omega arith) feed)
