-- the front of a stream that goes on, and two readings of one stream
use Rattle.std.proofs.Common.{◌≡◌, ◌∙◌, ap, sym, subst, refl, ℕ, List, [], ◌∷◌, ◌++◌, ◌<◌, ◌≤◌, length, drop, take, true, false, arith, ◌⊎◌, inl, inr}
use Rattle.std.proofs.lemmas.Bool.{cases_Bool}
use Rattle.std.proofs.lemmas.Bool.Decides.{nat_tests}
use Rattle.std.proofs.lemmas.List.{take-append-le, drop-append-le, length-append, length-drop}
use Rattle.std.specs.Prelude.{Option, Some, None, Result, Ok, Err, nat_le, nat_lt, codes, IsTrue}
use Rattle.std.specs.Str.{bytes_eq}
use Rattle.httparse.specs.Grammar.{RequestHead}
use Rattle.httparse.proofs.GrammarLemmas.{request_unique}
use Rattle.fpl_http.specs.Head.{IsHeadOf, fields_of}
use Rattle.fpl_http.specs.Fields.{values_of}
use Rattle.fpl_http.specs.Lines.{strip, head_end}
use Rattle.fpl_http.specs.declared.lines.HeadEnd.{HeadEnd}
use Rattle.fpl_http.specs.declared.lines.HeadEnd.TheVariants.{Missing, TooLarge, At}
use Rattle.fpl_http.specs.Responses.{is_answer_status}
use Rattle.fpl_http.specs.Stream.{Request, request_of, length_of, length_judged, length_told, length_by, digits_told, body_length, Front, Wanting, Refusal, Whole, front_by, front_after, FrontAt, IsFront, End, Open, Closed, Refused, Reads, Begins}
use Rattle.fpl_http.proofs.LinesLemmas.{strip_same_more, strip_long, end_size, end_more, end_large, end_most, missing_short}

-- ---- the front

by_more : (l : Result ℕ ℕ) (h : RequestHead) (a x : List ℕ) (m : Request) (r : List ℕ) → Whole m r ≡ front_by l h a → Whole m (r ++ x) ≡ front_by l h (a ++ x)
by_more (Err k) h a x m r e = absurd (cc)
by_more (Ok n) h a x m r e = elim (cases_Bool (nat_le n (length a))) [
  | inl y ↦
      let le : n ≤ length a = grind (arith, nat_tests) in
      let more : nat_le n (length (a ++ x)) ≡ true = grind (arith, nat_tests, length-append a x) in
      let e2 : Whole m r ≡ Whole (request_of h (take n a)) (drop n a) = rw y at e in
      let left : r ≡ drop n a = cc in
      let same : m ≡ request_of h (take n a) = cc in
      rw more (rw (take-append-le n a x le, drop-append-le n a x le) (rw (left, same) refl))
  | inr y ↦ let e2 : Whole m r ≡ Wanting = rw y at e in absurd (cc)
]

by_refused : (l : Result ℕ ℕ) (h : RequestHead) (a x : List ℕ) (k : ℕ) → Refusal k ≡ front_by l h a → Refusal k ≡ front_by l h (a ++ x)
by_refused (Err j) h a x k e = e
by_refused (Ok n) h a x k e = elim (cases_Bool (nat_le n (length a))) [
  | inl y ↦ let e2 : Refusal k ≡ Whole (request_of h (take n a)) (drop n a) = rw y at e in absurd (cc)
  | inr y ↦ let e2 : Refusal k ≡ Wanting = rw y at e in absurd (cc)
]

after_more : (o : Option RequestHead) (a x : List ℕ) (m : Request) (r : List ℕ) → Whole m r ≡ front_after o a → Whole m (r ++ x) ≡ front_after o (a ++ x)
after_more None a x m r e = absurd (cc)
after_more (Some h) a x m r e = by_more (length_of h) h a x m r e

after_refused : (o : Option RequestHead) (a x : List ℕ) (k : ℕ) → Refusal k ≡ front_after o a → Refusal k ≡ front_after o (a ++ x)
after_refused None a x k e = e
after_refused (Some h) a x k e = by_refused (length_of h) h a x k e

front_at : (s : List ℕ) (e : HeadEnd) (f : Front) → head_end (strip s) ≡ e → FrontAt e (strip s) f → IsFront s f
front_at s e f he at = record { at = subst (λ (d : HeadEnd). FrontAt d (strip s) f) (sym he) at }

moved : (s x : List ℕ) (e : HeadEnd) (f : Front) → strip (s ++ x) ≡ strip s ++ x → head_end (strip s ++ x) ≡ e → FrontAt e (strip s ++ x) f → IsFront (s ++ x) f
moved s x e f st he at = front_at (s ++ x) e f (ap head_end st ∙ he) (subst (λ (l : List ℕ). FrontAt e l f) (sym st) at)

-- a message that is whole stays the same, whatever follows
pub front_more : (s x : List ℕ) (m : Request) (r : List ℕ) → IsFront s (Whole m r) → IsFront (s ++ x) (Whole m (r ++ x))
unfolding head_end
front_more s x m r p = go (head_end (strip s)) refl p.at
  where
    go : (e : HeadEnd) → head_end (strip s) ≡ e → FrontAt e (strip s) (Whole m r) → IsFront (s ++ x) (Whole m (r ++ x))
    go Missing he at = absurd (cc)
    go TooLarge he at = absurd (cc)
    go (At n) he (o, ho, e) =
        let size = end_size 8192 (strip s) n he in
        moved s x (At n) (Whole m (r ++ x)) (strip_long s x size.2) (end_more 8192 (strip s) x n he) (
          o,
          subst (λ (l : List ℕ). IsHeadOf l o) (sym (take-append-le n (strip s) x size.1)) ho,
          after_more o (drop n (strip s)) x m r e ∙ ap (λ (l : List ℕ). front_after o l) (sym (drop-append-le n (strip s) x size.1)),
        )

-- and so does a refusal
pub front_refused : (s x : List ℕ) (k : ℕ) → IsFront s (Refusal k) → IsFront (s ++ x) (Refusal k)
unfolding head_end
front_refused s x k p = go (head_end (strip s)) refl p.at
  where
    go : (e : HeadEnd) → head_end (strip s) ≡ e → FrontAt e (strip s) (Refusal k) → IsFront (s ++ x) (Refusal k)
    go Missing he at = absurd (cc)
    go TooLarge he at =
        let both = end_large 8192 (strip s) x (omega arith) he in
        moved s x TooLarge (Refusal k) (strip_long s x both.1) both.0 at
    go (At n) he (o, ho, e) =
        let size = end_size 8192 (strip s) n he in
        moved s x (At n) (Refusal k) (strip_long s x size.2) (end_more 8192 (strip s) x n he) (
          o,
          subst (λ (l : List ℕ). IsHeadOf l o) (sym (take-append-le n (strip s) x size.1)) ho,
          after_refused o (drop n (strip s)) x k e ∙ ap (λ (l : List ℕ). front_after o l) (sym (drop-append-le n (strip s) x size.1)),
        )

-- empty lines in front do not matter
pub front_same : (s r : List ℕ) (f : Front) → strip s ≡ strip r → IsFront s f → IsFront r f
front_same s r f e p = record { at = subst (λ (l : List ℕ). FrontAt (head_end l) l f) e p.at }

head_unique : (b : List ℕ) (o q : Option RequestHead) → IsHeadOf b o → IsHeadOf b q → o ≡ q
head_unique b None None x y = refl
head_unique b None (Some k) x y = absurd (x k y)
head_unique b (Some h) None x y = absurd (y h x)
head_unique b (Some h) (Some k) ((r, reads), _) ((q, also), _) = ap Some (request_unique b h k r q reads also).0

front_at_unique : (e : HeadEnd) (t : List ℕ) (f g : Front) → FrontAt e t f → FrontAt e t g → f ≡ g
front_at_unique Missing t f g x y = x ∙ sym y
front_at_unique TooLarge t f g x y = x ∙ sym y
front_at_unique (At n) t f g (o, ho, x) (q, hq, y) = x ∙ ap (λ (p : Option RequestHead). front_after p (drop n t)) (head_unique (take n t) o q ho hq) ∙ sym y

-- one thing alone stands at the front
pub front_unique : (s : List ℕ) (f g : Front) → IsFront s f → IsFront s g → f ≡ g
front_unique s f g x y = front_at_unique (head_end (strip s)) (strip s) f g x.at y.at

-- ---- whole readings

whole_rest : (m n : Request) (r q : List ℕ) → Whole m r ≡ Whole n q → (m ≡ n) × (r ≡ q)
whole_rest m n r q e = (cc, cc)

-- two readings of one stream are one
pub reads_unique : (s : List ℕ) (ms ns : List Request) (e f : End) → Reads s ms e → Reads s ns f → (ms ≡ ns) × (e ≡ f)
reads_unique s [] [] (Open r) (Open q) x y = (refl, ap Open (x.1 ∙ sym y.1))
reads_unique s [] [] (Open r) Closed x y = absurd y
reads_unique s [] [] (Open r) (Refused k) x y = let e = front_unique s Wanting (Refusal k) x.0 y in absurd (cc)
reads_unique s [] [] Closed f x y = absurd x
reads_unique s [] [] (Refused k) (Open q) x y = let e = front_unique s (Refusal k) Wanting x y.0 in absurd (cc)
reads_unique s [] [] (Refused k) Closed x y = absurd y
reads_unique s [] [] (Refused k) (Refused j) x y = let e = front_unique s (Refusal k) (Refusal j) x y in let same : k ≡ j = cc in (refl, ap Refused same)
reads_unique s [] (n ∷ ns) (Open r) f x y = let e = front_unique s Wanting (Whole n y.0) x.0 y.1 in absurd (cc)
reads_unique s [] (n ∷ ns) Closed f x y = absurd x
reads_unique s [] (n ∷ ns) (Refused k) f x y = let e = front_unique s (Refusal k) (Whole n y.0) x y.1 in absurd (cc)
reads_unique s (m ∷ ms) [] e (Open r) x y = let e = front_unique s Wanting (Whole m x.0) y.0 x.1 in absurd (cc)
reads_unique s (m ∷ ms) [] e Closed x y = absurd y
reads_unique s (m ∷ ms) [] e (Refused k) x y = let e = front_unique s (Refusal k) (Whole m x.0) y x.1 in absurd (cc)
reads_unique s (m ∷ ms) (n ∷ ns) e f (r, p, x) (q, p2, y) =
    let same = whole_rest m n r q (front_unique s (Whole m r) (Whole n q) p p2) in
    go x y same.0 same.1 (λ u v. reads_unique r ms ns e f u v)
  where
    go : ((m.closes ≡ true) × (ms ≡ []) × (e ≡ Closed)) ⊎ ((m.closes ≡ false) × Reads r ms e)
        → ((n.closes ≡ true) × (ns ≡ []) × (f ≡ Closed)) ⊎ ((n.closes ≡ false) × Reads q ns f)
        → m ≡ n → r ≡ q → (Reads r ms e → Reads r ns f → (ms ≡ ns) × (e ≡ f)) → (m ∷ ms ≡ n ∷ ns) × (e ≡ f)
    go (inl a) (inl b) same left ih = (cc, cc)
    go (inl a) (inr b) same left ih = let c : m.closes ≡ n.closes = ap (λ (i : Request). i.closes) same in absurd (cc)
    go (inr a) (inl b) same left ih = let c : m.closes ≡ n.closes = ap (λ (i : Request). i.closes) same in absurd (cc)
    go (inr a) (inr b) same left ih =
        let both = ih a.1 (subst (λ (l : List ℕ). Reads l ns f) (sym left) b.1) in
        let ts : ms ≡ ns = both.0 in
        (cc, both.1)

pub begins_more : (s x r : List ℕ) (ms : List Request) → Begins s ms r → Begins (s ++ x) ms (r ++ x)
begins_more s x r [] e = strip_same_more s r x e
begins_more s x r (m ∷ ms) (q, p, stays, rest) = (q ++ x, front_more s x m q p, stays, begins_more q x r ms rest)

pub begins_then : (s r q : List ℕ) (ms ns : List Request) → Begins s ms r → Begins r ns q → Begins s (ms ++ ns) q
begins_then s r q [] [] e f = e ∙ f
begins_then s r q [] (n ∷ ns) e (u, p, stays, rest) = (u, front_same r s (Whole n u) (sym e) p, stays, rest)
begins_then s r q (m ∷ ms) ns (u, p, stays, rest) f = (u, p, stays, begins_then u r q ms ns rest f)

pub begins_reads : (s r : List ℕ) (ms ns : List Request) (e : End) → Begins s ms r → Reads r ns e → Reads s (ms ++ ns) e
begins_reads s r [] [] (Open q) b x = (front_same r s Wanting (sym b) x.0, x.1 ∙ sym b)
begins_reads s r [] [] Closed b x = x
begins_reads s r [] [] (Refused k) b x = front_same r s (Refusal k) (sym b) x
begins_reads s r [] (n ∷ ns) e b (q, p, x) = (q, front_same r s (Whole n q) (sym b) p, x)
begins_reads s r (m ∷ ms) ns e (q, p, stays, b) x = (q, p, inr (stays, begins_reads q r ms ns e b x))

pub reads_more : (s x : List ℕ) (ms : List Request) → Reads s ms Closed → Reads (s ++ x) ms Closed
reads_more s x [] h = h
reads_more s x (m ∷ ms) (q, p, inl h) = (q ++ x, front_more s x m q p, inl h)
reads_more s x (m ∷ ms) (q, p, inr h) = (q ++ x, front_more s x m q p, inr (h.0, reads_more q x ms h.1))

pub reads_refused : (s x : List ℕ) (ms : List Request) (k : ℕ) → Reads s ms (Refused k) → Reads (s ++ x) ms (Refused k)
reads_refused s x [] k h = front_refused s x k h
reads_refused s x (m ∷ ms) k (q, p, inl h) = absurd (cc)
reads_refused s x (m ∷ ms) k (q, p, inr h) = (q ++ x, front_more s x m q p, inr (h.0, reads_refused q x ms k h.1))

-- nothing wants more
pub nothing_waits : IsFront [] Wanting
unfolding head_end
nothing_waits = record { at = refl }

-- ---- how much may wait

judged_le : (method : List ℕ) (o : Result (Option ℕ) ℕ) (n : ℕ) → length_judged method o ≡ Ok n → n ≤ 262144
judged_le method (Err k) n e = absurd (cc)
judged_le method (Ok None) n e = elim (cases_Bool (bytes_eq method (codes "POST"))) [
  | inl y ↦ let e2 : Err 411 ≡ Ok n = rw y at e in absurd (cc)
  | inr y ↦ let e2 : Ok 0 ≡ Ok n = rw y at e in let z : 0 ≡ n = cc in omega arith
]
judged_le method (Ok (Some m)) n e = elim (cases_Bool (nat_lt 262144 m)) [
  | inl y ↦ let e2 : Err 413 ≡ Ok n = rw y at e in absurd (cc)
  | inr y ↦ let e2 : Ok m ≡ Ok n = rw y at e in let z : m ≡ n = cc in grind (arith, nat_tests)
]

body_le : (te cl : List (List ℕ)) (method : List ℕ) (n : ℕ) → body_length te cl method ≡ Ok n → n ≤ 262144
body_le [] cl method n e = judged_le method (length_told cl) n e
body_le (v ∷ vs) cl method n e = absurd (cc)

by_wanting : (l : Result ℕ ℕ) (h : RequestHead) (a : List ℕ) → Wanting ≡ front_by l h a → (n : ℕ) × (l ≡ Ok n) × (length a < n)
by_wanting (Err k) h a e = absurd (cc)
by_wanting (Ok n) h a e = elim (cases_Bool (nat_le n (length a))) [
  | inl y ↦ let e2 : Wanting ≡ Whole (request_of h (take n a)) (drop n a) = rw y at e in absurd (cc)
  | inr y ↦ (n, refl, grind (arith, nat_tests))
]

-- what wants more is shorter than the room
pub wanting_fits : (s : List ℕ) → IsFront s Wanting → length (strip s) < 270336
unfolding head_end
wanting_fits s p = go (head_end (strip s)) refl p.at
  where
    go : (e : HeadEnd) → head_end (strip s) ≡ e → FrontAt e (strip s) Wanting → length (strip s) < 270336
    go Missing he at = omega (arith, missing_short 8192 (strip s) he)
    go TooLarge he at = absurd (cc)
    go (At n) he (None, ho, e) = absurd (cc)
    go (At n) he (Some h, ho, e) =
        let (k, ok, short) = by_wanting (length_of h) h (drop n (strip s)) e in
        let le = body_le (values_of (codes "transfer-encoding") (fields_of h)) (values_of (codes "content-length") (fields_of h)) h.method k ok in
        omega (arith, length-drop n (strip s), short, le, end_most 8192 (strip s) n he)

-- ---- the statuses of refusals

abbrev refused_by : ℕ → Result ℕ ℕ
refused_by k = Err k

err_same : (j k : ℕ) → refused_by j ≡ refused_by k → j ≡ k
err_same j k e = cc

refusal_same : (j k : ℕ) → Refusal j ≡ Refusal k → j ≡ k
refusal_same j k e = cc

told_status : (vs : List (List ℕ)) (k : ℕ) → length_told vs ≡ Err k → k ≡ 400
told_status [] k e = absurd (cc)
told_status (v ∷ []) k e = go (digits_told v) e
  where
    go : (o : Option ℕ) → length_by o ≡ Err k → k ≡ 400
    go None e = cc
    go (Some n) e = absurd (cc)
told_status (v ∷ w ∷ vs) k e = cc

judged_status : (method : List ℕ) (o : Result (Option ℕ) ℕ) (k : ℕ) → ((j : ℕ) → o ≡ Err j → j ≡ 400) → length_judged method o ≡ Err k → IsTrue (is_answer_status k)
judged_status method (Err j) k told e =
    let is : k ≡ 400 = sym (err_same j k e) ∙ told j refl in
    subst (λ (i : ℕ). IsTrue (is_answer_status i)) (sym is) refl
judged_status method (Ok None) k told e = elim (cases_Bool (bytes_eq method (codes "POST"))) [
  | inl y ↦ let e2 : Err 411 ≡ Err k = rw y at e in subst (λ (i : ℕ). IsTrue (is_answer_status i)) (err_same 411 k e2) refl
  | inr y ↦ let e2 : Ok 0 ≡ Err k = rw y at e in absurd (cc)
]
judged_status method (Ok (Some n)) k told e = elim (cases_Bool (nat_lt 262144 n)) [
  | inl y ↦ let e2 : Err 413 ≡ Err k = rw y at e in subst (λ (i : ℕ). IsTrue (is_answer_status i)) (err_same 413 k e2) refl
  | inr y ↦ let e2 : Ok n ≡ Err k = rw y at e in absurd (cc)
]

body_status : (te cl : List (List ℕ)) (method : List ℕ) (k : ℕ) → body_length te cl method ≡ Err k → IsTrue (is_answer_status k)
body_status [] cl method k e = judged_status method (length_told cl) k (λ j h. told_status cl j h) e
body_status (v ∷ vs) cl method k e = subst (λ (i : ℕ). IsTrue (is_answer_status i)) (err_same 501 k e) refl

by_status : (l : Result ℕ ℕ) (h : RequestHead) (a : List ℕ) (k : ℕ) → Refusal k ≡ front_by l h a → l ≡ Err k
by_status (Err j) h a k e = ap Err (sym (refusal_same k j e))
by_status (Ok n) h a k e = elim (cases_Bool (nat_le n (length a))) [
  | inl y ↦ let e2 : Refusal k ≡ Whole (request_of h (take n a)) (drop n a) = rw y at e in absurd (cc)
  | inr y ↦ let e2 : Refusal k ≡ Wanting = rw y at e in absurd (cc)
]

-- a refusal has a status of the table
pub refusal_status : (s : List ℕ) (k : ℕ) → IsFront s (Refusal k) → IsTrue (is_answer_status k)
refusal_status s k p = go (head_end (strip s)) p.at
  where
    go : (e : HeadEnd) → FrontAt e (strip s) (Refusal k) → IsTrue (is_answer_status k)
    go Missing at = absurd (cc)
    go TooLarge at = subst (λ (i : ℕ). IsTrue (is_answer_status i)) (sym (refusal_same k 431 at)) refl
    go (At n) (None, ho, e) = subst (λ (i : ℕ). IsTrue (is_answer_status i)) (sym (refusal_same k 400 e)) refl
    go (At n) (Some h, ho, e) =
        body_status (values_of (codes "transfer-encoding") (fields_of h)) (values_of (codes "content-length") (fields_of h)) h.method k (by_status (length_of h) h (drop n (strip s)) k e)
