-- what a buffer holds, after bytes are added or moved
use Rattle.std.proofs.Common.{◌≡◌, ◌∙◌, ap, sym, ℕ, List, [], ◌++◌, ◌+◌, ◌-◌, ◌≤◌, length, drop, take, arith, append_assoc}
use Rattle.std.proofs.lemmas.List.{drop-drop, take-take, take-append-le, drop-append-le, drop-take, length-take, length-drop, length-append, take_at}
use Rattle.fpl_http.specs.Stored.{Stored}

pub same_stored : (a b : Stored) → a.kept ≡ b.kept → a.waits ≡ b.waits → a.room ≡ b.room → a ≡ b
same_stored a b k w r =
    let put : List ℕ → List ℕ → ℕ → Stored = λ x y n. record { kept = x; waits = y; room = n } in
    ap (λ (x : List ℕ). put x a.waits a.room) k ∙ ap (λ (y : List ℕ). put b.kept y a.room) w ∙ ap (λ (n : ℕ). put b.kept b.waits n) r

-- what waits, cut at the end
pub front_cut : (items : List ℕ) (start end : ℕ) → start ≤ end → drop start (take end items) ≡ take (end - start) (drop start items)
front_cut items start end ordered =
    let split : start + (end - start) ≡ end = omega arith in
    ap (λ n. drop start (take n items)) (sym split) ∙ drop-take start (end - start) items

-- bytes written at the end wait after those that waited
pub held_more : (items piece rest : List ℕ) (start end : ℕ) → start ≤ end → end ≤ length items
    → take (end + length piece - start) (drop start (take end items ++ piece ++ rest)) ≡ take (end - start) (drop start items) ++ piece
held_more items piece rest start end ordered within =
    let len : length (take end items) ≡ end = omega (arith, length-take end items) in
    let size : length (take (end - start) (drop start items) ++ piece) ≡ end + length piece - start =
    omega (arith, length-append (take (end - start) (drop start items)) piece, length-take (end - start) (drop start items), length-drop start items) in
    let cut : drop start (take end items ++ piece ++ rest) ≡ (take (end - start) (drop start items) ++ piece) ++ rest =
    ap (drop start) (append_assoc (take end items) piece rest)
    ∙ drop-append-le start (take end items) (piece ++ rest) (omega (arith, len))
    ∙ ap (λ l. l ++ (piece ++ rest)) (front_cut items start end ordered) ∙ sym (append_assoc (take (end - start) (drop start items)) piece rest) in
    ap (take (end + length piece - start)) cut ∙ take_at (take (end - start) (drop start items) ++ piece) rest (end + length piece - start) size

-- bytes written at the end leave those before it
pub kept_same : (items more : List ℕ) (from start end : ℕ) → from ≤ start → start ≤ end → end ≤ length items
    → take (start - from) (drop from (take end items ++ more)) ≡ take (start - from) (drop from items)
kept_same items more from start end ordered before within =
    let len : length (take end items) ≡ end = omega (arith, length-take end items) in
    ap (take (start - from)) (drop-append-le from (take end items) more (omega (arith, len)))
    ∙ take-append-le (start - from) (drop from (take end items)) more (omega (arith, len, length-drop from (take end items)))
    ∙ ap (take (start - from)) (front_cut items from end (omega arith))
    ∙ take-take (start - from) (end - from) (drop from items) (omega arith)

-- bytes turned to the front wait there
pub turned_front : (items a b : List ℕ) (start end : ℕ) → start ≤ end → end ≤ length items
    → take (end - start) (drop start (take end items) ++ a ++ b) ≡ take (end - start) (drop start items)
turned_front items a b start end ordered within =
    let len : length (drop start (take end items)) ≡ end - start = omega (arith, length-take end items, length-drop start (take end items)) in
    ap (take (end - start)) (append_assoc (drop start (take end items)) a b)
    ∙ take_at (drop start (take end items)) (a ++ b) (end - start) len
    ∙ front_cut items start end ordered

-- what a `&mut` to a vector's slice leaves in the vector
pub written_back : (new items : List ℕ) (len : ℕ) → length new ≡ length items → len ≡ length items → take len (new ++ drop (length new) items) ≡ new
written_back new items len same is = take_at new (drop (length new) items) len (same ∙ sym is)

-- what waits, from a later byte on
pub waits_from : (items : List ℕ) (start end n : ℕ) → start + n ≤ end → take (end - (start + n)) (drop (start + n) items) ≡ drop n (take (end - start) (drop start items))
waits_from items start end n fits =
    let split : n + (end - (start + n)) ≡ end - start = omega arith in
    ap (take (end - (start + n))) (sym (drop-drop n start items))
    ∙ sym (drop-take n (end - (start + n)) (drop start items))
    ∙ ap (λ (i : ℕ). drop n (take i (drop start items))) split

-- nothing is kept where the ends meet
pub none_kept : (items : List ℕ) (at : ℕ) → take (at - at) (drop at items) ≡ []
none_kept items at = let none : at - at ≡ 0 = omega arith in ap (λ (i : ℕ). take i (drop at items)) none

-- the first bytes that wait
pub waits_first : (items : List ℕ) (start end n : ℕ) → start + n ≤ end → take (start + n - start) (drop start items) ≡ take n (take (end - start) (drop start items))
waits_first items start end n fits =
    let long : start + n - start ≡ n = omega arith in
    ap (λ (i : ℕ). take i (drop start items)) long ∙ sym (take-take n (end - start) (drop start items) (omega arith))

-- as many bytes as wait
pub waits_size : (items waits : List ℕ) (start end n : ℕ) → start ≤ end → take (end - start) (drop start items) ≡ waits → n ≤ length waits → start + n ≤ end
waits_size items waits start end n ordered e le = omega (arith, ap length e, length-take (end - start) (drop start items))

-- a piece written in the middle leaves the length
pub put_size : (items piece : List ℕ) (at : ℕ) → at + length piece ≤ length items → length (take at items ++ piece ++ drop (at + length piece) items) ≡ length items
put_size items piece at fits =
    omega (arith, length-append (take at items ++ piece) (drop (at + length piece) items), length-append (take at items) piece, length-take at items, length-drop (at + length piece) items)
