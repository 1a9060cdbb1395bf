-- Bytes are read, and their rows are spelled, in one way.
use Rattle.std.proofs.Common.{◌≡◌, ◌<◌, ◌≤◌, ◌++◌, [], ◌∷◌, ℕ, List, length, Option, Some, None, arith, refl, sym, ap, ◌∙◌, length-append, append-nil}
use Rattle.csv.specs.Machine.{Read, next_record}
use Rattle.csv.specs.Reading.{Reached, default_config, strip_bom}
use Rattle.csv.specs.declared.parser.Config.{Config}
use Rattle.csv.specs.declared.parser.State.{State}
use Rattle.csv.specs.declared.parser.State.TheVariants as st
use Rattle.fpl_reports.specs.Rows.{AddAll, HasRows, HasWrongRow, ReadAs}

same_some : {A : Type 0} {a b : A} (o : Option A) → o ≡ Some a → o ≡ Some b → a ≡ b
same_some o p q = cc

none_some : {A : Type 0} {a : A} (o : Option A) → o ≡ None → o ≡ Some a → ⊥
none_some o p q = cc

cons_head : {A : Type 0} {x y : A} {xs ys : List A} → x ∷ xs ≡ y ∷ ys → x ≡ y
cons_head e = cc

cons_tail : {A : Type 0} {x y : A} {xs ys : List A} → x ∷ xs ≡ y ∷ ys → xs ≡ ys
cons_tail e = cc

by_order : (m n : ℕ) → (m < n → ⊥) → (n < m → ⊥) → m ≡ n
by_order m n p q = grind arith

-- of two lists of records that are read from the same bytes, the longer begins with the shorter
longer_begins : (cfg : Config) (s s2 s3 : State) (xs ys zs : List ℕ) (a b : List (List (List ℕ)))
    → Reached cfg s xs a s2 ys → Reached cfg s xs b s3 zs → length a ≤ length b → (k : List (List (List ℕ))) × (b ≡ a ++ k)
unfolding Reached
longer_begins cfg s s2 s3 xs ys zs [] b p q h = (b, refl)
longer_begins cfg s s2 s3 xs ys zs (a ∷ as_) [] p q h = absurd (omega arith)
longer_begins cfg s s2 s3 xs ys zs (a ∷ as_) (b ∷ bs) p q h =
    let one : p.0 ≡ q.0 = same_some (next_record cfg s [] [] xs) p.1 q.1 in
    let rest = rw (← one) at q.3 in
    let more = longer_begins cfg p.0.1 s2 s3 p.0.2 ys zs as_ bs p.3 rest (omega arith) in
    let heads : b ≡ a = q.2 ∙ ap (λ (r : Read). r.0) (sym one) ∙ sym p.2 in
    (more.0, ap (λ t. t ∷ bs) heads ∙ ap (λ t. a ∷ t) more.1)

-- and all records that they have begin with each list
all_begin : (cfg : Config) (s s2 s3 : State) (xs ys zs : List ℕ) (a b : List (List (List ℕ)))
    → Reached cfg s xs a s2 ys → Reached cfg s xs b s3 zs → next_record cfg s3 [] [] zs ≡ None → (k : List (List (List ℕ))) × (b ≡ a ++ k)
unfolding Reached
all_begin cfg s s2 s3 xs ys zs [] b p q end = (b, refl)
all_begin cfg s s2 s3 xs ys zs (a ∷ as_) [] p q end = absurd (none_some (next_record cfg s [] [] xs) (rw (q.0, q.1) end) p.1)
all_begin cfg s s2 s3 xs ys zs (a ∷ as_) (b ∷ bs) p q end =
    let one : p.0 ≡ q.0 = same_some (next_record cfg s [] [] xs) p.1 q.1 in
    let rest = rw (← one) at q.3 in
    let more = all_begin cfg p.0.1 s2 s3 p.0.2 ys zs as_ bs p.3 rest end in
    let heads : b ≡ a = q.2 ∙ ap (λ (r : Read). r.0) (sym one) ∙ sym p.2 in
    (more.0, ap (λ t. t ∷ bs) heads ∙ ap (λ t. a ∷ t) more.1)

nothing_more : {X : Type 0} (xs k : List X) → length (xs ++ k) ≤ length xs → k ≡ []
nothing_more xs [] h = refl
nothing_more xs (x ∷ k) h = absurd (omega (arith, simp length-append at h))

one_reading : (bytes : List ℕ) (a b : List (List (List ℕ))) → ReadAs bytes a → ReadAs bytes b → a ≡ b
one_reading bytes a b p q =
    let there = all_begin default_config st.StartRecord p.0 q.0 (strip_bom bytes) p.1 q.1 a b p.2 q.2 q.3 in
    let back = all_begin default_config st.StartRecord q.0 p.0 (strip_bom bytes) q.1 p.1 b a q.2 p.2 p.3 in
    let empty : there.0 ≡ [] = nothing_more a there.0 (omega (arith, ap length there.1, simp length-append at (ap length back.1))) in
    sym (there.1 ∙ ap (λ k. a ++ k) empty ∙ append-nil a)

-- What a row is, is told once: the fields spell one row behind the same rows.
abbrev pub Once : {Row : Type 0} → (List Row → List (List ℕ) → Row → Type 0) → Type 0
Once {Row} Adds = (before : List Row) (fields : List (List ℕ)) (a b : Row) → Adds before fields a → Adds before fields b → a ≡ b

same_rows : {Row : Type 0} (Adds : List Row → List (List ℕ) → Row → Type 0) → Once Adds → (before : List Row) (records : List (List (List ℕ))) (a b : List Row) → AddAll Adds before records a → AddAll Adds before records b → a ≡ b
unfolding AddAll
same_rows Adds once before [] a b p q = p ∙ sym q
same_rows Adds once before (f ∷ fs) a b p q =
    let row : p.0 ≡ q.0 = once before f p.0 q.0 p.1 q.1 in
    same_rows Adds once (before ++ p.0 ∷ []) fs a b p.2 (rw row q.2)

-- rows of records are rows of the records in front, and one more
split_rows : {Row : Type 0} (Adds : List Row → List (List ℕ) → Row → Type 0) (before : List Row) (front : List (List (List ℕ))) (fields : List (List ℕ)) (rest : List (List (List ℕ))) (rows : List Row)
    → AddAll Adds before ((front ++ fields ∷ []) ++ rest) rows → (mid : List Row) × AddAll Adds before front mid × (row : Row) × Adds mid fields row
unfolding AddAll
split_rows Adds before [] fields rest rows h = (before, refl, h.0, h.1)
split_rows Adds before (f ∷ fs) fields rest rows h =
    let more = split_rows Adds (before ++ h.0 ∷ []) fs fields rest rows h.2 in
    (more.0, (h.0, h.1, more.1), more.2, more.3)

pub rows_once : {Row : Type 0} (Adds : List Row → List (List ℕ) → Row → Type 0) → Once Adds → (bytes : List ℕ) (a b : List Row) → HasRows Adds bytes a → HasRows Adds bytes b → a ≡ b
rows_once Adds once bytes a b p q =
    let read = one_reading bytes p.records q.records p.read q.read in
    same_rows Adds once [] p.records a b p.rows_are (rw read q.rows_are)

not_then : {Row : Type 0} (Adds : List Row → List (List ℕ) → Row → Type 0) → Once Adds → (front : List (List (List ℕ))) (fields : List (List ℕ)) (rest records : List (List (List ℕ))) (mid rows : List Row)
    → records ≡ (front ++ fields ∷ []) ++ rest → AddAll Adds [] records rows → AddAll Adds [] front mid → ((row : Row) → Adds mid fields row → ⊥) → ⊥
not_then Adds once front fields rest records mid rows parts are before wrong =
    let cut = split_rows Adds [] front fields rest rows (rw (← parts) are) in
    let same : cut.0 ≡ mid = same_rows Adds once [] front cut.0 mid cut.1 before in
    wrong cut.2 (rw (← same) cut.3)

pub rows_not_wrong : {Row : Type 0} (Adds : List Row → List (List ℕ) → Row → Type 0) → Once Adds → (bytes : List ℕ) (rows : List Row) (n : ℕ) → HasRows Adds bytes rows → HasWrongRow Adds bytes n → ⊥
rows_not_wrong Adds once bytes rows n has wrong =
    let all = all_begin default_config st.StartRecord wrong.read.state has.read.0 (strip_bom bytes) wrong.read.left has.read.1 (wrong.front ++ wrong.fields ∷ []) has.records wrong.read.read has.read.2 has.read.3 in
    not_then Adds once wrong.front wrong.fields all.0 has.records wrong.rows rows all.1 has.rows_are wrong.before wrong.wrong

-- a list that begins with a shorter one and one more, without its own last element, still begins with that
front_begins : (g : List (List (List ℕ))) (y : List (List ℕ)) (f k : List (List (List ℕ))) → g ++ y ∷ [] ≡ f ++ k → length f ≤ length g → (m : List (List (List ℕ))) × (g ≡ f ++ m)
front_begins g y [] k e h = (g, refl)
front_begins [] y (a ∷ f) k e h = absurd (omega arith)
front_begins (b ∷ g) y (a ∷ f) k e h =
    let more = front_begins g y f k (cons_tail e) (omega arith) in
    (more.0, ap (λ z. z ∷ g) (cons_head e) ∙ ap (λ zs. a ∷ zs) more.1)

not_later : {Row : Type 0} (Adds : List Row → List (List ℕ) → Row → Type 0) → Once Adds → (bytes : List ℕ) (n m : ℕ) → HasWrongRow Adds bytes n → HasWrongRow Adds bytes m → n < m → ⊥
not_later Adds once bytes n m p q h =
    let short : length (p.front ++ p.fields ∷ []) ≤ length q.front = simp length-append (omega (arith, p.place, q.place)) in
    let long : length (p.front ++ p.fields ∷ []) ≤ length (q.front ++ q.fields ∷ []) = simp length-append (omega (arith, p.place, q.place)) in
    let begins = longer_begins default_config st.StartRecord p.read.state q.read.state (strip_bom bytes) p.read.left q.read.left (p.front ++ p.fields ∷ []) (q.front ++ q.fields ∷ []) p.read.read q.read.read long in
    let front = front_begins q.front q.fields (p.front ++ p.fields ∷ []) begins.0 begins.1 short in
    not_then Adds once p.front p.fields front.0 q.front p.rows q.rows front.1 q.before p.before p.wrong

pub wrong_once : {Row : Type 0} (Adds : List Row → List (List ℕ) → Row → Type 0) → Once Adds → (bytes : List ℕ) (n m : ℕ) → HasWrongRow Adds bytes n → HasWrongRow Adds bytes m → n ≡ m
wrong_once Adds once bytes n m p q = by_order n m (not_later Adds once bytes n m p q) (not_later Adds once bytes m n q p)
