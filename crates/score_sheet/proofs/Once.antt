-- An input is read, and its rows are spelled, in one way.
use Rattle.std.proofs.Common.{◌≡◌, ◌<◌, ◌+◌, ◌++◌, [], ◌∷◌, ℕ, List, length, None, arith, refl, sym, ap, ◌∙◌}
use Rattle.csv.specs.Machine.{Read, next_record}
use Rattle.csv.specs.Reading.{Reached, AreRecords}
use Rattle.csv.specs.Records.{field_at}
use Rattle.csv.specs.declared.parser.Config.{Config}
use Rattle.csv.specs.declared.parser.State.{State}
use Rattle.rule_book.specs.declared.line.Appearance.{Appearance}
use Rattle.rule_book.specs.declared.line.Line.{Line}
use Rattle.fpl_base.proofs.OneLetter.{same_letter}
use Rattle.fpl_base.specs.declared.kinds.Position.{Position}
use Rattle.score_sheet.specs.Rows.{Spells, Adds, AddAll, AreRows, IsWrongAt}
use Rattle.fpl_base.specs.declared.kinds.Profile.{Profile}
use Rattle.score_sheet.specs.Sheets.{Scores, HasWrongRow}
use Rattle.score_sheet.specs.Scores.{score_text}
use Rattle.score_sheet.proofs.Fields.{same_some, same_lines, none_some}
use Rattle.score_sheet.proofs.RowLists.{same_player}

same_records : (cfg : Config) (s s2 s3 : State) (xs ys zs : List ℕ) (a b : List (List (List ℕ)))
    → Reached cfg s xs a s2 ys → next_record cfg s2 [] [] ys ≡ None → Reached cfg s xs b s3 zs → next_record cfg s3 [] [] zs ≡ None → a ≡ b
unfolding Reached
same_records cfg s s2 s3 xs ys zs [] [] p pe q qe = refl
same_records cfg s s2 s3 xs ys zs [] (b ∷ bs) p pe q qe = absurd (none_some (next_record cfg s [] [] xs) (rw (p.0, p.1) pe) q.1)
same_records cfg s s2 s3 xs ys zs (a ∷ as_) [] p pe q qe = absurd (none_some (next_record cfg s [] [] xs) (rw (q.0, q.1) qe) p.1)
same_records cfg s s2 s3 xs ys zs (a ∷ as_) (b ∷ bs) p pe q qe =
    let one : p.0 ≡ q.0 = same_some (next_record cfg s [] [] xs) p.1 q.1 in
    let rest = rw (← one) at q.3 in
    let tails : as_ ≡ bs = same_records cfg p.0.1 s2 s3 p.0.2 ys zs as_ bs p.3 pe rest qe in
    let heads : a ≡ b = p.2 ∙ ap (λ (r : Read). r.0) one ∙ sym q.2 in
    ap (λ t. t ∷ as_) heads ∙ ap (λ t. b ∷ t) tails

pub one_reading : (cfg : Config) (s : State) (xs : List ℕ) (a b : List (List (List ℕ))) → AreRecords cfg s xs a → AreRecords cfg s xs b → a ≡ b
one_reading cfg s xs a b p q = same_records cfg s p.0 q.0 xs p.1 q.1 a b p.2 p.3 q.2 q.3

-- fields spell one row
same_row : (fields : List (List ℕ)) (a b : Appearance) → Spells fields a → Spells fields b → a ≡ b
same_row fields a b p q =
    let players : a.player ≡ b.player = same_player fields a b p q in
    let positions : a.position ≡ b.position = same_letter a.position b.position (same_some (field_at fields 1) p.position q.position) in
    let lines : a.line ≡ b.line = same_lines fields a.line b.line p.size q.size p.figures q.figures in
    let make : ℕ → Position → Line → Appearance = λ player position line. record { player = player; position = position; line = line } in
    ap (λ n. make n a.position a.line) players ∙ ap (λ l. make b.player l a.line) positions ∙ ap (λ x. make b.player b.position x) lines

pub same_rows : (before : List Appearance) (records : List (List (List ℕ))) (a b : List Appearance) → AddAll before records a → AddAll before records b → a ≡ b
unfolding AddAll
same_rows before [] a b p q = p ∙ sym q
same_rows before (f ∷ fs) a b p q =
    let row : p.0 ≡ q.0 = same_row f p.0 q.0 p.1.spelled q.1.spelled in
    same_rows (before ++ p.0 ∷ []) fs a b p.2 (rw row q.2)

-- rows of records are rows of the records in front, and one more
split_rows : (before : List Appearance) (front : List (List (List ℕ))) (fields : List (List ℕ)) (rest : List (List (List ℕ))) (rows : List Appearance)
    → AddAll before (front ++ fields ∷ rest) rows → (mid : List Appearance) × AddAll before front mid × (row : Appearance) × Adds mid fields row
unfolding AddAll
split_rows before [] fields rest rows h = (before, refl, h.0, h.1)
split_rows before (f ∷ fs) fields rest rows h =
    let more = split_rows (before ++ h.0 ∷ []) fs fields rest rows h.2 in
    (more.0, (h.0, h.1, more.1), more.2, more.3)

pub rows_not_wrong : (records : List (List (List ℕ))) (rows : List Appearance) (n : ℕ) → AreRows records rows → IsWrongAt records n → ⊥
rows_not_wrong records rows n are wrong =
    let cut = split_rows [] wrong.front wrong.fields wrong.rest rows (rw (← wrong.parts) are) in
    let same : cut.0 ≡ wrong.rows = same_rows [] wrong.front cut.0 wrong.rows cut.1 wrong.before in
    wrong.wrong cut.2 (rw (← same) cut.3)

pub one_text : (profile : Profile) (bytes t u : List ℕ) → Scores profile bytes t → Scores profile bytes u → t ≡ u
one_text profile bytes t u p q =
    let read = one_reading _ _ _ p.records q.records p.read q.read in
    p.is_text ∙ ap (score_text profile) (same_rows [] p.records p.rows q.rows p.are_rows (rw read q.are_rows)) ∙ sym q.is_text

pub text_or_wrong : (profile : Profile) (bytes t : List ℕ) (n : ℕ) → Scores profile bytes t → HasWrongRow bytes n → ⊥
text_or_wrong profile bytes t n p q =
    let read = one_reading _ _ _ p.records q.records p.read q.read in
    rows_not_wrong p.records p.rows n p.are_rows (rw read q.wrong_at)

cons_head : {A : Type 0} {x y : A} {xs ys : List A} → x ∷ xs ≡ y ∷ ys → x ≡ y
cons_head e = cc

cons_tail : {A : Type 0} {x y : A} {xs ys : List A} → x ∷ xs ≡ y ∷ ys → xs ≡ ys
cons_tail e = cc

by_order : (m n : ℕ) → (m < n → ⊥) → (n < m → ⊥) → m ≡ n
by_order m n p q = grind arith

-- of two ways to cut a list, the shorter front and its next element stand in front of the longer
longer_front : (f : List (List (List ℕ))) (x : List (List ℕ)) (r g : List (List (List ℕ))) (y : List (List ℕ)) (t : List (List (List ℕ)))
    → f ++ x ∷ r ≡ g ++ y ∷ t → length f < length g → (k : List (List (List ℕ))) × (g ≡ f ++ x ∷ k)
longer_front f x r [] y t e h = absurd (omega arith)
longer_front [] x r (b ∷ g) y t e h = (g, ap (λ z. z ∷ g) (sym (cons_head e)))
longer_front (a ∷ f) x r (b ∷ g) y t e h =
    let more = longer_front f x r g y t (cons_tail e) (omega arith) in
    (more.0, ap (λ z. z ∷ g) (sym (cons_head e)) ∙ ap (λ zs. a ∷ zs) more.1)

-- an earlier wrong row excludes a later one
not_later : (records : List (List (List ℕ))) (m n : ℕ) → IsWrongAt records m → IsWrongAt records n → m < n → ⊥
not_later records m n p q h =
    let longer = longer_front p.front p.fields p.rest q.front q.fields q.rest (sym p.parts ∙ q.parts) (omega (arith, p.place, q.place)) in
    let cut = split_rows [] p.front p.fields longer.0 q.rows (rw (← longer.1) q.before) in
    let same : cut.0 ≡ p.rows = same_rows [] p.front cut.0 p.rows cut.1 p.before in
    p.wrong cut.2 (rw (← same) cut.3)

pub one_wrong : (bytes : List ℕ) (m n : ℕ) → HasWrongRow bytes m → HasWrongRow bytes n → m ≡ n
one_wrong bytes m n p q =
    let read = one_reading _ _ _ p.records q.records p.read q.read in
    let there : IsWrongAt p.records n = rw read q.wrong_at in
    by_order m n (not_later p.records m n p.wrong_at there) (not_later p.records n m there p.wrong_at)
