-- Reports, one row more at a time.
use Rattle.std.proofs.Common.{◌≡◌, ◌<◌, ◌≤◌, ◌+◌, ◌∷◌, [], ◌++◌, ℕ, suc, List, length, map, get_or, take, arith, refl, sym, ap, ◌∙◌, append-nil}
use Rattle.std.specs.List.{flat_map}
use Rattle.std.proofs.lemmas.List.{map_more, take_more, take_all, flat_map_more, length-take}
use Rattle.csv.specs.Writing.{default_writer, row_text}
use Rattle.season_calendar.specs.Instants.{IsInstant}
use Rattle.season_book.specs.declared.shown.ShownEntryGameweek.{ShownEntryGameweek}
use Rattle.fpl_reports.specs.Reports.{AreInstants, rows_text, season_row, season_rows, slot_row, slot_rows}

take_one_more : {X : Type 0} (xs : List X) (i : ℕ) (x : X) → i < length xs → x ≡ get_or xs i x → take (i + 1) xs ≡ take i xs ++ x ∷ []
take_one_more xs i x h e = take_more xs i x h ∙ ap (λ y. take i xs ++ y ∷ []) (sym e)

-- the rows of the first i + 1 lines
pub lines_more : {X : Type 0} (fields : X → List (List ℕ)) (xs : List X) (i : ℕ) (x : X) (base old new : List ℕ) → i < length xs → x ≡ get_or xs i x
    → old ≡ base ++ flat_map (row_text default_writer) (map fields (take i xs)) → new ≡ old ++ row_text default_writer (fields x)
    → new ≡ base ++ flat_map (row_text default_writer) (map fields (take (i + 1) xs))
lines_more fields xs i x base old new h e was is =
    is
    ∙ ap (λ t. t ++ row_text default_writer (fields x)) was
    ∙ flat_map_more (row_text default_writer) base (map fields (take i xs)) (fields x)
    ∙ ap (λ y. base ++ flat_map (row_text default_writer) (map fields (take i xs) ++ fields y ∷ [])) e
    ∙ ap (λ rows. base ++ flat_map (row_text default_writer) rows) (sym (map_more fields xs i x h))

slot_rows_more : (entry : ShownEntryGameweek) (slot : ℕ) (players : List ℕ) (player : ℕ) → slot_rows entry slot (players ++ player ∷ []) ≡ slot_rows entry slot players ++ slot_row entry (slot + length players) player ∷ []
slot_rows_more entry slot [] player =
    let same : slot ≡ slot + 0 = omega arith in
    ap (λ n. slot_row entry n player ∷ []) same
slot_rows_more entry slot (p ∷ ps) player =
    let same : (slot + 1) + length ps ≡ slot + length (p ∷ ps) = omega arith in
    ap (λ rows. slot_row entry slot p ∷ rows) (slot_rows_more entry (slot + 1) ps player ∙ ap (λ n. slot_rows entry (slot + 1) ps ++ slot_row entry n player ∷ []) same)

-- the rows of the first i + 1 slots
pub slots_more : (entry : ShownEntryGameweek) (players : List ℕ) (i player slot : ℕ) (base old new : List ℕ) → i < length players → player ≡ get_or players i player → slot ≡ i + 1
    → old ≡ base ++ rows_text (slot_rows entry 1 (take i players)) → new ≡ old ++ row_text default_writer (slot_row entry slot player)
    → new ≡ base ++ rows_text (slot_rows entry 1 (take (i + 1) players))
slots_more entry players i player slot base old new h e place was is =
    let size : length (take i players) ≡ i = simp length-take (omega arith) in
    let at : slot ≡ 1 + length (take i players) = omega (arith, size) in
    is
    ∙ ap (λ t. t ++ row_text default_writer (slot_row entry slot player)) was
    ∙ flat_map_more (row_text default_writer) base (slot_rows entry 1 (take i players)) (slot_row entry slot player)
    ∙ ap (λ n. base ++ rows_text (slot_rows entry 1 (take i players) ++ slot_row entry n player ∷ [])) at
    ∙ ap (λ rows. base ++ rows_text rows) (sym (slot_rows_more entry 1 (take i players) player))
    ∙ ap (λ ps. base ++ rows_text (slot_rows entry 1 ps)) (sym (take_one_more players i player h e))

season_rows_more : (locked g : ℕ) (texts : List (List ℕ)) (text : List ℕ) → season_rows locked g (texts ++ text ∷ []) ≡ season_rows locked g texts ++ season_row locked (g + length texts) text ∷ []
season_rows_more locked g [] text =
    let same : g ≡ g + 0 = omega arith in
    ap (λ n. season_row locked n text ∷ []) same
season_rows_more locked g (t ∷ ts) text =
    let same : (g + 1) + length ts ≡ g + length (t ∷ ts) = omega arith in
    ap (λ rows. season_row locked g t ∷ rows) (season_rows_more locked (g + 1) ts text ∙ ap (λ n. season_rows locked (g + 1) ts ++ season_row locked n text ∷ []) same)

-- the rows of one gameweek more, behind a header
pub season_more : (header : List (List ℕ)) (locked g : ℕ) (texts : List (List ℕ)) (text old new : List ℕ) → g ≡ 1 + length texts
    → old ≡ rows_text (header ∷ season_rows locked 1 texts) → new ≡ old ++ row_text default_writer (season_row locked g text)
    → new ≡ rows_text (header ∷ season_rows locked 1 (texts ++ text ∷ []))
season_more header locked g texts text old new place was is =
    is
    ∙ ap (λ t. t ++ row_text default_writer (season_row locked g text)) was
    ∙ flat_map_more (row_text default_writer) (row_text default_writer header) (season_rows locked 1 texts) (season_row locked g text)
    ∙ ap (λ n. row_text default_writer header ++ rows_text (season_rows locked 1 texts ++ season_row locked n text ∷ [])) place
    ∙ ap (λ rows. row_text default_writer header ++ rows_text rows) (sym (season_rows_more locked 1 texts text))

instants_add : (texts : List (List ℕ)) (moments : List ℕ) (text : List ℕ) (moment : ℕ) → AreInstants texts moments → IsInstant text moment → AreInstants (texts ++ text ∷ []) (moments ++ moment ∷ [])
unfolding AreInstants
instants_add [] [] text moment are is = (is, tt)
instants_add [] (m ∷ ms) text moment are is = absurd are
instants_add (t ∷ ts) [] text moment are is = absurd are
instants_add (t ∷ ts) (m ∷ ms) text moment are is = (are.0, instants_add ts ms text moment are.1 is)

pub instants_count : (texts : List (List ℕ)) (moments : List ℕ) → AreInstants texts moments → length texts ≡ length moments
unfolding AreInstants
instants_count [] [] are = refl
instants_count [] (m ∷ ms) are = absurd are
instants_count (t ∷ ts) [] are = absurd are
instants_count (t ∷ ts) (m ∷ ms) are = ap suc (instants_count ts ms are.1)

-- the instants of the first i + 1 moments
pub instants_more : (texts : List (List ℕ)) (moments : List ℕ) (i : ℕ) (text : List ℕ) (moment : ℕ) → i < length moments → moment ≡ get_or moments i moment → IsInstant text moment
    → AreInstants texts (take i moments) → AreInstants (texts ++ text ∷ []) (take (i + 1) moments)
instants_more texts moments i text moment h e is are = rw (take_one_more moments i moment h e) (instants_add texts (take i moments) text moment are is)

pub instants_none : AreInstants [] []
unfolding AreInstants
instants_none = tt

-- so many texts as moments were taken
pub instants_taken : (texts : List (List ℕ)) (moments : List ℕ) (i : ℕ) → i ≤ length moments → AreInstants texts (take i moments) → length texts ≡ i
instants_taken texts moments i h are =
    let size : length (take i moments) ≡ i = simp length-take (omega arith) in
    instants_count texts (take i moments) are ∙ size

-- a header alone
pub header_text : (header fields : List (List ℕ)) (start report : List ℕ) → start ≡ [] → fields ≡ header → report ≡ start ++ row_text default_writer fields → report ≡ rows_text (header ∷ [])
header_text header fields start report none same is =
    is ∙ ap (λ t. t ++ row_text default_writer fields) none ∙ ap (row_text default_writer) same ∙ sym (append-nil (row_text default_writer header))

-- a header, some rows, and a last one
pub last_text : (header : List (List ℕ)) (rows : List (List (List ℕ))) (last fields : List (List ℕ)) (first middle report : List ℕ) → first ≡ rows_text (header ∷ []) → middle ≡ first ++ rows_text rows → fields ≡ last
    → report ≡ middle ++ row_text default_writer fields → report ≡ rows_text (header ∷ (rows ++ last ∷ []))
last_text header rows last fields first middle report is_first is_middle same is =
    let front : first ≡ row_text default_writer header = is_first ∙ append-nil (row_text default_writer header) in
    is
    ∙ ap (λ t. t ++ row_text default_writer fields) (is_middle ∙ ap (λ t. t ++ rows_text rows) front)
    ∙ ap (λ fs. (row_text default_writer header ++ rows_text rows) ++ row_text default_writer fs) same
    ∙ flat_map_more (row_text default_writer) (row_text default_writer header) rows last

-- all are there in the end
pub instants_all : (texts : List (List ℕ)) (moments : List ℕ) (i : ℕ) → length moments ≤ i → AreInstants texts (take i moments) → AreInstants texts moments
instants_all texts moments i h are = rw (← take_all i moments h) are
