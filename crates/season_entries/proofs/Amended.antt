-- Another name and another position of a player leave the entries.
use Rattle.std.proofs.Common.{◌≡◌, ◌∷◌, [], ℕ, Bool, true, false, ◌==◌, ◌||◌, cond, if◌then◌else◌, List, Option, Some, None, is_some, map, arith, refl, sym, ap, subst, ◌∙◌}
use Rattle.std.specs.List.{All, list_any, AllByRecursion as Each}
use Rattle.std.specs.Prelude.{Result, Ok, Err, OnOk}
use Rattle.std.specs.Option.{option_map, unwrap_or}
use Rattle.std.proofs.lemmas.Bool.{false≢true}
use Rattle.std.proofs.lemmas.Bool.Decides.{nat_tests}
use Rattle.std.proofs.lemmas.Option.{none-some}
use Rattle.fpl_base.specs.declared.kinds.Position.{Position}
use Rattle.fpl_base.specs.declared.kinds.Position.TheVariants.{Keeper, Defender, Midfielder, Forward}
use Rattle.fpl_base.specs.declared.rule.Rule.{Rule}
use Rattle.fpl_base.specs.declared.rule.Rule.TheVariants as rule
use Rattle.rule_book.specs.declared.player.Player.{Player}
use Rattle.rule_book.specs.declared.team.Pick.{Pick}
use Rattle.rule_book.specs.Batch.{HavePositions, is_same_position}
use Rattle.rule_book.specs.History.{Event, kept}
use Rattle.rule_book.specs.HistorySquad.{bought_at, order_of}
use Rattle.rule_book.specs.ById.{at_id}
use Rattle.rule_book.specs.MatchFacts.{MatchFacts, Sheet, bare_sheet, line_in, line_of}
use Rattle.rule_book.specs.PlayerFigures.{position_in}
use Rattle.rule_book.specs.Players.{ArePlayers, with_details}
use Rattle.rule_book.specs.Uses.{has_lines}
use Rattle.rule_book.proofs.HadFacts.{neither}
use Rattle.season_ledger.specs.declared.row.Row.{Row}
use Rattle.season_ledger.specs.declared.row.Standing.{Standing}
use Rattle.season_ledger.specs.Rows.{row_at, rows_had}
use Rattle.season_ledger.specs.Stands.{StandsFor, Tells}
use Rattle.manager_book.specs.declared.manager.Manager.{Manager}
use Rattle.manager_book.specs.Managers.{manager_had, managers_had, sales_name}
use Rattle.season_book.specs.Book.{EntryFacts, Facts}
use Rattle.season_book.specs.Commands.{has_player}
use Rattle.season_book.specs.PlayerCommands.{have_had, use_refusal}
use Rattle.season_book.specs.declared.answer.Answer.{Answer}
use Rattle.season_book.specs.declared.answer.Answer.TheVariants as answer
use Rattle.season_entries.specs.Amended.{AmendmentsLeaveEntries, CanAmend, IsAmendJudgedByBooks, amend_answer, amend_broken}
use Rattle.season_entries.specs.Deeds.{IsAnswered}
use Rattle.season_entries.specs.Entries.{AreEntries}
use Rattle.season_entries.proofs.Had.{managers_have_had, row_none}
use Rattle.season_entries.proofs.Placing.{have_positions}
use Rattle.season_entries.proofs.Stay.{all_each, each_all, entries_stay}

pub one_position : (a b : Position) → is_same_position a b ≡ true → a ≡ b
one_position Keeper Keeper same = refl
one_position Defender Defender same = refl
one_position Midfielder Midfielder same = refl
one_position Forward Forward same = refl
one_position Keeper Defender same = absurd (false≢true same)
one_position Keeper Midfielder same = absurd (false≢true same)
one_position Keeper Forward same = absurd (false≢true same)
one_position Defender Keeper same = absurd (false≢true same)
one_position Defender Midfielder same = absurd (false≢true same)
one_position Defender Forward same = absurd (false≢true same)
one_position Midfielder Keeper same = absurd (false≢true same)
one_position Midfielder Defender same = absurd (false≢true same)
one_position Midfielder Forward same = absurd (false≢true same)
one_position Forward Keeper same = absurd (false≢true same)
one_position Forward Defender same = absurd (false≢true same)
one_position Forward Midfielder same = absurd (false≢true same)

-- it was judged as each book says
pub amend_judged : {T : Type 0} (facts : Facts) (managers : List Manager) (p : ℕ) (position : Position) (r : Result T Answer) → ArePlayers facts.players
    → IsAnswered (amend_broken facts managers p position) r → IsAmendJudgedByBooks facts managers p position r
amend_judged facts managers p position r are judged entries stand =
    subst (λ had. IsAnswered (amend_answer facts had p position) r) (managers_have_had p facts.players managers entries are stand) judged

-- what answers nothing refuses nothing
pub amend_granted : {T : Type 0} (facts : Facts) (managers : List Manager) (p : ℕ) (position : Position) (r : Result T Answer) → ArePlayers facts.players
    → IsAnswered (amend_broken facts managers p position) r → OnOk r (CanAmend facts managers p position)
amend_granted facts managers p position (Err reply) are judged = tt
amend_granted facts managers p position (Ok value) are judged = by_tests (has_player facts p) (use_refusal facts (managers_had managers p) p position) refl refl judged
  where
    by_tests : (b : Bool) (o : Option Rule) → has_player facts p ≡ b → use_refusal facts (managers_had managers p) p position ≡ o
        → (if b then option_map answer.Rule o else Some answer.Unknown) ≡ None → CanAmend facts managers p position
    by_tests false o there broken none = absurd (none-some answer.Unknown (sym none))
    by_tests true (Some rule) there broken none = absurd (none-some (answer.Rule rule) (sym none))
    by_tests true None there broken none = record { players = are; there = there; unbroken = broken }

-- Nothing refuses it: the position is the same, or nobody has had him.

module _ (facts : Facts) (p : ℕ) (position : Position) where
  abbrev unbroken_as : Bool → Bool → Option Rule
  unbroken_as same used = if same then None else if used then Some (rule.InUse p) else None

  pub no_use : (had : Bool) → is_same_position (position_in facts.players p) position ≡ false → use_refusal facts had p position ≡ None → (had || has_lines facts.matches p) ≡ false
  no_use had other none = by_use (had || has_lines facts.matches p) (sym (ap (λ b. unbroken_as b (had || has_lines facts.matches p)) other) ∙ none)
    where
      by_use : (b : Bool) → unbroken_as false b ≡ None → b ≡ false
      by_use true none = absurd (none-some (rule.InUse p) (sym none))
      by_use false none = refl

-- who has no lines has none in a fixture
none_at : (rows : MatchFacts) (has : ℕ → Bool) (f : ℕ) (s : Sheet) → list_any has (map (λ row. row.0) rows) ≡ false → at_id rows f ≡ Some s → has f ≡ false
none_at [] has f s none at = absurd (none-some s at)
none_at (row ∷ rows) has f s none at =
    let parts = neither (has row.0) (list_any has (map (λ row. row.0) rows)) none in
    elim (row.0 == f) as (λ b. (row.0 == f) ≡ b → cond b (Some row.1) (at_id rows f) ≡ Some s → has f ≡ false) [
      | true ↦ λ same found. (let is : row.0 ≡ f = grind (arith, nat_tests, same) in subst (λ k. has k ≡ false) is parts.0)
      | false ↦ λ other found. none_at rows has f s parts.1 found
    ] refl at

pub no_line : (m : MatchFacts) (f p : ℕ) → has_lines m p ≡ false → is_some (line_of m f p) ≡ false
no_line m f p none = by_sheet (at_id m f) refl
  where
    by_sheet : (o : Option Sheet) → at_id m f ≡ o → is_some (line_of m f p) ≡ false
    by_sheet None at = ap (λ o. is_some (line_in (unwrap_or o bare_sheet).lines p)) at
    by_sheet (Some s) at = none_at m (λ f. is_some (line_of m f p)) f s none at

abbrev IsAt : (ℕ → Position) → Player → Type 0
IsAt position x = x.position ≡ position x.id

module _ (players : List Player) (are : ArePlayers players) (p : ℕ) (name : List ℕ) (new : Position) where
  abbrev amended : Player → Player
  amended x = record x { name = name; position = new }

  stood : Each (IsAt (position_in players)) players
  stood = all_each (IsAt (position_in players)) players (have_positions players are)

  -- at the same position they stand where they stood
  where_they_stood : position_in players p ≡ new → (position : ℕ → Position) → HavePositions position (with_details players p name new) → HavePositions position players
  where_they_stood same position have =
      each_all (IsAt position) players (walk players stood (all_each (IsAt position) (with_details players p name new) have))
    where
      one : (x : Player) (b : Bool) → (x.id == p) ≡ b → IsAt (position_in players) x → IsAt position (cond b (amended x) x) → IsAt position x
      one x true his own at = let id : x.id ≡ p = grind (arith, nat_tests, his) in own ∙ ap (position_in players) id ∙ same ∙ at
      one x false his own at = at

      walk : (xs : List Player) → Each (IsAt (position_in players)) xs → Each (IsAt position) (map (λ x. if x.id == p then amended x else x) xs) → Each (IsAt position) xs
      walk [] own at = tt
      walk (x ∷ xs) own at = (one x (x.id == p) refl own.0 at.0, walk xs own.1 at.1)

  -- his old position, and the others'
  abbrev before : (ℕ → Position) → ℕ → Position
  before position q = if q == p then position_in players p else position q

  they_stood : (position : ℕ → Position) → HavePositions position (with_details players p name new) → HavePositions (before position) players
  they_stood position have = each_all (IsAt (before position)) players (walk players stood (all_each (IsAt position) (with_details players p name new) have))
    where
      one : (x : Player) (b : Bool) → (x.id == p) ≡ b → IsAt (position_in players) x → IsAt position (cond b (amended x) x) → x.position ≡ (if b then position_in players p else position x.id)
      one x true his own at = let id : x.id ≡ p = grind (arith, nat_tests, his) in own ∙ ap (position_in players) id
      one x false his own at = at

      walk : (xs : List Player) → Each (IsAt (position_in players)) xs → Each (IsAt position) (map (λ x. if x.id == p then amended x else x) xs) → Each (IsAt (before position)) xs
      walk [] own at = tt
      walk (x ∷ xs) own at = (one x (x.id == p) refl own.0 at.0, walk xs own.1 at.1)

  -- rows in which he does not stand
  picks_same : (position : ℕ → Position) (es : List Event) (order : List ℕ) (picks : List Pick)
      → picks ≡ map (λ q. record { player = q; position = before position q; bought = bought_at es q }) order → list_any (λ k. k.player == p) picks ≡ false
      → picks ≡ map (λ q. record { player = q; position = position q; bought = bought_at es q }) order
  picks_same position es order picks is none =
      is ∙ others order (subst (λ picks. list_any (λ (k : Pick). k.player == p) picks ≡ false) is none)
    where
      others : (order : List ℕ) → list_any (λ (k : Pick). k.player == p) (map (λ q. record { player = q; position = before position q; bought = bought_at es q }) order) ≡ false
          → map {B = Pick} (λ q. record { player = q; position = before position q; bought = bought_at es q }) order ≡ map (λ q. record { player = q; position = position q; bought = bought_at es q }) order
      others [] none = refl
      others (q ∷ order) none =
          let parts = neither (q == p) (list_any (λ (k : Pick). k.player == p) (map (λ q. record { player = q; position = before position q; bought = bought_at es q }) order)) none in
          ap (λ b. let k : Pick = record { player = q; position = if b then position_in players p else position q; bought = bought_at es q } in
          k ∷ map (λ q. record { player = q; position = before position q; bought = bought_at es q }) order) parts.0
          ∙ ap (λ l. let k : Pick = record { player = q; position = position q; bought = bought_at es q } in k ∷ l) (others order parts.1)

  rows_stay : (position : ℕ → Position) (rows : List Row) (h : List Event) → rows_had rows p ≡ false → StandsFor (before position) rows h → StandsFor position rows h
  rows_stay position rows h none st = record { rise = st.rise; history = st.history; told = λ g. told g (row_at rows g) refl (st.told g) }
    where
      told : (g : ℕ) (o : Option Standing) → row_at rows g ≡ o → Tells (before position) h g o → Tells position h g o
      told g None at tells = tells
      told g (Some s) at tells = (
        tells.0,
        record {
          picks = picks_same position (kept h g) (order_of (kept h g)) s.team.picks tells.1.picks (row_none p rows g s none at);
          captain = tells.1.captain;
          vice = tells.1.vice;
          bank = tells.1.bank;
          chip = tells.1.chip;
        },
        tells.2,
      )

  unused_stay : (managers : List Manager) (entries : List EntryFacts) → managers_had managers p ≡ false → AreEntries players managers entries → AreEntries (with_details players p name new) managers entries
  unused_stay [] [] none stand = tt
  unused_stay [] (x ∷ entries) none stand = absurd stand
  unused_stay (m ∷ managers) [] none stand = absurd stand
  unused_stay (m ∷ managers) (x ∷ entries) none stand =
      let parts = neither (manager_had m p) (managers_had managers p) none in
      let rows = neither (rows_had m.season p) (sales_name m.sales p) parts.0 in (
        record {
          key = stand.0.key;
          name = stand.0.name;
          history = λ position have. rows_stay position m.season x.history rows.0 (stand.0.history (before position) (they_stood position have));
          sales = stand.0.sales;
        },
        unused_stay managers entries parts.1 stand.1,
      )

pub amended_stay : AmendmentsLeaveEntries
amended_stay facts managers p name new can entries stand = by_position (is_same_position (position_in facts.players p) new) refl
  where
    by_position : (b : Bool) → is_same_position (position_in facts.players p) new ≡ b → AreEntries (with_details facts.players p name new) managers entries
    by_position true same =
        entries_stay facts.players (with_details facts.players p name new) managers entries (where_they_stood facts.players can.players p name new (one_position (position_in facts.players p) new same)) stand
    by_position false other =
        let unused = no_use facts p new (managers_had managers p) other can.unbroken in
        unused_stay facts.players can.players p name new managers entries (neither (managers_had managers p) (has_lines facts.matches p) unused).0 stand
