-- A judged deed that was kept: the rows are in time, and stand for what the history goes on to, as the sales do.
use Rattle.std.proofs.Common.{◌≡◌, ◌+◌, ◌++◌, ◌∷◌, [], ℕ, Bool, true, false, List, Option, Some, None, Result, Ok, Err, IfOk, OnOk, arith, refl, sym, ap, ◌∙◌, subst, cond, length, nat_eq}
use Rattle.std.proofs.lemmas.List.{append-nil}
use Rattle.std.specs.Option.{option_map_or}
use Rattle.fpl_base.specs.declared.kinds.Chip.{Chip}
use Rattle.fpl_base.specs.declared.kinds.Chip.TheVariants.{None as NoChip}
use Rattle.fpl_base.specs.declared.kinds.Position.{Position}
use Rattle.fpl_base.specs.declared.rule.Rule.{Rule}
use Rattle.rule_book.specs.declared.transfers.Sale.{Sale}
use Rattle.rule_book.specs.Calendar.{next_gameweek}
use Rattle.rule_book.specs.History.{Event, in_gameweek}
use Rattle.rule_book.specs.History.Deed.{First, Lineup, Play, Cancel}
use Rattle.rule_book.specs.HistoryTeam.{holdings}
use Rattle.rule_book.specs.PlayerFigures.{position_in}
use Rattle.rule_book.specs.Players.{ArePlayers}
use Rattle.season_ledger.specs.declared.row.Row.{Row}
use Rattle.season_ledger.specs.declared.row.Standing.{Standing}
use Rattle.season_ledger.specs.Batches.{players_of}
use Rattle.season_ledger.specs.Rows.{AllUpTo, put_chip, put_chip_on, put_row, standing_at, used_by}
use Rattle.season_ledger.specs.Stands.{StandsFor}
use Rattle.manager_book.specs.declared.deed.JudgedDeed.{JudgedDeed}
use Rattle.manager_book.specs.declared.deed.JudgedDeed.TheVariants as judged
use Rattle.manager_book.specs.Deeds.{HasPlaced, IsWorkedOut, deeds_of, gameweek_of, rows_behind, sales_made}
use Rattle.manager_book.specs.Managers.{IsSameBut, Managers, sales_of, season_of}
use Rattle.season_book.specs.Book.{Facts}
use Rattle.season_book.specs.EntryCommands.{deeds_in}
use Rattle.season_book.specs.declared.command.Command.{Command}
use Rattle.season_entries.specs.Deeds.{IsDeedDone, IsDeedJudged, IsInTime, StandWherever}
use Rattle.season_entries.specs.Earlier.{RowsStayBefore, rows_before}
use Rattle.season_entries.specs.Entries.{AreSold}
use Rattle.season_entries.proofs.Earlier.{before_chip, before_row}
use Rattle.season_entries.proofs.Placing.{have_positions}
use Rattle.season_entries.proofs.Sales.{sold_on, unsold}

-- a row of the gameweek itself is not later
up_to_put : (rows : List Row) (g : ℕ) (s : Standing) → AllUpTo g rows → AllUpTo g (put_row rows g s)
up_to_put [] g s up = ((omega arith), tt)
up_to_put (r ∷ rows) g s up = by_test (nat_eq r.gw g) (up_to_put rows g s up.1)
  where
    by_test : (b : Bool) → AllUpTo g (put_row rows g s) → AllUpTo g (cond b (record { gw = g; standing = s } ∷ rows) (r ∷ put_row rows g s))
    by_test true more = ((omega arith), up.1)
    by_test false more = (up.0, more)

up_to_chip : (rows : List Row) (g : ℕ) (chip : Chip) → AllUpTo g rows → AllUpTo g (put_chip rows g chip)
up_to_chip rows g chip up = by_standing (standing_at rows g)
  where
    by_standing : (o : Option Standing) → AllUpTo g (put_chip_on rows g chip o)
    by_standing None = up
    by_standing (Some s) = up_to_put rows g (record { made = s.made; team = record s.team { chip = chip } }) up

up_to_behind : (rows : List Row) (deed : JudgedDeed) → AllUpTo (gameweek_of deed) rows → AllUpTo (gameweek_of deed) (rows_behind rows deed)
up_to_behind rows (judged.Squad g team) up = up_to_put rows g (record { made = 0; team = team }) up
up_to_behind rows (judged.Transfers g team sales) up = up_to_put rows g (record { made = used_by rows g + length sales; team = team }) up
up_to_behind rows (judged.Lineup g team) up = up_to_put rows g (record { made = used_by rows g; team = team }) up
up_to_behind rows (judged.Chip g chip) up = up_to_chip rows g chip up
up_to_behind rows (judged.Cancel g) up = up_to_chip rows g NoChip up

-- the rows of earlier gameweeks stay
before_behind : (rows : List Row) (deed : JudgedDeed) → rows_before (gameweek_of deed) (rows_behind rows deed) ≡ rows_before (gameweek_of deed) rows
before_behind rows (judged.Squad g team) = before_row rows (put_row rows g (record { made = 0; team = team })) g (record { made = 0; team = team }) refl
before_behind rows (judged.Transfers g team sales) =
    before_row rows (put_row rows g (record { made = used_by rows g + length sales; team = team })) g (record { made = used_by rows g + length sales; team = team }) refl
before_behind rows (judged.Lineup g team) = before_row rows (put_row rows g (record { made = used_by rows g; team = team })) g (record { made = used_by rows g; team = team }) refl
before_behind rows (judged.Chip g chip) = before_chip rows (put_chip rows g chip) g chip refl
before_behind rows (judged.Cancel g) = before_chip rows (put_chip rows g NoChip) g NoChip refl

-- the sales go on with the history
sold_behind : (old new : List (ℕ × Sale)) (deed : JudgedDeed) (h : List Event) → new ≡ old ++ sales_made deed → AreSold old h → AreSold new (h ++ in_gameweek (gameweek_of deed) (deeds_of deed))
sold_behind old new (judged.Squad g team) h e are = unsold old new g (First (holdings team.picks) team.captain team.vice) h refl (e ∙ append-nil old) are
sold_behind old new (judged.Transfers g team sales) h e are = sold_on old new g sales h e are
sold_behind old new (judged.Lineup g team) h e are = unsold old new g (Lineup (players_of team) team.captain team.vice) h refl (e ∙ append-nil old) are
sold_behind old new (judged.Chip g chip) h e are = unsold old new g (Play chip) h refl (e ∙ append-nil old) are
sold_behind old new (judged.Cancel g) h e are = unsold old new g Cancel h refl (e ∙ append-nil old) are

-- what the next gameweek's deeds leave, of the gameweek that is next
in_next_time : (next : Option ℕ) (g : ℕ) (old new : List Row) → next ≡ Some g → (AllUpTo g old → AllUpTo g new) → IsInTime next old → IsInTime next new
in_next_time next g old new is goes = subst (λ (o : Option ℕ). IsInTime o old → IsInTime o new) (sym is) goes

-- a command was done, where what judging it worked out was kept
pub kept_done : (facts : Facts) (e : ℕ) (command : Command) (old new : Managers) (deed : JudgedDeed) → ArePlayers facts.players → IsDeedJudged facts (season_of old e) command deed → IsSameBut e old new
    → season_of new e ≡ rows_behind (season_of old e) deed → sales_of new e ≡ sales_of old e ++ sales_made deed
    → ((position : ℕ → Position) (h : List Event) → HasPlaced position deed → StandsFor position (season_of old e) h → StandsFor position (season_of new e) (h ++ in_gameweek (gameweek_of deed) (deeds_of deed)))
    → IsDeedDone facts e command old new
kept_done facts e command old new deed are judge same rows sales history =
    let g = judge.gameweek in
    let at : gameweek_of deed ≡ g = judge.worked.gameweek in
    let adds : (h : List Event) → StandWherever facts.players (season_of old e) h → deeds_of deed ≡ deeds_in facts h command g = λ h st. judge.worked.adds h (st (position_in facts.players) (have_positions facts.players are)) in
    let goes : (h : List Event) → StandWherever facts.players (season_of old e) h
    → in_gameweek (gameweek_of deed) (deeds_of deed) ≡ option_map_or (λ g. in_gameweek g (deeds_in facts h command g)) (next_gameweek facts.calendar) [] = λ h st.
    ap (λ n. in_gameweek n (deeds_of deed)) at ∙ ap (in_gameweek g) (adds h st) ∙ ap (λ (o : Option ℕ). option_map_or (λ g. in_gameweek g (deeds_in facts h command g)) o []) (sym judge.next) in
    record {
      same = same;
      later = in_next_time (next_gameweek facts.calendar) g (season_of old e) (season_of new e) judge.next
          (subst (λ n. AllUpTo n (season_of old e) → AllUpTo n (season_of new e)) at (λ up. subst (AllUpTo (gameweek_of deed)) (sym rows) (up_to_behind (season_of old e) deed up)));
      earlier = subst (λ (o : Option ℕ). RowsStayBefore o e old new) (sym judge.next)
          (subst (λ n. rows_before n (season_of new e) ≡ rows_before n (season_of old e)) at (ap (rows_before (gameweek_of deed)) rows ∙ before_behind (season_of old e) deed));
      goes_on = λ h st position have. subst (λ (more : List Event). StandsFor position (season_of new e) (h ++ more)) (goes h st)
          (history position h (judge.worked.placed position h have (st position have)) (st position have));
      sold = λ h st sold. subst (λ (more : List Event). AreSold (sales_of new e) (h ++ more)) (goes h st) (sold_behind (sales_of old e) (sales_of new e) deed h sales sold);
    }

-- what was worked out in the gameweek that is next is what the command comes to
pub judged_next : (facts : Facts) (rows : List Row) (command : Command) (g : ℕ) (r : Result JudgedDeed Rule) → next_gameweek facts.calendar ≡ Some g
    → IfOk r (IsWorkedOut g facts.players rows (λ h. deeds_in facts h command g)) → IfOk r (IsDeedJudged facts rows command)
judged_next facts rows command g (Ok deed) next worked = record { gameweek = g; next = next; worked = worked }
judged_next facts rows command g (Err rule) next worked = tt

-- so of a command by what it is
pub judged_as : (facts : Facts) (rows : List Row) (command : Command) (g : ℕ) (r : Result JudgedDeed Rule) (this : Command) → next_gameweek facts.calendar ≡ Some g → command ≡ this
    → IfOk r (IsWorkedOut g facts.players rows (λ h. deeds_in facts h this g)) → IfOk r (IsDeedJudged facts rows command)
judged_as facts rows command g r this next is worked =
    judged_next facts rows command g r next (subst (λ (c : Command). IfOk r (IsWorkedOut g facts.players rows (λ h. deeds_in facts h c g))) (sym is) worked)

pub done_where_kept : (facts : Facts) (e : ℕ) (command : Command) (old new : Managers) (deed : JudgedDeed) {E : Type 0} (r : Result (Unit {0}) E) → ArePlayers facts.players → IsDeedJudged facts (season_of old e) command deed → IsSameBut e old new
    → OnOk r (season_of new e ≡ rows_behind (season_of old e) deed) → OnOk r (sales_of new e ≡ sales_of old e ++ sales_made deed)
    → ((position : ℕ → Position) (h : List Event) → HasPlaced position deed → StandsFor position (season_of old e) h → OnOk r (StandsFor position (season_of new e) (h ++ in_gameweek (gameweek_of deed) (deeds_of deed))))
    → OnOk r (IsDeedDone facts e command old new)
done_where_kept facts e command old new deed (Ok value) are judge same rows sales history = kept_done facts e command old new deed are judge same rows sales history
done_where_kept facts e command old new deed (Err fault) are judge same rows sales history = tt
