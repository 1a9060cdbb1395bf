-- What leagues and cups show of entries that are the same to others.
use Rattle.std.proofs.Common.{◌≡◌, ℕ, List, Some, map, arith, ◌∙◌}
use Rattle.std.specs.List.{range_with_len}
use Rattle.rule_book.specs.declared.cup.Bracket.{Bracket}
use Rattle.rule_book.specs.declared.league.LeagueKind.{LeagueKind}
use Rattle.rule_book.specs.declared.league.LeagueKind.TheVariants as kind
use Rattle.rule_book.specs.CupRounds.{rounds_of, rounds_shown}
use Rattle.rule_book.specs.LeagueRows.{classic_rows, head_rows}
use Rattle.rule_book.specs.Leagues.{LeagueFacts}
use Rattle.rule_book.specs.Tables.{classic_table_of, head_table_of}
use Rattle.rule_book.proofs.AgreeFacts.{rounds_agree, rows_agree}
use Rattle.rule_book.proofs.UpToFacts.{count_the_same}
use Rattle.season_book.specs.Book.{EntryFacts, Facts}
use Rattle.season_book.specs.LeagueViews.{classic_rows_by, counted_of, cup_shown, first_of, history_of, league_shown, league_shown_as, net_in, side_in}
use Rattle.season_book.specs.declared.shown.Shown.TheVariants as shown
use Rattle.season_book.specs.Agree.{EntriesAlike}
use Rattle.season_book.proofs.SidesAlike.{first_alike, history_alike, name_alike, net_alike, side_alike}

module _ (facts : Facts) (entries others : List EntryFacts) (a : EntriesAlike (Some facts) entries others) where
  abbrev locked : ℕ
  locked = facts.calendar.locked

  counted_alike : (e : ℕ) → counted_of facts entries e ≡ counted_of facts others e
  counted_alike e = (count_the_same locked (history_of entries e) (history_of others e) (history_alike facts entries others a e) (first_alike facts entries others a e) locked (omega arith)).counted

  -- leagues
  classic_rows_alike : (league : LeagueFacts) → classic_rows_by facts entries league ≡ classic_rows_by facts others league
  classic_rows_alike league =
      (rows_agree (net_in facts entries) (net_in facts others) locked league (net_alike facts entries others a)).classic (first_of entries) (counted_of facts entries)
      ∙ (λ i. classic_rows (net_in facts others) (λ e. first_alike facts entries others a e i) (λ e. counted_alike e i) locked league)

  head_rows_alike : (league : LeagueFacts) → head_rows (net_in facts entries) locked league ≡ head_rows (net_in facts others) locked league
  head_rows_alike league = (rows_agree (net_in facts entries) (net_in facts others) locked league (net_alike facts entries others a)).head

  shown_as : (k : LeagueKind) (league : LeagueFacts) → league_shown_as k facts entries league ≡ league_shown_as k facts others league
  shown_as kind.Classic league =
      let rows = classic_rows_alike league in
      λ i. shown.Classic (record {
        name = league.name;
        start = league.start;
        rows = map (λ row. record { row = row; name = name_alike facts entries others a row.entry i }) (classic_table_of (rows i));
      })
  shown_as kind.Head league =
      let rows = head_rows_alike league in
      λ i. shown.Head (record {
        name = league.name;
        start = league.start;
        rows = map (λ row. record { row = row; name = name_alike facts entries others a row.entry i }) (head_table_of (rows i));
      })

  pub league_alike : (league : LeagueFacts) → league_shown facts entries league ≡ league_shown facts others league
  league_alike league = shown_as league.kind league

  -- cups
  rounds_alike : (b : Bracket) → rounds_shown b (side_in facts entries) locked ≡ rounds_shown b (side_in facts others) locked
  rounds_alike b = λ i. map (λ round. rounds_agree b (side_in facts entries) (side_in facts others) locked round (side_alike facts entries others a) i) (range_with_len 1 (rounds_of b))

  pub cup_alike : (b : Bracket) → cup_shown facts entries b ≡ cup_shown facts others b
  cup_alike b = let rounds = rounds_alike b in λ i. record { start = b.start; rounds = rounds i }
