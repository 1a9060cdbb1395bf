-- Who is held, with one more entry.
use Rattle.std.proofs.Common.{◌≡◌, ◌≤◌, ◌+◌, ◌∙◌, ◌++◌, ◌∷◌, [], ℕ, Bool, true, false, List, Option, Some, cond, arith, ap, sym, subst, if◌then◌else◌}
use Rattle.std.specs.Option.{option_map_or}
use Rattle.std.proofs.lemmas.List.{length_push}
use Rattle.std.proofs.lemmas.List.Sums.{sum_by_push}
use Rattle.rule_book.specs.declared.team.Team.{Team}
use Rattle.rule_book.specs.Entries.{entry_in}
use Rattle.rule_book.specs.HistoryTeam.{TeamTold}
use Rattle.rule_book.specs.PlayerFigures.{position_in}
use Rattle.season_book.specs.Book.{EntryFacts, Facts}
use Rattle.season_book.specs.EntryViews.{team_by}
use Rattle.season_book.specs.LeagueViews.{history_of}
use Rattle.bootstrap_window.specs.declared.holders.Holders.{Holders}
use Rattle.season_book.specs.Elements.{is_picked}
use Rattle.season_book.specs.EntryTotals.{is_in}
use Rattle.bootstrap_window.specs.Tables.{AreHeld, count_in}

-- what is told of the team of an entry is told of its history
pub told_of : (facts : Facts) (g : ℕ) (entries : List EntryFacts) (e : ℕ) (row : EntryFacts) (team : Option Team) → entry_in entries e ≡ Some row
    → TeamTold (position_in facts.players) (history_of entries e) g team → TeamTold (position_in facts.players) row.history g team
told_of facts g entries e row team at told =
    subst (λ o. TeamTold (position_in facts.players) (option_map_or (λ (entry : EntryFacts). entry.history) o []) g team) at told

-- the players of the entry's team are held by one more
pub held_more : (facts : Facts) (g : ℕ) (rows : List (ℕ × EntryFacts)) (e : ℕ) (row : EntryFacts) (team : Team) (old new : Holders) → AreHeld facts g rows old → is_in row g ≡ true → team ≡ team_by facts row.history g
    → ((p : ℕ) → count_in new.counts p ≡ count_in old.counts p + cond (is_picked team.picks p) 1 0) → new.entries ≡ old.entries + 1
    → AreHeld facts g (rows ++ (if is_in row g then (e, row) ∷ [] else [])) new
held_more facts g rows e row team old new held there is more one =
    subst (λ b. AreHeld facts g (rows ++ (if b then (e, row) ∷ [] else [])) new) (sym there)
    (record {
      counts = λ p.
          more p
          ∙ (λ i. held.counts p i + cond (is_picked (is i).picks p) 1 0)
          ∙ sym (sum_by_push (λ (r : ℕ × EntryFacts). cond (is_picked (team_by facts r.1.history g).picks p) 1 0) rows (e, row));
      entries = one ∙ ap (λ n. n + 1) held.entries ∙ sym (length_push rows (e, row));
    })

pub one_at_most : (b : Bool) → cond b 1 0 ≤ 1
one_at_most true = omega arith
one_at_most false = omega arith
