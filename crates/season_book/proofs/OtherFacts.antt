-- What the manager of another registered entry asks leaves a book that is the same to a caller.
use Rattle.std.proofs.Common.{◌≡◌, ◌≢◌, ◌+◌, ℕ, zero, suc, Bool, true, false, if◌then◌else◌, nat_lt, List, [], ◌∷◌, ◌++◌, Option, Some, None, length, arith, refl, sym, ap, ◌∙◌, subst, inl, inr}
use Rattle.std.specs.Prelude.{Result, Ok, Err, slice_get, ⊤}
use Rattle.std.specs.Option.{option_map_or}
use Rattle.std.proofs.lemmas.Bool.Decides.{nat_tests}
use Rattle.fpl_base.specs.declared.kinds.Caller.{Caller}
use Rattle.fpl_base.specs.declared.rule.Rule.{Rule}
use Rattle.rule_book.specs.ById.{at_id}
use Rattle.rule_book.specs.Entries.{entry_in}
use Rattle.rule_book.specs.History.{Deed, Event, in_gameweek}
use Rattle.rule_book.specs.HistoryRules.{is_started}
use Rattle.rule_book.specs.Calendar.{next_gameweek}
use Rattle.rule_book.specs.UpTo.{AgreeUpTo}
use Rattle.rule_book.proofs.AtId.{placed_other}
use Rattle.rule_book.proofs.UpToFacts.{later_events_agree, open_deeds_agree, start_stays}
use Rattle.season_book.specs.Book.{Book, EntryFacts, Facts, Last, caller_number, histories_with, last_number}
use Rattle.season_book.specs.Commands.{part_of}
use Rattle.season_book.specs.declared.command.Command.{Command}
use Rattle.season_book.specs.declared.made.Made.TheVariants as made
use Rattle.season_book.specs.declared.part.Part.TheVariants as part
use Rattle.season_book.specs.EntryCommands.{deed_refusal, deeds_in, history_after, names_players}
use Rattle.season_book.specs.LeagueCommands.{is_registered}
use Rattle.season_book.specs.Verdict.{IsVerdictIn, Outcome, Verdict, accepted, in_season, number_refusal, pass, ruled, ruled_in, ruled_of, settled, unless_broken, unless_misnumbered, with_history}
use Rattle.season_book.specs.declared.answer.Answer.{Answer}
use Rattle.season_book.specs.declared.answer.Answer.TheVariants as answer
use Rattle.season_book.specs.declared.request.Request.{Request}
use Rattle.season_book.specs.declared.request.Request.TheVariants as request
use Rattle.season_book.specs.Agree.{Agree, Alike, EntriesAlike, EntryAlike, SameWhereLocked}
use Rattle.season_book.specs.Isolation.{IsManagers, OthersAreUnseen}
use Rattle.season_book.proofs.BothWays.{all_alike, itself}
use Rattle.season_book.proofs.EntriesFacts.{at_number, itself_alike}
use Rattle.season_book.proofs.LockFacts.{locks_again}
use Rattle.season_book.proofs.ReplyFacts.{passed_again}

one_other : (k q : ℕ) (x : Last) → (q ≡ k → ⊥) → at_id ((k, x) ∷ []) q ≡ None
one_other k q x apart = grind (arith, nat_tests, apart)

-- with another history of one entry, which is the same to others
module _ (facts : Option Facts) (h : List Event) where
  abbrev Goes : Option EntryFacts → Type 0
  Goes None = ⊤
  Goes (Some entry) = EntryAlike facts entry (record entry { history = h })

  at_place : (entries : List EntryFacts) (n : ℕ) → Goes (slice_get entries n) → EntriesAlike facts entries (histories_with entries (suc n) h)
  at_place [] n goes = tt
  at_place (entry ∷ entries) zero goes = (goes, all_alike facts entries)
  at_place (entry ∷ entries) (suc n) goes = (itself_alike facts entry, at_place entries n goes)

  nobodys : (entries : List EntryFacts) → histories_with entries zero h ≡ entries
  nobodys [] = refl
  nobodys (entry ∷ entries) = refl

  one_unseen : (entries : List EntryFacts) (n : ℕ) → Goes (entry_in entries n) → EntriesAlike facts entries (histories_with entries n h)
  one_unseen entries zero goes = subst (λ l. EntriesAlike facts entries l) (sym (nobodys entries)) (all_alike facts entries)
  one_unseen entries (suc n) goes = at_place entries n (subst Goes (at_number entries n) goes)

  others_stay : (entries : List EntryFacts) (n m : ℕ) → m ≢ n → slice_get entries m ≡ slice_get (histories_with entries (suc n) h) m
  others_stay [] n m apart = refl
  others_stay (entry ∷ entries) zero zero apart = absurd (apart refl)
  others_stay (entry ∷ entries) zero (suc m) apart = refl
  others_stay (entry ∷ entries) (suc n) zero apart = refl
  others_stay (entry ∷ entries) (suc n) (suc m) apart = others_stay entries n m (λ e. apart (ap suc e))

  own_stays : (entries : List EntryFacts) (n m : ℕ) → m ≢ n → entry_in entries m ≡ entry_in (histories_with entries n h) m
  own_stays entries zero m apart = ap (λ l. entry_in l m) (sym (nobodys entries))
  own_stays entries (suc n) zero apart = refl
  own_stays entries (suc n) (suc m) apart =
      at_number entries m ∙ others_stay entries n m (λ e. apart (ap suc e)) ∙ sym (at_number (histories_with entries (suc n) h) m)

-- deeds of the next gameweek change nothing of the locked ones
next_unseen : (k : ℕ) (h : List Event) (deeds : ℕ → List Deed) (open_one : Bool) → AgreeUpTo k h (h ++ option_map_or (λ g. in_gameweek g (deeds g)) (if open_one then Some (k + 1) else None) [])
next_unseen k h deeds true = open_deeds_agree k (k + 1) h (deeds (k + 1)) (omega arith)
next_unseen k h deeds false = (later_events_agree k h []).agree tt

module _ (operator : List ℕ) (caller another : Caller) (now : ℕ) (book : Book) (apart : caller_number caller ≢ caller_number another) (registered : is_registered book.entries (caller_number another) ≡ true) where
  abbrev one : Book
  one = pass book now

  abbrev e : ℕ
  e = caller_number another

  -- nothing but the moment was told
  rests : Agree caller now book one
  rests = subst (λ b. Alike caller one b) (sym (passed_again now book)) (itself caller one)

  module _ (number : ℕ) (order : Command) where
    -- the caller is shown the same behind what the other was ruled
    abbrev Unseen : Result Outcome Answer → Type 0
    Unseen (Err refused) = ⊤
    Unseen (Ok outcome) = Agree caller now book (accepted another number order outcome)

    goes_on : (facts : Facts) (entry : EntryFacts) → one.facts ≡ Some facts → entry_in one.entries e ≡ Some entry
        → EntryAlike one.facts entry (record entry { history = history_after facts entry.history order })
    goes_on facts entry is at =
        let started : is_started entry.history ≡ true = subst (λ o. option_map_or (λ (x : EntryFacts). is_started x.history) o false ≡ true) at registered in
        let k = facts.calendar.locked in
        record {
          key = refl;
          name = refl;
          start = start_stays entry.history (option_map_or (λ g. in_gameweek g (deeds_in facts entry.history order g)) (next_gameweek facts.calendar) []) started;
          locked = subst (λ f. SameWhereLocked f entry.history (history_after facts entry.history order)) (sym is) (next_unseen k entry.history (deeds_in facts entry.history order) (nat_lt k (length facts.calendar.deadlines)));
        }

    done : (h : List Event) → Goes one.facts h (entry_in one.entries e) → Unseen (Ok (record { made = made.Nothing; book = with_history one e h }))
    done h goes = record {
      facts = sym (locks_again now book.facts);
      leagues = refl;
      cups = refl;
      entries = one_unseen one.facts h one.entries e goes;
      own = own_stays one.facts h one.entries e (caller_number caller) apart;
      last =
          let x : Last = record { number = number; command = order; made = made.Nothing } in
          sym (placed_other one.lasts ((e, x) ∷ []) e (caller_number caller) apart (one_other e (caller_number caller) x apart));
    }

    unless : (named : Bool) (broken : Option Rule) (outcome : Outcome) → Unseen (Ok outcome) → Unseen (if named then unless_broken broken outcome else Err answer.Unknown)
    unless false broken outcome un = tt
    unless true (Some broken) outcome un = tt
    unless true None outcome un = un

    deed : (facts : Option Facts) (entry : Option EntryFacts) → one.facts ≡ facts → entry_in one.entries e ≡ entry → Unseen (in_season facts (λ f. ruled_of one f e order entry))
    deed None entry is at = tt
    deed (Some facts) None is at = tt
    deed (Some facts) (Some entry) is at =
        let h = history_after facts entry.history order in
        unless (names_players facts order) (deed_refusal facts entry.history order) (record { made = made.Nothing; book = with_history one e h })
        (done h (subst (Goes one.facts h) (sym at) (goes_on facts entry is at)))

    deed_unseen : part_of order ≡ part.Deeds → Unseen (ruled operator one another now order)
    deed_unseen is = subst (λ p. Unseen (ruled_in p operator one another now order)) (sym is) (deed one.facts (entry_in one.entries e) refl refl)

    settled_unseen : (due : Result Outcome Answer) → Unseen due → Agree caller now book (settled one another number order due).book
    settled_unseen (Err refused) un = rests
    settled_unseen (Ok outcome) un = un

    numbered_unseen : (broken : Option Rule) (verdict : Verdict) → Agree caller now book verdict.book → Agree caller now book (unless_misnumbered broken one verdict).book
    numbered_unseen (Some broken) verdict un = rests
    numbered_unseen None verdict un = un

  pub verdict_unseen : (asked : Request) (verdict : Verdict) → IsManagers asked → IsVerdictIn operator one another now asked verdict → Agree caller now book verdict.book
  verdict_unseen (request.View view) verdict managers is = subst (λ b. Agree caller now book b) (sym (ap (λ (v : Verdict). v.book) is)) rests
  verdict_unseen (request.Command number order) verdict managers (inl (made, again, is)) = subst (λ b. Agree caller now book b) (sym (ap (λ (v : Verdict). v.book) is)) rests
  verdict_unseen (request.Command number order) verdict managers (inr (fresh, is)) =
      let due = ruled operator one another now order in
      subst (λ b. Agree caller now book b) (sym (ap (λ (v : Verdict). v.book) is))
      (numbered_unseen number order (number_refusal (last_number one another) number) (settled one another number order due)
      (settled_unseen number order due (deed_unseen number order managers)))

pub others_are_unseen : OthersAreUnseen
others_are_unseen operator caller another now asked book verdict apart registered managers is =
    verdict_unseen operator caller another now book apart registered asked verdict managers is
