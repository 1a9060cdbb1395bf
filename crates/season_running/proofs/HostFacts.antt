-- From a host's rows to the books that they stand for, and back.
use Rattle.std.proofs.Common.{◌≡◌, ◌∷◌, [], ℕ, List, Option, Some, None, refl, sym, ap, subst, ◌∙◌}
use Rattle.std.specs.Prelude.{Result, Ok, Err, IsOk}
use Rattle.std.specs.Option.{option_map, option_map_or}
use Rattle.fpl_base.specs.declared.kinds.Caller.{Caller}
use Rattle.rule_book.specs.ById.{at_id}
use Rattle.rule_book.specs.declared.player.Player.{Player}
use Rattle.season_book.specs.Book.{Book, EntryFacts, Facts, Last, caller_number, last_number}
use Rattle.season_book.specs.Doing.{IsRefused, IsShown}
use Rattle.season_book.specs.EntryViews.{entry_shown}
use Rattle.season_book.specs.Verdict.{IsRepeat, Outcome, judged, locked_at, number_refusal, pass, ruled, ruled_by, seen_in, shown_or_unknown, unseen, view_answer}
use Rattle.season_book.specs.declared.answer.Answer.{Answer}
use Rattle.season_book.specs.declared.answer.Answer.TheVariants as answer
use Rattle.season_book.specs.declared.command.Command.{Command}
use Rattle.season_book.specs.declared.command.Command.TheVariants as commands
use Rattle.season_book.specs.declared.made.Made.{Made}
use Rattle.season_book.specs.declared.made.Made.TheVariants as mades
use Rattle.season_book.specs.declared.request.Request.TheVariants as request
use Rattle.season_book.specs.declared.request.View.{View}
use Rattle.season_book.specs.declared.request.View.TheVariants as views
use Rattle.season_book.specs.declared.shown.Shown.{Shown}
use Rattle.season_book.specs.declared.shown.Shown.TheVariants as showns
use Rattle.season_entries.specs.Entries.{AreEntries}
use Rattle.season_running.specs.Accepting.{IsAccepted, IsNew, kept_last}
use Rattle.season_running.specs.Standing.{HostRows, Plays, Running, StandsIn, host_rows, number_at, passed, players_in}

-- a host whose season runs plays for the books that it stands for
plays_of : (operator : List ℕ) (running : Running) (lasts : List (ℕ × Last)) (book : Book) → StandsIn (host_rows operator (Some running) lasts) book → Plays running book
plays_of operator running lasts book stands = record { facts = stands.facts; entries = stands.entries; leagues = stands.leagues; cups = stands.cups }

pub stood_for : (host : HostRows) (operator : List ℕ) (o : Option Running) (lasts : List (ℕ × Last)) (running : Running) (book : Book)
    → host_rows operator o lasts ≡ host → o ≡ Some running → StandsIn host book → Plays running book
stood_for host operator o lasts running book view_is is stands =
    plays_of operator running lasts book (subst (λ p. StandsIn (host_rows operator p lasts) book) is (subst (λ h. StandsIn h book) (sym view_is) stands))

-- Views.

shows : (shown : Option Shown) → IsShown (shown_or_unknown shown) (shown_or_unknown shown)
shows None = refl
shows (Some shown) = refl

-- what an entry scored is shown as it is seen
pub gameweek_shown : (book : Book) (caller : Caller) (e g : ℕ) (facts : Facts) (reply : Answer) → book.facts ≡ Some facts
    → reply ≡ seen_in book caller (views.EntryGameweek e g) facts → IsShown (view_answer book caller (views.EntryGameweek e g)) reply
gameweek_shown book caller e g facts reply is same =
    subst (λ o. IsShown (option_map_or (seen_in book caller (views.EntryGameweek e g)) o (unseen book caller (views.EntryGameweek e g))) reply) (sym is)
    (subst (λ r. IsShown (seen_in book caller (views.EntryGameweek e g) facts) r) (sym same)
    (shows (option_map showns.EntryGameweek (entry_shown facts book.entries e g))))

-- a view that is shown in the season is the answer of the book
pub seen_answered : (book : Book) (caller : Caller) (view : View) (facts : Facts) (reply : Answer) → book.facts ≡ Some facts
    → IsShown (seen_in book caller view facts) reply → IsShown (view_answer book caller view) reply
seen_answered book caller view facts reply is shown =
    subst (λ o. IsShown (option_map_or (seen_in book caller view) o (unseen book caller view)) reply) (sym is) shown

-- Moments.

locked_entries : (now : ℕ) (facts : Option Facts) → players_in (option_map (locked_at now) facts) ≡ players_in facts
locked_entries now None = refl
locked_entries now (Some facts) = refl

-- when a moment was told the host stands for the same books with that moment's locks
pub passed_stands : (host : HostRows) (now : ℕ) (book : Book) → StandsIn host book → StandsIn (passed now host) (pass book now)
passed_stands host now book stands = record {
  facts = ap (option_map (locked_at now)) stands.facts;
  entries = subst (λ players. AreEntries players host.managers book.entries) (sym (locked_entries now host.facts)) stands.entries;
  leagues = stands.leagues;
  cups = stands.cups;
  lasts = stands.lasts;
}

-- Last commands.

module _ (host : HostRows) (lasts : List (ℕ × Last)) (is : lasts ≡ host.lasts) (book : Book) (stands : StandsIn host book) (caller : Caller) where
  pub fresh_in : (number : ℕ) (command : Command)
      → ((made : Made) → at_id lasts (caller_number caller) ≡ Some (record { number = number; command = command; made = made }) → ⊥)
      → (made : Made) → IsRepeat book caller number command made → ⊥
  fresh_in number command fresh =
      subst (λ (l : List (ℕ × Last)). (made : Made) → at_id l (caller_number caller) ≡ Some (record { number = number; command = command; made = made }) → ⊥) (is ∙ sym stands.lasts) fresh

  pub numbered_in : (last number : ℕ) → last ≡ number_at lasts caller → number_refusal last number ≡ None → number_refusal (last_number book caller) number ≡ None
  numbered_in last number same none =
      subst (λ n. number_refusal n number ≡ None) (same ∙ ap (λ l. number_at l caller) (is ∙ sym stands.lasts)) none

-- Before a season.

at_none : (operator : List ℕ) (book : Book) (caller : Caller) (now : ℕ) (command : Command)
    → ruled operator (record book { facts = None }) caller now command ≡ ruled_by (record book { facts = None }) (judged None now command)
at_none operator book caller now (commands.Season profile deadlines split clubs) = refl
at_none operator book caller now (commands.Deadline a b) = refl
at_none operator book caller now (commands.Player a b c d e) = refl
at_none operator book caller now (commands.Price a b) = refl
at_none operator book caller now (commands.Club a b) = refl
at_none operator book caller now (commands.Gone a b) = refl
at_none operator book caller now (commands.Fixture a b c d e) = refl
at_none operator book caller now (commands.Move a b c) = refl
at_none operator book caller now (commands.AmendFixture a b c) = refl
at_none operator book caller now (commands.AmendPlayer a b c) = refl
at_none operator book caller now (commands.Sheet a b c) = refl
at_none operator book caller now (commands.Line a b c) = refl
at_none operator book caller now (commands.Drop a b) = refl
at_none operator book caller now (commands.Finished a b) = refl
at_none operator book caller now (commands.Key a b) = refl
at_none operator book caller now (commands.Rekey a b c) = refl
at_none operator book caller now (commands.Squad a b c) = refl
at_none operator book caller now (commands.Transfers a) = refl
at_none operator book caller now (commands.Lineup a b c) = refl
at_none operator book caller now (commands.Chip a) = refl
at_none operator book caller now commands.CancelChip = refl
at_none operator book caller now (commands.League a b c d) = refl
at_none operator book caller now (commands.Join a b) = refl
at_none operator book caller now (commands.Draw a b) = refl
at_none operator book caller now (commands.Cup a b c) = refl

pub ruled_none : (operator : List ℕ) (book : Book) (caller : Caller) (now : ℕ) (command : Command) → book.facts ≡ None
    → ruled operator book caller now command ≡ ruled_by book (judged None now command)
ruled_none operator book caller now command is =
    subst (λ (b : Book). ruled operator b caller now command ≡ ruled_by b (judged None now command))
    (sym (ap (λ (f : Option Facts). record book { facts = f }) is)) (at_none operator book caller now command)

ok_by : (book : Book) (verdict : Result Facts Answer) → IsOk verdict → IsOk (ruled_by book verdict)
ok_by book (Ok facts) ok = refl
ok_by book (Err refused) ok = ok

refused_by : (book : Book) (verdict : Result Facts Answer) (reply : Answer) → IsRefused verdict reply → IsRefused (ruled_by book verdict) reply
refused_by book verdict (answer.Done number made) is = ap (ruled_by book) is
refused_by book verdict (answer.Shown shown) is = ap (ruled_by book) is
refused_by book verdict (answer.Rule rule) is = ap (ruled_by book) is
refused_by book verdict answer.Unknown is = ap (ruled_by book) is
refused_by book verdict answer.Keeper is = ap (ruled_by book) is
refused_by book verdict (answer.Damaged key) is = ap (ruled_by book) is
refused_by book verdict answer.Memory ok = ok_by book verdict ok

no_entries : (players others : List Player) (entries : List EntryFacts) → AreEntries players [] entries → AreEntries others [] entries
no_entries players others [] a = tt
no_entries players others (entry ∷ entries) a = absurd a

module _ (operator : List ℕ) (before : List (ℕ × Last)) (caller : Caller) (now number : ℕ) (command : Command) where
  -- a command that began a season was accepted
  begun_accepted : (running : Running) (after : List (ℕ × Last))
      → judged None now command ≡ Ok running.facts → IsNew running → after ≡ kept_last before caller number command mades.Nothing
      → IsAccepted (host_rows operator None before) (host_rows operator (Some running) after) caller now number command (Ok mades.Nothing)
  begun_accepted running after is none kept = λ book stands.
      let outcome : Outcome = record { made = mades.Nothing; book = record book { facts = Some running.facts } } in (
        outcome,
        ruled_none operator book caller now command stands.facts ∙ ap (ruled_by book) is,
        refl,
        record {
          facts = refl;
          entries = subst (λ l. AreEntries running.facts.players l book.entries) (sym none.managers) (no_entries [] running.facts.players book.entries stands.entries);
          leagues = stands.leagues ∙ sym none.leagues;
          cups = stands.cups ∙ sym none.cups;
          lasts = ap (λ l. kept_last l caller number command mades.Nothing) stands.lasts ∙ sym kept;
        },
      )

  pub begun_here : (old : HostRows) (o : Option Running) (running : Running) (after : List (ℕ × Last)) → host_rows operator o before ≡ old → o ≡ None
      → (judged None now command ≡ Ok running.facts) × IsNew running × (after ≡ kept_last before caller number command mades.Nothing)
      → IsAccepted old (host_rows operator (Some running) after) caller now number command (Ok mades.Nothing)
  begun_here old o running after view_is none begun =
      let new = host_rows operator (Some running) after in
      subst (λ h. IsAccepted h new caller now number command (Ok mades.Nothing)) view_is
      (subst (λ p. IsAccepted (host_rows operator p before) new caller now number command (Ok mades.Nothing)) (sym none)
      (begun_accepted running after begun.0 begun.1 begun.2))

  refused_none : (reply : Answer) → IsRefused (judged None now command) reply
      → (book : Book) → StandsIn (host_rows operator None before) book → IsRefused (ruled operator book caller now command) reply
  refused_none reply refused book stands =
      subst (λ r. IsRefused r reply) (sym (ruled_none operator book caller now command stands.facts)) (refused_by book (judged None now command) reply refused)

  pub refused_here : (old : HostRows) (o : Option Running) (after : List (ℕ × Last)) (reply : Answer) → host_rows operator o before ≡ old → o ≡ None
      → (after ≡ before) × IsRefused (judged None now command) reply
      → IsAccepted old (host_rows operator o after) caller now number command (Err reply)
  refused_here old o after reply view_is none refused = (
    ap (λ l. host_rows operator o l) refused.0 ∙ view_is,
    subst (λ h. (book : Book) → StandsIn h book → IsRefused (ruled h.operator book caller now command) reply) view_is
        (subst (λ p. (book : Book) → StandsIn (host_rows operator p before) book → IsRefused (ruled operator book caller now command) reply) (sym none)
        (refused_none reply refused.1)),
  )
