-- Reads that are counted along sessions and connections.
use Rattle.std.proofs.Common.{◌≡◌, ℕ, suc, List, [], ◌∷◌, ◌++◌, Option, refl, sym, subst}
use Rattle.std.specs.Prelude.{Ok, Err, false}
use Rattle.fpl_base.specs.Keeping.{Map}
use Rattle.fpl_base.specs.Doors.{GivesBack, Opens}
use Rattle.fpl_http.specs.Stream.{Request as Message}
use Rattle.fpl_http.specs.Replies.{Speaks}
use Rattle.fpl_http.specs.Sessions.{SessionOf}
use Rattle.fpl_http.specs.declared.ending.Ending.{Ending}
use Rattle.fpl_http.proofs.RunLemmas.{run_then}
use Rattle.season_keeping.specs.Opening.{Opens as OpensHost}
use Rattle.season_running.specs.Standing.{HostRows}
use Rattle.request_handler.specs.Answered.{SessionsAnswer}
use Rattle.request_handler.specs.Looks.{Counted, CountsLooks, ReadFew, RunsReadFew}
use Rattle.fpl_run.specs.Reading.{CountFew, CountOn, CountOne, CountsFrom}
use Rattle.fpl_run.specs.Serve.{DoorState, HearOn, in_turn}

module _ (K : Type 0) where
  -- ---- from the host that was opened

  pub few_from : (messages : List Message) (first last : Counted K) → first.kept.host.stale ≡ false → ReadFew messages first last
      → CountFew first.kept.host.rows messages first.kept.moments last.kept.moments first.reads last.reads
  few_from messages first last fresh counts = record {
    told = counts.told;
    tells = counts.tells;
    few = λ book more stands looks none. (counts.few book more fresh stands looks none).reads;
  }

  pub counts_from : (tells : K → Type 0) (holds passes : K → Map → Type 0) (old : K) (first last : Counted K) (key : List ℕ) (counts : HostRows → Type 0)
      → OpensHost tells holds passes old first.kept.keeper first.kept.host → first.kept.host.rows.operator ≡ key → (tells last.kept.keeper → tells first.kept.keeper)
      → counts first.kept.host.rows → CountsFrom tells holds passes old last.kept.keeper key counts
  counts_from tells holds passes old first last key counts opens operator told counted = record {
    rows = first.kept.host.rows;
    start = first.kept.keeper;
    operator = operator;
    loaded = opens.loaded;
    stand = λ tell book keepable held. (opens.backs (told tell) book keepable held).stands opens.fresh;
    counted = counted;
  }

  -- ---- one connection

  pub one_counted : SessionsAnswer (CountsLooks {K = K}) → (first last : Counted K) (before middle after : DoorState) (left now fresh taken : Option (List ℕ)) (read written : ℕ) (ending : Ending)
      → Opens before.coming middle.coming left fresh → middle.given_back ≡ before.given_back
      → after.coming ≡ middle.coming → GivesBack middle.given_back after.given_back (record { left = now; taken = taken; read_faults = read; write_faults = written })
      → SessionOf (Speaks CountsLooks) left now first last fresh taken ending → CountOne before after (Ok ending) first last
  one_counted answer first last before middle after left now fresh taken read written ending opens back coming gives session =
      let told = answer left now first last fresh taken ending session in (
        told.messages,
        record {
          left = left;
          fresh = fresh;
          back = record { left = now; taken = taken; read_faults = read; write_faults = written };
          opens = subst (λ more. Opens before.coming more left fresh) (sym coming) opens;
          gives = subst (λ all. GivesBack all after.given_back (record { left = now; taken = taken; read_faults = read; write_faults = written })) back gives;
          heard = (told.got, told.taken, told.leads);
        },
        told.texts,
        told.run,
      )

  -- ---- one after another

  abbrev step : Counted K → Message → List ℕ → Counted K → Type 0
  step = Speaks CountsLooks

  none_on : (count : ℕ) (before after : DoorState) (old new : Counted K) → after.coming ≡ before.coming → after.given_back ≡ before.given_back → new ≡ old → CountOn count before after old new
  none_on count before after old new coming back same = ([], (coming, back), [], same)

  one_on : (count : ℕ) (before between after : DoorState) (old mid new : Counted K) (ending : Ending) → CountOne before between (Ok ending) old mid → CountOn count between after mid new
      → CountOn (suc count) before after old new
  one_on count before between after old mid new ending one on =
      (one.0 ∷ on.0, (between, one.1, on.1), one.2 ++ on.2, run_then step old mid new one.0 (in_turn on.0) one.2 on.2 one.3 on.3)

  -- some of the connections were served, and so many are left: whatever these count is counted behind those
  pub record Counting (count whole : ℕ) (first last : Counted K) (before between : DoorState) : Type 0 where
    pub on : (after : DoorState) (new : Counted K) → CountOn count between after last new → CountOn whole before after first new

  pub counting_more : (left count whole : ℕ) (first mid last : Counted K) (before between after : DoorState) (ending : Ending) → left ≡ suc count
      → Counting left whole first mid before between → CountOne between after (Ok ending) mid last → Counting count whole first last before after
  counting_more left count whole first mid last before between after ending is counting one =
      let here = subst (λ n. Counting n whole first mid before between) is counting in
      record { on = λ final new rest. here.on final new (one_on count between after final mid last new ending one rest) }

  -- no more were
  pub counting_end : (count whole : ℕ) (first last : Counted K) (before after : DoorState) → Counting count whole first last before after → CountOn whole before after first last
  counting_end count whole first last before after counting = counting.on after last (none_on count after after last last refl refl refl)

  pub counting_stop : (left count whole : ℕ) (first mid last : Counted K) (before between after : DoorState) (ending : Ending) → left ≡ suc count
      → Counting left whole first mid before between → CountOne between after (Ok ending) mid last → CountOn whole before after first last
  counting_stop left count whole first mid last before between after ending is counting one =
      counting_end count whole first last before after (counting_more left count whole first mid last before between after ending is counting one)

  pub counting_fail : (count whole : ℕ) (first mid last : Counted K) (before between after : DoorState) → Counting count whole first mid before between
      → CountOne between after (Err (record {})) mid last → CountOn whole before after first last
  counting_fail count whole first mid last before between after counting (coming, back, same) = counting.on after last (none_on count between after mid last coming back same)

  -- what the messages of all count
  pub heard_few : RunsReadFew K → (count : ℕ) (before after : DoorState) (first last : Counted K) → first.kept.host.stale ≡ false → CountOn count before after first last
      → (heard : List (List Message)) × HearOn count before after heard
      × CountFew first.kept.host.rows (in_turn heard) first.kept.moments last.kept.moments first.reads last.reads
  heard_few few count before after first last fresh (heard, hears, texts, run) =
      (heard, hears, few_from (in_turn heard) first last fresh (few first last (in_turn heard) texts run))
