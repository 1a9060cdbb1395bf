-- Lines that are sent one after another.
use Rattle.std.proofs.Common.{◌≡◌, ◌+◌, ◌<◌, ◌≤◌, drop, get_or, ◌⊎◌, ◌∙◌, true, false, ℕ, List, [], ◌∷◌, length, Option, inl, inr, ap, arith, refl, sym, subst}
use Rattle.std.specs.Prelude.{Ok, Err, Result}
use Rattle.std.proofs.lemmas.List.{drop_more}
use Rattle.fpl_base.specs.Causes.{Rose}
use Rattle.fpl_base.specs.Keeping.{Map}
use Rattle.fpl_base.specs.declared.kinds.Caller.TheVariants as caller
use Rattle.match_events.specs.Sheets.{AreChanged, Sheet}
use Rattle.season_book.specs.Book.{Book, Last, last_number}
use Rattle.season_book.specs.declared.answer.Answer.{Answer}
use Rattle.season_book.specs.declared.answer.Answer.TheVariants as answer
use Rattle.season_book.specs.declared.command.Command.{Command}
use Rattle.season_book.specs.declared.request.Request.TheVariants as request
use Rattle.season_running.specs.Standing.{HostRows, StandsIn, number_at}
use Rattle.request_handler.specs.Replying.{Served}
use Rattle.request_handler.specs.Kept.{Kept, Leads}
use Rattle.request_handler.proofs.KeptLemmas.{leads_on, leads_same}
use Rattle.local_requests.proofs.AskingLemmas.{leads_then}
use Rattle.local_requests.specs.Asking.{IsHeard}
use Rattle.local_requests.specs.Printing.{EndsBy}
use Rattle.fpl_events.specs.Sending.{IsSent, SendsAll, SendsChanged, SendsOn, is_done, line_command, next_number, sent_of}

-- a count that rose later rose since
pub rose_since : (before between now : ℕ) → before ≤ between → Rose between now → Rose before now
rose_since before between now later rose = omega (arith, later, rose)

-- a count rose from what is the same
pub rose_from : {X : Type 0} (faults : X → ℕ) (here there : X) (now : ℕ) → here ≡ there → Rose (faults here) now → Rose (faults there) now
rose_from {X = X} faults here there now same rose = subst (λ (x : X). Rose (faults x) now) same rose

-- what stands at a place, and what stands behind it
pub next_of : {X : Type 0} (xs : List X) (i : ℕ) (x : X) → i < length xs → x ≡ get_or xs i x → drop i xs ≡ x ∷ drop (i + 1) xs
next_of xs i x here is = drop_more xs i x here ∙ ap (λ y. y ∷ drop (i + 1) xs) (sym is)

-- the operator's last number is the same by the rows and by the book
last_stood : (host : HostRows) (book : Book) → StandsIn host book → number_at host.lasts caller.Operator ≡ last_number book caller.Operator
last_stood host book stands = sym (ap (λ (lasts : List (ℕ × Last)). number_at lasts caller.Operator) stands.lasts)

-- the first line of them was sent, or ended the run
first_sent : (fixture : ℕ) (sheet : Sheet) (player : ℕ) (rest players : List ℕ) (before after : Option (List ℕ)) (gave : Result (Unit {0}) ℕ) (s m b : Served) → rest ≡ player ∷ players
    → IsSent fixture sheet player before before (Ok tt) s m → SendsOn fixture sheet players before after gave m b → SendsOn fixture sheet rest before after gave s b
first_sent fixture sheet player rest players before after gave s m b is sent more =
    subst (λ (xs : List ℕ). SendsOn fixture sheet xs before after gave s b) (sym is) (inr (m, sent, more))

first_ended : (fixture : ℕ) (sheet : Sheet) (player : ℕ) (rest players : List ℕ) (before after : Option (List ℕ)) (status : ℕ) (s b : Served) → rest ≡ player ∷ players
    → IsSent fixture sheet player before after (Err status) s b → SendsOn fixture sheet rest before after (Err status) s b
first_ended fixture sheet player rest players before after status s b is sent =
    subst (λ (xs : List ℕ). SendsOn fixture sheet xs before after (Err status) s b) (sym is) (inl (status, refl, sent))

-- some lines were sent, and these players are left: whatever becomes of theirs is the end of all
abbrev pub IsSending : ℕ → Sheet → List ℕ → List ℕ → Option (List ℕ) → Served → Served → Type 0
IsSending fixture sheet all rest before old mid =
    (after : Option (List ℕ)) (gave : Result (Unit {0}) ℕ) (new : Served) → SendsOn fixture sheet rest before after gave mid new → SendsOn fixture sheet all before after gave old new

module _ (K : Type 0) (tells serves : K → Type 0) (holds passes : K → Map → Type 0) where
  -- the next number by the rows is that of each book for which the host stood
  pub heard_next : (number : ℕ) (command : Command) (told : Answer) (first last : Kept K) → number ≡ next_number (number_at first.host.rows.lasts caller.Operator) → first.host.stale ≡ false
      → Leads tells serves holds passes first last (λ served behind. IsHeard served caller.Operator (request.Command number command) told behind)
      → Leads tells serves holds passes first last (λ served behind. IsHeard served caller.Operator (request.Command (next_number (last_number served.host.book caller.Operator)) command) told behind)
  heard_next number command told first last is fresh leads = record {
    by_rows = λ served stands. let a = leads.by_rows served stands in (a.0, a.1, by_book served a.0 (stands.rows fresh) a.2);
    by_stops = λ tell served stands. let a = leads.by_stops tell served stands in (a.0, a.1, by_book served a.0 (stands.by_rows.rows fresh) a.2);
    by_records = λ tell serve served stands. let a = leads.by_records tell serve served stands in (a.0, a.1, by_book served a.0 (stands.backs.stands fresh) a.2);
    reread = leads.reread;
    told = leads.told;
    served = leads.served;
  }
    where
      by_book : (served behind : Served) → StandsIn first.host.rows served.host.book → IsHeard served caller.Operator (request.Command number command) told behind
          → IsHeard served caller.Operator (request.Command (next_number (last_number served.host.book caller.Operator)) command) told behind
      by_book served behind stands heard =
          subst (λ (n : ℕ). IsHeard served caller.Operator (request.Command n command) told behind) (is ∙ ap next_number (last_stood first.host.rows served.host.book stands)) heard

  -- ---- one line

  abbrev pub IsHeardOf : Command → Answer → Served → Served → Type 0
  IsHeardOf command told served behind =
      IsHeard served caller.Operator (request.Command (next_number (last_number served.host.book caller.Operator)) command) told behind

  pub line_done : (fixture : ℕ) (sheet : Sheet) (player : ℕ) (command : Command) (told : Answer) (before : Option (List ℕ)) (first last : Kept K) → command ≡ line_command fixture sheet player → is_done told ≡ true
      → Leads tells serves holds passes first last (IsHeardOf command told)
      → Leads tells serves holds passes first last (IsSent fixture sheet player before before (Ok tt))
  line_done fixture sheet player command told before first last is done =
      leads_on K tells serves holds passes first last (IsHeardOf command told) (IsSent fixture sheet player before before (Ok tt))
      (λ s b heard. (told, subst (λ (c : Command). IsHeardOf c told s b) is heard, inl (done, refl, refl)))

  pub line_ends : (fixture : ℕ) (sheet : Sheet) (player : ℕ) (command : Command) (told : Answer) (before after : Option (List ℕ)) (status : ℕ) (first last : Kept K)
      → command ≡ line_command fixture sheet player → is_done told ≡ false → EndsBy told status before after
      → Leads tells serves holds passes first last (IsHeardOf command told)
      → Leads tells serves holds passes first last (IsSent fixture sheet player before after (Err status))
  line_ends fixture sheet player command told before after status first last is refused ends =
      leads_on K tells serves holds passes first last (IsHeardOf command told) (IsSent fixture sheet player before after (Err status))
      (λ s b heard. (told, subst (λ (c : Command). IsHeardOf c told s b) is heard, inr (refused, (status, refl, ends))))

  -- ---- lines one after another

  pub sending_start : (fixture : ℕ) (sheet : Sheet) (all rest : List ℕ) (before : Option (List ℕ)) (kept : Kept K) → rest ≡ all
      → Leads tells serves holds passes kept kept (IsSending fixture sheet all rest before)
  sending_start fixture sheet all rest before kept is =
      leads_same K tells serves holds passes kept (IsSending fixture sheet all rest before)
      (λ served after gave new on. subst (λ (xs : List ℕ). SendsOn fixture sheet xs before after gave served new) is on)

  pub sending_more : (fixture : ℕ) (sheet : Sheet) (all rest players : List ℕ) (player : ℕ) (before here there : Option (List ℕ)) (first mid last : Kept K)
      → rest ≡ player ∷ players → here ≡ before → there ≡ before
      → Leads tells serves holds passes first mid (IsSending fixture sheet all rest before)
      → Leads tells serves holds passes mid last (IsSent fixture sheet player here there (Ok tt))
      → Leads tells serves holds passes first last (IsSending fixture sheet all players before)
  sending_more fixture sheet all rest players player before here there first mid last is same still =
      leads_then K tells serves holds passes first mid last
      (IsSending fixture sheet all rest before) (IsSent fixture sheet player here there (Ok tt)) (IsSending fixture sheet all players before)
      (λ s m b on sent after gave new more. on after gave new (first_sent fixture sheet player rest players before after gave m b new is
      (subst (λ (x : Option (List ℕ)). IsSent fixture sheet player x before (Ok tt) m b) same (subst (λ (x : Option (List ℕ)). IsSent fixture sheet player here x (Ok tt) m b) still sent)) more))

  pub sending_stop : (fixture : ℕ) (sheet : Sheet) (all rest players : List ℕ) (player : ℕ) (before here after : Option (List ℕ)) (status : ℕ) (first mid last : Kept K)
      → rest ≡ player ∷ players → here ≡ before
      → Leads tells serves holds passes first mid (IsSending fixture sheet all rest before)
      → Leads tells serves holds passes mid last (IsSent fixture sheet player here after (Err status))
      → Leads tells serves holds passes first last (SendsOn fixture sheet all before after (Err status))
  sending_stop fixture sheet all rest players player before here after status first mid last is same =
      leads_then K tells serves holds passes first mid last
      (IsSending fixture sheet all rest before) (IsSent fixture sheet player here after (Err status)) (SendsOn fixture sheet all before after (Err status))
      (λ s m b on sent. on after (Err status) b (first_ended fixture sheet player rest players before after status m b is
      (subst (λ (x : Option (List ℕ)). IsSent fixture sheet player x after (Err status) m b) same sent)))

  pub sending_end : (fixture : ℕ) (sheet : Sheet) (all rest : List ℕ) (before after : Option (List ℕ)) (first last : Kept K) → rest ≡ [] → after ≡ before
      → Leads tells serves holds passes first last (IsSending fixture sheet all rest before)
      → Leads tells serves holds passes first last (SendsOn fixture sheet all before after (Ok tt))
  sending_end fixture sheet all rest before after first last is same =
      leads_on K tells serves holds passes first last (IsSending fixture sheet all rest before) (SendsOn fixture sheet all before after (Ok tt))
      (λ s b on. on after (Ok tt) b (subst (λ (xs : List ℕ). SendsOn fixture sheet xs before after (Ok tt) b b) (sym is) (refl, same, refl)))

  -- ---- all that changed

  pub changed_lacks : (fixture : ℕ) (sheet behind : Sheet) (before : Option (List ℕ)) (kept : Kept K)
      → Leads tells serves holds passes kept kept (SendsChanged fixture sheet behind before before (Err 6))
  changed_lacks fixture sheet behind before kept =
      leads_same K tells serves holds passes kept (SendsChanged fixture sheet behind before before (Err 6)) (λ served. inl (refl, refl, refl))

  pub all_sent : (fixture : ℕ) (sheet : Sheet) (players : List ℕ) (before after : Option (List ℕ)) (asked : Result (Unit {0}) ℕ) (gave : Result ℕ ℕ) (first last : Kept K) → gave ≡ sent_of (length players) asked
      → Leads tells serves holds passes first last (SendsOn fixture sheet players before after asked)
      → Leads tells serves holds passes first last (SendsAll fixture sheet players before after gave)
  all_sent fixture sheet players before after asked gave first last is =
      leads_on K tells serves holds passes first last (SendsOn fixture sheet players before after asked) (SendsAll fixture sheet players before after gave) (λ s b on. (asked, on, is))

  pub changed_sent : (fixture : ℕ) (sheet behind : Sheet) (listed players : List ℕ) (before after : Option (List ℕ)) (gave : Result ℕ ℕ) (first last : Kept K)
      → players ≡ listed → AreChanged sheet.minutes sheet.told sheet.events listed → behind ≡ record sheet { told = sheet.events }
      → Leads tells serves holds passes first last (SendsAll fixture behind players before after gave)
      → Leads tells serves holds passes first last (SendsChanged fixture sheet behind before after gave)
  changed_sent fixture sheet behind listed players before after gave first last same changed told =
      leads_on K tells serves holds passes first last (SendsAll fixture behind players before after gave) (SendsChanged fixture sheet behind before after gave)
      (λ s b all. inr (players, subst (λ (ps : List ℕ). AreChanged sheet.minutes sheet.told sheet.events ps) (sym same) changed, told, all))
