-- What is told of a league behind its rows.
use Rattle.std.proofs.Common.{◌≡◌, ◌≢◌, ◌∙◌, ◌⊎◌, ℕ, ℤ, Bool, true, false, true≢false, List, [], ◌∷◌, ◌++◌, length, Option, Some, None, inl, inr, ap, refl, sym, subst}
use Rattle.std.specs.Result.{OnOk, is_err}
use Rattle.std.specs.Prelude.{MatchBool, MatchOption, Ok, Err, Result}
use Rattle.fpl_base.specs.Keeping.{Map}
use Rattle.fpl_base.specs.declared.kinds.Caller.TheVariants as caller
use Rattle.season_book.specs.declared.answer.Answer.{Answer}
use Rattle.season_book.specs.declared.request.Request.{Request}
use Rattle.season_book.specs.declared.request.Request.TheVariants as request
use Rattle.season_book.specs.declared.request.View.TheVariants as view
use Rattle.request_handler.specs.Replying.{Served}
use Rattle.request_handler.specs.Kept.{Kept, Leads}
use Rattle.request_handler.proofs.KeptLemmas.{leads_on, leads_same}
use Rattle.local_requests.proofs.AskingLemmas.{leads_then}
use Rattle.local_requests.specs.Asking.{IsHeard}
use Rattle.local_requests.specs.Printing.{EndsBy, PrintsOne}
use Rattle.draft_league.specs.Leagues.{League, founded, is_over}
use Rattle.fpl_drafting.specs.Texts.{outcomes_text, picks_text}
use Rattle.fpl_drafting.specs.Totals.{IsTableText, asked_of_all}
use Rattle.fpl_drafting.specs.declared.row.DraftRow.{DraftRow}
use Rattle.fpl_drafting.specs.declared.totals.Told.{Told}
use Rattle.fpl_drafting.specs.Drafting.{IsDrafted, IsScored, IsTabled, IsTabledOver, IsToldOf, PointsOn, locked_in, points_told, told_of}
use Rattle.fpl_drafting.specs.Steps.{StepsOn}

-- what was given went well
pub went_well : {X E P : Type 0} (gave : Result X E) → is_err gave ≡ false → OnOk gave P → P
went_well (Ok x) none on = on
went_well (Err e) none on = absurd (true≢false none)

-- some players' gameweeks were asked, and these are left: whatever becomes of these is the end of all
abbrev pub IsAsked : List (ℕ × ℕ) → List (ℕ × ℕ) → List Told → Option (List ℕ) → Served → Served → Type 0
IsAsked all left so_far before old mid =
    (after : Option (List ℕ)) (gave : Result (List Told) ℕ) (new : Served) → PointsOn left so_far before after gave mid new → PointsOn all [] before after gave old new

abbrev ended : ℕ → Result (List Told) ℕ
ended status = Err status

abbrev given : List Told → Result (List Told) ℕ
given told = Ok told

-- what becomes of the players that are left, by the points that are told for the first of them
abbrev Shows : ℕ × ℕ → List (ℕ × ℕ) → List Told → Answer → Option (List ℕ) → Option (List ℕ) → Result (List Told) ℕ → Served → Served → Option ℤ → Type 0
Shows one more so_far told before after gave mid new o =
    MatchOption o ((status : ℕ) × (gave ≡ Err status) × EndsBy told status before after × (new ≡ mid))
    (λ points. ((gave ≡ Err 6) × (after ≡ before) × (new ≡ mid)) ⊎ PointsOn more (so_far ++ told_of one points ∷ []) before after gave mid new)

goes_on : (left more : List (ℕ × ℕ)) (one : ℕ × ℕ) (so_far : List Told) (told : Answer) (points : ℤ) (before after : Option (List ℕ)) (gave : Result (List Told) ℕ) (old mid new : Served)
    → left ≡ one ∷ more → points_told told ≡ Some points → IsHeard old caller.Operator (request.View (view.PlayerGameweek one.0 one.1)) told mid
    → ((gave ≡ Err 6) × (after ≡ before) × (new ≡ mid)) ⊎ PointsOn more (so_far ++ told_of one points ∷ []) before after gave mid new
    → PointsOn left so_far before after gave old new
goes_on left more one so_far told points before after gave old mid new is shows heard rest =
    subst (λ (xs : List (ℕ × ℕ)). PointsOn xs so_far before after gave old new) (sym is)
    (told, mid, heard, subst (λ (o : Option ℤ). Shows one more so_far told before after gave mid new o) (sym shows) rest)

ends : (left more : List (ℕ × ℕ)) (one : ℕ × ℕ) (so_far : List Told) (told : Answer) (status : ℕ) (before after : Option (List ℕ)) (old mid : Served)
    → left ≡ one ∷ more → points_told told ≡ None → IsHeard old caller.Operator (request.View (view.PlayerGameweek one.0 one.1)) told mid → EndsBy told status before after
    → PointsOn left so_far before after (Err status) old mid
ends left more one so_far told status before after old mid is none heard by =
    subst (λ (xs : List (ℕ × ℕ)). PointsOn xs so_far before after (ended status) old mid) (sym is)
    (told, mid, heard, subst (λ (o : Option ℤ). Shows one more so_far told before after (ended status) mid mid o) (sym none) (status, refl, by, refl))

-- how the command goes on behind what was told of the season
abbrev Tables : League → Answer → Option (List ℕ) → Option (List ℕ) → ℕ → Served → Served → Option ℕ → Type 0
Tables league told before after status mid new o =
    MatchOption o ((new ≡ mid) × EndsBy told status before after) (λ locked. IsTabledOver league locked before after status mid new)

-- what follows the outcomes
abbrev Follows : League → Option (List ℕ) → Option (List ℕ) → ℕ → Served → Served → Bool → Type 0
Follows league between after status old new b =
    MatchBool b (IsTabled league between after status old new) (PrintsOne (λ text. text ≡ picks_text (length league.drafted)) 0 status between after × (new ≡ old))

module _ (K : Type 0) (tells serves : K → Type 0) (holds passes : K → Map → Type 0) where
  -- ---- points asked one after another

  module _ (all : List (ℕ × ℕ)) (before : Option (List ℕ)) where
    pub asked_start : (left : List (ℕ × ℕ)) (so_far : List Told) (kept : Kept K) → left ≡ all → so_far ≡ [] → Leads tells serves holds passes kept kept (IsAsked all left so_far before)
    asked_start left so_far kept is none =
        leads_same K tells serves holds passes kept (IsAsked all left so_far before)
        (λ served after gave new on. subst (λ (xs : List (ℕ × ℕ)). PointsOn xs [] before after gave served new) is
        (subst (λ (told : List Told). PointsOn left told before after gave served new) none on))

    module _ (left more : List (ℕ × ℕ)) (one : ℕ × ℕ) (so_far : List Told) (asked : Request) (told : Answer) (first mid last : Kept K)
        (is : left ≡ one ∷ more) (asks : asked ≡ request.View (view.PlayerGameweek one.0 one.1))
        (here : Leads tells serves holds passes first mid (IsAsked all left so_far before))
        (heard : Leads tells serves holds passes mid last (λ served behind. IsHeard served caller.Operator asked told behind)) where
      hears : (s b : Served) → IsHeard s caller.Operator asked told b → IsHeard s caller.Operator (request.View (view.PlayerGameweek one.0 one.1)) told b
      hears s b = subst (λ (r : Request). IsHeard s caller.Operator r told b) asks

      pub asked_more : (points : ℤ) (kept : List Told) → points_told told ≡ Some points → kept ≡ so_far ++ told_of one points ∷ []
          → Leads tells serves holds passes first last (IsAsked all more kept before)
      asked_more points kept shows kept_is =
          leads_then K tells serves holds passes first mid last (IsAsked all left so_far before) (λ served behind. IsHeard served caller.Operator asked told behind) (IsAsked all more kept before)
          (λ s m b on hear after gave new rest. on after gave new
          (goes_on left more one so_far told points before after gave m b new is shows (hears m b hear)
          (inr (subst (λ (ts : List Told). PointsOn more ts before after gave b new) kept_is rest))))
          here heard

      pub asked_out : (points : ℤ) (after : Option (List ℕ)) → points_told told ≡ Some points → after ≡ before → Leads tells serves holds passes first last (PointsOn all [] before after (Err 6))
      asked_out points after shows same =
          leads_then K tells serves holds passes first mid last (IsAsked all left so_far before) (λ served behind. IsHeard served caller.Operator asked told behind) (PointsOn all [] before after (Err 6))
          (λ s m b on hear. on after (Err 6) b (goes_on left more one so_far told points before after (Err 6) m b b is shows (hears m b hear) (inl (refl, same, refl))))
          here heard

      pub asked_stop : (status : ℕ) (from after : Option (List ℕ)) → points_told told ≡ None → from ≡ before → EndsBy told status from after
          → Leads tells serves holds passes first last (PointsOn all [] before after (Err status))
      asked_stop status from after none same by =
          leads_then K tells serves holds passes first mid last (IsAsked all left so_far before) (λ served behind. IsHeard served caller.Operator asked told behind) (PointsOn all [] before after (Err status))
          (λ s m b on hear. on after (Err status) b
          (ends left more one so_far told status before after m b is none (hears m b hear) (subst (λ (x : Option (List ℕ)). EndsBy told status x after) same by)))
          here heard

    pub asked_end : (left : List (ℕ × ℕ)) (so_far : List Told) (after : Option (List ℕ)) (first last : Kept K) → left ≡ [] → after ≡ before
        → Leads tells serves holds passes first last (IsAsked all left so_far before)
        → Leads tells serves holds passes first last (PointsOn all [] before after (Ok so_far))
    asked_end left so_far after first last is same =
        leads_on K tells serves holds passes first last (IsAsked all left so_far before) (PointsOn all [] before after (Ok so_far))
        (λ s b on. on after (Ok so_far) b (subst (λ (xs : List (ℕ × ℕ)). PointsOn xs so_far before after (given so_far) b b) (sym is) (refl, same, refl)))

  -- ---- the table

  pub scored_stop : (league : League) (locked status : ℕ) (all : List (ℕ × ℕ)) (before after : Option (List ℕ)) (first last : Kept K)
      → Leads tells serves holds passes first last (PointsOn all [] before after (Err status))
      → Leads tells serves holds passes first last (IsScored league locked all before after status)
  scored_stop league locked status all before after first last =
      leads_on K tells serves holds passes first last (PointsOn all [] before after (Err status)) (IsScored league locked all before after status) (λ s b on. inl on)

  pub scored_end : (league : League) (locked status : ℕ) (all : List (ℕ × ℕ)) (points : List Told) (before between after : Option (List ℕ)) (first last : Kept K) → between ≡ before
      → Leads tells serves holds passes first last (PointsOn all [] before between (Ok points)) → PrintsOne (IsTableText league locked points) 0 status between after
      → Leads tells serves holds passes first last (IsScored league locked all before after status)
  scored_end league locked status all points before between after first last same asked table =
      leads_on K tells serves holds passes first last (PointsOn all [] before between (Ok points)) (IsScored league locked all before after status)
      (λ s b on. inr (
        points,
        subst (λ (x : Option (List ℕ)). PointsOn all [] before x (given points) s b) same on,
        subst (λ (x : Option (List ℕ)). PrintsOne (IsTableText league locked points) 0 status x after) same table,
      )) asked

  pub tabled_lacks : (league : League) (locked : ℕ) (before : Option (List ℕ)) (kept : Kept K) → Leads tells serves holds passes kept kept (IsTabledOver league locked before before 6)
  tabled_lacks league locked before kept =
      leads_same K tells serves holds passes kept (IsTabledOver league locked before before 6) (λ served. inl (refl, refl, refl))

  pub tabled_scored : (league : League) (locked status : ℕ) (all : List (ℕ × ℕ)) (before after : Option (List ℕ)) (first last : Kept K) → all ≡ asked_of_all league locked
      → Leads tells serves holds passes first last (IsScored league locked all before after status)
      → Leads tells serves holds passes first last (IsTabledOver league locked before after status)
  tabled_scored league locked status all before after first last is =
      leads_on K tells serves holds passes first last (IsScored league locked all before after status) (IsTabledOver league locked before after status)
      (λ s b on. inr (subst (λ (xs : List (ℕ × ℕ)). IsScored league locked xs before after status s b) is on))

  pub season_shown : (league : League) (told : Answer) (locked status : ℕ) (before after : Option (List ℕ)) (first mid last : Kept K) → locked_in told ≡ Some locked
      → Leads tells serves holds passes first mid (λ served behind. IsHeard served caller.Operator (request.View view.Season) told behind)
      → Leads tells serves holds passes mid last (IsTabledOver league locked before after status)
      → Leads tells serves holds passes first last (IsTabled league before after status)
  season_shown league told locked status before after first mid last shows =
      leads_then K tells serves holds passes first mid last (λ served behind. IsHeard served caller.Operator (request.View view.Season) told behind)
      (IsTabledOver league locked before after status) (IsTabled league before after status)
      (λ s m b heard tabled. (told, m, heard, subst (λ (o : Option ℕ). Tables league told before after status m b o) (sym shows) tabled))

  pub season_not : (league : League) (told : Answer) (status : ℕ) (before after : Option (List ℕ)) (first last : Kept K) → locked_in told ≡ None → EndsBy told status before after
      → Leads tells serves holds passes first last (λ served behind. IsHeard served caller.Operator (request.View view.Season) told behind)
      → Leads tells serves holds passes first last (IsTabled league before after status)
  season_not league told status before after first last none by =
      leads_on K tells serves holds passes first last (λ served behind. IsHeard served caller.Operator (request.View view.Season) told behind) (IsTabled league before after status)
      (λ s b heard. (told, b, heard, subst (λ (o : Option ℕ). Tables league told before after status b b o) (sym none) (refl, by)))

  -- ---- the outcomes, and what follows

  pub told_stops : (league : League) (status : ℕ) (before after : Option (List ℕ)) (kept : Kept K) → PrintsOne (λ text. text ≡ outcomes_text league.past) 0 status before after → status ≢ 0
      → Leads tells serves holds passes kept kept (IsToldOf league before after status)
  told_stops league status before after kept printed failed =
      leads_same K tells serves holds passes kept (IsToldOf league before after status) (λ served. inl (printed, failed, refl))

  pub told_opens : (league : League) (done status : ℕ) (before between after : Option (List ℕ)) (kept : Kept K) → PrintsOne (λ text. text ≡ outcomes_text league.past) 0 done before between → done ≡ 0
      → is_over league ≡ false → PrintsOne (λ text. text ≡ picks_text (length league.drafted)) 0 status between after
      → Leads tells serves holds passes kept kept (IsToldOf league before after status)
  told_opens league done status before between after kept printed is short said =
      leads_same K tells serves holds passes kept (IsToldOf league before after status)
      (λ served. inr (
        between,
        subst (λ (n : ℕ). PrintsOne (λ text. text ≡ outcomes_text league.past) 0 n before between) is printed,
        subst (λ (b : Bool). Follows league between after status served served b) (sym short) (said, refl),
      ))

  pub told_tables : (league : League) (done status : ℕ) (before between after : Option (List ℕ)) (first last : Kept K) → PrintsOne (λ text. text ≡ outcomes_text league.past) 0 done before between → done ≡ 0
      → is_over league ≡ true → Leads tells serves holds passes first last (IsTabled league between after status)
      → Leads tells serves holds passes first last (IsToldOf league before after status)
  told_tables league done status before between after first last printed is over =
      leads_on K tells serves holds passes first last (IsTabled league between after status) (IsToldOf league before after status)
      (λ s b tabled. inr (
        between,
        subst (λ (n : ℕ). PrintsOne (λ text. text ≡ outcomes_text league.past) 0 n before between) is printed,
        subst (λ (o : Bool). Follows league between after status s b o) (sym over) tabled,
      ))

  -- ---- the whole

  pub drafted_stop : (members status : ℕ) (league : League) (rows : List DraftRow) (before after : Option (List ℕ)) (first last : Kept K) → league ≡ founded members
      → Leads tells serves holds passes first last (StepsOn 1 rows league before after (Err status))
      → Leads tells serves holds passes first last (IsDrafted members rows before after status)
  drafted_stop members status league rows before after first last new =
      leads_on K tells serves holds passes first last (StepsOn 1 rows league before after (Err status)) (IsDrafted members rows before after status)
      (λ s b on. inl (subst (λ (l : League). StepsOn 1 rows l before after (Err status) s b) new on))

  pub drafted_end : (members status : ℕ) (league behind : League) (rows : List DraftRow) (before between after : Option (List ℕ)) (first mid last : Kept K) → league ≡ founded members → between ≡ before
      → Leads tells serves holds passes first mid (StepsOn 1 rows league before between (Ok behind))
      → Leads tells serves holds passes mid last (IsToldOf behind between after status)
      → Leads tells serves holds passes first last (IsDrafted members rows before after status)
  drafted_end members status league behind rows before between after first mid last new same =
      leads_then K tells serves holds passes first mid last (StepsOn 1 rows league before between (Ok behind)) (IsToldOf behind between after status) (IsDrafted members rows before after status)
      (λ s m b on told. inr (
        behind,
        m,
        subst (λ (x : Option (List ℕ)). StepsOn 1 rows (founded members) before x (Ok behind) s m) same
            (subst (λ (l : League). StepsOn 1 rows l before between (Ok behind) s m) new on),
        subst (λ (x : Option (List ℕ)). IsToldOf behind x after status m b) same told,
      ))
