-- Players that are asked for one after another.
use Rattle.std.proofs.Common.{◌≡◌, ◌+◌, ◌<◌, ◌≤◌, ◌⊎◌, ◌∙◌, Bool, true, false, true≢false, ℕ, List, [], ◌∷◌, Option, Some, None, inl, inr, length, map, drop, get_or, ap, refl, sym, subst}
use Rattle.std.proofs.lemmas.List.{drop_more}
use Rattle.std.specs.Result.{OnOk, is_err}
use Rattle.std.specs.Prelude.{MatchBool, MatchOption, Ok, Err, Result, nat_le}
use Rattle.fpl_base.specs.Keeping.{Map}
use Rattle.fpl_base.specs.declared.kinds.Caller.TheVariants as caller
use Rattle.fpl_base.specs.declared.kinds.Position.{Position}
use Rattle.rule_book.specs.declared.team_score.Figures.{Figures}
use Rattle.season_book.specs.Book.{Facts}
use Rattle.season_book.specs.declared.answer.Answer.{Answer}
use Rattle.season_book.specs.declared.answer.Answer.TheVariants as answer
use Rattle.season_book.specs.declared.request.Request.{Request}
use Rattle.season_book.specs.declared.request.Request.TheVariants as request
use Rattle.season_book.specs.declared.request.View.TheVariants as view
use Rattle.season_running.specs.Standing.{StandsIn, players_in}
use Rattle.request_handler.specs.Replying.{Served}
use Rattle.request_handler.specs.Kept.{Kept, Leads}
use Rattle.request_handler.proofs.KeptLemmas.{leads_on, leads_same}
use Rattle.local_requests.proofs.AskingLemmas.{leads_then}
use Rattle.local_requests.specs.Asking.{IsHeard}
use Rattle.local_requests.specs.Printing.{EndsBy, Prints, unknown_text}
use Rattle.squad_rules.specs.Elevens.{Row}
use Rattle.fpl_dreaming.specs.Dreaming.{AsksOn, IsDreamed, IsDreamedIn, TellsDream}
use Rattle.fpl_dreaming.specs.Rows.{ArePointsAsked, IsRowAsked, figures_in, locked_in, position_in, row_of, with_row}

none_some : {X : Type 0} (x : X) → None ≡ Some x → ⊥
none_some x is = cc

-- behind an answer that shows something the host is as fresh as it was
pub fresh_shown : {X : Type 0} (read : Answer → Option X) (stale : Bool) (told : Answer) (x : X) → read answer.Memory ≡ None → read answer.Keeper ≡ None
    → (stale ≡ true → (told ≡ answer.Memory) ⊎ (told ≡ answer.Keeper)) → read told ≡ Some x → stale ≡ false
fresh_shown read false told x memory keeper out is = refl
fresh_shown read true told x memory keeper out is = absurd (go (out refl))
  where
    go : (told ≡ answer.Memory) ⊎ (told ≡ answer.Keeper) → ⊥
    go (inl e) = none_some x (sym memory ∙ sym (ap read e) ∙ is)
    go (inr e) = none_some x (sym keeper ∙ sym (ap read e) ∙ is)

-- what was given went well
pub went_well : {X E P : Type 0} (gave : Result X E) → is_err gave ≡ false → OnOk gave P → P
went_well (Ok x) none on = on
went_well (Err e) none on = absurd (true≢false none)

-- the players that are left, the next of them first
pub next_left : (players : List ℕ) (at player : ℕ) → at < length players → player ≡ get_or players at player → drop at players ≡ player ∷ drop (at + 1) players
next_left players at player within is = drop_more players at player within ∙ ap (λ (p : ℕ). p ∷ drop (at + 1) players) (sym is)

-- some of the players were asked for, and these are left: whatever becomes of these is the end of all
abbrev pub On : ℕ → List ℕ → List ℕ → List Row → Option (List ℕ) → Served → Served → Type 0
On gameweek all left rows before old mid =
    (after : Option (List ℕ)) (status : ℕ) (new : Served) → AsksOn gameweek left rows before after status mid new → AsksOn gameweek all [] before after status old new

abbrev ids_of : Option Facts → List ℕ
ids_of facts = map (λ player. player.id) (players_in facts)

-- how a command goes on behind what was told of the season
abbrev Goes : ℕ → Answer → Option (List ℕ) → Option (List ℕ) → ℕ → Served → Served → Option ℕ → Type 0
Goes gameweek told before after status m b o =
    MatchOption o ((b ≡ m) × EndsBy told status before after)
    (λ locked. MatchBool (nat_le gameweek locked) (IsDreamedIn gameweek before after status m b) ((b ≡ m) × Prints unknown_text 13 status before after))

abbrev given : Option Row → Result (Option Row) Answer
given row = Ok row

-- what comes of an answer that is to show what a player did
abbrev Shows : ℕ → Position → Answer → Result (Option Row) Answer → Option Figures → Type 0
Shows player position told gave o = MatchOption o (gave ≡ Err told) (λ figures. gave ≡ Ok (row_of player position figures))

-- and of one that is to show him
abbrev ShowsOn : ℕ → ℕ → Answer → Result (Option Row) Answer → Served → Served → Option Position → Type 0
ShowsOn player gameweek told gave m b o = MatchOption o ((gave ≡ Err told) × (b ≡ m)) (λ position. ArePointsAsked player position gameweek gave m b)

module _ (K : Type 0) (tells serves : K → Type 0) (holds passes : K → Map → Type 0) where
  -- ---- one player

  pub points_shown : (player gameweek : ℕ) (position : Position) (asked : Request) (told : Answer) (figures : Figures) (gave : Option Row) (first last : Kept K)
      → asked ≡ request.View (view.PlayerGameweek player gameweek) → figures_in told ≡ Some figures → gave ≡ row_of player position figures
      → Leads tells serves holds passes first last (λ served behind. IsHeard served caller.Operator asked told behind)
      → Leads tells serves holds passes first last (ArePointsAsked player position gameweek (Ok gave))
  points_shown player gameweek position asked told figures gave first last asks is row =
      leads_on K tells serves holds passes first last (λ served behind. IsHeard served caller.Operator asked told behind)
      (ArePointsAsked player position gameweek (Ok gave))
      (λ served behind heard. (told, subst (λ (r : Request). IsHeard served caller.Operator r told behind) asks heard, subst (Shows player position told (given gave)) (sym is) (ap given row)))

  pub points_not : (player gameweek : ℕ) (position : Position) (asked : Request) (told : Answer) (first last : Kept K)
      → asked ≡ request.View (view.PlayerGameweek player gameweek) → figures_in told ≡ None
      → Leads tells serves holds passes first last (λ served behind. IsHeard served caller.Operator asked told behind)
      → Leads tells serves holds passes first last (ArePointsAsked player position gameweek (Err told))
  points_not player gameweek position asked told first last asks is =
      leads_on K tells serves holds passes first last (λ served behind. IsHeard served caller.Operator asked told behind)
      (ArePointsAsked player position gameweek (Err told))
      (λ served behind heard. (told, subst (λ (r : Request). IsHeard served caller.Operator r told behind) asks heard, subst (Shows player position told (Err told)) (sym is) refl))

  pub player_shown : (player gameweek : ℕ) (asked : Request) (told : Answer) (position : Position) (gave : Result (Option Row) Answer) (first mid last : Kept K)
      → asked ≡ request.View (view.Player player) → position_in told ≡ Some position
      → Leads tells serves holds passes first mid (λ served behind. IsHeard served caller.Operator asked told behind)
      → Leads tells serves holds passes mid last (ArePointsAsked player position gameweek gave)
      → Leads tells serves holds passes first last (IsRowAsked player gameweek gave)
  player_shown player gameweek asked told position gave first mid last asks is =
      leads_then K tells serves holds passes first mid last (λ served behind. IsHeard served caller.Operator asked told behind)
      (ArePointsAsked player position gameweek gave) (IsRowAsked player gameweek gave)
      (λ s m b heard points. (told, m, subst (λ (r : Request). IsHeard s caller.Operator r told m) asks heard, subst (ShowsOn player gameweek told gave m b) (sym is) points))

  pub player_not : (player gameweek : ℕ) (asked : Request) (told : Answer) (first last : Kept K)
      → asked ≡ request.View (view.Player player) → position_in told ≡ None
      → Leads tells serves holds passes first last (λ served behind. IsHeard served caller.Operator asked told behind)
      → Leads tells serves holds passes first last (IsRowAsked player gameweek (Err told))
  player_not player gameweek asked told first last asks is =
      leads_on K tells serves holds passes first last (λ served behind. IsHeard served caller.Operator asked told behind)
      (IsRowAsked player gameweek (Err told))
      (λ s b heard. (told, b, subst (λ (r : Request). IsHeard s caller.Operator r told b) asks heard, subst (ShowsOn player gameweek told (Err told) b b) (sym is) (refl, refl)))

  -- ---- all of them

  pub asks_more : (gameweek : ℕ) (all left rest : List ℕ) (player : ℕ) (rows next : List Row) (row : Option Row) (before : Option (List ℕ)) (first mid last : Kept K)
      → left ≡ player ∷ rest → next ≡ with_row rows row
      → Leads tells serves holds passes first mid (On gameweek all left rows before)
      → Leads tells serves holds passes mid last (IsRowAsked player gameweek (Ok row))
      → Leads tells serves holds passes first last (On gameweek all rest next before)
  asks_more gameweek all left rest player rows next row before first mid last is more here asked =
      leads_then K tells serves holds passes first mid last (On gameweek all (player ∷ rest) rows before) (IsRowAsked player gameweek (Ok row)) (On gameweek all rest next before)
      (λ s m b on one after status new end. on after status new (Ok row, b, one, inr (subst (λ (l : List Row). AsksOn gameweek rest l before after status b new) more end)))
      (subst (λ (l : List ℕ). Leads tells serves holds passes first mid (On gameweek all l rows before)) is here) asked

  pub asks_lack : (gameweek : ℕ) (all left rest : List ℕ) (player : ℕ) (rows : List Row) (row : Option Row) (before after : Option (List ℕ)) (first mid last : Kept K)
      → left ≡ player ∷ rest → after ≡ before
      → Leads tells serves holds passes first mid (On gameweek all left rows before)
      → Leads tells serves holds passes mid last (IsRowAsked player gameweek (Ok row))
      → Leads tells serves holds passes first last (AsksOn gameweek all [] before after 6)
  asks_lack gameweek all left rest player rows row before after first mid last is same here asked =
      leads_then K tells serves holds passes first mid last (On gameweek all (player ∷ rest) rows before) (IsRowAsked player gameweek (Ok row)) (AsksOn gameweek all [] before after 6)
      (λ s m b on one. on after 6 b (Ok row, b, one, inl (refl, refl, same)))
      (subst (λ (l : List ℕ). Leads tells serves holds passes first mid (On gameweek all l rows before)) is here) asked

  pub asks_stop : (gameweek : ℕ) (all left rest : List ℕ) (player : ℕ) (rows : List Row) (told : Answer) (before after : Option (List ℕ)) (status : ℕ) (first mid last : Kept K)
      → left ≡ player ∷ rest → EndsBy told status before after
      → Leads tells serves holds passes first mid (On gameweek all left rows before)
      → Leads tells serves holds passes mid last (IsRowAsked player gameweek (Err told))
      → Leads tells serves holds passes first last (AsksOn gameweek all [] before after status)
  asks_stop gameweek all left rest player rows told before after status first mid last is ends here asked =
      leads_then K tells serves holds passes first mid last (On gameweek all (player ∷ rest) rows before) (IsRowAsked player gameweek (Err told)) (AsksOn gameweek all [] before after status)
      (λ s m b on one. on after status b (Err told, b, one, (refl, ends)))
      (subst (λ (l : List ℕ). Leads tells serves holds passes first mid (On gameweek all l rows before)) is here) asked

  pub asks_end : (gameweek : ℕ) (all left : List ℕ) (rows : List Row) (before after : Option (List ℕ)) (status : ℕ) (first last : Kept K)
      → left ≡ [] → TellsDream rows before after status
      → Leads tells serves holds passes first last (On gameweek all left rows before)
      → Leads tells serves holds passes first last (AsksOn gameweek all [] before after status)
  asks_end gameweek all left rows before after status first last is told here =
      leads_on K tells serves holds passes first last (On gameweek all [] rows before) (AsksOn gameweek all [] before after status)
      (λ s b on. on after status b (refl, told))
      (subst (λ (l : List ℕ). Leads tells serves holds passes first last (On gameweek all l rows before)) is here)

  -- ---- the season

  -- the players of the rows are those of each book for which the host stands
  pub dream_of_players : (gameweek : ℕ) (players : List ℕ) (before after : Option (List ℕ)) (status : ℕ) (first last : Kept K)
      → players ≡ ids_of first.host.rows.facts → first.host.stale ≡ false
      → Leads tells serves holds passes first last (AsksOn gameweek players [] before after status)
      → Leads tells serves holds passes first last (IsDreamedIn gameweek before after status)
  dream_of_players gameweek players before after status first last is fresh leads = record {
    by_rows = λ served stands. let a = leads.by_rows served stands in (a.0, a.1, by_book served a.0 (stands.rows fresh) a.2);
    by_stops = λ tell served stands. let a = leads.by_stops tell served stands in (a.0, a.1, by_book served a.0 (stands.by_rows.rows fresh) a.2);
    by_records = λ tell serve served stands. let a = leads.by_records tell serve served stands in (a.0, a.1, by_book served a.0 (stands.backs.stands fresh) a.2);
    reread = leads.reread;
    told = leads.told;
    served = leads.served;
  }
    where
      by_book : (served behind : Served) → StandsIn first.host.rows served.host.book → AsksOn gameweek players [] before after status served behind → IsDreamedIn gameweek before after status served behind
      by_book served behind stands asks =
          inr (subst (λ (ids : List ℕ). AsksOn gameweek ids [] before after status served behind) (is ∙ sym (ap ids_of stands.facts)) asks)

  pub dream_lacks : (gameweek : ℕ) (before : Option (List ℕ)) (kept : Kept K) → Leads tells serves holds passes kept kept (IsDreamedIn gameweek before before 6)
  dream_lacks gameweek before kept = leads_same K tells serves holds passes kept (IsDreamedIn gameweek before before 6) (λ served. inl (refl, refl, refl))

  pub season_shown : (gameweek : ℕ) (told : Answer) (locked : ℕ) (before after : Option (List ℕ)) (status : ℕ) (first mid last : Kept K)
      → locked_in told ≡ Some locked → nat_le gameweek locked ≡ true
      → Leads tells serves holds passes first mid (λ served behind. IsHeard served caller.Operator (request.View view.Season) told behind)
      → Leads tells serves holds passes mid last (IsDreamedIn gameweek before after status)
      → Leads tells serves holds passes first last (IsDreamed gameweek before after status)
  season_shown gameweek told locked before after status first mid last is within =
      leads_then K tells serves holds passes first mid last (λ served behind. IsHeard served caller.Operator (request.View view.Season) told behind)
      (IsDreamedIn gameweek before after status) (IsDreamed gameweek before after status)
      (λ s m b heard dreamed. (told, m, heard, subst (Goes gameweek told before after status m b) (sym is) (subst (λ (t : Bool). MatchBool t (IsDreamedIn gameweek before after status m b) ((b ≡ m) × Prints unknown_text 13 status before after)) (sym within) dreamed)))

  pub season_open : (gameweek : ℕ) (told : Answer) (locked : ℕ) (before after : Option (List ℕ)) (status : ℕ) (first last : Kept K)
      → locked_in told ≡ Some locked → nat_le gameweek locked ≡ false → Prints unknown_text 13 status before after
      → Leads tells serves holds passes first last (λ served behind. IsHeard served caller.Operator (request.View view.Season) told behind)
      → Leads tells serves holds passes first last (IsDreamed gameweek before after status)
  season_open gameweek told locked before after status first last is behind printed =
      leads_on K tells serves holds passes first last (λ served behind. IsHeard served caller.Operator (request.View view.Season) told behind) (IsDreamed gameweek before after status)
      (λ s b heard. (told, b, heard, subst (Goes gameweek told before after status b b) (sym is) (subst (λ (t : Bool). MatchBool t (IsDreamedIn gameweek before after status b b) ((b ≡ b) × Prints unknown_text 13 status before after)) (sym behind) (refl, printed))))

  pub season_not : (gameweek : ℕ) (told : Answer) (before after : Option (List ℕ)) (status : ℕ) (first last : Kept K)
      → locked_in told ≡ None → EndsBy told status before after
      → Leads tells serves holds passes first last (λ served behind. IsHeard served caller.Operator (request.View view.Season) told behind)
      → Leads tells serves holds passes first last (IsDreamed gameweek before after status)
  season_not gameweek told before after status first last is ends =
      leads_on K tells serves holds passes first last (λ served behind. IsHeard served caller.Operator (request.View view.Season) told behind) (IsDreamed gameweek before after status)
      (λ s b heard. (told, b, heard, subst (Goes gameweek told before after status b b) (sym is) (refl, ends)))
