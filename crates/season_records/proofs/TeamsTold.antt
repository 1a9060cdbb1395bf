-- Histories whose records are the same have the same team in each gameweek: in one where something was done the record
-- tells it, and in another it is the team of the last one before it without a free hit.
use Rattle.std.proofs.Common.{◌≡◌, ◌-◌, ◌+◌, ◌==◌, ◌&&◌, ◌||◌, ℕ, zero, suc, Bool, true, false, cond, not, List, [], ◌∷◌, Option, Some, None, map, filter, nat_lt, arith, refl, sym, ap, ◌∙◌, inl, inr, if◌then◌else◌}
use Rattle.std.specs.Prelude.{is_some}
use Rattle.std.specs.List.{flat_map}
use Rattle.std.specs.Option.{option_map}
use Rattle.std.proofs.lemmas.Bool.{cases_eq, false≢true}
use Rattle.std.proofs.lemmas.Bool.Decides.{nat_tests}
use Rattle.std.proofs.lemmas.List.Elements.{filter_agree}
use Rattle.fpl_base.specs.declared.kinds.Chip.{Chip}
use Rattle.fpl_base.specs.declared.kinds.Chip.TheVariants.{None as NoChip}
use Rattle.fpl_base.specs.declared.kinds.Position.{Position}
use Rattle.rule_book.specs.declared.team.Pick.{Pick}
use Rattle.rule_book.specs.declared.team.Team.{Team}
use Rattle.rule_book.specs.declared.transfers.Sale.{Sale}
use Rattle.rule_book.specs.Entries.{entry_in}
use Rattle.rule_book.specs.EntryRecords.{sold_in}
use Rattle.rule_book.specs.History.{Event, chip_at, chip_said_in, counts_in, is_free_hit, is_touched, kept, last_of}
use Rattle.rule_book.specs.HistorySquad.{armbands_of, bought_at, earned, order_of, picks_of, spent}
use Rattle.rule_book.specs.TeamOfHistory.{team_of}
use Rattle.rule_book.specs.UpTo.{start_of}
use Rattle.season_records.specs.declared.item.Item.{Item}
use Rattle.season_records.specs.declared.item.Item.TheVariants as item
use Rattle.season_records.specs.Records.{no_position, pick_told, team_item, team_told, transfer_item, transfer_told}
use Rattle.season_records.specs.Told.{SameTeams}
use Rattle.season_records.proofs.Determined.{numbers_determined}

-- What events tell of a team but its chip and positions.
pub record Squad : Type 0 where
  pub picks : List (ℕ × ℕ)
  pub captain : ℕ
  pub vice : ℕ
  pub bank : ℕ

abbrev squad_of : List Event → Squad
squad_of es = record {
  picks = map pick_told (picks_of no_position es);
  captain = (armbands_of es).0;
  vice = (armbands_of es).1;
  bank = (1000 + earned es) - spent es;
}

abbrev placed : (ℕ → Position) → ℕ × ℕ → Pick
placed position pick = record { player = pick.0; position = position pick.0; bought = pick.1 }

abbrev team_from : (ℕ → Position) → Squad → Chip → Team
team_from position squad chip = record { picks = map (placed position) squad.picks; captain = squad.captain; vice = squad.vice; bank = squad.bank; chip = chip }

picks_again : (position : ℕ → Position) (es : List Event) → picks_of position es ≡ map (placed position) (map pick_told (picks_of no_position es))
picks_again position es = each (order_of es)
  where
    each : (ps : List ℕ) → map (λ p. record { player = p; position = position p; bought = bought_at es p }) ps
        ≡ map (placed position) (map pick_told (map (λ p. record { player = p; position = no_position p; bought = bought_at es p }) ps))
    each [] = refl
    each (p ∷ ps) = ap (λ more. record { player = p; position = position p; bought = bought_at es p } ∷ more) (each ps)

team_again : (position : ℕ → Position) (h : List Event) (g : ℕ) → team_of position h g ≡ team_from position (squad_of (kept h g)) (chip_at h g)
team_again position h g = λ i. record {
  picks = picks_again position (kept h g) i;
  captain = (armbands_of (kept h g)).0;
  vice = (armbands_of (kept h g)).1;
  bank = (1000 + earned (kept h g)) - spent (kept h g);
  chip = chip_at h g;
}

-- A gameweek in which nothing was done.

untouched_chip : (h : List Event) (g : ℕ) → is_touched h g ≡ false → chip_at h g ≡ NoChip
untouched_chip h g bare = ap (last_of NoChip) (none_said h bare)
  where
    none_said : (h : List Event) → is_touched h g ≡ false → flat_map (chip_said_in g) h ≡ []
    none_said [] bare = refl
    none_said (e ∷ h) bare = grind (arith, nat_tests, bare, none_said h)

-- tests that agree in every other gameweek leave the same
untouched_agree : (p q : ℕ → Bool) (g : ℕ) → ((w : ℕ) → (w ≡ g → ⊥) → p w ≡ q w) → (h : List Event) → is_touched h g ≡ false
    → filter (λ e. p e.gw) h ≡ filter (λ e. q e.gw) h
untouched_agree p q g agree [] bare = refl
untouched_agree p q g agree (e ∷ h) bare =
    let other : e.gw ≡ g → ⊥ = λ same. grind (arith, nat_tests, bare, same) in
    let more : filter (λ e. p e.gw) h ≡ filter (λ e. q e.gw) h = untouched_agree p q g agree h (grind (arith, nat_tests, bare)) in
    λ i. cond (agree e.gw other i) (e ∷ more i) (more i)

-- what earlier gameweeks leave to gameweek g
abbrev leaves_to : List Event → ℕ → ℕ → Bool
leaves_to h g w = nat_lt w g && not (is_free_hit (chip_at h w))

abbrev before : List Event → ℕ → List Event
before h g = filter (λ e. leaves_to h g e.gw) h

nothing_before : (h all : List Event) → filter (λ e. leaves_to all 0 e.gw) h ≡ []
nothing_before [] all = refl
nothing_before (e ∷ h) all = let none : nat_lt e.gw 0 ≡ false = grind (arith, nat_tests) in ap (λ b. cond (b && not (is_free_hit (chip_at all e.gw))) (e ∷ before_h) before_h) none ∙ nothing_before h all
  where
    before_h : List Event
    before_h = filter (λ e. leaves_to all 0 e.gw) h

module _ (h : List Event) (g : ℕ) where
  bare_kept : is_touched h g ≡ false → kept h g ≡ before h g
  bare_kept bare = untouched_agree (counts_in h g) (leaves_to h g) g (λ w other. grind (arith, nat_tests, other)) h bare

  bare_passes : is_touched h g ≡ false → before h (suc g) ≡ before h g
  bare_passes bare = untouched_agree (leaves_to h (suc g)) (leaves_to h g) g (λ w other. grind (arith, nat_tests, other)) h bare

  hit_passes : is_free_hit (chip_at h g) ≡ true → before h (suc g) ≡ before h g
  hit_passes hit = filter_agree (λ e. leaves_to h (suc g) e.gw) (λ e. leaves_to h g e.gw) (λ e. same e.gw) h
    where
      same : (w : ℕ) → leaves_to h (suc g) w ≡ leaves_to h g w
      same w = elim (cases_eq w g) [
        | inl here ↦ at_hit w (is_free_hit (chip_at h w)) (ap (λ w. is_free_hit (chip_at h w)) here ∙ hit)
        | inr other ↦ grind (arith, nat_tests, other)
      ]
        where
          at_hit : (w : ℕ) (b : Bool) → b ≡ true → (nat_lt w (suc g) && not b) ≡ (nat_lt w g && not b)
          at_hit w b is = grind (arith, nat_tests, is)

  played_stays : is_free_hit (chip_at h g) ≡ false → before h (suc g) ≡ kept h g
  played_stays played = filter_agree (λ e. leaves_to h (suc g) e.gw) (λ e. counts_in h g e.gw) (λ e. same e.gw) h
    where
      same : (w : ℕ) → leaves_to h (suc g) w ≡ counts_in h g w
      same w = elim (cases_eq w g) [
        | inl here ↦ at_play w (is_free_hit (chip_at h w)) here (ap (λ w. is_free_hit (chip_at h w)) here ∙ played)
        | inr other ↦ grind (arith, nat_tests, other)
      ]
        where
          at_play : (w : ℕ) (b : Bool) → w ≡ g → b ≡ false → (nat_lt w (suc g) && not b) ≡ ((w == g) || (nat_lt w g && not b))
          at_play w b here is = grind (arith, nat_tests, here, is)

-- What records tell of a squad, a chip and a transfer.

abbrev squad_in : Option Item → Squad × Chip
squad_in (Some (item.Team e g picks captain vice bank chip)) = (record { picks = picks; captain = captain; vice = vice; bank = bank }, chip)
squad_in i = (squad_of [], NoChip)

abbrev sale_in : Option Item → Option Sale
sale_in (Some (item.Transfer e g n out into sold bought)) = Some (record { out = out; into = into; sold = sold; bought = bought })
sale_in i = None

abbrev told_of : List Event → ℕ → Squad × Chip
told_of h g = (squad_of (kept h g), chip_at h g)

told_squad : (e g : ℕ) (h : List Event) → squad_in (Some (team_item e g (team_of no_position h g))) ≡ told_of h g
told_squad e g h = refl

told_sale : (e g n : ℕ) (sale : Option Sale) → sale_in (option_map (transfer_item e g n) sale) ≡ sale
told_sale e g n None = refl
told_sale e g n (Some sale) = refl

told_some : (b : Bool) (i : Item) → is_some (if b then Some i else None) ≡ b
told_some true i = refl
told_some false i = refl

told_where : (b : Bool) (i : Item) → b ≡ true → (if b then Some i else None) ≡ Some i
told_where true i is = refl
told_where false i is = absurd (false≢true is)

module _ (h other : List Event) (e : ℕ) (start : start_of h ≡ start_of other) (teams : (g : ℕ) → team_told e g h ≡ team_told e g other)
    (sales : (g n : ℕ) → transfer_told e g n h ≡ transfer_told e g n other) where
  touched : (g : ℕ) → is_touched h g ≡ is_touched other g
  touched g =
      sym (told_some (is_touched h g) (team_item e g (team_of no_position h g)))
      ∙ ap is_some (teams g) ∙ told_some (is_touched other g) (team_item e g (team_of no_position other g))

  recorded : (g : ℕ) → is_touched h g ≡ true → told_of h g ≡ told_of other g
  recorded g here =
      sym (told_squad e g h)
      ∙ ap squad_in (sym (told_where (is_touched h g) (team_item e g (team_of no_position h g)) here)
      ∙ teams g ∙ told_where (is_touched other g) (team_item e g (team_of no_position other g)) (sym (touched g) ∙ here))
      ∙ told_squad e g other

  chips : (g : ℕ) → chip_at h g ≡ chip_at other g
  chips g = by (is_touched h g) refl
    where
      by : (b : Bool) → is_touched h g ≡ b → chip_at h g ≡ chip_at other g
      by true here = ap (λ (p : Squad × Chip). p.1) (recorded g here)
      by false bare = untouched_chip h g bare ∙ sym (untouched_chip other g (sym (touched g) ∙ bare))

  befores : (g : ℕ) → squad_of (before h g) ≡ squad_of (before other g)
  befores zero = ap squad_of (nothing_before h h ∙ sym (nothing_before other other))
  befores (suc g) = by (is_touched h g) (is_free_hit (chip_at h g)) refl refl (befores g)
    where
      by : (b hit : Bool) → is_touched h g ≡ b → is_free_hit (chip_at h g) ≡ hit → squad_of (before h g) ≡ squad_of (before other g)
          → squad_of (before h (suc g)) ≡ squad_of (before other (suc g))
      by false hit bare is same = ap squad_of (bare_passes h g bare) ∙ same ∙ sym (ap squad_of (bare_passes other g (sym (touched g) ∙ bare)))
      by true true here is same = ap squad_of (hit_passes h g is) ∙ same ∙ sym (ap squad_of (hit_passes other g (sym (ap is_free_hit (chips g)) ∙ is)))
      by true false here is same =
          ap squad_of (played_stays h g is) ∙ ap (λ (p : Squad × Chip). p.0) (recorded g here)
          ∙ sym (ap squad_of (played_stays other g (sym (ap is_free_hit (chips g)) ∙ is)))

  squads : (g : ℕ) → squad_of (kept h g) ≡ squad_of (kept other g)
  squads g = by (is_touched h g) refl
    where
      by : (b : Bool) → is_touched h g ≡ b → squad_of (kept h g) ≡ squad_of (kept other g)
      by true here = ap (λ (p : Squad × Chip). p.0) (recorded g here)
      by false bare = ap squad_of (bare_kept h g bare) ∙ befores g ∙ sym (ap squad_of (bare_kept other g (sym (touched g) ∙ bare)))

  pub same_teams : SameTeams h other
  same_teams = record {
    start = start;
    touched = touched;
    team = λ position g. team_again position h g ∙ (λ i. team_from position (squads g i) (chips g i)) ∙ sym (team_again position other g);
    transfers = λ g. numbers_determined (sold_in h g) (sold_in other g) (λ n.
        sym (told_sale e g n (entry_in (sold_in h g) n)) ∙ ap sale_in (sales g n) ∙ told_sale e g n (entry_in (sold_in other g) n));
  }
