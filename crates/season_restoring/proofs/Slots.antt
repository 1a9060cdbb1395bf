-- What is read of a record is an item of the slot that its key names, and its ids are in their ranges.
use Rattle.std.proofs.Common.{◌≡◌, ◌-◌, ℕ, length, Bool, true, false, cond, ◌&&◌, nat_le, List, Option, Some, None, refl, sym, ap, ◌∙◌, subst}
use Rattle.std.specs.Int.{w16, w32, w64}
use Rattle.fpl_base.specs.Texts.{is_code, is_name}
use Rattle.std.proofs.lemmas.Bool.{and_parts, leb-true}
use Rattle.std.proofs.lemmas.Option.{none-some, cond_some}
use Rattle.fpl_base.specs.declared.kinds.Chip.{Chip}
use Rattle.fpl_base.specs.declared.kinds.Position.{Position}
use Rattle.fpl_base.specs.declared.kinds.Profile.{Profile}
use Rattle.fpl_base.specs.declared.records.RecordKey.{RecordKey}
use Rattle.rule_book.specs.declared.league.LeagueKind.{LeagueKind}
use Rattle.season_book.specs.declared.command.Command.{Command}
use Rattle.record_fields.specs.FieldReading.{byte_in, kind_at, long_in, moment_at, profile_at, short_text_at}
use Rattle.record_fields.specs.Ranges.{is_club, is_gameweek, is_id, is_player}
use Rattle.record_fields.specs.Reading.{◌>>=◌, ◌then◌, both_at, byte_at, counted, kept, many_at, number_at, whole_of}
use Rattle.season_records.specs.CommandReading.{command_at}
use Rattle.season_records.specs.ItemReading.{club_in, cup_in, entry_in, fixture_in, item_in, item_of, last_in, league_in, line_in, member_in, player_in, season_in, team_in, transfer_in}
use Rattle.season_records.specs.Items.{is_item, key_of_item, slot_of_item}
use Rattle.season_records.specs.Keys.{key_of, slot_of}
use Rattle.season_records.specs.declared.item.Item.{Item}
use Rattle.season_records.specs.declared.item.Item.TheVariants as item
use Rattle.season_records.specs.declared.slot.Slot.{Slot}
use Rattle.season_records.specs.declared.slot.Slot.TheVariants as slot
use Rattle.season_records.proofs.KeyLaws.{named}
use Rattle.season_facts.specs.Kept.{IsId}

made_of : {A : Type 0} (f : A → Item) (s : Slot) → ((a : A) → slot_of_item (f a) ≡ s) → (o : Option A) (i : Item) → (o >>= λ a. kept is_item (f a)) ≡ Some i → slot_of_item i ≡ s
made_of f s same None i is = absurd (none-some i is)
made_of f s same (Some a) i is = ap slot_of_item (sym (cond_some (is_item (f a)) (f a) i is).1) ∙ same a

season_slot : (body : List ℕ) (i : Item) → season_in body ≡ Some i → slot_of_item i ≡ slot.Season
unfolding season_in
season_slot body i is =
    made_of {A = Profile × (ℕ × (ℕ × (ℕ × List ℕ)))} (λ x. item.Season x.0 x.1.1.0 x.1.1.1.0 x.1.1.1.1) slot.Season (λ a. refl)
    (whole_of (both_at profile_at (λ p. both_at byte_at (λ n. byte_at then byte_at then many_at moment_at n))) body) i is

club_slot : (c : ℕ) (body : List ℕ) (i : Item) → club_in c body ≡ Some i → slot_of_item i ≡ slot.Club c
unfolding club_in
club_slot c body i is = made_of {A = List ℕ} (λ name. item.Club c name) (slot.Club c) (λ a. refl) _ i is

player_slot : (p : ℕ) (body : List ℕ) (i : Item) → player_in p body ≡ Some i → slot_of_item i ≡ slot.Player p
unfolding player_in
player_slot p body i is =
    made_of {A = Position × (ℕ × (ℕ × (Bool × List ℕ)))} (λ x. item.Player p x.0 x.1.0 x.1.1.0 x.1.1.1.0 x.1.1.1.1) (slot.Player p) (λ a. refl) _ i is

fixture_slot : (f : ℕ) (body : List ℕ) (i : Item) → fixture_in f body ≡ Some i → slot_of_item i ≡ slot.Fixture f
unfolding fixture_in
fixture_slot f body i is =
    made_of {A = ℕ × (ℕ × (Option ℕ × (ℕ × Bool)))} (λ x. item.Fixture f x.0 x.1.0 x.1.1.0 x.1.1.1.0 x.1.1.1.1) (slot.Fixture f) (λ a. refl) _ i is

line_slot : (f p : ℕ) (body : List ℕ) (i : Item) → line_in f p body ≡ Some i → slot_of_item i ≡ slot.Line f p
unfolding line_in
line_slot f p body i is = made_of {A = List ℕ} (λ figures. item.Line f p (record { figures = figures })) (slot.Line f p) (λ a. refl) _ i is

entry_slot : (e : ℕ) (body : List ℕ) (i : Item) → entry_in e body ≡ Some i → slot_of_item i ≡ slot.Entry e
unfolding entry_in
entry_slot e body i is = made_of {A = Option ℕ × (List ℕ × List ℕ)} (λ x. item.Entry e x.0 x.1.0 x.1.1) (slot.Entry e) (λ a. refl) _ i is

team_slot : (e g : ℕ) (body : List ℕ) (i : Item) → team_in e g body ≡ Some i → slot_of_item i ≡ slot.Team e g
unfolding team_in
team_slot e g body i is =
    made_of {A = List (ℕ × ℕ) × (ℕ × (ℕ × (ℕ × Chip)))} (λ x. item.Team e g x.0 x.1.0 x.1.1.0 x.1.1.1.0 x.1.1.1.1) (slot.Team e g) (λ a. refl) _ i is

transfer_slot : (e g n : ℕ) (body : List ℕ) (i : Item) → transfer_in e g n body ≡ Some i → slot_of_item i ≡ slot.Transfer e g n
unfolding transfer_in
transfer_slot e g n body i is =
    made_of {A = ℕ × (ℕ × (ℕ × ℕ))} (λ x. item.Transfer e g n x.0 x.1.0 x.1.1.0 x.1.1.1) (slot.Transfer e g n) (λ a. refl) _ i is

league_slot : (l : ℕ) (body : List ℕ) (i : Item) → league_in l body ≡ Some i → slot_of_item i ≡ slot.League l
unfolding league_in
league_slot l body i is =
    made_of {A = LeagueKind × (ℕ × (ℕ × (List ℕ × (List ℕ × List ℕ))))} (λ x. item.League l x.0 x.1.0 x.1.1.0 x.1.1.1.0 x.1.1.1.1.0 x.1.1.1.1.1) (slot.League l) (λ a. refl)
    (whole_of (kind_at then byte_in 1 38 then long_in 1 4294967295 then counted byte_at (long_in 1 4294967295) then short_text_at is_code then short_text_at is_name) body) i is

member_slot : (l e : ℕ) (body : List ℕ) (i : Item) → member_in l e body ≡ Some i → slot_of_item i ≡ slot.Member l e
unfolding member_in
member_slot l e body i is = made_of {A = Unit {0}} (λ x. item.Member l e) (slot.Member l e) (λ a. refl) _ i is

cup_slot : (c : ℕ) (body : List ℕ) (i : Item) → cup_in c body ≡ Some i → slot_of_item i ≡ slot.Cup c
unfolding cup_in
cup_slot c body i is =
    made_of {A = ℕ × (List ℕ × List ℕ)} (λ x. item.Cup c x.0 x.1.0 x.1.1) (slot.Cup c) (λ a. refl)
    (whole_of (byte_in 1 38 then both_at (counted (number_at w16) (number_at w32)) (λ slots. many_at byte_at (length slots - 1))) body) i is

last_slot : (c : ℕ) (body : List ℕ) (i : Item) → last_in c body ≡ Some i → slot_of_item i ≡ slot.Last c
unfolding last_in
last_slot c body i is =
    made_of {A = ℕ × (ℕ × (ℕ × Command))} (λ x. item.Last c x.0 x.1.0 x.1.1.0 x.1.1.1) (slot.Last c) (λ a. refl)
    (whole_of (number_at w64 then number_at w16 then number_at w32 then command_at) body) i is

-- the ids of players and fixtures, by slot
abbrev pub HasIds : Slot → Type 0
HasIds (slot.Player p) = IsId p
HasIds (slot.Fixture f) = IsId f
HasIds s = Unit {0}

is_id_of : (n : ℕ) → is_player n ≡ true → IsId n
is_id_of n is = let parts = and_parts (nat_le 1 n) (nat_le n 999999) is in (leb-true 1 n parts.0, leb-true n 999999 parts.1)

when : (b : Bool) (o : Option Item) (i : Item) → cond b o None ≡ Some i → (b ≡ true) × (o ≡ Some i)
when true o i is = (refl, is)
when false o i is = absurd (none-some i is)

in_slot : (s : Slot) (body : List ℕ) (i : Item) → item_in s body ≡ Some i → (slot_of_item i ≡ s) × HasIds s
in_slot slot.Season body i is = (season_slot body i is, tt)
in_slot (slot.Club c) body i is = (club_slot c body i (when (is_club c) (club_in c body) i is).1, tt)
in_slot (slot.Player p) body i is = let both = when (is_player p) (player_in p body) i is in (player_slot p body i both.1, is_id_of p both.0)
in_slot (slot.Fixture f) body i is = let both = when (is_player f) (fixture_in f body) i is in (fixture_slot f body i both.1, is_id_of f both.0)
in_slot (slot.Line f p) body i is = (line_slot f p body i (when (is_player f && is_player p) (line_in f p body) i is).1, tt)
in_slot (slot.Entry e) body i is = (entry_slot e body i (when (is_id e) (entry_in e body) i is).1, tt)
in_slot (slot.Team e g) body i is = (team_slot e g body i (when (is_id e && is_gameweek g) (team_in e g body) i is).1, tt)
in_slot (slot.Transfer e g n) body i is = (transfer_slot e g n body i (when (is_id e && is_gameweek g) (transfer_in e g n body) i is).1, tt)
in_slot (slot.League l) body i is = (league_slot l body i (when (is_id l) (league_in l body) i is).1, tt)
in_slot (slot.Member l e) body i is = (member_slot l e body i (when (is_id l && is_id e) (member_in l e body) i is).1, tt)
in_slot (slot.Cup c) body i is = (cup_slot c body i (when (is_id c) (cup_in c body) i is).1, tt)
in_slot (slot.Last c) body i is = (last_slot c body i is, tt)

-- a record's key is that of what is read of it
pub own_key : (k : RecordKey) (body : List ℕ) (i : Item) → item_of k body ≡ Some i → k ≡ key_of_item i
own_key k body i is = by (slot_of k) refl is
  where
    by : (o : Option Slot) → slot_of k ≡ o → (o >>= λ s. item_in s body) ≡ Some i → k ≡ key_of_item i
    by None at is = absurd (none-some i is)
    by (Some s) at is = named k s at ∙ ap key_of (sym (in_slot s body i is).0)

pub own_ids : (k : RecordKey) (body : List ℕ) (i : Item) → item_of k body ≡ Some i → HasIds (slot_of_item i)
own_ids k body i is = by (slot_of k) is
  where
    by : (o : Option Slot) → (o >>= λ s. item_in s body) ≡ Some i → HasIds (slot_of_item i)
    by None is = absurd (none-some i is)
    by (Some s) is = let both = in_slot s body i is in subst HasIds (sym both.0) both.1
