-- An item that can be is read of its key and body, and what is read is such an item with this key and body.
use Rattle.std.proofs.Common.{◌≡◌, ℕ, ◌-◌, ◌^◌, ◌<◌, ◌≤◌, Bool, true, false, cond, ◌&&◌, nat_le, List, [], ◌∷◌, ◌++◌, length, flat_map, Option, Some, None, refl, sym, ap, subst, ◌∙◌, append_assoc, arith}
use Rattle.std.specs.List.{AllByRecursion}
use Rattle.std.specs.Int.{w32, w64}
use Rattle.std.proofs.lemmas.Bool.Decides.{nat_tests}
use Rattle.std.proofs.lemmas.Option.{none-some, cond_some}
use Rattle.fpl_base.specs.Texts.{is_name, is_key, is_code}
use Rattle.fpl_base.specs.declared.kinds.Chip.{Chip}
use Rattle.fpl_base.specs.declared.kinds.Position.{Position}
use Rattle.fpl_base.specs.declared.kinds.Profile.{Profile}
use Rattle.fpl_base.specs.declared.kinds.Profile.TheVariants as profile
use Rattle.fpl_base.specs.declared.records.RecordKey.{RecordKey}
use Rattle.rule_book.specs.declared.league.LeagueKind.{LeagueKind}
use Rattle.season_book.specs.declared.command.Command.{Command}
use Rattle.record_fields.specs.FieldReading.{byte_in, long_in, short_text_at, byte_place_at, profile_at}
use Rattle.record_fields.specs.Fields.{byte, number, or_zero, short_text, profile_number, kind_number}
use Rattle.record_fields.specs.ListReading.{pick_at}
use Rattle.record_fields.specs.Lists.{pick_bytes}
use Rattle.record_fields.specs.Ranges.{is_between, IsClub, IsPlayer, IsId, IsGameweek, is_place}
use Rattle.record_fields.specs.Reading.{Reader, ◌>>=◌, kept, numbered, whole_of}
use Rattle.record_fields.proofs.FieldLaws.{IsBytes, Reads, ReadsLast, at_last, got, byte_reads, u16_reads, u32_reads, u64_reads, both_reads, both_last, within_reads, gameweek_reads, numbered_reads, many_reads, counted_reads, text_reads, nothing_reads, whole_again, whole_takes, refit}
use Rattle.season_records.specs.ItemReading.{made_item, season_in, club_in, player_in, fixture_in, line_in, entry_in, team_in, transfer_in, league_in, member_in, cup_in, last_in, item_in, item_of}
use Rattle.season_records.specs.Items.{slot_of_item, key_of_item, league_body, body_of, is_item}
use Rattle.season_records.specs.Keys.{key_of, slot_of}
use Rattle.season_records.specs.Ranges.{HasFieldRanges, IsItem}
use Rattle.season_records.specs.declared.item.Item.{Item}
use Rattle.season_records.specs.declared.item.Item.TheVariants as item
use Rattle.season_records.specs.declared.slot.Slot.{Slot}
use Rattle.season_records.specs.declared.slot.Slot.TheVariants as slot
use Rattle.season_records.proofs.CommandLaws.{flag_reads, position_reads, chip_reads, kind_reads, moment_reads, name_len, key_len, code_len, command_reads}
use Rattle.season_records.proofs.KeyLaws.{named}

-- Fields.

byte_in_reads : (least most : ℕ) → most < 256 → Reads byte (λ n. is_between least most n ≡ true) (byte_in least most)
unfolding byte_in
byte_in_reads least most fits = within_reads 256 least most fits byte_reads

long_in_reads : (least most : ℕ) → most < 2 ^ 32 → Reads (number w32) (λ n. is_between least most n ≡ true) (long_in least most)
unfolding long_in
long_in_reads least most fits = within_reads (2 ^ 32) least most fits u32_reads

short_reads : (test : List ℕ → Bool) → ((t : List ℕ) → test t ≡ true → length t ≤ 64) → Reads short_text (λ t. test t ≡ true) (short_text_at test)
unfolding short_text_at
short_reads test len = refit (λ t is. (omega (arith, len t is), is)) (λ t fits. fits.1) (text_reads test byte_reads)

name_reads : Reads short_text (λ t. is_name t ≡ true) (short_text_at is_name)
name_reads = short_reads is_name name_len

key_reads : Reads short_text (λ t. is_key t ≡ true) (short_text_at is_key)
key_reads = short_reads is_key key_len

code_reads : Reads short_text (λ t. is_code t ≡ true) (short_text_at is_code)
code_reads = short_reads is_code code_len

byte_place_reads : Reads (λ g. byte (or_zero g)) (λ g. is_place g ≡ true) byte_place_at
unfolding byte_place_at
byte_place_reads = gameweek_reads 256 (omega arith) byte_reads

abbrev profiles : List Profile
profiles = profile.A ∷ profile.B ∷ []

profile_reads : Reads (λ p. byte (profile_number p)) (λ p. Unit {0}) profile_at
unfolding profile_at
profile_reads = numbered_reads profile_number profiles there byte_reads
  where
    there : (p : Profile) → (numbered profile_number profiles (profile_number p) ≡ Some p) × (profile_number p < 256)
    there profile.A = (refl, omega arith)
    there profile.B = (refl, omega arith)

club_reads : Reads byte IsClub (byte_in 1 255)
club_reads = byte_in_reads 1 255 (omega arith)

player_reads : Reads (number w32) IsPlayer (long_in 1 999999)
player_reads = long_in_reads 1 999999 (omega arith)

id_reads : Reads (number w32) IsId (long_in 1 4294967295)
id_reads = long_in_reads 1 4294967295 (omega arith)

start_reads : Reads byte IsGameweek (byte_in 1 38)
start_reads = byte_in_reads 1 38 (omega arith)

pick_reads : Reads pick_bytes (λ pick. IsPlayer pick.0 × (pick.1 < 2 ^ 16)) pick_at
pick_reads = both_reads player_reads (λ player. u16_reads)

all_as : {P Q : ℕ → Type 0} → ((n : ℕ) → P n → Q n) → (xs : List ℕ) → AllByRecursion P xs → AllByRecursion Q xs
all_as f [] all = tt
all_as f (x ∷ xs) all = (f x all.0, all_as f xs all.1)

figure_fits : (n : ℕ) → is_between 0 65535 n ≡ true → n < 2 ^ 16
figure_fits n is = grind (arith, nat_tests, is)

is_figure : (n : ℕ) → n < 2 ^ 16 → is_between 0 65535 n ≡ true
is_figure n fits = grind (arith, nat_tests, fits)

-- Items.

ended_again : {A : Type 0} {w : A → List ℕ} {F : A → Type 0} {r : Reader A} (of : A → Item) → ReadsLast w F r
    → (a : A) (body : List ℕ) → body ≡ w a → F a → is_item (of a) ≡ true → made_item of r body ≡ Some (of a)
ended_again {A} {w} {F} {r} of reads a body spelled fits is =
    ap (made_item of r) spelled
    ∙ ap (λ (o : Option A). o >>= λ x. kept is_item (of x)) (whole_again reads a fits)
    ∙ ap (λ b. cond b (Some (of a)) None) is

made_again : {A : Type 0} {w : A → List ℕ} {F : A → Type 0} {r : Reader A} (of : A → Item) → Reads w F r
    → (a : A) (body : List ℕ) → body ≡ w a → F a → is_item (of a) ≡ true → made_item of r body ≡ Some (of a)
made_again of reads = ended_again of (at_last reads)

abbrev Found : Slot → List ℕ → Item → Type 0
Found s body i = IsItem i × (slot_of_item i ≡ s) × (body ≡ body_of i)

ended_takes : {A : Type 0} {w : A → List ℕ} {F : A → Type 0} {r : Reader A} (of : A → Item) (s : Slot) → ReadsLast w F r
    → ((a : A) → F a → HasFieldRanges (of a)) → ((a : A) → slot_of_item (of a) ≡ s) → ((a : A) → F a → w a ≡ body_of (of a))
    → (body : List ℕ) (i : Item) → IsBytes body → made_item of r body ≡ Some i → Found s body i
ended_takes {A} {w} {F} {r} of s reads ranges own spelled body i fits e =
    let a = got (whole_of r body) (λ a. kept is_item (of a)) i e in
    let both = cond_some (is_item (of a.0)) (of a.0) i a.2 in
    let t = whole_takes reads body a.0 fits a.1 in
    subst (λ (x : Item). Found s body x) both.1 ((ranges a.0 t.1, both.0), own a.0, t.0 ∙ spelled a.0 t.1)

made_takes : {A : Type 0} {w : A → List ℕ} {F : A → Type 0} {r : Reader A} (of : A → Item) (s : Slot) → Reads w F r
    → ((a : A) → F a → HasFieldRanges (of a)) → ((a : A) → slot_of_item (of a) ≡ s) → ((a : A) → F a → w a ≡ body_of (of a))
    → (body : List ℕ) (i : Item) → IsBytes body → made_item of r body ≡ Some i → Found s body i
made_takes of s reads = ended_takes of s (at_last reads)

gate : (b : Bool) (x : Option Item) (i : Item) → b ≡ true → x ≡ Some i → cond b x None ≡ Some i
gate b x i holds is = ap (λ t. cond t x None) holds ∙ is

gated : (b : Bool) (x : Option Item) (i : Item) → cond b x None ≡ Some i → (b ≡ true) × (x ≡ Some i)
gated true x i e = (refl, e)
gated false x i e = absurd (none-some i e)

and_true : (a b : Bool) → a ≡ true → b ≡ true → (a && b) ≡ true
and_true a b p q = ap (λ t. t && b) p ∙ q

and_parts : (a b : Bool) → (a && b) ≡ true → (a ≡ true) × (b ≡ true)
and_parts true b e = (refl, e)
and_parts false b e = absurd cc

grouped : (a b c d e f g : List ℕ) → a ++ b ++ c ++ d ++ e ++ f ++ g ≡ a ++ (b ++ (c ++ ((d ++ e) ++ (f ++ g))))
grouped a b c d e f g = simp append_assoc

league_spelled : (k : LeagueKind) (g c : ℕ) (o d n : List ℕ)
    → league_body k g c o d n ≡ byte (kind_number k) ++ (byte g ++ (number w32 c ++ ((byte (length o) ++ flat_map (number w32) o) ++ (short_text d ++ short_text n))))
league_spelled k g c o d n = grouped (byte (kind_number k)) (byte g) (number w32 c) (byte (length o)) (flat_map (number w32) o) (short_text d) (short_text n)

byte_len_fits : (n : ℕ) → nat_le n 255 ≡ true → n < 256
byte_len_fits n is = grind (arith, nat_tests, is)

cup_slots : (cup g : ℕ) (s c : List ℕ) → is_item (item.Cup cup g s c) ≡ true → length s < 2 ^ 16
cup_slots cup g s c is = grind (arith, nat_tests, is)

cup_coins : (cup g : ℕ) (s c : List ℕ) → is_item (item.Cup cup g s c) ≡ true → length c ≡ length s - 1
cup_coins cup g s c is = grind (arith, nat_tests, is)

season_takes : (body : List ℕ) (i : Item) → IsBytes body → season_in body ≡ Some i → Found (slot.Season) body i
unfolding season_in
season_takes = made_takes (λ (x : Profile × (ℕ × (ℕ × (ℕ × List ℕ)))). item.Season x.0 x.1.1.0 x.1.1.1.0 x.1.1.1.1) (slot.Season) (both_reads profile_reads (λ a. both_reads byte_reads (λ n. both_reads byte_reads (λ b. both_reads byte_reads (λ c. many_reads moment_reads n))))) (λ a f. (f.1.1.0, f.1.1.1.0, f.1.1.1.1.1)) (λ a. refl) (λ a f. ap (λ n. profile_number a.0 ∷ n ∷ a.1.1.0 ∷ a.1.1.1.0 ∷ flat_map (number w64) a.1.1.1.1) (sym f.1.1.1.1.0))

club_takes : (club : ℕ) → IsClub club → (body : List ℕ) (i : Item) → IsBytes body → club_in club body ≡ Some i → Found (slot.Club club) body i
unfolding club_in
club_takes club own = made_takes (λ (x : List ℕ). item.Club club x) (slot.Club club) (name_reads) (λ a f. (own, f)) (λ a. refl) (λ a f. refl)

player_takes : (player : ℕ) → IsPlayer player → (body : List ℕ) (i : Item) → IsBytes body → player_in player body ≡ Some i → Found (slot.Player player) body i
unfolding player_in
player_takes player own = made_takes (λ (x : Position × (ℕ × (ℕ × (Bool × List ℕ)))). item.Player player x.0 x.1.0 x.1.1.0 x.1.1.1.0 x.1.1.1.1) (slot.Player player) (both_reads position_reads (λ a. both_reads club_reads (λ b. both_reads u16_reads (λ c. both_reads flag_reads (λ d. name_reads))))) (λ a f. (own, f.1.0, f.1.1.0, f.1.1.1.1)) (λ a. refl) (λ a f. simp append_assoc)

fixture_takes : (fixture : ℕ) → IsPlayer fixture → (body : List ℕ) (i : Item) → IsBytes body → fixture_in fixture body ≡ Some i → Found (slot.Fixture fixture) body i
unfolding fixture_in
fixture_takes fixture own = made_takes (λ (x : ℕ × (ℕ × (Option ℕ × (ℕ × Bool)))). item.Fixture fixture x.0 x.1.0 x.1.1.0 x.1.1.1.0 x.1.1.1.1) (slot.Fixture fixture) (both_reads club_reads (λ a. both_reads club_reads (λ b. both_reads byte_place_reads (λ c. both_reads moment_reads (λ d. flag_reads))))) (λ a f. (own, f.0, f.1.0, f.1.1.0, f.1.1.1.0)) (λ a. refl) (λ a f. simp append_assoc)

line_takes : (fixture player : ℕ) → IsPlayer fixture → IsPlayer player → (body : List ℕ) (i : Item) → IsBytes body → line_in fixture player body ≡ Some i → Found (slot.Line fixture player) body i
unfolding line_in
line_takes fixture player own also = made_takes (λ (x : List ℕ). item.Line fixture player (record { figures = x })) (slot.Line fixture player) (many_reads u16_reads 28) (λ a f. (own, also, (f.0, all_as is_figure a f.1))) (λ a. refl) (λ a f. refl)

entry_takes : (entry : ℕ) → IsId entry → (body : List ℕ) (i : Item) → IsBytes body → entry_in entry body ≡ Some i → Found (slot.Entry entry) body i
unfolding entry_in
entry_takes entry own = made_takes (λ (x : Option ℕ × (List ℕ × List ℕ)). item.Entry entry x.0 x.1.0 x.1.1) (slot.Entry entry) (both_reads byte_place_reads (λ a. both_reads key_reads (λ b. name_reads))) (λ a f. (own, f.0, f.1.0, f.1.1)) (λ a. refl) (λ a f. simp append_assoc)

team_takes : (entry gameweek : ℕ) → IsId entry → IsGameweek gameweek → (body : List ℕ) (i : Item) → IsBytes body → team_in entry gameweek body ≡ Some i → Found (slot.Team entry gameweek) body i
unfolding team_in
team_takes entry gameweek own also = made_takes (λ (x : List (ℕ × ℕ) × (ℕ × (ℕ × (ℕ × Chip)))). item.Team entry gameweek x.0 x.1.0 x.1.1.0 x.1.1.1.0 x.1.1.1.1) (slot.Team entry gameweek) (both_reads (many_reads pick_reads 15) (λ a. both_reads byte_reads (λ b. both_reads byte_reads (λ c. both_reads u32_reads (λ d. chip_reads))))) (λ a f. (own, also, f.0.0, f.0.1, f.1.0, f.1.1.0, f.1.1.1.0)) (λ a. refl) (λ a f. simp append_assoc)

transfer_takes : (entry gameweek n : ℕ) → IsId entry → IsGameweek gameweek → (body : List ℕ) (i : Item) → IsBytes body → transfer_in entry gameweek n body ≡ Some i → Found (slot.Transfer entry gameweek n) body i
unfolding transfer_in
transfer_takes entry gameweek n own also = made_takes (λ (x : ℕ × (ℕ × (ℕ × ℕ))). item.Transfer entry gameweek n x.0 x.1.0 x.1.1.0 x.1.1.1) (slot.Transfer entry gameweek n) (both_reads player_reads (λ a. both_reads player_reads (λ b. both_reads u16_reads (λ c. u16_reads)))) (λ a f. (own, also, f.0, f.1.0, f.1.1.0, f.1.1.1)) (λ a. refl) (λ a f. simp append_assoc)

league_takes : (league : ℕ) → IsId league → (body : List ℕ) (i : Item) → IsBytes body → league_in league body ≡ Some i → Found (slot.League league) body i
unfolding league_in
league_takes league own = made_takes (λ (x : LeagueKind × (ℕ × (ℕ × (List ℕ × (List ℕ × List ℕ))))). item.League league x.0 x.1.0 x.1.1.0 x.1.1.1.0 x.1.1.1.1.0 x.1.1.1.1.1) (slot.League league) (both_reads kind_reads (λ a. both_reads start_reads (λ b. both_reads id_reads (λ c. both_reads (counted_reads byte_reads id_reads) (λ d. both_reads code_reads (λ e. name_reads)))))) (λ a f. (own, f.1.0, f.1.1.0, f.1.1.1.0.1, f.1.1.1.1.0, f.1.1.1.1.1)) (λ a. refl) (λ a f. sym (league_spelled a.0 a.1.0 a.1.1.0 a.1.1.1.0 a.1.1.1.1.0 a.1.1.1.1.1))

member_takes : (league entry : ℕ) → IsId league → IsId entry → (body : List ℕ) (i : Item) → IsBytes body → member_in league entry body ≡ Some i → Found (slot.Member league entry) body i
unfolding member_in
member_takes league entry own also = made_takes (λ (x : Unit {0}). item.Member league entry) (slot.Member league entry) (nothing_reads) (λ a f. (own, also)) (λ a. refl) (λ a f. refl)

cup_takes : (cup : ℕ) → IsId cup → (body : List ℕ) (i : Item) → IsBytes body → cup_in cup body ≡ Some i → Found (slot.Cup cup) body i
unfolding cup_in
cup_takes cup own = made_takes (λ (x : ℕ × (List ℕ × List ℕ)). item.Cup cup x.0 x.1.0 x.1.1) (slot.Cup cup) (both_reads start_reads (λ a. both_reads (counted_reads u16_reads u32_reads) (λ slots. many_reads byte_reads (length slots - 1)))) (λ a f. (own, f.0, f.1.0.1, f.1.1.1)) (λ a. refl) (λ a f. simp append_assoc)

last_takes : (caller : ℕ) → (body : List ℕ) (i : Item) → IsBytes body → last_in caller body ≡ Some i → Found (slot.Last caller) body i
unfolding last_in
last_takes caller = ended_takes (λ (x : ℕ × (ℕ × (ℕ × Command))). item.Last caller x.0 x.1.0 x.1.1.0 x.1.1.1) (slot.Last caller) (both_last u64_reads (λ a. both_last u16_reads (λ b. both_last u32_reads (λ c. command_reads)))) (λ a f. (f.0, f.1.0, f.1.1.0, f.1.1.1.0)) (λ a. refl) (λ a f. simp append_assoc)

in_takes : (s : Slot) (body : List ℕ) (i : Item) → IsBytes body → item_in s body ≡ Some i → Found s body i
in_takes slot.Season body i fits e = season_takes body i fits e
in_takes (slot.Club club) body i fits e = let g = gated _ _ i e in club_takes club g.0 body i fits g.1
in_takes (slot.Player player) body i fits e = let g = gated _ _ i e in player_takes player g.0 body i fits g.1
in_takes (slot.Fixture fixture) body i fits e = let g = gated _ _ i e in fixture_takes fixture g.0 body i fits g.1
in_takes (slot.Line fixture player) body i fits e = let g = gated _ _ i e in let h = and_parts _ _ g.0 in line_takes fixture player h.0 h.1 body i fits g.1
in_takes (slot.Entry entry) body i fits e = let g = gated _ _ i e in entry_takes entry g.0 body i fits g.1
in_takes (slot.Team entry gameweek) body i fits e = let g = gated _ _ i e in let h = and_parts _ _ g.0 in team_takes entry gameweek h.0 h.1 body i fits g.1
in_takes (slot.Transfer entry gameweek n) body i fits e = let g = gated _ _ i e in let h = and_parts _ _ g.0 in transfer_takes entry gameweek n h.0 h.1 body i fits g.1
in_takes (slot.League league) body i fits e = let g = gated _ _ i e in league_takes league g.0 body i fits g.1
in_takes (slot.Member league entry) body i fits e = let g = gated _ _ i e in let h = and_parts _ _ g.0 in member_takes league entry h.0 h.1 body i fits g.1
in_takes (slot.Cup cup) body i fits e = let g = gated _ _ i e in cup_takes cup g.0 body i fits g.1
in_takes (slot.Last caller) body i fits e = last_takes caller body i fits e

pub item_found : (k : RecordKey) (body : List ℕ) (i : Item) → IsBytes body → item_of k body ≡ Some i → IsItem i × (k ≡ key_of_item i) × (body ≡ body_of i)
item_found k body i fits e =
    let s = got (slot_of k) (λ s. item_in s body) i e in
    let f = in_takes s.0 body i fits s.2 in
    (f.0, named k s.0 s.1 ∙ ap key_of (sym f.1), f.2)

pub item_back : (i : Item) → IsItem i → item_of (key_of_item i) (body_of i) ≡ Some i
unfolding season_in club_in player_in fixture_in line_in entry_in team_in transfer_in league_in member_in cup_in last_in
item_back (item.Season p s l d) fits = made_again (λ (x : Profile × (ℕ × (ℕ × (ℕ × List ℕ)))). item.Season x.0 x.1.1.0 x.1.1.1.0 x.1.1.1.1) (both_reads profile_reads (λ a. both_reads byte_reads (λ n. both_reads byte_reads (λ b. both_reads byte_reads (λ c. many_reads moment_reads n))))) (p, (length d, (s, (l, d)))) _ refl (tt, (byte_len_fits (length d) fits.1, (fits.0.0, (fits.0.1, (refl, fits.0.2))))) fits.1
item_back (item.Club club n) fits = gate _ _ _ fits.0.0 (made_again (λ (x : List ℕ). item.Club club x) (name_reads) n _ refl fits.0.1 fits.1)
item_back (item.Player player p c t g n) fits = gate _ _ _ fits.0.0 (made_again (λ (x : Position × (ℕ × (ℕ × (Bool × List ℕ)))). item.Player player x.0 x.1.0 x.1.1.0 x.1.1.1.0 x.1.1.1.1) (both_reads position_reads (λ a. both_reads club_reads (λ b. both_reads u16_reads (λ c. both_reads flag_reads (λ d. name_reads))))) (p, (c, (t, (g, n)))) _ (simp append_assoc) (tt, (fits.0.1, (fits.0.2, (tt, fits.0.3)))) fits.1)
item_back (item.Fixture fixture h a g k m) fits = gate _ _ _ fits.0.0 (made_again (λ (x : ℕ × (ℕ × (Option ℕ × (ℕ × Bool)))). item.Fixture fixture x.0 x.1.0 x.1.1.0 x.1.1.1.0 x.1.1.1.1) (both_reads club_reads (λ a. both_reads club_reads (λ b. both_reads byte_place_reads (λ c. both_reads moment_reads (λ d. flag_reads))))) (h, (a, (g, (k, m)))) _ (simp append_assoc) (fits.0.1, (fits.0.2, (fits.0.3, (fits.0.4, tt)))) fits.1)
item_back (item.Line fixture player l) fits = gate _ _ _ (and_true _ _ fits.0.0 fits.0.1) (made_again (λ (x : List ℕ). item.Line fixture player (record { figures = x })) (many_reads u16_reads 28) l.figures _ refl (fits.0.2.0, all_as figure_fits l.figures fits.0.2.1) fits.1)
item_back (item.Entry entry g k n) fits = gate _ _ _ fits.0.0 (made_again (λ (x : Option ℕ × (List ℕ × List ℕ)). item.Entry entry x.0 x.1.0 x.1.1) (both_reads byte_place_reads (λ a. both_reads key_reads (λ b. name_reads))) (g, (k, n)) _ (simp append_assoc) (fits.0.1, (fits.0.2, fits.0.3)) fits.1)
item_back (item.Team entry gameweek p c v b h) fits = gate _ _ _ (and_true _ _ fits.0.0 fits.0.1) (made_again (λ (x : List (ℕ × ℕ) × (ℕ × (ℕ × (ℕ × Chip)))). item.Team entry gameweek x.0 x.1.0 x.1.1.0 x.1.1.1.0 x.1.1.1.1) (both_reads (many_reads pick_reads 15) (λ a. both_reads byte_reads (λ b. both_reads byte_reads (λ c. both_reads u32_reads (λ d. chip_reads))))) (p, (c, (v, (b, h)))) _ (simp append_assoc) ((fits.0.2, fits.0.3), (fits.0.4, (fits.0.5, (fits.0.6, tt)))) fits.1)
item_back (item.Transfer entry gameweek n o t s b) fits = gate _ _ _ (and_true _ _ fits.0.0 fits.0.1) (made_again (λ (x : ℕ × (ℕ × (ℕ × ℕ))). item.Transfer entry gameweek n x.0 x.1.0 x.1.1.0 x.1.1.1) (both_reads player_reads (λ a. both_reads player_reads (λ b. both_reads u16_reads (λ c. u16_reads)))) (o, (t, (s, b))) _ (simp append_assoc) (fits.0.2, (fits.0.3, (fits.0.4, fits.0.5))) fits.1)
item_back (item.League league k g c o d n) fits = gate _ _ _ fits.0.0 (made_again (λ (x : LeagueKind × (ℕ × (ℕ × (List ℕ × (List ℕ × List ℕ))))). item.League league x.0 x.1.0 x.1.1.0 x.1.1.1.0 x.1.1.1.1.0 x.1.1.1.1.1) (both_reads kind_reads (λ a. both_reads start_reads (λ b. both_reads id_reads (λ c. both_reads (counted_reads byte_reads id_reads) (λ d. both_reads code_reads (λ e. name_reads)))))) (k, (g, (c, (o, (d, n))))) _ (league_spelled k g c o d n) (tt, (fits.0.1, (fits.0.2, ((byte_len_fits (length o) fits.1, fits.0.3), (fits.0.4, fits.0.5))))) fits.1)
item_back (item.Member league entry) fits = gate _ _ _ (and_true _ _ fits.0.0 fits.0.1) (made_again (λ (x : Unit {0}). item.Member league entry) (nothing_reads) tt _ refl tt fits.1)
item_back (item.Cup cup g s c) fits = gate _ _ _ fits.0.0 (made_again (λ (x : ℕ × (List ℕ × List ℕ)). item.Cup cup x.0 x.1.0 x.1.1) (both_reads start_reads (λ a. both_reads (counted_reads u16_reads u32_reads) (λ slots. many_reads byte_reads (length slots - 1)))) (g, (s, c)) _ (simp append_assoc) (fits.0.1, ((cup_slots cup g s c fits.1, fits.0.2), (cup_coins cup g s c fits.1, fits.0.3))) fits.1)
item_back (item.Last caller n s m c) fits = ended_again (λ (x : ℕ × (ℕ × (ℕ × Command))). item.Last caller x.0 x.1.0 x.1.1.0 x.1.1.1) (both_last u64_reads (λ a. both_last u16_reads (λ b. both_last u32_reads (λ c. command_reads)))) (n, (s, (m, c))) _ (simp append_assoc) (fits.0.0, (fits.0.1, (fits.0.2, (fits.0.3, fits.1)))) fits.1
