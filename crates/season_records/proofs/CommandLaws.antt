-- A command that can be ordered is read of its bytes, and what is read is such a command with these bytes.
use Rattle.std.proofs.Common.{◌≡◌, ℕ, suc, ◌^◌, ◌<◌, ◌≤◌, Bool, true, false, cond, ◌==◌, nat_le, List, [], ◌∷◌, ◌++◌, length, Option, Some, None, refl, sym, ap, subst, ◌∙◌, append_assoc, arith}
use Rattle.std.specs.List.{AllByRecursion}
use Rattle.std.proofs.lemmas.Bool.{eqb-true}
use Rattle.std.proofs.lemmas.Bool.Decides.{nat_tests}
use Rattle.std.proofs.lemmas.Option.{same_Some, none-some, cond_some}
use Rattle.fpl_base.specs.Texts.{is_name, is_key, is_code}
use Rattle.fpl_base.specs.declared.kinds.Chip.{Chip}
use Rattle.fpl_base.specs.declared.kinds.Chip.TheVariants as chip
use Rattle.fpl_base.specs.declared.kinds.Position.{Position}
use Rattle.fpl_base.specs.declared.kinds.Position.TheVariants as position
use Rattle.fpl_base.specs.declared.kinds.Profile.{Profile}
use Rattle.fpl_base.specs.declared.kinds.Profile.TheVariants as profile
use Rattle.rule_book.specs.declared.league.LeagueKind.{LeagueKind}
use Rattle.rule_book.specs.declared.league.LeagueKind.TheVariants as kind
use Rattle.rule_book.specs.declared.line.Line.{Line}
use Rattle.rule_book.specs.declared.transfers.Swap.{Swap}
use Rattle.season_book.specs.declared.command.Command.{Command}
use Rattle.season_book.specs.declared.command.Command.TheVariants as command
use Rattle.record_fields.specs.FieldReading.{whole_in, place_at, flag_at, profile_end_at, position_at, chip_at, kind_at, long_text_at, player_at, club_at, gameweek_at, moment_at, id_at}
use Rattle.record_fields.specs.Fields.{whole, byte, or_zero, long_text, listed, flag, profile_end, position_number, chip_number, kind_number}
use Rattle.record_fields.specs.ListReading.{list_at, line_of, line_at, row_at, swap_of, swap_at, club_row_at, fifteen_at}
use Rattle.record_fields.specs.Lists.{club_bytes, line_bytes, row_bytes, swap_bytes}
use Rattle.record_fields.specs.Ranges.{is_between, IsClub, IsPlayer, IsId, IsGameweek, is_place, IsMoment, IsFigure, IsWide}
use Rattle.record_fields.specs.Reading.{Reader, ◌>>=◌, ◌then◌, kept, numbered}
use Rattle.record_fields.proofs.FieldLaws.{IsBytes, Taken, Takes, Reads, ReadsLast, at_last, got, byte_reads, u16_reads, u32_reads, u64_reads, both_reads, both_last, meant_reads, kept_reads, numbered_reads, within_reads, gameweek_reads, counted_reads, text_reads, whole_again, whole_takes, refit}
use Rattle.season_records.specs.Commands.{bytes_of_command, is_command}
use Rattle.season_records.specs.CommandReading.{made, season_at, deadline_at, new_player_at, amend_player_at, price_at, new_club_at, gone_at, new_fixture_at, move_at, amend_fixture_at, sheet_at, one_line_at, drop_at, finished_at, new_key_at, rekey_at, squad_at, transfers_at, lineup_at, new_chip_at, cancel_at, new_league_at, join_at, draw_at, new_cup_at, command_at, command_of}
use Rattle.season_records.specs.Ranges.{HasRanges, IsCommand}

-- Members.

pub whole_reads : (least most : ℕ) → most < 2 ^ 64 → Reads whole (λ n. is_between least most n ≡ true) (whole_in least most)
unfolding whole_in
whole_reads least most fits = within_reads (2 ^ 64) least most fits u64_reads

player_reads : Reads whole IsPlayer player_at
player_reads = whole_reads 1 999999 (omega arith)

club_reads : Reads whole IsClub club_at
club_reads = whole_reads 1 255 (omega arith)

start_reads : Reads whole IsGameweek gameweek_at
start_reads = whole_reads 1 38 (omega arith)

pub moment_reads : Reads whole IsMoment moment_at
moment_reads = whole_reads 0 253402300799 (omega arith)

entry_reads : Reads whole IsId id_at
entry_reads = whole_reads 1 4294967295 (omega arith)

figure_reads : Reads whole IsFigure (whole_in 0 65535)
figure_reads = whole_reads 0 65535 (omega arith)

place_reads : Reads (λ g. whole (or_zero g)) (λ g. is_place g ≡ true) place_at
unfolding place_at
place_reads = gameweek_reads (2 ^ 64) (omega arith) u64_reads

pub flag_reads : Reads (λ b. byte (flag b)) (λ b. Unit {0}) flag_at
unfolding flag_at
flag_reads = numbered_reads flag (false ∷ true ∷ []) there byte_reads
  where
    there : (b : Bool) → (numbered flag (false ∷ true ∷ []) (flag b) ≡ Some b) × (flag b < 256)
    there false = (refl, omega arith)
    there true = (refl, omega arith)

abbrev positions : List Position
positions = position.Keeper ∷ position.Defender ∷ position.Midfielder ∷ position.Forward ∷ []

pub position_reads : Reads (λ p. byte (position_number p)) (λ p. Unit {0}) position_at
unfolding position_at
position_reads = numbered_reads position_number positions there byte_reads
  where
    there : (p : Position) → (numbered position_number positions (position_number p) ≡ Some p) × (position_number p < 256)
    there position.Keeper = (refl, omega arith)
    there position.Defender = (refl, omega arith)
    there position.Midfielder = (refl, omega arith)
    there position.Forward = (refl, omega arith)

-- behind all else, where nothing is a profile too
profile_end_reads : ReadsLast profile_end (λ p. Unit {0}) profile_end_at
unfolding profile_end_at
profile_end_reads = record { again = again; takes = takes }
  where
    again : (p : Profile) → Unit {0} → profile_end_at (profile_end p) ≡ Some (p, [])
    again profile.A fits = refl
    again profile.B fits = refl

    takes : Takes profile_end (λ p. Unit {0}) profile_end_at
    takes [] x fits e =
        subst (λ (y : Profile × List ℕ). Taken [] (profile_end y.0) y.1 (Unit {0})) (same_Some {A = Profile × List ℕ} (profile.A, []) x e)
        (record { parts = refl; bytes_behind = fits; fits = tt })
    takes (n ∷ rest) x fits e =
        let both = cond_some (n == 2) (profile.B, rest) x e in
        subst (λ (y : Profile × List ℕ). Taken (n ∷ rest) (profile_end y.0) y.1 (Unit {0})) both.1
        (record { parts = ap (λ m. m ∷ rest) (eqb-true n 2 both.0); bytes_behind = λ i. fits (suc i); fits = tt })

abbrev chips : List Chip
chips = chip.None ∷ chip.Wildcard ∷ chip.FreeHit ∷ chip.BenchBoost ∷ chip.TripleCaptain ∷ []

pub chip_reads : Reads (λ c. byte (chip_number c)) (λ c. Unit {0}) chip_at
unfolding chip_at
chip_reads = numbered_reads chip_number chips there byte_reads
  where
    there : (c : Chip) → (numbered chip_number chips (chip_number c) ≡ Some c) × (chip_number c < 256)
    there chip.None = (refl, omega arith)
    there chip.Wildcard = (refl, omega arith)
    there chip.FreeHit = (refl, omega arith)
    there chip.BenchBoost = (refl, omega arith)
    there chip.TripleCaptain = (refl, omega arith)

abbrev kinds : List LeagueKind
kinds = kind.Classic ∷ kind.Head ∷ []

pub kind_reads : Reads (λ k. byte (kind_number k)) (λ k. Unit {0}) kind_at
unfolding kind_at
kind_reads = numbered_reads kind_number kinds there byte_reads
  where
    there : (k : LeagueKind) → (numbered kind_number kinds (kind_number k) ≡ Some k) × (kind_number k < 256)
    there kind.Classic = (refl, omega arith)
    there kind.Head = (refl, omega arith)

pub name_len : (t : List ℕ) → is_name t ≡ true → length t ≤ 64
name_len t is = grind (arith, nat_tests, is)

pub key_len : (t : List ℕ) → is_key t ≡ true → length t ≤ 64
key_len t is = grind (arith, nat_tests, is)

pub code_len : (t : List ℕ) → is_code t ≡ true → length t ≤ 64
code_len t is = grind (arith, nat_tests, is)

long_reads : (test : List ℕ → Bool) → ((t : List ℕ) → test t ≡ true → length t ≤ 64) → Reads long_text (λ t. test t ≡ true) (long_text_at test)
unfolding long_text_at
long_reads test len = refit (λ t is. (omega (arith, len t is), is)) (λ t fits. fits.1) (text_reads test u16_reads)

name_reads : Reads long_text (λ t. is_name t ≡ true) (long_text_at is_name)
name_reads = long_reads is_name name_len

key_reads : Reads long_text (λ t. is_key t ≡ true) (long_text_at is_key)
key_reads = long_reads is_key key_len

code_reads : Reads long_text (λ t. is_code t ≡ true) (long_text_at is_code)
code_reads = long_reads is_code code_len

list_reads : {A : Type 0} {w : A → List ℕ} {F : A → Type 0} {r : Reader A} → Reads w F r
    → Reads (listed w) (λ xs. (length xs < 2 ^ 16) × AllByRecursion F xs) (list_at r)
unfolding list_at
list_reads reads = counted_reads u16_reads reads

line_reads : Reads line_bytes IsWide line_at
unfolding line_at
line_reads = meant_reads line_of (λ line. line.figures) IsWide there here (list_reads figure_reads)
  where
    there : (line : Line) → IsWide line → (line_of line.figures ≡ Some line) × ((length line.figures < 2 ^ 16) × AllByRecursion IsFigure line.figures)
    there line fits = (ap (λ n. cond (n == 28) (Some line) None) fits.0, (omega (arith, fits.0), fits.1))

    here : (figures : List ℕ) (line : Line) → (length figures < 2 ^ 16) × AllByRecursion IsFigure figures → line_of figures ≡ Some line → (figures ≡ line.figures) × IsWide line
    here figures line fits e =
        let both = cond_some (length figures == 28) (record { figures = figures }) line e in
        subst (λ (x : Line). (figures ≡ x.figures) × IsWide x) both.1 (refl, (eqb-true _ _ both.0, fits.1))

row_reads : Reads row_bytes (λ row. IsPlayer row.0 × IsWide row.1) row_at
row_reads = both_reads player_reads (λ player. line_reads)

swap_reads : Reads swap_bytes (λ swap. IsPlayer swap.out × IsPlayer swap.into) swap_at
unfolding swap_at
swap_reads = meant_reads swap_of (λ swap. (swap.out, swap.into)) (λ swap. IsPlayer swap.out × IsPlayer swap.into)
    (λ swap fits. (refl, fits))
    (λ pair swap fits e. subst (λ (x : Swap). (pair ≡ (x.out, x.into)) × (IsPlayer x.out × IsPlayer x.into)) (same_Some {A = Swap} _ swap e) (refl, fits))
    (both_reads player_reads (λ player. player_reads))

club_row_reads : Reads club_bytes (λ club. IsClub club.0 × (is_name club.1 ≡ true)) club_row_at
club_row_reads = both_reads club_reads (λ club. name_reads)

fifteen_reads : Reads (listed whole) (λ players. (length players ≡ 15) × AllByRecursion IsPlayer players) fifteen_at
unfolding fifteen_at
fifteen_reads =
    refit (λ players fits. ((omega (arith, fits.0), fits.1), ap (λ n. n == 15) fits.0)) (λ players fits. (eqb-true _ _ fits.1, fits.0.1))
    (kept_reads (λ players. length players == 15) (list_reads player_reads))

-- Commands.

made_again : {A : Type 0} {w : A → List ℕ} {F : A → Type 0} {r : Reader A} (of : A → Command) → ReadsLast w F r
    → (a : A) → F a → is_command (of a) ≡ true → made of r (w a) ≡ Some (of a, [])
made_again {A} of reads a fits is =
    ap (λ (o : Option (A × List ℕ)). o >>= λ x. kept is_command (of x.0) >>= λ c. Some (c, x.1)) (reads.again a fits)
    ∙ ap (λ b. cond b (Some (of a)) None >>= λ c. Some (c, [])) is

-- behind its number
command_made : {A : Type 0} {w : A → List ℕ} {F : A → Type 0} {r : Reader A} (of : A → Command) (k : ℕ) → ReadsLast w F r
    → ((a : A) → bytes_of_command (of a) ≡ k ∷ w a) → ((t : List ℕ) → command_at (k ∷ t) ≡ made of r t)
    → (a : A) → F a → is_command (of a) ≡ true → command_at (bytes_of_command (of a)) ≡ Some (of a, [])
command_made {A} {w} of k reads spelled numbered a fits is =
    ap command_at (spelled a) ∙ numbered (w a) ∙ made_again of reads a fits is

abbrev TakesCommand : ℕ → List ℕ → Command × List ℕ → Type 0
TakesCommand k bytes x = Taken (k ∷ bytes) (bytes_of_command x.0) x.1 (IsCommand x.0)

made_takes : {A : Type 0} {w : A → List ℕ} {F : A → Type 0} {r : Reader A} (of : A → Command) (k : ℕ) → ReadsLast w F r
    → ((a : A) → F a → HasRanges (of a)) → ((a : A) → bytes_of_command (of a) ≡ k ∷ w a)
    → (bytes : List ℕ) (x : Command × List ℕ) → IsBytes bytes → made of r bytes ≡ Some x → TakesCommand k bytes x
made_takes {A} {w} {F} {r} of k reads ranges spelled bytes x fits e =
    let a = got (r bytes) (λ a. kept is_command (of a.0) >>= λ c. Some (c, a.1)) x e in
    let b = got (kept is_command (of a.0.0)) (λ c. Some (c, a.0.1)) x a.2 in
    let both = cond_some (is_command (of a.0.0)) (of a.0.0) b.0 b.1 in
    let t = reads.takes bytes a.0 fits a.1 in
    subst (λ (y : Command × List ℕ). TakesCommand k bytes y) (ap (λ (c : Command). (c, a.0.1)) both.1 ∙ same_Some {A = Command × List ℕ} (b.0, a.0.1) x b.2)
    (record {
      parts = ap (λ (t : List ℕ). k ∷ t) t.parts ∙ ap (λ (t : List ℕ). t ++ a.0.1) (sym (spelled a.0.0));
      bytes_behind = t.bytes_behind;
      fits = (ranges a.0.0 t.fits, both.0);
    })

season_reads : ReadsLast (λ (x : List ℕ × (ℕ × (List (ℕ × List ℕ) × Profile))). listed whole x.0 ++ (whole x.1.0 ++ (listed club_bytes x.1.1.0 ++ profile_end x.1.1.1)))
    (λ x. ((length x.0 < 2 ^ 16) × AllByRecursion IsMoment x.0) × ((is_between 0 255 x.1.0 ≡ true) × (((length x.1.1.0 < 2 ^ 16) × AllByRecursion (λ club. IsClub club.0 × (is_name club.1 ≡ true)) x.1.1.0) × Unit {0})))
    (list_at moment_at then whole_in 0 255 then list_at club_row_at then profile_end_at)
season_reads = both_last (list_reads moment_reads) (λ a. both_last (whole_reads 0 255 (omega arith)) (λ b. both_last (list_reads club_row_reads) (λ c. profile_end_reads)))

season_takes : (bytes : List ℕ) (x : Command × List ℕ) → IsBytes bytes → season_at bytes ≡ Some x → TakesCommand 1 bytes x
unfolding season_at
season_takes = made_takes (λ (x : List ℕ × (ℕ × (List (ℕ × List ℕ) × Profile))). command.Season x.1.1.1 x.0 x.1.0 x.1.1.0) 1 season_reads (λ a f. (f.0.1, f.1.0, f.1.1.0.1)) (λ a. simp append_assoc)

deadline_takes : (bytes : List ℕ) (x : Command × List ℕ) → IsBytes bytes → deadline_at bytes ≡ Some x → TakesCommand 2 bytes x
unfolding deadline_at
deadline_takes = made_takes (λ (x : ℕ × ℕ). command.Deadline x.0 x.1) 2 (at_last (both_reads start_reads (λ a. moment_reads))) (λ a f. f) (λ a. refl)

player_takes : (bytes : List ℕ) (x : Command × List ℕ) → IsBytes bytes → new_player_at bytes ≡ Some x → TakesCommand 3 bytes x
unfolding new_player_at
player_takes = made_takes (λ (x : ℕ × (List ℕ × (Position × (ℕ × ℕ)))). command.Player x.0 x.1.0 x.1.1.0 x.1.1.1.0 x.1.1.1.1) 3 (at_last (both_reads player_reads (λ a. both_reads name_reads (λ b. both_reads position_reads (λ c. both_reads club_reads (λ d. figure_reads)))))) (λ a f. (f.0, f.1.0, f.1.1.1.0, f.1.1.1.1)) (λ a. simp append_assoc)

amend_player_takes : (bytes : List ℕ) (x : Command × List ℕ) → IsBytes bytes → amend_player_at bytes ≡ Some x → TakesCommand 24 bytes x
unfolding amend_player_at
amend_player_takes = made_takes (λ (x : ℕ × (List ℕ × Position)). command.AmendPlayer x.0 x.1.0 x.1.1) 24 (at_last (both_reads u32_reads (λ a. both_reads name_reads (λ b. position_reads)))) (λ a f. (f.0, f.1.0)) (λ a. simp append_assoc)

price_takes : (bytes : List ℕ) (x : Command × List ℕ) → IsBytes bytes → price_at bytes ≡ Some x → TakesCommand 4 bytes x
unfolding price_at
price_takes = made_takes (λ (x : ℕ × ℕ). command.Price x.0 x.1) 4 (at_last (both_reads player_reads (λ a. figure_reads))) (λ a f. f) (λ a. refl)

club_takes : (bytes : List ℕ) (x : Command × List ℕ) → IsBytes bytes → new_club_at bytes ≡ Some x → TakesCommand 5 bytes x
unfolding new_club_at
club_takes = made_takes (λ (x : ℕ × ℕ). command.Club x.0 x.1) 5 (at_last (both_reads player_reads (λ a. club_reads))) (λ a f. f) (λ a. refl)

gone_takes : (bytes : List ℕ) (x : Command × List ℕ) → IsBytes bytes → gone_at bytes ≡ Some x → TakesCommand 6 bytes x
unfolding gone_at
gone_takes = made_takes (λ (x : ℕ × Bool). command.Gone x.0 x.1) 6 (at_last (both_reads player_reads (λ a. flag_reads))) (λ a f. f.0) (λ a. refl)

fixture_takes : (bytes : List ℕ) (x : Command × List ℕ) → IsBytes bytes → new_fixture_at bytes ≡ Some x → TakesCommand 7 bytes x
unfolding new_fixture_at
fixture_takes = made_takes (λ (x : ℕ × (ℕ × (ℕ × (Option ℕ × ℕ)))). command.Fixture x.0 x.1.0 x.1.1.0 x.1.1.1.0 x.1.1.1.1) 7 (at_last (both_reads player_reads (λ a. both_reads club_reads (λ b. both_reads club_reads (λ c. both_reads place_reads (λ d. moment_reads)))))) (λ a f. (f.0, f.1.0, f.1.1.0, f.1.1.1.0, f.1.1.1.1)) (λ a. simp append_assoc)

move_takes : (bytes : List ℕ) (x : Command × List ℕ) → IsBytes bytes → move_at bytes ≡ Some x → TakesCommand 8 bytes x
unfolding move_at
move_takes = made_takes (λ (x : ℕ × (Option ℕ × ℕ)). command.Move x.0 x.1.0 x.1.1) 8 (at_last (both_reads u32_reads (λ a. both_reads place_reads (λ b. moment_reads)))) (λ a f. (f.0, f.1.0, f.1.1)) (λ a. simp append_assoc)

amend_fixture_takes : (bytes : List ℕ) (x : Command × List ℕ) → IsBytes bytes → amend_fixture_at bytes ≡ Some x → TakesCommand 25 bytes x
unfolding amend_fixture_at
amend_fixture_takes = made_takes (λ (x : ℕ × (ℕ × ℕ)). command.AmendFixture x.0 x.1.0 x.1.1) 25 (at_last (both_reads u32_reads (λ a. both_reads club_reads (λ b. club_reads)))) (λ a f. (f.0, f.1.0, f.1.1)) (λ a. simp append_assoc)

sheet_takes : (bytes : List ℕ) (x : Command × List ℕ) → IsBytes bytes → sheet_at bytes ≡ Some x → TakesCommand 9 bytes x
unfolding sheet_at
sheet_takes = made_takes (λ (x : ℕ × (List (ℕ × Line) × Bool)). command.Sheet x.0 x.1.0 x.1.1) 9 (at_last (both_reads u32_reads (λ a. both_reads (list_reads row_reads) (λ b. flag_reads)))) (λ a f. (f.0, f.1.0.1)) (λ a. simp append_assoc)

line_takes : (bytes : List ℕ) (x : Command × List ℕ) → IsBytes bytes → one_line_at bytes ≡ Some x → TakesCommand 10 bytes x
unfolding one_line_at
line_takes = made_takes (λ (x : ℕ × (ℕ × Line)). command.Line x.0 x.1.0 x.1.1) 10 (at_last (both_reads u32_reads (λ a. both_reads player_reads (λ b. line_reads)))) (λ a f. (f.0, f.1.0, f.1.1)) (λ a. simp append_assoc)

drop_takes : (bytes : List ℕ) (x : Command × List ℕ) → IsBytes bytes → drop_at bytes ≡ Some x → TakesCommand 11 bytes x
unfolding drop_at
drop_takes = made_takes (λ (x : ℕ × ℕ). command.Drop x.0 x.1) 11 (at_last (both_reads u32_reads (λ a. player_reads))) (λ a f. f) (λ a. refl)

finished_takes : (bytes : List ℕ) (x : Command × List ℕ) → IsBytes bytes → finished_at bytes ≡ Some x → TakesCommand 12 bytes x
unfolding finished_at
finished_takes = made_takes (λ (x : ℕ × Bool). command.Finished x.0 x.1) 12 (at_last (both_reads u32_reads (λ a. flag_reads))) (λ a f. f.0) (λ a. refl)

key_takes : (bytes : List ℕ) (x : Command × List ℕ) → IsBytes bytes → new_key_at bytes ≡ Some x → TakesCommand 13 bytes x
unfolding new_key_at
key_takes = made_takes (λ (x : List ℕ × List ℕ). command.Key x.0 x.1) 13 (at_last (both_reads key_reads (λ a. name_reads))) (λ a f. f) (λ a. refl)

rekey_takes : (bytes : List ℕ) (x : Command × List ℕ) → IsBytes bytes → rekey_at bytes ≡ Some x → TakesCommand 23 bytes x
unfolding rekey_at
rekey_takes = made_takes (λ (x : ℕ × (List ℕ × List ℕ)). command.Rekey x.0 x.1.0 x.1.1) 23 (at_last (both_reads u32_reads (λ a. both_reads key_reads (λ b. name_reads)))) (λ a f. (f.0, f.1.0, f.1.1)) (λ a. simp append_assoc)

squad_takes : (bytes : List ℕ) (x : Command × List ℕ) → IsBytes bytes → squad_at bytes ≡ Some x → TakesCommand 14 bytes x
unfolding squad_at
squad_takes = made_takes (λ (x : List ℕ × (ℕ × ℕ)). command.Squad x.0 x.1.0 x.1.1) 14 (at_last (both_reads fifteen_reads (λ a. both_reads player_reads (λ b. player_reads)))) (λ a f. (f.0.0, f.0.1, f.1.0, f.1.1)) (λ a. simp append_assoc)

transfers_takes : (bytes : List ℕ) (x : Command × List ℕ) → IsBytes bytes → transfers_at bytes ≡ Some x → TakesCommand 15 bytes x
unfolding transfers_at
transfers_takes = made_takes (λ (x : List Swap). command.Transfers x) 15 (at_last (list_reads swap_reads)) (λ a f. f.1) (λ a. refl)

lineup_takes : (bytes : List ℕ) (x : Command × List ℕ) → IsBytes bytes → lineup_at bytes ≡ Some x → TakesCommand 16 bytes x
unfolding lineup_at
lineup_takes = made_takes (λ (x : List ℕ × (ℕ × ℕ)). command.Lineup x.0 x.1.0 x.1.1) 16 (at_last (both_reads fifteen_reads (λ a. both_reads player_reads (λ b. player_reads)))) (λ a f. (f.0.0, f.0.1, f.1.0, f.1.1)) (λ a. simp append_assoc)

chip_takes : (bytes : List ℕ) (x : Command × List ℕ) → IsBytes bytes → new_chip_at bytes ≡ Some x → TakesCommand 17 bytes x
unfolding new_chip_at
chip_takes = made_takes (λ (x : Chip). command.Chip x) 17 (at_last chip_reads) (λ a f. tt) (λ a. refl)

league_takes : (bytes : List ℕ) (x : Command × List ℕ) → IsBytes bytes → new_league_at bytes ≡ Some x → TakesCommand 19 bytes x
unfolding new_league_at
league_takes = made_takes (λ (x : LeagueKind × (List ℕ × (List ℕ × ℕ))). command.League x.0 x.1.0 x.1.1.0 x.1.1.1) 19 (at_last (both_reads kind_reads (λ a. both_reads name_reads (λ b. both_reads code_reads (λ c. start_reads))))) (λ a f. (f.1.0, f.1.1.0, f.1.1.1)) (λ a. simp append_assoc)

join_takes : (bytes : List ℕ) (x : Command × List ℕ) → IsBytes bytes → join_at bytes ≡ Some x → TakesCommand 20 bytes x
unfolding join_at
join_takes = made_takes (λ (x : ℕ × List ℕ). command.Join x.0 x.1) 20 (at_last (both_reads u32_reads (λ a. code_reads))) (λ a f. f) (λ a. refl)

draw_takes : (bytes : List ℕ) (x : Command × List ℕ) → IsBytes bytes → draw_at bytes ≡ Some x → TakesCommand 21 bytes x
unfolding draw_at
draw_takes = made_takes (λ (x : ℕ × List ℕ). command.Draw x.0 x.1) 21 (at_last (both_reads u32_reads (λ a. list_reads entry_reads))) (λ a f. (f.0, f.1.1)) (λ a. simp append_assoc)

cup_takes : (bytes : List ℕ) (x : Command × List ℕ) → IsBytes bytes → new_cup_at bytes ≡ Some x → TakesCommand 22 bytes x
unfolding new_cup_at
cup_takes = made_takes (λ (x : ℕ × (List ℕ × List ℕ)). command.Cup x.0 x.1.0 x.1.1) 22 (at_last (both_reads start_reads (λ a. both_reads (list_reads (whole_reads 0 4294967295 (omega arith))) (λ b. list_reads (whole_reads 0 255 (omega arith)))))) (λ a f. (f.0, f.1.0.1, f.1.1.1)) (λ a. simp append_assoc)

-- the chain of the numbers
choose : (n k : ℕ) (bytes : List ℕ) (x : Command × List ℕ) (here other : Option (Command × List ℕ)) → (here ≡ Some x → TakesCommand k bytes x)
    → (other ≡ Some x → TakesCommand n bytes x) → cond (n == k) here other ≡ Some x → TakesCommand n bytes x
choose n k bytes x here other now more e = at (n == k) refl e
  where
    at : (t : Bool) → (n == k) ≡ t → cond t here other ≡ Some x → TakesCommand n bytes x
    at true is e = subst (λ m. TakesCommand m bytes x) (sym (eqb-true n k is)) (now e)
    at false is e = more e

cancel_takes : (bytes : List ℕ) (x : Command × List ℕ) → IsBytes bytes → cancel_at bytes ≡ Some x → TakesCommand 18 bytes x
unfolding cancel_at
cancel_takes bytes x fits e =
    subst (λ (y : Command × List ℕ). TakesCommand 18 bytes y) (same_Some {A = Command × List ℕ} (command.CancelChip, bytes) x e)
    (record { parts = refl; bytes_behind = fits; fits = (tt, refl) })

command_takes : (bytes : List ℕ) (x : Command × List ℕ) → IsBytes bytes → command_at bytes ≡ Some x → Taken bytes (bytes_of_command x.0) x.1 (IsCommand x.0)
unfolding command_at
command_takes [] x fits e = absurd (none-some x e)
command_takes (n ∷ bytes) x whole_fits e =
    let fits : IsBytes bytes = λ i. whole_fits (suc i) in
    choose n 1 bytes x _ _ (season_takes bytes x fits)
    (choose n 2 bytes x _ _ (deadline_takes bytes x fits)
    (choose n 3 bytes x _ _ (player_takes bytes x fits)
    (choose n 4 bytes x _ _ (price_takes bytes x fits)
    (choose n 5 bytes x _ _ (club_takes bytes x fits)
    (choose n 6 bytes x _ _ (gone_takes bytes x fits)
    (choose n 7 bytes x _ _ (fixture_takes bytes x fits)
    (choose n 8 bytes x _ _ (move_takes bytes x fits)
    (choose n 9 bytes x _ _ (sheet_takes bytes x fits)
    (choose n 10 bytes x _ _ (line_takes bytes x fits)
    (choose n 11 bytes x _ _ (drop_takes bytes x fits)
    (choose n 12 bytes x _ _ (finished_takes bytes x fits)
    (choose n 13 bytes x _ _ (key_takes bytes x fits)
    (choose n 14 bytes x _ _ (squad_takes bytes x fits)
    (choose n 15 bytes x _ _ (transfers_takes bytes x fits)
    (choose n 16 bytes x _ _ (lineup_takes bytes x fits)
    (choose n 17 bytes x _ _ (chip_takes bytes x fits)
    (choose n 18 bytes x _ _ (cancel_takes bytes x fits)
    (choose n 19 bytes x _ _ (league_takes bytes x fits)
    (choose n 20 bytes x _ _ (join_takes bytes x fits)
    (choose n 21 bytes x _ _ (draw_takes bytes x fits)
    (choose n 22 bytes x _ _ (cup_takes bytes x fits)
    (choose n 23 bytes x _ _ (rekey_takes bytes x fits)
    (choose n 24 bytes x _ _ (amend_player_takes bytes x fits)
    (choose n 25 bytes x _ _ (amend_fixture_takes bytes x fits)
    (λ nothing. absurd (none-some x nothing)))))))))))))))))))))))))) e

at_most : (most n : ℕ) → most < 2 ^ 16 → nat_le n most ≡ true → n < 2 ^ 16
at_most most n small is = grind (arith, nat_tests, is)

season_deadlines : (p : Profile) (d : List ℕ) (s : ℕ) (c : List (ℕ × List ℕ)) → is_command (command.Season p d s c) ≡ true → length d < 2 ^ 16
season_deadlines p d s c is = grind (arith, nat_tests, is)

season_clubs : (p : Profile) (d : List ℕ) (s : ℕ) (c : List (ℕ × List ℕ)) → is_command (command.Season p d s c) ≡ true → length c < 2 ^ 16
season_clubs p d s c is = grind (arith, nat_tests, is)

swaps_len : (s : List Swap) → is_between 1 15 (length s) ≡ true → length s < 2 ^ 16
swaps_len s is = grind (arith, nat_tests, is)

cup_slots : (g : ℕ) (s c : List ℕ) → is_command (command.Cup g s c) ≡ true → length s < 2 ^ 16
cup_slots g s c is = grind (arith, nat_tests, is)

cup_coins : (g : ℕ) (s c : List ℕ) → is_command (command.Cup g s c) ≡ true → length c < 2 ^ 16
cup_coins g s c is = grind (arith, nat_tests, is)

command_again : (c : Command) → IsCommand c → command_at (bytes_of_command c) ≡ Some (c, [])
unfolding command_at season_at deadline_at new_player_at amend_player_at price_at new_club_at gone_at new_fixture_at move_at amend_fixture_at sheet_at one_line_at drop_at finished_at new_key_at rekey_at squad_at transfers_at lineup_at new_chip_at cancel_at new_league_at join_at draw_at new_cup_at
command_again (command.Season p d s c) fits = command_made (λ (x : List ℕ × (ℕ × (List (ℕ × List ℕ) × Profile))). command.Season x.1.1.1 x.0 x.1.0 x.1.1.0) 1 season_reads (λ a. simp append_assoc) (λ t. refl) (d, (s, (c, p))) ((season_deadlines p d s c fits.1, fits.0.0), (fits.0.1, ((season_clubs p d s c fits.1, fits.0.2), tt))) fits.1
command_again (command.Deadline g d) fits = command_made (λ (x : ℕ × ℕ). command.Deadline x.0 x.1) 2 (at_last (both_reads start_reads (λ a. moment_reads))) (λ a. refl) (λ t. refl) (g, d) fits.0 fits.1
command_again (command.Player id n p c t) fits = command_made (λ (x : ℕ × (List ℕ × (Position × (ℕ × ℕ)))). command.Player x.0 x.1.0 x.1.1.0 x.1.1.1.0 x.1.1.1.1) 3 (at_last (both_reads player_reads (λ a. both_reads name_reads (λ b. both_reads position_reads (λ c. both_reads club_reads (λ d. figure_reads)))))) (λ a. simp append_assoc) (λ t. refl) (id, (n, (p, (c, t)))) (fits.0.0, (fits.0.1, (tt, (fits.0.2, fits.0.3)))) fits.1
command_again (command.AmendPlayer p n o) fits = command_made (λ (x : ℕ × (List ℕ × Position)). command.AmendPlayer x.0 x.1.0 x.1.1) 24 (at_last (both_reads u32_reads (λ a. both_reads name_reads (λ b. position_reads)))) (λ a. simp append_assoc) (λ t. refl) (p, (n, o)) (fits.0.0, (fits.0.1, tt)) fits.1
command_again (command.Price p t) fits = command_made (λ (x : ℕ × ℕ). command.Price x.0 x.1) 4 (at_last (both_reads player_reads (λ a. figure_reads))) (λ a. refl) (λ t. refl) (p, t) fits.0 fits.1
command_again (command.Club p c) fits = command_made (λ (x : ℕ × ℕ). command.Club x.0 x.1) 5 (at_last (both_reads player_reads (λ a. club_reads))) (λ a. refl) (λ t. refl) (p, c) fits.0 fits.1
command_again (command.Gone p g) fits = command_made (λ (x : ℕ × Bool). command.Gone x.0 x.1) 6 (at_last (both_reads player_reads (λ a. flag_reads))) (λ a. refl) (λ t. refl) (p, g) (fits.0, tt) fits.1
command_again (command.Fixture id h a g k) fits = command_made (λ (x : ℕ × (ℕ × (ℕ × (Option ℕ × ℕ)))). command.Fixture x.0 x.1.0 x.1.1.0 x.1.1.1.0 x.1.1.1.1) 7 (at_last (both_reads player_reads (λ a. both_reads club_reads (λ b. both_reads club_reads (λ c. both_reads place_reads (λ d. moment_reads)))))) (λ a. simp append_assoc) (λ t. refl) (id, (h, (a, (g, k)))) (fits.0.0, (fits.0.1, (fits.0.2, (fits.0.3, fits.0.4)))) fits.1
command_again (command.Move x g k) fits = command_made (λ (x : ℕ × (Option ℕ × ℕ)). command.Move x.0 x.1.0 x.1.1) 8 (at_last (both_reads u32_reads (λ a. both_reads place_reads (λ b. moment_reads)))) (λ a. simp append_assoc) (λ t. refl) (x, (g, k)) (fits.0.0, (fits.0.1, fits.0.2)) fits.1
command_again (command.AmendFixture x h a) fits = command_made (λ (x : ℕ × (ℕ × ℕ)). command.AmendFixture x.0 x.1.0 x.1.1) 25 (at_last (both_reads u32_reads (λ a. both_reads club_reads (λ b. club_reads)))) (λ a. simp append_assoc) (λ t. refl) (x, (h, a)) (fits.0.0, (fits.0.1, fits.0.2)) fits.1
command_again (command.Sheet x l m) fits = command_made (λ (x : ℕ × (List (ℕ × Line) × Bool)). command.Sheet x.0 x.1.0 x.1.1) 9 (at_last (both_reads u32_reads (λ a. both_reads (list_reads row_reads) (λ b. flag_reads)))) (λ a. simp append_assoc) (λ t. refl) (x, (l, m)) (fits.0.0, ((at_most 100 (length l) (omega arith) fits.1, fits.0.1), tt)) fits.1
command_again (command.Line x p l) fits = command_made (λ (x : ℕ × (ℕ × Line)). command.Line x.0 x.1.0 x.1.1) 10 (at_last (both_reads u32_reads (λ a. both_reads player_reads (λ b. line_reads)))) (λ a. simp append_assoc) (λ t. refl) (x, (p, l)) (fits.0.0, (fits.0.1, fits.0.2)) fits.1
command_again (command.Drop x p) fits = command_made (λ (x : ℕ × ℕ). command.Drop x.0 x.1) 11 (at_last (both_reads u32_reads (λ a. player_reads))) (λ a. refl) (λ t. refl) (x, p) fits.0 fits.1
command_again (command.Finished x m) fits = command_made (λ (x : ℕ × Bool). command.Finished x.0 x.1) 12 (at_last (both_reads u32_reads (λ a. flag_reads))) (λ a. refl) (λ t. refl) (x, m) (fits.0, tt) fits.1
command_again (command.Key k n) fits = command_made (λ (x : List ℕ × List ℕ). command.Key x.0 x.1) 13 (at_last (both_reads key_reads (λ a. name_reads))) (λ a. refl) (λ t. refl) (k, n) fits.0 fits.1
command_again (command.Rekey e k n) fits = command_made (λ (x : ℕ × (List ℕ × List ℕ)). command.Rekey x.0 x.1.0 x.1.1) 23 (at_last (both_reads u32_reads (λ a. both_reads key_reads (λ b. name_reads)))) (λ a. simp append_assoc) (λ t. refl) (e, (k, n)) (fits.0.0, (fits.0.1, fits.0.2)) fits.1
command_again (command.Squad p c v) fits = command_made (λ (x : List ℕ × (ℕ × ℕ)). command.Squad x.0 x.1.0 x.1.1) 14 (at_last (both_reads fifteen_reads (λ a. both_reads player_reads (λ b. player_reads)))) (λ a. simp append_assoc) (λ t. refl) (p, (c, v)) ((fits.0.0, fits.0.1), (fits.0.2, fits.0.3)) fits.1
command_again (command.Transfers s) fits = command_made (λ (x : List Swap). command.Transfers x) 15 (at_last (list_reads swap_reads)) (λ a. refl) (λ t. refl) s (swaps_len s fits.1, fits.0) fits.1
command_again (command.Lineup p c v) fits = command_made (λ (x : List ℕ × (ℕ × ℕ)). command.Lineup x.0 x.1.0 x.1.1) 16 (at_last (both_reads fifteen_reads (λ a. both_reads player_reads (λ b. player_reads)))) (λ a. simp append_assoc) (λ t. refl) (p, (c, v)) ((fits.0.0, fits.0.1), (fits.0.2, fits.0.3)) fits.1
command_again (command.Chip c) fits = command_made (λ (x : Chip). command.Chip x) 17 (at_last chip_reads) (λ a. refl) (λ t. refl) c tt fits.1
command_again command.CancelChip fits = refl
command_again (command.League k n c g) fits = command_made (λ (x : LeagueKind × (List ℕ × (List ℕ × ℕ))). command.League x.0 x.1.0 x.1.1.0 x.1.1.1) 19 (at_last (both_reads kind_reads (λ a. both_reads name_reads (λ b. both_reads code_reads (λ c. start_reads))))) (λ a. simp append_assoc) (λ t. refl) (k, (n, (c, g))) (tt, (fits.0.0, (fits.0.1, fits.0.2))) fits.1
command_again (command.Join x c) fits = command_made (λ (x : ℕ × List ℕ). command.Join x.0 x.1) 20 (at_last (both_reads u32_reads (λ a. code_reads))) (λ a. refl) (λ t. refl) (x, c) fits.0 fits.1
command_again (command.Draw x o) fits = command_made (λ (x : ℕ × List ℕ). command.Draw x.0 x.1) 21 (at_last (both_reads u32_reads (λ a. list_reads entry_reads))) (λ a. simp append_assoc) (λ t. refl) (x, o) (fits.0.0, (at_most 64 (length o) (omega arith) fits.1, fits.0.1)) fits.1
command_again (command.Cup g s c) fits = command_made (λ (x : ℕ × (List ℕ × List ℕ)). command.Cup x.0 x.1.0 x.1.1) 22 (at_last (both_reads start_reads (λ a. both_reads (list_reads (whole_reads 0 4294967295 (omega arith))) (λ b. list_reads (whole_reads 0 255 (omega arith)))))) (λ a. simp append_assoc) (λ t. refl) (g, (s, c)) (fits.0.0, ((cup_slots g s c fits.1, fits.0.1), (cup_coins g s c fits.1, fits.0.2))) fits.1

pub command_reads : ReadsLast bytes_of_command IsCommand command_at
command_reads = record { again = command_again; takes = command_takes }

-- so the bytes of a command that can be ordered are its own
pub command_back : (c : Command) → IsCommand c → command_of (bytes_of_command c) ≡ Some c
command_back c fits = whole_again command_reads c fits

pub command_found : (bytes : List ℕ) (c : Command) → IsBytes bytes → command_of bytes ≡ Some c → IsCommand c × (bytes ≡ bytes_of_command c)
command_found bytes c fits e = let t = whole_takes command_reads bytes c fits e in (t.1, t.0)

pub commands_differ : (a b : Command) → IsCommand a → IsCommand b → bytes_of_command a ≡ bytes_of_command b → a ≡ b
commands_differ a b fits also same = same_Some a b (sym (command_back a fits) ∙ ap command_of same ∙ command_back b also)
