-- The lawful records of an entry are those from which its book is restored.
use Rattle.std.specs.Prelude.{◌≡◌, ◌<◌, ℕ, ◌&&◌, ◌==◌, false, List, [], ◌∷◌, map, Option, Some, None, if◌then◌else◌, ⊤, ◌⊎◌}
use Rattle.std.specs.Option.{option_map}
use Rattle.fpl_base.specs.Keeping.{Map, map_of}
use Rattle.rule_book.specs.declared.team.Team.{Team}
use Rattle.rule_book.specs.declared.transfers.Sale.{Sale}
use Rattle.rule_book.specs.EntryRecords.{AreEntryRecords, TeamsRise, team_recorded}
use Rattle.stored_records.specs.declared.entry_told.RecordedTeam.{RecordedTeam}
use Rattle.stored_records.specs.EntryTold.{first_told, sale_told, team_told}
use Rattle.stored_records.specs.Stored.{Rows}
use Rattle.store_validation.specs.EntryRules.{entry_breaks, team_breaks, transfer_breaks}
use Rattle.store_validation.specs.Lawful.{judged}
use Rattle.store_validation.specs.TeamRules.{position_told}

-- no record of an entry breaks a rule: not its own, no team's, and no transfer's
pub record IsLawfulEntry (m : Map) (e : ℕ) : Type 0 where
  pub entry : entry_breaks m e (first_told m e) ≡ false
  pub teams : (g : ℕ) (t : RecordedTeam) → team_told m e g ≡ Some t
      → team_breaks m e g t.picks t.captain t.vice t.bank t.chip ≡ false
  pub sales : (g n : ℕ) (s : Sale) → sale_told m e g n ≡ Some s
      → transfer_breaks m e g n s.out s.into s.sold s.bought ≡ false

-- the team that a record tells, each player at his position
abbrev pub team_of_record : Map → RecordedTeam → Team
team_of_record m t = record {
  picks = map (λ pick. record { player = pick.0; position = position_told m pick.0; bought = pick.1 }) t.picks;
  captain = t.captain;
  vice = t.vice;
  bank = t.bank;
  chip = t.chip;
}

-- the teams of an entry, by gameweek
pub record AreItsTeams (m : Map) (e : ℕ) (teams : List (ℕ × Team)) : Type 0 where
  pub rise : TeamsRise teams
  pub told : (g : ℕ) → team_recorded teams g ≡ option_map (team_of_record m) (team_told m e g)

-- a transfer with its gameweek and its number there
pub record NumberedSale : Type 0 where
  pub gw : ℕ
  pub number : ℕ
  pub sale : Sale

-- transfers behind one of a gameweek and a number
abbrev pub AllBehind : ℕ → ℕ → List NumberedSale → Type 0
AllBehind g n [] = ⊤
AllBehind g n (r ∷ rows) = ((g < r.gw) ⊎ ((g ≡ r.gw) × (n < r.number))) × AllBehind g n rows

-- in the order of gameweeks, and of numbers there
abbrev pub SalesRise : List NumberedSale → Type 0
SalesRise [] = ⊤
SalesRise (r ∷ rows) = AllBehind r.gw r.number rows × SalesRise rows

-- the transfer of a gameweek and a number
abbrev pub sale_numbered : List NumberedSale → ℕ → ℕ → Option Sale
sale_numbered [] g n = None
sale_numbered (r ∷ rows) g n = if r.gw == g && r.number == n then Some r.sale else sale_numbered rows g n

-- the transfers of an entry, by gameweek and number
pub record AreItsSales (m : Map) (e : ℕ) (rows : List NumberedSale) : Type 0 where
  pub rise : SalesRise rows
  pub told : (g n : ℕ) → sale_numbered rows g n ≡ sale_told m e g n

-- without their numbers
abbrev pub sales_of_rows : List NumberedSale → List (ℕ × Sale)
sales_of_rows rows = map (λ r. (r.gw, r.sale)) rows

-- where no record of an entry breaks a rule, its teams and transfers in their order are records that a book takes
abbrev pub LawfulEntriesAreRestored : Type 0
LawfulEntriesAreRestored = (m : Map) (e : ℕ) (teams : List (ℕ × Team)) (rows : List NumberedSale)
    → IsLawfulEntry m e → AreItsTeams m e teams → AreItsSales m e rows
    → AreEntryRecords (first_told m e) teams (sales_of_rows rows)

-- the same of each entry of a store in which nothing is found wrong
abbrev pub JudgedEntriesAreRestored : Type 0
JudgedEntriesAreRestored = (rows : Rows) (e : ℕ) (teams : List (ℕ × Team)) (sales : List NumberedSale)
    → judged rows ≡ None → AreItsTeams (map_of rows) e teams → AreItsSales (map_of rows) e sales
    → AreEntryRecords (first_told (map_of rows) e) teams (sales_of_rows sales)
