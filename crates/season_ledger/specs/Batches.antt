-- What a batch of sales, a lineup and a first squad make of a team, and when they fit the team before.
use Rattle.std.specs.Prelude.{◌≡◌, ◌≤◌, ◌+◌, ℕ, true, false, List, [], ◌∷◌, map, Option, Some, None, if◌then◌else◌, ⊤}
use Rattle.fpl_base.specs.declared.kinds.Chip.TheVariants.{None as NoChip}
use Rattle.rule_book.specs.declared.team.Team.{Team}
use Rattle.rule_book.specs.declared.transfers.Sale.{Sale}
use Rattle.rule_book.specs.History.{Holding}
use Rattle.rule_book.specs.EntryRecords.{swapped, after_sales, price_among, paid_for, earned_for}
use Rattle.rule_book.specs.HistorySquad.{sum_bought}
use Rattle.rule_book.specs.HistoryRules.{times, can_cancel}
use Rattle.rule_book.specs.HistoryTeam.{holdings, is_held}
use Rattle.season_ledger.specs.declared.row.Standing.{Standing}

-- each incomer is not held as he comes in
abbrev pub ComeFresh : List Sale → List Holding → Type 0
ComeFresh [] squad = ⊤
ComeFresh (s ∷ sales) squad = (is_held s.into squad ≡ false) × ComeFresh sales (map (swapped s) squad)

-- each sold player is held as he goes
abbrev pub GoHeld : List Sale → List Holding → Type 0
GoHeld [] squad = ⊤
GoHeld (s ∷ sales) squad = (is_held s.out squad ≡ true) × GoHeld sales (map (swapped s) squad)

-- the players in another order, with the prices that they have
abbrev pub rearranged : List ℕ → List Holding → List Holding
rearranged players squad = map (λ p. record { player = p; bought = price_among p squad }) players

-- a team after a batch
pub record AfterBatch (sales : List Sale) (t u : Team) : Type 0 where
  pub go : GoHeld sales (holdings t.picks)
  pub come : ComeFresh sales (holdings t.picks)
  pub squad : holdings u.picks ≡ after_sales sales (holdings t.picks)
  pub captain : u.captain ≡ t.captain
  pub vice : u.vice ≡ t.vice
  pub bank : u.bank + paid_for sales ≡ t.bank + earned_for sales
  pub chip : u.chip ≡ t.chip

-- a team after a lineup: the same fifteen, each once
pub record AfterLineup (players : List ℕ) (c v : ℕ) (t u : Team) : Type 0 where
  pub same : (p : ℕ) → times p players ≡ (if is_held p (holdings t.picks) then 1 else 0)
  pub squad : holdings u.picks ≡ rearranged players (holdings t.picks)
  pub captain : u.captain ≡ c
  pub vice : u.vice ≡ v
  pub bank : u.bank ≡ t.bank
  pub chip : u.chip ≡ t.chip

-- a first team: no player twice, and 1000 less what they cost
pub record IsFirstTeam (t : Team) : Type 0 where
  pub apart : (p : ℕ) → times p (map (λ k. k.player) (holdings t.picks)) ≤ 1
  pub bank : t.bank + sum_bought (holdings t.picks) ≡ 1000
  pub chip : t.chip ≡ NoChip

-- the same of the team that stands, where one does
abbrev pub BatchOn : List Sale → Option Standing → Team → Type 0
BatchOn sales None u = ⊥
BatchOn sales (Some s) u = AfterBatch sales s.team u

-- the players of a team, by slot
abbrev pub players_of : Team → List ℕ
players_of t = map (λ k. k.player) t.picks

abbrev pub LineupOn : Option Standing → Team → Type 0
LineupOn None u = ⊥
LineupOn (Some s) u = AfterLineup (players_of u) u.captain u.vice s.team u

-- a team stands without a chip
abbrev pub CanPlay : Option Standing → Type 0
CanPlay None = ⊥
CanPlay (Some s) = s.team.chip ≡ NoChip

-- a team stands with a chip that can be taken back
abbrev pub CanCancel : Option Standing → Type 0
CanCancel None = ⊥
CanCancel (Some s) = can_cancel s.team.chip ≡ true
