-- The rules on a transfer of an entry in a gameweek.
use Rattle.std.specs.Prelude.{◌≡◌, ℕ, ◌-◌, Bool, ◌&&◌, ◌||◌, ◌==◌, Option, Some, None, is_some, nat_le, nat_lt, ⊤}
use Rattle.fpl_base.specs.Keeping.{Map}
use Rattle.record_fields.specs.Ranges.{is_between}
use Rattle.season_records.specs.declared.slot.Slot.TheVariants as slot
use Rattle.rule_book.specs.declared.transfers.Sale.{Sale}
use Rattle.rule_book.specs.EntryCalls.{transfer_limit}
use Rattle.stored_records.specs.EntryTold.{chip_told, is_first_of, is_in_time, sale_told, team_told}
use Rattle.stored_records.specs.Stored.{is_there}
use Rattle.store_validation.specs.declared.transfer_rules.Term.{Term}

-- What an entry's gameweek says of its transfers: whether it may have some, which it may in its entry's time and with a
-- team, and at most how many.
abbrev pub term_told : Map → ℕ → ℕ → Term
term_told m e g = record {
  entry = e;
  gameweek = g;
  open_to_transfers = is_in_time m e g && is_some (team_told m e g);
  most = transfer_limit (is_first_of m e g) (chip_told m e g);
}

-- what is known of one gameweek is what it says
abbrev pub IsKnown : Map → Option Term → Type 0
IsKnown m None = ⊤
IsKnown m (Some term) = term ≡ term_told m term.entry term.gameweek

-- numbers are 1, 2, 3 and so on: the one before is there
abbrev pub is_next_number : Map → ℕ → ℕ → ℕ → Bool
is_next_number m e g n = n == 1 || (nat_lt 1 n && is_some (sale_told m e g (n - 1)))

-- who goes and who comes are there
abbrev pub names_players : Map → Sale → Bool
names_players m s = is_there m (slot.Player s.out) && is_there m (slot.Player s.into)

-- sold and bought for 3.0 to 20.0 million
abbrev pub is_priced_sale : Sale → Bool
is_priced_sale s = is_between 30 200 s.sold && is_between 30 200 s.bought

-- A transfer is lawful: its gameweek is in its entry's time and has a team, it is none too many there, the one before it
-- is there, its players are there, and its prices can be.
abbrev pub is_lawful_sale : Map → ℕ → ℕ → ℕ → Sale → Bool
is_lawful_sale m e g n s =
    (term_told m e g).open_to_transfers && nat_le n (term_told m e g).most && is_next_number m e g n && names_players m s && is_priced_sale s
