-- What a manager gets for a player whom he sells.
use Rattle.std.specs.Prelude.{ℕ, ◌+◌, ◌-◌, ◌/◌, nat_le, if◌then◌else◌}

-- the present price where it did not rise, else the price at which he was bought and half of the rise, rounded down
abbrev pub selling_price : ℕ → ℕ → ℕ
selling_price bought now = if nat_le now bought then now else bought + (now - bought) / 2
