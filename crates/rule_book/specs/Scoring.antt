-- How a column of the table of figures is read: what each figure gives or takes, summed.
use Rattle.std.specs.Prelude.{ℕ, ◌+◌, ◌*◌, ◌/◌, List, [], ◌∷◌}
use Rattle.fpl_base.specs.declared.kinds.Position.{Position}
use Rattle.fpl_base.specs.declared.kinds.Position.TheVariants.{Keeper, Defender, Midfielder, Forward}
use Rattle.rule_book.specs.declared.line.Line.{Line}
use Rattle.rule_book.specs.Figures.{figure}

-- one value for goalkeepers, defenders, midfielders and forwards each, in this order
abbrev pub by_position : {T : Type 0} → T → T → T → T → Position → T
by_position k d m f Keeper = k
by_position k d m f Defender = d
by_position k d m f Midfielder = m
by_position k d m f Forward = f

-- what a figure is worth: so much for each, or one for each full so many
pub data Worth : Type 0 where
  gives : ℕ → Worth
  takes : ℕ → Worth
  gives_one_per : ℕ → Worth
  takes_one_per : ℕ → Worth
  nothing : Worth

-- what a figure of n gives
abbrev pub gain : Worth → ℕ → ℕ
gain (gives k) n = k * n
gain (takes k) n = 0
gain (gives_one_per k) n = n / k
gain (takes_one_per k) n = 0
gain nothing n = 0

-- what a figure of n takes
abbrev pub loss : Worth → ℕ → ℕ
loss (gives k) n = 0
loss (takes k) n = k * n
loss (gives_one_per k) n = 0
loss (takes_one_per k) n = n / k
loss nothing n = 0

-- a row of a column: the number of the figure, and what it is worth
pub record Row : Type 0 where
  pub field : ℕ
  pub worth : Worth

-- what the rows give for a line in all
abbrev pub gains : List Row → Line → ℕ
gains [] line = 0
gains (row ∷ rows) line = gain row.worth (figure line row.field) + gains rows line

-- what the rows take in all
abbrev pub losses : List Row → Line → ℕ
losses [] line = 0
losses (row ∷ rows) line = loss row.worth (figure line row.field) + losses rows line
