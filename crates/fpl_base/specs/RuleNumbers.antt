-- The numbers of the refusals.
use Rattle.std.specs.Prelude.{ℕ}
use Rattle.fpl_base.specs.declared.rule.Rule.{Rule}
use Rattle.fpl_base.specs.declared.rule.Rule.TheVariants as rule

abbrev pub number_of : Rule → ℕ
number_of (rule.NumberGap x) = 1
number_of (rule.NumberUsed x) = 2
number_of (rule.NumberOld x) = 3
number_of rule.NoSeason = 4
number_of rule.SeasonThere = 5
number_of rule.SeasonOver = 6
number_of (rule.DeadlineOrder x) = 7
number_of (rule.DeadlinePassed x) = 8
number_of (rule.KickoffEarly x) = 9
number_of (rule.HasFacts x) = 10
number_of (rule.NotLocked x) = 11
number_of (rule.PlayerThere x) = 12
number_of rule.PriceRange = 13
number_of (rule.PlayerGone x) = 14
number_of rule.SquadShape = 15
number_of (rule.Twice x) = 16
number_of (rule.ClubLimit x) = 17
number_of (rule.OverBudget x) = 18
number_of rule.LineupOrder = 19
number_of rule.Formation = 20
number_of rule.Captain = 21
number_of (rule.NotHeld x) = 22
number_of (rule.Held x) = 23
number_of (rule.PositionSwap x) = 24
number_of rule.TransferLimit = 25
number_of (rule.ChipUsed x) = 26
number_of rule.ChipPlayed = 27
number_of rule.ChipEarly = 28
number_of rule.ChipFixed = 29
number_of rule.NoChip = 30
number_of rule.Registered = 31
number_of rule.NotRegistered = 32
number_of rule.EntriesFull = 33
number_of rule.LeagueClosed = 34
number_of rule.Code = 35
number_of rule.Member = 36
number_of rule.LeaguesFull = 37
number_of rule.MembersFull = 38
number_of (rule.StartPassed x) = 39
number_of rule.DrawWrong = 40
number_of (rule.LineRange x) = 41
number_of (rule.LineTwice x) = 42
number_of rule.LinesFull = 43
number_of rule.KeyThere = 44
number_of (rule.GameweekFull x) = 45
number_of rule.PlayersFull = 46
number_of (rule.FixtureThere x) = 47
number_of rule.FixturesFull = 48
number_of rule.CupsFull = 49
number_of (rule.InUse x) = 65
number_of (rule.FactsThere x) = 66
