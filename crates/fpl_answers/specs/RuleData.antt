-- What a refusal says: its number, and the value that it keeps.
use Rattle.std.specs.Prelude.{ℕ, List, Option, Some, None, codes}
use Rattle.serde_json.specs.Data.{Data, string, object, Members, member, no_members, put}
use Rattle.fpl_base.specs.declared.rule.Rule.{Rule}
use Rattle.fpl_base.specs.declared.rule.Rule.TheVariants as rule
use Rattle.fpl_base.specs.RuleNumbers.{number_of}
use Rattle.json_members.specs.Members.{count}

-- the value that a refusal keeps, under its name
abbrev pub kept_of : Rule → Option (List ℕ × ℕ)
kept_of (rule.NumberGap last) = Some (codes "last", last)
kept_of (rule.NumberUsed last) = Some (codes "last", last)
kept_of (rule.NumberOld last) = Some (codes "last", last)
kept_of rule.NoSeason = None
kept_of rule.SeasonThere = None
kept_of rule.SeasonOver = None
kept_of (rule.DeadlineOrder gameweek) = Some (codes "gameweek", gameweek)
kept_of (rule.DeadlinePassed gameweek) = Some (codes "gameweek", gameweek)
kept_of (rule.KickoffEarly fixture) = Some (codes "fixture", fixture)
kept_of (rule.HasFacts fixture) = Some (codes "fixture", fixture)
kept_of (rule.NotLocked fixture) = Some (codes "fixture", fixture)
kept_of (rule.PlayerThere player) = Some (codes "player", player)
kept_of rule.PriceRange = None
kept_of (rule.PlayerGone player) = Some (codes "player", player)
kept_of rule.SquadShape = None
kept_of (rule.Twice player) = Some (codes "player", player)
kept_of (rule.ClubLimit club) = Some (codes "club", club)
kept_of (rule.OverBudget short_by) = Some (codes "short_by", short_by)
kept_of rule.LineupOrder = None
kept_of rule.Formation = None
kept_of rule.Captain = None
kept_of (rule.NotHeld player) = Some (codes "player", player)
kept_of (rule.Held player) = Some (codes "player", player)
kept_of (rule.PositionSwap player) = Some (codes "player", player)
kept_of rule.TransferLimit = None
kept_of (rule.ChipUsed gameweek) = Some (codes "gameweek", gameweek)
kept_of rule.ChipPlayed = None
kept_of rule.ChipEarly = None
kept_of rule.ChipFixed = None
kept_of rule.NoChip = None
kept_of rule.Registered = None
kept_of rule.NotRegistered = None
kept_of rule.EntriesFull = None
kept_of rule.LeagueClosed = None
kept_of rule.Code = None
kept_of rule.Member = None
kept_of rule.LeaguesFull = None
kept_of rule.MembersFull = None
kept_of (rule.StartPassed gameweek) = Some (codes "gameweek", gameweek)
kept_of rule.DrawWrong = None
kept_of (rule.LineRange field) = Some (codes "field", field)
kept_of (rule.LineTwice player) = Some (codes "player", player)
kept_of rule.LinesFull = None
kept_of rule.KeyThere = None
kept_of (rule.GameweekFull gameweek) = Some (codes "gameweek", gameweek)
kept_of rule.PlayersFull = None
kept_of (rule.FixtureThere fixture) = Some (codes "fixture", fixture)
kept_of rule.FixturesFull = None
kept_of rule.CupsFull = None
kept_of (rule.InUse player) = Some (codes "player", player)
kept_of (rule.FactsThere fixture) = Some (codes "fixture", fixture)

-- these members with the kept one among them, in the ascending order of names
abbrev pub with_kept : Option (List ℕ × ℕ) → Members → Members
with_kept None ms = ms
with_kept (Some kept) ms = put kept.0 (count kept.1) ms

-- the members of a refusal by this rule
abbrev pub refusal_members : Rule → Members
refusal_members r = with_kept (kept_of r) (member (codes "error") (string (codes "rule")) (member (codes "rule") (count (number_of r)) no_members))

-- a refusal by this rule
abbrev pub rule_data : Rule → Data
rule_data r = object (refusal_members r)
