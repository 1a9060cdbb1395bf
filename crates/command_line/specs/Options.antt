-- The commands with their options, as clap sees them.
use Rattle.std.specs.Prelude.{◌≡◌, ℕ, Bool, List, [], ◌∷◌, ◌++◌, codes, map, Option, Some, None, Result, MatchResult, false, true}
use Rattle.clap.specs.Kinds.{Kinds}
use Rattle.clap.specs.Words.{App, Row, Rule, Text, app_of, fault_of, new_app, new_rule, subcommand_of, subcommand_rows_of, with_rule, with_subcommand}
use Rattle.clap.specs.Simple.{on_top}
use Rattle.clap.specs.declared.builder.action.ArgAction.TheVariants as action
use Rattle.clap.specs.declared.builder.command.Command.{Command}
use Rattle.clap.specs.declared.builder.command.Command.TheViews.{out-Command}
use Rattle.clap.specs.declared.parser.matches.ArgMatches.{ArgMatches}
use Rattle.command_line.specs.declared.words.WordFault.{WordFault}
use Rattle.command_line.specs.declared.words.WordFault.TheVariants as fault

-- an option `--name value` or `--name=value` that has to be given
abbrev pub wanted : List ℕ → Rule
wanted name = record (new_rule name) { long = Some name; required = true }

-- an option that may be left out
abbrev pub offered : List ℕ → Rule
offered name = record (new_rule name) { long = Some name }

-- an option that has to be given, or may be left out
abbrev pub option : Bool → List ℕ → Rule
option required name = record (new_rule name) { long = Some name; required = required }

-- a flag `--name`, which has no value
abbrev pub flag : List ℕ → Rule
flag name = record (new_rule name) { long = Some name; action = Some action.SetTrue }

-- a command with these options, each of which has to be given, or may be left out
abbrev pub with_options : App → Bool → List (List ℕ) → App
with_options a required names = on_top (λ s. record s { rules = s.rules ++ map (option required) names }) a

-- a command of this name, with the options that have to be given and those that may be left out
abbrev pub command_of : List ℕ → List (List ℕ) → List (List ℕ) → App
command_of name wanted offered = with_options (with_options (new_app name) true wanted) false offered

-- score [--profile N]
abbrev pub score : App
score = with_rule (new_app (codes "score")) (offered (codes "profile"))

-- pipe --key K [--store PATH]
abbrev pub pipe : App
pipe = with_rule (with_rule (new_app (codes "pipe")) (wanted (codes "key"))) (offered (codes "store"))

-- serve --key K --port N [--connections N] [--clients N] [--pages PATH] [--store PATH]
abbrev pub serve : App
serve =
    let port = with_rule (with_rule (new_app (codes "serve")) (wanted (codes "key"))) (wanted (codes "port")) in
    let clients = with_rule (with_rule port (offered (codes "connections"))) (offered (codes "clients")) in
    with_rule (with_rule clients (offered (codes "pages"))) (offered (codes "store"))

-- load --key K --store PATH --dir PATH --split N [--profile N] [--more]
abbrev pub load : App
load =
    let key = with_rule (new_app (codes "load")) (wanted (codes "key")) in
    let dir = with_rule (with_rule key (wanted (codes "store"))) (wanted (codes "dir")) in
    with_rule (with_rule (with_rule dir (wanted (codes "split"))) (offered (codes "profile"))) (flag (codes "more"))

-- report --key K --store PATH --what W [--id N] [--gameweek N]
abbrev pub report : App
report =
    let key = with_rule (new_app (codes "report")) (wanted (codes "key")) in
    let what = with_rule (with_rule key (wanted (codes "store"))) (wanted (codes "what")) in
    with_rule (with_rule what (offered (codes "id"))) (offered (codes "gameweek"))

-- generate --seed N [--store PATH]
abbrev pub generate : App
generate = with_rule (with_rule (new_app (codes "generate")) (wanted (codes "seed"))) (offered (codes "store"))

-- dream --key K --store PATH --gameweek N
abbrev pub dream : App
dream =
    let key = with_rule (new_app (codes "dream")) (wanted (codes "key")) in
    with_rule (with_rule key (wanted (codes "store"))) (wanted (codes "gameweek"))

-- events --key K --store PATH --fixture N [--length N]
abbrev pub events : App
events =
    let key = with_rule (new_app (codes "events")) (wanted (codes "key")) in
    let fixture = with_rule (with_rule key (wanted (codes "store"))) (wanted (codes "fixture")) in
    with_rule fixture (offered (codes "length"))

-- draft --key K --store PATH --members N
abbrev pub draft : App
draft =
    let key = with_rule (new_app (codes "draft")) (wanted (codes "key")) in
    with_rule (with_rule key (wanted (codes "store"))) (wanted (codes "members"))

-- the commands that stand beside the season
abbrev pub with_further : App → App
with_further a = with_subcommand (with_subcommand (with_subcommand a dream.top) events.top) draft.top

-- a command is wanted, and no word asks for help or a version
abbrev pub bare : App
bare = on_top (λ s. record s { no_binary_name = true; disable_help_flag = true; disable_help_subcommand = true; disable_version_flag = true; subcommand_required = true }) (new_app (codes "kowhirupe"))

-- the host with its commands
abbrev pub season_host : App
season_host =
    let front = with_subcommand (with_subcommand (with_subcommand bare score.top) pipe.top) serve.top in
    with_further (with_subcommand (with_subcommand (with_subcommand front load.top) report.top) generate.top)

-- clap has this command, and none of its options counts for the commands below it
pub record IsCommand (a : App) (c : Command) : Type 0 where
  pub app : app_of c ≡ a
  pub local : (out-Command c).has_globals ≡ false

-- what is said where there is no fault
abbrev pub unless_faulty : {T : Type 0} → Kinds → Option T → Option T
unless_faulty [] said = said
unless_faulty (k ∷ more) said = None

-- the command that a line names, with what clap finds for it; none where clap finds a fault in the line
abbrev pub entered_in : List Text → Option (Text × List Row)
entered_in line = unless_faulty (fault_of season_host line) (subcommand_of season_host line)

-- clap read the line, and entered this command; or it is not read, or memory ran out
abbrev pub IsParsed : List Text → Result ArgMatches WordFault → Type 0
IsParsed line result =
    MatchResult result (λ m. entered_in line ≡ subcommand_rows_of m) (λ e. e ≡ fault.Unread → entered_in line ≡ None)
