-- What the values of options say.
use Rattle.std.specs.Prelude.{◌≡◌, ◌^◌, ◌-◌, ℕ, Bool, false, ◌&&◌, ◌==◌, nat_le, List, length, codes, if◌then◌else◌, Option, Some, None, is_some, Result, MatchResult}
use Rattle.std.specs.Fmt.{decimal}
use Rattle.std.specs.Str.{bytes_eq}
use Rattle.std.specs.Str.Parse.{digits_value}
use Rattle.clap.specs.Words.{Row, Text, first_of}
use Rattle.fpl_base.specs.Texts.{is_key}
use Rattle.fpl_base.specs.declared.kinds.Profile.{Profile}
use Rattle.fpl_base.specs.declared.kinds.Profile.TheVariants as rules
use Rattle.command_line.specs.declared.words.What.{What}
use Rattle.command_line.specs.declared.words.What.TheVariants as what
use Rattle.command_line.specs.declared.words.WordFault.{WordFault}
use Rattle.command_line.specs.declared.words.WordFault.TheVariants as fault

-- what is said is answered, and the words are not read only where nothing is said
abbrev pub Answers : {T : Type 0} → Option T → Result T WordFault → Type 0
Answers said result = MatchResult result (λ t. said ≡ Some t) (λ e. e ≡ fault.Unread → said ≡ None)

-- the one, and then what it leads to
infixl 10 ◌>>=◌
abbrev pub ◌>>=◌ : {A B : Type 0} → Option A → (A → Option B) → Option B
(Some x) >>= next = next x
None >>= next = None

-- a value that may be left out
abbrev pub if_given : {T : Type 0} → (Text → Option T) → Option Text → Option (Option T)
if_given read None = Some None
if_given read (Some text) = read text >>= λ t. Some (Some t)

-- the number that a text spells in decimal, without a sign and without a zero in front of another digit
abbrev pub spelled : Text → Option ℕ
spelled text = if bytes_eq text (decimal (digits_value 10 text)) then Some (digits_value 10 text) else None

abbrev pub within : ℕ → ℕ → ℕ → Option ℕ
within least greatest n = if nat_le least n && nat_le n greatest then Some n else None

-- the number from `least` to `greatest` that a text spells
abbrev pub number_in : ℕ → ℕ → Text → Option ℕ
number_in least greatest text = spelled text >>= within least greatest

-- the number that an option has
abbrev pub number : Text → ℕ → ℕ → List Row → Option ℕ
number name least greatest given = first_of name given >>= number_in least greatest

-- a key: 8 to 64 small letters and digits
abbrev pub if_key : Text → Option Text
if_key text = if is_key text then Some text else None

abbrev pub key : List Row → Option Text
key given = first_of (codes "key") given >>= if_key

-- a path: any text but the empty one
abbrev pub if_path : Text → Option Text
if_path text = if length text == 0 then None else Some text

abbrev pub path : Text → List Row → Option Text
path name given = first_of name given >>= if_path

-- where the store is; without it the season is kept in memory
abbrev pub store : List Row → Option (Option Text)
store given = if_given if_path (first_of (codes "store") given)

-- how many clients there may be at once, where they are gathered
abbrev pub clients : List Row → Option (Option ℕ)
clients given = if_given (number_in 1 1024) (first_of (codes "clients") given)

-- how many messages are answered; where none says it, so many that the last never comes
abbrev pub messages : Option Text → Option ℕ
messages None = Some (2 ^ 64 - 1)
messages (Some text) = number_in 1 (2 ^ 64 - 1) text

-- how many connections are served: the number has to be given, but where clients are gathered, and each message is one
abbrev pub connections : Option ℕ → List Row → Option ℕ
connections None given = number (codes "connections") 1 65535 given
connections (Some most) given = messages (first_of (codes "connections") given)

-- what is said where an option that it does not need is not given
abbrev pub without : {T : Type 0} → Text → List Row → Option T → Option T
without name given said = if is_some (first_of name given) then None else said

-- the folder whose files are pages, which are for clients that are gathered alone
abbrev pub pages : Option ℕ → List Row → Option (Option Text)
pages None given = without (codes "pages") given (Some None)
pages (Some most) given = if_given if_path (first_of (codes "pages") given)

-- the rules of a season: 1 is A, 2 is B
abbrev pub profile_named : Text → Option Profile
profile_named text = if bytes_eq text (codes "1") then Some rules.A else (if bytes_eq text (codes "2") then Some rules.B else None)

abbrev pub profile_or_first : Option Text → Option Profile
profile_or_first None = Some rules.A
profile_or_first (Some text) = profile_named text

-- the rules of a season, A where none are named
abbrev pub profile : List Row → Option Profile
profile given = profile_or_first (first_of (codes "profile") given)

abbrev pub is_true : Option Text → Bool
is_true None = false
is_true (Some text) = bytes_eq text (codes "true")

-- whether what the season lacks is to be loaded: a flag
abbrev pub more : List Row → Bool
more given = is_true (first_of (codes "more") given)

abbrev pub length_or_full : Option Text → Option ℕ
length_or_full None = Some 90
length_or_full (Some text) = number_in 1 120 text

-- how many minutes a match has, 90 where nothing is said
abbrev pub match_length : List Row → Option ℕ
match_length given = length_or_full (first_of (codes "length") given)

abbrev pub season_report : List Row → Option What
season_report given = without (codes "id") given (without (codes "gameweek") given (Some what.Season))

abbrev pub id : List Row → Option ℕ
id = number (codes "id") 1 4294967295

abbrev pub table_report : List Row → Option What
table_report given = without (codes "gameweek") given (id given >>= λ n. Some (what.Table n))

abbrev pub fixture_report : List Row → Option What
fixture_report given = without (codes "gameweek") given (id given >>= λ n. Some (what.Fixture n))

abbrev pub entry_report : List Row → Option What
entry_report given = id given >>= λ n. number (codes "gameweek") 1 38 given >>= λ gameweek. Some (what.Entry n gameweek)

-- what a report of this name shows
abbrev pub report_named : List Row → Text → Option What
report_named given name =
    if bytes_eq name (codes "season") then season_report given
    else (if bytes_eq name (codes "table") then table_report given
    else (if bytes_eq name (codes "fixture") then fixture_report given
    else (if bytes_eq name (codes "entry") then entry_report given else None)))

-- what a report shows
abbrev pub report_of : List Row → Option What
report_of given = first_of (codes "what") given >>= report_named given
