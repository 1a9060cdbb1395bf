-- What words order.
use Rattle.std.specs.Prelude.{◌≤◌, ◌^◌, ◌-◌, Bool, ◌||◌, List, codes, if◌then◌else◌, Option, Some, None, ⊤}
use Rattle.std.specs.List.{list_any}
use Rattle.std.specs.Str.{bytes_eq}
use Rattle.clap.specs.Words.{Row, Text}
use Rattle.command_line.specs.declared.words.Words.{Words}
use Rattle.command_line.specs.declared.words.Words.TheVariants as words
use Rattle.command_line.specs.Options.{entered_in}
use Rattle.command_line.specs.Values.{◌>>=◌, clients, connections, key, match_length, more, number, pages, path, profile, report_of, store}

-- What each command says by the values of its options.

abbrev pub score : List Row → Option Words
score given = profile given >>= λ rules. Some (words.Score rules)

abbrev pub pipe : List Row → Option Words
pipe given = key given >>= λ k. store given >>= λ kept. Some (words.Pipe k kept)

abbrev pub serve : List Row → Option Words
serve given =
    key given >>= λ k. number (codes "port") 1 65535 given >>= λ port. clients given >>= λ most. connections most given >>= λ count.
    pages most given >>= λ folder. store given >>= λ kept. Some (words.Serve k port most count folder kept)

abbrev pub load : List Row → Option Words
load given =
    key given >>= λ k. path (codes "store") given >>= λ kept. path (codes "dir") given >>= λ folder.
    number (codes "split") 0 38 given >>= λ split. profile given >>= λ rules. Some (words.Load k kept folder split rules (more given))

abbrev pub report : List Row → Option Words
report given = key given >>= λ k. path (codes "store") given >>= λ kept. report_of given >>= λ shown. Some (words.Report k kept shown)

abbrev pub generate : List Row → Option Words
generate given = number (codes "seed") 0 (2 ^ 64 - 1) given >>= λ seed. store given >>= λ kept. Some (words.Generate seed kept)

abbrev pub dream : List Row → Option Words
dream given =
    key given >>= λ k. path (codes "store") given >>= λ kept. number (codes "gameweek") 1 38 given >>= λ gameweek. Some (words.Dream k kept gameweek)

abbrev pub events : List Row → Option Words
events given =
    key given >>= λ k. path (codes "store") given >>= λ kept. number (codes "fixture") 1 4294967295 given >>= λ fixture.
    match_length given >>= λ minutes. Some (words.Events k kept fixture minutes)

abbrev pub draft : List Row → Option Words
draft given =
    key given >>= λ k. path (codes "store") given >>= λ kept. number (codes "members") 2 8 given >>= λ members. Some (words.Draft k kept members)

-- what a command of one of these names says that stand beside the season
abbrev pub further_named : Text → List Row → Option Words
further_named name given =
    if bytes_eq name (codes "dream") then dream given
    else (if bytes_eq name (codes "events") then events given
    else (if bytes_eq name (codes "draft") then draft given else None))

-- what a command of this name says
abbrev pub order_named : Text → List Row → Option Words
order_named name given =
    if bytes_eq name (codes "score") then score given
    else (if bytes_eq name (codes "pipe") then pipe given
    else (if bytes_eq name (codes "serve") then serve given
    else (if bytes_eq name (codes "load") then load given
    else (if bytes_eq name (codes "report") then report given
    else (if bytes_eq name (codes "generate") then generate given else further_named name given)))))

-- a word that is dashes alone
abbrev pub is_dash : Text → Bool
is_dash word = bytes_eq word (codes "-") || bytes_eq word (codes "--")

-- what a command that was entered says
abbrev pub order_of : Option (Text × List Row) → Option Words
order_of entered = entered >>= λ command. order_named command.0 command.1

-- what words order where clap reads them: the command that they name, by the values of its options
abbrev pub read : List Text → Option Words
read line = order_of (entered_in line)

-- what words order: none of them is dashes alone, clap finds no fault in them, and the values say something
abbrev pub ordered : List Text → Option Words
ordered line = if list_any is_dash line then None else read line

-- a draft has from 2 to 8 members
abbrev pub HasFewMembers : Words → Type 0
HasFewMembers (words.Draft k kept members) = (2 ≤ members) × (members ≤ 8)
HasFewMembers said = ⊤
