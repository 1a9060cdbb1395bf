-- What is asked of a host for the team of the week of a gameweek, and what is written of it.
use Rattle.std.specs.Prelude.{◌≡◌, ◌⊎◌, ℕ, List, [], ◌∷◌, map, nat_le, Option, Result, MatchBool, MatchOption, MatchResult}
use Rattle.fpl_base.specs.declared.kinds.Caller.TheVariants as caller
use Rattle.season_book.specs.Book.{Book}
use Rattle.season_book.specs.declared.answer.Answer.{Answer}
use Rattle.season_book.specs.declared.request.Request.TheVariants as request
use Rattle.season_book.specs.declared.request.View.TheVariants as view
use Rattle.season_running.specs.Standing.{players_in}
use Rattle.request_handler.specs.Replying.{Served}
use Rattle.local_requests.specs.Asking.{IsHeard}
use Rattle.local_requests.specs.Printing.{EndsBy, Prints, PrintsOne, unknown_text}
use Rattle.squad_rules.specs.Dreams.{HasNoEleven, IsDream}
use Rattle.squad_rules.specs.Elevens.{Row}
use Rattle.squad_rules.specs.declared.dream.Dream.{Dream}
use Rattle.fpl_dreaming.specs.Rows.{IsRowAsked, locked_in, with_row}
use Rattle.fpl_dreaming.specs.Texts.{dream_text, no_eleven_text}

-- the team of the week of rows was written, with status 0; or that there is none, with status 13; or memory ran out, with
-- status 6
abbrev pub TellsDream : List Row → Option (List ℕ) → Option (List ℕ) → ℕ → Type 0
TellsDream rows before after status =
    ((dream : Dream) × IsDream rows dream × PrintsOne (λ text. text ≡ dream_text rows dream) 0 status before after)
    ⊎ (HasNoEleven rows × Prints no_eleven_text 13 status before after)
    ⊎ ((status ≡ 6) × (after ≡ before))

-- players were asked for, one after another, with the rows of those before them: an answer that shows nothing of a player
-- ended the command, or memory ran out behind one; behind the last of them the team of the week of all rows was told
abbrev pub AsksOn : ℕ → List ℕ → List Row → Option (List ℕ) → Option (List ℕ) → ℕ → Served → Served → Type 0
AsksOn gameweek [] rows before after status old new = (new ≡ old) × TellsDream rows before after status
AsksOn gameweek (player ∷ players) rows before after status old new =
    (gave : Result (Option Row) Answer) × (mid : Served) × IsRowAsked player gameweek gave old mid
    × MatchResult gave
    (λ row. ((new ≡ mid) × (status ≡ 6) × (after ≡ before)) ⊎ AsksOn gameweek players (with_row rows row) before after status mid new)
    (λ told. (new ≡ mid) × EndsBy told status before after)

-- the players of a book, by ascending id
abbrev pub ids_in : Book → List ℕ
ids_in book = map (λ player. player.id) (players_in book.facts)

-- where the gameweek is locked each player was asked for, unless memory was wanting for their list
abbrev pub IsDreamedIn : ℕ → Option (List ℕ) → Option (List ℕ) → ℕ → Served → Served → Type 0
IsDreamedIn gameweek before after status old new =
    ((status ≡ 6) × (after ≡ before) × (new ≡ old)) ⊎ AsksOn gameweek (ids_in old.host.book) [] before after status old new

-- behind an answer that shows the season, where the gameweek is locked; where it is not, a line says so, with status 13; and
-- every other answer ends the command
abbrev pub GoesOn : ℕ → Answer → Option (List ℕ) → Option (List ℕ) → ℕ → Served → Served → Type 0
GoesOn gameweek told before after status old new =
    MatchOption (locked_in told) ((new ≡ old) × EndsBy told status before after)
    (λ locked. MatchBool (nat_le gameweek locked) (IsDreamedIn gameweek before after status old new) ((new ≡ old) × Prints unknown_text 13 status before after))

-- the team of the week of a gameweek was asked for, as the operator
abbrev pub IsDreamed : ℕ → Option (List ℕ) → Option (List ℕ) → ℕ → Served → Served → Type 0
IsDreamed gameweek before after status old new =
    (told : Answer) × (mid : Served) × IsHeard old caller.Operator (request.View view.Season) told mid × GoesOn gameweek told before after status mid new
