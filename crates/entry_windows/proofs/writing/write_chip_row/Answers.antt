use Rattle.std.proofs.Common.{◌≡◌, ◌∙◌, [], None, Some, ap, sym, if◌then◌else◌}
use Rattle.std.specs.Prelude.{is_some, option_copied}
use Rattle.json_members.specs.Tokens.{tokens_of}
use Rattle.season_book.specs.ChipNames.{chip_name}
use Rattle.season_book.specs.HistoryWindow.{chip_row, played_row}
use Rattle.season_views.proofs.Written.{retold}
use Rattle.entry_windows.proofs.Ended.{wrote_none}
use Rattle.entry_windows.proofs.writing.write_chip_row.Goals as goal

pub returns-in-Some : goal.returns-in-Some
returns-in-Some c h is =
    let word : Some c.in-Some.word.now ≡ chip_name c.args.chip = sym (ap option_copied c.in-Some.is) ∙ c.chip_word.ensures in
    retold
    (ap (λ o. tokens_of (played_row c.args.gameweek o)) (word ∙ ap chip_name (sym is))
    ∙ ap (λ o. if is_some o then tokens_of (chip_row h c.args.gameweek) else []) word)
    c.write_played.ensures

pub returns-in-None : goal.returns-in-None
returns-in-None c h is =
    let none : None ≡ chip_name c.args.chip = sym (ap option_copied c.in-None.is) ∙ c.chip_word.ensures in
    retold (ap (λ o. if is_some o then tokens_of (chip_row h c.args.gameweek) else []) none) (wrote_none c.args.out.now)
