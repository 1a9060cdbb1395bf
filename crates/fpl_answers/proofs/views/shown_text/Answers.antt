use Rattle.std.proofs.Common.{◌≡◌, ◌∙◌, ◌++◌, Ok, ap, refl}
use Rattle.serde_json.specs.Written.{compact_text}
use Rattle.fpl_answers.specs.ShownData.{shown_data, shown_text}
use Rattle.json_members.specs.Tokens.{Appends, tokens_of}
use Rattle.json_members.proofs.AppendLemmas.{text_of}
use Rattle.fpl_answers.proofs.views.shown_text.Goals as goal
use Rattle.fpl_answers.proofs.views.shown_text.Goals.{in-Season+in_ok-write_season-in-Season, in-Player+in_ok-write_player-in-Player, in-PlayerGameweek+in_ok-write_figures-in-PlayerGameweek, in-Me+in_ok-write_me-in-Me, in-EntryGameweek+in_ok-write_entry_gameweek-in-EntryGameweek, in-Classic+in_ok-write_classic-in-Classic, in-Head+in_ok-write_head-in-Head, in-Cup+in_ok-write_cup-in-Cup}

pub returns : goal.returns
returns c =
    let wrote : Appends (Ok tt) c.args.out c.match-shown.out (tokens_of (shown_data c.args.shown.now)) × (compact_text (shown_data c.args.shown.now) ≡ shown_text c.args.shown.now) = elim c.match-shown.branch [
      | in-Season+in_ok-write_season-in-Season w ↦ rw (w.in-Season.is, w.out-is) (w.in_ok-write_season-in-Season.ensures, refl)
      | in-Player+in_ok-write_player-in-Player w ↦ rw (w.in-Player.is, w.out-is) (w.in_ok-write_player-in-Player.ensures, refl)
      | in-PlayerGameweek+in_ok-write_figures-in-PlayerGameweek w ↦ rw (w.in-PlayerGameweek.is, w.out-is) (w.in_ok-write_figures-in-PlayerGameweek.ensures, refl)
      | in-Me+in_ok-write_me-in-Me w ↦ rw (w.in-Me.is, w.out-is) (w.in_ok-write_me-in-Me.ensures, refl)
      | in-EntryGameweek+in_ok-write_entry_gameweek-in-EntryGameweek w ↦ rw (w.in-EntryGameweek.is, w.out-is) (w.in_ok-write_entry_gameweek-in-EntryGameweek.ensures, refl)
      | in-Classic+in_ok-write_classic-in-Classic w ↦ rw (w.in-Classic.is, w.out-is) (w.in_ok-write_classic-in-Classic.ensures, refl)
      | in-Head+in_ok-write_head-in-Head w ↦ rw (w.in-Head.is, w.out-is) (w.in_ok-write_head-in-Head.ensures, refl)
      | in-Cup+in_ok-write_cup-in-Cup w ↦ rw (w.in-Cup.is, w.out-is) (w.in_ok-write_cup-in-Cup.ensures, refl)
    ] in
    c.into_inner.ensures.items ∙ text_of (shown_data c.args.shown.now) c.requires wrote.0 ∙ ap (λ text. c.args.out.before ++ text) wrote.1
