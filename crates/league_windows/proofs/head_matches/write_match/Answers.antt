use Rattle.std.proofs.Common.{◌∙◌, ap}
use Rattle.std.specs.Prelude.{codes}
use Rattle.std.specs.Option.{option_map_or}
use Rattle.serde_json.specs.Data.{object}
use Rattle.json_members.specs.Tokens.{tokens_of}
use Rattle.json_members.proofs.AppendLemmas.{one, then}
use Rattle.season_book.specs.LeagueViews.{name_of}
use Rattle.season_views.proofs.Written.{retold}
use Rattle.season_book.specs.HeadMatches.{first_members, match_members, second_members, seen_by_other, standing_at}
use Rattle.league_windows.proofs.SidesWritten.{match_written}
use Rattle.league_windows.proofs.head_matches.write_match.Goals as goal

pub returns : goal.returns
returns g c = λ entries are played.
    let league = c.args.league.now in
    let l = c.args.id in
    let gw = c.args.at.0 in
    let place = c.args.at.1 in
    let one_is = c.standing_at-one.ensures ∙ ap (standing_at league) c.from.ensures in
    let other_is = c.standing_at-other.ensures ∙ ap (standing_at league) c.requires in
    let one_name = c.name_shown.ensures entries are ∙ ap (λ e. option_map_or (name_of entries) e (codes "AVERAGE")) one_is in
    let other_name = c.name_shown-2.ensures entries are ∙ ap (λ e. option_map_or (name_of entries) e (codes "AVERAGE")) other_is in
    let theirs = c.seen_by_other.ensures ∙ ap seen_by_other played in
    retold
    (match_written c.standing_at-one.result c.name_shown.result.now c.args.played c.standing_at-other.result c.name_shown-2.result.now c.seen_by_other.result (match_members l gw place)
    ∙ (λ i. tokens_of (object (first_members (one_is i) (one_name i) (played i) (second_members (other_is i) (other_name i) (theirs i) (match_members l gw place))))))
    (then (one c.in_ok-begin_object.ensures) (then c.in_ok-write_first.ensures (then c.in_ok-write_second.ensures (then c.in_ok-write_place.ensures (one c.end_object.ensures)))))
