use Rattle.std.proofs.Common.{ap}
use Rattle.std.specs.Prelude.{codes}
use Rattle.json_members.specs.Members.{count}
use Rattle.json_members.specs.Tokens.{member_tokens, tokens_of}
use Rattle.json_members.proofs.AppendLemmas.{one, then}
use Rattle.season_book.specs.ElementTypes.{element_types_window}
use Rattle.season_book.specs.Teams.{teams_window}
use Rattle.bootstrap_window.proofs.Retold.{retold}
use Rattle.bootstrap_window.proofs.bootstrap.write_parts.Goals as goal

pub returns-clause-value : goal.returns-clause-value
returns-clause-value g c = λ entries are.
    let types = retold (ap (λ players. tokens_of (element_types_window players)) c.players.ensures) c.in_ok-write_element_types.ensures in
    let teams = retold (ap (λ clubs. tokens_of (teams_window clubs)) c.requires.clubs) c.in_ok-write_teams.ensures in
    let total = retold (ap (λ n. member_tokens (codes "total_players") (count n)) (c.registered.ensures entries are)) c.in_ok-write_count.ensures in
    then (one c.in_ok-begin_object.ensures) (then (one c.in_ok-key.ensures) (then types (then (one c.in_ok-key-2.ensures) (then (c.in_ok-write_elements.ensures.value entries are)
    (then (one c.in_ok-key-3.ensures) (then (c.in_ok-write_events.ensures.value entries are) (then (one c.in_ok-key-4.ensures) (then teams (then total
    (one c.end_object.ensures))))))))))
