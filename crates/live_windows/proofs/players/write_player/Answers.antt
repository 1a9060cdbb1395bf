use Rattle.std.proofs.Common.{◌≤◌, ◌∙◌, ◌==◌, All, List, codes, length, subst, sym}
use Rattle.serde_json.specs.Data.{member, no_members, object}
use Rattle.json_members.specs.Members.{count}
use Rattle.json_members.specs.Tokens.{tokens_of}
use Rattle.json_members.proofs.AppendLemmas.{one, then}
use Rattle.rule_book.specs.Figures.{IsLine}
use Rattle.season_book.specs.Windows.{listed}
use Rattle.live_windows.specs.declared.sums.LiveLine.{LiveLine}
use Rattle.live_windows.specs.Gathered.{own_explained, own_stats}
use Rattle.live_windows.proofs.ItemsWritten.{told_as}
use Rattle.std.proofs.lemmas.List.Elements.{All-filter}
use Rattle.live_windows.proofs.players.write_player.Goals as goal

pub write_stats-requires-clause-few : goal.write_stats-requires-clause-few
write_stats-requires-clause-few c =
    subst (λ (own : List LiveLine). length own ≤ 20) (sym (c.deref-2.ensures.value ∙ c.in_ok-own.ensures)) (c.requires.few c.args.player.now.id)

pub write_stats-requires-clause-lines : goal.write_stats-requires-clause-lines
write_stats-requires-clause-lines c =
    subst (All (λ (line : LiveLine). IsLine line.line)) (sym (c.deref-2.ensures.value ∙ c.in_ok-own.ensures))
    (All-filter (λ (line : LiveLine). line.player == c.args.player.now.id) (λ (line : LiveLine). IsLine line.line) c.args.lines.now c.requires.ranges)

pub returns : goal.returns
returns c =
    let profile = c.args.profile in
    let player = c.args.player.now in
    told_as
    (λ i. tokens_of
    (object (member (codes "explain") (listed (own_explained profile player.position) ((c.deref.ensures.value ∙ c.in_ok-own.ensures) i))
    (member (codes "id") (count player.id)
    (member (codes "stats") (own_stats profile player.position ((c.deref-2.ensures.value ∙ c.in_ok-own.ensures) i) (c.is_among-is_dreamed.ensures i)) no_members)))))
    (rw (c.from.ensures, c.get.ensures.value) at
    (then (one c.in_ok-begin_object.ensures) (then (one c.in_ok-key.ensures) (then c.in_ok-write_explained.ensures (then c.in_ok-write_count.ensures
    (then (one c.in_ok-key-2.ensures) (then c.in_ok-write_stats.ensures (one c.end_object.ensures))))))))
