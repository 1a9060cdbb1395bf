use Rattle.std.proofs.Common.{◌≡◌, ◌∙◌, ◌+◌, ◌++◌, ◌∷◌, [], IsSomeAnd, List, ap, length, subst, true}
use Rattle.std.proofs.lemmas.List.{length-append}
use Rattle.std.specs.Option.{option_map}
use Rattle.fpl_base.specs.Keeping.{map_of}
use Rattle.season_records.specs.declared.slot.Slot.TheVariants as slot
use Rattle.rule_book.specs.Leagues.{LeagueFacts}
use Rattle.stored_records.specs.Stored.{is_there, told}
use Rattle.season_restoring.specs.LeagueRestoring.{AreLeaguesRestored, IsLeagueRestored}
use Rattle.season_restoring.proofs.AllLeagues.{if_one, one_more, room}
use Rattle.season_restoring.proofs.OneLeague.{made_there}
use Rattle.season_restoring.proofs.leagues.with_next.Goals as goal

pub restore-requires : goal.restore-requires
restore-requires c = record { room = room c.args.stored.now c.requires.rise c.requires.lawful c.args.book c.requires.restored c.requires.there }

pub unreachable-requires : goal.unreachable-requires
unreachable-requires c =
    let rows = c.args.stored.now in
    let l = c.numbered-next.result in
    let number : l ≡ length c.args.book + 1 = c.numbered-next.ensures ∙ ap (λ n. n + 1) c.count.ensures.value in
    let there : is_there (map_of rows) (slot.League l) ≡ true = ap (λ n. is_there (map_of rows) (slot.League n)) number ∙ c.requires.there in
    let item = option_map (λ i. i.now) c.item-item.result in
    let read : item ≡ told (map_of rows) (slot.League l) = c.item-item.ensures ∙ ap (λ n. told (map_of rows) (slot.League n)) c.get.ensures.value in
    subst (λ made. IsSomeAnd made (IsLeagueRestored rows l)) c.in-None.is (made_there rows c.requires.lawful l there item c.in_ok-league.field-0 read c.in_ok-league.ensures)

pub returns-clause-count : goal.returns-clause-count
returns-clause-count c =
    let league = c.in-Some.league in
    if_one (λ more. more ≡ c.args.book ++ league ∷ []) (λ (more : List LeagueFacts). length more ≡ length c.args.book + 1) c.restore.result
    (λ more is. ap length is ∙ length-append c.args.book (league ∷ [])) c.restore.ensures

pub returns-clause-restored : goal.returns-clause-restored
returns-clause-restored c =
    let rows = c.args.stored.now in
    let l = c.numbered-next.result in
    let league = c.in-Some.league in
    let number : l ≡ length c.args.book + 1 = c.numbered-next.ensures ∙ ap (λ n. n + 1) c.count.ensures.value in
    let there : is_there (map_of rows) (slot.League l) ≡ true = ap (λ n. is_there (map_of rows) (slot.League n)) number ∙ c.requires.there in
    let item = option_map (λ i. i.now) c.item-item.result in
    let read : item ≡ told (map_of rows) (slot.League l) = c.item-item.ensures ∙ ap (λ n. told (map_of rows) (slot.League n)) c.get.ensures.value in
    let own : IsLeagueRestored rows l league
    = subst (λ made. IsSomeAnd made (IsLeagueRestored rows l)) c.in-Some.is (made_there rows c.requires.lawful l there item c.in_ok-league.field-0 read c.in_ok-league.ensures) in
    if_one (λ more. more ≡ c.args.book ++ league ∷ []) (λ (more : List LeagueFacts). AreLeaguesRestored rows more) c.restore.result
    (λ more is. one_more rows c.args.book more league is c.requires.restored (subst (λ n. IsLeagueRestored rows n league) number own)) c.restore.ensures
