use Rattle.std.proofs.Common.{◌∙◌, arith, refl}
use Rattle.std.proofs.lemmas.Result.{err_from_is_err_and}
use Rattle.fpl_loading.specs.Files.{fixtures_name, path_in, players_name}
use Rattle.fpl_loading.proofs.FileLemmas.{all_read, cause_behind, clubs_read, ends_at, explained_still, explains_at, file_still, none_before, none_read, one_before, players_read, two_before}
use Rattle.fpl_loading.proofs.files.texts_of.Goals as goal

-- The shelf before the first file, and behind each of them, has the same files.

pub returns-in_err-clubs-clause-fault : goal.returns-in_err-clubs-clause-fault
returns-in_err-clubs-clause-fault g c =
    let once = g.F.AskedShelf.one_read in
    let old = c.args.shelf.now in
    let files = g.F.Shelf.files old in
    let folder = c.args.folder.now in
    let p = err_from_is_err_and c.from_residual.result c.from_residual.ensures.1 in
    rw (p.1, p.2) (λ split. explains_at _ once files folder 1 split _ old c.text_of.new.shelf (none_before files folder) c.in_err-clubs.ensures.read
    (explained_still files (g.F.Shelf.files old) folder 1 _ refl c.in_err-clubs.ensures.fault))

pub returns-in_err-clubs-clause-read : goal.returns-in_err-clubs-clause-read
returns-in_err-clubs-clause-read g c =
    let once = g.F.AskedShelf.one_read in
    let old = c.args.shelf.now in
    let files = g.F.Shelf.files old in
    let folder = c.args.folder.now in
    let p = err_from_is_err_and c.from_residual.result c.from_residual.ensures.1 in
    rw (p.1, p.2) (ends_at _ once files folder 1 _ old old c.text_of.new.shelf (none_read _ once files folder old) c.in_err-clubs.ensures.read)

pub returns-in_err-clubs-clause-cause : goal.returns-in_err-clubs-clause-cause
returns-in_err-clubs-clause-cause g c =
    let once = g.F.AskedShelf.one_read in
    let old = c.args.shelf.now in
    let files = g.F.Shelf.files old in
    let folder = c.args.folder.now in
    let p = err_from_is_err_and c.from_residual.result c.from_residual.ensures.1 in
    rw (p.1, p.2) (cause_behind _ _ (g.F.Shelf.faults old) _ _ _ refl c.in_err-clubs.ensures.cause)

pub returns-in_err-players-clause-fault : goal.returns-in_err-players-clause-fault
returns-in_err-players-clause-fault g c =
    let once = g.F.AskedShelf.one_read in
    let old = c.args.shelf.now in
    let files = g.F.Shelf.files old in
    let folder = c.args.folder.now in
    let one = c.text_of.new.shelf in
    let is = c.in_ok-clubs.ensures.text in
    let asked = c.in_ok-clubs.ensures.read in
    let still = c.text_of.ensures.kept in
    let p = err_from_is_err_and c.from_residual-in_err-players.result c.from_residual-in_err-players.ensures.1 in
    rw (p.1, p.2) (λ split. explains_at _ once files folder 2 split _ one c.text_of-2.new.shelf (one_before files folder c.in_ok-clubs.clubs is) c.in_err-players.ensures.read
    (explained_still files (g.F.Shelf.files one) folder 2 _ still c.in_err-players.ensures.fault))

pub returns-in_err-players-clause-read : goal.returns-in_err-players-clause-read
returns-in_err-players-clause-read g c =
    let once = g.F.AskedShelf.one_read in
    let old = c.args.shelf.now in
    let files = g.F.Shelf.files old in
    let folder = c.args.folder.now in
    let one = c.text_of.new.shelf in
    let is = c.in_ok-clubs.ensures.text in
    let asked = c.in_ok-clubs.ensures.read in
    let still = c.text_of.ensures.kept in
    let p = err_from_is_err_and c.from_residual-in_err-players.result c.from_residual-in_err-players.ensures.1 in
    rw (p.1, p.2) (ends_at _ once files folder 2 _ old one c.text_of-2.new.shelf (clubs_read _ once files folder c.in_ok-clubs.clubs old one is asked) c.in_err-players.ensures.read)

pub returns-in_err-players-clause-cause : goal.returns-in_err-players-clause-cause
returns-in_err-players-clause-cause g c =
    let once = g.F.AskedShelf.one_read in
    let old = c.args.shelf.now in
    let files = g.F.Shelf.files old in
    let folder = c.args.folder.now in
    let p = err_from_is_err_and c.from_residual-in_err-players.result c.from_residual-in_err-players.ensures.1 in
    rw (p.1, p.2) (cause_behind _ _ (g.F.Shelf.faults old) _ _ _ c.in_ok-clubs.ensures.cause.caused c.in_err-players.ensures.cause)

pub returns-in_err-fixtures-clause-fault : goal.returns-in_err-fixtures-clause-fault
returns-in_err-fixtures-clause-fault g c =
    let once = g.F.AskedShelf.one_read in
    let old = c.args.shelf.now in
    let files = g.F.Shelf.files old in
    let folder = c.args.folder.now in
    let one = c.text_of.new.shelf in
    let is = c.in_ok-clubs.ensures.text in
    let asked = c.in_ok-clubs.ensures.read in
    let still = c.text_of.ensures.kept in
    let two = c.text_of-2.new.shelf in
    let are = file_still files (g.F.Shelf.files one) (path_in folder players_name) c.in_ok-players.players still c.in_ok-players.ensures.text in
    let second = c.in_ok-players.ensures.read in
    let later = c.text_of-2.ensures.kept ∙ still in
    let p = err_from_is_err_and c.from_residual-in_err-fixtures.result c.from_residual-in_err-fixtures.ensures.1 in
    rw (p.1, p.2) (λ split. explains_at _ once files folder 3 split _ two c.text_of-3.new.shelf (two_before files folder c.in_ok-clubs.clubs c.in_ok-players.players is are) c.in_err-fixtures.ensures.read
    (explained_still files (g.F.Shelf.files two) folder 3 _ later c.in_err-fixtures.ensures.fault))

pub returns-in_err-fixtures-clause-read : goal.returns-in_err-fixtures-clause-read
returns-in_err-fixtures-clause-read g c =
    let once = g.F.AskedShelf.one_read in
    let old = c.args.shelf.now in
    let files = g.F.Shelf.files old in
    let folder = c.args.folder.now in
    let one = c.text_of.new.shelf in
    let is = c.in_ok-clubs.ensures.text in
    let asked = c.in_ok-clubs.ensures.read in
    let still = c.text_of.ensures.kept in
    let two = c.text_of-2.new.shelf in
    let are = file_still files (g.F.Shelf.files one) (path_in folder players_name) c.in_ok-players.players still c.in_ok-players.ensures.text in
    let second = c.in_ok-players.ensures.read in
    let later = c.text_of-2.ensures.kept ∙ still in
    let p = err_from_is_err_and c.from_residual-in_err-fixtures.result c.from_residual-in_err-fixtures.ensures.1 in
    rw (p.1, p.2) (ends_at _ once files folder 3 _ old two c.text_of-3.new.shelf (players_read _ once files folder c.in_ok-clubs.clubs c.in_ok-players.players old one two is are asked second) c.in_err-fixtures.ensures.read)

pub returns-in_err-fixtures-clause-cause : goal.returns-in_err-fixtures-clause-cause
returns-in_err-fixtures-clause-cause g c =
    let once = g.F.AskedShelf.one_read in
    let old = c.args.shelf.now in
    let files = g.F.Shelf.files old in
    let folder = c.args.folder.now in
    let p = err_from_is_err_and c.from_residual-in_err-fixtures.result c.from_residual-in_err-fixtures.ensures.1 in
    rw (p.1, p.2) (cause_behind _ _ (g.F.Shelf.faults old) _ _ _ (c.in_ok-players.ensures.cause.caused ∙ c.in_ok-clubs.ensures.cause.caused) c.in_err-fixtures.ensures.cause)

pub returns-clause-read : goal.returns-clause-read
returns-clause-read g c =
    let once = g.F.AskedShelf.one_read in
    let old = c.args.shelf.now in
    let files = g.F.Shelf.files old in
    let folder = c.args.folder.now in
    let one = c.text_of.new.shelf in
    let is = c.in_ok-clubs.ensures.text in
    let asked = c.in_ok-clubs.ensures.read in
    let still = c.text_of.ensures.kept in
    let two = c.text_of-2.new.shelf in
    let are = file_still files (g.F.Shelf.files one) (path_in folder players_name) c.in_ok-players.players still c.in_ok-players.ensures.text in
    let second = c.in_ok-players.ensures.read in
    let later = c.text_of-2.ensures.kept ∙ still in
    let have = file_still files (g.F.Shelf.files two) (path_in folder fixtures_name) c.in_ok-fixtures.fixtures later c.in_ok-fixtures.ensures.text in
    all_read _ once files folder c.in_ok-clubs.clubs c.in_ok-players.players c.in_ok-fixtures.fixtures old one two c.text_of-3.new.shelf
    (record { clubs_are = is; players_are = are; fixtures_are = have }) asked second c.in_ok-fixtures.ensures.read

pub returns-clause-cause : goal.returns-clause-cause
returns-clause-cause g c = record {
  later = omega (arith, c.in_ok-clubs.ensures.cause.caused, c.in_ok-players.ensures.cause.caused, c.in_ok-fixtures.ensures.cause.caused);
  caused = c.in_ok-fixtures.ensures.cause.caused ∙ c.in_ok-players.ensures.cause.caused ∙ c.in_ok-clubs.ensures.cause.caused;
}
