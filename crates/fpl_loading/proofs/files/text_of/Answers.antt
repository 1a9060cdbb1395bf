use Rattle.std.proofs.Common.{◌≡◌, ◌<◌, List, ℕ, length, rules, subst, sym}
use Rattle.std.specs.Prelude.{Err, IfSome, Ok}
use Rattle.fpl_loading.specs.Files.{ExplainsFile, HasLoadCause, IsFileRead, file_name, path_in}
use Rattle.fpl_loading.specs.declared.files.LoadFault.{LoadFault}
use Rattle.fpl_loading.proofs.FileLemmas.{bad, file_asked, file_explained, file_had, file_not_had}
use Rattle.fpl_loading.proofs.files.text_of.Goals as goal

pub returns-in-Ok-ask-clause-read : goal.returns-in-Ok-ask-clause-read
returns-in-Ok-ask-clause-read g c =
    let path : c.as_str.result.now ≡ path_in c.args.folder.now (file_name c.args.file) = search rules in
    subst (λ (p : List ℕ). g.F.AskedShelf.one_read c.args.shelf.now p (Ok c.in-Ok-ask.bytes) c.ask.new.self) path c.in-Ok-ask.ensures.once

pub returns-in-Ok-ask-clause-cause : goal.returns-in-Ok-ask-clause-cause
returns-in-Ok-ask-clause-cause g c = file_had _ _ c.in-Ok-ask.bytes c.in-Ok-ask.ensures.cause

pub returns-clause-fault : goal.returns-clause-fault
returns-clause-fault g c =
    let path : c.as_str.result.now ≡ path_in c.args.folder.now (file_name c.args.file) = search rules in
    let files = g.F.Shelf.files c.args.shelf.now in
    subst (ExplainsFile files c.args.folder.now c.args.file) (sym c.load_fault.ensures)
    (file_explained files c.args.folder.now c.args.file c.in-Err.fault (λ is. subst (λ (p : List ℕ). IfSome files (λ bytes_of. 4194304 < length (bytes_of p))) path (c.in-Err.ensures.long is)))

pub returns-clause-read : goal.returns-clause-read
returns-clause-read g c =
    let path : c.as_str.result.now ≡ path_in c.args.folder.now (file_name c.args.file) = search rules in
    subst (λ (why : LoadFault). IsFileRead g.F.AskedShelf.one_read c.args.folder.now c.args.file (Err why) c.args.shelf.now c.ask.new.self) (sym c.load_fault.ensures)
    (file_asked _ g.F.AskedShelf.one_read c.args.folder.now c.args.file c.in-Err.fault c.args.shelf.now c.ask.new.self
    (subst (λ (p : List ℕ). g.F.AskedShelf.one_read c.args.shelf.now p (Err c.in-Err.fault) c.ask.new.self) path c.in-Err.ensures.once))

pub returns-clause-cause : goal.returns-clause-cause
returns-clause-cause g c =
    subst (λ (why : LoadFault). HasLoadCause (g.F.Shelf.faults c.args.shelf.now) (g.F.Shelf.faults c.ask.new.self) (bad (List ℕ) LoadFault why)) (sym c.load_fault.ensures) (file_not_had _ _ c.args.file c.in-Err.fault c.in-Err.ensures.cause)
