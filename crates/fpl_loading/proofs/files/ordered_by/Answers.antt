use Rattle.std.proofs.Common.{inl, refl}
use Rattle.std.proofs.lemmas.Result.{err_from_is_err_and}
use Rattle.fpl_loading.proofs.FileLemmas.{cause_behind}
use Rattle.fpl_loading.proofs.files.ordered_by.Goals as goal

pub returns-in_err-texts-clause-fault : goal.returns-in_err-texts-clause-fault
returns-in_err-texts-clause-fault g c =
    let p = err_from_is_err_and c.from_residual.result c.from_residual.ensures.1 in
    rw (p.1, p.2) (c.in_err-texts.ensures.fault c.args.split)

pub returns-in_err-texts-clause-read : goal.returns-in_err-texts-clause-read
returns-in_err-texts-clause-read g c =
    let p = err_from_is_err_and c.from_residual.result c.from_residual.ensures.1 in
    rw (p.1, p.2) c.in_err-texts.ensures.read

pub returns-in_err-texts-clause-cause : goal.returns-in_err-texts-clause-cause
returns-in_err-texts-clause-cause g c =
    let p = err_from_is_err_and c.from_residual.result c.from_residual.ensures.1 in
    rw (p.1, p.2) (cause_behind _ _ _ _ _ _ refl c.in_err-texts.ensures.cause)

pub returns-in-Ok-clause-cause : goal.returns-in-Ok-clause-cause
returns-in-Ok-clause-cause g c = record { later = c.in_ok-texts.ensures.cause.later; caused = c.in_ok-texts.ensures.cause.caused }

pub returns-in-Err-Row-clause-cause : goal.returns-in-Err-Row-clause-cause
returns-in-Err-Row-clause-cause g c = record { later = c.in_ok-texts.ensures.cause.later; caused = c.in_ok-texts.ensures.cause.caused }

pub returns-clause-read : goal.returns-clause-read
returns-clause-read g c = (4, inl c.in_ok-texts.ensures.read)

pub returns-clause-cause : goal.returns-clause-cause
returns-clause-cause g c = record { later = c.in_ok-texts.ensures.cause.later; caused = c.in_ok-texts.ensures.cause.caused }
