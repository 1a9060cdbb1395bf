-- A host that is opened over what a stop left.
use Rattle.std.proofs.Common.{◌≡◌, ℕ, List, subst}
use Rattle.fpl_base.specs.Keeping.{Map}
use Rattle.season_book.specs.Book.{Book}
use Rattle.season_opening.specs.Opening.{IsKeepable}
use Rattle.season_records.specs.Records.{records}
use Rattle.season_keeping.specs.Housed.{Backs, Housed}
use Rattle.season_keeping.specs.Restarting.{Restarts, StopsRestart}

module _ {K R : Type 0} (tells : K → Type 0) (holds passes : K → Map → Type 0) (tells_on : R → Type 0) (holds_on passes_on : R → Map → Type 0) where
  opened_at : (after : K) (start behind : R) (host : Housed) (it : Restarts passes tells_on holds_on passes_on after start behind host) (left : Book)
      → IsKeepable left → it.map ≡ records left → Backs holds_on passes_on behind host left
  opened_at after start behind host it left kept is = it.opens.backs it.tells left kept (subst (holds_on start) is it.held)

  pub stops_restart : StopsRestart tells holds passes tells_on holds_on passes_on
  stops_restart before after old new operator book caller now request start behind host tell backs stops it =
      let (left, may, kept, is) = stops tell backs it.map it.passed in
      ((left, may, opened_at after start behind host it left kept is), λ last fresh backed. opened_at after start behind host it last backed.keepable (backed.alone fresh it.map it.passed))
