use Rattle.std.proofs.Common.{◌++◌}
use Rattle.fpl_http.proofs.StreamLemmas.{front_more, front_refused, front_unique}
use Rattle.fpl_http.specs.Stream.{Wanting, Whole, Refusal}
use Rattle.fpl_http.proofs.laws.fronts_stay.Goals as goal

pub returns : goal.returns
returns c = record {
  messages = λ s x rest m p. front_more s x m rest p;
  refusals = λ s x k p. front_refused s x k p;
  wanting = λ s x w. (
    λ m rest p. let e = front_unique (s ++ x) Wanting (Whole m (rest ++ x)) w (front_more s x m rest p) in cc,
    λ k p. let e = front_unique (s ++ x) Wanting (Refusal k) w (front_refused s x k p) in cc,
  );
}
