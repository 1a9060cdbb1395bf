-- What is written of lists.
use Rattle.std.proofs.Common.{◌≡◌, ◌∙◌, ◌++◌, List, [], ◌∷◌, Bool, true, Result, Ok, append-nil, ap, refl, sym, subst, if◌then◌else◌}
use Rattle.std.specs.declared.alloc.AllocError.{AllocError}
use Rattle.std.proofs.lemmas.Result.{on_ok_weaker}
use Rattle.json.specs.Token.{Token}
use Rattle.json.specs.Written.{Writes, Written}
use Rattle.json_members.specs.Tokens.{Appends}

-- nothing is written
pub wrote_none : {x : Unit {0}} (a : Written) → Appends (Ok x) a a []
wrote_none a = record { tokens = sym (append-nil a.tokens); before = refl }

-- what is written where something is so is written
pub if_so : {r : Result (Unit {0}) AllocError} {a b : Written} {ts : List Token} (us : List Token) (holds : Bool) → holds ≡ true → Appends r a b ts → Appends r a b (if holds then ts else us)
if_so {r = r} {a = a} {b = b} {ts = ts} us holds is wrote = subst (λ t. Appends r a b (if t then ts else us)) (sym is) wrote

-- where nothing is left but the closing bracket, it ends the list
pub closed : {r : Result (Unit {0}) AllocError} {a b c : Written} {whole : List Token} (rest : List Token) → rest ≡ Token.end_array ∷ [] → Writes r b c Token.end_array
    → b.tokens ++ rest ≡ a.tokens ++ whole → b.before ≡ a.before → Appends r a c whole
closed {r = r} {b = b} rest none wrote so before = record {
  tokens = on_ok_weaker r (λ e. e ∙ ap (λ ts. b.tokens ++ ts) (sym none) ∙ so) wrote.ok;
  before = wrote.room.0 ∙ before;
}
