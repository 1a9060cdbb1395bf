-- What the lines order is computed.
use Rattle.std.proofs.Common.{◌≡◌, ℕ, Bool, true, false, List, Option, Some, None, if◌then◌else◌, ap, arith, codes, refl}
use Rattle.std.specs.Str.{bytes_eq}
use Rattle.std.proofs.lemmas.Fmt.{decimal_digit}
use Rattle.clap.proofs.OnLiterals.{clap_on_literals}
use Rattle.fpl_base.specs.declared.kinds.Profile.TheVariants as rules
use Rattle.command_line.specs.Lines.{AreOrdered, read_lines, unread_lines}
use Rattle.command_line.specs.Values.{◌>>=◌, number_in, within}
use Rattle.command_line.specs.declared.words.Words.{Words}
use Rattle.command_line.specs.declared.words.Words.TheVariants as words

-- a half of one gameweek
half_is : number_in 0 38 (codes "1") ≡ Some 1
unfolding clap_on_literals
half_is = ap (λ (written : List ℕ). (if bytes_eq (codes "1") written then Some 1 else None) >>= within 0 38) (decimal_digit 1 (omega arith))

load_is : (more : Bool)
    → (number_in 0 38 (codes "1") >>= λ split. Some (words.Load (codes "operator1") (codes "s") (codes "d") split rules.A more))
    ≡ Some (words.Load (codes "operator1") (codes "s") (codes "d") 1 rules.A more)
load_is more = ap (λ (o : Option ℕ). o >>= λ split. Some (words.Load (codes "operator1") (codes "s") (codes "d") split rules.A more)) half_is

pub are_read : AreOrdered read_lines
unfolding clap_on_literals
are_read = (refl, (refl, (refl, (refl, (refl, (refl, (refl, (load_is false, (load_is true, tt)))))))))

pub are_unread : AreOrdered unread_lines
unfolding clap_on_literals
are_unread = (refl, (refl, (refl, (refl, (refl, (refl, (refl, (refl, (refl, (refl, (refl, (refl, (refl, (refl, (refl, (refl, tt))))))))))))))))
