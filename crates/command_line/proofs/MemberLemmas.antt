-- A draft that words order has from 2 to 8 members.
use Rattle.std.proofs.Common.{◌≡◌, ◌≤◌, ◌^◌, ◌-◌, ℕ, Bool, true, false, List, Option, Some, None, arith, refl, subst}
use Rattle.std.specs.Prelude.{IfOk, IfSome, Ok, Err, Result, codes, if◌then◌else◌}
use Rattle.std.specs.List.{list_any}
use Rattle.std.specs.Str.{bytes_eq}
use Rattle.std.proofs.lemmas.Bool.Decides.{nat_tests}
use Rattle.clap.specs.Words.{Row, Text, first_of}
use Rattle.command_line.specs.declared.words.WordFault.{WordFault}
use Rattle.command_line.specs.declared.words.Words.{Words}
use Rattle.command_line.specs.Options.{entered_in}
use Rattle.command_line.specs.Orders.{HasFewMembers, draft, dream, events, further_named, generate, is_dash, load, order_named, ordered, pipe, read, report, score, serve}
use Rattle.command_line.specs.Values.{◌>>=◌, Answers, clients, connections, key, match_length, number, number_in, pages, path, profile, report_of, spelled, store, within}

-- what holds of whatever each value leads to holds of what one leads to
bound : {A B : Type 0} (x : Option A) (next : A → Option B) (P : B → Type 0) → ((a : A) → x ≡ Some a → IfSome (next a) P) → IfSome (x >>= next) P
bound None next P each = tt
bound (Some a) next P each = each a refl

either : (b : Bool) (x y : Option Words) → IfSome x HasFewMembers → IfSome y HasFewMembers → IfSome (if b then x else y) HasFewMembers
either true x y p q = p
either false x y p q = q

-- a value that something leads to comes from one
from_some : {A B : Type 0} (x : Option A) (next : A → Option B) (b : B) → x >>= next ≡ Some b → (a : A) × (next a ≡ Some b)
from_some None next b is = cc
from_some (Some a) next b is = (a, is)

within_few : (n m : ℕ) → within 2 8 n ≡ Some m → (2 ≤ m) × (m ≤ 8)
within_few n m is = grind (arith, nat_tests)

number_few : (given : List Row) (m : ℕ) → number (codes "members") 2 8 given ≡ Some m → (2 ≤ m) × (m ≤ 8)
number_few given m is =
    let text = from_some (first_of (codes "members") given) (number_in 2 8) m is in
    let n = from_some (spelled text.0) (within 2 8) m text.1 in
    within_few n.0 m n.1

-- no command but a draft has members, and a draft has few
few_draft : (given : List Row) → IfSome (draft given) HasFewMembers
few_draft given =
    bound (key given) _ HasFewMembers (λ k _. bound (path (codes "store") given) _ HasFewMembers (λ kept _.
    bound (number (codes "members") 2 8 given) _ HasFewMembers (λ members is. number_few given members is)))

few_further : (name : Text) (given : List Row) → IfSome (further_named name given) HasFewMembers
few_further name given =
    either (bytes_eq name (codes "dream")) (dream given) _
    (bound (key given) _ HasFewMembers (λ k _. bound (path (codes "store") given) _ HasFewMembers (λ kept _. bound (number (codes "gameweek") 1 38 given) _ HasFewMembers (λ gameweek _. tt))))
    (either (bytes_eq name (codes "events")) (events given) _
    (bound (key given) _ HasFewMembers (λ k _. bound (path (codes "store") given) _ HasFewMembers (λ kept _.
    bound (number (codes "fixture") 1 4294967295 given) _ HasFewMembers (λ fixture _. bound (match_length given) _ HasFewMembers (λ minutes _. tt)))))
    (either (bytes_eq name (codes "draft")) (draft given) None (few_draft given) tt))

few_named : (name : Text) (given : List Row) → IfSome (order_named name given) HasFewMembers
few_named name given =
    either (bytes_eq name (codes "score")) (score given) _ (bound (profile given) _ HasFewMembers (λ rules _. tt))
    (either (bytes_eq name (codes "pipe")) (pipe given) _ (bound (key given) _ HasFewMembers (λ k _. bound (store given) _ HasFewMembers (λ kept _. tt)))
    (either (bytes_eq name (codes "serve")) (serve given) _
    (bound (key given) _ HasFewMembers (λ k _. bound (number (codes "port") 1 65535 given) _ HasFewMembers (λ port _. bound (clients given) _ HasFewMembers (λ most _.
    bound (connections most given) _ HasFewMembers (λ count _. bound (pages most given) _ HasFewMembers (λ folder _. bound (store given) _ HasFewMembers (λ kept _. tt)))))))
    (either (bytes_eq name (codes "load")) (load given) _
    (bound (key given) _ HasFewMembers (λ k _. bound (path (codes "store") given) _ HasFewMembers (λ kept _. bound (path (codes "dir") given) _ HasFewMembers (λ folder _.
    bound (number (codes "split") 0 38 given) _ HasFewMembers (λ split _. bound (profile given) _ HasFewMembers (λ rules _. tt))))))
    (either (bytes_eq name (codes "report")) (report given) _
    (bound (key given) _ HasFewMembers (λ k _. bound (path (codes "store") given) _ HasFewMembers (λ kept _. bound (report_of given) _ HasFewMembers (λ shown _. tt))))
    (either (bytes_eq name (codes "generate")) (generate given) _
    (bound (number (codes "seed") 0 (2 ^ 64 - 1) given) _ HasFewMembers (λ seed _. bound (store given) _ HasFewMembers (λ kept _. tt)))
    (few_further name given))))))

few_ordered : (line : List Text) → IfSome (ordered line) HasFewMembers
few_ordered line =
    either (list_any is_dash line) None (read line) tt (bound (entered_in line) _ HasFewMembers (λ command _. few_named command.0 command.1))

-- so it is where they are answered
answered : (said : Option Words) (result : Result Words WordFault) → IfSome said HasFewMembers → Answers said result → IfOk result HasFewMembers
answered None (Ok one) few says = cc
answered (Some other) (Ok one) few says = subst (λ (o : Option Words). IfSome o HasFewMembers) says few
answered said (Err fault) few says = tt

pub few_said : (line : List Text) (result : Result Words WordFault) → Answers (ordered line) result → IfOk result HasFewMembers
few_said line result says = answered (ordered line) result (few_ordered line) says
