-- The commands are simple ones, and what clap found is moved along equations.
use Rattle.std.proofs.Common.{◌≡◌, ◌≢◌, ◌<◌, ◌+◌, ℕ, Bool, ◌||◌, true, false, refl, List, [], ◌∷◌, ◌++◌, length, map, take, get_or, ap, sym, ◌∙◌, subst, inl, inr, append_assoc, Bor}
use Rattle.std.proofs.lemmas.List.{map-append, take_more}
use Rattle.std.proofs.lemmas.Result.{IfOk-weaker}
use Rattle.std.specs.Prelude.{IfOk, Option, Some, None, Result}
use Rattle.std.specs.declared.alloc.AllocError.{AllocError}
use Rattle.clap.specs.declared.error.Error.{Error}
use Rattle.clap.specs.declared.error.kind.ErrorKind.TheVariants as kind
use Rattle.clap.specs.declared.builder.action.ArgAction.TheVariants as action
use Rattle.clap.specs.declared.builder.arg.Arg.{Arg}
use Rattle.clap.specs.declared.builder.command.Command.{Command}
use Rattle.clap.specs.declared.builder.command.Command.TheViews.{out-Command}
use Rattle.clap.specs.Kinds.{HasKind, IsAmong, Kinds}
use Rattle.clap.specs.Words.{AddsArg, AddsSubcommand, App, Rule, Shape, Text, app_of, fault_of, is_simple, is_simple_and_free, kind_of, new_rule, rule_of, with_rule, with_subcommand}
use Rattle.clap.specs.Simple.{on_top}
use Rattle.clap.proofs.OnLiterals.{clap_on_literals}
use Rattle.command_line.specs.Options.{IsCommand, flag, option, season_host, unless_faulty, with_options}

pub host_is_simple : is_simple_and_free season_host ≡ true
unfolding clap_on_literals
host_is_simple = refl

pub host_is_plain : is_simple season_host ≡ true
unfolding clap_on_literals
host_is_plain = refl

-- a command that clap parsed had no fault
pub no_fault : (a b : App) (line : List Text) → a ≡ b → is_simple_and_free b ≡ true
    → (is_simple_and_free a ≡ true → fault_of a line ≡ []) → fault_of b line ≡ []
no_fault a b line e simple h = subst (λ (x : App). fault_of x line ≡ []) e (h (ap is_simple_and_free e ∙ simple))

among : (ks : Kinds) (err : Error) → (kind_of err ≢ kind.OutOfMemory) → HasKind ks err → ks ≢ []
among ks err known (inl memory) none = known memory
among ks err known (inr there) none = subst (IsAmong (kind_of err)) none there

-- a command that clap refused had one, but for want of memory
pub some_fault : (a b : App) (line : List Text) (err : Error) → a ≡ b → is_simple_and_free b ≡ true
    → (is_simple_and_free a ≡ true → HasKind (fault_of a line) err) → (kind_of err ≢ kind.OutOfMemory) → fault_of b line ≢ []
some_fault a b line err e simple h known =
    among (fault_of b line) err known (subst (λ (x : App). HasKind (fault_of x line) err) e (h (ap is_simple_and_free e ∙ simple)))

-- nothing is said where there is a fault
pub faulty : {T : Type 0} (kinds : Kinds) (said : Option T) → kinds ≢ [] → unless_faulty kinds said ≡ None
faulty [] said some = absurd (some refl)
faulty (k ∷ more) said some = refl

pub or_not : (a b : Bool) → b ≡ false → (a || b) ≡ a
or_not true b e = refl
or_not false b e = e

-- a command with one more option
pub one_more : (a : App) (required : Bool) (names : List (Bor Text)) (i : ℕ) (d : Bor Text) (old new : Command) (arg : Arg)
    → i < length names → IsCommand (with_options a required (map (λ n. n.now) (take i names))) old
    → AddsArg old arg new → rule_of arg ≡ option required (get_or names i d).now → arg.global ≡ false
    → IsCommand (with_options a required (map (λ n. n.now) (take (i + 1) names))) new
one_more a required names i d old new arg below is adds rule local =
    let text : Bor Text → Text = λ n. n.now in
    let more : map (option required) (map text (take i names)) ++ option required (get_or names i d).now ∷ [] ≡ map (option required) (map text (take (i + 1) names))
    = sym (rw (take_more names i d below, map-append, map-append) refl) in
    record {
      app = adds.shape local ∙ ap (λ (b : App). with_rule b (rule_of arg)) is.app
          ∙ ap (with_rule (with_options a required (map text (take i names)))) rule
          ∙ ap (λ (rs : List Rule). on_top (λ s. record s { rules = rs }) a)
          (append_assoc a.top.rules (map (option required) (map text (take i names))) _ ∙ ap (λ (rs : List Rule). a.top.rules ++ rs) more);
      local = adds.globals ∙ or_not _ _ local ∙ is.local;
    }

-- an argument with its long name, which has to be given or not
pub rule_is : (required : Bool) (name : Bor Text) (bare named whole : Arg)
    → rule_of bare ≡ new_rule name.now → named ≡ record bare { long = Some name } → whole ≡ record named { required = required }
    → rule_of whole ≡ option required name.now
rule_is required name bare named whole new long is =
    ap rule_of is ∙ ap (λ (r : Rule). record r { required = required }) (ap rule_of long ∙ ap (λ (r : Rule). record r { long = Some name.now }) new)

-- a flag with its long name
pub flag_is : (name : Bor Text) (bare named whole : Arg) → rule_of bare ≡ new_rule name.now → named ≡ record bare { long = Some name } → whole ≡ record named { action = Some action.SetTrue }
    → rule_of whole ≡ flag name.now
flag_is name bare named whole new long is =
    ap rule_of is ∙ ap (λ (r : Rule). record r { action = Some action.SetTrue }) (ap rule_of long ∙ ap (λ (r : Rule). record r { long = Some name.now }) new)

-- a command with one more argument, which counts for no command below it
pub one_beside : (old : Command) (arg : Arg) (rule : Rule) (r : Result Command AllocError) → (out-Command old).has_globals ≡ false → rule_of arg ≡ rule → arg.global ≡ false
    → IfOk r (AddsArg old arg) → IfOk r (IsCommand (with_rule (app_of old) rule))
one_beside old arg rule r plain is local = IfOk-weaker r (AddsArg old arg) (IsCommand (with_rule (app_of old) rule)) (λ new adds. record {
  app = adds.shape local ∙ ap (with_rule (app_of old)) is;
  local = adds.globals ∙ or_not _ _ local ∙ plain;
})

-- a command with one more below it
pub one_below : (a : App) (old sub : Command) (r : Result Command AllocError) → (out-Command old).has_globals ≡ false → IsCommand a sub
    → IfOk r (AddsSubcommand old sub) → IfOk r (IsCommand (with_subcommand (app_of old) a.top))
one_below a old sub r plain is = IfOk-weaker r (AddsSubcommand old sub) (IsCommand (with_subcommand (app_of old) a.top)) (λ new adds. record {
  app = adds.shape is.local ∙ ap (λ (b : App). with_subcommand (app_of old) b.top) is.app;
  local = adds.globals ∙ or_not _ _ is.local ∙ plain;
})

pub below : {a b : App} (s : Shape) → a ≡ b → with_subcommand a s ≡ with_subcommand b s
below s e = ap (λ (x : App). with_subcommand x s) e
