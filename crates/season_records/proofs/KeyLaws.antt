-- The key of a slot, and the slot of a key.
use Rattle.std.proofs.Common.{◌≡◌, ◌&&◌, ◌==◌, ℕ, Bool, true, false, cond, Option, Some, arith, refl, subst}
use Rattle.std.proofs.lemmas.Bool.Decides.{nat_tests}
use Rattle.std.proofs.lemmas.Option.{same_Some, none-some, cond_some}
use Rattle.fpl_base.specs.declared.records.RecordKey.{RecordKey}
use Rattle.season_records.specs.Keys.{key_of, slot_of, only}
use Rattle.season_records.specs.declared.slot.Slot.{Slot}
use Rattle.season_records.specs.declared.slot.Slot.TheVariants as slot

same_parts : (k m : RecordKey) → k.kind ≡ m.kind → k.a ≡ m.a → k.b ≡ m.b → k.c ≡ m.c → k ≡ m
same_parts k m kind a b c i = record { kind = kind i; a = a i; b = b i; c = c i }

-- the slot of a test is the one that is named, where the test makes the key that slot's
tested : (k : RecordKey) (s m : Slot) (b : Bool) → (b ≡ true → k ≡ key_of m) → only b m ≡ Some s → k ≡ key_of s
tested k s m b is at = let both = cond_some b m s at in subst (λ x. k ≡ key_of x) both.1 (is both.0)

-- each step of the chain: its own kind, or one of the others
step : (k : RecordKey) (s : Slot) (here rest : Option Slot) (b : Bool) → (b ≡ true → here ≡ Some s → k ≡ key_of s)
    → (rest ≡ Some s → k ≡ key_of s) → cond b here rest ≡ Some s → k ≡ key_of s
step k s here rest true now more at = now refl at
step k s here rest false now more at = more at

one : (k : RecordKey) (n : ℕ) → (k.kind == n) ≡ true → (k.b == 0 && k.c == 0) ≡ true → k ≡ record { kind = n; a = k.a; b = 0; c = 0 }
one k n kind rest = same_parts k _ (grind (arith, nat_tests, kind)) refl (grind (arith, nat_tests, rest)) (grind (arith, nat_tests, rest))

two : (k : RecordKey) (n : ℕ) → (k.kind == n) ≡ true → (k.c == 0) ≡ true → k ≡ record { kind = n; a = k.a; b = k.b; c = 0 }
two k n kind rest = same_parts k _ (grind (arith, nat_tests, kind)) refl refl (grind (arith, nat_tests, rest))

three : (k : RecordKey) (n : ℕ) → (k.kind == n) ≡ true → k ≡ record { kind = n; a = k.a; b = k.b; c = k.c }
three k n kind = same_parts k _ (grind (arith, nat_tests, kind)) refl refl refl

none : (k : RecordKey) → (k.kind == 1) ≡ true → (k.a == 0 && k.b == 0 && k.c == 0) ≡ true → k ≡ record { kind = 1; a = 0; b = 0; c = 0 }
none k kind rest = same_parts k _ (grind (arith, nat_tests, kind)) (grind (arith, nat_tests, rest)) (grind (arith, nat_tests, rest)) (grind (arith, nat_tests, rest))

pub named : (k : RecordKey) (s : Slot) → slot_of k ≡ Some s → k ≡ key_of s
named k s at =
    step k s _ _ (k.kind == 1) (λ kind. tested k s slot.Season _ (none k kind))
    (step k s _ _ (k.kind == 2) (λ kind. tested k s (slot.Club k.a) _ (one k 2 kind))
    (step k s _ _ (k.kind == 3) (λ kind. tested k s (slot.Player k.a) _ (one k 3 kind))
    (step k s _ _ (k.kind == 4) (λ kind. tested k s (slot.Fixture k.a) _ (one k 4 kind))
    (step k s _ _ (k.kind == 5) (λ kind. tested k s (slot.Line k.a k.b) _ (two k 5 kind))
    (step k s _ _ (k.kind == 6) (λ kind. tested k s (slot.Entry k.a) _ (one k 6 kind))
    (step k s _ _ (k.kind == 7) (λ kind. tested k s (slot.Team k.a k.b) _ (two k 7 kind))
    (step k s _ _ (k.kind == 8) (λ kind at. subst (λ x. k ≡ key_of x) (same_Some (slot.Transfer k.a k.b k.c) s at) (three k 8 kind))
    (step k s _ _ (k.kind == 9) (λ kind. tested k s (slot.League k.a) _ (one k 9 kind))
    (step k s _ _ (k.kind == 10) (λ kind. tested k s (slot.Member k.a k.b) _ (two k 10 kind))
    (step k s _ _ (k.kind == 11) (λ kind. tested k s (slot.Cup k.a) _ (one k 11 kind))
    (step k s _ _ (k.kind == 12) (λ kind. tested k s (slot.Last k.a) _ (one k 12 kind))
    (λ nothing. absurd (none-some s nothing))))))))))))) at

pub own_slot : (s : Slot) → slot_of (key_of s) ≡ Some s
own_slot slot.Season = refl
own_slot (slot.Club club) = refl
own_slot (slot.Player player) = refl
own_slot (slot.Fixture fixture) = refl
own_slot (slot.Line fixture player) = refl
own_slot (slot.Entry entry) = refl
own_slot (slot.Team entry gameweek) = refl
own_slot (slot.Transfer entry gameweek number) = refl
own_slot (slot.League league) = refl
own_slot (slot.Member league entry) = refl
own_slot (slot.Cup cup) = refl
own_slot (slot.Last caller) = refl
