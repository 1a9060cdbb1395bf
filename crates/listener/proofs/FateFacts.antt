-- What is told of a message beside pages, by what a decoder found in its bytes.
use Rattle.std.proofs.Common.{◌≡◌, ◌∙◌, ◌++◌, ℕ, List, Option, Some, None, Ok, Err, Result, drop, refl, subst, sym, take}
use Rattle.std.specs.Prelude.{IfOk, IfSome, IsSome, OnErr, option_map}
use Rattle.std.proofs.lemmas.List.{take-append-drop}
use Rattle.std.proofs.lemmas.Option.{none-some, same_Some}
use Rattle.fpl_base.specs.declared.memory.Memory.{Memory}
use Rattle.fpl_http.specs.Held.{Gives, Held}
use Rattle.fpl_http.specs.Stream.{IsFront, Request, Whole}
use Rattle.fpl_http.specs.declared.decoder.Next.{Next}
use Rattle.fpl_http.specs.declared.decoder.Next.TheVariants as next
use Rattle.fpl_http.proofs.StreamLemmas.{front_more}
use Rattle.listener.specs.Replies.{page_answer}
use Rattle.listener.specs.declared.pages.Page.{Page}
use Rattle.listener.specs.Fates.{AsksForNone, AsksForPage}

-- what stands in front of the first bytes stands in front of all
pub front_of_all : (bytes rest : List ℕ) (k : ℕ) (m : Request) → IsFront (take k bytes) (Whole m rest) → IsFront bytes (Whole m (rest ++ drop k bytes))
front_of_all bytes rest k m front =
    subst (λ s. IsFront s (Whole m (rest ++ drop k bytes))) (take-append-drop k bytes) (front_more (take k bytes) (drop k bytes) m rest front)

-- the message that was found stands in front
pub found_stands : (bytes pending : List ℕ) (k : ℕ) (told : Next) (new : Held) (m : Request) → pending ≡ take k bytes → told ≡ next.Message → Gives pending told new
    → Some m ≡ new.found → (rest : List ℕ) × IsFront bytes (Whole m rest)
found_stands bytes pending k told new m is message gives found =
    let whole = subst (λ n. Gives pending n new) message gives in
    let same : whole.0 ≡ m = sym (same_Some m whole.0 (found ∙ whole.2)) in
    let front : IsFront (take k bytes) (Whole m new.pending) = subst (λ s. IsFront s (Whole m new.pending)) is (subst (λ n. IsFront pending (Whole n new.pending)) same whole.1) in
    (new.pending ++ drop k bytes, front_of_all bytes new.pending k m front)

module _ {T : Type 0} (items : T → List ℕ) (pages : List Page) (bytes rest : List ℕ) (m : Request) where
  pub page_told : (r : Result (Option T) Memory) → IsFront bytes (Whole m rest) → IfOk r (λ text. option_map items text ≡ page_answer pages m)
      → IfOk r (λ text. IfSome text (λ t. AsksForPage pages bytes (items t)))
  page_told (Ok None) front told = tt
  page_told (Ok (Some t)) front told = record { message = m; rest = rest; front = front; answered = sym told }
  page_told (Err e) front told = tt

  out_where : (o : Option (List ℕ)) → o ≡ None → IsSome o → ⊥
  out_where None none some = cc some
  out_where (Some t) none some = none-some t (sym none)

  pub other_told : (r : Result (Option T) Memory) → IsFront bytes (Whole m rest) → IfOk r (λ text. option_map items text ≡ page_answer pages m)
      → OnErr r (IsSome (page_answer pages m)) → AsksForNone pages bytes → r ≡ Ok None
  other_told (Ok None) front told out none = refl
  other_told (Ok (Some t)) front told out none = absurd (none-some (items t) (sym (none m rest front) ∙ sym told))
  other_told (Err e) front told out none = absurd (out_where (page_answer pages m) (none m rest front) out)

  asked_by : (o : Option (List ℕ)) → page_answer pages m ≡ o → IsSome o → IsFront bytes (Whole m rest) → (text : List ℕ) × AsksForPage pages bytes text
  asked_by None is some front = absurd (cc some)
  asked_by (Some t) is some front = (t, record { message = m; rest = rest; front = front; answered = is })

  -- where memory is wanting the message asks for a page
  pub out_told : (r : Result (Option T) Memory) → IsFront bytes (Whole m rest) → OnErr r (IsSome (page_answer pages m)) → OnErr r ((text : List ℕ) × AsksForPage pages bytes text)
  out_told (Ok x) front out = tt
  out_told (Err e) front out = asked_by (page_answer pages m) refl out front
