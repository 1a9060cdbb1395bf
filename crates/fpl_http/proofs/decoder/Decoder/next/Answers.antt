use Rattle.std.proofs.Common.{ap, sym, subst, refl, ◌∙◌, ◌≡◌, ◌≤◌, ◌<◌, ℕ, List, length}
use Rattle.fpl_http.specs.Stored.{Stored}
use Rattle.fpl_http.specs.Held.{Held}
use Rattle.fpl_http.specs.Lines.{strip}
use Rattle.fpl_http.specs.Parts.{IsHeaded, IsUnfit, request_at}
use Rattle.fpl_http.specs.Stream.{Refusal, Wanting, IsFront}
use Rattle.fpl_http.specs.declared.decoder.Next.TheVariants.{Refused}
use Rattle.std.specs.Prelude.{IsTrue}
use Rattle.fpl_http.specs.Responses.{is_answer_status}
use Rattle.fpl_http.proofs.StreamLemmas.{refusal_status}
use Rattle.fpl_http.proofs.LinesLemmas.{strip_idem}
use Rattle.fpl_http.proofs.PartsLemmas.{headed_wanting}
use Rattle.fpl_http.proofs.HeldLemmas.{nothing_found, wants_no_refusal, whole_no_refusal, one_refusal, front_before, gives_message}
use Rattle.fpl_http.proofs.decoder.Decoder.next.Goals as goal

pub look-requires-clause-stripped : goal.look-requires-clause-stripped
look-requires-clause-stripped c =
    let here = c.waits.ensures ∙ ap (λ (d : Held). d.pending) (c.self.view_is ∙ c.give_up.ensures) in
    ap strip here ∙ strip_idem c.args.self.now.pending ∙ sym here

pub returns-in-Searched : goal.returns-in-Searched
returns-in-Searched c =
    let old = c.args.self.now.pending in
    let here = ap (λ (d : Held). d.pending) (c.self.view_is ∙ c.give_up.ensures) in
    let none = nothing_found (request_at c.self.inside.buffer.kept) c.self.inside.found (ap (λ (d : Held). d.found) (c.self.view_is ∙ c.give_up.ensures)) in
    let front = front_before old c.waits.result.now Wanting (c.waits.ensures ∙ here) (c.look.ensures.wanting c.in-Searched.field-0 c.in-Searched.is) in
    record {
      gives = (front, here, rw none refl);
      refused = λ k. (λ e. absurd (cc), λ p. absurd (wants_no_refusal old k front p));
      status = λ k e. absurd (cc);
      for_good = λ k p. absurd (wants_no_refusal old k front p);
    }

pub returns-in-Refused : goal.returns-in-Refused
returns-in-Refused c =
    let old = c.args.self.now.pending in
    let status = c.in-Refused.status in
    let here = ap (λ (d : Held). d.pending) (c.self.view_is ∙ c.give_up.ensures) in
    let none = nothing_found (request_at c.self.inside.buffer.kept) c.self.inside.found (ap (λ (d : Held). d.found) (c.self.view_is ∙ c.give_up.ensures)) in
    let known : IsUnfit c.waits.result.now status = rw c.in-Refused.is at c.look.ensures.knows in
    let front = front_before old c.waits.result.now (Refusal status) (c.waits.ensures ∙ here) known.front in
    let there : IsFront c.self.inside.buffer.waits (Refusal status) = subst (λ (l : List ℕ). IsFront l (Refusal status)) c.waits.ensures known.front in
    record {
      gives = (front, here, rw none refl);
      refused = λ k. (λ e. let same : status ≡ k = cc in subst (λ (i : ℕ). IsFront old (Refusal i)) same front, λ p. ap Refused (one_refusal old status k front p));
      status = λ k e. let same : status ≡ k = cc in subst (λ (i : ℕ). IsTrue (is_answer_status i)) same (refusal_status old status front);
      for_good = λ k p. subst (λ (i : ℕ). IsFront c.self.inside.buffer.waits (Refusal i)) (one_refusal old status k front p) there;
    }

pub returns-then-parts-waits : goal.returns-then-parts-waits
returns-then-parts-waits c =
    let old = c.args.self.now.pending in
    let waits = c.self.inside.buffer.waits in
    let p = c.in-Awaits.parts in
    let here = ap (λ (d : Held). d.pending) (c.self.view_is ∙ c.give_up.ensures) in
    let known : IsHeaded waits p = subst (λ (l : List ℕ). IsHeaded l p) c.waits.ensures (rw c.in-Awaits.is at c.look.ensures.knows) in
    let fits : p.body.end ≤ length waits = subst (λ (l : List ℕ). p.body.end ≤ length l) c.waits-in-Awaits.ensures c.if-parts-waits.true in
    let (m, front, found, short) = gives_message old waits c.keep.new.self.kept c.keep.new.self.waits p here known fits (ap (λ (s : Stored). s.kept) c.keep.ensures) (ap (λ (s : Stored). s.waits) c.keep.ensures) in
    record {
      gives = (m, front, found, short);
      refused = λ k. (λ e. absurd (cc), λ p. absurd (whole_no_refusal old c.keep.new.self.waits m k front p));
      status = λ k e. absurd (cc);
      for_good = λ k p. absurd (whole_no_refusal old c.keep.new.self.waits m k front p);
    }

pub returns-else-parts-waits : goal.returns-else-parts-waits
returns-else-parts-waits c =
    let old = c.args.self.now.pending in
    let waits = c.self.inside.buffer.waits in
    let p = c.in-Awaits.parts in
    let here = ap (λ (d : Held). d.pending) (c.self.view_is ∙ c.give_up.ensures) in
    let none = nothing_found (request_at c.self.inside.buffer.kept) c.self.inside.found (ap (λ (d : Held). d.found) (c.self.view_is ∙ c.give_up.ensures)) in
    let known : IsHeaded waits p = subst (λ (l : List ℕ). IsHeaded l p) c.waits.ensures (rw c.in-Awaits.is at c.look.ensures.knows) in
    let short : length waits < p.body.end = subst (λ (l : List ℕ). length l < p.body.end) c.waits-in-Awaits.ensures c.if-parts-waits.false in
    let front = front_before old waits Wanting here (headed_wanting waits p known short) in
    record {
      gives = (front, here, rw none refl);
      refused = λ k. (λ e. absurd (cc), λ q. absurd (wants_no_refusal old k front q));
      status = λ k e. absurd (cc);
      for_good = λ k q. absurd (wants_no_refusal old k front q);
    }
