use Rattle.std.proofs.Common.{◌∙◌, ◌++◌, ap, sym, take}
use Rattle.std.specs.Prelude.{option_map}
use Rattle.fpl_http.specs.Held.{Held}
use Rattle.fpl_http.specs.Seen.{request_seen}
use Rattle.listener.proofs.FateFacts.{found_stands, other_told, out_told, page_told}
use Rattle.listener.proofs.shown.Shown.answer.Goals as goal

pub returns-in-Some-clause-page : goal.returns-in-Some-clause-page
returns-in-Some-clause-page c =
    let m = request_seen c.in-Some.message in
    let pending = c.feed.ensures.pending ∙ ap (λ (h : Held). h.pending ++ take c.feed.result c.args.bytes.now) c.clear.ensures in
    let found = sym (ap (option_map request_seen) c.in-Some.is) ∙ c.message.ensures in
    let stands = found_stands c.args.bytes.now c.feed.new.self.pending c.feed.result c.next.result c.next.new.self m pending c.in-Message.is c.next.ensures.gives found in
    page_told (λ t. t.items) c.args.self.now.pages c.args.bytes.now stands.0 m c.answer.result stands.1 c.answer.ensures.answer

pub returns-in-Some-clause-other : goal.returns-in-Some-clause-other
returns-in-Some-clause-other c =
    let m = request_seen c.in-Some.message in
    let pending = c.feed.ensures.pending ∙ ap (λ (h : Held). h.pending ++ take c.feed.result c.args.bytes.now) c.clear.ensures in
    let found = sym (ap (option_map request_seen) c.in-Some.is) ∙ c.message.ensures in
    let stands = found_stands c.args.bytes.now c.feed.new.self.pending c.feed.result c.next.result c.next.new.self m pending c.in-Message.is c.next.ensures.gives found in
    other_told (λ t. t.items) c.args.self.now.pages c.args.bytes.now stands.0 m c.answer.result stands.1 c.answer.ensures.answer c.answer.ensures.out

pub returns-in-Some-clause-out : goal.returns-in-Some-clause-out
returns-in-Some-clause-out c =
    let m = request_seen c.in-Some.message in
    let pending = c.feed.ensures.pending ∙ ap (λ (h : Held). h.pending ++ take c.feed.result c.args.bytes.now) c.clear.ensures in
    let found = sym (ap (option_map request_seen) c.in-Some.is) ∙ c.message.ensures in
    let stands = found_stands c.args.bytes.now c.feed.new.self.pending c.feed.result c.next.result c.next.new.self m pending c.in-Message.is c.next.ensures.gives found in
    out_told (λ t. t.items) c.args.self.now.pages c.args.bytes.now stands.0 m c.answer.result stands.1 c.answer.ensures.out
