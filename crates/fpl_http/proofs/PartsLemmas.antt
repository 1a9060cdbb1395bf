-- where the parts of a message stand, and what stays known when more bytes come
use Rattle.std.proofs.Common.{◌≡◌, ◌∙◌, ap, sym, subst, refl, ℕ, List, ◌++◌, ◌+◌, ◌-◌, ◌<◌, ◌≤◌, length, drop, take, map, true, false, arith}
use Rattle.std.proofs.lemmas.Bool.Decides.{nat_tests}
use Rattle.std.proofs.lemmas.List.{length-take, length-drop, length-append, drop-drop, take-append-le, take-take}
use Rattle.std.specs.Prelude.{Option, Some, None, option_map, Result, Ok, Err, nat_le}
use Rattle.std.specs.Option.{ForSome}
use Rattle.httparse.specs.Grammar.{RequestHead}
use Rattle.httparse.specs.Spans.{IsRequestAt, IsRequestWithin, header_bytes}
use Rattle.httparse.specs.declared.spans.Span.{Span}
use Rattle.httparse.specs.declared.spans.HeaderSpan.{HeaderSpan}
use Rattle.httparse.specs.declared.spans.RequestSpans.{RequestSpans}
use Rattle.fpl_http.specs.declared.head.Parts.{Parts}
use Rattle.fpl_http.specs.declared.head.Judged.{Judged}
use Rattle.fpl_http.specs.declared.head.Judged.TheVariants.{Unfit, Fit}
use Rattle.fpl_http.specs.declared.head.Known.{Known}
use Rattle.fpl_http.specs.declared.head.Known.TheVariants.{Searched, Awaits, Refused}
use Rattle.fpl_http.specs.declared.lines.HeadEnd.{HeadEnd}
use Rattle.fpl_http.specs.declared.lines.HeadEnd.TheVariants.{Missing, TooLarge, At}
use Rattle.fpl_http.specs.Head.{ReadsHead, fields_of}
use Rattle.fpl_http.specs.Lines.{strip, head_len, head_end}
use Rattle.fpl_http.specs.Stream.{Request, length_in, key_in, closes_in, request_of, length_of, Front, Wanting, Refusal, Whole, front_by, FrontAt, IsFront}
use Rattle.fpl_http.specs.Parts.{bytes_at, request_at, Within, PartsWithin, FieldsTell, HeadTells, ArePartsOf, IsHeaded, IsUnfit, Knows}
use Rattle.fpl_http.proofs.LinesLemmas.{strip_long, end_size, end_more, end_large, missing_short, missing_none}
use Rattle.fpl_http.proofs.StreamLemmas.{front_refused}
use Rattle.fpl_http.proofs.StoredLemmas.{front_cut}

-- ---- what a head tells

-- what the fields tell, with the head that the parser read
pub tells_by : (head : List ℕ) (r : RequestSpans) (spans : List HeaderSpan) (h : RequestHead) (j : Judged)
    → ReadsHead head h → IsRequestAt head spans r h → IsRequestWithin head spans r
    → FieldsTell head (map (header_bytes head) (take r.headers spans)) r.version r.method r.path j → HeadTells head j
tells_by head r spans h (Unfit k) reads at within told =
    let fields : length_in (fields_of h) (bytes_at head r.method) ≡ Err k = subst (λ (fs : List (List ℕ × List ℕ)). length_in fs (bytes_at head r.method) ≡ Err k) at.fields told in
    let l : length_of h ≡ Err k = ap (λ (m : List ℕ). length_in (fields_of h) m) (sym at.method) ∙ fields in
    (Some h, reads, λ after. ap (λ (o : Result ℕ ℕ). front_by o h after) l)
tells_by head r spans h (Fit p) reads at within told =
    let most : r.len ≤ length head = within.section.len_fits in
    let method : bytes_at head p.method ≡ h.method = ap (bytes_at head) told.method_is ∙ at.method in
    let target : bytes_at head p.target ≡ h.target = ap (bytes_at head) told.target_is ∙ at.path in
    let length_is : length_of h ≡ Ok (p.body.end - p.body.start) =
    ap (λ (m : List ℕ). length_in (fields_of h) m) (sym at.method)
    ∙ subst (λ (fs : List (List ℕ × List ℕ)). length_in fs (bytes_at head r.method) ≡ Ok (p.body.end - p.body.start)) at.fields told.told in (
      h,
      reads,
      record {
        start = told.start;
        ordered = told.ordered;
        told = length_is;
        method = method;
        method_within = subst (Within (length head)) (sym told.method_is) (within.method.0, omega (arith, within.method.1, most));
        target = target;
        target_within = subst (Within (length head)) (sym told.target_is) (within.path.0, omega (arith, within.path.1, most));
        key = subst (λ (fs : List (List ℕ × List ℕ)). option_map (bytes_at head) p.key ≡ key_in fs) at.fields told.key;
        key_within = told.key_within;
        closes = subst (λ (v : ℕ). p.closes ≡ closes_in v (fields_of h)) at.version (subst (λ (fs : List (List ℕ × List ℕ)). p.closes ≡ closes_in r.version fs) at.fields told.closes);
      },
    )

-- ---- spans of a front

span_front : (bytes : List ℕ) (n : ℕ) (s : Span) → n ≤ length bytes → Within n s → bytes_at (take n bytes) s ≡ bytes_at bytes s
span_front bytes n s le (ordered, inside) =
    ap (take (s.end - s.start)) (front_cut bytes s.start n (omega arith)) ∙ take-take (s.end - s.start) (n - s.start) (drop s.start bytes) (omega arith)

key_front : (bytes : List ℕ) (n : ℕ) (k : Option Span) → n ≤ length bytes → ForSome k (Within n) → option_map (bytes_at (take n bytes)) k ≡ option_map (bytes_at bytes) k
key_front bytes n None le inside = refl
key_front bytes n (Some s) le inside = ap Some (span_front bytes n s le (inside s refl))

wider : (n m : ℕ) (k : Option Span) → n ≤ m → ForSome k (Within n) → ForSome k (Within m)
wider n m k le h = λ s e. let w = h s e in (w.0, omega (arith, w.1, le))

-- the parts of a message lie where they lay, in each front that has them all
pub request_front : (bytes : List ℕ) (n : ℕ) (p : Parts) → n ≤ length bytes → PartsWithin n p → request_at (take n bytes) p ≡ request_at bytes p
request_front bytes n p le (a, b, c, d) =
    rw (span_front bytes n p.method le a, span_front bytes n p.target le b, key_front bytes n p.key le c, span_front bytes n p.body le d) refl

-- ---- the front, where its head is known

pub headed_long : (waits : List ℕ) (p : Parts) → IsHeaded waits p → (p.body.start ≤ length waits) × (2 ≤ length waits)
unfolding head_end
headed_long waits p known = let size = end_size 8192 waits p.body.start known.end in (size.1, size.2)

-- a message has bytes
pub headed_some : (waits : List ℕ) (p : Parts) → IsHeaded waits p → 1 ≤ p.body.end
unfolding head_end
headed_some waits p known = let size = end_size 8192 waits p.body.start known.end in omega (arith, size.0, known.parts.ordered)

at_head : (waits : List ℕ) (p : Parts) (known : IsHeaded waits p) (f : Front) → f ≡ front_by (length_of known.h) known.h (drop p.body.start waits) → IsFront waits f
at_head waits p known f e =
    let whole : FrontAt (At p.body.start) waits f = (Some known.h, known.reads, e) in
    let there : FrontAt (head_end waits) waits f = subst (λ (d : HeadEnd). FrontAt d waits f) (sym known.end) whole in
    record { at = subst (λ (l : List ℕ). FrontAt (head_end l) l f) (sym known.stripped) there }

too_long : (n m : ℕ) → m < n → nat_le n m ≡ false
too_long n m h = grind (arith, nat_tests)

long_enough : (n m : ℕ) → n ≤ m → nat_le n m ≡ true
long_enough n m h = grind (arith, nat_tests)

-- while the body has not come, more is wanted
pub headed_wanting : (waits : List ℕ) (p : Parts) → IsHeaded waits p → length waits < p.body.end → IsFront waits Wanting
headed_wanting waits p known short =
    let test = too_long (p.body.end - p.body.start) (length (drop p.body.start waits)) (omega (arith, length-drop p.body.start waits, known.parts.ordered, short, (headed_long waits p known).0)) in
    let front : Wanting ≡ front_by (Ok (p.body.end - p.body.start)) known.h (drop p.body.start waits) = rw test refl in
    at_head waits p known Wanting (front ∙ ap (λ (l : Result ℕ ℕ). front_by l known.h (drop p.body.start waits)) (sym known.parts.told))

-- all parts lie in the message
pub headed_within : (waits : List ℕ) (p : Parts) → IsHeaded waits p → PartsWithin p.body.end p
headed_within waits p known =
    let parts = known.parts in
    let size : length (take p.body.start waits) ≡ p.body.start = sym parts.start in
    let ordered = parts.ordered in (
      (parts.method_within.0, omega (arith, parts.method_within.1)),
      (parts.target_within.0, omega (arith, parts.target_within.1)),
      wider (length (take p.body.start waits)) p.body.end p.key (omega arith) parts.key_within,
      (ordered, omega arith),
    )

-- once the body has come, the message is whole
pub headed_whole : (waits : List ℕ) (p : Parts) → IsHeaded waits p → p.body.end ≤ length waits
    → IsFront waits (Whole (request_at (take p.body.end waits) p) (drop p.body.end waits))
headed_whole waits p known fits =
    let parts = known.parts in
    let h = known.h in
    let start = p.body.start in
    let head = take start waits in
    let ordered = parts.ordered in
    let len : ℕ = p.body.end - start in
    let long = (headed_long waits p known).0 in
    let size : length head ≡ start = sym parts.start in
    let test = long_enough len (length (drop start waits)) (omega (arith, length-drop start waits, fits)) in
    let front : Whole (request_of h (take len (drop start waits))) (drop len (drop start waits)) ≡ front_by (Ok len) h (drop start waits) = rw test refl in
    let method : bytes_at waits p.method ≡ h.method = sym (span_front waits start p.method long (rw size at parts.method_within)) ∙ parts.method in
    let target : bytes_at waits p.target ≡ h.target = sym (span_front waits start p.target long (rw size at parts.target_within)) ∙ parts.target in
    let inside : ForSome p.key (Within start) = rw size at parts.key_within in
    let key : option_map (bytes_at waits) p.key ≡ key_in (fields_of h) = sym (key_front waits start p.key long inside) ∙ parts.key in
    let same : request_at waits p ≡ request_of h (take len (drop start waits)) = rw (method, target, key, parts.closes) refl in
    let split : len + start ≡ p.body.end = omega arith in
    let rest : drop len (drop start waits) ≡ drop p.body.end waits = drop-drop len start waits ∙ ap (λ (i : ℕ). drop i waits) (omega arith) in
    let whole : Whole (request_at (take p.body.end waits) p) (drop p.body.end waits) ≡ Whole (request_of h (take len (drop start waits))) (drop len (drop start waits)) =
    ap (λ (r : Request). Whole r (drop p.body.end waits)) (request_front waits p.body.end p fits (headed_within waits p known) ∙ same)
    ∙ ap (λ (l : List ℕ). Whole (request_of h (take len (drop start waits))) l) (sym rest) in
    at_head waits p known (Whole (request_at (take p.body.end waits) p) (drop p.body.end waits)) (whole ∙ front ∙ ap (λ (l : Result ℕ ℕ). front_by l h (drop start waits)) (sym parts.told))

-- ---- more bytes

headed_more : (waits x : List ℕ) (p : Parts) → IsHeaded waits p → IsHeaded (waits ++ x) p
unfolding head_end
headed_more waits x p known =
    let (long, two) = headed_long waits p known in
    let same : take p.body.start (waits ++ x) ≡ take p.body.start waits = take-append-le p.body.start waits x long in
    let two' : 2 ≤ length (strip waits) = rw known.stripped two in
    record {
      stripped = strip_long waits x two' ∙ ap (λ (l : List ℕ). l ++ x) known.stripped;
      end = end_more 8192 waits x p.body.start known.end;
      h = known.h;
      reads = subst (λ (l : List ℕ). ReadsHead l known.h) (sym same) known.reads;
      parts = subst (λ (l : List ℕ). ArePartsOf l known.h p) (sym same) known.parts;
    }

unfit_more : (waits x : List ℕ) (k : ℕ) → IsUnfit waits k → IsUnfit (waits ++ x) k
unfit_more waits x k known =
    let two : 2 ≤ length (strip waits) = rw known.stripped known.long in
    record {
      stripped = strip_long waits x two ∙ ap (λ (l : List ℕ). l ++ x) known.stripped;
      long = omega (arith, known.long, length-append waits x);
      front = front_refused waits x k known.front;
    }

-- what is known stays known when more bytes come
pub knows_more : (waits x : List ℕ) (k : Known) → Knows waits k → Knows (waits ++ x) k
knows_more waits x (Searched n) (le, most, none) = (omega (arith, length-append waits x), most, ap head_len (take-append-le n waits x le) ∙ none)
knows_more waits x (Awaits p) known = headed_more waits x p known
knows_more waits x (Refused k) known = unfit_more waits x k known

-- ---- what the search tells

-- no head ends in what waits
pub missing_knows : (waits : List ℕ) → Missing ≡ head_end waits → strip waits ≡ waits → Knows waits (Searched (length waits)) × IsFront waits Wanting
unfolding head_end
missing_knows waits e stripped =
    let short = missing_short 8192 waits (sym e) in
    ((omega arith, omega (arith, short), missing_none 8192 waits (sym e)), front_of_end waits Missing Wanting e stripped refl)
  where
    front_of_end : (waits : List ℕ) (d : HeadEnd) (f : Front) → d ≡ head_end waits → strip waits ≡ waits → FrontAt d waits f → IsFront waits f
    front_of_end waits d f e stripped at = record { at = subst (λ (l : List ℕ). FrontAt (head_end l) l f) (sym stripped) (subst (λ (g : HeadEnd). FrontAt g waits f) e at) }

-- the head is too large
pub large_knows : (waits : List ℕ) → TooLarge ≡ head_end waits → strip waits ≡ waits → Knows waits (Refused 431)
unfolding head_end
large_knows waits e stripped =
    let there : FrontAt (head_end waits) waits (Refusal 431) = subst (λ (g : HeadEnd). FrontAt g waits (Refusal 431)) e refl in
    record { stripped = stripped; long = (end_large 8192 waits waits (omega arith) (sym e)).1; front = record { at = subst (λ (l : List ℕ). FrontAt (head_end l) l (Refusal 431)) (sym stripped) there } }

-- the head was judged
pub judged_unfit : (waits : List ℕ) (n k : ℕ) → At n ≡ head_end waits → strip waits ≡ waits → HeadTells (take n waits) (Unfit k) → Knows waits (Refused k)
unfolding head_end
judged_unfit waits n k e stripped (o, is, tells) =
    let there : FrontAt (head_end waits) waits (Refusal k) = subst (λ (g : HeadEnd). FrontAt g waits (Refusal k)) e (o, is, sym (tells (drop n waits))) in
    record { stripped = stripped; long = (end_size 8192 waits n (sym e)).2; front = record { at = subst (λ (l : List ℕ). FrontAt (head_end l) l (Refusal k)) (sym stripped) there } }

pub judged_fit : (waits : List ℕ) (n : ℕ) (p : Parts) → At n ≡ head_end waits → strip waits ≡ waits → HeadTells (take n waits) (Fit p) → Knows waits (Awaits p)
unfolding head_end
judged_fit waits n p e stripped (h, reads, parts) =
    let le = (end_size 8192 waits n (sym e)).1 in
    let start : p.body.start ≡ n = omega (arith, parts.start, length-take n waits) in
    let same : take n waits ≡ take p.body.start waits = ap (λ (i : ℕ). take i waits) (sym start) in
    record {
      stripped = stripped;
      end = sym e ∙ ap At (sym start);
      h = h;
      reads = subst (λ (l : List ℕ). ReadsHead l h) same reads;
      parts = subst (λ (l : List ℕ). ArePartsOf l h p) same parts;
    }
