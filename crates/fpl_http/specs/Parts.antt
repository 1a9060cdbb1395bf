-- where the parts of a message stand, and what is known of the bytes that wait
use Rattle.std.specs.Prelude.{ℕ, ◌≡◌, ◌≤◌, ◌-◌, List, length, take, slice_range, Option, None, option_map, Ok, Err}
use Rattle.std.specs.Option.{ForSome}
use Rattle.httparse.specs.Grammar.{RequestHead}
use Rattle.httparse.specs.declared.spans.Span.{Span}
use Rattle.fpl_http.specs.declared.head.Parts.{Parts}
use Rattle.fpl_http.specs.declared.head.Judged.{Judged}
use Rattle.fpl_http.specs.declared.head.Judged.TheVariants.{Unfit, Fit}
use Rattle.fpl_http.specs.declared.head.Known.{Known}
use Rattle.fpl_http.specs.declared.head.Known.TheVariants.{Searched, Awaits, Refused}
use Rattle.fpl_http.specs.declared.lines.HeadEnd.TheVariants.{At}
use Rattle.fpl_http.specs.Head.{ReadsHead, IsHeadOf, fields_of}
use Rattle.fpl_http.specs.Lines.{strip, head_len, head_end}
use Rattle.fpl_http.specs.Stream.{Request, Refusal, IsFront, front_after, length_in, length_of, key_in, closes_in}

-- the bytes of a span
abbrev pub bytes_at : List ℕ → Span → List ℕ
bytes_at bytes s = slice_range bytes s.start s.end

-- the message whose parts stand so in these bytes
abbrev pub request_at : List ℕ → Parts → Request
request_at bytes p = record {
  method = bytes_at bytes p.method;
  target = bytes_at bytes p.target;
  key = option_map (bytes_at bytes) p.key;
  body = bytes_at bytes p.body;
  closes = p.closes;
}

-- a span lies within n bytes
abbrev pub Within : ℕ → Span → Type 0
Within n s = (s.start ≤ s.end) × (s.end ≤ n)

-- all parts lie within n bytes
abbrev pub PartsWithin : ℕ → Parts → Type 0
PartsWithin n p = Within n p.method × Within n p.target × ForSome p.key (Within n) × Within n p.body

-- the parts by the fields of a head, its version, and where its method and its target stand
pub record ArePartsBy (buf : List ℕ) (fields : List (List ℕ × List ℕ)) (minor : ℕ) (method target : Span) (p : Parts) : Type 0 where
  pub method_is : p.method ≡ method
  pub target_is : p.target ≡ target
  pub start : p.body.start ≡ length buf
  pub ordered : p.body.start ≤ p.body.end
  pub told : length_in fields (bytes_at buf method) ≡ Ok (p.body.end - p.body.start)
  pub key : option_map (bytes_at buf) p.key ≡ key_in fields
  pub key_within : ForSome p.key (Within (length buf))
  pub closes : p.closes ≡ closes_in minor fields

-- what the fields of a head tell
abbrev pub FieldsTell : List ℕ → List (List ℕ × List ℕ) → ℕ → Span → Span → Judged → Type 0
FieldsTell buf fields minor method target (Unfit k) = length_in fields (bytes_at buf method) ≡ Err k
FieldsTell buf fields minor method target (Fit p) = ArePartsBy buf fields minor method target p

-- the parts of a message with this head
pub record ArePartsOf (head : List ℕ) (h : RequestHead) (p : Parts) : Type 0 where
  pub start : p.body.start ≡ length head
  pub ordered : p.body.start ≤ p.body.end
  pub told : length_of h ≡ Ok (p.body.end - p.body.start)
  pub method : bytes_at head p.method ≡ h.method
  pub method_within : Within (length head) p.method
  pub target : bytes_at head p.target ≡ h.target
  pub target_within : Within (length head) p.target
  pub key : option_map (bytes_at head) p.key ≡ key_in (fields_of h)
  pub key_within : ForSome p.key (Within (length head))
  pub closes : p.closes ≡ closes_in h.minor (fields_of h)

-- what a head tells: a refusal, whatever follows it, or the parts of its message
abbrev pub HeadTells : List ℕ → Judged → Type 0
HeadTells head (Unfit k) = (o : Option RequestHead) × IsHeadOf head o × ((after : List ℕ) → front_after o after ≡ Refusal k)
HeadTells head (Fit p) = (h : RequestHead) × ReadsHead head h × ArePartsOf head h p

-- a head stands at the front, and these are the parts of its message
pub record IsHeaded (waits : List ℕ) (p : Parts) : Type 0 where
  pub stripped : strip waits ≡ waits
  pub end : head_end waits ≡ At p.body.start
  pub h : RequestHead
  pub reads : ReadsHead (take p.body.start waits) h
  pub parts : ArePartsOf (take p.body.start waits) h p

-- a refusal stands at the front
pub record IsUnfit (waits : List ℕ) (k : ℕ) : Type 0 where
  pub stripped : strip waits ≡ waits
  pub long : 2 ≤ length waits
  pub front : IsFront waits (Refusal k)

-- what is known of the bytes that wait: in so many no head ends; or the parts of the message; or the refusal
abbrev pub Knows : List ℕ → Known → Type 0
Knows waits (Searched n) = (n ≤ length waits) × (n ≤ 8192) × (head_len (take n waits) ≡ None)
Knows waits (Awaits p) = IsHeaded waits p
Knows waits (Refused k) = IsUnfit waits k
