-- the messages of a stream of bytes, and how it ends
use Rattle.std.specs.Prelude.{ℕ, ◌≡◌, ◌==◌, ◌&&◌, ◌||◌, ◌⊎◌, nat_le, nat_lt, Bool, true, false, List, [], ◌∷◌, length, take, drop, if◌then◌else◌, Option, Some, None, Result, Ok, Err, codes}
use Rattle.std.specs.List.{list_all, list_any}
use Rattle.std.specs.Char.{is_ascii_digit}
use Rattle.std.specs.Str.{bytes_eq}
use Rattle.std.specs.Str.Parse.{digits_value}
use Rattle.httparse.specs.Grammar.{RequestHead}
use Rattle.fpl_http.specs.declared.lines.HeadEnd.{HeadEnd}
use Rattle.fpl_http.specs.declared.lines.HeadEnd.TheVariants.{Missing, TooLarge, At}
use Rattle.fpl_http.specs.Head.{IsHeadOf, fields_of}
use Rattle.fpl_http.specs.Lines.{strip, head_end}
use Rattle.fpl_http.specs.Fields.{values_of, same_name}

-- a message, as the bytes of its parts
pub record Request : Type 0 where
  pub method : List ℕ
  pub target : List ℕ
  pub key : Option (List ℕ)
  pub body : List ℕ
  pub closes : Bool

-- the number that 1 to 10 digits write
abbrev pub digits_told : List ℕ → Option ℕ
digits_told v = if (nat_lt 0 (length v) && nat_le (length v) 10) && list_all is_ascii_digit v then Some (digits_value 10 v) else None

-- the length that one value tells, or the refusal
abbrev pub length_by : Option ℕ → Result (Option ℕ) ℕ
length_by None = Err 400
length_by (Some n) = Ok (Some n)

-- the length that the values of Content-Length tell, if there is one, or the refusal
abbrev pub length_told : List (List ℕ) → Result (Option ℕ) ℕ
length_told [] = Ok None
length_told (v ∷ []) = length_by (digits_told v)
length_told (v ∷ w ∷ vs) = Err 400

-- a POST needs a length, and no body is longer than 262,144 bytes
abbrev pub length_judged : List ℕ → Result (Option ℕ) ℕ → Result ℕ ℕ
length_judged method (Err k) = Err k
length_judged method (Ok None) = if bytes_eq method (codes "POST") then Err 411 else Ok 0
length_judged method (Ok (Some n)) = if nat_lt 262144 n then Err 413 else Ok n

-- the length of the body by the values of Transfer-Encoding and of Content-Length, or the refusal
abbrev pub body_length : List (List ℕ) → List (List ℕ) → List ℕ → Result ℕ ℕ
body_length [] lengths method = length_judged method (length_told lengths)
body_length (v ∷ vs) lengths method = Err 501

-- the one value
abbrev pub only_one : List (List ℕ) → Option (List ℕ)
only_one [] = None
only_one (v ∷ []) = Some v
only_one (v ∷ w ∷ vs) = None

-- a message closes by its version, which is HTTP/1.0, or by a value of Connection
abbrev pub closing : ℕ → List (List ℕ) → Bool
closing minor values = (minor == 0) || list_any (λ v. same_name v (codes "close")) values

-- what the fields of a head tell: the length of the body, the key, whether the message closes
abbrev pub length_in : List (List ℕ × List ℕ) → List ℕ → Result ℕ ℕ
length_in fields method = body_length (values_of (codes "transfer-encoding") fields) (values_of (codes "content-length") fields) method

abbrev pub key_in : List (List ℕ × List ℕ) → Option (List ℕ)
key_in fields = only_one (values_of (codes "fpl-key") fields)

abbrev pub closes_in : ℕ → List (List ℕ × List ℕ) → Bool
closes_in minor fields = closing minor (values_of (codes "connection") fields)

-- the message of a head and a body
abbrev pub request_of : RequestHead → List ℕ → Request
request_of h body = record {
  method = h.method;
  target = h.target;
  key = key_in (fields_of h);
  body = body;
  closes = closes_in h.minor (fields_of h);
}

-- the length of the body that a head announces, or the refusal
abbrev pub length_of : RequestHead → Result ℕ ℕ
length_of h = length_in (fields_of h) h.method

-- what stands at the front of a stream: not yet a message, a refusal by its status, or a message and what follows
pub data Front : Type 0 where
  Wanting : Front
  Refusal : ℕ → Front
  Whole : Request → List ℕ → Front

-- by the length of the body and the bytes after the head
abbrev pub front_by : Result ℕ ℕ → RequestHead → List ℕ → Front
front_by (Err k) h after = Refusal k
front_by (Ok n) h after = if nat_le n (length after) then Whole (request_of h (take n after)) (drop n after) else Wanting

-- by the head and the bytes after it
abbrev pub front_after : Option RequestHead → List ℕ → Front
front_after None after = Refusal 400
front_after (Some h) after = front_by (length_of h) h after

-- by the end of the head
abbrev pub FrontAt : HeadEnd → List ℕ → Front → Type 0
FrontAt Missing bytes f = f ≡ Wanting
FrontAt TooLarge bytes f = f ≡ Refusal 431
FrontAt (At n) bytes f = (o : Option RequestHead) × IsHeadOf (take n bytes) o × (f ≡ front_after o (drop n bytes))

-- f stands at the front of the stream, after empty lines
pub record IsFront (stream : List ℕ) (f : Front) : Type 0 where
  pub at : FrontAt (head_end (strip stream)) (strip stream) f

-- how a stream ends: with bytes that may begin a message, with a message that closes, or with a refusal
pub data End : Type 0 where
  Open : List ℕ → End
  Closed : End
  Refused : ℕ → End

-- the stream is these messages, and ends so: nothing that follows a message that closes is a message
abbrev pub Reads : List ℕ → List Request → End → Type 0
Reads stream [] (Open rest) = IsFront stream Wanting × (rest ≡ strip stream)
Reads stream [] Closed = ⊥
Reads stream [] (Refused k) = IsFront stream (Refusal k)
Reads stream (m ∷ ms) e = (rest : List ℕ) × IsFront stream (Whole m rest)
    × (((m.closes ≡ true) × (ms ≡ []) × (e ≡ Closed)) ⊎ ((m.closes ≡ false) × Reads rest ms e))

-- these messages, none of which closes, are at the front of the stream, and then the rest, but for empty lines
abbrev pub Begins : List ℕ → List Request → List ℕ → Type 0
Begins stream [] rest = strip stream ≡ strip rest
Begins stream (m ∷ ms) rest = (mid : List ℕ) × IsFront stream (Whole m mid) × (m.closes ≡ false) × Begins mid ms rest
