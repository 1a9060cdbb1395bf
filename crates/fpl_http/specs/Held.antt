-- what a decoder holds: the bytes that wait, and the message that was found
use Rattle.std.specs.Prelude.{ℕ, ◌≡◌, ◌<◌, List, length, Option, Some, None}
use Rattle.fpl_http.specs.declared.decoder.Next.{Next}
use Rattle.fpl_http.specs.declared.decoder.Next.TheVariants.{Message, NeedMore, Refused}
use Rattle.fpl_http.specs.Lines.{strip}
use Rattle.fpl_http.specs.Stream.{Request, Wanting, Refusal, Whole, IsFront}

-- what callers see of a decoder
pub record Held : Type 0 where
  pub pending : List ℕ
  pub found : Option Request

-- what the next call of a decoder answers
abbrev pub Gives : List ℕ → Next → Held → Type 0
Gives pending Message new = (m : Request) × (IsFront pending (Whole m new.pending)) × (new.found ≡ Some m) × (length new.pending < length pending)
Gives pending NeedMore new = IsFront pending Wanting × (new.pending ≡ strip pending) × (new.found ≡ None)
Gives pending (Refused k) new = IsFront pending (Refusal k) × (new.pending ≡ strip pending) × (new.found ≡ None)

-- a decoder wants more bytes, and holds no empty line in front
pub record IsWaiting (h : Held) : Type 0 where
  pub front : IsFront h.pending Wanting
  pub stripped : strip h.pending ≡ h.pending
  pub none : h.found ≡ None
