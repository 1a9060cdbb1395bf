-- Bodies that are texts, and objects.
use Rattle.std.proofs.Common.{◌≡◌, ℕ, List, refl, inl, inr}
use Rattle.std.proofs.lemmas.Bool.{cases_Bool}
use Rattle.std.proofs.lemmas.Str.{is_utf8-from_IsUtf8, IsUtf8-from_is_utf8}
use Rattle.std.specs.Prelude.{IsUtf8, Err, option_and_then}
use Rattle.std.specs.Str.{is_utf8}
use Rattle.serde_json.specs.Read.{read}
use Rattle.fpl_requests.specs.declared.field.FieldName.TheVariants as field
use Rattle.fpl_requests.specs.Members.{if_object, object_of, or_wrong}

pub object_of_text : (bytes : List ℕ) → IsUtf8 bytes → object_of bytes ≡ or_wrong field.Body (option_and_then if_object (read bytes))
object_of_text bytes text = rw (is_utf8-from_IsUtf8 bytes text) refl

pub object_of_no_text : (bytes : List ℕ) → (IsUtf8 bytes → ⊥) → object_of bytes ≡ Err field.Body
object_of_no_text bytes none = elim (cases_Bool (is_utf8 bytes)) [
  | inl valid ↦ absurd (none (IsUtf8-from_is_utf8 bytes valid))
  | inr bad ↦ rw bad refl
]
