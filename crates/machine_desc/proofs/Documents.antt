-- Documents and arrays of integers.
use Rattle.std.proofs.Common.{◌≡◌, ◌<◌, ◌+◌, ℕ, ℤ, List, [], ◌∷◌, ◌++◌, length, get_or, drop, Option, Some, None, option_map, IsUtf8, inl, inr, refl, sym, ap, append_assoc}
use Rattle.std.specs.Str.{is_utf8}
use Rattle.std.proofs.lemmas.Bool.{cases_Bool}
use Rattle.std.proofs.lemmas.Str.{IsUtf8-from_is_utf8, is_utf8-from_IsUtf8}
use Rattle.toml.specs.Data.{as_integer}
use Rattle.toml.specs.Parse.{parse_document}
use Rattle.toml.specs.View.{view, items_view}
use Rattle.toml.specs.declared.value.Value.{Value}
use Rattle.toml.proofs.Views.{items_view-drop}
use Rattle.machine_desc.specs.Text.{document_of, integers_of}

pub document_of-text : (text : List ℕ) → IsUtf8 text → document_of text ≡ parse_document text
unfolding document_of
document_of-text text utf8 = rw (is_utf8-from_IsUtf8 text utf8)

pub document_of-none : (text : List ℕ) → (IsUtf8 text → parse_document text ≡ None) → document_of text ≡ None
unfolding document_of
document_of-none text refused =
    elim (cases_Bool (is_utf8 text)) [
      | inl utf8 ↦ rw utf8 (refused (IsUtf8-from_is_utf8 text utf8))
      | inr other ↦ rw other
    ]

-- integers before those of some items
abbrev pub before : List ℤ → Option (List ℤ) → Option (List ℤ)
before zs o = option_map (λ rest. zs ++ rest) o

before_one : (zs : List ℤ) (z : ℤ) (o : Option (List ℤ)) → before zs (option_map (λ rest. z ∷ rest) o) ≡ before (zs ++ z ∷ []) o
before_one zs z None = refl
before_one zs z (Some rest) = ap Some (sym (append_assoc zs (z ∷ []) rest))

-- the integer of the next item joins them
pub before_next : (zs : List ℤ) (values : List Value) (i : ℕ) (value : Value) (z : ℤ)
    → i < length values → value ≡ get_or values i value → as_integer (view value) ≡ Some z
    → before zs (integers_of (items_view (drop i values))) ≡ before (zs ++ z ∷ []) (integers_of (items_view (drop (i + 1) values)))
before_next zs values i value z there is integer =
    rw (items_view-drop values i value there, ← is, integer) (before_one zs z (integers_of (items_view (drop (i + 1) values))))
