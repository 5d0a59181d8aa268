-- The first unknown name of a table whose names ascend is the least one.
use Rattle.std.proofs.Common.{◌≡◌, ℕ, List, [], ◌∷◌, Option, Some, None, IfSome, Less, Greater, string_bytes, string_cmp, nat_cmp, refl, ap, ◌∙◌, inl, inr}
use Rattle.std.proofs.lemmas.Bool.{cases_Bool}
use Rattle.std.proofs.lemmas.Cmp.{nat_list_cmp_total}
use Rattle.std.specs.Cmp.Lexicographic.{slice_cmp}
use Rattle.std.specs.List.{AllByRecursion}
use Rattle.std.specs.List.Sorted.{IsStrictlySortedBy}
use Rattle.std.specs.Map.{keys_of}
use Rattle.std.specs.Option.{option_or, option_map_or}
use Rattle.std.specs.Ordering.{is_lt, ordering_reverse}
use Rattle.toml.specs.Data.{Members, no_members, member}
use Rattle.toml.specs.View.{members_view}
use Rattle.toml.proofs.Views.{Entry}
use Rattle.machine_desc.specs.Keys.{Check, at}
use Rattle.machine_desc.specs.Text.{full_name}
use Rattle.machine_desc.specs.Description.{is_known, unknown_names, lesser, least_name, members_refusal, unless}
use Rattle.machine_desc.specs.declared.errors.BadMachine.{BadMachine}
use Rattle.machine_desc.specs.declared.errors.BadMachine.TheVariants.{Unknown}

-- the first of the members that no check names
abbrev pub first_unknown : List Check → List ℕ → Members → Option BadMachine
first_unknown checks table no_members = None
first_unknown checks table (member name d ms) =
    option_or (unless (is_known checks table name) (Unknown (full_name (at table name)))) (first_unknown checks table ms)

-- the name is below the one that is there
abbrev IsBelow : List ℕ → Option (List ℕ) → Type 0
IsBelow name o = IfSome o (λ m. slice_cmp nat_cmp name m ≡ Less)

below_lesser : (name n : List ℕ) (o : Option (List ℕ)) → slice_cmp nat_cmp name n ≡ Less → IsBelow name o → slice_cmp nat_cmp name (option_map_or (lesser n) o n) ≡ Less
below_lesser name n None here more = here
below_lesser name n (Some m) here more =
    elim (cases_Bool (is_lt (slice_cmp nat_cmp m n))) [ inl less ↦ rw less more | inr other ↦ rw other here ]

below_least : (checks : List Check) (table name : List ℕ) (es : List Entry) → AllByRecursion (λ y. slice_cmp nat_cmp name (string_bytes y) ≡ Less) (keys_of es)
    → IsBelow name (least_name (unknown_names checks table (members_view es)))
below_least checks table name [] h = tt
below_least checks table name (e ∷ es) h =
    elim (cases_Bool (is_known checks table (string_bytes e.0))) [
      | inl known ↦ rw known (below_least checks table name es h.1)
      | inr unknown ↦ rw unknown (below_lesser name (string_bytes e.0) _ h.0 (below_least checks table name es h.1))
    ]

stays : (name : List ℕ) (o : Option (List ℕ)) → IsBelow name o → option_map_or (lesser name) o name ≡ name
stays name None h = refl
stays name (Some m) h =
    let above : slice_cmp nat_cmp m name ≡ Greater = nat_list_cmp_total.antisymm m name ∙ ap ordering_reverse h in
    rw above

pub members_refusal-first : (checks : List Check) (table : List ℕ) (es : List Entry) → IsStrictlySortedBy string_cmp (keys_of es)
    → members_refusal checks table (members_view es) ≡ first_unknown checks table (members_view es)
unfolding IsStrictlySortedBy
members_refusal-first checks table [] h = refl
members_refusal-first checks table (e ∷ es) h =
    elim (cases_Bool (is_known checks table (string_bytes e.0))) [
      | inl known ↦ rw known (members_refusal-first checks table es h.1)
      | inr unknown ↦ rw (unknown, stays (string_bytes e.0) _ (below_least checks table (string_bytes e.0) es h.0))
    ]
