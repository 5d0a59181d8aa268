-- As many entries are in recorded order as there are.
use Rattle.std.proofs.Common.{◌≡◌, ◌+◌, List, [], ◌∷◌, length, refl, inl, inr, arith}
use Rattle.std.proofs.lemmas.Bool.{cases_Bool}
use Rattle.zs_num.specs.declared.entry.Entry.{Entry}
use Rattle.access_log.specs.RecordedOrder.{comes_before, placed, recorded_order}

length_placed : (e : Entry) (entries : List Entry) → length (placed e entries) ≡ length entries + 1
length_placed e [] = refl
length_placed e (x ∷ entries) =
    elim (cases_Bool (comes_before e x)) as (λ _. length (placed e (x ∷ entries)) ≡ length (x ∷ entries) + 1) [
      | inl is ↦ rw is (omega arith)
      | inr not ↦ rw not (omega (arith, length_placed e entries))
    ]

pub length_recorded : (entries : List Entry) → length (recorded_order entries) ≡ length entries
length_recorded [] = refl
length_recorded (e ∷ entries) = omega (arith, length_placed e (recorded_order entries), length_recorded entries)
