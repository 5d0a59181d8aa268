-- What recorded order keeps of the accesses of an interval.
use Rattle.std.proofs.Common.{◌≡◌, ◌+◌, List, [], ◌∷◌, length, All, refl, arith, inl, inr}
use Rattle.std.proofs.lemmas.Bool.{cases_Bool}
use Rattle.std.proofs.lemmas.List.Elements.{All-cons, All-head, All-nil, All-tail}
use Rattle.zs_num.specs.declared.entry.Entry.{Entry}
use Rattle.access_log.specs.RecordedOrder.{comes_before, placed, recorded_order}

all_placed : (P : Entry → Type 0) (e : Entry) (entries : List Entry) → P e → All P entries → All P (placed e entries)
all_placed P e [] one all = All-cons P e [] one all
all_placed P e (x ∷ entries) one all =
    elim (cases_Bool (comes_before e x)) as (λ _. All P (placed e (x ∷ entries))) [
      | inl is ↦ rw is (All-cons P e (x ∷ entries) one all)
      | inr not ↦ rw not (All-cons P x (placed e entries) (All-head P x entries all) (all_placed P e entries one (All-tail P x entries all)))
    ]

pub all_recorded : (P : Entry → Type 0) (entries : List Entry) → All P entries → All P (recorded_order entries)
all_recorded P [] all = All-nil P
all_recorded P (e ∷ entries) all = all_placed P e (recorded_order entries) (All-head P e entries all) (all_recorded P entries (All-tail P e entries all))

length_placed : (e : Entry) (entries : List Entry) → length (placed e entries) ≡ length entries + 1
length_placed e [] = refl
length_placed e (x ∷ entries) =
    elim (cases_Bool (comes_before e x)) as (λ _. length (placed e (x ∷ entries)) ≡ length (x ∷ entries) + 1) [
      | inl is ↦ rw is (omega arith)
      | inr not ↦ rw not (omega (arith, length_placed e entries))
    ]

pub length_recorded : (entries : List Entry) → length (recorded_order entries) ≡ length entries
length_recorded [] = refl
length_recorded (e ∷ entries) = omega (arith, length_placed e (recorded_order entries), length_recorded entries)
