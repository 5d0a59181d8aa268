-- What recorded order keeps of the accesses of an interval.
use Rattle.std.proofs.Common.{◌≡◌, ℕ, ◌<◌, List, [], ◌∷◌, All, inl, inr}
use Rattle.std.proofs.lemmas.Bool.{cases_Bool}
use Rattle.std.proofs.lemmas.List.Elements.{All-cons, All-head, All-nil, All-tail}
use Rattle.zs_num.specs.declared.entry.Entry.{Entry}
use Rattle.access_log.specs.History.{AreStamped}
use Rattle.access_log.specs.Laws.{CoresDecideTheOrder, RecordedOrderKeepsTheStamps, StampsRise}
use Rattle.access_log.specs.RecordedOrder.{comes_before, no_stamps, placed, recorded_order}

-- recorded order leaves itself as it is
pub recorded_again : StampsRise → RecordedOrderKeepsTheStamps → CoresDecideTheOrder → (banks cores : ℕ) (entries : List Entry)
    → 0 < banks → All (λ e. e.core < cores) entries → AreStamped banks (no_stamps banks cores) entries → recorded_order (recorded_order entries) ≡ recorded_order entries
recorded_again rise keep decide banks cores entries some known stamped =
    decide entries (recorded_order entries) (rise banks cores entries some known stamped).0 (keep banks cores entries some known stamped).2.core

all_placed : (P : Entry → Type 0) (e : Entry) (entries : List Entry) → P e → All P entries → All P (placed e entries)
all_placed P e [] one all = All-cons P e [] one all
all_placed P e (x ∷ entries) one all =
    elim (cases_Bool (comes_before e x)) as (λ _. All P (placed e (x ∷ entries))) [
      | inl is ↦ rw is (All-cons P e (x ∷ entries) one all)
      | inr not ↦ rw not (All-cons P x (placed e entries) (All-head P x entries all) (all_placed P e entries one (All-tail P x entries all)))
    ]

-- what holds of all accesses holds of them in recorded order
pub all_recorded : (P : Entry → Type 0) (entries : List Entry) → All P entries → All P (recorded_order entries)
all_recorded P [] all = All-nil P
all_recorded P (e ∷ entries) all = all_placed P e (recorded_order entries) (All-head P e entries all) (all_recorded P entries (All-tail P e entries all))
