-- An access that does not hit adds to a few numbers.
use Rattle.std.proofs.Common.{◌≡◌, ℕ, ◌+◌, ◌&&◌, Bool, false, refl, ◌∙◌, ap, subst, arith}
use Rattle.zs_num.specs.declared.entry.Entry.{Entry}
use Rattle.zs_num.specs.declared.entry.Outcome.{Outcome}
use Rattle.zs_num.specs.declared.entry.Outcome.TheVariants.{Hit, Upgrade, L2, Miss}
use Rattle.zs_num.specs.Request.{is_fetch}
use Rattle.zs_num.specs.declared.request.Request.{Request}
use Rattle.zs_num.specs.declared.request.Request.TheVariants.{Load, Store, Lr, Sc, Amo, Fetch}
use Rattle.stats.specs.Counted.{is_atomic, is_hit, is_l2hit, is_load, is_miss, is_store, is_upgrade, one_if}
use Rattle.profile.specs.declared.copies.CopyState.{CopyState}
use Rattle.profile.specs.declared.copies.CopyState.TheVariants.{Never, Held, Gone}
use Rattle.profile.specs.declared.copies.Leave.TheVariants.{Coherence, Inclusion, Eviction}
use Rattle.profile.specs.Added.{Adds, with_access, with_changes, with_class, with_cycles, with_met, with_outcome}
use Rattle.profile.specs.Contributions.{access_tally}
use Rattle.profile.specs.Copies.{downgrades, finds_none, invalidates, is_cold, is_gone_by}
use Rattle.profile_rows.specs.declared.tally.Tally.{Tally}
use Rattle.profile_rows.specs.Tallies.{capped_tally, no_tally, plus}
use Rattle.profile.proofs.RowsMore.{capped_sum, plus_zero}

zero_plus : (n : ℕ) → 0 + n ≡ n
zero_plus n = omega arith

three : (a b c : ℕ) → (a + b) + c ≡ a + (b + c)
three a b c = omega arith

plus_plus : (t a b : Tally) → plus (plus t a) b ≡ plus t (plus a b)
unfolding plus
plus_plus t a b = simp (three) refl

-- what two changes add, one after the other
both_add : (f g : Tally → Tally) (a b : Tally) → Adds f a → Adds g b → Adds (λ t. g (f t)) (plus a b)
both_add f g a b first second t = ap g (first t) ∙ second (plus t a) ∙ ap capped_tally (plus_plus t a b)

-- ---- what each part of it adds

abbrev of_kind : Request → Tally
of_kind r = record no_tally { loads = one_if (is_load r); stores = one_if (is_store r); atomics = one_if (is_atomic r); fetches = one_if (is_fetch r) }

kind_adds : (r : Request) → Adds (with_access r) (of_kind r)
unfolding capped_tally plus
kind_adds (Load width addr) t = simp (capped_sum, plus_zero) refl
kind_adds (Store width addr value) t = simp (capped_sum, plus_zero) refl
kind_adds (Lr width addr) t = simp (capped_sum, plus_zero) refl
kind_adds (Sc width paired addr value) t = simp (capped_sum, plus_zero) refl
kind_adds (Amo width op addr value) t = simp (capped_sum, plus_zero) refl
kind_adds (Fetch addr) t = simp (capped_sum, plus_zero) refl

abbrev of_outcome : Outcome → Tally
of_outcome o = record no_tally { hits = one_if (is_hit o); upgrades = one_if (is_upgrade o); l2hits = one_if (is_l2hit o); misses = one_if (is_miss o) }

outcome_adds : (o : Outcome) → Adds (with_outcome o) (of_outcome o)
unfolding capped_tally plus
outcome_adds Hit t = simp (capped_sum, plus_zero) refl
outcome_adds (Upgrade others) t = simp (capped_sum, plus_zero) refl
outcome_adds (L2 others) t = simp (capped_sum, plus_zero) refl
outcome_adds (Miss dirty) t = simp (capped_sum, plus_zero) refl

abbrev of_class : Outcome → CopyState → Tally
of_class o copy = record no_tally {
  cold = one_if (finds_none o && is_cold copy);
  coherence = one_if (finds_none o && is_gone_by Coherence copy);
  inclusion = one_if (finds_none o && is_gone_by Inclusion copy);
  eviction = one_if (finds_none o && is_gone_by Eviction copy);
}

class_adds : (o : Outcome) (copy : CopyState) → Adds (with_class o copy) (of_class o copy)
unfolding capped_tally plus
class_adds Hit copy t = simp (plus_zero) refl
class_adds (Upgrade others) copy t = simp (plus_zero) refl
class_adds (L2 others) Never t = simp (capped_sum, plus_zero) refl
class_adds (L2 others) Held t = simp (plus_zero) refl
class_adds (L2 others) (Gone Coherence) t = simp (capped_sum, plus_zero) refl
class_adds (L2 others) (Gone Inclusion) t = simp (capped_sum, plus_zero) refl
class_adds (L2 others) (Gone Eviction) t = simp (capped_sum, plus_zero) refl
class_adds (Miss dirty) Never t = simp (capped_sum, plus_zero) refl
class_adds (Miss dirty) Held t = simp (plus_zero) refl
class_adds (Miss dirty) (Gone Coherence) t = simp (capped_sum, plus_zero) refl
class_adds (Miss dirty) (Gone Inclusion) t = simp (capped_sum, plus_zero) refl
class_adds (Miss dirty) (Gone Eviction) t = simp (capped_sum, plus_zero) refl

abbrev of_changes : Bool → ℕ → Bool → Tally
of_changes invalidating taken downgrading = record no_tally { invalidating = one_if invalidating; invalidated = taken; downgrades = one_if downgrading }

changes_add : (invalidating : Bool) (taken : ℕ) (downgrading : Bool) → Adds (with_changes invalidating taken downgrading) (of_changes invalidating taken downgrading)
unfolding capped_tally plus
changes_add invalidating taken downgrading t = simp (capped_sum, plus_zero) refl

abbrev of_cycles : ℕ → Tally
of_cycles cycles = record no_tally { cycles = cycles; missing = cycles }

cycles_add : (cycles : ℕ) → Adds (with_cycles cycles) (of_cycles cycles)
unfolding capped_tally plus
cycles_add cycles t = simp (capped_sum, plus_zero) refl

-- ---- all of it

abbrev parts_of : Entry → CopyState → (taken cycles : ℕ) → Tally
parts_of e copy taken cycles =
    plus (plus (plus (plus (of_kind e.request) (of_outcome e.outcome)) (of_class e.outcome copy)) (of_changes (invalidates e) taken (downgrades e))) (of_cycles cycles)

are_all : (e : Entry) (copy : CopyState) (taken cycles : ℕ) → is_hit e.outcome ≡ false → parts_of e copy taken cycles ≡ access_tally e copy taken cycles
unfolding access_tally plus
are_all e copy taken cycles none = rw none (simp (plus_zero, zero_plus) refl)

pub met_adds : (e : Entry) (copy : CopyState) (taken cycles : ℕ) → is_hit e.outcome ≡ false
    → Adds (with_met (record { request = e.request; outcome = e.outcome; copy = copy; taken = taken; cycles = cycles })) (access_tally e copy taken cycles)
met_adds e copy taken cycles none =
    let kinds = kind_adds e.request in
    let outcomes = both_add (with_access e.request) (with_outcome e.outcome) _ _ kinds (outcome_adds e.outcome) in
    let classes = both_add (λ t. with_outcome e.outcome (with_access e.request t)) (with_class e.outcome copy) _ _ outcomes (class_adds e.outcome copy) in
    let changes = both_add (λ t. with_class e.outcome copy (with_outcome e.outcome (with_access e.request t))) (with_changes (invalidates e) taken (downgrades e)) _ _ classes (changes_add (invalidates e) taken (downgrades e)) in
    let all = both_add (λ t. with_changes (invalidates e) taken (downgrades e) (with_class e.outcome copy (with_outcome e.outcome (with_access e.request t)))) (with_cycles cycles) _ _ changes (cycles_add cycles) in
    subst (λ more. Adds (with_met (record { request = e.request; outcome = e.outcome; copy = copy; taken = taken; cycles = cycles })) more) (are_all e copy taken cycles none) all
