-- Why copies left, by the caches behind the access that took them.
use Rattle.std.proofs.Common.{◌≡◌, ℕ, ◌==◌, Bool, true, false, not, ◌&&◌, if◌then◌else◌, List, [], ◌∷◌, is_some, refl, sym, ◌∙◌, ap, subst, inl, inr}
use Rattle.std.proofs.lemmas.Bool.{and_parts, cases_Bool, eqb-true}
use Rattle.zs_num.specs.declared.entry.Entry.{Entry}
use Rattle.zs_num.specs.Request.{is_fetch, line_of}
use Rattle.shard.specs.Coherence.{Caches, caches_after, dirty_at}
use Rattle.shard.specs.Laws.{CoherentStays}
use Rattle.shard.specs.Leaving as leaving_of_caches
use Rattle.shard.specs.Leaving.{leaving_of}
use Rattle.shard.specs.LeavingLaws.{CopiesBehind, InstructionsBehind, LinesBehind, l2_behind}
use Rattle.shard.specs.declared.leaving.Leaving.{Leaving}
use Rattle.trace.specs.Laws.{AreMetBy, IsMetBy}
use Rattle.trace.specs.Trace.{Accessed, Ended, Executed, Step}
use Rattle.profile.specs.declared.copies.CopyState.{CopyState}
use Rattle.profile.specs.declared.copies.CopyState.TheVariants.{Never, Held, Gone}
use Rattle.profile.specs.declared.copies.Leave.{Leave}
use Rattle.profile.specs.declared.copies.Leave.TheVariants.{Coherence, Inclusion, Eviction}
use Rattle.profile.specs.Copies.{Copies, copies_after, invalidates, is_held, is_of, is_others, is_this, left}
use Rattle.profile.specs.MachineCopies.{LeaveForReasons, OfEachAccess, behind, goes_to, state_behind, why_left}
use Rattle.profile.proofs.CopiesHeld.{AreOf, same_this, still_of, turned}
use Rattle.profile.proofs.OthersCopies.{stays_in_l2}

-- ---- by tests

-- what there is of a copy behind an access, where the tests of `copy_after` have these values
abbrev after_by : (used taken room shared : Bool) → CopyState → CopyState
after_by used taken room shared copy =
    let one = if shared then left Inclusion copy else copy in
    let two = if room then left Eviction one else one in
    let three = if taken then left Coherence two else two in
    if used then Held else three

abbrev why_by : (in_l2 own : Bool) → Leave
why_by in_l2 own = if in_l2 then (if own then Eviction else Coherence) else Inclusion

record AreReasons (used taken room shared in_l2 own : Bool) (copy : CopyState) : Type 0 where
  by_l2 : is_held copy ≡ true → in_l2 ≡ not shared
  by_room : room ≡ true → own ≡ true
  by_others : taken ≡ true → own ≡ false

for_reason : (used taken room shared in_l2 own : Bool) (copy : CopyState) → AreReasons used taken room shared in_l2 own copy
    → after_by used taken room shared copy ≡ state_behind (is_held (after_by used taken room shared copy)) (why_by in_l2 own) copy
for_reason true taken room shared in_l2 own copy why = refl
for_reason false true true true in_l2 own Never why = refl
for_reason false true true false in_l2 own Never why = refl
for_reason false true false true in_l2 own Never why = refl
for_reason false true false false in_l2 own Never why = refl
for_reason false false true true in_l2 own Never why = refl
for_reason false false true false in_l2 own Never why = refl
for_reason false false false true in_l2 own Never why = refl
for_reason false false false false in_l2 own Never why = refl
for_reason false true true true in_l2 own (Gone earlier) why = refl
for_reason false true true false in_l2 own (Gone earlier) why = refl
for_reason false true false true in_l2 own (Gone earlier) why = refl
for_reason false true false false in_l2 own (Gone earlier) why = refl
for_reason false false true true in_l2 own (Gone earlier) why = refl
for_reason false false true false in_l2 own (Gone earlier) why = refl
for_reason false false false true in_l2 own (Gone earlier) why = refl
for_reason false false false false in_l2 own (Gone earlier) why = refl
for_reason false true true true in_l2 own Held why = ap (λ (x : Bool). Gone (why_by x own)) (sym (why.by_l2 refl))
for_reason false true false true in_l2 own Held why = ap (λ (x : Bool). Gone (why_by x own)) (sym (why.by_l2 refl))
for_reason false false true true in_l2 own Held why = ap (λ (x : Bool). Gone (why_by x own)) (sym (why.by_l2 refl))
for_reason false false false true in_l2 own Held why = ap (λ (x : Bool). Gone (why_by x own)) (sym (why.by_l2 refl))
for_reason false true true false in_l2 own Held why = ap (λ (x : Bool). Gone (why_by true x)) (sym (why.by_room refl)) ∙ ap (λ (x : Bool). Gone (why_by x own)) (sym (why.by_l2 refl))
for_reason false false true false in_l2 own Held why = ap (λ (x : Bool). Gone (why_by true x)) (sym (why.by_room refl)) ∙ ap (λ (x : Bool). Gone (why_by x own)) (sym (why.by_l2 refl))
for_reason false true false false in_l2 own Held why = ap (λ (x : Bool). Gone (why_by true x)) (sym (why.by_others refl)) ∙ ap (λ (x : Bool). Gone (why_by x own)) (sym (why.by_l2 refl))
for_reason false false false false in_l2 own Held why = refl

-- ---- an access

of_own : (e : Entry) (fetching : Bool) (core : ℕ) → is_of (is_fetch e.request) e.core fetching core ≡ goes_to e fetching core
of_own e true core = ap (λ (b : Bool). is_fetch e.request && b) (turned e.core core)
of_own e false core = ap (λ (b : Bool). not (is_fetch e.request) && b) (turned e.core core)

not_true : (b : Bool) → not b ≡ true → b ≡ false
not_true true wrong = cc
not_true false is = refl

none_either : (b : Bool) → (b && false) ≡ false
none_either true = refl
none_either false = refl

others_apart : (by core : ℕ) (fetching fetch : Bool) → is_others by fetching core ≡ true → is_of fetch by fetching core ≡ false
others_apart by core true fetch others = cc
others_apart by core false fetch others = ap (λ (b : Bool). not fetch && b) (not_true (by == core) others) ∙ none_either (not fetch)

still_there : (shared : Bool) → (if shared then false else true) ≡ not shared
still_there true = refl
still_there false = refl

module _ (copies : Copies) (c : Caches) (of : AreOf copies c) (e : Entry) (leaving : Leaving) (met : IsMetBy c e leaving) where
  abbrev line : ℕ
  line = line_of e.request

  held_in_l2 : (fetching : Bool) (core l : ℕ) → is_held (copies fetching core l) ≡ true → is_some (dirty_at c l) ≡ true
  held_in_l2 true core l held = of.coherent.l1i_inclusive core l (sym (of.are true core l) ∙ held)
  held_in_l2 false core l held = of.coherent.inclusive core l (sym (of.are false core l) ∙ held)

  own_line_stays : is_some (dirty_at c line) ≡ true → leaving_of_caches.is_this leaving.shared line ≡ false
  own_line_stays there = ap (λ (x : Leaving). leaving_of_caches.is_this x.shared line) met.leaves ∙ stays_in_l2 c e.core e.request there

  -- where a copy was there, the L2 has its line behind the access unless it left
  l2_is : LinesBehind → (l : ℕ) → is_some (dirty_at c l) ≡ true → is_some (dirty_at (behind c e) l) ≡ not (is_this leaving.shared l)
  l2_is law l there =
      law c e.core e.request of.coherent of.room met.known l
      ∙ ap (λ (x : Leaving). l2_behind (is_some (dirty_at c l)) x e.request l) (sym met.leaves)
      ∙ ap (λ (b : Bool). l2_behind b leaving e.request l) there
      ∙ elim (cases_Bool (l == line)) as (λ _. l2_behind true leaving e.request l ≡ not (leaving_of_caches.is_this leaving.shared l)) [
        | inl own ↦
            let same : l ≡ line = eqb-true l line own in
            let stays : leaving_of_caches.is_this leaving.shared l ≡ false = subst (λ (n : ℕ). leaving_of_caches.is_this leaving.shared n ≡ false) (sym same) (own_line_stays (subst (λ (n : ℕ). is_some (dirty_at c n) ≡ true) same there)) in
            rw (own, stays) refl
        | inr other ↦ rw other (still_there (leaving_of_caches.is_this leaving.shared l))
      ]
      ∙ ap not (sym (same_this leaving.shared l))

  pub leave_for_reasons : CoherentStays → CopiesBehind → InstructionsBehind → LinesBehind → LeaveForReasons copies c e leaving
  leave_for_reasons stays letters instructions lines fetching core l =
      let own = is_of (is_fetch e.request) e.core fetching core in
      let used = line == l in
      let others = is_others e.core fetching core in
      let after = still_of copies c of e leaving met stays letters instructions in
      let goes : own ≡ goes_to e fetching core = of_own e fetching core in
      for_reason (own && used) (invalidates e && (others && used)) (own && is_this leaving.own l) (is_this leaving.shared l)
      (is_some (dirty_at (behind c e) l)) (goes_to e fetching core) (copies fetching core l)
      (record {
        by_l2 = λ held. l2_is lines l (held_in_l2 fetching core l held);
        by_room = λ is. sym goes ∙ (and_parts own (is_this leaving.own l) is).0;
        by_others = λ is. sym goes ∙ others_apart e.core core fetching (is_fetch e.request) (and_parts others used (and_parts (invalidates e) (others && used) is).1).0;
      })
      ∙ ap (λ (b : Bool). state_behind b (why_left c e fetching core l) (copies fetching core l)) (after.are fetching core l)

-- ---- all steps

pub all_leave_for_reasons : (stays : CoherentStays) (letters : CopiesBehind) (instructions : InstructionsBehind) (lines : LinesBehind) (copies : Copies) (c : Caches) (steps : List Step)
    → AreOf copies c → AreMetBy c steps → OfEachAccess LeaveForReasons copies c steps
all_leave_for_reasons stays letters instructions lines copies c [] of met = tt
all_leave_for_reasons stays letters instructions lines copies c (Executed core pc ∷ steps) of met = all_leave_for_reasons stays letters instructions lines copies c steps of met
all_leave_for_reasons stays letters instructions lines copies c (Accessed pc e leaving ∷ steps) of met = (
  leave_for_reasons copies c of e leaving met.0 stays letters instructions lines,
  all_leave_for_reasons stays letters instructions lines (copies_after e leaving copies) (caches_after c e.core e.request) steps
      (still_of copies c of e leaving met.0 stays letters instructions)
      met.1,
)
all_leave_for_reasons stays letters instructions lines copies c (Ended interval ∷ steps) of met = all_leave_for_reasons stays letters instructions lines copies c steps of met
