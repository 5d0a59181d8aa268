-- The intervals that end in the trace of a run have the accesses that were told since the one before.
use Rattle.std.proofs.Common.{◌≡◌, ℕ, ◌+◌, ◌<◌, List, [], ◌∷◌, ◌++◌, length, Ok, All, filter, ◌==◌, refl, sym, ◌∙◌, ap, subst, append_assoc, arith}
use Rattle.std.specs.Prelude.{sum_by}
use Rattle.std.proofs.lemmas.List.{append-nil, length-replicate}
use Rattle.std.proofs.lemmas.List.FromFn.{length-map-range_with_len}
use Rattle.std.proofs.lemmas.List.Sorted.{sum_by-IsPermutation}
use Rattle.std.proofs.lemmas.List.Sums.{sum_by-append, sum_by-cons}
use Rattle.zs_num.specs.declared.entry.Entry.{Entry}
use Rattle.elf_load.specs.MemoryImage.{MemoryImage}
use Rattle.machine_desc.specs.declared.machine.Machine.{Machine}
use Rattle.component.specs.declared.comp.Comp.{Comp}
use Rattle.component.specs.Components.{AreComponents, AreFresh}
use Rattle.access_log.specs.History.{AreStamped, core_of_entry}
use Rattle.access_log.specs.Laws.{RecordedOrderSorts, RisingListsStay, StampsRise}
use Rattle.access_log.specs.RecordedOrder.{no_stamps, recorded_order}
use Rattle.event_graph.specs.Laws.{MachineComponentsStay}
use Rattle.stats.specs.Counts.{Interval}
use Rattle.reference.specs.MachineWorld.{MachineWorld}
use Rattle.reference.specs.ReferenceMachine.{BoundState}
use Rattle.reference.specs.ReferenceRun.{IsRunOf, RunState, after_interval, after_intervals, after_weave, begun_interval, end_of, first_state, has_ended, next_place, time_of, woven_interval}
use Rattle.reference.specs.Results.{Results}
use Rattle.reference.specs.TimedCore.{first_core}
use Rattle.trace.specs.Laws.{EndBehindTheirAccesses, EndsBehind}
use Rattle.trace.specs.Told.{accessed_in, ended_in}
use Rattle.trace.specs.Trace.{Accessed, Ended, Executed, IsTraceOf, Step, run_steps}
use Rattle.trace.proofs.PhaseStamps.{phase_stamps}
use Rattle.trace.proofs.PhaseCounts.{phase_tells}
use Rattle.trace.proofs.RunCounts.{IsNext, comes_to, interval_entries, interval_of, interval_told, is_next, let_on, steps_of, steps_on}
use Rattle.trace.specs.Trace.{leaves_machine}
use Rattle.reference.specs.MachineWorld.{serve}

-- ---- sums

sums_from : (machine : Machine) (sorts : RecordedOrderSorts) (weight : Entry → ℕ) (so_far : List Entry) (steps : List Step) → EndBehindTheirAccesses machine so_far steps
    → sum_by weight so_far + sum_by weight (accessed_in steps) ≡ sum_by (λ (i : Interval). sum_by weight i.entries) (ended_in steps)
sums_from machine sorts weight so_far [] ends = omega (arith, ap (sum_by weight) ends)
sums_from machine sorts weight so_far (Executed core pc ∷ steps) ends = sums_from machine sorts weight so_far steps ends
sums_from machine sorts weight so_far (Accessed pc e leaving ∷ steps) ends =
    omega (
      arith,
      sums_from machine sorts weight (so_far ++ e ∷ []) steps ends,
      sum_by-append weight so_far (e ∷ []),
      sum_by-cons weight e (accessed_in steps),
    )
sums_from machine sorts weight so_far (Ended interval ∷ steps) ends =
    let same : sum_by weight interval.entries ≡ sum_by weight so_far =
    ap (sum_by weight) ends.0.entries ∙ sum_by-IsPermutation weight so_far (recorded_order so_far) (sorts so_far).0.same
    in
    omega (
      arith,
      same,
      sums_from machine sorts weight [] steps ends.1,
      sum_by-cons (λ (i : Interval). sum_by weight i.entries) interval (ended_in steps),
    )

pub sums_over : (machine : Machine) (sorts : RecordedOrderSorts) (steps : List Step) → EndBehindTheirAccesses machine [] steps
    → (weight : Entry → ℕ) → sum_by weight (accessed_in steps) ≡ sum_by (λ (i : Interval). sum_by weight i.entries) (ended_in steps)
sums_over machine sorts steps ends weight = omega (arith, sums_from machine sorts weight [] steps ends)

-- ---- steps between two ends

-- steps without an end, before others
behind_more : (machine : Machine) (so_far : List Entry) (xs ys : List Step) → ended_in xs ≡ [] → EndBehindTheirAccesses machine (so_far ++ accessed_in xs) ys
    → EndBehindTheirAccesses machine so_far (xs ++ ys)
behind_more machine so_far [] ys none ends = subst (λ (es : List Entry). EndBehindTheirAccesses machine es ys) (append-nil so_far) ends
behind_more machine so_far (Executed core pc ∷ xs) ys none ends = behind_more machine so_far xs ys none ends
behind_more machine so_far (Accessed pc e leaving ∷ xs) ys none ends =
    behind_more machine (so_far ++ e ∷ []) xs ys none
    (subst (λ (es : List Entry). EndBehindTheirAccesses machine es ys) (sym (append_assoc so_far (e ∷ []) (accessed_in xs))) ends)
behind_more machine so_far (Ended interval ∷ xs) ys none ends = cc

-- ---- a run

module _ (rise : StampsRise) (stay : RisingListsStay) (comps_stay : MachineComponentsStay) (machine : Machine) (some : 0 < machine.l2.banks) (image : MemoryImage) where
  -- the interval that ended behind a bound phase
  ends_behind : (s t : RunState) (turns : List ℕ) → length s.cores ≡ machine.cores → AreComponents machine s.comps → (next : IsNext machine image s t turns)
      → EndsBehind machine (accessed_in (steps_of machine image s turns)) (interval_of machine image s next.left)
  ends_behind s t turns cores are next =
      let entries : List Entry = accessed_in (steps_of machine image s turns) in
      let b : BoundState MachineWorld = next.left in
      let tells = phase_tells serve leaves_machine (time_of machine) image (end_of machine s) 0 turns (begun_interval machine s) b next.phase in
      let of = phase_stamps (time_of machine) image (end_of machine s) 0 turns (begun_interval machine s) b next.phase in
      let known : All (λ (e : Entry). e.core < machine.cores) entries = subst (λ (n : ℕ). All (λ (e : Entry). e.core < n) entries) cores of.known in
      let stamped : AreStamped machine.l2.banks (no_stamps machine.l2.banks machine.cores) entries =
      subst (λ (n : ℕ). AreStamped n (no_stamps machine.l2.banks machine.cores) entries) (length-replicate machine.l2.banks 0) of.stamped
      in
      let rising = rise machine.l2.banks machine.cores entries some known stamped in
      let is : (interval_of machine image s b).entries ≡ recorded_order entries = interval_entries machine s.comps b ∙ ap recorded_order tells.accesses in
      record {
        entries = is;
        by_core = λ core. ap (λ (es : List Entry). filter (λ e. core_of_entry e == core) es) is ∙ stay core_of_entry entries rising.0 core;
        known = known;
        comps = s.comps;
        are = are;
        woven = ap (woven_interval machine s.comps) (sym (interval_entries machine s.comps b));
      }

  comps_left : (s : RunState) (b : BoundState MachineWorld) → AreComponents machine s.comps → AreComponents machine (after_weave machine s b).comps
  unfolding after_weave
  comps_left s b are = comps_stay machine s.comps (woven_interval machine s.comps (recorded_order b.entries)).events are

  intervals_end : (s t : RunState) (lists : List (List ℕ)) → length s.cores ≡ machine.cores → AreComponents machine s.comps → after_intervals machine image s lists ≡ Ok t
      → EndBehindTheirAccesses machine [] (run_steps machine image s lists)
  intervals_end s t [] cores are e = refl
  intervals_end s t (turns ∷ lists) cores are e =
      let on = let_on machine image (has_ended machine s) (after_interval machine image s turns) (λ r. after_intervals machine image r lists) (next_place s) t e in
      let then : RunState = on.0 in
      let next = is_next machine image s then turns on.1 in
      let tells = phase_tells serve leaves_machine (time_of machine) image (end_of machine s) 0 turns (begun_interval machine s) next.left next.phase in
      let later_are : AreComponents machine on.0.comps = subst (λ (x : RunState). AreComponents machine x.comps) next.next (comps_left s next.left are) in
      let rest = intervals_end then t lists ((interval_told machine image s then turns on.1).cores ∙ cores) later_are on.2 in
      let steps = steps_of machine image s turns in
      let ended = Ended (interval_of machine image s next.left) in
      subst (EndBehindTheirAccesses machine [])
      (sym (steps_on machine image s then turns lists on.1 ∙ ap (λ (xs : List Step). xs ++ run_steps machine image then lists) next.steps ∙ append_assoc steps (ended ∷ []) (run_steps machine image then lists)))
      (behind_more machine [] steps (ended ∷ run_steps machine image then lists) tells.ended (ends_behind s then turns cores are next, rest))

  pub run_ends : (one : (comps others : List Comp) → AreFresh machine comps → AreFresh machine others → others ≡ comps) (lists : List (List ℕ)) (steps : List Step) (results : Results)
      → IsTraceOf machine image lists steps → IsRunOf machine image lists results → EndBehindTheirAccesses machine [] steps
  run_ends one lists steps results trace run =
      let comes = comes_to machine image lists results run in
      let same : trace.comps ≡ comes.1.comps = one comes.1.comps trace.comps comes.1.fresh trace.fresh in
      let first = first_state machine image comes.1.comps in
      subst (EndBehindTheirAccesses machine [])
      (sym (trace.is ∙ ap (λ (comps : List Comp). run_steps machine image (first_state machine image comps) lists) same))
      (intervals_end first comes.0 lists (length-map-range_with_len (first_core machine image) 0 machine.cores) comes.1.fresh.are comes.1.reached)
