-- The accesses that the steps of a bound phase of the machine tell have the stamps of logical clocks.
use Rattle.std.proofs.Common.{◌≡◌, ℕ, ◌+◌, ◌<◌, List, [], ◌∷◌, ◌++◌, map, length, option_to_list, Option, Some, None, Ok, All, refl, sym, ◌∙◌, ap, subst, arith}
use Rattle.std.specs.Prelude.{slice_get}
use Rattle.std.specs.Option.{option_and_then, option_map, option_map_or}
use Rattle.std.proofs.lemmas.List.{length-set}
use Rattle.std.proofs.lemmas.List.Elements.{All-cons, All-nil}
use Rattle.std.proofs.lemmas.Option.{slice_get_within}
use Rattle.zs_num.specs.declared.entry.Entry.{Entry}
use Rattle.zs_num.specs.declared.request.Request.{Request}
use Rattle.elf_load.specs.MemoryImage.{MemoryImage}
use Rattle.access_log.specs.History.{AreStamped, bank_of_entry, stamped_by}
use Rattle.access_log.specs.RecordedOrder.{Stamps, next_stamp}
use Rattle.reference.specs.MachineWorld.{MachineWorld, serve}
use Rattle.reference.specs.ReferenceMachine.{BoundState, access_served, and_then, bound_from, legal_at, turn_at}
use Rattle.reference.specs.TimedCore.{TimedCore, asks, ran_to}
use Rattle.trace.specs.Told.{accessed_in}
use Rattle.trace.specs.Trace.{Step, access_step, last_from, leaves_machine, phase_steps, steps_alone}
use Rattle.trace.proofs.PhaseCounts.{last_accesses}
use Rattle.trace.proofs.ToldParts.{accessed-append, alone_local}

-- ---- an access

record IsServed (w : MachineWorld) (number : ℕ) (e : Entry) (after : MachineWorld) : Type 0 where
  core : e.core ≡ number
  stamp : e.stamp ≡ next_stamp w.stamps (bank_of_entry (length w.stamps.banks) e) number
  stamps : after.stamps ≡ stamped_by (length w.stamps.banks) w.stamps e

is_served : (w : MachineWorld) (number start : ℕ) (request : Request) → IsServed w number (serve w number start request).0 (serve w number start request).1
unfolding serve
is_served w number start request = record { core = refl; stamp = refl; stamps = refl }

-- these entries are of the cores of a state, and stamped from its stamps on
pub record AreOf (s : BoundState MachineWorld) (entries : List Entry) : Type 0 where
  pub stamped : AreStamped (length s.world.stamps.banks) s.world.stamps entries
  pub known : All (λ e. e.core < length s.cores) entries

module _ (time : Entry → ℕ) (image : MemoryImage) (end : ℕ) where
  abbrev after : BoundState MachineWorld → (number : ℕ) → TimedCore → Request → BoundState MachineWorld
  after s number c request = access_served serve time image end s number (ran_to image end c) (serve s.world number (ran_to image end c).clock request)

  abbrev entry_of : BoundState MachineWorld → (number : ℕ) → TimedCore → Request → Entry
  entry_of s number c request = (serve s.world number (ran_to image end c).clock request).0

  abbrev step_of : BoundState MachineWorld → (number : ℕ) → TimedCore → Request → Step
  step_of s number c request = access_step serve leaves_machine image end s.world number (ran_to image end c) request

  one_more : (s : BoundState MachineWorld) (number : ℕ) (c : TimedCore) (request : Request) (entries : List Entry) → slice_get s.cores number ≡ Some c
      → AreOf (after s number c request) entries → AreOf s (entry_of s number c request ∷ entries)
  one_more s number c request entries here rest =
      let e : Entry = entry_of s number c request in
      let next : BoundState MachineWorld = after s number c request in
      let is = is_served s.world number (ran_to image end c).clock request in
      let banks : length next.world.stamps.banks ≡ length s.world.stamps.banks =
      ap (λ (x : Stamps). length x.banks) is.stamps ∙ length-set s.world.stamps.banks (bank_of_entry (length s.world.stamps.banks) e) e.stamp
      in
      let stamped : AreStamped (length s.world.stamps.banks) (stamped_by (length s.world.stamps.banks) s.world.stamps e) entries =
      subst (λ (x : Stamps). AreStamped (length s.world.stamps.banks) x entries) is.stamps
      (subst (λ (n : ℕ). AreStamped n next.world.stamps entries) banks rest.stamped)
      in
      let known : All (λ (x : Entry). x.core < length s.cores) entries = subst (λ (n : ℕ). All (λ (x : Entry). x.core < n) entries) (length-set s.cores number _) rest.known in
      record {
        stamped = (subst (λ (n : ℕ). e.stamp ≡ next_stamp s.world.stamps (bank_of_entry (length s.world.stamps.banks) e) n) (sym is.core) is.stamp, stamped);
        known = All-cons (λ (x : Entry). x.core < length s.cores) e entries (omega (arith, is.core, slice_get_within s.cores number c here)) known;
      }

  turn_accesses : (s : BoundState MachineWorld) (number : ℕ) (c : TimedCore) (request : Request) (rest : List Step)
      → accessed_in ((steps_alone image end number c ++ step_of s number c request ∷ []) ++ rest) ≡ entry_of s number c request ∷ accessed_in rest
  turn_accesses s number c request rest =
      let alone = steps_alone image end number c in
      let step = step_of s number c request in
      accessed-append (alone ++ step ∷ []) rest
      ∙ ap (λ (es : List Entry). es ++ accessed_in rest) (accessed-append alone (step ∷ []) ∙ ap (λ (es : List Entry). es ++ entry_of s number c request ∷ []) (alone_local image end number c).accesses)

  none_of : (s : BoundState MachineWorld) → AreOf s (accessed_in (last_from image end 0 s.cores))
  none_of s = subst (AreOf s) (sym (last_accesses image end 0 s.cores)) (record { stamped = tt; known = All-nil (λ (x : Entry). x.core < length s.cores) })

  pub phase_stamps : (place : ℕ) (numbers : List ℕ) (s b : BoundState MachineWorld) → bound_from serve time image end place numbers s ≡ Ok b
      → AreOf s (accessed_in (phase_steps serve leaves_machine image end time numbers s))
  phase_stamps place [] s b e = none_of s
  phase_stamps place (number ∷ numbers) s b e =
      let of_request : (c : TimedCore) (request : Option Request) → slice_get s.cores number ≡ Some c
      → and_then (bound_from serve time image end (place + 1) numbers) (legal_at place (option_map (after s number c) request)) ≡ Ok b
      → AreOf s (accessed_in ((steps_alone image end number c ++ map (step_of s number c) (option_to_list request)) ++ option_map_or (phase_steps serve leaves_machine image end time numbers) (option_map (after s number c) request) [])) =
      λ c request. elim request as (λ v. slice_get s.cores number ≡ Some c
      → and_then (bound_from serve time image end (place + 1) numbers) (legal_at place (option_map (after s number c) v)) ≡ Ok b
      → AreOf s (accessed_in ((steps_alone image end number c ++ map (step_of s number c) (option_to_list v)) ++ option_map_or (phase_steps serve leaves_machine image end time numbers) (option_map (after s number c) v) []))) [
        | None ↦ λ here f. cc
        | Some request ↦ λ here f.
            let next : BoundState MachineWorld = after s number c request in
            subst (AreOf s) (sym (turn_accesses s number c request (phase_steps serve leaves_machine image end time numbers next)))
            (one_more s number c request _ here (phase_stamps (place + 1) numbers next b f))
      ]
      in
      let of_core : (found : Option TimedCore) → slice_get s.cores number ≡ found
      → and_then (bound_from serve time image end (place + 1) numbers) (legal_at place (option_and_then (λ c. turn_at serve time image end s number (ran_to image end c)) found)) ≡ Ok b
      → AreOf s (accessed_in (option_map_or (λ c. steps_alone image end number c ++ map (step_of s number c) (option_to_list (asks (ran_to image end c)))) found []
      ++ option_map_or (phase_steps serve leaves_machine image end time numbers) (option_and_then (λ c. turn_at serve time image end s number (ran_to image end c)) found) [])) =
      λ found. elim found as (λ v. slice_get s.cores number ≡ v
      → and_then (bound_from serve time image end (place + 1) numbers) (legal_at place (option_and_then (λ c. turn_at serve time image end s number (ran_to image end c)) v)) ≡ Ok b
      → AreOf s (accessed_in (option_map_or (λ c. steps_alone image end number c ++ map (step_of s number c) (option_to_list (asks (ran_to image end c)))) v []
      ++ option_map_or (phase_steps serve leaves_machine image end time numbers) (option_and_then (λ c. turn_at serve time image end s number (ran_to image end c)) v) []))) [
        | None ↦ λ here f. cc
        | Some c ↦ λ here f. of_request c (asks (ran_to image end c)) here f
      ]
      in
      of_core (slice_get s.cores number) refl e
