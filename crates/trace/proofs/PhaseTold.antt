-- The steps of a bound phase, turn by turn, and those of its end, core by core.
use Rattle.std.proofs.Common.{◌≡◌, ◌<◌, ◌≤◌, ◌+◌, ℕ, List, [], ◌∷◌, ◌++◌, drop, get_or, length, None, Option, Some, append_assoc, sym, ◌∙◌, ap, arith}
use Rattle.std.specs.List.{enumerate_from}
use Rattle.std.specs.Option.{option_map_or}
use Rattle.std.specs.Prelude.{slice_get, slice_set}
use Rattle.std.proofs.lemmas.List.{append-nil, drop-set-lt, drop_all, drop_more, length-map, map-set}
use Rattle.std.proofs.lemmas.List.Concat.{flat_map-cons}
use Rattle.std.proofs.lemmas.Option.{get_or_from_slice_get}
use Rattle.zs_num.specs.declared.entry.Entry.{Entry}
use Rattle.elf_load.specs.MemoryImage.{MemoryImage}
use Rattle.bound_core.specs.NumberedCores.{NumberedCore, timed_of}
use Rattle.bound_core.specs.ReferenceMachine.{BoundState, turn}
use Rattle.bound_core.specs.ShardWorld.{ShardWorld, shards_serve}
use Rattle.bound_core.specs.TimedCore.{TimedCore, asks, ran_to}
use Rattle.bound_records.proofs.Lists.{get_mapped}
use Rattle.trace.specs.Port.{leaves_shards}
use Rattle.trace.specs.Trace.{Step, last_from, phase_steps, steps_alone, turn_steps}

module _ (image : MemoryImage) (end : ℕ) where
  -- a turn that took no access is told by its local instructions
  none_told : (world : ShardWorld) (number : ℕ) (c : TimedCore) → asks (ran_to image end c) ≡ None → turn_steps shards_serve leaves_shards image end world number c ≡ steps_alone image end number c
  none_told world number c none = rw none (append-nil (steps_alone image end number c))

  -- nor is more told of it where the core had gone ahead within it before
  pub ahead_told : (world : ShardWorld) (number : ℕ) (core ahead : TimedCore) (before told later : List Step) → ran_to image end ahead ≡ ran_to image end core
      → told ++ steps_alone image end number ahead ≡ before ++ steps_alone image end number core → asks (ran_to image end ahead) ≡ None
      → later ≡ told ++ turn_steps shards_serve leaves_shards image end world number ahead → later ≡ before ++ turn_steps shards_serve leaves_shards image end world number core
  ahead_told world number core ahead before told later ran same none more =
      more
      ∙ (ap (λ (steps : List Step). told ++ steps) (none_told world number ahead none)
      ∙ (same ∙ ap (λ (steps : List Step). before ++ steps) (sym (none_told world number core (sym (ap asks ran) ∙ none)))))

  -- the last steps of the cores from this one on
  last_more : (number : ℕ) (c : TimedCore) (cores : List TimedCore) → last_from image end number (c ∷ cores) ≡ steps_alone image end number c ++ last_from image end (number + 1) cores
  last_more number c cores = flat_map-cons (λ at. steps_alone image end at.0 at.1) (number, c) (enumerate_from (number + 1) cores)

  -- a core more has ended its interval, and was told
  pub ended_told : (cores : List NumberedCore) (number : ℕ) (core after : NumberedCore) → number < length cores → slice_get cores number ≡ Some core
      → (world : ShardWorld) (told later : List Step) → asks (ran_to image end core.timed) ≡ None → later ≡ told ++ turn_steps shards_serve leaves_shards image end world number core.timed
      → later ++ last_from image end (number + 1) (drop (number + 1) (timed_of (slice_set cores number after))) ≡ told ++ last_from image end number (drop number (timed_of cores))
  ended_told cores number core after below here world told later none more =
      let timed = timed_of cores in
      let own = steps_alone image end number core.timed in
      let rest = drop (number + 1) timed in
      let within : number < length timed = omega (arith, below, length-map cores (λ (c : NumberedCore). c.timed)) in
      let there : slice_get timed number ≡ Some core.timed = get_mapped (λ (c : NumberedCore). c.timed) cores number core here in
      let is : get_or timed number core.timed ≡ core.timed = get_or_from_slice_get timed number core.timed core.timed there in
      let same : drop (number + 1) (timed_of (slice_set cores number after)) ≡ rest =
      ap (drop (number + 1)) (map-set (λ (c : NumberedCore). c.timed) cores number after) ∙ drop-set-lt (number + 1) timed number after.timed (omega arith)
      in
      let first : drop number timed ≡ core.timed ∷ rest = drop_more timed number core.timed within ∙ ap (λ (c : TimedCore). c ∷ rest) is in
      ap (λ (cs : List TimedCore). later ++ last_from image end (number + 1) cs) same
      ∙ ap (λ (steps : List Step). steps ++ last_from image end (number + 1) rest) (more ∙ ap (λ (steps : List Step). told ++ steps) (none_told world number core.timed none))
      ∙ append_assoc told own (last_from image end (number + 1) rest)
      ∙ ap (λ (steps : List Step). told ++ steps) (sym (last_more number core.timed rest))
      ∙ ap (λ (cs : List TimedCore). told ++ last_from image end number cs) (sym first)

  -- no core is left
  pub none_left : (cores : List NumberedCore) (number : ℕ) → length cores ≤ number → (told : List Step) → told ≡ told ++ last_from image end number (drop number (timed_of cores))
  none_left cores number past told =
      let none : drop number (timed_of cores) ≡ [] = drop_all number (timed_of cores) (omega (arith, past, length-map cores (λ (c : NumberedCore). c.timed))) in
      sym (append-nil told) ∙ ap (λ (cs : List TimedCore). told ++ last_from image end number cs) (sym none)

  -- a turn more was taken, and was told
  pub turn_told : (time : Entry → ℕ) (s t : BoundState ShardWorld) (number : ℕ) (core : TimedCore) (rest : List ℕ) (told later : List Step)
      → slice_get s.cores number ≡ Some core → turn shards_serve time image end s number ≡ Some t
      → later ≡ told ++ turn_steps shards_serve leaves_shards image end s.world number core
      → later ++ phase_steps shards_serve leaves_shards image end time rest t ≡ told ++ phase_steps shards_serve leaves_shards image end time (number ∷ rest) s
  turn_told time s t number core rest told later here taken more =
      let own = turn_steps shards_serve leaves_shards image end s.world number core in
      let steps = phase_steps shards_serve leaves_shards image end time rest t in
      let whole : phase_steps shards_serve leaves_shards image end time (number ∷ rest) s ≡ own ++ steps =
      ap (λ (found : Option TimedCore). option_map_or (turn_steps shards_serve leaves_shards image end s.world number) found [] ++ option_map_or (phase_steps shards_serve leaves_shards image end time rest) (turn shards_serve time image end s number) []) here
      ∙ ap (λ (next : Option (BoundState ShardWorld)). own ++ option_map_or (phase_steps shards_serve leaves_shards image end time rest) next []) taken
      in
      ap (λ (x : List Step). x ++ steps) more ∙ append_assoc told own steps ∙ ap (λ (x : List Step). told ++ x) (sym whole)
