-- Cores with pipelines go the path of cores without, step by step, and are never earlier.
use Rattle.std.proofs.Common.{arith, ◌≡◌, ◌≤◌, ℕ, zero, suc, ◌+◌, Bool, true, false, List, [], ◌∷◌, ◌++◌, map, Option, Some, None, refl, sym, ◌∙◌, ap, inl, inr}
use Rattle.std.specs.Prelude.{slice_get, slice_set, option_to_list}
use Rattle.std.specs.Option.{option_map_or}
use Rattle.std.specs.List.{range_with_len}
use Rattle.std.proofs.lemmas.Bool.{cases_Bool}
use Rattle.std.proofs.lemmas.List.{map-append}
use Rattle.zs_num.specs.declared.entry.Entry.{Entry}
use Rattle.zs_num.specs.declared.request.Request.{Request}
use Rattle.elf_load.specs.MemoryImage.{MemoryImage}
use Rattle.machine_desc.specs.declared.machine.Machine.{Machine}
use Rattle.machine_desc.specs.declared.machine.Pipe.{Pipe}
use Rattle.pipe_core.specs.Pace.{PaceState}
use Rattle.rv_core.specs.declared.program.Fetched.{Fetched}
use Rattle.rv_core.specs.declared.program.Fetched.TheVariants.{Outside, NoInstruction, Instruction}
use Rattle.rv_core.specs.declared.why.Why.{Why}
use Rattle.rv_core.specs.declared.why.Why.TheVariants.{Exit, Illegal, Misaligned, AtomicAlign, Fetch, Access, Break}
use Rattle.rv_core.specs.CoreState.{CoreState}
use Rattle.rv_core.specs.Fetch.{fetched_at}
use Rattle.rv_core.specs.Step.{answered, asks_for_instruction, console_byte, cost, executed, is_free, needs_fetch, unfetched}
use Rattle.reference.specs.MachineWorld.{MachineWorld, serve}
use Rattle.reference.specs.ReferenceMachine.{BoundState, access_served}
use Rattle.reference.specs.SamePath.{GoTheSamePath, IsNoEarlier, IsWheneverItStarts, PathSoFar, path_of_core, whenever, with_pipe}
use Rattle.reference.specs.Steps.{after_step, after_steps, at_start, begun_step, step_at}
use Rattle.reference.specs.TimedCore.{TimedCore, after_execution, after_instruction, asks, core_after_access, first_core, next_request, paced, takes}

-- ---- two cores

-- The second has no pipeline. Both are as far, and the first is not earlier where accesses take as long whenever they start.
record AreAlike (time : Entry → ℕ) (c d : TimedCore) : Type 0 where
  pub same : path_of_core c ≡ path_of_core d
  pub later : IsWheneverItStarts time → d.clock ≤ c.clock
  pub plain : d.pace ≡ None

abbrev path_as : CoreState → (instructions : ℕ) → List ℕ → PathSoFar
path_as core instructions console = record { core = core; instructions = instructions; console = console }

-- after an instruction, after the question for one, and after an access
abbrev execution_path : MemoryImage → PathSoFar → PathSoFar
execution_path image x = let next = executed image (unfetched x.core) in path_as next (x.instructions + cost next.halted) x.console

abbrev asking_path : PathSoFar → PathSoFar
asking_path x = path_as (asks_for_instruction x.core) x.instructions x.console

abbrev access_path : (reply : ℕ) → PathSoFar → PathSoFar
access_path reply x = path_as (answered reply x.core) x.instructions (x.console ++ option_to_list (console_byte x.core.instruction reply))

-- one instruction is counted, or none
cost_small : (halted : Option Why) → cost halted ≤ 1
cost_small None = omega arith
cost_small (Some (Exit number)) = omega arith
cost_small (Some (Illegal word)) = omega arith
cost_small (Some (Misaligned target)) = omega arith
cost_small (Some (AtomicAlign addr)) = omega arith
cost_small (Some (Fetch addr)) = omega arith
cost_small (Some (Access addr)) = omega arith
cost_small (Some Break) = omega arith

-- with a pipeline an instruction costs what it costs without one, or more
paced_late : (pace : Option PaceState) (counted : ℕ) (fetched : Fetched) (pc : ℕ) (taken : Bool) (clock : ℕ) → counted ≤ 1 → clock + counted ≤ (paced pace counted fetched pc taken clock).clock
paced_late None counted fetched pc taken clock few = omega arith
paced_late (Some pace) zero fetched pc taken clock few = omega arith
paced_late (Some pace) (suc n) Outside pc taken clock few = omega (arith, few)
paced_late (Some pace) (suc n) (NoInstruction word) pc taken clock few = omega (arith, few)
paced_late (Some pace) (suc n) (Instruction inst) pc taken clock few = omega (arith, few)

plain_clock : (pace : Option PaceState) (counted : ℕ) (fetched : Fetched) (pc : ℕ) (taken : Bool) (clock : ℕ) → pace ≡ None → (paced pace counted fetched pc taken clock).clock ≡ clock + counted
plain_clock pace counted fetched pc taken clock none = rw none refl

plain_pace : (pace : Option PaceState) (counted : ℕ) (fetched : Fetched) (pc : ℕ) (taken : Bool) (clock : ℕ) → pace ≡ None → (paced pace counted fetched pc taken clock).pace ≡ None
plain_pace pace counted fetched pc taken clock none = rw none refl

module _ (time : Entry → ℕ) (image : MemoryImage) where
  executed_alike : (c d : TimedCore) → AreAlike time c d → AreAlike time (after_execution image c) (after_execution image d)
  executed_alike c d alike =
      let count = λ (x : TimedCore). cost (executed image (unfetched x.core)).halted in
      let same_count : count c ≡ count d = ap (λ (x : PathSoFar). cost (executed image (unfetched x.core)).halted) alike.same in
      let few : count c ≤ 1 = cost_small (executed image (unfetched c.core)).halted in
      let late : c.clock + count c ≤ (after_execution image c).clock = paced_late c.pace (count c) (fetched_at image c.core.pc) c.core.pc (takes c.core (fetched_at image c.core.pc)) c.clock few in
      let plain : (after_execution image d).clock ≡ d.clock + count d = plain_clock d.pace (count d) (fetched_at image d.core.pc) d.core.pc (takes d.core (fetched_at image d.core.pc)) d.clock alike.plain in
      record {
        same = ap (execution_path image) alike.same;
        later = λ always. omega (arith, late, plain, same_count, alike.later always);
        plain = plain_pace d.pace (count d) (fetched_at image d.core.pc) d.core.pc (takes d.core (fetched_at image d.core.pc)) d.clock alike.plain;
      }

  asking_alike : (c d : TimedCore) → AreAlike time c d → AreAlike time (record c { core = asks_for_instruction c.core }) (record d { core = asks_for_instruction d.core })
  asking_alike c d alike = record { same = ap asking_path alike.same; later = alike.later; plain = alike.plain }

  instruction_alike : (c d : TimedCore) → AreAlike time c d → AreAlike time (after_instruction image c) (after_instruction image d)
  unfolding after_instruction
  instruction_alike c d alike =
      let both : needs_fetch image c.core ≡ needs_fetch image d.core = ap (λ (x : PathSoFar). needs_fetch image x.core) alike.same in
      elim (cases_Bool (needs_fetch image c.core)) [
        | inl needs ↦ let other : needs_fetch image d.core ≡ true = sym both ∙ needs in rw (needs, other) (asking_alike c d alike)
        | inr has ↦ let other : needs_fetch image d.core ≡ false = sym both ∙ has in rw (has, other) (executed_alike c d alike)
      ]

  begun_alike : (c d : TimedCore) → AreAlike time c d → AreAlike time (begun_step time image c) (begun_step time image d)
  begun_alike c d alike =
      let both : is_free c.core ≡ is_free d.core = ap (λ (x : PathSoFar). is_free x.core) alike.same in
      elim (cases_Bool (is_free c.core)) [
        | inl free ↦ let other : is_free d.core ≡ true = sym both ∙ free in rw (free, other) (instruction_alike c d alike)
        | inr waits ↦ let other : is_free d.core ≡ false = sym both ∙ waits in rw (waits, other) alike
      ]

-- accesses that were asked, answered and met alike take as long
as_long : (time : Entry → ℕ) (e f : Entry) → whenever e ≡ whenever f → IsWheneverItStarts time → time e ≡ time f
as_long time e f same always = always e ∙ ap time same ∙ sym (always f)

accessed_alike : (time : Entry → ℕ) (c d : TimedCore) → AreAlike time c d → (e f : Entry) → whenever e ≡ whenever f
    → AreAlike time (core_after_access time e c) (core_after_access time f d)
unfolding core_after_access
accessed_alike time c d alike e f same =
    let reply : e.reply ≡ f.reply = ap (λ (x : Entry). x.reply) same in
    record {
      same = ap (λ (n : ℕ). access_path n (path_of_core c)) reply ∙ ap (access_path f.reply) alike.same;
      later = λ always. omega (arith, alike.later always, as_long time e f same always);
      plain = alike.plain;
    }

-- ---- all cores

abbrev AllAlike : (time : Entry → ℕ) → (cs ds : List TimedCore) → Type 0
AllAlike time [] [] = Unit {0}
AllAlike time [] (d ∷ ds) = ⊥
AllAlike time (c ∷ cs) [] = ⊥
AllAlike time (c ∷ cs) (d ∷ ds) = AreAlike time c d × AllAlike time cs ds

abbrev AlikeIf : (time : Entry → ℕ) → (one other : Option TimedCore) → Type 0
AlikeIf time None None = Unit {0}
AlikeIf time None (Some d) = ⊥
AlikeIf time (Some c) None = ⊥
AlikeIf time (Some c) (Some d) = AreAlike time c d

get_alike : (time : Entry → ℕ) (cs ds : List TimedCore) (number : ℕ) → AllAlike time cs ds → AlikeIf time (slice_get cs number) (slice_get ds number)
get_alike time [] [] number all = tt
get_alike time [] (d ∷ ds) number all = absurd all
get_alike time (c ∷ cs) [] number all = absurd all
get_alike time (c ∷ cs) (d ∷ ds) zero all = all.0
get_alike time (c ∷ cs) (d ∷ ds) (suc number) all = get_alike time cs ds number all.1

set_alike : (time : Entry → ℕ) (cs ds : List TimedCore) (number : ℕ) (c d : TimedCore) → AllAlike time cs ds → AreAlike time c d → AllAlike time (slice_set cs number c) (slice_set ds number d)
set_alike time [] [] number c d all alike = tt
set_alike time [] (y ∷ ds) number c d all alike = absurd all
set_alike time (x ∷ cs) [] number c d all alike = absurd all
set_alike time (x ∷ cs) (y ∷ ds) zero c d all alike = (alike, all.1)
set_alike time (x ∷ cs) (y ∷ ds) (suc number) c d all alike = (all.0, set_alike time cs ds number c d all.1 alike)

all_same : (time : Entry → ℕ) (cs ds : List TimedCore) → AllAlike time cs ds → map path_of_core cs ≡ map path_of_core ds
all_same time [] [] all = refl
all_same time [] (d ∷ ds) all = absurd all
all_same time (c ∷ cs) [] all = absurd all
all_same time (c ∷ cs) (d ∷ ds) all =
    ap (λ (x : PathSoFar). x ∷ map path_of_core cs) all.0.same ∙ ap (λ (l : List PathSoFar). path_of_core d ∷ l) (all_same time cs ds all.1)

later_if : (time : Entry → ℕ) → IsWheneverItStarts time → (one other : Option TimedCore) (c d : TimedCore) → AlikeIf time one other → one ≡ Some c → other ≡ Some d → d.clock ≤ c.clock
later_if time always None None c d alike here there = cc
later_if time always None (Some y) c d alike here there = absurd alike
later_if time always (Some x) None c d alike here there = absurd alike
later_if time always (Some x) (Some y) c d alike here there =
    let is_c : x ≡ c = cc in
    let is_d : y ≡ d = cc in
    rw (← is_c, ← is_d) (alike.later always)

-- ---- both machines

record Both (time : Entry → ℕ) (s t : BoundState MachineWorld) : Type 0 where
  pub cores : AllAlike time s.cores t.cores
  pub accesses : map whenever s.entries ≡ map whenever t.entries
  pub world : s.world ≡ t.world

served_whenever : (w : MachineWorld) (number one other : ℕ) (r : Request) → whenever (serve w number one r).0 ≡ whenever (serve w number other r).0
unfolding serve
served_whenever w number one other r = refl

served_world : (w : MachineWorld) (number one other : ℕ) (r : Request) → (serve w number one r).1 ≡ (serve w number other r).1
unfolding serve
served_world w number one other r = refl

module _ (time : Entry → ℕ) (image : MemoryImage) where
  module _ (s t : BoundState MachineWorld) (number : ℕ) (both : Both time s t) where
    serves_both : (c d : TimedCore) (r : Request) → AreAlike time c d
        → Both time (access_served serve time image 0 s number c (serve s.world number c.clock r)) (access_served serve time image 0 t number d (serve t.world number d.clock r))
    serves_both c d r alike =
        let e : Entry = (serve s.world number c.clock r).0 in
        let f : Entry = (serve t.world number d.clock r).0 in
        let same : whenever e ≡ whenever f =
        ap (λ (w : MachineWorld). whenever (serve w number c.clock r).0) both.world ∙ served_whenever t.world number c.clock d.clock r in
        record {
          cores = set_alike time s.cores t.cores number _ _ both.cores (accessed_alike time c d alike e f same);
          accesses = map-append whenever s.entries (e ∷ []) ∙ ap (λ (l : List Entry). l ++ whenever e ∷ []) both.accesses
              ∙ ap (λ (x : Entry). map whenever t.entries ++ x ∷ []) same ∙ sym (map-append whenever t.entries (f ∷ []));
          world = ap (λ (w : MachineWorld). (serve w number c.clock r).1) both.world ∙ served_world t.world number c.clock d.clock r;
        }

    -- by what the core asks for
    steps_both : (c d : TimedCore) (o : Option Request) → AreAlike time c d → asks c ≡ o → Both time (step_at time image s number c) (step_at time image t number d)
    steps_both c d None alike asked =
        let there : asks d ≡ None = sym (ap (λ (x : PathSoFar). next_request x.core.instruction) alike.same) ∙ asked in
        let set : Both time (record s { cores = slice_set s.cores number c }) (record t { cores = slice_set t.cores number d }) =
        record { cores = set_alike time s.cores t.cores number c d both.cores alike; accesses = both.accesses; world = both.world } in
        rw (asked, there) set
    steps_both c d (Some r) alike asked =
        let there : asks d ≡ Some r = sym (ap (λ (x : PathSoFar). next_request x.core.instruction) alike.same) ∙ asked in
        rw (asked, there) (serves_both c d r alike)

    found_both : (one other : Option TimedCore) → AlikeIf time one other
        → Both time (option_map_or (λ c. step_at time image s number (begun_step time image c)) one s) (option_map_or (λ c. step_at time image t number (begun_step time image c)) other t)
    found_both None None alike = both
    found_both None (Some d) alike = absurd alike
    found_both (Some c) None alike = absurd alike
    found_both (Some c) (Some d) alike = steps_both (begun_step time image c) (begun_step time image d) (asks (begun_step time image c)) (begun_alike time image c d alike) refl

    one_step : Both time (after_step time image s number) (after_step time image t number)
    one_step = found_both (slice_get s.cores number) (slice_get t.cores number) (get_alike time s.cores t.cores number both.cores)

  all_steps : (numbers : List ℕ) (s t : BoundState MachineWorld) → Both time s t → Both time (after_steps time image s numbers) (after_steps time image t numbers)
  all_steps [] s t both = both
  all_steps (number ∷ numbers) s t both = all_steps numbers (after_step time image s number) (after_step time image t number) (one_step s t number both)

-- ---- from the start on

first_alike : (time : Entry → ℕ) (m : Machine) (image : MemoryImage) (numbers : List ℕ) → AllAlike time (map (first_core m image) numbers) (map (first_core (with_pipe None m) image) numbers)
first_alike time m image [] = tt
first_alike time m image (number ∷ numbers) = (record { same = refl; later = λ always. omega arith; plain = refl }, first_alike time m image numbers)

plain_both : (m : Machine) (image : MemoryImage) (time : Entry → ℕ) (numbers : List ℕ)
    → Both time (after_steps time image (at_start m image) numbers) (after_steps time image (at_start (with_pipe None m) image) numbers)
plain_both m image time numbers =
    all_steps time image numbers (at_start m image) (at_start (with_pipe None m) image) (record {
      cores = first_alike time m image (range_with_len 0 m.cores);
      accesses = refl;
      world = refl;
    })

-- two machines with whatever pipelines go the path of the machine without any
pub same_path : (m : Machine) (pipe : Option Pipe) (image : MemoryImage) (time : Entry → ℕ) (numbers : List ℕ)
    → GoTheSamePath (after_steps time image (at_start m image) numbers) (after_steps time image (at_start (with_pipe pipe m) image) numbers)
same_path m pipe image time numbers =
    let one = plain_both m image time numbers in
    let other = plain_both (with_pipe pipe m) image time numbers in
    record {
      cores = all_same time _ _ one.cores ∙ sym (all_same time _ _ other.cores);
      accesses = one.accesses ∙ sym other.accesses;
      world = one.world ∙ sym other.world;
    }

pub no_faster : (m : Machine) (image : MemoryImage) (time : Entry → ℕ) (numbers : List ℕ) → IsWheneverItStarts time
    → IsNoEarlier (after_steps time image (at_start m image) numbers) (after_steps time image (at_start (with_pipe None m) image) numbers)
no_faster m image time numbers always number c d here there =
    let both = plain_both m image time numbers in
    later_if time always _ _ c d (get_alike time _ _ number both.cores) here there
