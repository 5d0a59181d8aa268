-- A machine whose cores fetch does what it does without instruction caches, but for times and outcomes.
use Rattle.std.proofs.Common.{arith, ◌≡◌, ℕ, ◌+◌, ◌%◌, ◌==◌, Bool, true, false, cond, get_or, not, ◌&&◌, List, [], ◌∷◌, ◌++◌, map, Option, Some, None, refl, sym, ◌∙◌, ap, subst, inl, inr}
use Rattle.std.specs.Prelude.{min, if◌then◌else◌, ◌||◌, filter, slice_get, slice_set, is_none, option_to_list, All, IfSome}
use Rattle.std.specs.Option.{option_map, option_map_or}
use Rattle.std.specs.List.{range_with_len}
use Rattle.std.proofs.lemmas.Bool.{and_parts, cases_Bool}
use Rattle.std.proofs.lemmas.List.{append-nil, map-append, map-set}
use Rattle.std.proofs.lemmas.List.Elements.{All-cons, All-get_or, All-nil, All-set, filter-append}
use Rattle.std.proofs.lemmas.Option.{get_or_from_slice_get, slice_get-map, slice_get_within}
use Rattle.std.proofs.Math.Seq.{map-set_same}
use Rattle.zs_num.specs.Request.{is_fetch}
use Rattle.zs_num.specs.Servable.{MayFetch}
use Rattle.zs_num.specs.declared.entry.Entry.{Entry}
use Rattle.zs_num.specs.declared.request.Request.{Request}
use Rattle.zs_num.specs.declared.request.Request.TheVariants as request
use Rattle.elf_load.specs.MemoryImage.{MemoryImage}
use Rattle.rv_decode.specs.declared.inst.Inst.{Inst}
use Rattle.rv_decode.specs.declared.name.Name.{Name}
use Rattle.rv_decode.specs.declared.name.Name.TheVariants as name
use Rattle.rv_core.specs.declared.program.Fetched.{Fetched}
use Rattle.rv_core.specs.declared.program.Fetched.TheVariants.{Outside, NoInstruction, Instruction}
use Rattle.rv_core.specs.declared.progress.Reply.{Reply}
use Rattle.rv_core.specs.Accesses.{is_in_memory}
use Rattle.rv_core.specs.CoreState.{CoreState, Ending, ToRegister, ToConsole, ToExecution, ToNothing, InProgress}
use Rattle.rv_core.specs.Effect.{accesses, atomic, branches, calls, effect, ended, following, goes_through, goes_to, jumps, register, relative, writes}
use Rattle.rv_core.specs.Fetch.{fetched_at}
use Rattle.rv_core.specs.Step.{after_fetch, answered, asks_for_instruction, console_byte, cost, executed, initial_core, is_free, needs_fetch, unfetched}
use Rattle.rv_core.specs.Asked.{advanced}
use Rattle.rv_core.specs.Laws.{IsReached, starts}
use Rattle.rv_core.specs.Sound.{AreServableIn, FetchesAlone, IsSoundCore, left_of}
use Rattle.flat_memory.specs.FlatMemory.{MemoryState, memory_after, memory_reply}
use Rattle.machine_desc.specs.declared.machine.Machine.{Machine}
use Rattle.machine_desc.specs.Machine.{IsMachine}
use Rattle.reference.specs.FetchLaws.{Answered, Done, answered_in, answers_to, done_by, HaveDoneTheSame, is_fetch_step, other_steps, without_fetching, without_l1i}
use Rattle.reference.specs.MachineWorld.{MachineWorld, serve}
use Rattle.reference.specs.ReferenceMachine.{BoundState, access_served}
use Rattle.reference.specs.Steps.{after_step, after_steps, at_start, begun_step, step_at}
use Rattle.reference.specs.TimedCore.{TimedCore, after_execution, after_instruction, asks, core_after_access, first_core, next_request}

-- ---- a core that forgets that it fetches does the same

goes_to-forgets : (core : CoreState) (rd value target : ℕ) → without_fetching (goes_to core rd value target) ≡ goes_to (without_fetching core) rd value target
unfolding goes_to
goes_to-forgets core rd value target = refl

cond-forgets : (test : Bool) (a b c d : CoreState) → without_fetching a ≡ c → without_fetching b ≡ d → without_fetching (if test then a else b) ≡ (if test then c else d)
cond-forgets true a b c d one other = one
cond-forgets false a b c d one other = other

jumps-forgets : (rd target : ℕ) (core : CoreState) → without_fetching (jumps rd target core) ≡ jumps rd target (without_fetching core)
unfolding jumps
jumps-forgets rd target core = cond-forgets (target % 4 == 0) _ _ _ _ (goes_to-forgets core rd (following core) target) refl

branches-forgets : (n : Name) (i : Inst) (core : CoreState) → without_fetching (branches n i core) ≡ branches n i (without_fetching core)
unfolding branches
branches-forgets n i core =
    cond-forgets _ _ _ _ _ (jumps-forgets 0 (relative i core) core) (goes_to-forgets core 0 0 (following core))

-- the replies do something else in the end than to have the instruction executed
abbrev pub IsNoFetch : Ending → Type 0
IsNoFetch (ToRegister destination) = Unit {0}
IsNoFetch (ToConsole count) = Unit {0}
IsNoFetch ToExecution = ⊥
IsNoFetch ToNothing = Unit {0}

ended-forgets : (ending : Ending) (replies : List Reply) (core : CoreState) → IsNoFetch ending → without_fetching (ended ending replies core) ≡ ended ending replies (without_fetching core)
unfolding ended goes_to
ended-forgets (ToRegister destination) replies core ends = refl
ended-forgets (ToConsole count) replies core ends = refl
ended-forgets ToExecution replies core ends = absurd ends
ended-forgets ToNothing replies core ends = refl

goes_through-forgets : (requests : List Request) (replies : List Reply) (ending : Ending) (core : CoreState) → IsNoFetch ending
    → without_fetching (goes_through requests replies ending core) ≡ goes_through requests replies ending (without_fetching core)
goes_through-forgets [] replies ending core ends = ended-forgets ending replies core ends
goes_through-forgets (request ∷ requests) replies ending core ends = refl

accesses-forgets : (addr width : ℕ) (requests : List Request) (ending : Ending) (core : CoreState) → IsNoFetch ending
    → without_fetching (accesses addr width requests ending core) ≡ accesses addr width requests ending (without_fetching core)
unfolding accesses
accesses-forgets addr width requests ending core ends =
    cond-forgets (is_in_memory core.memory addr width) _ _ _ _ (goes_through-forgets requests [] ending core ends) refl

atomic-forgets : (addr width : ℕ) (request : Request) (ending : Ending) (core : CoreState) → IsNoFetch ending
    → without_fetching (atomic addr width request ending core) ≡ atomic addr width request ending (without_fetching core)
unfolding atomic
atomic-forgets addr width request ending core ends =
    cond-forgets (addr % width == 0) _ _ _ _ (accesses-forgets addr width (request ∷ []) ending core ends) refl

writes-forgets : (core : CoreState) → without_fetching (writes core) ≡ writes (without_fetching core)
unfolding writes
writes-forgets core =
    cond-forgets (min (register core 12) 256 == 0) _ _ _ _ (goes_to-forgets core 10 _ (following core))
    (cond-forgets (is_in_memory core.memory (register core 11) (min (register core 12) 256)) _ _ _ _ (goes_through-forgets _ [] (ToConsole _) core tt) (goes_to-forgets core 10 _ (following core)))

calls-forgets : (core : CoreState) → without_fetching (calls core) ≡ calls (without_fetching core)
unfolding calls
calls-forgets core =
    cond-forgets ((register core 17 == 93) || (register core 17 == 94)) _ _ _ _ refl
    (cond-forgets ((register core 17 == 64) && ((register core 10 == 1) || (register core 10 == 2))) _ _ _ _ (writes-forgets core) (goes_to-forgets core 10 _ (following core)))

effect-forgets : (n : Name) (i : Inst) (core : CoreState) → without_fetching (effect n i core) ≡ effect n i (without_fetching core)
unfolding effect
effect-forgets name.Lui i core = goes_to-forgets core _ _ (following core)
effect-forgets name.Auipc i core = goes_to-forgets core _ _ (following core)
effect-forgets name.Jal i core = jumps-forgets i.rd _ core
effect-forgets name.Jalr i core = jumps-forgets i.rd _ core
effect-forgets name.Beq i core = branches-forgets _ i core
effect-forgets name.Bne i core = branches-forgets _ i core
effect-forgets name.Blt i core = branches-forgets _ i core
effect-forgets name.Bge i core = branches-forgets _ i core
effect-forgets name.Bltu i core = branches-forgets _ i core
effect-forgets name.Bgeu i core = branches-forgets _ i core
effect-forgets name.Lb i core = accesses-forgets _ _ _ _ core tt
effect-forgets name.Lh i core = accesses-forgets _ _ _ _ core tt
effect-forgets name.Lw i core = accesses-forgets _ _ _ _ core tt
effect-forgets name.Ld i core = accesses-forgets _ _ _ _ core tt
effect-forgets name.Lbu i core = accesses-forgets _ _ _ _ core tt
effect-forgets name.Lhu i core = accesses-forgets _ _ _ _ core tt
effect-forgets name.Lwu i core = accesses-forgets _ _ _ _ core tt
effect-forgets name.Sb i core = accesses-forgets _ _ _ _ core tt
effect-forgets name.Sh i core = accesses-forgets _ _ _ _ core tt
effect-forgets name.Sw i core = accesses-forgets _ _ _ _ core tt
effect-forgets name.Sd i core = accesses-forgets _ _ _ _ core tt
effect-forgets name.Addi i core = goes_to-forgets core _ _ (following core)
effect-forgets name.Slti i core = goes_to-forgets core _ _ (following core)
effect-forgets name.Sltiu i core = goes_to-forgets core _ _ (following core)
effect-forgets name.Xori i core = goes_to-forgets core _ _ (following core)
effect-forgets name.Ori i core = goes_to-forgets core _ _ (following core)
effect-forgets name.Andi i core = goes_to-forgets core _ _ (following core)
effect-forgets name.Slli i core = goes_to-forgets core _ _ (following core)
effect-forgets name.Srli i core = goes_to-forgets core _ _ (following core)
effect-forgets name.Srai i core = goes_to-forgets core _ _ (following core)
effect-forgets name.Addiw i core = goes_to-forgets core _ _ (following core)
effect-forgets name.Slliw i core = goes_to-forgets core _ _ (following core)
effect-forgets name.Srliw i core = goes_to-forgets core _ _ (following core)
effect-forgets name.Sraiw i core = goes_to-forgets core _ _ (following core)
effect-forgets name.Fence i core = goes_to-forgets core _ _ (following core)
effect-forgets name.Ecall i core = calls-forgets core
effect-forgets name.Ebreak i core = refl
effect-forgets name.Add i core = goes_to-forgets core _ _ (following core)
effect-forgets name.Sub i core = goes_to-forgets core _ _ (following core)
effect-forgets name.Sll i core = goes_to-forgets core _ _ (following core)
effect-forgets name.Slt i core = goes_to-forgets core _ _ (following core)
effect-forgets name.Sltu i core = goes_to-forgets core _ _ (following core)
effect-forgets name.Xor i core = goes_to-forgets core _ _ (following core)
effect-forgets name.Srl i core = goes_to-forgets core _ _ (following core)
effect-forgets name.Sra i core = goes_to-forgets core _ _ (following core)
effect-forgets name.Or i core = goes_to-forgets core _ _ (following core)
effect-forgets name.And i core = goes_to-forgets core _ _ (following core)
effect-forgets name.Addw i core = goes_to-forgets core _ _ (following core)
effect-forgets name.Subw i core = goes_to-forgets core _ _ (following core)
effect-forgets name.Sllw i core = goes_to-forgets core _ _ (following core)
effect-forgets name.Srlw i core = goes_to-forgets core _ _ (following core)
effect-forgets name.Sraw i core = goes_to-forgets core _ _ (following core)
effect-forgets name.Mul i core = goes_to-forgets core _ _ (following core)
effect-forgets name.Mulh i core = goes_to-forgets core _ _ (following core)
effect-forgets name.Mulhsu i core = goes_to-forgets core _ _ (following core)
effect-forgets name.Mulhu i core = goes_to-forgets core _ _ (following core)
effect-forgets name.Div i core = goes_to-forgets core _ _ (following core)
effect-forgets name.Divu i core = goes_to-forgets core _ _ (following core)
effect-forgets name.Rem i core = goes_to-forgets core _ _ (following core)
effect-forgets name.Remu i core = goes_to-forgets core _ _ (following core)
effect-forgets name.Mulw i core = goes_to-forgets core _ _ (following core)
effect-forgets name.Divw i core = goes_to-forgets core _ _ (following core)
effect-forgets name.Divuw i core = goes_to-forgets core _ _ (following core)
effect-forgets name.Remw i core = goes_to-forgets core _ _ (following core)
effect-forgets name.Remuw i core = goes_to-forgets core _ _ (following core)
effect-forgets name.LrW i core = atomic-forgets _ _ _ _ core tt
effect-forgets name.ScW i core = atomic-forgets _ _ _ _ core tt
effect-forgets name.AmoswapW i core = atomic-forgets _ _ _ _ core tt
effect-forgets name.AmoaddW i core = atomic-forgets _ _ _ _ core tt
effect-forgets name.AmoxorW i core = atomic-forgets _ _ _ _ core tt
effect-forgets name.AmoandW i core = atomic-forgets _ _ _ _ core tt
effect-forgets name.AmoorW i core = atomic-forgets _ _ _ _ core tt
effect-forgets name.AmominW i core = atomic-forgets _ _ _ _ core tt
effect-forgets name.AmomaxW i core = atomic-forgets _ _ _ _ core tt
effect-forgets name.AmominuW i core = atomic-forgets _ _ _ _ core tt
effect-forgets name.AmomaxuW i core = atomic-forgets _ _ _ _ core tt
effect-forgets name.LrD i core = atomic-forgets _ _ _ _ core tt
effect-forgets name.ScD i core = atomic-forgets _ _ _ _ core tt
effect-forgets name.AmoswapD i core = atomic-forgets _ _ _ _ core tt
effect-forgets name.AmoaddD i core = atomic-forgets _ _ _ _ core tt
effect-forgets name.AmoxorD i core = atomic-forgets _ _ _ _ core tt
effect-forgets name.AmoandD i core = atomic-forgets _ _ _ _ core tt
effect-forgets name.AmoorD i core = atomic-forgets _ _ _ _ core tt
effect-forgets name.AmominD i core = atomic-forgets _ _ _ _ core tt
effect-forgets name.AmomaxD i core = atomic-forgets _ _ _ _ core tt
effect-forgets name.AmominuD i core = atomic-forgets _ _ _ _ core tt
effect-forgets name.AmomaxuD i core = atomic-forgets _ _ _ _ core tt

fetched-forgets : (f : Fetched) (core : CoreState) → without_fetching (after_fetch f core) ≡ after_fetch f (without_fetching core)
fetched-forgets Outside core = refl
fetched-forgets (NoInstruction word) core = refl
fetched-forgets (Instruction inst) core = effect-forgets inst.name inst core

executed-forgets : (image : MemoryImage) (core : CoreState) → without_fetching (executed image core) ≡ executed image (without_fetching core)
executed-forgets image core = fetched-forgets (fetched_at image core.pc) core

answered-forgets : (reply : ℕ) (core : CoreState) (now : InProgress) → core.instruction ≡ Some now → IsNoFetch now.ending → without_fetching (answered reply core) ≡ answered reply (without_fetching core)
unfolding answered
answered-forgets reply core now here ends = rw here (goes_through-forgets now.later _ now.ending _ ends)

-- ---- what a core has done, but for times

abbrev done_as : CoreState → (instructions : ℕ) → List ℕ → Done
done_as core instructions console = record { core = core; instructions = instructions; console = console }

-- after an instruction, or up to its first access
abbrev execution_done : MemoryImage → Done → Done
execution_done image x = let next = executed image x.core in done_as next (x.instructions + cost next.halted) x.console

execution_does : (image : MemoryImage) (c : TimedCore) → done_by (after_execution image c) ≡ execution_done image (done_by c)
execution_does image c =
    ap (λ (core : CoreState). done_as core (c.instructions + cost core.halted) c.console) (executed-forgets image (unfetched c.core))

-- after an access that is no fetch
abbrev access_done : (reply : ℕ) → Done → Done
access_done reply x = done_as (answered reply x.core) x.instructions (x.console ++ option_to_list (console_byte x.core.instruction reply))

access_does : (time : Entry → ℕ) (e : Entry) (c : TimedCore) (now : InProgress) → c.core.instruction ≡ Some now → IsNoFetch now.ending
    → done_by (core_after_access time e c) ≡ access_done e.reply (done_by c)
unfolding core_after_access
access_does time e c now here ends =
    ap (λ (core : CoreState). done_as core c.instructions (c.console ++ option_to_list (console_byte c.core.instruction e.reply))) (answered-forgets e.reply c.core now here ends)

-- ---- a core that does not fetch

fetches_not : (image : MemoryImage) (core : CoreState) → needs_fetch image (without_fetching core) ≡ false
unfolding needs_fetch
fetches_not image core = refl

is_no_fetch : (r : Request) → MayFetch false r → is_fetch r ≡ false
is_no_fetch (request.Load width addr) may = refl
is_no_fetch (request.Store width addr value) may = refl
is_no_fetch (request.Lr width addr) may = refl
is_no_fetch (request.Sc width paired addr value) may = refl
is_no_fetch (request.Amo width op addr value) may = refl
is_no_fetch (request.Fetch addr) may = cc

ends_otherwise : (ending : Ending) (later : List Request) → FetchesAlone false ending later → IsNoFetch ending
ends_otherwise (ToRegister destination) later alone = tt
ends_otherwise (ToConsole count) later alone = tt
ends_otherwise ToExecution later alone = let never : false ≡ true = alone.0 in cc
ends_otherwise ToNothing later alone = tt

-- what it waits for is no fetch
waits_otherwise : (core : CoreState) (now : InProgress) → IsSoundCore (without_fetching core) → core.instruction ≡ Some now → (is_fetch now.next ≡ false) × IsNoFetch now.ending
waits_otherwise core now sound here =
    let served : AreServableIn core.memory false (left_of now) = subst (λ (o : Option InProgress). IfSome o (λ now. AreServableIn core.memory false (left_of now))) here sound.served in
    let alone : FetchesAlone false now.ending now.later = subst (λ (o : Option InProgress). IfSome o (λ now. FetchesAlone false now.ending now.later)) here sound.alone in
    (is_no_fetch now.next served.0.fetched, ends_otherwise now.ending now.later alone)

-- a core stays sound
pub record SoundLaws : Type 0 where
  pub advanced_sound : (image : MemoryImage) (core : CoreState) → IsSoundCore core → IsSoundCore (advanced image core)
  pub answered_sound : (reply : ℕ) (core : CoreState) → IsSoundCore core → IsSoundCore (answered reply core)

-- ---- both machines

pub record AreSame (s t : BoundState MachineWorld) : Type 0 where
  pub done : map done_by s.cores ≡ map done_by t.cores
  pub plain : All (λ c. c.core ≡ without_fetching c.core) t.cores
  pub sound : All (λ c. IsSoundCore (without_fetching c.core)) s.cores
  pub replies : answers_to s.entries ≡ answers_to t.entries
  pub memory : s.world.memory ≡ t.world.memory

-- cores that have done the same
record DidTheSame (c d : TimedCore) : Type 0 where
  same : done_by c ≡ done_by d
  plain : d.core ≡ without_fetching d.core
  sound : IsSoundCore (without_fetching c.core)

cores_set : (cs ds : List TimedCore) (number : ℕ) (c d : TimedCore) → map done_by cs ≡ map done_by ds → done_by c ≡ done_by d
    → map done_by (slice_set cs number c) ≡ map done_by (slice_set ds number d)
cores_set cs ds number c d lists one =
    map-set done_by cs number c ∙ ap (λ (l : List Done). slice_set l number (done_by c)) lists ∙ ap (λ (x : Done). slice_set (map done_by ds) number x) one ∙ sym (map-set done_by ds number d)

abbrev counts : Entry → Bool
counts e = not (is_fetch e.request)

answers_more : (es : List Entry) (e : Entry) → is_fetch e.request ≡ false → answers_to (es ++ e ∷ []) ≡ answers_to es ++ answered_in e ∷ []
answers_more es e ends =
    let last : filter counts (e ∷ []) ≡ e ∷ [] = rw ends refl in
    ap (map answered_in) (filter-append counts es (e ∷ []) ∙ ap (λ (l : List Entry). filter counts es ++ l) last) ∙ map-append answered_in (filter counts es) (e ∷ [])

answers_stay : (es : List Entry) (e : Entry) → is_fetch e.request ≡ true → answers_to (es ++ e ∷ []) ≡ answers_to es
answers_stay es e fetch =
    let last : filter counts (e ∷ []) ≡ [] = rw fetch refl in
    ap (map answered_in) (filter-append counts es (e ∷ []) ∙ ap (λ (l : List Entry). filter counts es ++ l) last ∙ append-nil (filter counts es))

abbrev answer_of : MemoryState → (core : ℕ) → Request → Answered
answer_of m core r = record { core = core; request = r; reply = memory_reply m core r }

served_answer : (w : MachineWorld) (core start : ℕ) (r : Request) → answered_in (serve w core start r).0 ≡ answer_of w.memory core r
unfolding serve
served_answer w core start r = refl

served_request : (w : MachineWorld) (core start : ℕ) (r : Request) → (serve w core start r).0.request ≡ r
unfolding serve
served_request w core start r = refl

served_reply : (w : MachineWorld) (core start : ℕ) (r : Request) → (serve w core start r).0.reply ≡ memory_reply w.memory core r
unfolding serve
served_reply w core start r = refl

served_memory : (w : MachineWorld) (core start : ℕ) (r : Request) → (serve w core start r).1.memory ≡ memory_after w.memory core r
unfolding serve
served_memory w core start r = refl

fetched_memory : (m : MemoryState) (core addr : ℕ) → memory_after m core (request.Fetch addr) ≡ m
fetched_memory m core addr = refl

is_none_of : (o : Option InProgress) → is_none o ≡ true → o ≡ None
is_none_of None h = refl
is_none_of (Some now) h = cc

module _ (laws : SoundLaws) (time time_without : Entry → ℕ) (image : MemoryImage) where
  -- both do the step of a core that is not a fetch, from its beginning on
  module _ (s t : BoundState MachineWorld) (number : ℕ) (both : AreSame s t) where
    set_both : (c d : TimedCore) → DidTheSame c d → AreSame (record s { cores = slice_set s.cores number c }) (record t { cores = slice_set t.cores number d })
    set_both c d did = record {
      done = cores_set s.cores t.cores number c d both.done did.same;
      plain = All-set (λ (c : TimedCore). c.core ≡ without_fetching c.core) t.cores number d did.plain both.plain;
      sound = All-set (λ (c : TimedCore). IsSoundCore (without_fetching c.core)) s.cores number c did.sound both.sound;
      replies = both.replies;
      memory = both.memory;
    }

    answered_both : (c d : TimedCore) (now other : InProgress) → DidTheSame c d → c.core.instruction ≡ Some now → d.core.instruction ≡ Some other → (e f : Entry) → e.reply ≡ f.reply
        → DidTheSame (core_after_access time e c) (core_after_access time_without f d)
    unfolding core_after_access
    answered_both c d now other did here there e f reply =
        let rest = waits_otherwise c.core now did.sound here in
        let same_now : Some now ≡ Some other = sym here ∙ ap (λ (x : Done). x.core.instruction) did.same ∙ there in
        let is_other : now ≡ other = cc in
        let ends : IsNoFetch other.ending = subst (λ (i : InProgress). IsNoFetch i.ending) is_other rest.1 in
        let left : done_by (core_after_access time e c) ≡ access_done e.reply (done_by c) = access_does time e c now here rest.1 in
        let right : done_by (core_after_access time_without f d) ≡ access_done f.reply (done_by d) = access_does time_without f d other there ends in
        record {
          same = left ∙ ap (λ (n : ℕ). access_done n (done_by c)) reply ∙ ap (access_done f.reply) did.same ∙ sym right;
          plain = ap (answered f.reply) did.plain ∙ sym (answered-forgets f.reply d.core other there ends);
          sound = subst IsSoundCore (sym (answered-forgets e.reply c.core now here rest.1)) (laws.answered_sound e.reply (without_fetching c.core) did.sound);
        }

    serves_both : (c d : TimedCore) → DidTheSame c d → (now other : InProgress) → c.core.instruction ≡ Some now → d.core.instruction ≡ Some other
        → AreSame (access_served serve time image 0 s number c (serve s.world number c.clock now.next)) (access_served serve time_without image 0 t number d (serve t.world number d.clock other.next))
    serves_both c d did now other here there =
        let rest = waits_otherwise c.core now did.sound here in
        let same_now : Some now ≡ Some other = sym here ∙ ap (λ (x : Done). x.core.instruction) did.same ∙ there in
        let next : now.next ≡ other.next = cc in
        let e : Entry = (serve s.world number c.clock now.next).0 in
        let f : Entry = (serve t.world number d.clock other.next).0 in
        let reply : e.reply ≡ f.reply =
        served_reply s.world number c.clock now.next ∙ ap (λ (m : MemoryState). memory_reply m number now.next) both.memory
        ∙ ap (λ (r : Request). memory_reply t.world.memory number r) next ∙ sym (served_reply t.world number d.clock other.next) in
        let answer : answered_in e ≡ answered_in f =
        served_answer s.world number c.clock now.next ∙ ap (λ (m : MemoryState). answer_of m number now.next) both.memory
        ∙ ap (answer_of t.world.memory number) next ∙ sym (served_answer t.world number d.clock other.next) in
        let e_no : is_fetch e.request ≡ false = ap is_fetch (served_request s.world number c.clock now.next) ∙ rest.0 in
        let f_no : is_fetch f.request ≡ false = ap is_fetch (served_request t.world number d.clock other.next) ∙ ap is_fetch (sym next) ∙ rest.0 in
        let did_it = answered_both c d now other did here there e f reply in
        record {
          done = cores_set s.cores t.cores number _ _ both.done did_it.same;
          plain = All-set (λ (c : TimedCore). c.core ≡ without_fetching c.core) t.cores number _ did_it.plain both.plain;
          sound = All-set (λ (c : TimedCore). IsSoundCore (without_fetching c.core)) s.cores number _ did_it.sound both.sound;
          replies = answers_more s.entries e e_no ∙ ap (λ (l : List Answered). l ++ answered_in e ∷ []) both.replies
              ∙ ap (λ (a : Answered). answers_to t.entries ++ a ∷ []) answer ∙ sym (answers_more t.entries f f_no);
          memory = served_memory s.world number c.clock now.next ∙ ap (λ (m : MemoryState). memory_after m number now.next) both.memory
              ∙ ap (λ (r : Request). memory_after t.world.memory number r) next ∙ sym (served_memory t.world number d.clock other.next);
        }

    -- by what the core waits for
    step_both : (c d : TimedCore) → DidTheSame c d → (o : Option InProgress) → c.core.instruction ≡ o
        → AreSame (step_at time image s number c) (cond (option_map_or is_fetch (asks c) false) t (step_at time_without image t number d))
    step_both c d did None here =
        let there : d.core.instruction ≡ None = sym (ap (λ (x : Done). x.core.instruction) did.same) ∙ here in
        let one : asks c ≡ None = ap next_request here in
        let other : asks d ≡ None = ap next_request there in
        rw (one, other) (set_both c d did)
    step_both c d did (Some now) here =
        let there : d.core.instruction ≡ Some now = sym (ap (λ (x : Done). x.core.instruction) did.same) ∙ here in
        let rest = waits_otherwise c.core now did.sound here in
        let served = serves_both c d did now now here there in
        let one : asks c ≡ Some now.next = ap next_request here in
        let other : asks d ≡ Some now.next = ap next_request there in
        rw (one, other, rest.0) served

    -- a fetch, which the other machine leaves out
    module _ (c : TimedCore) (at_c : slice_get s.cores number ≡ Some c) (free : is_free c.core ≡ true) where
      abbrev asking : TimedCore
      asking = record c { core = asks_for_instruction c.core }

      fetched_core : (reply : ℕ) → without_fetching (answered reply (asks_for_instruction c.core)) ≡ without_fetching c.core
      unfolding answered ended
      fetched_core reply =
          let none : c.core.instruction ≡ None = is_none_of c.core.instruction (and_parts (is_none c.core.halted) (is_none c.core.instruction) free).1 in
          ap (λ (o : Option InProgress). without_fetching (record c.core { instruction = o })) (sym none)

      fetched_does : (e : Entry) → done_by (core_after_access time e asking) ≡ done_by c
      unfolding core_after_access
      fetched_does e =
          ap (λ (core : CoreState). done_as core c.instructions (c.console ++ [])) (fetched_core e.reply) ∙ ap (done_as (without_fetching c.core) c.instructions) (append-nil c.console)

      fetch_both : AreSame (access_served serve time image 0 s number asking (serve s.world number c.clock (request.Fetch c.core.pc))) t
      fetch_both =
          let e : Entry = (serve s.world number c.clock (request.Fetch c.core.pc)).0 in
          let fetch : is_fetch e.request ≡ true = ap is_fetch (served_request s.world number c.clock (request.Fetch c.core.pc)) in
          let here : get_or s.cores number c ≡ c = get_or_from_slice_get s.cores number c c at_c in
          let one : done_by (core_after_access time e asking) ≡ done_by c = fetched_does e in
          let sound_c : IsSoundCore (without_fetching c.core) =
          subst (λ (x : TimedCore). IsSoundCore (without_fetching x.core)) here
          (All-get_or (λ (x : TimedCore). IsSoundCore (without_fetching x.core)) s.cores number c (slice_get_within s.cores number c at_c) both.sound) in
          record {
            done = map-set_same done_by s.cores number (core_after_access time e asking) c (one ∙ ap done_by (sym here)) ∙ both.done;
            plain = both.plain;
            sound = All-set (λ (x : TimedCore). IsSoundCore (without_fetching x.core)) s.cores number (core_after_access time e asking)
                (subst (λ (x : Done). IsSoundCore x.core) (sym one) sound_c) both.sound;
            replies = answers_stay s.entries e fetch ∙ both.replies;
            memory = served_memory s.world number c.clock (request.Fetch c.core.pc) ∙ fetched_memory s.world.memory number c.core.pc ∙ both.memory;
          }

    -- a core that does not fetch executes its instruction
    executes_both : (c d : TimedCore) → DidTheSame c d → is_free c.core ≡ true → DidTheSame (after_execution image c) (after_execution image d)
    executes_both c d did free =
        let advances : advanced image (without_fetching c.core) ≡ executed image (without_fetching c.core) =
        rw (free, fetches_not image c.core) refl in
        let unfetched_d : unfetched d.core ≡ without_fetching d.core = ap unfetched did.plain in
        record {
          same = execution_does image c ∙ ap (execution_done image) did.same ∙ sym (execution_does image d);
          plain = ap (executed image) unfetched_d ∙ sym (executed-forgets image (unfetched d.core));
          sound = subst IsSoundCore (sym (executed-forgets image (unfetched c.core))) (subst IsSoundCore advances (laws.advanced_sound image (without_fetching c.core) did.sound));
        }

    abbrev Steps : TimedCore → TimedCore → Type 0
    Steps c d = AreSame (step_at time image s number (begun_step time image c))
        (cond (option_map_or is_fetch (asks (begun_step time image c)) false) t (step_at time_without image t number (begun_step time_without image d)))

    executing : (c : TimedCore) → is_free c.core ≡ true → needs_fetch image c.core ≡ false → begun_step time image c ≡ after_execution image c
    unfolding after_instruction
    executing c free needs = rw (free, needs) refl

    fetching : (c : TimedCore) → is_free c.core ≡ true → needs_fetch image c.core ≡ true → begun_step time image c ≡ record c { core = asks_for_instruction c.core }
    unfolding after_instruction
    fetching c free needs = rw (free, needs) refl

    standing : (c : TimedCore) → is_free c.core ≡ false → begun_step time image c ≡ c
    standing c waits = rw waits refl

    begin_both : (c d : TimedCore) → slice_get s.cores number ≡ Some c → DidTheSame c d → Steps c d
    begin_both c d at_c did =
        let is_same : without_fetching c.core ≡ without_fetching d.core = ap (λ (x : Done). x.core) did.same in
        elim (cases_Bool (is_free c.core)) as (λ _. Steps c d) [
          | inl free ↦
              elim (cases_Bool (needs_fetch image c.core)) as (λ _. Steps c d) [
                | inl needs ↦ rw (fetching c free needs) (fetch_both c at_c free)
                | inr not_needs ↦
                    let free_d : is_free d.core ≡ true = sym (ap is_free is_same) ∙ free in
                    let plain_d : needs_fetch image d.core ≡ false = ap (needs_fetch image) did.plain ∙ fetches_not image d.core in
                    rw (executing c free not_needs, executing d free_d plain_d)
                    (step_both (after_execution image c) (after_execution image d) (executes_both c d did free) (after_execution image c).core.instruction refl)
              ]
          | inr waits ↦
              let waits_d : is_free d.core ≡ false = sym (ap is_free is_same) ∙ waits in
              rw (standing c waits, standing d waits_d) (step_both c d did c.core.instruction refl)
        ]

    -- a step of the core that both have at this place, or of none
    found_both : (one other : Option TimedCore) → slice_get s.cores number ≡ one → slice_get t.cores number ≡ other → option_map done_by one ≡ option_map done_by other
        → AreSame (option_map_or (λ c. step_at time image s number (begun_step time image c)) one s)
        (cond (option_map_or (λ c. option_map_or is_fetch (asks (begun_step time image c)) false) one false) t
        (option_map_or (λ c. step_at time_without image t number (begun_step time_without image c)) other t))
    found_both None None here there is = both
    found_both None (Some d) here there is = cc
    found_both (Some c) None here there is = cc
    found_both (Some c) (Some d) here there is =
        let at_s : get_or s.cores number c ≡ c = get_or_from_slice_get s.cores number c c here in
        let at_t : get_or t.cores number d ≡ d = get_or_from_slice_get t.cores number d d there in
        begin_both c d here (record {
          same = cc;
          plain = subst (λ (x : TimedCore). x.core ≡ without_fetching x.core) at_t
              (All-get_or (λ (x : TimedCore). x.core ≡ without_fetching x.core) t.cores number d (slice_get_within t.cores number d there) both.plain);
          sound = subst (λ (x : TimedCore). IsSoundCore (without_fetching x.core)) at_s
              (All-get_or (λ (x : TimedCore). IsSoundCore (without_fetching x.core)) s.cores number c (slice_get_within s.cores number c here) both.sound);
        })

    pub one_step : AreSame (after_step time image s number) (cond (is_fetch_step time image s number) t (after_step time_without image t number))
    one_step =
        found_both (slice_get s.cores number) (slice_get t.cores number) refl refl
        (sym (slice_get-map done_by s.cores number) ∙ ap (λ (l : List Done). slice_get l number) both.done ∙ slice_get-map done_by t.cores number)

  -- steps, of which the other machine leaves out the fetches
  pub all_steps : (numbers : List ℕ) (s t : BoundState MachineWorld) → AreSame s t → AreSame (after_steps time image s numbers) (after_steps time_without image t (other_steps time image s numbers))
  all_steps [] s t both = both
  all_steps (number ∷ numbers) s t both =
      let next : AreSame (after_step time image s number) (cond (is_fetch_step time image s number) t (after_step time_without image t number)) = one_step s t number both in
      elim (cases_Bool (is_fetch_step time image s number)) as (λ _. AreSame (after_steps time image (after_step time image s number) numbers)
      (after_steps time_without image t (cond (is_fetch_step time image s number) (other_steps time image (after_step time image s number) numbers) (number ∷ other_steps time image (after_step time image s number) numbers)))) [
        | inl fetch ↦
            let stays : AreSame (after_step time image s number) t = subst (λ (b : Bool). AreSame (after_step time image s number) (cond b t (after_step time_without image t number))) fetch next in
            rw fetch (all_steps numbers (after_step time image s number) t stays)
        | inr other ↦
            let moves : AreSame (after_step time image s number) (after_step time_without image t number) =
            subst (λ (b : Bool). AreSame (after_step time image s number) (cond b t (after_step time_without image t number))) other next in
            rw other (all_steps numbers (after_step time image s number) (after_step time_without image t number) moves)
      ]

-- ---- from the start on

-- a core at the start, as far as it does not fetch
first_sound : (m : Machine) (image : MemoryImage) (number : ℕ) → IsMachine m → ((core : CoreState) → IsReached core → IsSoundCore core) → IsSoundCore (without_fetching (first_core m image number).core)
unfolding initial_core
first_sound m image number is sound =
    sound (without_fetching (first_core m image number).core) (starts number m.cores image.entry _ _ false (omega (arith, is.memory.base, is.memory.size.1)) (λ fetching. let never : false ≡ true = fetching in cc))

module _ (m : Machine) (image : MemoryImage) (first_sound : (number : ℕ) → IsSoundCore (without_fetching (first_core m image number).core)) where
  first_done : (numbers : List ℕ) → map done_by (map (first_core m image) numbers) ≡ map done_by (map (first_core (without_l1i m) image) numbers)
  unfolding initial_core
  first_done [] = refl
  first_done (number ∷ numbers) = ap (λ (l : List Done). done_by (first_core m image number) ∷ l) (first_done numbers)

  first_plain : (numbers : List ℕ) → All (λ c. c.core ≡ without_fetching c.core) (map (first_core (without_l1i m) image) numbers)
  unfolding initial_core
  first_plain [] = All-nil _
  first_plain (number ∷ numbers) = All-cons (λ (c : TimedCore). c.core ≡ without_fetching c.core) _ _ refl (first_plain numbers)

  first_all_sound : (numbers : List ℕ) → All (λ c. IsSoundCore (without_fetching c.core)) (map (first_core m image) numbers)
  first_all_sound [] = All-nil _
  first_all_sound (number ∷ numbers) = All-cons (λ (c : TimedCore). IsSoundCore (without_fetching c.core)) _ _ (first_sound number) (first_all_sound numbers)

  pub same_at_start : AreSame (at_start m image) (at_start (without_l1i m) image)
  same_at_start = record {
    done = first_done (range_with_len 0 m.cores);
    plain = first_plain (range_with_len 0 m.cores);
    sound = first_all_sound (range_with_len 0 m.cores);
    replies = refl;
    memory = refl;
  }

pub done_the_same : (laws : SoundLaws) (m : Machine) (image : MemoryImage) (time time_without : Entry → ℕ) (numbers : List ℕ)
    → IsMachine m → ((core : CoreState) → IsReached core → IsSoundCore core)
    → HaveDoneTheSame (after_steps time image (at_start m image) numbers) (after_steps time_without image (at_start (without_l1i m) image) (other_steps time image (at_start m image) numbers))
done_the_same laws m image time time_without numbers is reached =
    let both = all_steps laws time time_without image numbers (at_start m image) (at_start (without_l1i m) image) (same_at_start m image (λ number. first_sound m image number is reached)) in
    record { cores = both.done; replies = both.replies; memory = both.memory }
