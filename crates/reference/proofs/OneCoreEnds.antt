-- Whatever one core does, turns of it end an interval.
use Rattle.std.proofs.Common.{◌≡◌, ℕ, zero, suc, ◌+◌, ◌-◌, ◌≤◌, Bool, true, false, ◌&&◌, List, [], ◌∷◌, ◌++◌, Option, Some, None, Ok, inl, inr, refl, sym, ◌∙◌, ap, arith, subst}
use Rattle.std.specs.Prelude.{is_none}
use Rattle.std.proofs.lemmas.Bool.{cases_lt, eq-eqb}
use Rattle.zs_num.specs.Request.{line_at}
use Rattle.zs_num.specs.declared.entry.Entry.{Entry}
use Rattle.zs_num.specs.declared.request.Request.{Request}
use Rattle.zs_num.specs.declared.request.Request.TheVariants.{Fetch}
use Rattle.elf_load.specs.MemoryImage.{MemoryImage}
use Rattle.rv_core.specs.declared.progress.Reply.{Reply}
use Rattle.rv_core.specs.CoreState.{CoreState, Ending, InProgress, ToConsole, ToExecution, ToNothing, ToRegister}
use Rattle.rv_core.specs.Effect.{ended, goes_to}
use Rattle.rv_core.specs.Step.{after_reply, answered, asks_for_instruction, is_free, is_latest, needs_fetch, unfetched}
use Rattle.rv_core.proofs.Executes.{AwaitsNoFetch, IsOfNoFetch, executed-executes}
use Rattle.reference.specs.MachineWorld.{MachineWorld, serve}
use Rattle.reference.specs.ReferenceMachine.{BoundState, access_served, bound_from}
use Rattle.reference.specs.TimedCore.{TimedCore, after_execution, after_instruction, asks, core_after_access, goes_on_alone, next_request, ran_to}
use Rattle.reference.proofs.Instructions.{asks_or_executes, executed_later, executed_unfetched, late_stops, ran_late, ran_later, ran_stays}

-- a bound phase of one core
abbrev pub one_core : TimedCore → MachineWorld → List Entry → BoundState MachineWorld
one_core c w entries = record { cores = c ∷ []; world = w; entries = entries }

module _ (time : Entry → ℕ) (image : MemoryImage) (end : ℕ) where
  -- after the turn of a core that asks for this
  abbrev after_turn : TimedCore → MachineWorld → List Entry → Request → BoundState MachineWorld
  after_turn c w es request = let ran = ran_to image end c in
      access_served serve time image end (one_core c w es) 0 ran (serve w 0 ran.clock request)

  pub turned : (place : ℕ) (numbers : List ℕ) (c : TimedCore) (w : MachineWorld) (es : List Entry) (request : Request) → asks (ran_to image end c) ≡ Some request
      → bound_from serve time image end place (0 ∷ numbers) (one_core c w es) ≡ bound_from serve time image end (place + 1) numbers (after_turn c w es request)
  turned place numbers c w es request asked = rw asked refl

  pub ends_here : (place : ℕ) (c : TimedCore) (w : MachineWorld) (es : List Entry) → asks (ran_to image end c) ≡ None
      → bound_from serve time image end place [] (one_core c w es) ≡ Ok (one_core (ran_to image end c) w es)
  ends_here place c w es asked = rw asked refl

-- ---- an instruction in progress

-- Where the last reply leaves a core of which this was said of a fetch before: an instruction that was fetched need not
-- be fetched again, and after any other reply the same is said.
abbrev AfterEnding : Ending → (fetched : Bool) → CoreState → Type 0
AfterEnding (ToRegister destination) fetched core = core.is_fetched ≡ fetched
AfterEnding (ToConsole count) fetched core = core.is_fetched ≡ fetched
AfterEnding ToExecution fetched core = (core.is_fetched ≡ true) × (core.fetched_line ≡ Some (line_at core.pc))
AfterEnding ToNothing fetched core = core.is_fetched ≡ fetched

-- the core waits for a reply, with these accesses to come after it
record IsAt (later : List Request) (ending : Ending) (fetched : Bool) (core : CoreState) : Type 0 where
  next : Request
  replies : List Reply
  waits : core.instruction ≡ Some (record { next = next; later = later; replies = replies; ending = ending })
  says : core.is_fetched ≡ fetched

ended_idle : (ending : Ending) (replies : List Reply) (core : CoreState) → (ended ending replies core).instruction ≡ core.instruction
unfolding ended goes_to
ended_idle (ToRegister destination) replies core = refl
ended_idle (ToConsole count) replies core = refl
ended_idle ToExecution replies core = refl
ended_idle ToNothing replies core = refl

ended_after : (ending : Ending) (replies : List Reply) (fetched : Bool) (core : CoreState) → core.is_fetched ≡ fetched → AfterEnding ending fetched (ended ending replies core)
unfolding ended goes_to
ended_after (ToRegister destination) replies fetched core says = says
ended_after (ToConsole count) replies fetched core says = says
ended_after ToExecution replies fetched core says = (refl, refl)
ended_after ToNothing replies fetched core says = says

answered_is : (reply : ℕ) (core : CoreState) (now : InProgress) → core.instruction ≡ Some now → answered reply core ≡ after_reply (Some now) reply core
unfolding answered
answered_is reply core now waits = ap (λ (instruction : Option InProgress). after_reply instruction reply core) waits

-- after the last reply no instruction is in progress
last_idle : (reply : ℕ) (ending : Ending) (fetched : Bool) (core : CoreState) → IsAt [] ending fetched core → (answered reply core).instruction ≡ None
last_idle reply ending fetched core at =
    ap (λ (x : CoreState). x.instruction) (answered_is reply core _ at.waits) ∙ ended_idle ending _ _

last_after : (reply : ℕ) (ending : Ending) (fetched : Bool) (core : CoreState) → IsAt [] ending fetched core → AfterEnding ending fetched (answered reply core)
last_after reply ending fetched core at =
    subst (AfterEnding ending fetched) (sym (answered_is reply core _ at.waits)) (ended_after ending _ fetched _ at.says)

-- after another one the next access is waited for
next_at : (reply : ℕ) (request : Request) (later : List Request) (ending : Ending) (fetched : Bool) (core : CoreState) → IsAt (request ∷ later) ending fetched core
    → IsAt later ending fetched (answered reply core)
next_at reply request later ending fetched core at =
    let is = answered_is reply core _ at.waits in
    record {
      next = request;
      replies = _;
      waits = ap (λ (x : CoreState). x.instruction) is;
      says = ap (λ (x : CoreState). x.is_fetched) is ∙ at.says;
    }

none_fetched : (ending : Ending) (core : CoreState) → IsOfNoFetch ending → AfterEnding ending false core → core.is_fetched ≡ false
none_fetched (ToRegister destination) core none after = after
none_fetched (ToConsole count) core none after = after
none_fetched ToExecution core none after = absurd none
none_fetched ToNothing core none after = after

-- ---- a core by itself

and_false : (test : Bool) → (test && false) ≡ false
and_false true = refl
and_false false = refl

-- a core that waits for a reply does nothing by itself
held : (end : ℕ) (c : TimedCore) (now : InProgress) → c.core.instruction ≡ Some now → goes_on_alone end c ≡ false
held end c now waits = let free : is_free c.core ≡ false = rw waits (and_false (is_none c.core.halted)) in rw free refl

idle_asks : (c : TimedCore) (request : Request) → c.core.instruction ≡ None → asks c ≡ Some request → ⊥
idle_asks c request idle asked = let none : asks c ≡ None = ap next_request idle in cc

-- an instruction on the line of the latest fetch is executed
needs_none : (image : MemoryImage) (core : CoreState) → core.fetched_line ≡ Some (line_at core.pc) → needs_fetch image core ≡ false
unfolding needs_fetch
needs_none image core line =
    let latest : is_latest core.fetched_line (line_at core.pc) ≡ true = rw line (eq-eqb _ _ refl) in
    rw (latest, and_false core.fetching) refl

executes_fetched : (image : MemoryImage) (c : TimedCore) → c.core.fetched_line ≡ Some (line_at c.core.pc) → after_instruction image c ≡ after_execution image c
unfolding after_instruction
executes_fetched image c line = let needs : needs_fetch image c.core ≡ false = needs_none image c.core line in rw needs refl

access_core : (time : Entry → ℕ) (e : Entry) (c : TimedCore) → (core_after_access time e c).core ≡ answered e.reply c.core
unfolding core_after_access
access_core time e c = refl

access_clock : (time : Entry → ℕ) (e : Entry) (c : TimedCore) → (core_after_access time e c).clock ≡ c.clock + time e
unfolding core_after_access
access_clock time e c = refl

-- turns that end an interval, and where they lead
pub record Turns (time : Entry → ℕ) (image : MemoryImage) (end place : ℕ) (c : TimedCore) (w : MachineWorld) (es : List Entry) : Type 0 where
  pub turns : List ℕ
  pub core : TimedCore
  pub world : MachineWorld
  pub entries : List Entry
  pub legal : bound_from serve time image end place turns (one_core c w es) ≡ Ok (one_core core world entries)

-- ---- turns to the end

module _ (time : Entry → ℕ) (some : (e : Entry) → 1 ≤ time e) (image : MemoryImage) (end : ℕ) where
  -- wherever the world stands, turns of this core end the interval
  abbrev pub Ends : TimedCore → Type 0
  Ends c = (place : ℕ) (w : MachineWorld) (es : List Entry) → Turns time image end place c w es

  -- they do after the access that it waits for, if it waits for one
  abbrev EndsAfterAccess : TimedCore → Type 0
  EndsAfterAccess c = (e : Entry) (request : Request) → asks c ≡ Some request → Ends (core_after_access time e c)

  by_asked : (c : TimedCore) → EndsAfterAccess (ran_to image end c) → (place : ℕ) (w : MachineWorld) (es : List Entry) (asked : Option Request) → asks (ran_to image end c) ≡ asked
      → Turns time image end place c w es
  by_asked c further place w es None is = record {
    turns = [];
    core = ran_to image end c;
    world = w;
    entries = es;
    legal = ends_here time image end place c w es is;
  }
  by_asked c further place w es (Some request) is =
      let answer = serve w 0 (ran_to image end c).clock request in
      let rest = further answer.0 request is (place + 1) answer.1 (es ++ answer.0 ∷ []) in
      record {
        turns = 0 ∷ rest.turns;
        core = rest.core;
        world = rest.world;
        entries = rest.entries;
        legal = turned time image end place rest.turns c w es request is ∙ rest.legal;
      }

  by_access : (c : TimedCore) → EndsAfterAccess (ran_to image end c) → Ends c
  by_access c further place w es = by_asked c further place w es (asks (ran_to image end c)) refl

  -- a core that does nothing by itself
  waiting : (c : TimedCore) → goes_on_alone end c ≡ false → EndsAfterAccess c → Ends c
  waiting c stops further = by_access c (subst EndsAfterAccess (sym (ran_stays image end c stops)) further)

  past : (e : Entry) (c : TimedCore) → end ≤ c.clock → end ≤ (core_after_access time e c).clock
  past e c late = omega (arith, late, access_clock time e c)

  -- the accesses that are left of an instruction, and then what ends the interval from a core without one on
  through : (later : List Request) (ending : Ending) (fetched : Bool)
      → ((d : TimedCore) → end ≤ d.clock → d.core.instruction ≡ None → AfterEnding ending fetched d.core → Ends d)
      → (c : TimedCore) → end ≤ c.clock → IsAt later ending fetched c.core → EndsAfterAccess c
  through [] ending fetched rest c late at e request asked =
      let is = access_core time e c in
      rest (core_after_access time e c) (past e c late) (ap (λ (x : CoreState). x.instruction) is ∙ last_idle e.reply ending fetched c.core at)
      (subst (AfterEnding ending fetched) (sym is) (last_after e.reply ending fetched c.core at))
  through (next ∷ later) ending fetched rest c late at e request asked =
      let d = core_after_access time e c in
      let there : IsAt later ending fetched d.core = subst (IsAt later ending fetched) (sym (access_core time e c)) (next_at e.reply next later ending fetched c.core at) in
      waiting d (held end d _ there.waits) (through later ending fetched rest d (past e c late) there)

  -- a core at the end or past it, of which nothing is in progress
  over : (c : TimedCore) → end ≤ c.clock → c.core.instruction ≡ None → c.core.is_fetched ≡ false → Ends c
  over c late idle none = waiting c (late_stops end c none late) (λ e request asked. absurd (idle_asks c request idle asked))

  -- one that has executed an instruction
  executed_by : (c : TimedCore) (instruction : Option InProgress) → c.core.instruction ≡ instruction → end ≤ c.clock → c.core.is_fetched ≡ false → AwaitsNoFetch instruction → EndsAfterAccess c
  executed_by c None is late none awaits = λ e request asked. absurd (idle_asks c request is asked)
  executed_by c (Some now) is late none awaits =
      through now.later now.ending false (λ d later idle after. over d later idle (none_fetched now.ending d.core awaits.0 after)) c late
      (record { next = now.next; replies = now.replies; waits = is; says = none })

  executing : (c : TimedCore) → end ≤ c.clock → c.core.instruction ≡ None → EndsAfterAccess (after_execution image c)
  executing c late idle =
      let next : TimedCore = after_execution image c in
      executed_by next next.core.instruction refl (omega (arith, late, executed_later image c)) (executed_unfetched image c) ((executed-executes image (unfetched c.core)).awaits idle)

  -- one that has fetched an instruction
  fetched_ends : (c : TimedCore) → end ≤ c.clock → c.core.instruction ≡ None → c.core.fetched_line ≡ Some (line_at c.core.pc) → Ends c
  fetched_ends c late idle line = by_access c (elim (ran_late image end c late) as (λ _. EndsAfterAccess (ran_to image end c)) [
    | inl same ↦ subst EndsAfterAccess (sym same) (λ e request asked. absurd (idle_asks c request idle asked))
    | inr one ↦ subst EndsAfterAccess (sym (one.0 ∙ executes_fetched image c line)) (executing c late idle)
  ])

  -- any without an instruction in progress
  idle_ends : (c : TimedCore) → end ≤ c.clock → c.core.instruction ≡ None → Ends c
  idle_ends c late idle = by_access c (elim (ran_late image end c late) as (λ _. EndsAfterAccess (ran_to image end c)) [
    | inl same ↦ subst EndsAfterAccess (sym same) (λ e request asked. absurd (idle_asks c request idle asked))
    | inr one ↦
        (elim (asks_or_executes image c) as (λ _. EndsAfterAccess (ran_to image end c)) [
          | inl asks ↦
              let asking : TimedCore = record c { core = asks_for_instruction c.core } in
              subst EndsAfterAccess (sym (one.0 ∙ asks))
              (through [] ToExecution c.core.is_fetched (λ d later none after. fetched_ends d later none after.1) asking late
              (record { next = Fetch c.core.pc; replies = []; waits = refl; says = refl }))
          | inr is ↦ subst EndsAfterAccess (sym (one.0 ∙ is)) (executing c late idle)
        ])
  ])

  past_by : (c : TimedCore) (instruction : Option InProgress) → c.core.instruction ≡ instruction → end ≤ c.clock → Ends c
  past_by c None is late = idle_ends c late is
  past_by c (Some now) is late =
      waiting c (held end c now is) (through now.later now.ending c.core.is_fetched (λ d later idle after. idle_ends d later idle) c late
      (record { next = now.next; replies = now.replies; waits = is; says = refl }))

  -- there are turns that end an interval: each access brings the core nearer to its end
  pub turns_there : (n : ℕ) (c : TimedCore) → end - c.clock ≤ n → Ends c
  turns_there zero c near = past_by c c.core.instruction refl (omega (arith, near))
  turns_there (suc n) c near =
      elim (cases_lt c.clock end) as (λ _. Ends c) [
        | inl early ↦ by_access c (λ e request asked.
            let ran = ran_to image end c in
            turns_there n (core_after_access time e ran) (omega (arith, near, early, ran_later image end c, access_clock time e ran, some e)))
        | inr late ↦ past_by c c.core.instruction refl late
      ]
