-- How many accesses a core has left, and how late it can get.
use Rattle.std.proofs.Common.{◌≡◌, inl, inr, ℕ, ◌+◌, ◌-◌, ◌^◌, ◌<◌, ◌≤◌, max, nat_lt, Bool, true, false, List, [], ◌∷◌, length, Option, Some, None, refl, ◌∙◌, ap, arith, rules, lit≤}
use Rattle.std.specs.Prelude.{IfSome, is_none}
use Rattle.std.proofs.lemmas.Bool.{and_parts, cases_lt}
use Rattle.zs_num.specs.declared.request.Request.{Request}
use Rattle.elf_load.specs.MemoryImage.{MemoryImage}
use Rattle.rv_core.specs.declared.progress.Reply.{Reply}
use Rattle.rv_core.specs.CoreState.{CoreState, Ending, ToRegister, ToConsole, ToExecution, ToNothing, InProgress}
use Rattle.rv_core.specs.Effect.{ended, goes_through, goes_to}
use Rattle.rv_core.specs.Sound.{FetchesAlone, IsSoundCore}
use Rattle.rv_core.specs.Step.{after_reply, answered, is_free, unfetched}
use Rattle.rv_core.proofs.Executes.{AwaitsNoFetch, IsOfNoFetch, executed-executes}
use Rattle.reference.specs.TimedCore.{TimedCore, after_execution, ran_to}
use Rattle.reference.specs.Pacing.{IsSoon}
use Rattle.reference.specs.IntervalBounds.{latest_clock, to_execute, left_behind, left_behind_fetch, left_of_instruction, most_accesses, most_left}
use Rattle.reference.proofs.Instructions.{asks_or_executes, executed_unfetched, ran_late, ran_later, ran_within}

-- ---- of an instruction

-- what is left of a core that has not fetched
pub unfetched_left : (core : CoreState) → core.is_fetched ≡ false → most_left core ≡ left_of_instruction core.instruction + left_behind_fetch core.instruction
unfetched_left core e = rw e refl

pub fetched_left : (core : CoreState) → core.is_fetched ≡ true → most_left core ≡ 256
fetched_left core e = rw e refl

-- an instruction has at most 256 accesses beside its fetch
behind_small : (fetching : Bool) (ending : Ending) (later : List Request) → FetchesAlone fetching ending later → length later < 256 → length later + left_behind ending ≤ 256
behind_small fetching (ToRegister destination) later alone few = omega (arith, few)
behind_small fetching (ToConsole count) later alone few = omega (arith, few)
behind_small fetching ToExecution later alone few = let none : length later ≡ 0 = ap length alone.1 in omega (arith, none)
behind_small fetching ToNothing later alone few = omega (arith, few)

left_small : (fetching : Bool) (instruction : Option InProgress) → IfSome instruction (λ now. length now.later < 256) → IfSome instruction (λ now. FetchesAlone fetching now.ending now.later)
    → left_of_instruction instruction + left_behind_fetch instruction ≤ 257
left_small fetching None few alone = omega arith
left_small fetching (Some now) few alone = omega (arith, behind_small fetching now.ending now.later alone few)

left_by : (core : CoreState) (fetched : Bool) → core.is_fetched ≡ fetched → IsSoundCore core → most_left core ≤ 257
left_by core true e sound = omega (arith, fetched_left core e)
left_by core false e sound = omega (arith, unfetched_left core e, left_small core.fetching core.instruction sound.few sound.alone)

pub left_few : (core : CoreState) → IsSoundCore core → most_left core ≤ 257
left_few core sound = left_by core core.is_fetched refl sound

-- of one that is executed nothing is behind a fetch
no_fetch_behind : (ending : Ending) → IsOfNoFetch ending → left_behind ending ≡ 0
no_fetch_behind (ToRegister destination) none = refl
no_fetch_behind (ToConsole count) none = refl
no_fetch_behind ToExecution none = absurd none
no_fetch_behind ToNothing none = refl

executing_small : (instruction : Option InProgress) → AwaitsNoFetch instruction
    → left_of_instruction instruction + left_behind_fetch instruction ≤ 256
executing_small None none = omega arith
executing_small (Some now) none = omega (arith, none.1, no_fetch_behind now.ending none.0)

left_ended : (ending : Ending) (replies : List Reply) (core : CoreState) → core.instruction ≡ None → core.is_fetched ≡ false → most_left (ended ending replies core) ≤ left_behind ending
unfolding ended goes_to
left_ended (ToRegister destination) replies core idle e = rw (idle, e) (lit≤ tt)
left_ended (ToConsole count) replies core idle e = rw (idle, e) (lit≤ tt)
left_ended ToExecution replies core idle e = lit≤ tt
left_ended ToNothing replies core idle e = rw (idle, e) (lit≤ tt)

pub left_through : (requests : List Request) (replies : List Reply) (ending : Ending) (core : CoreState) → core.instruction ≡ None → core.is_fetched ≡ false
    → most_left (goes_through requests replies ending core) ≤ length requests + left_behind ending
left_through [] replies ending core idle e = omega (arith, left_ended ending replies core idle e)
left_through (request ∷ requests) replies ending core idle e = rw e (omega arith)

left_replied : (instruction : Option InProgress) (reply : ℕ) (core : CoreState) → core.instruction ≡ instruction → core.is_fetched ≡ false → 1 ≤ left_of_instruction instruction
    → most_left (after_reply instruction reply core) + 1 ≤ left_of_instruction instruction + left_behind_fetch instruction
left_replied None reply core is e some = absurd (omega (arith, some))
left_replied (Some now) reply core is e some =
    let left : most_left (after_reply (Some now) reply core) ≤ length now.later + left_behind now.ending = left_through now.later _ now.ending _ refl e in
    omega (arith, left)

-- an access is one of those that were left
pub left_answered : (reply : ℕ) (core : CoreState) → core.is_fetched ≡ false → 1 ≤ left_of_instruction core.instruction → most_left (answered reply core) + 1 ≤ most_left core
unfolding answered
left_answered reply core e some = omega (arith, left_replied core.instruction reply core refl e some, unfetched_left core e)

-- a core that waits for a reply has fetched no instruction that is to be executed
waiting_by : (core : CoreState) (fetched : Bool) → core.is_fetched ≡ fetched → IsSoundCore core → (core.instruction ≡ None → ⊥) → core.is_fetched ≡ false
waiting_by core false e sound waits = e
waiting_by core true e sound waits = absurd (waits (sound.fetched e).1)

pub waiting_unfetched : (core : CoreState) → IsSoundCore core → (core.instruction ≡ None → ⊥) → core.is_fetched ≡ false
waiting_unfetched core sound waits = waiting_by core core.is_fetched refl sound waits

-- ---- of an interval

pub most_before : (end : ℕ) (c : TimedCore) → c.clock < end → most_accesses end c ≡ end - c.clock + 256
unfolding most_accesses
most_before end c early = let before : nat_lt c.clock end ≡ true = search rules in rw before refl

pub most_past : (end : ℕ) (c : TimedCore) → end ≤ c.clock → most_accesses end c ≡ most_left c.core
unfolding most_accesses
most_past end c late = let past : nat_lt c.clock end ≡ false = search rules in rw past refl

pub most_few : (end : ℕ) (c : TimedCore) → (end ≤ c.clock → most_left c.core ≤ 257) → most_accesses end c ≤ end - c.clock + 257
most_few end c few =
    elim (cases_lt c.clock end) [
      | inl early ↦ omega (arith, most_before end c early)
      | inr late ↦ omega (arith, most_past end c late, few late)
    ]

-- what a core's local instructions do to its clock and to the accesses that are left
pub record RunsLocally (end : ℕ) (before ran : TimedCore) : Type 0 where
  pub begun : before.clock ≤ ran.clock
  pub within : ran.clock ≤ max before.clock end + 192
  -- past the end an instruction is executed only if it was fetched
  pub late : end ≤ before.clock → most_left ran.core ≤ most_left before.core
  pub late_clock : end ≤ before.clock → ran.clock ≤ before.clock + most_left before.core
  pub soon : end ≤ before.clock → ran.clock ≤ before.clock + 192

pub idle_by : (instruction : Option InProgress) → is_none instruction ≡ true → instruction ≡ None
idle_by None e = refl
idle_by (Some now) e = cc

pub executed_left : (image : MemoryImage) (c : TimedCore) → is_free c.core ≡ true → most_left (after_execution image c).core ≤ 256
executed_left image c free =
    let next : CoreState = (after_execution image c).core in
    let idle : c.core.instruction ≡ None = idle_by c.core.instruction (and_parts (is_none c.core.halted) (is_none c.core.instruction) free).1 in
    let awaits : AwaitsNoFetch next.instruction = (executed-executes image (unfetched c.core)).awaits idle in
    omega (arith, unfetched_left next (executed_unfetched image c), executing_small next.instruction awaits)

-- past the end a core that fetched an instruction has as many accesses left as any
late_left : (image : MemoryImage) (end : ℕ) (c : TimedCore) → IsSoon c → end ≤ c.clock
    → (most_left (ran_to image end c).core ≤ most_left c.core) × ((ran_to image end c).clock ≤ c.clock + most_left c.core) × ((ran_to image end c).clock ≤ c.clock + 192)
late_left image end c paced late =
    let ran : TimedCore = ran_to image end c in
    elim (ran_late image end c late) [
      | inl same ↦
          let left : most_left ran.core ≡ most_left c.core = ap (λ (x : TimedCore). most_left x.core) same in
          let clock : ran.clock ≡ c.clock = ap (λ (x : TimedCore). x.clock) same in
          (omega (arith, left), omega (arith, clock), omega (arith, clock))
      | inr one ↦
          let full : most_left c.core ≡ 256 = fetched_left c.core one.2 in
          let soon : ran.clock ≤ c.clock + 192 = omega (arith, (ran_within image end c paced).within, late) in
          (elim (asks_or_executes image c) [
            | inl asks ↦
                let still : ran.core.is_fetched ≡ true = ap (λ (x : TimedCore). x.core.is_fetched) (one.0 ∙ asks) ∙ one.2 in
                (omega (arith, full, fetched_left ran.core still), omega (arith, full, soon), soon)
            | inr is ↦
                let here : ran ≡ after_execution image c = one.0 ∙ is in
                let left : most_left ran.core ≡ most_left (after_execution image c).core = ap (λ (x : TimedCore). most_left x.core) here in
                (omega (arith, full, left, executed_left image c one.1), omega (arith, full, soon), soon)
          ])
    ]

pub runs_locally : (image : MemoryImage) (end : ℕ) (c : TimedCore) → IsSoon c → RunsLocally end c (ran_to image end c)
runs_locally image end c soon = record {
  begun = ran_later image end c;
  within = (ran_within image end c soon).within;
  late = λ late. (late_left image end c soon late).0;
  late_clock = λ late. (late_left image end c soon late).1;
  soon = λ late. (late_left image end c soon late).2;
}

-- what a turn that takes an access does to the clock and to the accesses that are left
pub record TakesAccess (end : ℕ) (before ran after : TimedCore) : Type 0 where
  pub runs : RunsLocally end before ran
  pub few : most_left ran.core ≤ 257
  pub left : most_left after.core + 1 ≤ most_left ran.core
  pub later : ran.clock < after.clock
  pub soon : after.clock ≤ ran.clock + 2 ^ 20

pub fewer : (end : ℕ) (before ran after : TimedCore) → TakesAccess end before ran after → most_accesses end after < most_accesses end before
fewer end before ran after t =
    elim (cases_lt before.clock end) [
      | inl early ↦
          (elim (cases_lt after.clock end) [
            | inl still ↦ omega (arith, most_before end before early, most_before end after still, t.runs.begun, t.later)
            | inr past ↦ omega (arith, most_before end before early, most_past end after past, t.few, t.left, early)
          ])
      | inr late ↦
          let past : end ≤ after.clock = omega (arith, late, t.runs.begun, t.later) in
          omega (arith, most_past end before late, most_past end after past, t.runs.late late, t.left)
    ]

pub to_execute_small : (fetched : Bool) → to_execute fetched ≤ 192
to_execute_small true = lit≤ tt
to_execute_small false = lit≤ tt

-- a core without an access that is left has no instruction to execute behind its fetch
none_by : (core : CoreState) (fetched : Bool) → core.is_fetched ≡ fetched → most_left core ≡ 0 → to_execute core.is_fetched ≡ 0
none_by core true e idle = absurd (omega (arith, fetched_left core e, idle))
none_by core false e idle = ap to_execute e

none_to_execute : (core : CoreState) → most_left core ≡ 0 → to_execute core.is_fetched ≡ 0
none_to_execute core idle = none_by core core.is_fetched refl idle

pub not_later : (end : ℕ) (before ran after : TimedCore) → TakesAccess end before ran after → latest_clock end after ≤ latest_clock end before
unfolding latest_clock
not_later end before ran after t =
    let small = to_execute_small after.core.is_fetched in
    elim (cases_lt before.clock end) [
      | inl early ↦ omega (arith, early, t.runs.within, t.soon, t.few, t.left, small)
      | inr late ↦ omega (arith, late, t.runs.soon late, t.soon, t.runs.late late, t.left, small)
    ]

-- a core that ends its interval was not later than it could be
pub ran_not_later : (end : ℕ) (before ran : TimedCore) → RunsLocally end before ran → most_left ran.core ≡ 0 → latest_clock end ran ≤ latest_clock end before
unfolding latest_clock
ran_not_later end before ran runs idle =
    let none = none_to_execute ran.core idle in
    elim (cases_lt before.clock end) [
      | inl early ↦ omega (arith, early, runs.within, idle, none)
      | inr late ↦ omega (arith, late, runs.late_clock late, idle, none)
    ]

-- the clock is never later than it can get
pub clock_within : (end : ℕ) (c : TimedCore) → c.clock ≤ latest_clock end c
unfolding latest_clock
clock_within end c = omega arith

pub latest_small : (end : ℕ) (c : TimedCore) → most_left c.core ≤ 257 → latest_clock end c ≤ max c.clock end + 2 ^ 30
unfolding latest_clock
latest_small end c few = omega (arith, few, to_execute_small c.core.is_fetched)

pub end_within : (end : ℕ) (c : TimedCore) → end ≤ latest_clock end c
unfolding latest_clock
end_within end c = omega arith

-- a core that has an access starts it no later than it can come
pub start_within : (end : ℕ) (before ran : TimedCore) → RunsLocally end before ran → 1 ≤ most_left ran.core → ran.clock ≤ latest_clock end before
unfolding latest_clock
start_within end before ran runs some =
    elim (cases_lt before.clock end) [
      | inl early ↦ omega (arith, early, runs.within)
      | inr late ↦ omega (arith, late, runs.late_clock late)
    ]
