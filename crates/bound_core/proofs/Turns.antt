-- The turns of a core, one after the other.
use Rattle.std.proofs.Common.{◌≡◌, ℕ, ◌+◌, ◌^◌, ◌<◌, ◌≤◌, List, [], ◌∷◌, ◌++◌, length, Option, Some, None, inl, inr, Bool, true, false, is_some, true≢false, refl, sym, ◌∙◌, ap, subst, arith}
use Rattle.std.proofs.lemmas.List.{append-nil, append_assoc, length-append}
use Rattle.std.proofs.lemmas.List.Elements.{All-append}
use Rattle.zs_num.specs.declared.entry.Entry.{Entry}
use Rattle.zs_num.specs.declared.request.Request.{Request}
use Rattle.elf_load.specs.MemoryImage.{MemoryImage}
use Rattle.rv_core.specs.CoreState.{InProgress}
use Rattle.rv_core.specs.Sound.{IsSoundCore}
use Rattle.rv_core.specs.Step.{answered}
use Rattle.rv_core.specs.Port.{Gains}
use Rattle.reference.specs.TimedCore.{TimedCore, asks, core_after_access, next_request, ran_to}
use Rattle.reference.specs.Pacing.{IsSoon}
use Rattle.reference.specs.IntervalBounds.{latest_clock, left_of_instruction, most_accesses, most_left}
use Rattle.bound_core.specs.Taken.{HasTaken}
use Rattle.reference.specs.Turn.{EndsInterval, IsOver, RunsToEnd, TakesTurn, TurnsToEnd}
use Rattle.reference.proofs.Accesses.{RunsLocally, TakesAccess, left_answered, left_few, runs_locally, start_within, unfetched_left, waiting_unfetched}
use Rattle.reference.proofs.Instructions.{local_instructions_end}
use Rattle.reference.proofs.Lists.{all_and_one, all_none}

-- ---- one turn

asks_left : (instruction : Option InProgress) (request : Request) → next_request instruction ≡ Some request → 1 ≤ left_of_instruction instruction
asks_left None request asked = cc
asks_left (Some now) request asked = omega arith

asks_waits : (instruction : Option InProgress) (request : Request) → next_request instruction ≡ Some request → instruction ≡ None → ⊥
asks_waits None request asked none = cc
asks_waits (Some now) request asked none = cc

pub asks_none : (instruction : Option InProgress) → next_request instruction ≡ None → instruction ≡ None
asks_none None asked = refl
asks_none (Some now) asked = cc

-- what the code of a turn knows of local instructions
pub ran_locally : (image : MemoryImage) (end : ℕ) (before ran : TimedCore) → IsSoon before → ran ≡ ran_to image end before → RunsLocally end before ran
ran_locally image end before ran soon is = subst (RunsLocally end before) (sym is) (runs_locally image end before soon)

-- a core that has no access then is over
pub ran_over : (image : MemoryImage) (end : ℕ) (before ran : TimedCore) → ran ≡ ran_to image end before → asks ran ≡ None → IsOver end ran
ran_over image end before ran is asked =
    elim (local_instructions_end image end before) [
      | inl some ↦ absurd (true≢false (sym some ∙ ap is_some (sym (ap asks is) ∙ asked)))
      | inr over ↦ subst (IsOver end) (sym is) over
    ]

-- it has fetched no instruction that is to be executed, and has no access left
unfetched_by : (end : ℕ) (c : TimedCore) (fetched : Bool) → c.core.is_fetched ≡ fetched → IsSoundCore c.core → IsOver end c → c.core.is_fetched ≡ false
unfetched_by end c false e sound over = e
unfetched_by end c true e sound over =
    elim over.over [
      | inl halted ↦ absurd (true≢false (sym halted ∙ ap is_some (sound.fetched e).2))
      | inr late ↦ late.0
    ]

pub over_unfetched : (end : ℕ) (c : TimedCore) → IsSoundCore c.core → IsOver end c → c.core.is_fetched ≡ false
over_unfetched end c sound over = unfetched_by end c c.core.is_fetched refl sound over

pub over_left : (end : ℕ) (c : TimedCore) → IsSoundCore c.core → IsOver end c → most_left c.core ≡ 0
over_left end c sound over = let idle = over.idle in unfetched_left c.core (over_unfetched end c sound over) ∙ (rw idle refl)

after_core : (time : Entry → ℕ) (e : Entry) (c : TimedCore) → (core_after_access time e c).core ≡ answered e.reply c.core
unfolding core_after_access
after_core time e c = refl

-- what the code of a turn knows of an access
pub record MakesAccess (time : Entry → ℕ) (end : ℕ) (before ran after : TimedCore) (request : Request) (e : Entry) : Type 0 where
  pub runs : RunsLocally end before ran
  pub sound : IsSoundCore ran.core
  pub asked : asks ran ≡ Some request
  pub left : after ≡ core_after_access time e ran
  pub later : ran.clock < after.clock
  pub soon : after.clock ≤ ran.clock + 2 ^ 20

pub takes_access : (time : Entry → ℕ) (end : ℕ) (before ran after : TimedCore) (request : Request) (e : Entry) → MakesAccess time end before ran after request e → TakesAccess end before ran after
takes_access time end before ran after request e m =
    let core : after.core ≡ answered e.reply ran.core = ap (λ (c : TimedCore). c.core) m.left ∙ after_core time e ran in
    let unfetched : ran.core.is_fetched ≡ false = waiting_unfetched ran.core m.sound (asks_waits ran.core.instruction request m.asked) in
    record {
      runs = m.runs;
      few = left_few ran.core m.sound;
      left = rw core (left_answered e.reply ran.core unfetched (asks_left ran.core.instruction request m.asked));
      later = m.later;
      soon = m.soon;
    }

-- it starts no later than the core can come
pub starts_within : (end : ℕ) (before ran : TimedCore) (request : Request) → RunsLocally end before ran → IsSoundCore ran.core → asks ran ≡ Some request → ran.clock ≤ latest_clock end before
starts_within end before ran request runs sound asked =
    let unfetched = unfetched_left ran.core (waiting_unfetched ran.core sound (asks_waits ran.core.instruction request asked)) in
    start_within end before ran runs (omega (arith, unfetched, asks_left ran.core.instruction request asked))

-- ---- many

pub gains_nothing : (logged : Option (List Entry)) → Gains logged [] logged
gains_nothing None = refl
gains_nothing (Some entries) = rw (append-nil entries) refl

gains_more : (logged middle after : Option (List Entry)) (entries more : List Entry) → Gains logged entries middle → Gains middle more after → Gains logged (entries ++ more) after
gains_more None middle after entries more one two = let none : middle ≡ None = one in (rw none at two)
gains_more (Some before) middle after entries more one two =
    let some : middle ≡ Some (before ++ entries) = one in
    let whole : after ≡ Some ((before ++ entries) ++ more) = (rw some at two) in
    whole ∙ ap Some (append_assoc before entries more)

module _ {Port : Type 0} (time : Entry → ℕ) (image : MemoryImage) (end : ℕ) (gives : Port → (start : ℕ) → Request → Entry → Port → Type 0) where
  pub took : (port port_after : Port) (before ran after : TimedCore) (request : Request) (e : Entry) → ran ≡ ran_to image end before → asks ran ≡ Some request
      → gives port ran.clock request e port_after → after ≡ core_after_access time e ran → TakesTurn time image end gives port port_after before after e
  took port port_after before ran after request e is asked given left = record {
    request = request;
    asked = ap asks (sym is) ∙ asked;
    given = subst (λ (c : TimedCore). gives port c.clock request e port_after) is given;
    left = left ∙ ap (core_after_access time e) is;
  }

  pub none_taken : (logged : Port → Option (List Entry)) (number : ℕ) (port : Port) (core : TimedCore) → HasTaken time image end gives logged number port port core core
  none_taken logged number port core = record {
    entries = [];
    path = λ rest last after turns. turns;
    cores = all_none (λ e. e.core ≡ number);
    starts = all_none (λ e. e.start ≤ latest_clock end core);
    few = omega arith;
    logged_is = gains_nothing (logged port);
  }

  pub one_more : (logged : Port → Option (List Entry)) (number : ℕ) (first port next : Port) (before core later : TimedCore) (e : Entry) → HasTaken time image end gives logged number first port before core
      → TakesTurn time image end gives port next core later e → e.core ≡ number → e.start ≤ latest_clock end before → most_accesses end later < most_accesses end core → Gains (logged port) (e ∷ []) (logged next)
      → HasTaken time image end gives logged number first next before later
  one_more logged number first port next before core later e h turn own start fewer gains = record {
    entries = h.entries ++ e ∷ [];
    path = λ rest last after turns.
        subst (λ all. TurnsToEnd time image end gives all first last before after) (sym (append_assoc h.entries (e ∷ []) rest)) (h.path (e ∷ rest) last after (next, (later, (turn, turns))));
    cores = all_and_one (λ e. e.core ≡ number) h.entries e h.cores own;
    starts = all_and_one (λ e. e.start ≤ latest_clock end before) h.entries e h.starts start;
    few = let longer : length (h.entries ++ e ∷ []) ≡ length h.entries + 1 = length-append h.entries (e ∷ []) in omega (arith, longer, h.few, fewer);
    logged_is = gains_more (logged first) (logged port) (logged next) h.entries (e ∷ []) h.logged_is gains;
  }

  pub all_taken : (logged : Port → Option (List Entry)) (number : ℕ) (first port last : Port) (before core after : TimedCore) → HasTaken time image end gives logged number first port before core
      → EndsInterval image end port last core after → RunsToEnd time image end gives logged number first last before after
  all_taken logged number first port last before core after h ends = record {
    entries = h.entries;
    turns = subst (λ all. TurnsToEnd time image end gives all first last before after) (append-nil h.entries) (h.path [] last after ends);
    cores = h.cores;
    starts = h.starts;
    few = omega (arith, h.few);
    logged = subst (λ port. Gains (logged first) h.entries (logged port)) (sym ends.same) h.logged_is;
  }

  -- turns that follow those so far
  pub taken_both : (logged : Port → Option (List Entry)) (number : ℕ) (first port next : Port) (before core later : TimedCore) → HasTaken time image end gives logged number first port before core
      → latest_clock end core ≤ latest_clock end before → HasTaken time image end gives logged number port next core later → HasTaken time image end gives logged number first next before later
  taken_both logged number first port next before core later h latest more = record {
    entries = h.entries ++ more.entries;
    path = λ rest last after turns.
        subst (λ all. TurnsToEnd time image end gives all first last before after) (sym (append_assoc h.entries more.entries rest)) (h.path (more.entries ++ rest) last after (more.path rest last after turns));
    cores = All-append (λ e. e.core ≡ number) h.entries more.entries h.cores more.cores;
    starts = All-append (λ e. e.start ≤ latest_clock end before) h.entries more.entries h.starts (λ k d below. let start = more.starts k d below in omega (arith, start, latest));
    few = let longer : length (h.entries ++ more.entries) ≡ length h.entries + length more.entries = length-append h.entries more.entries in omega (arith, longer, h.few, more.few);
    logged_is = gains_more (logged first) (logged port) (logged next) h.entries more.entries h.logged_is more.logged_is;
  }

  -- and those up to the end of the interval
  pub taken_to_end : (logged : Port → Option (List Entry)) (number : ℕ) (first port last : Port) (before core after : TimedCore) → HasTaken time image end gives logged number first port before core
      → latest_clock end core ≤ latest_clock end before → RunsToEnd time image end gives logged number port last core after → RunsToEnd time image end gives logged number first last before after
  taken_to_end logged number first port last before core after h latest more = record {
    entries = h.entries ++ more.entries;
    turns = h.path more.entries last after more.turns;
    cores = All-append (λ e. e.core ≡ number) h.entries more.entries h.cores more.cores;
    starts = All-append (λ e. e.start ≤ latest_clock end before) h.entries more.entries h.starts (λ k d below. let start = more.starts k d below in omega (arith, start, latest));
    few = let longer : length (h.entries ++ more.entries) ≡ length h.entries + length more.entries = length-append h.entries more.entries in omega (arith, longer, h.few, more.few);
    logged = gains_more (logged first) (logged port) (logged last) h.entries more.entries h.logged_is more.logged;
  }
