-- Turns whose accesses are hits that a port serves at once, with the instructions between them.
use Rattle.std.proofs.Common.{◌≡◌, ◌⊎◌, inl, inr, ℕ, zero, suc, ◌+◌, ◌<◌, ◌≤◌, if◌then◌else◌, Bool, true, false, not, true≢false, List, [], ◌∷◌, ◌++◌, append_assoc, length, All, Option, Some, None, refl, sym, ◌∙◌, ap, subst, arith}
use Rattle.std.specs.Prelude.{⊤, is_none, is_some, IfSome, IsSome}
use Rattle.std.proofs.lemmas.Bool.{and_parts, cases_lt, eq-eqb}
use Rattle.std.proofs.lemmas.List.{append-nil, length-append}
use Rattle.zs_num.specs.Request.{is_fetch, line_at}
use Rattle.zs_num.specs.declared.entry.Entry.{Entry}
use Rattle.zs_num.specs.declared.entry.Outcome.TheVariants.{Hit}
use Rattle.zs_num.specs.declared.request.Request.{Request}
use Rattle.zs_num.specs.declared.request.Request.TheVariants as request
use Rattle.elf_load.specs.MemoryImage.{MemoryImage}
use Rattle.pipe_core.specs.Pace.{PaceState}
use Rattle.pipe_core.specs.PaceLaws.{GoesOnFrom}
use Rattle.rv_core.specs.declared.memory_range.MemoryRange.{MemoryRange}
use Rattle.rv_core.specs.declared.single.Single.{Single}
use Rattle.rv_core.specs.declared.single.Single.TheVariants.{Load, Store}
use Rattle.rv_core.specs.declared.stint.Stint.{Stint}
use Rattle.rv_core.specs.Asked.{is_idle}
use Rattle.rv_core.specs.CoreState.{CoreState, InProgress}
use Rattle.rv_core.specs.Effect.{ended}
use Rattle.rv_core.specs.Executions.{LeadsTo, LiesIn}
use Rattle.rv_core.specs.Hits.{line_of, moment_of, GoesOn, HasGoneOn, IsOnItsWay, MakesFetch, MakesHit, Moment, RunsOn}
use Rattle.rv_core.specs.Single.{access_of, begun}
use Rattle.rv_core.specs.Step.{answered, executed, is_free, needs_fetch}
use Rattle.rv_core.specs.Told.{going_told, making_told, running_told, EndsThere, HasToldGoing, Made, Ran, Told}
use Rattle.rv_core.proofs.Fetches.{latest-needs, never-needs}
use Rattle.reference.specs.Ahead.{ahead}
use Rattle.reference.specs.IntervalBounds.{latest_clock, most_accesses, most_left}
use Rattle.bound_core.specs.Met.{begun_in_time}
use Rattle.bound_core.specs.NumberedCores.{NumberedCore}
use Rattle.bound_core.specs.Stints.{IsStint}
use Rattle.bound_core.specs.Taken.{Settles, TakesOne, TakesThese}
use Rattle.bound_core.specs.ToldTurns.{behind_turns, told_alone, TellsTurns}
use Rattle.reference.specs.TimedCore.{TimedCore, after_instruction, core_after_access, ran_to}
use Rattle.reference.specs.Turn.{TakesTurn}
use Rattle.reference.proofs.Accesses.{end_within, most_before, most_past, to_execute_small, unfetched_left}
use Rattle.bound_core.proofs.FetchedNext.{fetched_is_next, taking}
use Rattle.reference.proofs.Instructions.{asking, asking_held, goes_on_by, held_stops, ran_stays, same_end}
use Rattle.reference.proofs.Lists.{all_and_one, all_none}
use Rattle.bound_core.proofs.LedOn.{counted, led_on, none_ahead, one_on, IsThere}
use Rattle.bound_core.proofs.Meeting.{access_made, begun_stops}
use Rattle.bound_core.proofs.TheseTurns.{settles_itself, these_more, these_on}
use Rattle.bound_core.proofs.ToldAlone.{counted_told, led_told, none_told, taking_told, uncounted_told}
use Rattle.bound_core.proofs.ToldTurns.{stands_behind, tells_more, tells_on, tells_same}
use Rattle.bound_core.proofs.Turns.{took}

-- ---- where the core stands

-- the core with these registers, at this address, with this line as that of its latest fetch if it fetches, at a clock,
-- after so many instructions more
abbrev pub standing : TimedCore → (registers : List ℕ) → (pc : ℕ) → (line : Option ℕ) → (clock count : ℕ) → TimedCore
standing c registers pc line clock count = record c {
  core = record c.core { registers = registers; pc = pc; fetched_line = (if c.core.fetching then line else c.core.fetched_line) };
  clock = clock;
  instructions = c.instructions + count;
}

abbrev pub stands : {Port : Type 0} → TimedCore → Moment Port → TimedCore
stands c m = standing c m.registers m.pc m.line m.clock m.count

-- a line is given of a core that fetches, and of no other
pub record IsLined (fetching : Bool) (line : Option ℕ) : Type 0 where
  pub some : fetching ≡ true → IsSome line
  pub none : fetching ≡ false → line ≡ None

-- its instructions in this line need no fetch
there_by : (image : MemoryImage) (core : CoreState) (line : Option ℕ) (fetching : Bool) → core.fetching ≡ fetching → IsLined fetching line
    → IsThere image (record core { fetched_line = (if core.fetching then line else core.fetched_line) }) line
there_by image core line false e lined registers pc lies =
    never-needs image (record core { registers = registers; pc = pc; fetched_line = (if core.fetching then line else core.fetched_line) }) e
there_by image core None true e lined registers pc lies = absurd (true≢false (sym (lined.some refl)))
there_by image core (Some latest) true e lined registers pc lies =
    latest-needs image (record core { registers = registers; pc = pc; fetched_line = (if core.fetching then Some latest else core.fetched_line) })
    (rw e (eq-eqb latest (line_at pc) (sym lies)))

line_kept : (fetching : Bool) (line : Option ℕ) → (if fetching then (if fetching then line else None) else line) ≡ line
line_kept true line = refl
line_kept false line = refl

line_same : (fetching fetches : Bool) (line other : Option ℕ) → fetches ≡ fetching → (if fetching then (if fetches then line else None) else other) ≡ (if fetching then line else other)
line_same true fetches line other e = rw e refl
line_same false fetches line other e = refl

first_lined : (fetching : Bool) (line : Option ℕ) → (fetching ≡ true → IsSome line) → IsLined fetching (if fetching then line else None)
first_lined true line fetched = record { some = fetched; none = λ no. absurd (true≢false no) }
first_lined false line fetched = record { some = λ yes. absurd (true≢false (sym yes)); none = λ no. refl }

-- at the beginning it is the core itself
pub stands_first : (c : TimedCore) → standing c c.core.registers c.core.pc (line_of c.core) c.clock 0 ≡ c
stands_first c =
    let At : Option ℕ → ℕ → TimedCore = λ line instructions. record c { core = record c.core { fetched_line = line }; instructions = instructions } in
    let none : c.instructions + 0 ≡ c.instructions = omega arith in
    ap (λ line. At line (c.instructions + 0)) (line_kept c.core.fetching c.core.fetched_line) ∙ ap (λ i. At c.core.fetched_line i) none

-- ---- how many accesses it has left

pub idle_parts : (core : CoreState) → is_idle core ≡ true → (is_free core ≡ true) × (core.is_fetched ≡ false)
idle_parts core idle =
    let parts = and_parts (is_free core) (not core.is_fetched) idle in (parts.0, fetched_not core.is_fetched parts.1)
  where
    fetched_not : (fetched : Bool) → not fetched ≡ true → fetched ≡ false
    fetched_not true e = cc
    fetched_not false e = refl

pub none_of : {A : Type 0} (o : Option A) → is_none o ≡ true → o ≡ None
none_of None e = refl
none_of (Some x) e = absurd (true≢false (sym e))

waits_not : (core : CoreState) → is_free core ≡ true → core.instruction ≡ None
waits_not core free = none_of core.instruction (and_parts (is_none core.halted) (is_none core.instruction) free).1

pub idle_left : (core : CoreState) → is_idle core ≡ true → most_left core ≡ 0
idle_left core idle =
    let parts = idle_parts core idle in
    let none = waits_not core parts.0 in
    unfetched_left core parts.1 ∙ (rw none refl)

few_later : (end : ℕ) (before after : TimedCore) → most_left after.core ≡ 0 → before.clock ≤ after.clock → most_accesses end after ≤ most_accesses end before
few_later end before after left later =
    elim (cases_lt after.clock end) [
      | inl early ↦ omega (arith, most_before end after early, most_before end before (omega (arith, early, later)))
      | inr late ↦ omega (arith, most_past end after late, left)
    ]

fewer_later : (end : ℕ) (before after : TimedCore) → most_left after.core ≡ 0 → before.clock < after.clock → before.clock < end → most_accesses end after < most_accesses end before
fewer_later end before after left later early =
    elim (cases_lt after.clock end) [
      | inl still ↦ omega (arith, most_before end after still, most_before end before early)
      | inr late ↦ omega (arith, most_past end after late, most_before end before early, left)
    ]

latest_kept : (end : ℕ) (before after : TimedCore) → most_left after.core ≤ 256 → after.clock ≤ end → latest_clock end after ≤ latest_clock end before
unfolding latest_clock
latest_kept end before after left in_time = omega (arith, left, in_time, to_execute_small after.core.is_fetched)

idle_latest : (end : ℕ) (before after : TimedCore) → most_left after.core ≡ 0 → after.clock ≤ end → latest_clock end after ≤ latest_clock end before
idle_latest end before after left in_time = latest_kept end before after (omega (arith, left)) in_time

-- ---- an instruction of one access

-- a core before an instruction that begins this access, without a pipeline
record Begins (image : MemoryImage) (end : ℕ) (c : TimedCore) (single : Single) : Type 0 where
  none : c.pace ≡ None
  there : needs_fetch image c.core ≡ false
  free : is_free c.core ≡ true
  fetched : c.core.is_fetched ≡ false
  meets : executed image c.core ≡ begun single c.core
  early : c.clock < end

begins_next : (image : MemoryImage) (end : ℕ) (c : TimedCore) (single : Single) → Begins image end c single → after_instruction image c ≡ begun_in_time (Some single) (ahead 1 c)
begins_next image end c single b =
    ap (after_instruction image) (sym (none_ahead c)) ∙ one_on image c (begun single c.core) 0 b.none b.there b.fetched b.meets (counted c.core b.free)

begins : (image : MemoryImage) (end : ℕ) (c : TimedCore) (single : Single) → Begins image end c single → begun_in_time (Some single) (ahead 1 c) ≡ ran_to image end c
begins image end c single b =
    let ran : TimedCore = begun_in_time (Some single) (ahead 1 c) in
    sym (ran_stays image end ran (begun_stops end single (ahead 1 c))) ∙ ap (ran_to image end) (sym (begins_next image end c single b)) ∙ same_end image end c (goes_on_by end c b.free b.early)

-- that instruction is all that is told of the turn
begins_told : (image : MemoryImage) (end : ℕ) (c : TimedCore) (single : Single) → Begins image end c single → told_alone image end c ≡ Ran c.core.pc ∷ []
begins_told image end c single b =
    let ran : TimedCore = begun_in_time (Some single) (ahead 1 c) in
    counted_told image end c ran (goes_on_by end c b.free b.early) (begins_next image end c single b) refl
    ∙ ap (λ (told : List Told). Ran c.core.pc ∷ told) (none_told image end ran (begun_stops end single (ahead 1 c)))

of_no_fetch : (single : Single) → is_fetch (access_of single) ≡ false
of_no_fetch (Load addr destination) = refl
of_no_fetch (Store addr width value) = refl

-- ---- a fetch

asks_now : (image : MemoryImage) (c : TimedCore) → needs_fetch image c.core ≡ true → after_instruction image c ≡ asking c
unfolding after_instruction
asks_now image c needs = rw needs refl

fetch_begins : (image : MemoryImage) (end : ℕ) (c : TimedCore) → needs_fetch image c.core ≡ true → is_free c.core ≡ true → c.clock < end → asking c ≡ ran_to image end c
fetch_begins image end c needs free early =
    sym (ran_stays image end (asking c) (held_stops end (asking c) (asking_held c.core))) ∙ ap (ran_to image end) (sym (asks_now image c needs)) ∙ same_end image end c (goes_on_by end c free early)

-- nothing is told of the turn, since no instruction is executed
fetch_told : (image : MemoryImage) (end : ℕ) (c : TimedCore) → needs_fetch image c.core ≡ true → is_free c.core ≡ true → c.clock < end → told_alone image end c ≡ []
fetch_told image end c needs free early =
    uncounted_told image end c (asking c) (goes_on_by end c free early) (asks_now image c needs) refl ∙ none_told image end (asking c) (held_stops end (asking c) (asking_held c.core))

-- the core that has fetched its instruction, and executes it next
abbrev has_fetched_in : (time : ℕ) → TimedCore → TimedCore
has_fetched_in time c = record c {
  core = record c.core { instruction = None; fetched_line = Some (line_at c.core.pc); is_fetched = true };
  clock = c.clock + time;
}

fetch_made : (time : Entry → ℕ) (e : Entry) (c : TimedCore) → core_after_access time e (asking c) ≡ has_fetched_in (time e) c
unfolding core_after_access answered ended
fetch_made time e c = ap (λ console. record (has_fetched_in (time e) c) { console = console }) (append-nil c.console)

still_free : (time : ℕ) (c : TimedCore) → is_free c.core ≡ true → is_free (has_fetched_in time c).core ≡ true
still_free time c free = let halted : is_none c.core.halted ≡ true = (and_parts (is_none c.core.halted) (is_none c.core.instruction) free).0 in rw halted refl

fetched_there : (image : MemoryImage) (time : ℕ) (c : TimedCore) → needs_fetch image (has_fetched_in time c).core ≡ false
fetched_there image time c = latest-needs image (has_fetched_in time c).core (eq-eqb (line_at c.core.pc) (line_at c.core.pc) refl)

-- before the end that is but the next instruction
fetched_goes_on : (image : MemoryImage) (end time : ℕ) (c : TimedCore) → c.pace ≡ None → is_free c.core ≡ true → c.clock + time < end
    → ran_to image end (taking (has_fetched_in time c)) ≡ ran_to image end (has_fetched_in time c)
fetched_goes_on image end time c none free early = fetched_is_next image end (has_fetched_in time c) none (still_free time c free) early (fetched_there image time c)

fetched_told : (image : MemoryImage) (end time : ℕ) (c : TimedCore) → c.pace ≡ None → is_free c.core ≡ true → c.clock + time < end
    → told_alone image end (taking (has_fetched_in time c)) ≡ told_alone image end (has_fetched_in time c)
fetched_told image end time c none free early = taking_told image end (has_fetched_in time c) none (still_free time c free) early (fetched_there image time c)

-- ---- all the way

-- where no instruction is executed, the registers and the address stay
leads_nowhere : (line : Option ℕ) (n : ℕ) (image : MemoryImage) (registers : List ℕ) (pc : ℕ) (after : List ℕ) (pc_after : ℕ) → n ≡ 0
    → LeadsTo line n image registers pc after pc_after → (after ≡ registers) × (pc_after ≡ pc)
leads_nowhere line zero image registers pc after pc_after none leads = leads
leads_nowhere line (suc n) image registers pc after pc_after none leads = absurd (omega (arith, none))

-- It went on from there to here, with so many accesses, and this is told of it. Where `ends` holds, its way ends with its
-- last access.
record Went {Port : Type 0} (image : MemoryImage) (memory : MemoryRange) (stint : Stint) (gives : Port → (start : ℕ) → Request → Entry → Port → Type 0)
    (core_of : Port → ℕ) (logged_of : Port → Option (List Entry)) (room_of : Port → ℕ) (made : ℕ) (before after : Moment Port) (told : List Told) (ends : Type 0) : Type 0 where
  gone : HasGoneOn image memory stint gives core_of logged_of room_of made before after
  is : told ≡ going_told image memory stint gives core_of logged_of made before after gone.path
  stops : ends → EndsThere image memory stint gives core_of logged_of made before after gone.path

-- Where a core came to that has gone on by itself, with so many accesses, from the turns' first port to the last, and what
-- is told of it. Where `ends` holds, which says that its way ends with its last access, it stands behind that, if it made
-- any and does not fetch: behind a fetch it would have taken the instruction that it fetched.
pub record HasCome {Port : Type 0} (time : Entry → ℕ) (image : MemoryImage) (end : ℕ) (gives : Port → (start : ℕ) → Request → Entry → Port → Type 0)
    (logged_of : Port → Option (List Entry)) (number made count : ℕ) (told : List Told) (ends : Type 0) (first last : Port) (before after : TimedCore) : Type 0 where
  pub entries : List Entry
  pub many : length entries ≡ made
  pub these : TakesThese time image end gives logged_of number entries first last before after
  pub tells : TellsTurns time image end told entries before after
  pub hits : All (λ e. e.outcome ≡ Hit) entries
  pub later : before.clock + count ≤ after.clock
  pub in_time : after.clock ≤ end
  pub latest : latest_clock end after ≤ latest_clock end before
  pub stops : 0 < made → before.core.fetching ≡ false → ends → after ≡ behind_turns time image end entries before

-- `c` is the core at the beginning, of this number, which has no pipeline and no instruction in progress
module _ {Port : Type 0} (time : Entry → ℕ) (image : MemoryImage) (memory : MemoryRange) (stint : Stint)
    (gives : Port → (start : ℕ) → Request → Entry → Port → Type 0) (core_of : Port → ℕ) (logged_of : Port → Option (List Entry))
    (number : ℕ) (first : Port) (c : TimedCore) (none : c.pace ≡ None) (idle : is_idle c.core ≡ true) (inside : c.core.memory ≡ memory)
    (hit_time : (e : Entry) → e.outcome ≡ Hit → is_fetch e.request ≡ false → time e ≡ stint.hit)
    (fetch_time : (e : Entry) → e.outcome ≡ Hit → is_fetch e.request ≡ true → time e ≡ stint.fetch_hit)
    (takes_time : (e : Entry) → 1 ≤ time e) where
  -- the core has come to a moment by so many accesses, and this is told of it, and where it stands if its way `ends` there
  pub record Comes (accesses : ℕ) (m : Moment Port) (told : List Told) (ends : Type 0) : Type 0 where
    pub entries : List Entry
    pub many : length entries ≡ accesses
    pub these : TakesThese time image stint.end gives logged_of number entries first m.port c (stands c m)
    pub tells : TellsTurns time image stint.end told entries c (stands c m)
    pub hits : All (λ e. e.outcome ≡ Hit) entries
    pub in_time : m.clock ≤ stint.end
    pub later : c.clock + m.count ≤ m.clock
    pub lined : IsLined c.core.fetching m.line
    pub core : core_of m.port ≡ number
    pub stops : 0 < accesses → c.core.fetching ≡ false → ends → stands c m ≡ behind_turns time image stint.end entries c

  free : is_free c.core ≡ true
  free = (idle_parts c.core idle).0

  unfetched : c.core.is_fetched ≡ false
  unfetched = (idle_parts c.core idle).1

  there : (m : Moment Port) → IsLined c.core.fetching m.line → LiesIn m.line m.pc → needs_fetch image (stands c m).core ≡ false
  there m lined lies = there_by image c.core m.line c.core.fetching refl lined m.registers m.pc lies

  one_longer : (n : ℕ) (entries : List Entry) (e : Entry) → length entries ≡ n → length (entries ++ e ∷ []) ≡ suc n
  one_longer n entries e many = let longer : length (entries ++ e ∷ []) ≡ length entries + 1 = length-append entries (e ∷ []) in omega (arith, longer, many)

  -- where these are no instructions, the core stands where it stood
  none_ran : (before after : Moment Port) (r : RunsOn image memory stint gives core_of logged_of before after) → r.instructions ≡ 0 → stands c after ≡ stands c before
  none_ran before after r none =
      let (registers, pc) = leads_nowhere before.line r.instructions image before.registers before.pc after.registers after.pc none r.leads in
      let clock : after.clock ≡ before.clock = let was = r.clock in omega (arith, was, none) in
      let count : after.count ≡ before.count = let was = r.count in omega (arith, was, none) in
      ap (λ r. standing c r after.pc after.line after.clock after.count) registers
      ∙ ap (λ p. standing c before.registers p after.line after.clock after.count) pc
      ∙ ap (λ l. standing c before.registers before.pc l after.clock after.count) r.line
      ∙ ap (λ k. standing c before.registers before.pc before.line k after.count) clock
      ∙ ap (λ i. standing c before.registers before.pc before.line before.clock i) count

  comes_on : (n : ℕ) (before after : Moment Port) (told : List Told) (ends : Type 0) (r : RunsOn image memory stint gives core_of logged_of before after) → (0 < n → ends → r.instructions ≡ 0)
      → Comes n before told ⊤ → Comes n after (told ++ running_told image memory stint gives core_of logged_of before after r) ends
  comes_on n before after told ends r ends_here here =
      let now : TimedCore = stands c before in
      let next : TimedCore = stands c after in
      let At : Option ℕ → ℕ → ℕ → TimedCore = λ line clock instructions. record c {
        core = record c.core { registers = after.registers; pc = after.pc; fetched_line = (if c.core.fetching then line else c.core.fetched_line) };
        clock = clock;
        instructions = instructions;
      } in
      let count : c.instructions + after.count ≡ c.instructions + before.count + r.instructions = let e = r.count in omega (arith, e) in
      let is : next ≡ At before.line (before.clock + r.instructions) (c.instructions + before.count + r.instructions) =
      ap (λ line. At line after.clock (c.instructions + after.count)) r.line
      ∙ ap (λ k. At before.line k (c.instructions + after.count)) r.clock
      ∙ ap (λ i. At before.line (before.clock + r.instructions) i) count in
      let room : before.clock + r.instructions ≤ stint.end = omega (arith, r.clock, r.in_time) in
      let there : IsThere image now.core before.line = there_by image c.core before.line c.core.fetching refl here.lined in
      let same : ran_to image stint.end next ≡ ran_to image stint.end now =
      ap (ran_to image stint.end) is ∙ led_on image stint.end before.line now none there free unfetched r.instructions after.registers after.pc room r.leads in
      let more : List Told = running_told image memory stint gives core_of logged_of before after r in
      let tells : more ++ told_alone image stint.end next ≡ told_alone image stint.end now =
      ap (λ (t : TimedCore). more ++ told_alone image stint.end t) is ∙ led_told image stint.end before.line now none there free unfetched r.instructions after.registers after.pc room r.leads in
      let settles : Settles time image stint.end gives now next = record {
        ran = same;
        begun = omega (arith, r.clock);
        not_later = idle_latest stint.end now next (idle_left c.core idle) r.in_time;
        fewer = few_later stint.end now next (idle_left c.core idle) (omega (arith, r.clock));
        memory = refl;
        fetching = refl;
      } in
      let on = these_on time image stint.end gives logged_of number here.entries first before.port c now next here.these settles in
      record {
        entries = here.entries;
        many = here.many;
        these = subst (λ (port : Port). TakesThese time image stint.end gives logged_of number here.entries first port c next) (sym r.port) on;
        tells = tells_on time image stint.end told more here.entries c now next here.tells tells;
        hits = here.hits;
        in_time = r.in_time;
        later = omega (arith, here.later, r.clock, r.count);
        lined = subst (IsLined c.core.fetching) (sym r.line) here.lined;
        core = ap core_of r.port ∙ here.core;
        stops = λ some plain so. none_ran before after r (ends_here some so) ∙ here.stops some plain tt;
      }

  comes_by_hit : (n : ℕ) (before after : Moment Port) (told : List Told) {ends : Type 0} → MakesHit image memory stint gives core_of logged_of before after → Comes n before told ends
      → Comes (suc n) after (told ++ Ran before.pc ∷ Made before.pc ∷ []) ⊤
  comes_by_hit n before after told h here =
      let now : TimedCore = stands c before in
      let next : TimedCore = stands c after in
      let single : Single = h.access.single in
      let served = h.access.served in
      let e : Entry = served.entry in
      let early : before.clock < stint.end = omega (arith, h.clock, h.in_time) in
      let ran : TimedCore = begun_in_time (Some single) (ahead 1 now) in
      let now_begins : Begins image stint.end now single = record {
        none = none;
        there = there before here.lined h.lies;
        free = free;
        fetched = unfetched;
        meets = h.access.meets now.core inside;
        early = early;
      } in
      let ran_is : ran ≡ ran_to image stint.end now = begins image stint.end now single now_begins in
      let request_is : is_fetch e.request ≡ false = ap is_fetch served.asked ∙ of_no_fetch single in
      let takes : time e ≡ stint.hit = hit_time e served.hit request_is in
      let answers : answered e.reply (begun single now.core) ≡ record now.core { registers = after.registers; pc = after.pc } =
      ap (λ reply. answered reply (begun single now.core)) served.replied ∙ h.access.completes now.core idle in
      let At : CoreState → ℕ → ℕ → TimedCore = λ core clock instructions. record c { core = core; clock = clock; instructions = instructions } in
      let Lined : Option ℕ → CoreState = λ line. record c.core { registers = after.registers; pc = after.pc; fetched_line = (if c.core.fetching then line else c.core.fetched_line) } in
      let clock : after.clock ≡ before.clock + 1 + time e = omega (arith, h.clock, takes) in
      let count : c.instructions + after.count ≡ c.instructions + before.count + 1 = let was = h.count in omega (arith, was) in
      let left : next ≡ core_after_access time e ran =
      ap (λ line. At (Lined line) after.clock (c.instructions + after.count)) h.line
      ∙ ap (λ k. At (Lined before.line) k (c.instructions + after.count)) clock
      ∙ ap (λ i. At (Lined before.line) (before.clock + 1 + time e) i) count
      ∙ ap (λ core. At core (before.clock + 1 + time e) (c.instructions + before.count + 1)) (sym answers)
      ∙ sym (access_made time e single (ahead 1 now)) in
      let turn : TakesTurn time image stint.end gives before.port after.port now next e =
      took time image stint.end gives before.port after.port now ran next (access_of single) e ran_is refl served.given left in
      let one : TakesOne time image stint.end gives logged_of number before.port after.port now next e = record {
        turn = turn;
        core = served.core ∙ here.core;
        starts = omega (arith, served.starts, early, end_within stint.end now);
        fewer = fewer_later stint.end now next (idle_left c.core idle) (omega (arith, h.clock)) early;
        not_later = idle_latest stint.end now next (idle_left c.core idle) h.in_time;
        begun = omega (arith, h.clock);
        memory = refl;
        fetching = refl;
        logged = served.logged;
      } in
      record {
        entries = here.entries ++ e ∷ [];
        many = one_longer n here.entries e here.many;
        these = these_more time image stint.end gives logged_of number here.entries e first before.port after.port c now next here.these one;
        tells = (tells_more time image stint.end gives logged_of number told (Ran before.pc ∷ []) here.entries e first before.port c now ran next
            here.these here.tells (begins_told image stint.end now single now_begins) ran_is left);
        hits = all_and_one (λ e. e.outcome ≡ Hit) here.entries e here.hits served.hit;
        in_time = h.in_time;
        later = omega (arith, here.later, h.clock, h.count);
        lined = subst (IsLined c.core.fetching) (sym h.line) here.lined;
        core = served.same ∙ here.core;
        stops = λ some plain so. stands_behind time image stint.end gives logged_of number here.entries e first before.port c now ran next here.these ran_is left;
      }

  fetches_by : (fetching : Bool) (line : Option ℕ) (latest : ℕ) → IsLined fetching line → line ≡ Some latest → fetching ≡ true
  fetches_by true line latest lined had = refl
  fetches_by false line latest lined had = let no : line ≡ None = lined.none refl in cc

  comes_by_fetch : (n : ℕ) (before after : Moment Port) (told : List Told) {ends : Type 0} → MakesFetch image memory stint gives core_of logged_of before after → Comes n before told ends
      → Comes (suc n) after (told ++ Made before.pc ∷ []) ⊤
  comes_by_fetch n before after told h here =
      let now : TimedCore = stands c before in
      let next : TimedCore = stands c after in
      let fetching : c.core.fetching ≡ true = fetches_by c.core.fetching before.line h.latest here.lined h.had in
      let served = h.served.1 in
      let e : Entry = served.entry in
      let early : before.clock < stint.end = omega (arith, h.clock, h.in_time) in
      let line : now.core.fetched_line ≡ before.line = rw fetching refl in
      let needs : needs_fetch image now.core ≡ true = h.fetches now.core inside fetching line refl in
      let ran : TimedCore = asking now in
      let ran_is : ran ≡ ran_to image stint.end now = fetch_begins image stint.end now needs free early in
      let takes : time e ≡ stint.fetch_hit = fetch_time e served.hit (ap is_fetch served.asked) in
      let some : 1 ≤ time e = takes_time e in
      let behind : TimedCore = has_fetched_in (time e) now in
      let clock : after.clock ≡ before.clock + time e = omega (arith, h.clock, takes) in
      let left : behind ≡ core_after_access time e ran = sym (fetch_made time e now) in
      let turn : TakesTurn time image stint.end gives before.port after.port now behind e =
      took time image stint.end gives before.port after.port now ran behind (request.Fetch before.pc) e ran_is refl served.given left in
      let in_time : before.clock + time e < stint.end = omega (arith, clock, h.in_time) in
      let fewer : most_accesses stint.end behind < most_accesses stint.end now = omega (arith, most_before stint.end behind in_time, most_before stint.end now early, some) in
      let fetched_left : most_left behind.core ≡ 256 = refl in
      let one : TakesOne time image stint.end gives logged_of number before.port after.port now behind e = record {
        turn = turn;
        core = served.core ∙ here.core;
        starts = omega (arith, served.starts, early, end_within stint.end now);
        fewer = fewer;
        not_later = latest_kept stint.end now behind (omega (arith, fetched_left)) (omega (arith, in_time));
        begun = omega arith;
        memory = refl;
        fetching = refl;
        logged = served.logged;
      } in
      let entries : List Entry = here.entries ++ e ∷ [] in
      let taken = these_more time image stint.end gives logged_of number here.entries e first before.port after.port c now behind here.these one in
      let tells : TellsTurns time image stint.end (told ++ Made before.pc ∷ []) entries c behind =
      tells_more time image stint.end gives logged_of number told [] here.entries e first before.port c now ran behind here.these here.tells (fetch_told image stint.end now needs free early) ran_is left in
      let At : List ℕ → ℕ → Option ℕ → Option InProgress → Bool → ℕ → ℕ → TimedCore = λ registers pc line instruction fetched clock count. record c {
        core = record c.core { registers = registers; pc = pc; fetched_line = line; instruction = instruction; is_fetched = fetched };
        clock = clock;
        instructions = c.instructions + count;
      } in
      let latest : next.core.fetched_line ≡ Some (line_at before.pc) = rw fetching h.line in
      let is : next ≡ taking behind =
      ap (λ r. At r after.pc next.core.fetched_line c.core.instruction c.core.is_fetched after.clock after.count) h.registers
      ∙ ap (λ p. At before.registers p next.core.fetched_line c.core.instruction c.core.is_fetched after.clock after.count) h.pc
      ∙ ap (λ l. At before.registers before.pc l c.core.instruction c.core.is_fetched after.clock after.count) latest
      ∙ ap (λ i. At before.registers before.pc (Some (line_at before.pc)) i c.core.is_fetched after.clock after.count) (waits_not c.core free)
      ∙ ap (λ f. At before.registers before.pc (Some (line_at before.pc)) None f after.clock after.count) unfetched
      ∙ ap (λ k. At before.registers before.pc (Some (line_at before.pc)) None false k after.count) clock
      ∙ ap (λ i. At before.registers before.pc (Some (line_at before.pc)) None false (before.clock + time e) i) h.count in
      let same : ran_to image stint.end next ≡ ran_to image stint.end behind = ap (ran_to image stint.end) is ∙ fetched_goes_on image stint.end (time e) now none free in_time in
      let left_to_tell : told_alone image stint.end next ≡ told_alone image stint.end behind =
      ap (told_alone image stint.end) is ∙ fetched_told image stint.end (time e) now none free in_time in
      let settles : Settles time image stint.end gives behind next = record {
        ran = same;
        begun = omega (arith, clock);
        not_later = idle_latest stint.end behind next (idle_left c.core idle) (omega (arith, h.in_time));
        fewer = few_later stint.end behind next (idle_left c.core idle) (omega (arith, clock));
        memory = refl;
        fetching = refl;
      } in
      record {
        entries = entries;
        many = one_longer n here.entries e here.many;
        these = these_on time image stint.end gives logged_of number entries first after.port c behind next taken settles;
        tells = tells_same time image stint.end (told ++ Made before.pc ∷ []) entries c behind next tells left_to_tell;
        hits = all_and_one (λ e. e.outcome ≡ Hit) here.entries e here.hits served.hit;
        in_time = omega (arith, h.in_time);
        later = omega (arith, here.later, h.clock, h.count);
        lined = record { some = λ yes. ap is_some h.line; none = λ no. absurd (true≢false (sym fetching ∙ no)) };
        core = served.same ∙ here.core;
        stops = λ some plain so. absurd (true≢false (sym fetching ∙ plain));
      }

  comes_by : (n : ℕ) (before after : Moment Port) (told : List Told) {ends : Type 0} (made : MakesHit image memory stint gives core_of logged_of before after ⊎ MakesFetch image memory stint gives core_of logged_of before after)
      → Comes n before told ends → Comes (suc n) after (told ++ making_told image memory stint gives core_of logged_of before after made) ⊤
  comes_by n before after told (inl hit) here = comes_by_hit n before after told hit here
  comes_by n before after told (inr fetch) here = comes_by_fetch n before after told fetch here

  comes : (n : ℕ) (before after : Moment Port) (path : GoesOn image memory stint gives core_of logged_of n before after) → Comes 0 before [] ⊤
      → Comes n after (going_told image memory stint gives core_of logged_of n before after path) (EndsThere image memory stint gives core_of logged_of n before after path)
  comes zero before after runs here = comes_on 0 before after [] ⊤ runs (λ some so. absurd (omega (arith, some))) here
  comes (suc n) before after (s, (t, (path, (made, runs)))) here =
      let told : List Told = going_told image memory stint gives core_of logged_of n before s path in
      let access : List Told = making_told image memory stint gives core_of logged_of s t made in
      let there : Comes (suc n) t (told ++ access) ⊤ = comes_by n s t told made (comes n before s path here) in
      subst (λ (l : List Told). Comes (suc n) after l (runs.instructions ≡ 0)) (append_assoc told access (running_told image memory stint gives core_of logged_of t after runs))
      (comes_on (suc n) t after (told ++ access) (runs.instructions ≡ 0) runs (λ some none. none) there)

  comes_first : IsLined c.core.fetching (line_of c.core) → core_of first ≡ number → c.clock ≤ stint.end → Comes 0 (moment_of c.core c.clock 0 first) [] ⊤
  comes_first lined core in_time =
      let m : Moment Port = moment_of c.core c.clock 0 first in
      let is : c ≡ stands c m = sym (stands_first c) in
      record {
        entries = [];
        many = refl;
        these = (refl, subst (Settles time image stint.end gives c) is (settles_itself time image stint.end gives c));
        tells = ap (told_alone image stint.end) (sym is);
        hits = all_none (λ e. e.outcome ≡ Hit);
        in_time = in_time;
        later = omega arith;
        lined = lined;
        core = core;
        stops = λ some plain so. sym is;
      }

  has_come : (room_of : Port → ℕ) (made : ℕ) (told : List Told) (ends : Type 0) (after : CoreState) (clock count : ℕ) (last : Port) → IsOnItsWay c.core after → (c.core.fetching ≡ true → IsSome c.core.fetched_line)
      → core_of first ≡ number → c.clock ≤ stint.end
      → Went image memory stint gives core_of logged_of room_of made (moment_of c.core c.clock 0 first) (moment_of after clock count last) told ends
      → HasCome time image stint.end gives logged_of number made count told ends first last c (record c { core = after; clock = clock; instructions = c.instructions + count })
  has_come room_of made told ends after clock count last way fetched core in_time went =
      let next : TimedCore = record c { core = after; clock = clock; instructions = c.instructions + count } in
      let m : Moment Port = moment_of after clock count last in
      let came = comes made (moment_of c.core c.clock 0 first) m went.gone.path (comes_first (first_lined c.core.fetching c.core.fetched_line fetched) core in_time) in
      let fetching : after.fetching ≡ c.core.fetching = ap (λ (core : CoreState). core.fetching) way in
      let At : Option ℕ → CoreState = λ line. record c.core { registers = after.registers; pc = after.pc; fetched_line = line } in
      let is : stands c m ≡ next =
      ap (λ core. record c { core = core; clock = clock; instructions = c.instructions + count }) (ap At (line_same c.core.fetching after.fetching after.fetched_line c.core.fetched_line fetching) ∙ sym way) in
      let tells : TellsTurns time image stint.end told came.entries c (stands c m) =
      subst (λ (l : List Told). TellsTurns time image stint.end l came.entries c (stands c m)) (sym went.is) came.tells in
      record {
        entries = came.entries;
        many = came.many;
        these = subst (TakesThese time image stint.end gives logged_of number came.entries first last c) is came.these;
        tells = subst (TellsTurns time image stint.end told came.entries c) is tells;
        hits = came.hits;
        later = came.later;
        in_time = came.in_time;
        latest = subst (λ t. latest_clock stint.end t ≤ latest_clock stint.end c) is (idle_latest stint.end c (stands c m) (idle_left c.core idle) came.in_time);
        stops = λ some plain so. sym is ∙ came.stops some plain (went.stops so);
      }

-- ---- by what the code knows

-- one without a pipeline has no pace that must go on
pub none_soon : (pace : Option PaceState) (clock : ℕ) → pace ≡ None → IfSome pace (GoesOnFrom clock)
none_soon None clock none = tt
none_soon (Some pace) clock none = cc

-- A core went on by itself from `now`, which is how the code keeps `before`. It has come there, and this is told of it.
went_on : {Port : Type 0} {image : MemoryImage} {stint : Stint} {gives : Port → (start : ℕ) → Request → Entry → Port → Type 0} {core_of : Port → ℕ} {logged_of : Port → Option (List Entry)} {room_of : Port → ℕ} {made end : ℕ} {told : List Told} {ends : Type 0}
    {now before : NumberedCore} (time : Entry → ℕ) (first last : Port) (after : CoreState) (clock count : ℕ) → now ≡ before → IsStint time end before.timed stint → core_of first ≡ before.number → IsOnItsWay now.timed.core after
    → Went image now.timed.core.memory stint gives core_of logged_of room_of made (moment_of now.timed.core stint.clock 0 first) (moment_of after clock count last) told ends
    → HasCome time image end gives logged_of before.number made count told ends first last before.timed (record now.timed { core = after; clock = clock; instructions = now.timed.instructions + count })
went_on {image = image} {stint = stint} {gives = gives} {core_of = core_of} {logged_of = logged_of} {room_of = room_of} {made = made} {end = end} {told = told} {ends = ends} {now = now} {before = before} time first last after clock count is may_before core way went =
    let c : TimedCore = now.timed in
    let may : IsStint time end c stint = subst (λ (n : NumberedCore). IsStint time end n.timed stint) (sym is) may_before in
    let within : Stint = record stint { clock = c.clock; end = end } in
    let next : TimedCore = record c { core = after; clock = clock; instructions = c.instructions + count } in
    subst (λ (n : NumberedCore). HasCome time image end gives logged_of before.number made count told ends first last n.timed next) is
    (has_come time image c.core.memory within gives core_of logged_of before.number first c may.none may.idle refl may.hit may.fetch_hit may.takes_time room_of made told ends after clock count last way may.fetched core (omega (arith, may.early))
    (subst (λ (s : Stint). Went image c.core.memory s gives core_of logged_of room_of made (moment_of c.core s.clock 0 first) (moment_of after clock count last) told ends) may.within went))

-- its way ends with its last access where it made as many as it might
pub told_on : {Port : Type 0} {image : MemoryImage} {stint : Stint} {gives : Port → (start : ℕ) → Request → Entry → Port → Type 0} {core_of : Port → ℕ} {logged_of : Port → Option (List Entry)} {room_of : Port → ℕ} {made end : ℕ} {told : List Told}
    {now before : NumberedCore} (time : Entry → ℕ) (first last : Port) (after : CoreState) (clock count : ℕ) → now ≡ before → IsStint time end before.timed stint → core_of first ≡ before.number → IsOnItsWay now.timed.core after
    → HasToldGoing image now.timed.core.memory stint gives core_of logged_of room_of made (moment_of now.timed.core stint.clock 0 first) (moment_of after clock count last) told
    → HasCome time image end gives logged_of before.number made count told (made ≡ stint.accesses) first last before.timed (record now.timed { core = after; clock = clock; instructions = now.timed.instructions + count })
told_on time first last after clock count is may core way going =
    went_on time first last after clock count is may core way (record { gone = going.gone; is = going.is; stops = going.stops })

-- the same, whatever is told, and wherever its way ends
pub came_on : {Port : Type 0} {image : MemoryImage} {stint : Stint} {gives : Port → (start : ℕ) → Request → Entry → Port → Type 0} {core_of : Port → ℕ} {logged_of : Port → Option (List Entry)} {room_of : Port → ℕ} {made end : ℕ}
    {now before : NumberedCore} (time : Entry → ℕ) (first last : Port) (after : CoreState) (clock count : ℕ) → now ≡ before → IsStint time end before.timed stint → core_of first ≡ before.number → IsOnItsWay now.timed.core after
    → HasGoneOn image now.timed.core.memory stint gives core_of logged_of room_of made (moment_of now.timed.core stint.clock 0 first) (moment_of after clock count last)
    → (told : List Told) × HasCome time image end gives logged_of before.number made count told ⊥ first last before.timed (record now.timed { core = after; clock = clock; instructions = now.timed.instructions + count })
came_on {image = image} {stint = stint} {gives = gives} {core_of = core_of} {logged_of = logged_of} {made = made} {now = now} time first last after clock count is may core way gone =
    let told : List Told = going_told image now.timed.core.memory stint gives core_of logged_of made (moment_of now.timed.core stint.clock 0 first) (moment_of after clock count last) gone.path in
    (told, went_on {told = told} time first last after clock count is may core way (record { gone = gone; is = refl; stops = λ never. absurd never }))
