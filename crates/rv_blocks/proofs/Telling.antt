-- What is told of a core that goes on by itself, step by step.
use Rattle.std.proofs.Common.{◌≡◌, ◌+◌, ◌-◌, ◌*◌, ◌≤◌, ◌<◌, ℕ, zero, suc, List, [], ◌∷◌, ◌++◌, Option, Some, None, true, false, length, inl, inr, refl, subst, sym, ap, ◌∙◌, append-nil, append_assoc, arith}
use Rattle.std.specs.Prelude.{slice_get}
use Rattle.zs_num.specs.declared.entry.Entry.{Entry}
use Rattle.zs_num.specs.declared.request.Request.{Request}
use Rattle.elf_load.specs.MemoryImage.{MemoryImage}
use Rattle.rv_core.specs.declared.leg.Leg.{Leg}
use Rattle.rv_core.specs.declared.memory_range.MemoryRange.{MemoryRange}
use Rattle.rv_core.specs.declared.stint.Stint.{Stint}
use Rattle.rv_core.specs.Executions.{Leads, LiesIn}
use Rattle.rv_core.specs.Hits.{GoesOn, HasGoneOn, MakesFetch, MakesHit, Moment, RunsOn}
use Rattle.rv_core.specs.Told.{going_told, leg_told, making_told, running_told, stretch_told, told_of, EndsThere, HasToldGoing, Told, Made, Ran}
use Rattle.rv_blocks.specs.declared.hits.Left.{Left}
use Rattle.rv_blocks.specs.declared.slot.Slot.{Slot}
use Rattle.rv_blocks.specs.Coming.{moment_at}
use Rattle.rv_blocks.specs.Slots.{does, name_of, AreSlots}
use Rattle.rv_blocks.specs.Telling.{HasTold}
use Rattle.rv_blocks.proofs.Steps.{leads_by}

-- ---- legs

-- one instruction more
stretch_by : (pc n : ℕ) → stretch_told pc n ++ Ran (pc + 4 * n) ∷ [] ≡ stretch_told pc (suc n)
stretch_by pc zero = ap (λ p. Ran p ∷ []) (omega arith)
stretch_by pc (suc n) =
    let same : pc + 4 * suc n ≡ pc + 4 + 4 * n = omega arith in
    ap (λ p. Ran pc ∷ (stretch_told (pc + 4) n ++ Ran p ∷ [])) same ∙ ap (λ l. Ran pc ∷ l) (stretch_by (pc + 4) n)

-- the one of a slot
stretch_more : (first from place : ℕ) → from ≤ place → stretch_told (first + 4 * from) (place - from) ++ Ran (first + 4 * place) ∷ [] ≡ stretch_told (first + 4 * from) (place + 1 - from)
stretch_more first from place reached =
    let here : first + 4 * place ≡ first + 4 * from + 4 * (place - from) = omega (arith, reached) in
    let more : suc (place - from) ≡ place + 1 - from = omega (arith, reached) in
    ap (λ p. stretch_told (first + 4 * from) (place - from) ++ Ran p ∷ []) here ∙ stretch_by (first + 4 * from) (place - from) ∙ ap (stretch_told (first + 4 * from)) more

-- a leg whose last instruction made an access
leg_made : (first from place : ℕ) → from ≤ place
    → leg_told (record { pc = first + 4 * from; count = place + 1 - from; made = true }) ≡ stretch_told (first + 4 * from) (place - from) ++ Ran (first + 4 * place) ∷ Made (first + 4 * place) ∷ []
leg_made first from place reached =
    let last : first + 4 * from + 4 * (place + 1 - from - 1) ≡ first + 4 * place = omega (arith, reached) in
    let before = stretch_told (first + 4 * from) (place - from) in
    ap (λ p. stretch_told (first + 4 * from) (place + 1 - from) ++ Made p ∷ []) last ∙ ap (λ l. l ++ Made (first + 4 * place) ∷ []) (sym (stretch_more first from place reached))
    ∙ append_assoc before (Ran (first + 4 * place) ∷ []) (Made (first + 4 * place) ∷ [])

-- a leg of a fetch: no instruction, and an access
leg_fetch : (pc : ℕ) → leg_told (record { pc = pc; count = 0; made = true }) ≡ Made pc ∷ []
leg_fetch pc = let here : pc + 4 * (0 - 1) ≡ pc = omega arith in ap (λ p. Made p ∷ []) here

-- nothing is told of no instruction
stretch_none : (pc place : ℕ) → stretch_told pc (place - place) ≡ []
stretch_none pc place = let none : place - place ≡ 0 = omega arith in ap (stretch_told pc) none

module _ {Port : Type 0} (image : MemoryImage) (memory : MemoryRange) (stint : Stint)
    (gives : Port → (start : ℕ) → Request → Entry → Port → Type 0) (core_of : Port → ℕ) (logged_of : Port → Option (List Entry)) (room_of : Port → ℕ) where
  abbrev Runs : (there here : Moment Port) → Type 0
  Runs there here = RunsOn image memory stint gives core_of logged_of there here

  abbrev Goes : (n : ℕ) → (there here : Moment Port) → Type 0
  Goes n there here = GoesOn image memory stint gives core_of logged_of n there here

  abbrev told_going : (n : ℕ) → (there here : Moment Port) → Goes n there here → List Told
  told_going n there here path = going_told image memory stint gives core_of logged_of n there here path

  abbrev Ends : (n : ℕ) → (there here : Moment Port) → Goes n there here → Type 0
  Ends n there here path = EndsThere image memory stint gives core_of logged_of n there here path

  abbrev Has : (before after : ℕ) (there here : Moment Port) (legs legs_after : List Leg) (untold : List Told) → Type 0
  Has before after there here legs legs_after untold = HasTold image memory stint gives core_of logged_of room_of before after there here legs legs_after untold

  -- ---- an instruction more

  -- one instruction without an access
  pub record IsNext (here last : Moment Port) : Type 0 where
    pub lies : LiesIn here.line here.pc
    pub leads : Leads image here.registers here.pc last.registers last.pc
    pub line : last.line ≡ here.line
    pub clock : last.clock ≡ here.clock + 1
    pub count : last.count ≡ here.count + 1
    pub port : last.port ≡ here.port
    pub in_time : last.clock ≤ stint.end

  -- the one of the slot at a place, which lies in the line of the latest fetch of a core that fetches
  pub is_next_in : (first : ℕ) (slots : List Slot) → AreSlots image first slots → (place : ℕ) (slot : Slot) → slice_get slots place ≡ Some slot
      → (line : Option ℕ) (left : Left) (y z : List ℕ) (next : ℕ) (port : Port) → LiesIn line (first + 4 * place) → 0 < left.cycles → left.cycles + left.waited ≤ stint.end - stint.clock
      → Some (record { registers = z; place = next }) ≡ does (name_of slot) (record { first = first; count = length slots }) slot (record { registers = y; place = place })
      → IsNext (moment_at stint y (first + 4 * place) line left port) (moment_at stint z (first + 4 * next) line (record left { cycles = left.cycles - 1 }) port)
  is_next_in first slots are place slot here line left y z next port lies some paid value = record {
    lies = lies;
    leads = leads_by image first slots are place slot here y z next value;
    line = refl;
    clock = omega (arith, some, paid);
    count = omega (arith, some, paid);
    port = refl;
    in_time = omega arith;
  }

  -- the same of a core that does not fetch
  pub is_next : (first : ℕ) (slots : List Slot) → AreSlots image first slots → (place : ℕ) (slot : Slot) → slice_get slots place ≡ Some slot
      → (left : Left) (y z : List ℕ) (next : ℕ) (port : Port) → 0 < left.cycles → left.cycles + left.waited ≤ stint.end - stint.clock
      → Some (record { registers = z; place = next }) ≡ does (name_of slot) (record { first = first; count = length slots }) slot (record { registers = y; place = place })
      → IsNext (moment_at stint y (first + 4 * place) None left port) (moment_at stint z (first + 4 * next) None (record left { cycles = left.cycles - 1 }) port)
  is_next first slots are place slot here left y z next port some paid value = is_next_in first slots are place slot here None left y z next port tt some paid value

  abbrev runs_more : (there here last : Moment Port) → Runs there here → IsNext here last → Runs there last
  runs_more there here last first next = record {
    instructions = suc first.instructions;
    leads = (here.registers, (here.pc, (first.leads, subst (λ l. LiesIn l here.pc) first.line next.lies, next.leads)));
    line = next.line ∙ first.line;
    clock = omega (arith, next.clock, first.clock);
    count = omega (arith, next.count, first.count);
    port = next.port ∙ first.port;
    in_time = next.in_time;
  }

  abbrev goes_more : (n : ℕ) (there here last : Moment Port) → Goes n there here → IsNext here last → Goes n there last
  goes_more zero there here last path next = runs_more there here last path next
  goes_more (suc n) there here last (s, (t, (path, (made, behind)))) next = (s, (t, (path, (made, runs_more t here last behind next))))

  told_more : (n : ℕ) (there here last : Moment Port) (path : Goes n there here) (next : IsNext here last)
      → told_going n there last (goes_more n there here last path next) ≡ told_going n there here path ++ Ran here.pc ∷ []
  told_more zero there here last path next = refl
  told_more (suc n) there here last (s, (t, (path, (made, behind)))) next =
      let before = told_going n there s path in
      let access = making_told image memory stint gives core_of logged_of s t made in
      let after = running_told image memory stint gives core_of logged_of t here behind in
      let one = Ran here.pc ∷ [] in
      ap (λ l. before ++ l) (sym (append_assoc access after one)) ∙ sym (append_assoc before (access ++ after) one)

  -- where more was executed that is not told
  adds : (legs legs_after : List Leg) (untold told more all : List Told) → told_of legs_after ++ untold ≡ told_of legs ++ told → all ≡ told ++ more
      → told_of legs_after ++ (untold ++ more) ≡ told_of legs ++ all
  adds legs legs_after untold told more all is same =
      sym (append_assoc (told_of legs_after) untold more) ∙ ap (λ l. l ++ more) is ∙ append_assoc (told_of legs) told more ∙ ap (λ l. told_of legs ++ l) (sym same)

  -- where it made no access, it need not end with one
  ends_without : (n : ℕ) (there here : Moment Port) (path : Goes n there here) → n ≡ 0 → Ends n there here path
  ends_without zero there here path none = tt
  ends_without (suc n) there here path none = absurd (omega (arith, none))

  -- where it might make none from the start, if it may make none more: so it does not go on behind its last one
  has_more : (before after : ℕ) (there here last : Moment Port) (legs legs_after : List Leg) (untold : List Told) → Has before after there here legs legs_after untold → (after ≡ 0 → before ≡ 0) → IsNext here last
      → Has before after there last legs legs_after (untold ++ Ran here.pc ∷ [])
  has_more before after there here last legs legs_after untold has ended next =
      let come = has.come in
      record {
        come = record {
          made = come.made;
          few = come.few;
          room = subst (λ p. room_of there.port ≤ room_of p + come.made) (sym next.port) come.room;
          path = goes_more come.made there here last come.path next;
        };
        is = adds legs legs_after untold (told_going come.made there here come.path) (Ran here.pc ∷ []) _ has.is (told_more come.made there here last come.path next);
        stops = λ none. ends_without come.made there last (goes_more come.made there here last come.path next) (omega (arith, come.few, none, ended none));
      }

  -- ---- an access more

  has_hit : (before after : ℕ) (there here last : Moment Port) (legs legs_after : List Leg) (untold : List Told) → Has before after there here legs legs_after untold
      → MakesHit image memory stint gives core_of logged_of here last → 0 < after → room_of here.port ≤ room_of last.port + 1
      → Has before (after - 1) there last legs legs_after (untold ++ Ran here.pc ∷ Made here.pc ∷ [])
  has_hit before after there here last legs legs_after untold has hit some room =
      let come = has.come in
      let stands : Runs last last = record { instructions = 0; leads = (refl, refl); line = refl; clock = omega arith; count = omega arith; port = refl; in_time = hit.in_time } in
      record {
        come = record {
          made = suc come.made;
          few = omega (arith, come.few, some);
          room = omega (arith, come.room, room);
          path = (here, (last, (come.path, (inl hit, stands))));
        };
        is = adds legs legs_after untold (told_going come.made there here come.path) (Ran here.pc ∷ Made here.pc ∷ []) _ has.is refl;
        stops = λ none. refl;
      }

  -- a fetch is made
  has_fetch : (before after left : ℕ) (there here last : Moment Port) (legs legs_after : List Leg) (untold : List Told) → Has before after there here legs legs_after untold
      → MakesFetch image memory stint gives core_of logged_of here last → left + 1 ≡ after → room_of here.port ≤ room_of last.port + 1
      → Has before left there last legs legs_after (untold ++ Made here.pc ∷ [])
  has_fetch before after left there here last legs legs_after untold has fetch one room =
      let come = has.come in
      let stands : Runs last last = record { instructions = 0; leads = (refl, refl); line = refl; clock = omega arith; count = omega arith; port = refl; in_time = omega (arith, fetch.in_time) } in
      record {
        come = record {
          made = suc come.made;
          few = omega (arith, come.few, one);
          room = omega (arith, come.room, room);
          path = (here, (last, (come.path, (inr fetch, stands))));
        };
        is = adds legs legs_after untold (told_going come.made there here come.path) (Made here.pc ∷ []) _ has.is refl;
        stops = λ none. refl;
      }

  -- ---- what is told of it

  -- nothing is told of a core that has not gone on
  pub has_begun : (accesses : ℕ) (there here : Moment Port) (legs : List Leg) (pc place : ℕ)
      → here.registers ≡ there.registers → here.pc ≡ there.pc → here.line ≡ there.line → here.clock ≡ there.clock → here.count ≡ there.count → here.port ≡ there.port → here.clock ≤ stint.end
      → Has accesses accesses there here legs legs (stretch_told pc (place - place))
  has_begun accesses there here legs pc place registers stands line clock count port in_time = record {
    come = record {
      made = 0;
      few = omega arith;
      room = subst (λ p. room_of there.port ≤ room_of p + 0) (sym port) (omega arith);
      path = record { instructions = 0; leads = (registers, stands); line = line; clock = omega (arith, clock); count = omega (arith, count); port = port; in_time = in_time };
    };
    is = ap (λ l. told_of legs ++ l) (stretch_none pc place);
    stops = λ none. tt;
  }

  -- all is told
  pub has_all : (before after : ℕ) (there here : Moment Port) (legs legs_now legs_after : List Leg) (untold : List Told) (pc place : ℕ) → Has before after there here legs legs_now untold
      → told_of legs_after ≡ told_of legs_now ++ untold → Has before after there here legs legs_after (stretch_told pc (place - place))
  has_all before after there here legs legs_now legs_after untold pc place has told = record {
    come = has.come;
    is = ap (λ l. told_of legs_after ++ l) (stretch_none pc place) ∙ append-nil (told_of legs_after) ∙ told ∙ has.is;
    stops = has.stops;
  }

  -- all is told, and then a fetch by a leg of its own
  pub has_fetched : (before after left : ℕ) (there here last : Moment Port) (legs legs_now legs_after : List Leg) (untold : List Told) (pc place : ℕ) → Has before after there here legs legs_now untold
      → MakesFetch image memory stint gives core_of logged_of here last → left + 1 ≡ after → room_of here.port ≤ room_of last.port + 1
      → told_of legs_after ≡ (told_of legs_now ++ untold) ++ leg_told (record { pc = here.pc; count = 0; made = true })
      → Has before left there last legs legs_after (stretch_told pc (place - place))
  has_fetched before after left there here last legs legs_now legs_after untold pc place has fetch one room told =
      has_all before left there last legs legs_now legs_after (untold ++ Made here.pc ∷ []) pc place (has_fetch before after left there here last legs legs_now untold has fetch one room)
      (told ∙ ap (λ l. (told_of legs_now ++ untold) ++ l) (leg_fetch here.pc) ∙ append_assoc (told_of legs_now) untold (Made here.pc ∷ []))

  -- a leg is told, and nothing behind it
  has_leg : (before after : ℕ) (there here : Moment Port) (legs legs_now legs_after : List Leg) (leg : Leg) (untold : List Told) (pc place : ℕ) → Has before after there here legs legs_now untold
      → leg_told leg ≡ untold → told_of legs_after ≡ told_of legs_now ++ leg_told leg → Has before after there here legs legs_after (stretch_told pc (place - place))
  has_leg before after there here legs legs_now legs_after leg untold pc place has same told =
      has_all before after there here legs legs_now legs_after untold pc place has (told ∙ ap (λ l. told_of legs_now ++ l) same)

  module _ (first : ℕ) (from place : ℕ) (reached : from ≤ place) (before after : ℕ) (there : Moment Port) (legs legs_now : List Leg) where
    -- a leg goes on
    pub has_on : (here last : Moment Port) → here.pc ≡ first + 4 * place → Has before after there here legs legs_now (stretch_told (first + 4 * from) (place - from)) → (after ≡ 0 → before ≡ 0) → IsNext here last
        → Has before after there last legs legs_now (stretch_told (first + 4 * from) (place + 1 - from))
    has_on here last stands has ended next =
        let P : List Told → Type 0 = λ l. Has before after there last legs legs_now l in
        let more = has_more before after there here last legs legs_now (stretch_told (first + 4 * from) (place - from)) has ended next in
        subst P (ap (λ p. stretch_told (first + 4 * from) (place - from) ++ Ran p ∷ []) stands ∙ stretch_more first from place reached) more

    -- it ends by a jump
    pub has_to : (here last : Moment Port) → here.pc ≡ first + 4 * place → Has before after there here legs legs_now (stretch_told (first + 4 * from) (place - from)) → (after ≡ 0 → before ≡ 0) → IsNext here last
        → (legs_after : List Leg) (pc next : ℕ) → told_of legs_after ≡ told_of legs_now ++ leg_told (record { pc = first + 4 * from; count = place + 1 - from; made = false })
        → Has before after there last legs legs_after (stretch_told pc (next - next))
    has_to here last stands has ended next legs_after pc place_after told =
        has_leg before after there last legs legs_now legs_after (record { pc = first + 4 * from; count = place + 1 - from; made = false }) _ pc place_after (has_on here last stands has ended next) (append-nil (stretch_told (first + 4 * from) (place + 1 - from))) told

    -- it ends by an access
    pub has_served : (here last : Moment Port) → here.pc ≡ first + 4 * place → Has before after there here legs legs_now (stretch_told (first + 4 * from) (place - from))
        → MakesHit image memory stint gives core_of logged_of here last → 0 < after → room_of here.port ≤ room_of last.port + 1
        → (legs_after : List Leg) (pc next : ℕ) → told_of legs_after ≡ told_of legs_now ++ leg_told (record { pc = first + 4 * from; count = place + 1 - from; made = true })
        → Has before (after - 1) there last legs legs_after (stretch_told pc (next - next))
    has_served here last stands has hit some room legs_after pc place_after told =
        let untold = stretch_told (first + 4 * from) (place - from) in
        let hits = has_hit before after there here last legs legs_now untold has hit some room in
        has_leg before (after - 1) there last legs legs_now legs_after (record { pc = first + 4 * from; count = place + 1 - from; made = true }) _ pc place_after hits
        (leg_made first from place reached ∙ ap (λ p. untold ++ Ran p ∷ Made p ∷ []) (sym stands)) told

  -- the last leg is told
  pub has_last : (before after : ℕ) (there here : Moment Port) (legs legs_now legs_after : List Leg) (pc count : ℕ) → Has before after there here legs legs_now (stretch_told pc count)
      → told_of legs_after ≡ told_of legs_now ++ leg_told (record { pc = pc; count = count; made = false }) → Has before after there here legs legs_after []
  has_last before after there here legs legs_now legs_after pc count has told =
      has_leg before after there here legs legs_now legs_after (record { pc = pc; count = count; made = false }) _ 0 0 has (append-nil (stretch_told pc count)) told

  -- there is none
  pub has_no_last : (before after : ℕ) (there here : Moment Port) (legs legs_after : List Leg) (pc count : ℕ) → Has before after there here legs legs_after (stretch_told pc count) → count ≡ 0
      → Has before after there here legs legs_after []
  has_no_last before after there here legs legs_after pc count has none = subst (λ n. Has before after there here legs legs_after (stretch_told pc n)) none has

  -- everything is told
  pub has_told : (left : ℕ) (before after : Moment Port) (legs legs_after : List Leg) → Has stint.accesses left before after legs legs_after []
      → (told : List Told) × HasToldGoing image memory stint gives core_of logged_of room_of (stint.accesses - left) before after told × (told_of legs_after ≡ told_of legs ++ told)
  has_told left before after legs legs_after has =
      let come = has.come in
      let told = told_going come.made before after come.path in
      let all : come.made ≡ stint.accesses - left = omega (arith, come.few) in
      let P : ℕ → Type 0 = λ n. (path : Goes n before after) × ((told ≡ told_going n before after path) × (left ≡ 0 → Ends n before after path)) in
      let same : P (stint.accesses - left) = subst P all (come.path, (refl, has.stops)) in
      let gone : HasGoneOn image memory stint gives core_of logged_of room_of (stint.accesses - left) before after = record { few = omega arith; room = omega (arith, all, come.room); path = same.0 } in
      (told, record { gone = gone; is = same.1.0; stops = λ made. same.1.1 (omega (arith, come.few, made)) }, sym (append-nil (told_of legs_after)) ∙ has.is)
