-- What is told of a core that goes on by itself: its instructions, and which of them made accesses.
use Rattle.std.specs.Prelude.{⊤, ◌≡◌, ◌+◌, ◌-◌, ◌*◌, ◌⊎◌, ℕ, zero, suc, if◌then◌else◌, List, [], ◌∷◌, ◌++◌, flat_map, Option}
use Rattle.std.proofs.Common.{inl, inr}
use Rattle.zs_num.specs.declared.entry.Entry.{Entry}
use Rattle.zs_num.specs.declared.request.Request.{Request}
use Rattle.elf_load.specs.MemoryImage.{MemoryImage}
use Rattle.rv_core.specs.declared.leg.Leg.{Leg}
use Rattle.rv_core.specs.declared.memory_range.MemoryRange.{MemoryRange}
use Rattle.rv_core.specs.declared.stint.Stint.{Stint}
use Rattle.rv_core.specs.Executions.{LeadsTo}
use Rattle.rv_core.specs.Hits.{GoesOn, HasGoneOn, MakesFetch, MakesHit, Moment, RunsOn}

pub data Told : Type 0 where
  -- the core executed the instruction at pc
  Ran : (pc : ℕ) → Told
  -- it made an access of the instruction at pc, or for its fetch
  Made : (pc : ℕ) → Told

-- ---- of the legs of its way

-- that of so many instructions that follow each other, the first of them at pc
abbrev pub stretch_told : (pc count : ℕ) → List Told
stretch_told pc zero = []
stretch_told pc (suc n) = Ran pc ∷ stretch_told (pc + 4) n

abbrev pub leg_told : Leg → List Told
leg_told leg = stretch_told leg.pc leg.count ++ (if leg.made then Made (leg.pc + 4 * (leg.count - 1)) ∷ [] else [])

abbrev pub told_of : List Leg → List Told
told_of legs = flat_map leg_told legs

-- ---- of the way itself

-- instructions alone
abbrev pub leading_told : (line : Option ℕ) → (n : ℕ) → (image : MemoryImage) → (registers : List ℕ) → (pc : ℕ) → (registers_after : List ℕ) → (pc_after : ℕ)
    → LeadsTo line n image registers pc registers_after pc_after → List Told
leading_told line zero image registers pc registers_after pc_after leads = []
leading_told line (suc n) image registers pc registers_after pc_after (between, (pc_between, (leads, lies, last))) =
    leading_told line n image registers pc between pc_between leads ++ Ran pc_between ∷ []

module _ {Port : Type 0} (image : MemoryImage) (memory : MemoryRange) (stint : Stint)
    (gives : Port → (start : ℕ) → Request → Entry → Port → Type 0) (core_of : Port → ℕ) (logged_of : Port → Option (List Entry)) where
  abbrev pub running_told : (before after : Moment Port) → RunsOn image memory stint gives core_of logged_of before after → List Told
  running_told before after runs = leading_told before.line runs.instructions image before.registers before.pc after.registers after.pc runs.leads

  -- an instruction with its access, or a fetch
  abbrev pub making_told : (before after : Moment Port) → MakesHit image memory stint gives core_of logged_of before after ⊎ MakesFetch image memory stint gives core_of logged_of before after → List Told
  making_told before after (inl hit) = Ran before.pc ∷ Made before.pc ∷ []
  making_told before after (inr fetch) = Made before.pc ∷ []

  abbrev pub going_told : (accesses : ℕ) → (before after : Moment Port) → GoesOn image memory stint gives core_of logged_of accesses before after → List Told
  going_told zero before after runs = running_told before after runs
  going_told (suc n) before after (s, (t, (path, (made, behind)))) = going_told n before s path ++ (making_told s t made ++ running_told t after behind)

  -- The way ends with its last access, if it made any: no instruction comes behind that.
  abbrev pub EndsThere : (accesses : ℕ) → (before after : Moment Port) → GoesOn image memory stint gives core_of logged_of accesses before after → Type 0
  EndsThere zero before after runs = ⊤
  EndsThere (suc n) before after (s, (t, (path, (made, behind)))) = behind.instructions ≡ 0

  -- The core went on from there to here, made so many accesses, and this is told of it. Where these are as many as it may
  -- make, it stopped with the last one.
  pub record HasToldGoing (room_of : Port → ℕ) (made : ℕ) (before after : Moment Port) (told : List Told) : Type 0 where
    pub gone : HasGoneOn image memory stint gives core_of logged_of room_of made before after
    pub is : told ≡ going_told made before after gone.path
    pub stops : made ≡ stint.accesses → EndsThere made before after gone.path
