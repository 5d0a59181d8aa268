-- What is told of the turns of a core: its instructions, and which of them made accesses.
use Rattle.std.specs.Prelude.{◌≡◌, ◌-◌, ◌<◌, ℕ, zero, suc, false, if◌then◌else◌, All, List, [], ◌∷◌, ◌++◌, length, replicate, Option}
use Rattle.zs_num.specs.declared.entry.Entry.{Entry}
use Rattle.zs_num.specs.declared.entry.Outcome.TheVariants.{Hit}
use Rattle.zs_num.specs.declared.request.Request.{Request}
use Rattle.elf_load.specs.MemoryImage.{MemoryImage}
use Rattle.rv_core.specs.declared.leg.Leg.{Leg}
use Rattle.rv_core.specs.Told.{told_of, Made, Ran, Told}
use Rattle.reference.specs.TimedCore.{TimedCore, after_instruction, core_after_access, goes_on_alone, ran_to}
use Rattle.bound_core.specs.Taken.{TakesThese}

module _ (image : MemoryImage) (end : ℕ) where
  -- that of so many local instructions of a core, or of fewer where it stops before: of those that are counted
  abbrev pub told_next : ℕ → TimedCore → List Told
  told_next zero c = []
  told_next (suc n) c =
      if goes_on_alone end c
      then replicate ((after_instruction image c).instructions - c.instructions) (Ran c.core.pc) ++ told_next n (after_instruction image c)
      else []

  -- that of all its local instructions: up to an access, a halt or the end of the interval (as `ran_to` runs)
  abbrev pub told_alone : TimedCore → List Told
  told_alone c = told_next (suc (end - c.clock)) c

module _ (time : Entry → ℕ) (image : MemoryImage) (end : ℕ) where
  -- the core behind turns that took these entries
  abbrev pub behind_turns : List Entry → TimedCore → TimedCore
  behind_turns [] c = c
  behind_turns (e ∷ entries) c = behind_turns entries (core_after_access time e (ran_to image end c))

  -- what is told of these turns
  abbrev pub told_by_turns : List Entry → TimedCore → List Told
  told_by_turns [] c = []
  told_by_turns (e ∷ entries) c =
      told_alone image end c ++ Made (ran_to image end c).core.pc ∷ told_by_turns entries (core_after_access time e (ran_to image end c))

  -- This is told of turns that took these entries, and of instructions of the turn that follows: with what that turn has
  -- left to tell it is what all of them tell.
  abbrev pub TellsTurns : List Told → List Entry → (before after : TimedCore) → Type 0
  TellsTurns told entries before after =
      told ++ told_alone image end after ≡ told_by_turns entries before ++ told_alone image end (behind_turns entries before)

-- A core took so many turns of those that it might, whose accesses were hits, and went on within the turn that follows. The
-- legs of its way that came behind those that were there tell of it. Where it took as many as it might, if any, a core that
-- does not fetch stands behind the last one. One that fetches may have gone on: behind a fetch it has taken the instruction
-- that it fetched.
pub record TakesTold {Port : Type 0} (time : Entry → ℕ) (image : MemoryImage) (end : ℕ) (gives : Port → (start : ℕ) → Request → Entry → Port → Type 0)
    (logged_of : Port → Option (List Entry)) (number most count : ℕ) (way way_after : List Leg) (port port_after : Port) (before after : TimedCore) : Type 0 where
  pub entries : List Entry
  pub told : List Told
  pub many : length entries ≡ count
  pub these : TakesThese time image end gives logged_of number entries port port_after before after
  pub tells : TellsTurns time image end told entries before after
  pub hits : All (λ e. e.outcome ≡ Hit) entries
  pub way_is : told_of way_after ≡ told_of way ++ told
  pub stops : before.core.fetching ≡ false → 0 < most → count ≡ most → after ≡ behind_turns time image end entries before
