-- A core that goes on by itself asks for its instruction, or executes it: what it keeps before either.
use Rattle.std.proofs.Common.{◌≡◌, Bool, true, false, not, ◌&&◌, Option, Some, None, refl, ap, sym, ◌∙◌, true≢false}
use Rattle.std.specs.Prelude.{IsTrue, is_none, is_some}
use Rattle.std.proofs.lemmas.Bool.{and_parts, eq-eqb, not-true}
use Rattle.zs_num.specs.Request.{line_at}
use Rattle.elf_load.specs.MemoryImage.{MemoryImage, fetched_word}
use Rattle.rv_core.specs.Accesses.{is_in_memory}
use Rattle.rv_core.specs.CoreState.{CoreState}
use Rattle.rv_core.specs.Sound.{IsSoundCore}
use Rattle.rv_core.specs.Step.{executed, is_free, is_latest, needs_fetch, unfetched}
use Rattle.rv_core.specs.Asked.{stepped}
use Rattle.rv_core.proofs.Kept.{IsReady}

-- a core that has to fetch the instruction at pc fetches, from another line than the latest, which lies in memory
pub record HasToFetch (core : CoreState) : Type 0 where
  pub fetching : IsTrue core.fetching
  pub other : is_latest core.fetched_line (line_at core.pc) ≡ false
  pub inside : is_in_memory core.memory core.pc 4 ≡ true

pub needing : (image : MemoryImage) (core : CoreState) → needs_fetch image core ≡ true → HasToFetch core
unfolding needs_fetch
needing image core e =
    let third = and_parts _ (is_in_memory core.memory core.pc 4) e in
    let second = and_parts _ (is_some (fetched_word image.segments core.pc)) third.0 in
    let first = and_parts core.fetching (not (is_latest core.fetched_line (line_at core.pc))) second.0 in
    record { fetching = first.0; other = not-true _ first.1; inside = third.1 }

-- the line of an instruction that was fetched is the latest
other-unfetched : (core : CoreState) → IsSoundCore core → is_latest core.fetched_line (line_at core.pc) ≡ false → (fetched : Bool) → core.is_fetched ≡ fetched → core.is_fetched ≡ false
other-unfetched core s other true e =
    let line : core.fetched_line ≡ Some (line_at core.pc) = s.line e in
    let latest : is_latest core.fetched_line (line_at core.pc) ≡ true = rw line (eq-eqb _ _ refl) in
    absurd (true≢false (sym latest ∙ other))
other-unfetched core s other false e = e

none-and : (b : Bool) → (b && false) ≡ false
none-and true = refl
none-and false = refl

none-of : {A : Type 0} (o : Option A) → is_none o ≡ true → o ≡ None
none-of None e = refl
none-of (Some x) e = absurd (true≢false (sym e))

pub needing-ready : (core : CoreState) → is_free core ≡ true → IsSoundCore core → is_latest core.fetched_line (line_at core.pc) ≡ false → IsReady core
needing-ready core free s other =
    let both = and_parts (is_none core.halted) (is_none core.instruction) free in record {
      sound = s;
      halted = none-of core.halted both.0;
      instruction = none-of core.instruction both.1;
      fetched = other-unfetched core s other core.is_fetched refl;
    }

-- the instruction that was fetched is executed
pub unfetched-ready : (core : CoreState) → is_free core ≡ true → IsSoundCore core → IsReady (unfetched core)
unfetched-ready core free s =
    let both = and_parts (is_none core.halted) (is_none core.instruction) free in record {
      sound = record {
        registers = s.registers;
        zero = s.zero;
        reach = s.reach;
        served = s.served;
        paired = s.paired;
        ending = s.ending;
        few = s.few;
        alone = s.alone;
        waits = s.waits;
        aligned = s.aligned;
        fetched = λ is. absurd (true≢false (sym is));
        line = λ is. absurd (true≢false (sym is));
      };
      halted = none-of core.halted both.0;
      instruction = none-of core.instruction both.1;
      fetched = refl;
    }

-- a core that does not fetch has none to fetch
pub never-needs : (image : MemoryImage) (core : CoreState) → core.fetching ≡ false → needs_fetch image core ≡ false
unfolding needs_fetch
never-needs image core fetching = rw fetching refl

-- nor has one whose next instruction stands in the line of its latest fetch
pub latest-needs : (image : MemoryImage) (core : CoreState) → is_latest core.fetched_line (line_at core.pc) ≡ true → needs_fetch image core ≡ false
unfolding needs_fetch
latest-needs image core latest = rw latest (ap (λ b. b && is_some (fetched_word image.segments core.pc) && is_in_memory core.memory core.pc 4) (none-and core.fetching))

-- a core that does not have to fetch, and of which no instruction was fetched, executes
pub stepped-unfetching : (image : MemoryImage) (core : CoreState) → needs_fetch image core ≡ false → core.is_fetched ≡ false → executed image core ≡ stepped image core
stepped-unfetching image core needs fetched =
    let same : unfetched core ≡ core = ap (λ (b : Bool). record core { is_fetched = b }) (sym fetched) in
    rw needs (ap (executed image) (sym same))
