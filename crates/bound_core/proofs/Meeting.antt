-- What a core does that came to an instruction of one access, and has not begun it.
use Rattle.std.proofs.Common.{◌≡◌, ℕ, ◌+◌, Bool, IsTrue, true, false, true≢false, Option, Some, None, is_none, refl, sym, ap, subst}
use Rattle.std.specs.Prelude.{◌&&◌}
use Rattle.std.proofs.lemmas.List.{append-nil}
use Rattle.zs_num.specs.Servable.{IsServable}
use Rattle.zs_num.specs.declared.entry.Entry.{Entry}
use Rattle.elf_load.specs.MemoryImage.{MemoryImage}
use Rattle.rv_core.specs.declared.did.Did.{Did}
use Rattle.rv_core.specs.declared.did.Did.TheVariants.{GoesOn, Stops, Meets}
use Rattle.rv_core.specs.declared.single.Single.{Single}
use Rattle.rv_core.specs.declared.single.Single.TheVariants.{Load, Store}
use Rattle.rv_core.specs.CoreState.{CoreState}
use Rattle.rv_core.specs.Single.{access_of, begun, begun_if, comes_to_next, met_by}
use Rattle.rv_core.specs.Sound.{IsSoundCore}
use Rattle.rv_core.specs.Step.{answered, is_free}
use Rattle.reference.specs.TimedCore.{TimedCore, asks, core_after_access, goes_on_alone, ran_to}
use Rattle.bound_core.specs.Met.{begun_in_time}
use Rattle.reference.proofs.CoreKept.{CoreLaws, ran_stays_sound}
use Rattle.reference.proofs.MoreServable.{more_servable}

-- a step behind which the core comes to another instruction met no access
pub none_met : (did : Did) → comes_to_next did ≡ true → met_by did ≡ None
none_met GoesOn next = refl
none_met Stops next = refl
none_met (Meets single) next = absurd (true≢false (sym next))

and_false : (free : Bool) → (free && false) ≡ false
and_false true = refl
and_false false = refl

pub begun_waits : (single : Single) (core : CoreState) → is_free (begun single core) ≡ false
begun_waits single core = and_false (is_none core.halted)

-- a core that goes on by itself comes to another instruction, unless it met an access
pub comes_on : (met : Option Single) (core : CoreState) → is_free core ≡ true → is_none met ≡ is_free (begun_if met core)
comes_on None core free = sym free
comes_on (Some single) core free = sym (begun_waits single core)

held_stops : (end : ℕ) (c : TimedCore) → is_free c.core ≡ false → goes_on_alone end c ≡ false
held_stops end c held = rw held refl

-- a core that has begun an access does not go on
pub begun_stops : (end : ℕ) (single : Single) (c : TimedCore) → goes_on_alone end (begun_in_time (Some single) c) ≡ false
begun_stops end single c = held_stops end (begun_in_time (Some single) c) (begun_waits single c.core)

-- it is as sound as the one that ran its local instructions
pub begun_soundly : (laws : CoreLaws) (image : MemoryImage) (end : ℕ) (met : Option Single) (before now : TimedCore) → IsSoundCore before.core → begun_in_time met now ≡ ran_to image end before
    → IsSoundCore (begun_if met now.core)
begun_soundly laws image end met before now sound is =
    subst IsSoundCore (sym (ap (λ (t : TimedCore). t.core) is)) (ran_stays_sound laws image end before sound).sound

-- its access can be served
pub begun_servable : (single : Single) (core : CoreState) (l1i : Bool) → IsSoundCore (begun single core) → (IsTrue core.fetching → IsTrue l1i)
    → IsServable core.memory.base core.memory.size l1i (access_of single)
begun_servable single core l1i sound has = more_servable core.memory.base core.memory.size core.fetching l1i (access_of single) has sound.served.0

-- and writes nothing on the console
pub access_made : (time : Entry → ℕ) (e : Entry) (single : Single) (c : TimedCore)
    → core_after_access time e (begun_in_time (Some single) c) ≡ record c { core = answered e.reply (begun single c.core); clock = c.clock + time e }
unfolding core_after_access
access_made time e (Load addr destination) c =
    ap (λ console. record c { core = answered e.reply (begun (Load addr destination) c.core); clock = c.clock + time e; console = console }) (append-nil c.console)
access_made time e (Store addr width value) c =
    ap (λ console. record c { core = answered e.reply (begun (Store addr width value) c.core); clock = c.clock + time e; console = console }) (append-nil c.console)

-- a core that has no access to make came to none
pub none_asked : (met : Option Single) (c : TimedCore) → asks (begun_in_time met c) ≡ None → begun_in_time met c ≡ c
none_asked None c asked = refl
none_asked (Some single) c asked = cc
