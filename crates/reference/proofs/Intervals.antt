-- Cores and shards stand for a machine from interval to interval.
use Rattle.std.proofs.Common.{◌≡◌, ℕ, zero, suc, ◌+◌, ◌<◌, List, [], ◌∷◌, get_or, map, length, All, Option, None, Bool, true, false, cond, nat_lt, IsTrue, refl, sym, ◌∙◌, ap, subst, arith}
use Rattle.std.specs.Prelude.{replicate}
use Rattle.std.specs.List.{range_with_len}
use Rattle.std.proofs.lemmas.Bool.{lt-ltb}
use Rattle.std.proofs.lemmas.List.{get_or-map, length-map, length-replicate}
use Rattle.std.proofs.lemmas.List.Elements.{All-map}
use Rattle.std.proofs.lemmas.List.FromFn.{length-map-range_with_len}
use Rattle.zs_num.specs.declared.pairing.Pairing.{Pairing}
use Rattle.elf_load.specs.MemoryImage.{MemoryImage, byte_at}
use Rattle.elf_load.specs.SoundImage.{IsSoundImage}
use Rattle.machine_desc.specs.InstructionCaches.{fetchers_of, has_l1i}
use Rattle.machine_desc.specs.Machine.{IsMachine}
use Rattle.machine_desc.specs.declared.machine.Machine.{Machine}
use Rattle.rv_core.specs.CoreState.{CoreState}
use Rattle.rv_core.specs.Laws.{IsReached, starts}
use Rattle.rv_core.specs.Sound.{IsSoundCore}
use Rattle.rv_core.specs.Step.{initial_core}
use Rattle.shard.specs.HaveL1i.{have_l1i}
use Rattle.shard.specs.Laws.{NewShardsStand}
use Rattle.shard.specs.NewCaches.{new_caches}
use Rattle.shard.specs.Served.{ShardState, new_shard}
use Rattle.shard.specs.StandsFor.{flat_for, new_memory, new_shards}
use Rattle.access_log.specs.RecordedOrder.{no_stamps}
use Rattle.reference.specs.MachineOfShards.{IsCoreOf, StandForMachine, pairings_of}
use Rattle.reference.specs.MachineWorld.{MachineWorld, first_world}
use Rattle.reference.specs.ShardWorld.{ShardWorld, begun_world, restarted}
use Rattle.reference.specs.TimedCore.{TimedCore, first_core}
use Rattle.reference.proofs.Restarted.{no_last, stand_again}

-- ---- the next interval

-- the pairings of the cores' own states
pairings_from : (cores : List TimedCore) → pairings_of cores ≡ map (λ (core : CoreState). core.pairing) (map (λ (c : TimedCore). c.core) cores)
pairings_from [] = refl
pairings_from (c ∷ cores) = ap (λ (ps : List (Option Pairing)). c.core.pairing ∷ ps) (pairings_from cores)

module _ (cores later : List TimedCore) (same : map (λ c. c.core) later ≡ map (λ c. c.core) cores) where
  same_pairings : pairings_of later ≡ pairings_of cores
  same_pairings = pairings_from later ∙ ap (map (λ (core : CoreState). core.pairing)) same ∙ sym (pairings_from cores)

  same_many : length later ≡ length cores
  same_many = sym (length-map later (λ (c : TimedCore). c.core)) ∙ ap length same ∙ length-map cores (λ (c : TimedCore). c.core)

  same_core : (k : ℕ) (d : TimedCore) → k < length later → (get_or later k d).core ≡ (get_or cores k d).core
  same_core k d within =
      sym (get_or-map (λ (c : TimedCore). c.core) later k d d.core within)
      ∙ ap (λ (cs : List CoreState). get_or cs k d.core) same
      ∙ get_or-map (λ (c : TimedCore). c.core) cores k d d.core (omega (arith, within, same_many))

  are_same : (base size : ℕ) (l1i : Bool) → All (IsCoreOf base size l1i) cores → All (IsCoreOf base size l1i) later
  are_same base size l1i are k d within =
      let is = are k d (omega (arith, within, same_many)) in
      let core = same_core k d within in
      record {
        sound = subst IsSoundCore (sym core) is.sound;
        base_is = ap (λ (c : CoreState). c.memory.base) core ∙ is.base_is;
        size_is = ap (λ (c : CoreState). c.memory.size) core ∙ is.size_is;
        fetches = λ fetches. is.fetches (subst IsTrue (ap (λ (c : CoreState). c.fetching) core) fetches);
      }

  pub next_interval : (w : ShardWorld) (m : MachineWorld) → StandForMachine cores w m
      → StandForMachine later (begun_world (length later) (map restarted w.shards)) (record m { stamps = no_stamps (length w.shards) (length later) })
  next_interval w m r = record {
    memory = r.memory;
    stand = stand_again w.shards r.memory m.caches r.stand;
    flat = r.flat ∙ ap (flat_for r.memory) (sym same_pairings);
    some = omega (arith, r.some, length-map w.shards restarted);
    cores_known = All-map (λ (s : ShardState). length s.marks ≡ length later) restarted w.shards
        (subst (λ (n : ℕ). All (λ (s : ShardState). length s.marks ≡ n) w.shards) (sym same_many) r.cores_known);
    cores_are = are_same r.memory.base (length r.memory.bytes) (have_l1i m.caches) r.cores_are;
    banks_stamped = sym (no_last w.shards);
    cores_stamped = refl;
  }

-- ---- the first

module _ (machine : Machine) (image : MemoryImage) where
  first_cores : (a n : ℕ) → pairings_of (map (first_core machine image) (range_with_len a n)) ≡ replicate n None
  unfolding initial_core
  first_cores a zero = refl
  first_cores a (suc n) = ap (λ (ps : List (Option Pairing)). None ∷ ps) (first_cores (a + 1) n)

  first_stamps : (a n : ℕ) → replicate n 0 ≡ map (λ (s : ShardState). s.last) (map (λ number. new_shard machine number image) (range_with_len a n))
  first_stamps a zero = refl
  first_stamps a (suc n) = ap (λ (ns : List ℕ). 0 ∷ ns) (first_stamps (a + 1) n)

  first_fetching : (number : ℕ) → (first_core machine image number).core.fetching ≡ has_l1i machine
  unfolding initial_core
  first_fetching number = refl

  -- the cores of a machine with instruction caches have one each
  some_fetchers : (has : Bool) → 0 < machine.cores → IsTrue has → 0 < cond has machine.cores 0
  some_fetchers true some has = some
  some_fetchers false some has = cc

  first_memory : (number : ℕ) → (first_core machine image number).core.memory ≡ record { base = machine.memory.base; size = machine.memory.size }
  unfolding initial_core
  first_memory number = refl

  module _ (sound : (core : CoreState) → IsReached core → IsSoundCore core) (stand : NewShardsStand) (is : IsMachine machine) (image_sound : IsSoundImage image) (base : image.base ≡ machine.memory.base) (size : image.size ≡ machine.memory.size) where
    long : length (new_memory machine image).bytes ≡ image.size
    long = length-map-range_with_len (byte_at image.segments) image.base image.size

    many_cores : length (map (first_core machine image) (range_with_len 0 machine.cores)) ≡ machine.cores
    many_cores = length-map-range_with_len (first_core machine image) 0 machine.cores

    is_first : (number : ℕ) → IsCoreOf image.base (length (new_memory machine image).bytes) (have_l1i (new_caches machine)) (first_core machine image number)
    is_first number = record {
      sound = sound (first_core machine image number).core (starts number machine.cores image.entry _ _ (has_l1i machine) (omega (arith, is.memory.base, is.memory.size.1)) (λ fetches. image_sound.aligned));
      base_is = ap (λ (m : _). m.base) (first_memory number) ∙ sym base;
      size_is = ap (λ (m : _). m.size) (first_memory number) ∙ sym size ∙ sym long;
      fetches = λ fetches. ap (nat_lt 0) (length-replicate (fetchers_of machine) _)
          ∙ lt-ltb 0 (fetchers_of machine) (some_fetchers (has_l1i machine) (omega (arith, is.cores.0)) (subst IsTrue (first_fetching number) fetches));
    }

    pub first_interval : StandForMachine (map (first_core machine image) (range_with_len 0 machine.cores)) (begun_world machine.cores (new_shards machine image)) (first_world machine image)
    first_interval =
        let new = stand machine image is in
        record {
          memory = new_memory machine image;
          stand = new.0;
          flat = sym new.1 ∙ ap (flat_for (new_memory machine image)) (sym (first_cores 0 machine.cores));
          some = omega (arith, length-map-range_with_len (λ number. new_shard machine number image) 0 machine.l2.banks, is.l2.banks.0);
          cores_known = All-map (λ (s : ShardState). length s.marks ≡ length (map (first_core machine image) (range_with_len 0 machine.cores))) (λ number. new_shard machine number image) (range_with_len 0 machine.l2.banks)
              (λ k d within. length-replicate machine.cores None ∙ sym many_cores);
          cores_are = All-map (IsCoreOf image.base (length (new_memory machine image).bytes) (have_l1i (new_caches machine))) (first_core machine image) (range_with_len 0 machine.cores) (λ k d within. is_first (get_or (range_with_len 0 machine.cores) k d));
          banks_stamped = first_stamps 0 machine.l2.banks;
          cores_stamped = refl;
        }
