-- Cores and shards before their first interval.
use Rattle.std.proofs.Common.{◌≡◌, ◌<◌, refl, Bool, true, false, if◌then◌else◌, nat_lt, ℕ, zero, suc, List, [], ◌∷◌, ◌++◌, length, map, All, sym, ◌∙◌, ap, subst, arith, rules}
use Rattle.std.specs.Prelude.{None, Some, slice_get}
use Rattle.std.specs.List.{range_with_len}
use Rattle.std.proofs.lemmas.List.{length-replicate}
use Rattle.std.proofs.lemmas.Option.{same_Some}
use Rattle.elf_load.specs.MemoryImage.{MemoryImage}
use Rattle.machine_desc.specs.declared.machine.Machine.{Machine}
use Rattle.machine_desc.specs.InstructionCaches.{fetchers_of, has_l1i}
use Rattle.machine_desc.specs.Machine.{IsMachine}
use Rattle.rv_core.specs.Step.{initial_core}
use Rattle.shard.specs.HaveL1i.{have_l1i}
use Rattle.shard.specs.Served.{new_caches_of_shard, new_shard}
use Rattle.shard.specs.StandsFor.{new_shards}
use Rattle.bound_core.specs.ShardPort.{l1i_in}
use Rattle.bound_core.specs.TimedCore.{TimedCore, first_core}
use Rattle.bound_core.specs.NumberedCores.{NumberedCore}
use Rattle.bound_phase.specs.Bounds.{FetchesIn, IsBeforeInterval}

-- what holds of each by its index holds with one more at the end
pub each_pushed : {X : Type 0} (P : ℕ → X → Type 0) (xs : List X) (x : X) → ((i : ℕ) (y : X) → slice_get xs i ≡ Some y → P i y) → P (length xs) x
    → (i : ℕ) (y : X) → slice_get (xs ++ x ∷ []) i ≡ Some y → P i y
each_pushed P [] x each last zero y at = subst (P 0) (same_Some x y at) last
each_pushed P [] x each last (suc i) y at = absurd (let none : None ≡ Some y = at in cc)
each_pushed P (z ∷ xs) x each last zero y at = each 0 y at
each_pushed P (z ∷ xs) x each last (suc i) y at = each_pushed (λ k. P (suc k)) xs x (λ k. each (suc k)) last i y at

first_idle : (m : Machine) (image : MemoryImage) (number : ℕ) → (first_core m image number).core.instruction ≡ None
unfolding initial_core
first_idle m image number = refl

first_unfetched : (m : Machine) (image : MemoryImage) (number : ℕ) → (first_core m image number).core.is_fetched ≡ false
unfolding initial_core
first_unfetched m image number = refl

pub starts_first : (m : Machine) (image : MemoryImage) (number : ℕ) (c : NumberedCore) → c.timed ≡ first_core m image number
    → c.timed.core.memory.base ≡ m.memory.base → c.timed.core.memory.size ≡ m.memory.size → IsBeforeInterval m m.interval c
starts_first m image number c is base size =
    let clock : c.timed.clock ≡ 0 = ap (λ (t : TimedCore). t.clock) is in
    record {
      idle = ap (λ (t : TimedCore). t.core.instruction) is ∙ first_idle m image number;
      unfetched = ap (λ (t : TimedCore). t.core.is_fetched) is ∙ first_unfetched m image number;
      base = base;
      size = size;
      near = λ runs. omega (arith, clock);
      clock = omega (arith, clock);
    }

-- ---- the shards

have_by : (cores : ℕ) (there : Bool) → 0 < cores → nat_lt 0 (if there then cores else 0) ≡ there
have_by cores true some = search (rules, some)
have_by cores false some = refl

first_l1i : (m : Machine) (image : MemoryImage) (banks : ℕ) → 0 < banks → l1i_in (map (λ number. new_shard m number image) (range_with_len 0 banks)) ≡ have_l1i (new_caches_of_shard m)
first_l1i m image zero some = absurd (omega (arith, some))
first_l1i m image (suc banks) some = refl

-- they have instruction caches where the machine has them
pub shards_l1i : (m : Machine) (image : MemoryImage) → IsMachine m → l1i_in (new_shards m image) ≡ has_l1i m
shards_l1i m image is =
    first_l1i m image m.l2.banks (omega (arith, is.l2.banks.0))
    ∙ (ap (λ (n : ℕ). nat_lt 0 n) (length-replicate (fetchers_of m) _) ∙ have_by m.cores (has_l1i m) (omega (arith, is.cores.0)))

-- the cores fetch only where there are instruction caches
pub all_may : (l1i there : Bool) (cores : List NumberedCore) → l1i ≡ there → All (λ c. c.timed.core.fetching ≡ there) cores → All (FetchesIn l1i) cores
all_may l1i there cores same all = λ k d below fetching. same ∙ (sym (all k d below) ∙ fetching)
