-- What a run gives where it ends.
use Rattle.std.proofs.Common.{◌≡◌, ◌∙◌, ℕ, length, map, Bool, ap, not, refl, sym, arith}
use Rattle.std.specs.List.{range_with_len}
use Rattle.std.proofs.lemmas.List.{length-map}
use Rattle.bound_core.specs.NumberedCores.{NumberedCore}
use Rattle.machine_desc.specs.declared.machine.Machine.{Machine}
use Rattle.stats.specs.Counts.{Counts}
use Rattle.run.specs.declared.simulation.Simulation.{Simulation}
use Rattle.run.specs.Simulation.{StandsFor, cores_of}
use Rattle.reference.specs.ReferenceRun.{RunState, have_halted, run_results}
use Rattle.reference.specs.Results.{HasCounts, Results}
use Rattle.run.proofs.Cores.{numbers_are}
use Rattle.run.proofs.NextInterval.{counts_come}
use Rattle.run.proofs.RunSoFar.{accesses_are, events_are}

module _ (machine : Machine) (s : RunState) (p : Simulation) (come : StandsFor machine s p) where
  numbers : map (λ (c : NumberedCore). c.number) p.cores.items ≡ range_with_len 0 machine.cores
  numbers =
      let many : length p.cores.items ≡ machine.cores = sym (length-map p.cores.items (λ (c : NumberedCore). c.timed)) ∙ ap length (sym come.cores) ∙ come.count in
      numbers_are machine.cores p.cores.items many come.numbered

  pub results_are : (halted : Bool) → halted ≡ have_halted (cores_of p) → (k : ℕ) → length s.intervals ≡ k
      → (let r : Results = record { cores = cores_of p; numbers = map (λ c. c.number) p.cores.items; counts = p.counters; intervals = k; limit = not halted } in r) ≡ run_results machine s
  results_are halted is k length_is =
      let count : k ≡ length s.intervals = sym length_is in
      rw (is, count, numbers, come.counters, sym come.cores) refl

  -- each core has the number of its place
  pub numbered_results : (r : Results) → r.numbers ≡ map (λ c. c.number) p.cores.items → r.numbers ≡ range_with_len 0 machine.cores
  numbered_results r are = are ∙ numbers

  -- what the report asks of them
  pub counted_results : (r : Results) → r.cores ≡ cores_of p → r.counts ≡ p.counters → HasCounts machine r
  counted_results r cores counts =
      let there = counts_come machine s p come in
      record {
        cores = ap length cores ∙ ap length (sym come.cores) ∙ come.count;
        core_counts = ap (λ (c : Counts). length c.core_counts) counts ∙ there.0;
        comp_counts = ap (λ (c : Counts). length c.comp_counts) counts ∙ there.1;
        accesses = omega (arith, ap (λ (c : Counts). c.accesses) counts, accesses_are machine s p come, come.counted.accesses);
        events = omega (arith, ap (λ (c : Counts). c.events) counts, events_are machine s p come, come.counted.events, come.counted.accesses);
      }
