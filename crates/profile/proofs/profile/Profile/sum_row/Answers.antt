use Rattle.std.proofs.Common.{◌≡◌, ℕ, None, map, ap, refl, ◌∙◌, arith}
use Rattle.std.specs.Prelude.{sum_by}
use Rattle.std.specs.List.{range_with_len}
use Rattle.profile.specs.Contributions.{at_address}
use Rattle.profile.specs.Executed.{executed_at}
use Rattle.profile.specs.Listed.{sum_row}
use Rattle.profile.specs.Profiled.{added_in}
use Rattle.profile_rows.specs.Tallies.{capped, capped_tally, total}
use Rattle.profile.proofs.Listing.{count_more, tally_more}
use Rattle.profile.proofs.profile.Profile.sum_row.Goals as goal

pub loop-core-init : goal.loop-core-init
unfolding capped_tally
loop-core-init c = record { count = refl; added = refl }

pub loop-core-preserved : goal.loop-core-preserved
loop-core-preserved c =
    let p = c.args.self.now in
    let pc = c.args.pc in
    let core = c.loop-core.core in
    record {
      count = count_more (λ k. executed_at k pc p.steps) core c.loop-core.instructions c.instructions.result _ c.loop-core.invariant.count c.instructions.ensures c.saturating_add-instructions.ensures;
      added = tally_more (λ k. at_address k pc (added_in p)) core c.loop-core.tally c.accesses.result _ c.loop-core.invariant.added c.accesses.ensures c.plus-tally.ensures;
    }

pub returns : goal.returns
returns c =
    let p = c.args.self.now in
    let pc = c.args.pc in
    let all : c.loop-core.core ≡ p.cores = omega (arith, c.loop-core-test.false, c.loop-core.auto.core-end, c.cores-core-end.ensures) in
    let count : c.loop-core.instructions ≡ (sum_row p pc).instructions =
    c.loop-core.invariant.count ∙ ap (λ (n : ℕ). capped (sum_by (λ k. executed_at k pc p.steps) (range_with_len 0 n))) all
    in
    let added : c.loop-core.tally ≡ (sum_row p pc).tally =
    c.loop-core.invariant.added ∙ ap (λ (n : ℕ). capped_tally (total (map (λ k. at_address k pc (added_in p)) (range_with_len 0 n)))) all
    in
    λ i. record { core = None; pc = pc; instructions = count i; tally = added i }
