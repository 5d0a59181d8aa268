-- The chains of all cores.
use Rattle.std.proofs.Common.{◌≡◌, ◌+◌, ◌<◌, ◌∙◌, ℕ, arith, length, length-set, subst, sym}
use Rattle.std.specs.Prelude.{slice_set}
use Rattle.weave_chains.specs.Listed.{list_of}
use Rattle.weave_chains.specs.States.{IsFreshChain}
use Rattle.weave_chains.proofs.States as states
use Rattle.weave_chains.proofs.States.{AreFreshChains}
use Rattle.weave_chains.proofs.beginning.begin_chains.Goals as goal

pub loop-core-preserved : goal.loop-core-preserved
loop-core-preserved g c =
    let lists = g.A.Accesses.lists c.args.accesses.now in
    let core : ℕ = c.loop-core.core in
    let chains = c.loop-core.chains in
    let new = c.begin.new.self in
    let is : IsFreshChain (length (list_of lists core)) new = subst (λ n. IsFreshChain n new) c.count.ensures c.begin.ensures in
    let within : core < length chains = omega (arith, c.loop-core-test.true, c.cores-cores.ensures, c.requires.count, c.loop-core.invariant.count) in
    record {
      fresh = subst (λ i. AreFreshChains lists (core + 1) (slice_set chains i new)) (sym c.from.ensures) (states.one_more_fresh lists chains core new c.loop-core.invariant.fresh within is);
      count = length-set chains c.from.result new ∙ c.loop-core.invariant.count;
    }

pub returns-clause-fresh : goal.returns-clause-fresh
returns-clause-fresh g c =
    let lists = g.A.Accesses.lists c.args.accesses.now in
    let all : c.loop-core.core ≡ length lists = omega (arith, c.loop-core.auto.core-end, c.loop-core-test.false, c.cores-cores.ensures) in
    states.are_fresh lists c.requires.own c.loop-core.chains (c.loop-core.invariant.count ∙ c.requires.count) (subst (λ n. AreFreshChains lists n c.loop-core.chains) all c.loop-core.invariant.fresh)

pub returns-clause-of : goal.returns-clause-of
returns-clause-of g c =
    let lists = g.A.Accesses.lists c.args.accesses.now in
    let all : c.loop-core.core ≡ length lists = omega (arith, c.loop-core.auto.core-end, c.loop-core-test.false, c.cores-cores.ensures) in
    states.are_of_lists lists c.loop-core.chains (c.loop-core.invariant.count ∙ c.requires.count) (subst (λ n. AreFreshChains lists n c.loop-core.chains) all c.loop-core.invariant.fresh)
