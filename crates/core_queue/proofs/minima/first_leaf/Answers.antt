-- A level further down.
use Rattle.std.proofs.Common.{◌≡◌, ◌+◌, ◌*◌, ◌<◌, ◌≤◌, ◌^◌, ℕ, get_or, ap, subst, sym, ◌∙◌, arith}
use Rattle.std.proofs.Math.Nat.{one-le-pow}
use Rattle.core_queue.proofs.Walks.{IsFirst, below_all, inner_level, to_the_left, to_the_right, twice}
use Rattle.core_queue.proofs.minima.first_leaf.Goals as goal
use Rattle.core_queue.proofs.minima.first_leaf.Goals.{else-nodes-at, then-nodes-at}

pub overflow_mul-at : goal.overflow_mul-at
overflow_mul-at c = omega (arith, c.loop.invariant.to, inner_level c.loop.counter c.args.levels c.loop-test.true, c.requires.leaves, c.requires.few)

pub offset_bounds-nodes-at : goal.offset_bounds-nodes-at
offset_bounds-nodes-at c = omega (arith, c.loop.invariant.to, inner_level c.loop.counter c.args.levels c.loop-test.true, c.requires.leaves, c.requires.few)

pub bounds-nodes-at : goal.bounds-nodes-at
bounds-nodes-at c = omega (arith, c.loop.invariant.to, inner_level c.loop.counter c.args.levels c.loop-test.true, c.requires.leaves, c.requires.all)

pub loop-preserved : goal.loop-preserved
loop-preserved c =
    let nodes = c.args.nodes.now in
    let level : ℕ = 2 ^ c.loop.counter in
    let some : 0 < level = one-le-pow c.loop.counter 2 (omega arith) in
    let inner : 2 * level ≤ c.args.leaves = omega (arith, inner_level c.loop.counter c.args.levels c.loop-test.true, c.requires.leaves) in
    let next : 2 * level ≡ 2 ^ (c.loop.counter + 1) = sym (twice c.loop.counter) in
    let place : 2 * c.loop.at ≡ c.loop.at * 2 = omega arith in
    elim c.if-nodes-at.branch [
      | then-nodes-at w ↦
          let right : IsFirst nodes (2 * level) (2 * c.loop.at + 1) =
          to_the_right c.args.leaves nodes c.requires.minima level c.loop.at c.loop.invariant some inner (λ has. w.if-nodes-at.true (ap (λ k. get_or nodes k 0) (sym place) ∙ has))
          in
          subst (IsFirst nodes (2 ^ (c.loop.counter + 1))) (let e : 2 * c.loop.at + 1 ≡ c.if-nodes-at.at = omega (arith, w.at-is) in e) (subst (λ f. IsFirst nodes f (2 * c.loop.at + 1)) next right)
      | else-nodes-at w ↦
          let left : IsFirst nodes (2 * level) (2 * c.loop.at) =
          to_the_left c.args.leaves nodes c.requires.minima level c.loop.at c.loop.invariant some inner (ap (λ k. get_or nodes k 0) place ∙ w.if-nodes-at.false)
          in
          subst (IsFirst nodes (2 ^ (c.loop.counter + 1))) (let e : 2 * c.loop.at ≡ c.if-nodes-at.at = omega (arith, w.at-is) in e) (subst (λ f. IsFirst nodes f (2 * c.loop.at)) next left)
    ]

pub returns-clause-below : goal.returns-clause-below
returns-clause-below c = λ n inside. below_all c.args.leaves c.args.nodes.now c.requires.minima (c.args.leaves + n) (omega (arith, inside)) (omega (arith, inside))
