-- The root is the start of the first key.
use Rattle.std.proofs.Common.{◌≡◌, ◌+◌, ◌<◌, ◌≤◌, ℕ, get_or, ap, sym, ◌∙◌, subst, arith}
use Rattle.std.specs.List.{slice_get}
use Rattle.std.proofs.Math.Nat.{one-le-pow}
use Rattle.std.proofs.lemmas.List.{get_or_read}
use Rattle.domain_queue.specs.SortedKeys.{ReadyKeys}
use Rattle.core_queue.proofs.Leaves.{first_key, no_key}
use Rattle.core_queue.proofs.Walks.{below_all}
use Rattle.core_queue.proofs.queue.CoreQueue.first.Goals as goal

pub returns-then-start-ge-NEVER-clause-first : goal.returns-then-start-ge-NEVER-clause-first
returns-then-start-ge-NEVER-clause-first c =
    let q = c.self.inside in
    let nodes = q.nodes.items in
    let start : ℕ = c.index-start.result.now in
    let root : start ≡ get_or nodes 1 0 = get_or_read nodes 1 start (omega (arith, c.self.invariant.leaves, c.self.invariant.all, one-le-pow c.self.inside.levels 2 (omega arith))) c.index-start.ensures 0 in
    let below : (n : ℕ) → n < q.leaves → start ≤ get_or nodes (q.leaves + n) 0 = λ n inside. omega (arith, root, below_all q.leaves nodes c.self.invariant.minima (q.leaves + n) (omega (arith, inside)) (omega (arith, inside))) in
    sym (ap (λ (r : ReadyKeys). slice_get r.keys 0) (sym c.self.view_is) ∙ ap (λ ks. slice_get ks 0) (no_key q.leaves nodes c.self.invariant.all start below c.if-start-ge-NEVER.true))

pub returns-clause-first : goal.returns-clause-first
returns-clause-first c =
    let q = c.self.inside in
    let nodes = q.nodes.items in
    let start : ℕ = c.index-start.result.now in
    let leaf = c.first_leaf-core in
    let seen = c.deref.ensures.value in
    let root : start ≡ get_or nodes 1 0 = get_or_read nodes 1 start (omega (arith, c.self.invariant.leaves, c.self.invariant.all, one-le-pow c.self.inside.levels 2 (omega arith))) c.index-start.ensures 0 in
    sym (ap (λ (r : ReadyKeys). slice_get r.keys 0) (sym c.self.view_is)
    ∙ first_key q.leaves nodes c.self.invariant.all start
    (λ n inside. omega (arith, root, subst (λ xs. get_or xs 1 0 ≤ get_or xs (q.leaves + n) 0) seen (leaf.ensures.below n inside)))
    c.if-start-ge-NEVER.false leaf.result leaf.ensures.within
    (subst (λ xs. get_or xs (q.leaves + leaf.result) 0 ≡ get_or xs 1 0) seen leaf.ensures.least ∙ sym root)
    (λ n before. omega (arith, root, subst (λ xs. get_or xs 1 0 < get_or xs (q.leaves + n) 0) seen (leaf.ensures.first n before))))
