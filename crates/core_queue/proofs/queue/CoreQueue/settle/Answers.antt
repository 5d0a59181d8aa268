-- The first key is that of the core.
use Rattle.std.proofs.Common.{◌≡◌, ℕ, List, Some, length, drop, ap, ◌∙◌, sym, subst, arith, unwrap_or}
use Rattle.std.specs.Prelude.{slice_set}
use Rattle.std.specs.List.{slice_get}
use Rattle.zs_num.specs.declared.time.Key.{Key}
use Rattle.domain_queue.specs.SortedKeys.{IsAscending, ReadyKeys}
use Rattle.core_queue.specs.NextKeys.{with_next}
use Rattle.core_queue.specs.StartKeys.{keys_of, never}
use Rattle.core_queue.proofs.Keys.{in_leaves, settled, settled_ascending}
use Rattle.core_queue.proofs.Leaves.{as_many, queue_is, still_tree}
use Rattle.core_queue.proofs.queue.CoreQueue.settle.Goals as goal

pub set_leaf-requires-clause-leaf : goal.set_leaf-requires-clause-leaf
set_leaf-requires-clause-leaf c =
    let q = c.self.inside in
    let ss : List ℕ = drop q.leaves q.nodes.items in
    let k : Key = c.requires.first.0 in
    let at : slice_get (keys_of ss) 0 ≡ Some k = ap (λ (r : ReadyKeys). slice_get r.keys 0) c.self.view_is ∙ c.requires.first.1 in
    omega (arith, in_leaves ss c.args.core k at c.requires.first.2, as_many q.leaves q.nodes.items c.self.invariant.all)

pub invariant_of-self : goal.invariant_of-self
invariant_of-self c =
    let q = c.self.inside in
    let is = c.self.invariant in
    let ss : List ℕ = drop q.leaves q.nodes.items in
    let seen = c.deref_mut.ensures.value in
    let k : Key = c.requires.first.0 in
    let at : slice_get (keys_of ss) 0 ≡ Some k = ap (λ (r : ReadyKeys). slice_get r.keys 0) c.self.view_is ∙ c.requires.first.1 in
    let now : drop q.leaves c.set_leaf.new.nodes ≡ slice_set ss c.args.core (unwrap_or c.args.start never) =
    c.set_leaf.ensures.leaves ∙ (ap (λ xs. slice_set (drop q.leaves xs) c.args.core c.unwrap_or.result) seen ∙ ap (slice_set ss c.args.core) c.unwrap_or.ensures)
    in
    still_tree q is c.set_leaf.new.nodes (c.set_leaf.ensures.all ∙ ap length seen) c.set_leaf.ensures.minima
    (subst (λ xs. IsAscending (keys_of xs)) (sym now) (settled_ascending ss c.args.core k at c.requires.first.2 c.args.start c.requires.soon is.ascending))

pub returns : goal.returns
returns c =
    let q = c.self.inside in
    let is = c.self.invariant in
    let ss : List ℕ = drop q.leaves q.nodes.items in
    let seen = c.deref_mut.ensures.value in
    let k : Key = c.requires.first.0 in
    let at : slice_get (keys_of ss) 0 ≡ Some k = ap (λ (r : ReadyKeys). slice_get r.keys 0) c.self.view_is ∙ c.requires.first.1 in
    let now : drop q.leaves c.set_leaf.new.nodes ≡ slice_set ss c.args.core (unwrap_or c.args.start never) =
    c.set_leaf.ensures.leaves ∙ (ap (λ xs. slice_set (drop q.leaves xs) c.args.core c.unwrap_or.result) seen ∙ ap (slice_set ss c.args.core) c.unwrap_or.ensures)
    in
    queue_is q is c.set_leaf.new.nodes (c.set_leaf.ensures.all ∙ ap length seen)
    ∙ (ap (λ ks. record { keys = ks; room = q.room }) (ap keys_of now ∙ settled ss c.args.core k at c.requires.first.2 c.args.start c.requires.soon)
    ∙ ap (λ (r : ReadyKeys). record { keys = with_next c.args.core c.args.start (drop 1 r.keys); room = r.room }) c.self.view_is)
