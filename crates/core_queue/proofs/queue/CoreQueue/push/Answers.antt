-- The key is put where its core had none.
use Rattle.std.proofs.Common.{◌≡◌, ◌<◌, ℕ, List, length, drop, ap, ◌∙◌, sym, subst, arith}
use Rattle.std.specs.Prelude.{slice_set}
use Rattle.std.specs.List.{Contains}
use Rattle.zs_num.specs.declared.time.Key.{Key}
use Rattle.domain_queue.specs.SortedKeys.{IsAscending, ReadyKeys, put}
use Rattle.core_queue.specs.StartKeys.{keys_of}
use Rattle.core_queue.proofs.Keys.{pushed, still_ascending}
use Rattle.core_queue.proofs.Leaves.{as_many, queue_is, still_tree}
use Rattle.core_queue.proofs.queue.CoreQueue.push.Goals as goal

pub invariant_of-self : goal.invariant_of-self
invariant_of-self c =
    let q = c.self.inside in
    let is = c.self.invariant in
    let ss : List ℕ = drop q.leaves q.nodes.items in
    let seen = c.deref_mut.ensures.value in
    let within : c.args.key.number < length ss = omega (arith, c.requires.core, ap (λ (r : ReadyKeys). r.room) c.self.view_is, is.room, as_many q.leaves q.nodes.items is.all) in
    let new : (k : Key) → Contains (keys_of ss) k → k.number ≡ c.args.key.number → ⊥ = λ k m. c.requires.new k (subst (λ ks. Contains ks k) (ap (λ (r : ReadyKeys). r.keys) c.self.view_is) m) in
    let now : drop q.leaves c.set_leaf.new.nodes ≡ slice_set ss c.args.key.number c.args.key.start = c.set_leaf.ensures.leaves ∙ ap (λ xs. slice_set (drop q.leaves xs) c.args.key.number c.args.key.start) seen in
    still_tree q is c.set_leaf.new.nodes (c.set_leaf.ensures.all ∙ ap length seen) c.set_leaf.ensures.minima
    (subst (λ xs. IsAscending (keys_of xs)) (sym now) (still_ascending ss c.args.key within c.requires.soon new is.ascending))

pub returns : goal.returns
returns c =
    let q = c.self.inside in
    let is = c.self.invariant in
    let ss : List ℕ = drop q.leaves q.nodes.items in
    let seen = c.deref_mut.ensures.value in
    let within : c.args.key.number < length ss = omega (arith, c.requires.core, ap (λ (r : ReadyKeys). r.room) c.self.view_is, is.room, as_many q.leaves q.nodes.items is.all) in
    let new : (k : Key) → Contains (keys_of ss) k → k.number ≡ c.args.key.number → ⊥ = λ k m. c.requires.new k (subst (λ ks. Contains ks k) (ap (λ (r : ReadyKeys). r.keys) c.self.view_is) m) in
    let now : drop q.leaves c.set_leaf.new.nodes ≡ slice_set ss c.args.key.number c.args.key.start = c.set_leaf.ensures.leaves ∙ ap (λ xs. slice_set (drop q.leaves xs) c.args.key.number c.args.key.start) seen in
    queue_is q is c.set_leaf.new.nodes (c.set_leaf.ensures.all ∙ ap length seen)
    ∙ (ap (λ ks. record { keys = ks; room = q.room }) (ap keys_of now ∙ pushed ss c.args.key within c.requires.soon new)
    ∙ ap (λ (r : ReadyKeys). record { keys = put c.args.key r.keys; room = r.room }) c.self.view_is)
