-- The leaves of a queue's tree.
use Rattle.std.proofs.Common.{◌≡◌, ◌+◌, ◌*◌, ◌<◌, ◌≤◌, ℕ, List, [], length, drop, get_or, replicate, Some, sym, ap, subst, ◌∙◌, arith}
use Rattle.std.specs.List.{slice_get}
use Rattle.std.specs.Vec.{with_items}
use Rattle.std.proofs.lemmas.List.{get_or-drop, get_or-replicate, length-drop, with_items_is}
use Rattle.std.proofs.lemmas.Option.{get_or_from_slice_get, slice_get-get_or, slice_get_within}
use Rattle.domain_queue.specs.Heap.{in_order}
use Rattle.domain_queue.specs.SortedKeys.{IsAscending}
use Rattle.core_queue.specs.declared.queue.CoreQueue.TheInside.{Inside}
use Rattle.core_queue.specs.Minima.{AreMinima, IsTree, queue_of}
use Rattle.core_queue.specs.StartKeys.{keys_of, never}
use Rattle.core_queue.proofs.Keys as keys
use Rattle.core_queue.proofs.Keys.{none_from, none_in_time}

module _ (leaves : ℕ) (nodes : List ℕ) (all : length nodes ≡ 2 * leaves) where
  abbrev starts : List ℕ
  starts = drop leaves nodes

  pub as_many : length starts ≡ leaves
  as_many = omega (arith, length-drop leaves nodes, all)

  leaf_at : (j t : ℕ) → slice_get starts j ≡ Some t → get_or nodes (leaves + j) 0 ≡ t
  leaf_at j t at = sym (get_or-drop leaves nodes j 0) ∙ get_or_from_slice_get starts j t 0 at

  within : (j t : ℕ) → slice_get starts j ≡ Some t → j < leaves
  within j t at = omega (arith, slice_get_within starts j t at, as_many)

  module _ (least : ℕ) (below : (n : ℕ) → n < leaves → least ≤ get_or nodes (leaves + n) 0) where
    least_is : (j t : ℕ) → slice_get starts j ≡ Some t → least ≤ t
    least_is j t at = omega (arith, below j (within j t at), leaf_at j t at)

    pub no_key : never ≤ least → keys_of starts ≡ []
    no_key late = none_in_time starts least least_is late

    pub first_key : least < never → (i : ℕ) → i < leaves → get_or nodes (leaves + i) 0 ≡ least → ((n : ℕ) → n < i → least < get_or nodes (leaves + n) 0) → slice_get (keys_of starts) 0 ≡ Some (record { start = least; number = i })
    first_key soon i inside here first =
        ap (λ ks. slice_get ks 0)
        (keys.first_is starts least i soon
        (slice_get-get_or starts i 0 (omega (arith, inside, as_many)) ∙ ap Some (get_or-drop leaves nodes i 0 ∙ here))
        least_is
        (λ j t before at. omega (arith, first j before, leaf_at j t at)))

-- ---- before the first key
module _ (leaves : ℕ) (nodes : List ℕ) (are : nodes ≡ replicate (2 * leaves) never) where
  is_never : (n : ℕ) → n < 2 * leaves → get_or nodes n 0 ≡ never
  is_never n inside = ap (λ xs. get_or xs n 0) are ∙ get_or-replicate (2 * leaves) n never 0 inside

  pub all_minima : AreMinima leaves nodes
  all_minima n some below = omega (arith, is_never n (omega (arith, below)), is_never (2 * n) (omega (arith, below)), is_never (2 * n + 1) (omega (arith, below)))

  pub none_yet : length nodes ≡ 2 * leaves → keys_of (drop leaves nodes) ≡ []
  none_yet all = ap in_order (none_from 0 (drop leaves nodes) (λ j t at. omega (arith, leaf_at leaves nodes all j t at, is_never (leaves + j) (omega (arith, within leaves nodes all j t at)))))

-- ---- a queue whose nodes are others
module _ (q : Inside) (is : IsTree q) (new : List ℕ) (as_long : length new ≡ length q.nodes.items) where
  items_are : (with_items q.nodes new).items ≡ new
  items_are = with_items_is q.nodes new (omega (arith, as_long, q.nodes.ok.0))

  pub queue_is : queue_of (record q { nodes = with_items q.nodes new }) ≡ record { keys = keys_of (drop q.leaves new); room = q.room }
  queue_is = ap (λ xs. record { keys = keys_of (drop q.leaves xs); room = q.room }) items_are

  pub still_tree : AreMinima q.leaves new → IsAscending (keys_of (drop q.leaves new)) → IsTree (record q { nodes = with_items q.nodes new })
  still_tree minima ascending = record {
    leaves = is.leaves;
    few = is.few;
    all = ap length items_are ∙ (as_long ∙ is.all);
    room = is.room;
    minima = subst (AreMinima q.leaves) (sym items_are) minima;
    ascending = subst (λ xs. IsAscending (keys_of (drop q.leaves xs))) (sym items_are) ascending;
  }
