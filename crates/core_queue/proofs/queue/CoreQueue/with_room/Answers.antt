-- No core has a key.
use Rattle.std.proofs.Common.{◌≡◌, ◌≤◌, ◌*◌, ◌^◌, ◌%◌, ℕ, List, [], length, replicate, rules, ap, sym, ◌∙◌, subst, arith}
use Rattle.std.proofs.Math.Nat.{pow-le-pow_right}
use Rattle.std.proofs.lemmas.List.{length-replicate}
use Rattle.zs_num.specs.declared.time.Key.{Key}
use Rattle.domain_queue.specs.SortedKeys.{IsAscending, ReadyKeys}
use Rattle.core_queue.specs.StartKeys.{never}
use Rattle.core_queue.proofs.Leaves.{all_minima, none_yet}
use Rattle.core_queue.proofs.queue.CoreQueue.with_room.Goals as goal

none_ascending : IsAscending []
none_ascending i j d less below = absurd (omega (arith, below))

pub invariant_of-result : goal.invariant_of-result
invariant_of-result c =
    let levels : ℕ = c.levels_above-levels.result in
    let leaves : ℕ = (1 * 2 ^ levels) % 2 ^ 64 in
    let nodes : List ℕ = c.in_ok-vec.field-0.items in
    let few : 2 ^ levels ≤ 2 ^ 17 = pow-le-pow_right {n = 2} (omega arith) {i = levels} {j = 17} (omega (arith, c.levels_above-levels.ensures.few)) in
    let is : leaves ≡ 2 ^ levels = omega (arith, few) in
    let are : nodes ≡ replicate (2 * leaves) never = search rules in
    let all : length nodes ≡ 2 * leaves = ap length are ∙ length-replicate (2 * leaves) never in
    record {
      leaves = is;
      few = omega (arith, is, few);
      all = all;
      room = omega (arith, is, c.from.ensures, c.levels_above-levels.ensures.enough);
      minima = all_minima leaves nodes are;
      ascending = subst IsAscending (sym (none_yet leaves nodes are all)) none_ascending;
    }

pub returns : goal.returns
returns c =
    let levels : ℕ = c.levels_above-levels.result in
    let leaves : ℕ = (1 * 2 ^ levels) % 2 ^ 64 in
    let nodes : List ℕ = c.in_ok-vec.field-0.items in
    let are : nodes ≡ replicate (2 * leaves) never = search rules in
    let all : length nodes ≡ 2 * leaves = ap length are ∙ length-replicate (2 * leaves) never in
    let value : List Key → ℕ → ReadyKeys = λ ks n. record { keys = ks; room = n } in
    ap (λ ks. value ks c.from.result) (none_yet leaves nodes are all) ∙ ap (value []) c.from.ensures
