-- One shard more.
use Rattle.std.proofs.Common.{ℕ, ◌+◌, length, sym, ap, ◌∙◌, subst}
use Rattle.std.proofs.lemmas.List.{length_push}
use Rattle.shard.specs.Served.{ShardState}
use Rattle.table_tests.specs.Tested.{AreOf, IsOf}
use Rattle.table_tests.proofs.Asking.{one_more_of}
use Rattle.table_tests.proofs.tested.shards_of.Goals as goal

pub loop-number-preserved : goal.loop-number-preserved
loop-number-preserved c =
    let i = c.loop-number.invariant in
    let banks : ℕ = c.args.machine.now.l2.banks in
    let one : ShardState = c.in_ok-shard_of.field-0 in
    let of : IsOf banks (length c.loop-number.shards.items) one = subst (λ (n : ℕ). IsOf banks n one) (sym i.count) c.in_ok-shard_of.ensures in
    record {
      count = ap length c.in_ok-push.ensures.items ∙ (length_push c.loop-number.shards.items one ∙ ap (λ (n : ℕ). n + 1) i.count);
      each = subst (AreOf banks) (sym c.in_ok-push.ensures.items) (one_more_of banks c.loop-number.shards.items one i.each of);
    }
