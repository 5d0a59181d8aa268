use Rattle.std.proofs.Common.{ℕ, ◌%◌, ap, ◌∙◌}
use Rattle.std.specs.Prelude.{nat_eq}
use Rattle.shard.specs.BankSteps.{bank_with}
use Rattle.shard.proofs.ShardSeen.{count_is, number_is}
use Rattle.shard.proofs.shard.Shard.is_own.Goals as goal

pub returns : goal.returns
returns c =
    let s = c.args.self.now in
    ap (λ (n : ℕ). nat_eq n c.from.result) (c.remainder.ensures ∙ ap (λ (n : ℕ). c.args.line % n) (c.self.invariant.count_is ∙ count_is (bank_with c.self.inside.home c.self.inside.l1s.items) c.self.inside.last c.args.self.now c.self.view_is))
    ∙ ap (λ (n : ℕ). nat_eq (c.args.line % s.caches.shards) n) (c.from.ensures ∙ (c.self.invariant.number_is ∙ number_is (bank_with c.self.inside.home c.self.inside.l1s.items) c.self.inside.last c.args.self.now c.self.view_is))
