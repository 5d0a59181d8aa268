use Rattle.std.proofs.Common.{ℕ, List, length, ap, ◌∙◌}
use Rattle.home.specs.HomeState.{HomeState, with_bytes_at}
use Rattle.l1_cache.specs.L1State.{copy_at}
use Rattle.shard.proofs.BankOwn.{bytes_read}
use Rattle.shard.proofs.BankSteps.{long_of, written_long}
use Rattle.shard.proofs.shared.own.write_back.Goals as goal

pub returns-in-Some-clause-after : goal.returns-in-Some-clause-after
returns-in-Some-clause-after c =
    c.write_back.ensures ∙ ap (λ (b : List ℕ). with_bytes_at c.args.evicted b c.args.home.now) (bytes_read (copy_at c.args.l1.now c.args.line) c.in-Some.bytes.now c.in-Some.ensures.here)

pub returns-in-Some-clause-long : goal.returns-in-Some-clause-long
returns-in-Some-clause-long c =
    ap (λ (h : HomeState). length h.bytes) c.write_back.ensures
    ∙ written_long c.args.home.now c.args.evicted c.in-Some.bytes.now c.requires.kept (long_of (copy_at c.args.l1.now c.args.line) c.in-Some.bytes.now c.in-Some.ensures.here)
