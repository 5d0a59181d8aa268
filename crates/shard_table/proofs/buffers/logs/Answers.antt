use Rattle.std.proofs.Common.{◌≡◌, ◌+◌, ◌++◌, ◌∷◌, [], List, ◌∙◌, ap, ap₂, arith}
use Rattle.std.proofs.lemmas.List.{replicate_more}
use Rattle.access_log.specs.Logs.{LogState}
use Rattle.shard_table.specs.Buffers.{new_logs}
use Rattle.shard_table.proofs.buffers.logs.Goals as goal

pub loop-preserved : goal.loop-preserved
loop-preserved c =
    let log : LogState = record { entries = []; room = c.args.room } in
    record {
      items = c.push_reserved.ensures.items ∙ ap₂ (λ (logs : List LogState) (one : LogState). logs ++ one ∷ []) c.loop.invariant.items c.in_ok-log_from.ensures ∙ replicate_more c.loop.counter log;
      room = omega (arith, c.loop.invariant.room, c.push_reserved.ensures.capacity);
      within = omega (arith, c.loop-test.true);
    }

pub returns : goal.returns
returns c =
    let all : c.loop.counter ≡ c.args.cores = omega (arith, c.loop-test.false, c.loop.invariant.within) in
    c.loop.invariant.items ∙ ap (λ (n : _). new_logs n c.args.room) all
