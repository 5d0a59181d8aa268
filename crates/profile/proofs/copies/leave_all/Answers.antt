use Rattle.std.proofs.Common.{◌∙◌}
use Rattle.profile.specs.declared.copies.CopyState.TheVariants.{Never}
use Rattle.sparse_table.specs.ByCore.{value_at}
use Rattle.profile.proofs.Leaving.{done_more, untold_more}
use Rattle.profile.proofs.copies.leave_all.Goals as goal

pub loop-core-preserved : goal.loop-core-preserved
loop-core-preserved c =
    let first = value_at Never c.args.tables.now.items in
    let now = value_at Never c.loop-core.tables.items in
    let new = value_at Never c.leave_there.new.tables.items in
    record {
      done = done_more c.args.why c.args.spared c.args.line first now new c.loop-core.core c.loop-core.invariant.done c.loop-core.invariant.left c.in_ok-leave_there.ensures.ok;
      left = untold_more c.args.why c.args.spared c.args.line first now new c.loop-core.core c.loop-core.invariant.done c.loop-core.invariant.left c.in_ok-leave_there.ensures.ok;
      count = c.leave_there.ensures.count ∙ c.loop-core.invariant.count;
    }
