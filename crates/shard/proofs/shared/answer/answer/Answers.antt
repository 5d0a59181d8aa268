use Rattle.std.proofs.Common.{sym, ap, ◌∙◌}
use Rattle.std.specs.Prelude.{slice_index_or}
use Rattle.zs_num.specs.Request.{addr_of, line_of}
use Rattle.zs_num.specs.declared.request.Request.{Request}
use Rattle.l1_cache.specs.L1State.{copy_at, no_l1, place_in_line}
use Rattle.shard.specs.Marks.{reply_from}
use Rattle.shard.specs.SharedStep.{bytes_of}
use Rattle.shard.proofs.shared.answer.answer.Goals as goal

pub returns-in-Load-clause-reply : goal.returns-in-Load-clause-reply
unfolding reply_from
returns-in-Load-clause-reply c =
    c.answer_load.ensures.reply
    ∙ sym (ap (λ (r : Request). reply_from (bytes_of (copy_at (slice_index_or c.args.l1s.now c.args.core no_l1) (line_of r))) (place_in_line (addr_of r)) c.args.home.now.marks c.args.core r) c.in-Load.is)

pub returns-in-Store-clause-reply : goal.returns-in-Store-clause-reply
unfolding reply_from
returns-in-Store-clause-reply c =
    sym (ap (λ (r : Request). reply_from (bytes_of (copy_at (slice_index_or c.args.l1s.now c.args.core no_l1) (line_of r))) (place_in_line (addr_of r)) c.args.home.now.marks c.args.core r) c.in-Store.is)
