use Rattle.std.proofs.Common.{◌++◌, ◌∙◌, sym, List, ℕ, ap}
use Rattle.std.proofs.Math.Seq.{take-length}
use Rattle.zs_host.proofs.sure_sink.SureSinkSink.put.Goals as goal

pub returns-clause-appended : goal.returns-clause-appended
returns-clause-appended c =
    c.in_ok-extend_from_slice.ensures.items ∙ ap (λ (piece : List ℕ). c.args.self.now.taken.items ++ piece) (sym (take-length c.args.piece.now))
