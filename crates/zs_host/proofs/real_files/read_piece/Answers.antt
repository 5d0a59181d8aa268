use Rattle.std.proofs.Common.{ℕ, arith}
use Rattle.std.proofs.lemmas.List.{length-take, length-replicate}
use Rattle.zs_host.proofs.Reading.{end_is_seen}
use Rattle.zs_host.proofs.real_files.read_piece.Goals as goal

pub returns-clause-end : goal.returns-clause-end
returns-clause-end g c =
    end_is_seen _ _ c.read.result _ c.read.new.buf c.read.ensures.bytes (cc) (omega (arith, length-take {A = ℕ}, length-replicate {A = ℕ}))
