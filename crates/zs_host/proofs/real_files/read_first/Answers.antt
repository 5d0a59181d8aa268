use Rattle.std.proofs.Common.{arith, rules}
use Rattle.std.proofs.KnownBytes.{Consumes-nil, Consumes-kept}
use Rattle.zs_host.proofs.Reading.{piece_is_read, all_is_read}
use Rattle.zs_host.proofs.real_files.read_first.Goals.{in-Ok, in-Err}
use Rattle.zs_host.proofs.real_files.read_first.Goals as goal

pub pieces-init : goal.pieces-init
pieces-init g c = rw c.new-bytes.ensures.items (record { taken = Consumes-nil _; within = omega arith })

pub pieces-preserved : goal.pieces-preserved
pieces-preserved g c = elim c.match-read_piece.branch [
  | in-Ok w ↦ piece_is_read _ _ _ _ _ _ _ _ c.pieces.invariant w.in-Ok.ensures.piece (omega arith)
  | in-Err w ↦ let kept = w.in-Err.ensures in
      rw kept.unchanged
      (record {
        taken = Consumes-kept _ _ _ _ c.pieces.invariant.taken (kept.interrupted (search rules));
        within = c.pieces.invariant.within;
      })
]

pub returns-in-Ok-eq0-clause-first : goal.returns-in-Ok-eq0-clause-first
returns-in-Ok-eq0-clause-first g c =
    let piece = rw c.in-Ok-eq0.is at c.read_piece.ensures.piece in
    let end = rw c.in-Ok-eq0.is at c.read_piece.ensures.end in
    all_is_read _ _ _ _ (piece_is_read _ _ _ _ _ _ _ _ c.pieces.invariant piece (omega arith)) (end c.in-Ok-eq0.field-0-test)

pub returns-in-Ok-eq0-clause-bound : goal.returns-in-Ok-eq0-clause-bound
returns-in-Ok-eq0-clause-bound g c =
    let piece = rw c.in-Ok-eq0.is at c.read_piece.ensures.piece in
    omega (arith, (piece_is_read _ _ _ _ _ _ _ _ c.pieces.invariant piece (omega arith)).within)
