use Rattle.std.proofs.Common.{◌∙◌, ◌+◌, ◌*◌, None, Some, ap, sym, arith}
use Rattle.std.specs.Prelude.{slice_get}
use Rattle.noc_mesh.specs.declared.standing.Standing.{Standing}
use Rattle.noc_mesh.specs.NetLaws.{hops_short}
use Rattle.noc_mesh.specs.NetTiming.{hops}
use Rattle.noc_mesh.specs.Passages.{passes, piece_of}
use Rattle.noc_mesh.specs.Standings.{waits_for}
use Rattle.noc_mesh.proofs.Ways.{hop_piece}
use Rattle.noc_mesh.proofs.hops.hop.Goals as goal

pub hop-requires-clause-place : goal.hop-requires-clause-place
hop-requires-clause-place c = omega (arith, hops_short c.args.path.now c.requires.path c.args.entry.now c.args.from c.args.to, c.requires.place)

pub returns : goal.returns
returns c = λ p is. (
    let stage = c.hop_stage.result in
    let place = c.args.place in
    let hops_there = hops c.args.path.now c.args.entry.now c.args.from c.args.to in
    ap (λ (s : Standing). slice_get (passes p hops_there).pieces (s.events + place)) (sym is)
    ∙ (hop_piece c.args.path.now c.args.entry.now p c.args.from c.args.to place stage c.hop_stage.ensures.stage
    ∙ (ap (λ (s : Standing). Some (piece_of stage (s.end + place * stage.time) (waits_for s.last s.events place) None)) is ∙ ap Some (sym c.hop.ensures)))
    )
