use Rattle.std.proofs.Common.{refl}
use Rattle.profile.specs.declared.parts.Parts.{Parts}
use Rattle.profile.proofs.Hits.{hit_more}
use Rattle.profile.proofs.parts.Parts.hit.Goals as goal

pub returns : goal.returns
returns c = λ time cores steps cycles parts.
    let new : Parts = record { copies = c.pass_hit.new.self; makers = c.args.self.now.makers; rows = c.change.new.self } in
    hit_more c.args.entry.now c.requires.hits time cores steps c.args.self.now new parts c.args.pc c.args.leaving.now c.line.result c.args.hit.now c.line.ensures c.requires.kind cycles
    c.in_ok-change.ensures c.in_ok-pass_hit.ensures refl
