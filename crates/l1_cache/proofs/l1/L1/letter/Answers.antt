use Rattle.std.proofs.Common.{refl, sym, ap, arith}
use Rattle.l1_cache.specs.declared.near.Kept.{Kept}
use Rattle.l1_cache.proofs.Copies.{kept_read}
use Rattle.l1_cache.proofs.Views.{copy_nowhere, copy_there, within}
use Rattle.l1_cache.proofs.l1.L1.letter.Goals as goal

pub returns-in-Some : goal.returns-in-Some
returns-in-Some c =
    let was = c.self.invariant in
    let p = c.in-Some.place in
    let below = within was c.args.line p c.in-Some.ensures.here in
    let read = kept_read c.self.inside.ways.kept.items p c.index.result.now (omega (arith, below, was.ways.kept_are)) c.index.ensures in
    rw (← c.self.view_is, copy_there was c.args.line p c.in-Some.ensures.here) (ap (λ (x : Kept). x.letter) (sym read))

pub returns-in-None : goal.returns-in-None
returns-in-None c = rw (← c.self.view_is, copy_nowhere c.self.invariant c.args.line c.in-None.ensures.none) refl
