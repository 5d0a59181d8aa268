use Rattle.std.proofs.Common.{length, get_or, refl, sym, ap, ◌∙◌, List, arith}
use Rattle.l1_cache.specs.declared.near.Kept.{Kept}
use Rattle.l1_cache.specs.declared.data_ways.DataWays.{DataWays}
use Rattle.l1_cache.specs.Layout.{no_kept}
use Rattle.l1_cache.proofs.Copies.{kept_read}
use Rattle.l1_cache.proofs.Views.{copy_nowhere, copy_there, within}
use Rattle.l1_cache.proofs.l1.L1.meet.Goals as goal

pub returns-in-Some-clause-letter : goal.returns-in-Some-clause-letter
returns-in-Some-clause-letter c =
    let was = c.self.invariant in
    let p = c.in-Some.place in
    let at = c.in-Some.ensures.here in
    let below = within was c.args.line p at in
    let kept_stays = ap (λ (x : DataWays). x.kept.items) c.in-Some.ensures.same in
    let read = kept_read c.meet.new.self.kept.items p c.index.result.now (omega (arith, below, was.ways.kept_are, ap length kept_stays)) c.index.ensures in
    rw (← c.self.view_is, copy_there was c.args.line p at) (ap (λ (k : Kept). k.letter) (sym read ∙ ap (λ (l : List Kept). get_or l p no_kept) kept_stays))

pub returns-clause-letter : goal.returns-clause-letter
returns-clause-letter c = rw (← c.self.view_is, copy_nowhere c.self.invariant c.args.line c.in_default.ensures.none) refl
