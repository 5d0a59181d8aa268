use Rattle.std.proofs.Common.{rules, ◌≡◌, length, sym, arith}
use Rattle.l1_cache.proofs.Copies.{bytes_read}
use Rattle.l1_cache.proofs.Views.{copy_nowhere, copy_there, within}
use Rattle.l1_cache.proofs.l1.L1.bytes.Goals as goal

pub returns-in-Some-clause-here : goal.returns-in-Some-clause-here
returns-in-Some-clause-here c =
    let was = c.self.invariant in
    let p = c.in-Some.place in
    let below = within was c.args.line p c.in-Some.ensures.here in
    let read = bytes_read c.self.inside.bytes.items p c.index.result.now (omega (arith, below, was.bytes_are)) c.index.ensures in
    let long : length c.index.result.now ≡ 64 = search rules in
    rw (← c.self.view_is, copy_there was c.args.line p c.in-Some.ensures.here) (sym read, long)

pub returns-in-None-clause-none : goal.returns-in-None-clause-none
returns-in-None-clause-none c = rw (← c.self.view_is) (copy_nowhere c.self.invariant c.args.line c.in-None.ensures.none)
