-- The slice is all shares.
use Rattle.std.proofs.Common.{◌≡◌, List, length, sym, subst, arith}
use Rattle.weave_run.specs.Shares.{HaveRunShares}
use Rattle.weave_run.specs.declared.share.DomainShare.{DomainShare}
use Rattle.weave_run.specs.declared.way.WatchedDomains.{WatchedDomains}
use Rattle.weave_run.proofs.Wovens.{lent}
use Rattle.weave_run.proofs.hands.run_in_threads.Goals as goal

pub returns : goal.returns
returns g c =
    let S : Type 0 = DomainShare g.row.C.Denot (WatchedDomains g.row.G.Denot) in
    let was : List S = c.args.shares.now.items in
    let same : c.as_mut_slice.result.now ≡ was = c.as_mut_slice.ensures.value in
    let ran : HaveRunShares g.C.Component.stepped was c.run_each.new.shares = subst (λ (xs : List S). HaveRunShares g.C.Component.stepped xs c.run_each.new.shares) same c.run_each.ensures in
    let size : c.args.shares.now.len ≡ length c.run_each.new.shares = (let a = c.args.shares.now.ok.0 in let b = ran.count in omega (arith, a, b)) in
    subst (HaveRunShares g.C.Component.stepped was) (sym (lent c.args.shares.now.len c.run_each.new.shares _ size)) ran
