-- The link is put before the others of its parent.
use Rattle.std.proofs.Common.{ℕ, ◌+◌, ◌<◌, ◌≤◌, ◌^◌, ◌≡◌, ◌∷◌, ◌++◌, [], cond, eqb, max, List, length, set, Option, Some, IfSome, slice_get, sym, ap, subst, arith}
use Rattle.std.proofs.lemmas.List.{length_push}
use Rattle.event_graph.specs.declared.event.Parent.{Parent}
use Rattle.weave_core.specs.declared.children.Link.{Link}
use Rattle.weave_core.specs.Beginning.{AreChained}
use Rattle.weave_core.specs.Layout.{hit_after, times_parent}
use Rattle.weave_core.proofs.Indexing.{read_there}
use Rattle.weave_core.proofs.Linking.{added}
use Rattle.weave_core.proofs.Lists.{get_below}
use Rattle.weave_core.proofs.prepare.add_link.Goals as goal

pub returns-clause-added : goal.returns-clause-added
returns-clause-added c = λ count late are.
    let place = c.in-Some-place_of.place in
    let has = c.in-Some-place_of.ensures.some in
    let below : c.in-Some-place_of.place < length c.args.heads.now.items = omega (arith, c.requires.heads, get_below c.args.here.now c.in-Some-place_of.place has.event has.there) in
    let head : slice_get c.args.heads.now.items c.in-Some-place_of.place ≡ Some c.index.result.now = read_there c.args.heads.now.items c.in-Some-place_of.place c.index.result.now below c.index.ensures in
    let items : c.push.new.self.items ≡ c.args.links.now.items ++ (record { child = c.args.child; next = c.index.result.now; delay = c.in-Some.parent.delay }) ∷ [] = c.in_ok-push.ensures.items in
    let size : c.len.result ≡ length c.args.links.now.items + 1 =
    omega (arith, c.len.ensures, c.push.new.self.ok.0, ap length items, length_push c.args.links.now.items (record { child = c.args.child; next = c.index.result.now; delay = c.in-Some.parent.delay }))
    in
    let small : c.in-Some.parent.delay ≤ 2 ^ 62 = subst (λ (o : Option Parent). IfSome o (λ q. q.delay ≤ 2 ^ 62)) c.in-Some.is c.requires.small in
    subst (λ (o : Option Parent). AreChained c.args.here.now (set c.args.heads.now.items c.in-Some-place_of.place c.len.result) c.push.new.self.items (λ n k. count n k + cond (eqb k c.args.child) (times_parent n o) 0) (λ f n k. max (late f n k) (cond (eqb k c.args.child) (hit_after f n o) 0))) (sym c.in-Some.is)
    (subst (λ (xs : List Link). AreChained c.args.here.now (set c.args.heads.now.items c.in-Some-place_of.place c.len.result) xs (λ n k. count n k + cond (eqb k c.args.child) (times_parent n (Some c.in-Some.parent)) 0) (λ f n k. max (late f n k) (cond (eqb k c.args.child) (hit_after f n (Some c.in-Some.parent)) 0))) (sym items)
    (subst (λ (m : ℕ). AreChained c.args.here.now (set c.args.heads.now.items c.in-Some-place_of.place m) (c.args.links.now.items ++ (record { child = c.args.child; next = c.index.result.now; delay = c.in-Some.parent.delay }) ∷ []) (λ n k. count n k + cond (eqb k c.args.child) (times_parent n (Some c.in-Some.parent)) 0) (λ f n k. max (late f n k) (cond (eqb k c.args.child) (hit_after f n (Some c.in-Some.parent)) 0))) (sym size)
    (added c.args.here.now c.requires.rising c.args.heads.now.items c.args.links.now.items c.args.child c.in-Some-place_of.place c.index.result.now c.in-Some.parent count late has c.requires.child small head are)))
