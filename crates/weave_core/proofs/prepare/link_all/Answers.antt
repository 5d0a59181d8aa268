-- Each event is linked to its parents.
use Rattle.std.proofs.Common.{ℕ, ◌<◌, ◌≤◌, ◌≡◌, List, length, get_or, replicate, Option, Some, None, inl, inr, slice_get, sym, ap, ◌∙◌, subst, arith}
use Rattle.std.proofs.lemmas.List.{length-replicate}
use Rattle.std.proofs.lemmas.Option.{slice_get-get_or}
use Rattle.event_graph.specs.declared.event.Event.{Event}
use Rattle.event_graph.specs.declared.event.Parent.{Parent}
use Rattle.weave_core.specs.declared.children.Link.{Link}
use Rattle.weave_core.specs.Beginning.{AreChained, AreCounts, IsCount}
use Rattle.weave_core.specs.Layout.{no_event}
use Rattle.weave_core.proofs.LinkAll.{chained_next, chained_none, count_upto, counts_next, late_upto, linked_all}
use Rattle.weave_core.proofs.prepare.link_all.Goals as goal

pub loop-child-init : goal.loop-child-init
loop-child-init c =
    let zero : c.in_ok-heads.heads.items ≡ replicate (length c.args.here.now) 0 = c.in_ok-heads.ensures in
    record {
      heads = ap length zero ∙ length-replicate (length c.args.here.now) 0;
      links = omega (arith, ap length c.new-links.ensures.items);
      chained = subst (λ (xs : List Link). AreChained c.args.here.now c.in_ok-heads.heads.items xs (count_upto c.args.here.now 0) (late_upto c.args.here.now 0)) (sym c.new-links.ensures.items) (chained_none c.args.here.now c.in_ok-heads.heads.items zero);
      counts = record { size = ap length c.in_ok-waits.ensures.items; each = λ place e below. absurd (omega arith) };
    }

pub add_link-requires-clause-small : goal.add_link-requires-clause-small
add_link-requires-clause-small c =
    let below : c.loop-child.child < length c.args.here.now = omega (arith, c.loop-child-test.true) in
    (c.requires.small.each c.loop-child.child (get_or c.args.here.now c.loop-child.child no_event) (slice_get-get_or c.args.here.now c.loop-child.child no_event below)).first

pub add_link-requires-in-loop-child-clause-small : goal.add_link-requires-in-loop-child-clause-small
add_link-requires-in-loop-child-clause-small c =
    let below : c.loop-child.child < length c.args.here.now = omega (arith, c.loop-child-test.true) in
    (c.requires.small.each c.loop-child.child (get_or c.args.here.now c.loop-child.child no_event) (slice_get-get_or c.args.here.now c.loop-child.child no_event below)).second

pub loop-child-preserved : goal.loop-child-preserved
loop-child-preserved c =
    let below : c.loop-child.child < length c.args.here.now = omega (arith, c.loop-child-test.true) in
    let e : Event = get_or c.args.here.now c.loop-child.child no_event in
    let there : slice_get c.args.here.now c.loop-child.child ≡ Some (get_or c.args.here.now c.loop-child.child no_event) = slice_get-get_or c.args.here.now c.loop-child.child no_event below in
    record {
      heads = c.add_link-in-loop-child.ensures.heads ∙ (c.add_link.ensures.heads ∙ c.loop-child.invariant.heads);
      links = omega (arith, c.in_ok-second.ensures.links, c.in_ok-first.ensures.links, c.loop-child.invariant.links);
      chained =
          chained_next c.args.here.now c.add_link-in-loop-child.new.heads.items c.add_link-in-loop-child.new.links.items c.loop-child.child e there
          (c.in_ok-second.ensures.added _ _ (c.in_ok-first.ensures.added _ _ c.loop-child.invariant.chained));
      counts =
          counts_next c.args.here.now c.loop-child.waits.items c.push.new.self.items c.loop-child.child c.in_ok-first.first c.in_ok-second.second e there c.loop-child.invariant.counts
          c.in_ok-first.ensures.count c.in_ok-second.ensures.count c.in_ok-push.ensures.items;
    }

pub returns-clause-linked : goal.returns-clause-linked
returns-clause-linked c =
    linked_all c.args.here.now c.loop-child.heads.items c.loop-child.links.items c.loop-child.child (omega (arith, c.loop-child-test.false)) c.loop-child.invariant.chained

pub returns-clause-waits : goal.returns-clause-waits
returns-clause-waits c =
    let all : c.loop-child.child ≡ length c.args.here.now = omega (arith, c.loop-child-test.false, c.loop-child.auto.child-end) in
    subst (AreCounts c.args.here.now c.loop-child.waits.items) all c.loop-child.invariant.counts

pub add_link-requires-clause-heads : goal.add_link-requires-clause-heads
add_link-requires-clause-heads c = c.loop-child.invariant.heads

pub add_link-requires-clause-links : goal.add_link-requires-clause-links
add_link-requires-clause-links c = omega (arith, c.loop-child.invariant.links, c.loop-child-test.true, c.requires.few)

pub add_link-requires-in-loop-child-clause-heads : goal.add_link-requires-in-loop-child-clause-heads
add_link-requires-in-loop-child-clause-heads c = c.add_link.ensures.heads ∙ c.loop-child.invariant.heads

pub add_link-requires-in-loop-child-clause-links : goal.add_link-requires-in-loop-child-clause-links
add_link-requires-in-loop-child-clause-links c = omega (arith, c.in_ok-first.ensures.links, c.loop-child.invariant.links, c.loop-child-test.true, c.requires.few)

one_at_most : (here : List Event) (parent : Option Parent) (n : ℕ) → IsCount here parent n → n ≤ 1
one_at_most here None n is = omega (arith, is)
one_at_most here (Some q) n (inl there) = omega (arith, there.0)
one_at_most here (Some q) n (inr gone) = omega (arith, gone.0)

pub overflow_add-first : goal.overflow_add-first
overflow_add-first c =
    let event : Event = get_or c.args.here.now c.loop-child.child no_event in
    omega (arith, one_at_most c.args.here.now event.first c.in_ok-first.first c.in_ok-first.ensures.count, one_at_most c.args.here.now event.second c.in_ok-second.second c.in_ok-second.ensures.count)
