-- Each link is the next of the chain.
use Rattle.std.proofs.Common.{◌<◌, ◌+◌, ◌-◌, ◌≡◌, length, get_or, ap, sym, ◌∙◌, subst, arith}
use Rattle.std.proofs.lemmas.Option.{get_or_from_slice_get}
use Rattle.weave_core.specs.declared.children.Link.{Link}
use Rattle.weave_core.specs.Waits.{Waits, told}
use Rattle.weave_core.proofs.Chaining.{IsNextLink, IsTelling, at_end, at_start, next_link}
use Rattle.weave_core.proofs.Lists.{get_below}
use Rattle.weave_core.proofs.children.tell_children.Goals as goal

-- what is read past the end
abbrev past : Link
past = record { child = 0; next = 0; delay = 0 }

pub loop-next-init : goal.loop-next-init
loop-next-init c = at_start c.args.links.now c.args.head c.args.finish c.args.waiting.now c.requires.chain c.requires.is_chain c.requires.can

pub bounds-links-next : goal.bounds-links-next
bounds-links-next c =
    let n : (l : Link) × IsNextLink c.args.links.now c.args.head c.args.finish c.loop-next.next c.args.waiting.now c.loop-next.waiting l =
    next_link c.args.links.now c.args.head c.args.finish c.loop-next.next c.args.waiting.now c.loop-next.waiting c.loop-next.invariant (omega (arith, c.loop-next-test.true))
    in
    get_below c.args.links.now (c.loop-next.next - 1) n.0 n.1.there

pub overflow_add-finish : goal.overflow_add-finish
overflow_add-finish c =
    let n : (l : Link) × IsNextLink c.args.links.now c.args.head c.args.finish c.loop-next.next c.args.waiting.now c.loop-next.waiting l =
    next_link c.args.links.now c.args.head c.args.finish c.loop-next.next c.args.waiting.now c.loop-next.waiting c.loop-next.invariant (omega (arith, c.loop-next-test.true))
    in
    let r : get_or c.args.links.now (c.loop-next.next - 1) past ≡ n.0 = get_or_from_slice_get c.args.links.now (c.loop-next.next - 1) n.0 past n.1.there in
    let delay = ap (λ (l : Link). l.delay) r in omega (arith, delay, n.1.tellable.small)

pub parent_fired-requires-clause-sizes : goal.parent_fired-requires-clause-sizes
parent_fired-requires-clause-sizes c =
    let n : (l : Link) × IsNextLink c.args.links.now c.args.head c.args.finish c.loop-next.next c.args.waiting.now c.loop-next.waiting l =
    next_link c.args.links.now c.args.head c.args.finish c.loop-next.next c.args.waiting.now c.loop-next.waiting c.loop-next.invariant (omega (arith, c.loop-next-test.true))
    in
    n.1.tellable.sizes

pub parent_fired-requires-clause-within : goal.parent_fired-requires-clause-within
parent_fired-requires-clause-within c =
    let n : (l : Link) × IsNextLink c.args.links.now c.args.head c.args.finish c.loop-next.next c.args.waiting.now c.loop-next.waiting l =
    next_link c.args.links.now c.args.head c.args.finish c.loop-next.next c.args.waiting.now c.loop-next.waiting c.loop-next.invariant (omega (arith, c.loop-next-test.true))
    in
    let r : get_or c.args.links.now (c.loop-next.next - 1) past ≡ n.0 = get_or_from_slice_get c.args.links.now (c.loop-next.next - 1) n.0 past n.1.there in
    subst (λ (l : Link). l.child < length c.loop-next.waiting.waits) (sym r) n.1.tellable.within

pub parent_fired-requires-clause-waits : goal.parent_fired-requires-clause-waits
parent_fired-requires-clause-waits c =
    let n : (l : Link) × IsNextLink c.args.links.now c.args.head c.args.finish c.loop-next.next c.args.waiting.now c.loop-next.waiting l =
    next_link c.args.links.now c.args.head c.args.finish c.loop-next.next c.args.waiting.now c.loop-next.waiting c.loop-next.invariant (omega (arith, c.loop-next-test.true))
    in
    let r : get_or c.args.links.now (c.loop-next.next - 1) past ≡ n.0 = get_or_from_slice_get c.args.links.now (c.loop-next.next - 1) n.0 past n.1.there in
    subst (λ (l : Link). 0 < get_or c.loop-next.waiting.waits l.child 0) (sym r) n.1.tellable.waits

pub parent_fired-requires-clause-unfired : goal.parent_fired-requires-clause-unfired
parent_fired-requires-clause-unfired c =
    let n : (l : Link) × IsNextLink c.args.links.now c.args.head c.args.finish c.loop-next.next c.args.waiting.now c.loop-next.waiting l =
    next_link c.args.links.now c.args.head c.args.finish c.loop-next.next c.args.waiting.now c.loop-next.waiting c.loop-next.invariant (omega (arith, c.loop-next-test.true))
    in
    let r : get_or c.args.links.now (c.loop-next.next - 1) past ≡ n.0 = get_or_from_slice_get c.args.links.now (c.loop-next.next - 1) n.0 past n.1.there in
    subst (λ (l : Link). get_or c.loop-next.waiting.waits l.child 0 < 4294967295) (sym r) n.1.tellable.unfired

pub loop-next-smaller : goal.loop-next-smaller
loop-next-smaller c =
    let n : (l : Link) × IsNextLink c.args.links.now c.args.head c.args.finish c.loop-next.next c.args.waiting.now c.loop-next.waiting l =
    next_link c.args.links.now c.args.head c.args.finish c.loop-next.next c.args.waiting.now c.loop-next.waiting c.loop-next.invariant (omega (arith, c.loop-next-test.true))
    in
    let r : get_or c.args.links.now (c.loop-next.next - 1) past ≡ n.0 = get_or_from_slice_get c.args.links.now (c.loop-next.next - 1) n.0 past n.1.there in
    subst (λ (l : Link). l.next < c.loop-next.next) (sym r) n.1.lower

pub loop-next-preserved : goal.loop-next-preserved
loop-next-preserved c =
    let n : (l : Link) × IsNextLink c.args.links.now c.args.head c.args.finish c.loop-next.next c.args.waiting.now c.loop-next.waiting l =
    next_link c.args.links.now c.args.head c.args.finish c.loop-next.next c.args.waiting.now c.loop-next.waiting c.loop-next.invariant (omega (arith, c.loop-next-test.true))
    in
    let r : get_or c.args.links.now (c.loop-next.next - 1) past ≡ n.0 = get_or_from_slice_get c.args.links.now (c.loop-next.next - 1) n.0 past n.1.there in
    let after : told c.loop-next.waiting n.0.child (c.args.finish + n.0.delay) ≡ c.parent_fired.new.self =
    sym (c.parent_fired.ensures ∙ ap (λ (l : Link). told c.loop-next.waiting l.child (c.args.finish + l.delay)) r)
    in
    subst (λ (w : Waits). IsTelling c.args.links.now c.args.head c.args.finish (get_or c.args.links.now (c.loop-next.next - 1) past).next c.args.waiting.now w) after
    (subst (λ (l : Link). IsTelling c.args.links.now c.args.head c.args.finish l.next c.args.waiting.now (told c.loop-next.waiting n.0.child (c.args.finish + n.0.delay))) (sym r) n.1.later)

pub returns : goal.returns
returns c = at_end c.args.links.now c.args.head c.args.finish c.loop-next.next c.args.waiting.now c.loop-next.waiting c.loop-next.invariant (omega (arith, c.loop-next-test.false))
