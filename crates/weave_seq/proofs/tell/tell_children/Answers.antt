-- The child is told, and the next one is the child before it.
use Rattle.std.proofs.Common.{◌≡◌, ◌<◌, ◌≤◌, ◌+◌, ◌^◌, length, ap, sym, ◌∙◌, arith, length-set, false, true}
use Rattle.std.specs.Prelude.{slice_index}
use Rattle.std.proofs.lemmas.List.{get_or_read, length-map}
use Rattle.event_graph.specs.declared.fired.Fired.{Fired}
use Rattle.event_graph.proofs.Lists.{get_within, read_is}
use Rattle.weave_seq.specs.Chains.{parent_in}
use Rattle.weave_seq.specs.Known.{finish_at}
use Rattle.weave_seq.proofs.TellSteps.{IsChild, child_read, goes_down, more_told, next_is_child, still_untold, told_at_first, told_at_last}
use Rattle.weave_seq.proofs.Telling.{all_at, child_waits, from_all}
use Rattle.weave_seq.proofs.tell.tell_children.Goals as goal

abbrev no_time : Fired
no_time = record { number = 0; start = 0; finish = 0 }

pub loop-next-init : goal.loop-next-init
loop-next-init c =
    let chains = c.requires.chains in
    let after : 0 < finish_at c.args.state.now.times c.args.fired.number = omega (arith, c.requires.finish, c.requires.after) in
    let next : c.index-next.result.now ≡ slice_index c.args.children.now.last.items c.args.fired.number =
    get_or_read c.args.children.now.last.items c.args.fired.number c.index-next.result.now (omega (arith, chains.last_size, length-map c.args.events.now (parent_in c.args.children.now.slot), c.requires.within)) c.index-next.ensures 0
    in
    record {
      is_child = λ some. chains.last_is c.args.fired.number c.index-next.result.now some (sym next);
      times_size = ap (λ s. length s.times) c.requires.untold ∙ length-map c.args.events.now _;
      waits_size = ap (λ s. length s.waits) c.requires.untold ∙ length-map c.args.events.now _;
      told = λ j e at l. told_at_first c.args.events.now c.requires.numbered c.args.children.now.slot c.args.children.now.last.items c.args.children.now.before.items chains c.args.fired.number (finish_at c.args.state.now.times) after c.args.state.now c.requires.untold c.index-next.result.now next j e at l;
      untold = λ j e at l. all_at c.args.fired.number (finish_at c.args.state.now.times) after c.args.children.now.slot false c.args.events.now c.args.state.now c.requires.untold j e at;
    }

pub overflow_add-fired : goal.overflow_add-fired
overflow_add-fired c =
    let k : IsChild c.args.children.now.slot c.args.events.now c.args.fired.number c.loop-next.next c.in-Some.p =
    child_read c.args.children.now.slot c.args.events.now c.args.fired.number c.loop-next.next (c.loop-next.invariant.is_child (omega (arith, c.loop-next-test.true))) _ c.parent.result c.in-Some.p c.parent.ensures c.in-Some.is
    in
    let small : c.args.fired.finish + c.in-Some.p.delay ≤ 2 ^ 62 = c.requires.small c.loop-next.next k.event c.in-Some.p k.there k.parent k.of_it in
    omega (arith, small)

pub parent_fired-requires-clause-waits : goal.parent_fired-requires-clause-waits
parent_fired-requires-clause-waits c =
    let after : 0 < finish_at c.args.state.now.times c.args.fired.number = omega (arith, c.requires.finish, c.requires.after) in
    let k : IsChild c.args.children.now.slot c.args.events.now c.args.fired.number c.loop-next.next c.in-Some.p =
    child_read c.args.children.now.slot c.args.events.now c.args.fired.number c.loop-next.next (c.loop-next.invariant.is_child (omega (arith, c.loop-next-test.true))) _ c.parent.result c.in-Some.p c.parent.ensures c.in-Some.is
    in
    let unfired : finish_at c.args.state.now.times k.event.number ≡ 0 =
    ap (λ n. finish_at c.args.state.now.times n) (c.requires.numbered.number c.loop-next.next k.event k.there) ∙ c.requires.unfired c.loop-next.next k.event c.in-Some.p k.there k.parent k.of_it
    in
    let at = c.loop-next.invariant.untold c.loop-next.next k.event k.there (omega arith) in
    let waits = child_waits c.args.fired.number (finish_at c.args.state.now.times) after c.args.children.now.slot k.event c.in-Some.p k.parent k.of_it unfired in
    omega (arith, read_is c.loop-next.state.waits c.loop-next.next 0 _ at.1, waits)

pub loop-next-smaller : goal.loop-next-smaller
loop-next-smaller c =
    let chains = c.requires.chains in
    let after : 0 < finish_at c.args.state.now.times c.args.fired.number = omega (arith, c.requires.finish, c.requires.after) in
    let some : 0 < c.loop-next.next = omega (arith, c.loop-next-test.true) in
    let k : IsChild c.args.children.now.slot c.args.events.now c.args.fired.number c.loop-next.next c.in-Some.p =
    child_read c.args.children.now.slot c.args.events.now c.args.fired.number c.loop-next.next (c.loop-next.invariant.is_child some) _ c.parent.result c.in-Some.p c.parent.ensures c.in-Some.is
    in
    let next : c.index-next-in-loop-next.result.now ≡ slice_index c.args.children.now.before.items c.loop-next.next =
    get_or_read c.args.children.now.before.items c.loop-next.next c.index-next-in-loop-next.result.now (omega (arith, chains.before_size, get_within c.args.events.now c.loop-next.next k.event k.there)) c.index-next-in-loop-next.ensures 0
    in
    goes_down c.args.events.now c.requires.numbered c.args.children.now.slot c.args.children.now.last.items c.args.children.now.before.items chains c.args.fired.number (finish_at c.args.state.now.times) after
    c.loop-next.next c.index-next-in-loop-next.result.now c.in-Some.p k some next

pub loop-next-preserved : goal.loop-next-preserved
loop-next-preserved c =
    let chains = c.requires.chains in
    let after : 0 < finish_at c.args.state.now.times c.args.fired.number = omega (arith, c.requires.finish, c.requires.after) in
    let some : 0 < c.loop-next.next = omega (arith, c.loop-next-test.true) in
    let k : IsChild c.args.children.now.slot c.args.events.now c.args.fired.number c.loop-next.next c.in-Some.p =
    child_read c.args.children.now.slot c.args.events.now c.args.fired.number c.loop-next.next (c.loop-next.invariant.is_child some) _ c.parent.result c.in-Some.p c.parent.ensures c.in-Some.is
    in
    let next : c.index-next-in-loop-next.result.now ≡ slice_index c.args.children.now.before.items c.loop-next.next =
    get_or_read c.args.children.now.before.items c.loop-next.next c.index-next-in-loop-next.result.now (omega (arith, chains.before_size, get_within c.args.events.now c.loop-next.next k.event k.there)) c.index-next-in-loop-next.ensures 0
    in
    let unfired : finish_at c.args.state.now.times c.loop-next.next ≡ 0 = c.requires.unfired c.loop-next.next k.event c.in-Some.p k.there k.parent k.of_it in
    let at_is : c.args.fired.finish + c.in-Some.p.delay ≡ finish_at c.args.state.now.times c.args.fired.number + c.in-Some.p.delay = ap (λ n. n + c.in-Some.p.delay) (sym c.requires.finish) in
    record {
      is_child = next_is_child c.args.events.now c.requires.numbered c.args.children.now.slot c.args.children.now.last.items c.args.children.now.before.items chains c.args.fired.number (finish_at c.args.state.now.times) after
          c.loop-next.next c.index-next-in-loop-next.result.now c.in-Some.p k some next;
      times_size = ap length (c.parent_fired.ensures.times no_time) ∙ (length-set c.loop-next.state.times c.loop-next.next _ ∙ c.loop-next.invariant.times_size);
      waits_size = ap length c.parent_fired.ensures.waits ∙ (length-set c.loop-next.state.waits c.loop-next.next _ ∙ c.loop-next.invariant.waits_size);
      told = more_told c.args.events.now c.requires.numbered c.args.children.now.slot c.args.children.now.last.items c.args.children.now.before.items chains c.args.fired.number (finish_at c.args.state.now.times) after
          c.loop-next.next c.index-next-in-loop-next.result.now c.in-Some.p k some next
          c.loop-next.state.times c.parent_fired.new.self.times c.loop-next.state.waits c.parent_fired.new.self.waits no_time (c.args.fired.finish + c.in-Some.p.delay) (c.parent_fired.ensures.times no_time) c.parent_fired.ensures.waits unfired at_is
          c.loop-next.invariant.told c.loop-next.invariant.untold;
      untold = still_untold c.args.events.now c.requires.numbered c.args.children.now.slot c.args.children.now.last.items c.args.children.now.before.items chains c.args.fired.number (finish_at c.args.state.now.times) after
          c.loop-next.next c.index-next-in-loop-next.result.now c.in-Some.p k some next
          c.loop-next.state.times c.parent_fired.new.self.times c.loop-next.state.waits c.parent_fired.new.self.waits no_time (c.args.fired.finish + c.in-Some.p.delay) (c.parent_fired.ensures.times no_time) c.parent_fired.ensures.waits unfired at_is
          c.loop-next.invariant.told c.loop-next.invariant.untold;
    }

pub returns : goal.returns
returns c =
    let after : 0 < finish_at c.args.state.now.times c.args.fired.number = omega (arith, c.requires.finish, c.requires.after) in
    let end : c.loop-next.next ≡ 0 = omega (arith, c.loop-next-test.false) in
    from_all c.args.fired.number (finish_at c.args.state.now.times) after c.args.children.now.slot true c.args.events.now c.loop-next.state c.loop-next.invariant.times_size c.loop-next.invariant.waits_size
    (told_at_last c.args.events.now c.requires.numbered c.args.children.now.slot c.args.children.now.last.items c.args.children.now.before.items c.requires.chains c.args.fired.number (finish_at c.args.state.now.times) after c.loop-next.state
    (λ j e at l. c.loop-next.invariant.told j e at (omega (arith, end, l)))
    (λ j e at l. c.loop-next.invariant.untold j e at (omega (arith, end, l))))
