use Rattle.std.proofs.Common.{◌≡◌, ◌+◌, ◌-◌, ◌*◌, ◌∙◌, ℕ, List, None, arith, subst, sym}
use Rattle.rv_core.specs.Executions.{LeadsTo}
use Rattle.rv_blocks.specs.Slots.{left_at}
use Rattle.rv_blocks.proofs.Accesses.{apart_ends}
use Rattle.rv_blocks.proofs.Steps.{costs_last, costs_more, costs_some, ends_apart, leads_further, place_costs}
use Rattle.rv_blocks.proofs.Stopping.{accesses_at, stops}
use Rattle.rv_blocks.proofs.blocks.by_blocks.Goals as goal

pub perform-requires-clause-fit : goal.perform-requires-clause-fit
perform-requires-clause-fit g c = c.requires.slots.fit c.next.ip c.slot_at-slot.result.now c.slot_at-slot.ensures

pub next-preserved-in-On : goal.next-preserved-in-On
next-preserved-in-On g c =
    let was = c.next.invariant in
    let slots = c.args.slots.now in
    let slot = c.slot_at-slot.result.now in
    let more = costs_more c.args._image.now c.args.first slots c.requires.slots c.next.ip slot c.slot_at-slot.ensures c.in-On.ensures.continues.0 in
    record {
      within = c.in-On.ensures.continues.1;
      paid = omega (arith, more, was.paid);
      ran = leads_further c.args._image.now c.args.first slots c.requires.slots c.next.ip slot c.slot_at-slot.ensures None c.args.budget (c.next.left + left_at slots c.next.ip) (c.next.left + left_at slots (c.next.ip + 1))
          c.args.x.now c.next.x c.perform.new.x (c.args.first + 4 * c.args.place) (c.next.ip + 1) (omega (arith, more)) was.paid was.ran tt c.in-On.ensures.value;
    }

pub returns-then-left-cost-2-clause-ran : goal.returns-then-left-cost-2-clause-ran
returns-then-left-cost-2-clause-ran g c =
    let was = c.next.invariant in
    let slots = c.args.slots.now in
    let slot = c.slot_at-slot.result.now in
    let last = costs_last c.args._image.now c.args.first slots c.requires.slots c.next.ip slot c.slot_at-slot.ensures c.in-To.ensures.continues.0 in
    let out = c.out_of_budget-then-left-cost-2 in
    rw (out.ensures.left, out.ensures.place)
    (leads_further c.args._image.now c.args.first slots c.requires.slots c.next.ip slot c.slot_at-slot.ensures None c.args.budget (c.next.left + left_at slots c.next.ip) c.next.left c.args.x.now c.next.x c.perform.new.x (c.args.first + 4 * c.args.place) c.in-To.next (omega (arith, last)) was.paid was.ran tt c.in-To.ensures.value)

pub next-smaller : goal.next-smaller
next-smaller g c =
    let slots = c.args.slots.now in
    let some = place_costs c.args._image.now c.args.first slots c.requires.slots c.in-To.next c.slot_at-slot.result.now c.in-To.ensures.continues.1 in
    omega (arith, some, c.cost_at-cost-in-To.ensures, c.if-left-cost-2.false, c.next.invariant.within, c.requires.slots.memory)

pub next-preserved : goal.next-preserved
next-preserved g c =
    let was = c.next.invariant in
    let slots = c.args.slots.now in
    let slot = c.slot_at-slot.result.now in
    let last = costs_last c.args._image.now c.args.first slots c.requires.slots c.next.ip slot c.slot_at-slot.ensures c.in-To.ensures.continues.0 in
    let again : c.next.left - c.cost_at-cost-in-To.result + left_at slots c.in-To.next ≡ c.next.left = omega (arith, c.cost_at-cost-in-To.ensures, c.if-left-cost-2.false) in
    record {
      within = c.in-To.ensures.continues.1;
      paid = omega (arith, again, was.paid);
      ran = leads_further c.args._image.now c.args.first slots c.requires.slots c.next.ip slot c.slot_at-slot.ensures None c.args.budget (c.next.left + left_at slots c.next.ip) (c.next.left - c.cost_at-cost-in-To.result + left_at slots c.in-To.next) c.args.x.now c.next.x c.perform.new.x (c.args.first + 4 * c.args.place) c.in-To.next
          (omega (arith, last, again)) was.paid was.ran tt c.in-To.ensures.value;
    }

pub overflow_add-rest : goal.overflow_add-rest
overflow_add-rest g c =
    let some = costs_some c.args._image.now c.args.first c.args.slots.now c.requires.slots c.next.ip c.slot_at-slot.result.now c.slot_at-slot.ensures in
    omega (arith, some, c.next.invariant.paid, c.ranges.budget.fits)

pub returns-in_default : goal.returns-in_default
returns-in_default g c =
    let was = c.next.invariant in
    let slots = c.args.slots.now in
    let slot = c.slot_at-slot.result.now in
    let stop = stops c.perform.result c.next.ip c.perform.new.x c.in_default.not-On c.in_default.not-To in
    let none = sym stop.0 ∙ c.perform.ensures.value in
    let last = costs_last c.args._image.now c.args.first slots c.requires.slots c.next.ip slot c.slot_at-slot.ensures (apart_ends _ _ _ _ (sym none)) in
    let same = c.perform.ensures.same stop.1 in
    let left : c.next.left + left_at slots c.next.ip ≡ c.next.left + 1 = omega (arith, last) in
    record {
      place = was.within;
      left = omega (arith, left, was.paid);
      ran = subst (λ (r : List ℕ). LeadsTo None (c.args.budget - (c.next.left + 1)) c.args._image.now c.args.x.now (c.args.first + 4 * c.args.place) r (c.args.first + 4 * c.next.ip)) (sym same) (rw left at was.ran);
      ends = ends_apart c.args._image.now c.args.first slots c.requires.slots c.next.ip slot c.slot_at-slot.ensures c.next.x c.perform.new.x (left_at slots c.next.ip) (c.next.left + 1) same none (omega arith);
      access = accesses_at slots c.next.ip slot c.perform.result c.slot_at-slot.ensures c.perform.ensures.access;
      stops = stop.1;
    }
