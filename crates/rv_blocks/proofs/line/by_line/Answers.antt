use Rattle.std.proofs.Common.{◌≡◌, ◌+◌, ◌-◌, ◌*◌, ◌/◌, ◌%◌, ◌∙◌, ℕ, List, Some, min, arith, subst, sym, true≢false}
use Rattle.zs_num.specs.Request.{line_at}
use Rattle.rv_core.specs.Executions.{LeadsTo}
use Rattle.rv_blocks.specs.Slots.{left_at}
use Rattle.rv_blocks.proofs.Accesses.{apart_ends}
use Rattle.rv_blocks.proofs.Fetching.{same_line}
use Rattle.rv_blocks.proofs.Steps.{costs_last, costs_more, costs_some, leads_further, place_costs}
use Rattle.rv_blocks.proofs.Stopping.{accesses_at, stops}
use Rattle.rv_blocks.proofs.line.by_line.Goals as goal

pub perform-requires-clause-fit : goal.perform-requires-clause-fit
perform-requires-clause-fit g c = c.requires.slots.fit c.next.ip c.slot_at-slot.result.now c.slot_at-slot.ensures

pub returns-then-ip-end-clause-ran : goal.returns-then-ip-end-clause-ran
returns-then-ip-end-clause-ran g c =
    let was = c.next.invariant in
    let slots = c.args.slots.now in
    let slot = c.slot_at-slot.result.now in
    let end = c.args.place + (64 - (c.args.first + 4 * c.args.place) % 64) / 4 in
    let lies = same_line c.args.first c.args.place c.next.ip c.requires.aligned was.begins was.inside in
    let some = costs_some c.args._image.now c.args.first slots c.requires.slots c.next.ip slot c.slot_at-slot.ensures in
    leads_further c.args._image.now c.args.first slots c.requires.slots c.next.ip slot c.slot_at-slot.ensures (Some (line_at (c.args.first + 4 * c.args.place))) c.args.budget (c.args.budget - c.min-cost.result + min (left_at slots c.next.ip) (end - c.next.ip)) (c.args.budget - c.min-cost.result) c.args.x.now c.next.x c.perform.new.x (c.args.first + 4 * c.args.place) (c.next.ip + 1)
    (omega (arith, some, was.inside, c.if-ip-end.true)) was.paid was.ran lies c.in-On.ensures.value

pub returns-then-ip-end-clause-goes : goal.returns-then-ip-end-clause-goes
returns-then-ip-end-clause-goes g c goes =
    let some = place_costs c.args._image.now c.args.first c.args.slots.now c.requires.slots c.args.place c.slot_at-slot.result.now c.requires.place in
    omega (arith, some, c.min-cost.ensures, c.cost_at.ensures, c.if-budget-cost.false)

pub next-preserved : goal.next-preserved
next-preserved g c =
    let was = c.next.invariant in
    let slots = c.args.slots.now in
    let slot = c.slot_at-slot.result.now in
    let end = c.args.place + (64 - (c.args.first + 4 * c.args.place) % 64) / 4 in
    let lies = same_line c.args.first c.args.place c.next.ip c.requires.aligned was.begins was.inside in
    let more = costs_more c.args._image.now c.args.first slots c.requires.slots c.next.ip slot c.slot_at-slot.ensures c.in-On.ensures.continues.0 in
    record {
      within = c.in-On.ensures.continues.1;
      begins = omega (arith, was.begins);
      inside = c.if-ip-end.false;
      paid = omega (arith, more, was.paid, was.inside);
      ran = leads_further c.args._image.now c.args.first slots c.requires.slots c.next.ip slot c.slot_at-slot.ensures (Some (line_at (c.args.first + 4 * c.args.place))) c.args.budget (c.args.budget - c.min-cost.result + min (left_at slots c.next.ip) (end - c.next.ip)) (c.args.budget - c.min-cost.result + min (left_at slots (c.next.ip + 1)) (end - (c.next.ip + 1))) c.args.x.now c.next.x c.perform.new.x (c.args.first + 4 * c.args.place) (c.next.ip + 1)
          (omega (arith, more, was.inside)) was.paid was.ran lies c.in-On.ensures.value;
    }

pub returns-in-To-clause-ran : goal.returns-in-To-clause-ran
returns-in-To-clause-ran g c =
    let was = c.next.invariant in
    let slots = c.args.slots.now in
    let slot = c.slot_at-slot.result.now in
    let end = c.args.place + (64 - (c.args.first + 4 * c.args.place) % 64) / 4 in
    let lies = same_line c.args.first c.args.place c.next.ip c.requires.aligned was.begins was.inside in
    let last = costs_last c.args._image.now c.args.first slots c.requires.slots c.next.ip slot c.slot_at-slot.ensures c.in-To.ensures.continues.0 in
    leads_further c.args._image.now c.args.first slots c.requires.slots c.next.ip slot c.slot_at-slot.ensures (Some (line_at (c.args.first + 4 * c.args.place))) c.args.budget (c.args.budget - c.min-cost.result + min (left_at slots c.next.ip) (end - c.next.ip)) (c.args.budget - c.min-cost.result) c.args.x.now c.next.x c.perform.new.x (c.args.first + 4 * c.args.place) c.in-To.next
    (omega (arith, last, was.inside)) was.paid was.ran lies c.in-To.ensures.value

pub returns-in-To-clause-goes : goal.returns-in-To-clause-goes
returns-in-To-clause-goes g c goes =
    let some = place_costs c.args._image.now c.args.first c.args.slots.now c.requires.slots c.args.place c.slot_at-slot.result.now c.requires.place in
    omega (arith, some, c.min-cost.ensures, c.cost_at.ensures, c.if-budget-cost.false)

pub overflow_add-rest : goal.overflow_add-rest
overflow_add-rest g c =
    let some = costs_some c.args._image.now c.args.first c.args.slots.now c.requires.slots c.next.ip c.slot_at-slot.result.now c.slot_at-slot.ensures in
    omega (arith, some, c.next.invariant.paid, c.next.invariant.inside, c.ranges.budget.fits)

pub returns-in_default : goal.returns-in_default
returns-in_default g c =
    let was = c.next.invariant in
    let slots = c.args.slots.now in
    let slot = c.slot_at-slot.result.now in
    let end = c.args.place + (64 - (c.args.first + 4 * c.args.place) % 64) / 4 in
    let lies = same_line c.args.first c.args.place c.next.ip c.requires.aligned was.begins was.inside in
    let stop = stops c.perform.result c.next.ip c.perform.new.x c.in_default.not-On c.in_default.not-To in
    let none = sym stop.0 ∙ c.perform.ensures.value in
    let last = costs_last c.args._image.now c.args.first slots c.requires.slots c.next.ip slot c.slot_at-slot.ensures (apart_ends _ _ _ _ (sym none)) in
    let same = c.perform.ensures.same stop.1 in
    let rest = c.args.budget - c.min-cost.result + 1 in
    let left : c.args.budget - c.min-cost.result + min (left_at slots c.next.ip) (end - c.next.ip) ≡ rest = omega (arith, last, was.inside) in
    record {
      place = was.within;
      left = omega (arith, left, was.paid);
      ran = subst (λ (r : List ℕ). LeadsTo (Some (line_at (c.args.first + 4 * c.args.place))) (c.args.budget - rest) c.args._image.now c.args.x.now (c.args.first + 4 * c.args.place) r (c.args.first + 4 * c.next.ip)) (sym same)
          (subst (λ (n : ℕ). LeadsTo (Some (line_at (c.args.first + 4 * c.args.place))) (c.args.budget - n) c.args._image.now c.args.x.now (c.args.first + 4 * c.args.place) c.next.x (c.args.first + 4 * c.next.ip)) left was.ran);
      access = accesses_at slots c.next.ip slot c.perform.result c.slot_at-slot.ensures c.perform.ensures.access;
      lies = λ access. lies;
      goes = λ goes. absurd (true≢false (sym stop.1 ∙ goes));
    }
