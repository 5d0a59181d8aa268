use Rattle.std.proofs.Common.{rules, ◌≡◌, ℕ, ◌+◌, List, ◌++◌, Bool, false, get_or, length, take, sym, ◌∙◌, ap, arith}
use Rattle.std.specs.Prelude.{Option}
use Rattle.std.specs.Mem.Slots.{slots_filled, slots_items}
use mathlib.Core.Option.{some}
use lib.ListN.{get_elem?}
use Rattle.std.proofs.lemmas.List.{get_or-set_other, length-append, take_all}
use Rattle.home.specs.HomeState.{HomeState}
use Rattle.l1_cache.specs.L1State.{L1State}
use Rattle.parts_table.specs.declared.part.TimedPart.{TimedPart}
use Rattle.parts_table.specs.Slots.{home_in_slot, homes_of, l1_in_slot, l1s_of}
use Rattle.parts_table.proofs.SlotLists.{emptied, flat_few, flat_taken}
use Rattle.parts_table.proofs.slots.taken_out.Goals as goal

pub put_back-requires-clause-homes : goal.put_back-requires-clause-homes
put_back-requires-clause-homes c =
    let before = c.loop-number.invariant in
    let n : ℕ = c.loop-number.number in
    let slots : List (Option TimedPart) = slots_items c.args.closed.slots in
    let at : get_elem? slots n ≡ some c.take.result = ap (λ (xs : List (Option TimedPart)). get_elem? xs n) (sym before.slots) ∙ c.take.ensures.value in
    let next = ap length (flat_taken home_in_slot slots n c.take.result at) ∙ length-append (homes_of (take n slots)) (home_in_slot c.take.result) in
    let few = flat_few home_in_slot slots (n + 1) in
    let is = ap length before.homes in
    let room = before.homes_room in
    omega (arith, next, few, is, room)

pub put_back-requires-clause-l1s : goal.put_back-requires-clause-l1s
put_back-requires-clause-l1s c =
    let before = c.loop-number.invariant in
    let n : ℕ = c.loop-number.number in
    let slots : List (Option TimedPart) = slots_items c.args.closed.slots in
    let at : get_elem? slots n ≡ some c.take.result = ap (λ (xs : List (Option TimedPart)). get_elem? xs n) (sym before.slots) ∙ c.take.ensures.value in
    let next = ap length (flat_taken l1_in_slot slots n c.take.result at) ∙ length-append (l1s_of (take n slots)) (l1_in_slot c.take.result) in
    let few = flat_few l1_in_slot slots (n + 1) in
    let is = ap length before.l1s in
    let room = before.l1s_room in
    omega (arith, next, few, is, room)

pub loop-number-preserved : goal.loop-number-preserved
loop-number-preserved c =
    let before = c.loop-number.invariant in
    let n : ℕ = c.loop-number.number in
    let slots : List (Option TimedPart) = slots_items c.args.closed.slots in
    let filled : List Bool = slots_filled c.loop-number.closed.slots in
    let others = c.take.ensures.others in
    let at : get_elem? slots n ≡ some c.take.result = ap (λ (xs : List (Option TimedPart)). get_elem? xs n) (sym before.slots) ∙ c.take.ensures.value in
    record {
      homes = c.put_back.ensures.homes.0 ∙ (ap (λ (xs : List HomeState). xs ++ home_in_slot c.take.result) before.homes ∙ sym (flat_taken home_in_slot slots n c.take.result at));
      l1s = c.put_back.ensures.l1s.0 ∙ (ap (λ (xs : List L1State). xs ++ l1_in_slot c.take.result) before.l1s ∙ sym (flat_taken l1_in_slot slots n c.take.result at));
      homes_room = (let same = c.put_back.ensures.homes.1 in let room = before.homes_room in omega (arith, same, room));
      l1s_room = (let same = c.put_back.ensures.l1s.1 in let room = before.l1s_room in omega (arith, same, room));
      slots = others.0 ∙ before.slots;
      size = others.2 ∙ before.size;
      within = search rules;
      empty = λ k below. ap (λ (bs : List Bool). get_or bs k false) others.1 ∙ emptied filled n k (before.empty k) below;
      full = λ k above below.
          ap (λ (bs : List Bool). get_or bs k false) others.1
          ∙ (get_or-set_other filled n k false false (λ same. absurd (omega (arith, same, above))) ∙ before.full k (omega (arith, above)) below);
    }

pub returns-clause-homes : goal.returns-clause-homes
returns-clause-homes c = c.loop-number.invariant.homes ∙ ap homes_of (take_all c.loop-number.number (slots_items c.args.closed.slots) (omega (arith, c.loop-number-test.false)))

pub returns-clause-l1s : goal.returns-clause-l1s
returns-clause-l1s c = c.loop-number.invariant.l1s ∙ ap l1s_of (take_all c.loop-number.number (slots_items c.args.closed.slots) (omega (arith, c.loop-number-test.false)))
