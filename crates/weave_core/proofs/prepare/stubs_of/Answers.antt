-- A crossing more.
use Rattle.std.proofs.Common.{ℕ, ◌+◌, ◌<◌, ◌≤◌, ◌≡◌, ◌∷◌, ◌++◌, [], false, Vec, Global, List, length, set, get_or, None, Some, slice_get, sym, ap, ◌∙◌, subst, arith}
use Rattle.std.proofs.lemmas.Option.{get_or_from_slice_get, slice_get-get_or}
use Rattle.event_graph.specs.declared.event.Event.{Event}
use Rattle.domain_map.specs.declared.crossing.Crossing.{Crossing}
use Rattle.weave_core.specs.declared.incoming.Stub.{Stub}
use Rattle.weave_core.specs.Beginning.{AddsWaits, AreStubsUpto}
use Rattle.weave_core.specs.DomainMachine.{is_exact}
use Rattle.weave_core.proofs.Lists.{get_below, get_there}
use Rattle.weave_core.proofs.Looked.{unknown_few}
use Rattle.weave_core.proofs.Stubbing.{adds_next, adds_none, stubs_next, stubs_skip}
use Rattle.weave_core.proofs.prepare.stubs_of.Goals.{then-crossing-domain+in_ok-push, else-crossing-domain}
use Rattle.weave_core.proofs.prepare.stubs_of.Goals as goal

abbrev no_crossing : Crossing
no_crossing = record { parent = 0; child = 0; source = 0; target = 0; delay = 0 }

pub overflow_add-waits : goal.overflow_add-waits
overflow_add-waits c =
    let made = c.stub_of-stub.ensures in
    let below : c.stub_of-stub.result.child < length c.args.waits.now = omega (arith, get_below c.args.here.now c.stub_of-stub.result.child made.child.event made.child.there, c.requires.waits.size) in
    let w : (w : ℕ) × (slice_get c.args.waits.now c.stub_of-stub.result.child ≡ Some w) = get_there c.args.waits.now c.stub_of-stub.result.child below in
    let now : get_or c.loop-number.waits c.stub_of-stub.result.child 0 ≡ w.0 + _ = get_or_from_slice_get c.loop-number.waits c.stub_of-stub.result.child _ 0 (c.loop-number.invariant.waits.each c.stub_of-stub.result.child w.0 w.1) in
    let few : length c.loop-number.stubs.items ≤ c.loop-number.number = c.loop-number.invariant.stubs.few in
    omega (arith, now, c.requires.waits.few c.stub_of-stub.result.child w.0 w.1, unknown_few c.stub_of-stub.result.child c.loop-number.stubs.items, few, c.loop-number-test.true, c.requires.few_crossings)

pub bounds-waits-stub-then-crossing-domain : goal.bounds-waits-stub-then-crossing-domain
bounds-waits-stub-then-crossing-domain c =
    let made = c.stub_of-stub.ensures in
    omega (arith, get_below c.args.here.now c.stub_of-stub.result.child made.child.event made.child.there, c.requires.waits.size, c.loop-number.invariant.waits.size)

pub loop-number-preserved : goal.loop-number-preserved
loop-number-preserved c =
    let below : c.loop-number.number < length c.args.crossings.now = omega (arith, c.loop-number-test.true) in
    let there : slice_get c.args.crossings.now c.loop-number.number ≡ Some (get_or c.args.crossings.now c.loop-number.number no_crossing) = slice_get-get_or c.args.crossings.now c.loop-number.number no_crossing below in
    elim c.if-crossing-domain.branch [
      | then-crossing-domain+in_ok-push w ↦
          let made = w.stub_of-stub.ensures in
          let unknown : is_exact w.stub_of-stub.result.word ≡ false = ap is_exact made.word in
          let within : w.stub_of-stub.result.child < length c.loop-number.waits =
          omega (arith, get_below c.args.here.now w.stub_of-stub.result.child made.child.event made.child.there, c.requires.waits.size, c.loop-number.invariant.waits.size)
          in
          let was : slice_get c.loop-number.waits w.stub_of-stub.result.child ≡ Some (get_or c.loop-number.waits w.stub_of-stub.result.child 0) = slice_get-get_or c.loop-number.waits w.stub_of-stub.result.child 0 within in
          let stubs : c.if-crossing-domain.stubs.items ≡ c.loop-number.stubs.items ++ w.stub_of-stub.result ∷ [] = ap (λ (v : Vec Stub Global). v.items) w.stubs-is ∙ w.in_ok-push.ensures.items in
          record {
            stubs = subst (λ (xs : List Stub). AreStubsUpto c.args.events.now c.args.here.now c.args.crossings.now c.args.domain xs (c.loop-number.number + 1)) (sym stubs)
                (stubs_next c.args.events.now c.args.here.now c.args.crossings.now c.args.domain c.loop-number.stubs.items c.loop-number.number c.loop-number.invariant.stubs (get_or c.args.crossings.now c.loop-number.number no_crossing) there
                w.stub_of-stub.result w.if-crossing-domain.true made);
            waits = subst (λ (ws : List ℕ). AddsWaits c.args.waits.now ws c.if-crossing-domain.stubs.items) (sym w.waits-is)
                (subst (λ (xs : List Stub). AddsWaits c.args.waits.now (set c.loop-number.waits w.stub_of-stub.result.child (get_or c.loop-number.waits w.stub_of-stub.result.child 0 + 1)) xs) (sym stubs)
                (adds_next c.args.waits.now c.loop-number.waits c.loop-number.stubs.items w.stub_of-stub.result (get_or c.loop-number.waits w.stub_of-stub.result.child 0) c.loop-number.invariant.waits was unknown));
          }
      | else-crossing-domain w ↦
          let stubs : c.if-crossing-domain.stubs.items ≡ c.loop-number.stubs.items = ap (λ (v : Vec Stub Global). v.items) w.stubs-is in
          record {
            stubs = subst (λ (xs : List Stub). AreStubsUpto c.args.events.now c.args.here.now c.args.crossings.now c.args.domain xs (c.loop-number.number + 1)) (sym stubs)
                (stubs_skip c.args.events.now c.args.here.now c.args.crossings.now c.args.domain c.loop-number.stubs.items c.loop-number.number c.loop-number.invariant.stubs (get_or c.args.crossings.now c.loop-number.number no_crossing) there w.if-crossing-domain.false);
            waits = subst (λ (ws : List ℕ). AddsWaits c.args.waits.now ws c.if-crossing-domain.stubs.items) (sym w.waits-is)
                (subst (λ (xs : List Stub). AddsWaits c.args.waits.now c.loop-number.waits xs) (sym stubs) c.loop-number.invariant.waits);
          }
    ]

no_stubs : (events here : List Event) (crossings : List Crossing) (domain : ℕ) → AreStubsUpto events here crossings domain [] 0
no_stubs events here crossings domain = record {
  few = omega arith;
  each = λ place s at. absurd (let none : None ≡ Some s = at in cc);
  covers = λ number x below there own. absurd (omega (arith, below));
  rising = λ i j s t less at after. absurd (let none : None ≡ Some s = at in cc);
}

pub loop-number-init : goal.loop-number-init
loop-number-init c =
    let none = c.new-stubs.ensures.items in
    record {
      stubs = subst (λ (xs : List Stub). AreStubsUpto c.args.events.now c.args.here.now c.args.crossings.now c.args.domain xs 0) (sym none) (no_stubs c.args.events.now c.args.here.now c.args.crossings.now c.args.domain);
      waits = subst (AddsWaits c.args.waits.now c.args.waits.now) (sym none) (adds_none c.args.waits.now);
    }

pub stub_of-stub-requires-clause-crossed : goal.stub_of-stub-requires-clause-crossed
stub_of-stub-requires-clause-crossed c =
    let x = get_or c.args.crossings.now c.loop-number.number no_crossing in
    c.requires.crossed.each c.loop-number.number x (slice_get-get_or c.args.crossings.now c.loop-number.number no_crossing c.loop-number-test.true) c.if-crossing-domain.true

pub returns-clause-stubs : goal.returns-clause-stubs
returns-clause-stubs c =
    let all : c.loop-number.number ≡ length c.args.crossings.now = omega (arith, c.loop-number-test.false, c.loop-number.auto.number-end) in
    subst (AreStubsUpto c.args.events.now c.args.here.now c.args.crossings.now c.args.domain c.loop-number.stubs.items) all c.loop-number.invariant.stubs

pub returns-clause-waits : goal.returns-clause-waits
returns-clause-waits c = c.loop-number.invariant.waits

pub bounds-waits-stub : goal.bounds-waits-stub
bounds-waits-stub c =
    let made = c.stub_of-stub.ensures in
    omega (arith, get_below c.args.here.now c.stub_of-stub.result.child made.child.event made.child.there, c.requires.waits.size, c.loop-number.invariant.waits.size)

pub offset_bounds-waits-stub : goal.offset_bounds-waits-stub
offset_bounds-waits-stub c =
    let made = c.stub_of-stub.ensures in
    omega (arith, get_below c.args.here.now c.stub_of-stub.result.child made.child.event made.child.there, c.requires.few)

pub overflow_cast-waits : goal.overflow_cast-waits
overflow_cast-waits c =
    let made = c.stub_of-stub.ensures in
    omega (arith, get_below c.args.here.now c.stub_of-stub.result.child made.child.event made.child.there, c.requires.few)
