-- The next domain takes the first list that is left.
use Rattle.std.proofs.Common.{◌≡◌, ◌<◌, ◌+◌, ℕ, List, ◌∷◌, ◌++◌, Vec, length, map, subst, sym, ◌∙◌, ap, ap₂, arith}
use Rattle.std.proofs.lemmas.List.{length-map}
use Rattle.std.specs.List.{remove}
use Rattle.std.specs.declared.alloc.Global.{Global}
use Rattle.weave_core.specs.DomainCalls.{DomainValue, at_first, comps_in}
use Rattle.weave_run.specs.Dealing.{AreDealt, items_of}
use Rattle.weave_run.specs.Setup.{AreBegun, begun}
use Rattle.weave_run.proofs.Gatherings.{first_and_rest}
use Rattle.weave_run.proofs.Preparings.{first_left, none_begun, one_begun, put_count, rest_length, still_dealt}
use Rattle.weave_run.proofs.setup.prepare_all.Goals as goal

pub prepare-requires-clause-components : goal.prepare-requires-clause-components
prepare-requires-clause-components g c =
    let i = c.loop-number.invariant in
    let some : 0 < length c.loop-number.rooms.items = (let t = c.loop-number-test.true in let n = c.domains-number-end.ensures.count in let m = i.count in omega (arith, t, n, m)) in (
      c.args.plan.now.comps.value,
      record {
        count = c.requires.partitioned.places;
        fits = c.requires.partitioned.fits;
        comps_are = c.of.ensures
            ∙ (ap (λ (v : Vec g.row.C.Denot Global). v.items) c.remove-own.ensures.value
            ∙ first_left (map (λ (v : DomainValue g.row.C.Denot). v.comps) c.loop-number.domains.items) c.loop-number.rooms.items c.loop-number.number c.remove-own.result c.args.parts.now.places c.args.plan.now.comps.value i.dealt
            (length-map c.loop-number.domains.items (λ (v : DomainValue g.row.C.Denot). v.comps) ∙ i.begun.count_is) some);
      },
    )

pub returns-in-Err-clause-count : goal.returns-in-Err-clause-count
returns-in-Err-clause-count g c =
    let i = c.loop-number.invariant in
    let some : 0 < length c.loop-number.rooms.items = (let t = c.loop-number-test.true in let n = c.domains-number-end.ensures.count in let m = i.count in omega (arith, t, n, m)) in
    let all = put_count c.loop-number.domains.items c.in-Err.own c.remove-own.new.self.items c.put_back.result.items c.put_back.ensures in
    let less = rest_length c.loop-number.rooms.items some in
    let rest = ap length c.remove-own.ensures.items in
    let n = i.begun.count_is in
    let m = i.count in
    omega (arith, all, less, rest, n, m)

pub loop-number-preserved : goal.loop-number-preserved
loop-number-preserved g c =
    let i = c.loop-number.invariant in
    let some : 0 < length c.loop-number.rooms.items = (let t = c.loop-number-test.true in let n = c.domains-number-end.ensures.count in let m = i.count in omega (arith, t, n, m)) in
    let rooms_are : c.loop-number.rooms.items ≡ c.remove-own.result ∷ c.remove-own.new.self.items =
    first_and_rest c.loop-number.rooms.items c.remove-own.result some
    ∙ (ap (λ (x : Vec g.row.C.Denot Global). x ∷ remove c.loop-number.rooms.items 0) (sym c.remove-own.ensures.value)
    ∙ ap (λ (xs : List (Vec g.row.C.Denot Global)). c.remove-own.result ∷ xs) (sym c.remove-own.ensures.items))
    in
    let own : c.remove-own.result.items ≡ comps_in c.args.parts.now.places c.loop-number.number c.args.plan.now.comps.value =
    ap (λ (v : Vec g.row.C.Denot Global). v.items) c.remove-own.ensures.value
    ∙ first_left (map (λ (v : DomainValue g.row.C.Denot). v.comps) c.loop-number.domains.items) c.loop-number.rooms.items c.loop-number.number c.remove-own.result c.args.parts.now.places c.args.plan.now.comps.value i.dealt
    (length-map c.loop-number.domains.items (λ (v : DomainValue g.row.C.Denot). v.comps) ∙ i.begun.count_is) some
    in
    let prepared = c.in-Ok.ensures.prepared in
    let domain : c.in-Ok.domain ≡ begun c.args.graph.now c.args.parts.now c.args.plan.now.comps.value c.loop-number.number =
    prepared
    ∙ ap (λ (cs : List g.row.C.Denot). let v : DomainValue g.row.C.Denot = record { domain = c.loop-number.number; events = c.args.graph.now; partition = c.args.parts.now; own = at_first c.args.parts.now; comps = cs } in v) (c.of.ensures ∙ own)
    in
    record {
      begun = subst (AreBegun c.args.graph.now c.args.parts.now c.args.plan.now.comps.value (c.loop-number.number + 1)) (sym c.push_reserved.ensures.items)
          (one_begun c.args.graph.now c.args.parts.now c.args.plan.now.comps.value c.loop-number.number c.loop-number.domains.items c.in-Ok.domain i.begun domain);
      dealt = subst (λ (vs : List (DomainValue g.row.C.Denot)). AreDealt c.args.parts.now.places c.args.plan.now.comps.value (map (λ (v : DomainValue g.row.C.Denot). v.comps) vs ++ items_of c.remove-own.new.self.items)) (sym c.push_reserved.ensures.items)
          (still_dealt c.args.parts.now.places c.args.plan.now.comps.value c.loop-number.domains.items c.in-Ok.domain c.remove-own.result c.loop-number.rooms.items c.remove-own.new.self.items i.dealt rooms_are
          (ap (λ (v : DomainValue g.row.C.Denot). v.comps) prepared ∙ c.of.ensures));
      count = (let less = rest_length c.loop-number.rooms.items some in let rest = ap length c.remove-own.ensures.items in let m = i.count in omega (arith, less, rest, m));
      room = (let r = i.room in let k = c.push_reserved.ensures.capacity in omega (arith, r, k));
    }

pub loop-number-init : goal.loop-number-init
loop-number-init g c = record {
  begun = rw c.requires.domains.0 (none_begun c.args.graph.now c.args.parts.now c.args.plan.now.comps.value);
  dealt = rw c.requires.domains.0 c.requires.dealt;
  count = omega (arith, c.requires.count);
  room = c.requires.domains.1;
}

pub put_back-requires-clause-room : goal.put_back-requires-clause-room
put_back-requires-clause-room g c =
    omega (arith, c.loop-number.invariant.begun.count_is, c.loop-number.invariant.count, c.requires.lists.1, c.remove-own.ensures.len, c.loop-number.rooms.ok, c.remove-own.new.self.ok)

pub returns-in-Err-clause-back : goal.returns-in-Err-clause-back
returns-in-Err-clause-back g c =
    let i = c.loop-number.invariant in
    let some : 0 < length c.loop-number.rooms.items = omega (arith, c.loop-number-test.true, c.domains-number-end.ensures.count, i.count) in
    let domains : List (List g.row.C.Denot) = map (λ (v : DomainValue g.row.C.Denot). v.comps) c.loop-number.domains.items in
    let rooms_are : c.loop-number.rooms.items ≡ c.remove-own.result ∷ c.remove-own.new.self.items =
    first_and_rest c.loop-number.rooms.items c.remove-own.result some
    ∙ ap₂ (λ (x : Vec g.row.C.Denot Global) (xs : List (Vec g.row.C.Denot Global)). x ∷ xs) (sym c.remove-own.ensures.value) (sym c.remove-own.ensures.items) in
    subst (AreDealt c.args.parts.now.places c.args.plan.now.comps.value)
    (ap (λ (vs : List (Vec g.row.C.Denot Global)). domains ++ items_of vs) rooms_are
    ∙ ap (λ (own : List g.row.C.Denot). domains ++ own ∷ items_of c.remove-own.new.self.items) (sym (c.in-Err.ensures.back ∙ c.of.ensures))
    ∙ sym c.put_back.ensures)
    i.dealt

pub returns-clause-begun : goal.returns-clause-begun
returns-clause-begun g c =
    let all : c.loop-number.number ≡ length c.args.parts.now.events =
    omega (arith, c.loop-number-test.false, c.loop-number.auto.number-end, c.domains-number-end.ensures.count) in
    subst (λ (n : ℕ). AreBegun c.args.graph.now c.args.parts.now c.args.plan.now.comps.value n c.loop-number.domains.items) all c.loop-number.invariant.begun
