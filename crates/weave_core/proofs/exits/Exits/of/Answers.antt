-- A crossing more.
use Rattle.std.proofs.Common.{ℕ, ◌+◌, ◌≡◌, ◌∷◌, ◌++◌, [], Vec, Global, List, get_or, Some, slice_get, sym, ap, ◌∙◌, subst}
use Rattle.std.proofs.lemmas.Option.{slice_get-get_or}
use Rattle.domain_map.specs.declared.crossing.Crossing.{Crossing}
use Rattle.weave_core.specs.Exits.{AreExits}
use Rattle.weave_core.proofs.Exiting.{exits_next, exits_skip}
use Rattle.weave_core.proofs.exits.Exits.of.Goals.{then-crossing-domain+in-Some+in_ok-push+in_ok-push-2, else-crossing-domain}
use Rattle.weave_core.proofs.exits.Exits.of.Goals as goal

abbrev no_crossing : Crossing
no_crossing = record { parent = 0; child = 0; source = 0; target = 0; delay = 0 }

pub loop-number-preserved : goal.loop-number-preserved
loop-number-preserved c =
    let there : slice_get c.args.crossings.now c.loop-number.number ≡ Some (get_or c.args.crossings.now c.loop-number.number no_crossing) =
    slice_get-get_or c.args.crossings.now c.loop-number.number no_crossing c.loop-number-test.true
    in
    elim c.if-crossing-domain.branch [
      | then-crossing-domain+in-Some+in_ok-push+in_ok-push-2 w ↦
          let numbers : c.if-crossing-domain.numbers.items ≡ c.loop-number.numbers.items ++ c.loop-number.number ∷ [] = ap (λ (v : Vec ℕ Global). v.items) w.numbers-is ∙ w.in_ok-push.ensures.items in
          let parents : c.if-crossing-domain.parents.items ≡ c.loop-number.parents.items ++ w.in-Some.parent ∷ [] = ap (λ (v : Vec ℕ Global). v.items) w.parents-is ∙ w.in_ok-push-2.ensures.items in
          subst (λ (xs : List ℕ). AreExits c.args.here.now c.args.crossings.now c.args.domain (c.loop-number.number + 1) xs c.if-crossing-domain.parents.items) (sym numbers)
          (subst (λ (xs : List ℕ). AreExits c.args.here.now c.args.crossings.now c.args.domain (c.loop-number.number + 1) (c.loop-number.numbers.items ++ c.loop-number.number ∷ []) xs) (sym parents)
          (exits_next c.args.here.now c.args.crossings.now c.args.domain c.loop-number.number c.loop-number.numbers.items c.loop-number.parents.items c.loop-number.invariant
          (get_or c.args.crossings.now c.loop-number.number no_crossing) there w.in-Some.parent w.if-crossing-domain.true w.in-Some.ensures.some))
      | else-crossing-domain w ↦
          let numbers : c.if-crossing-domain.numbers.items ≡ c.loop-number.numbers.items = ap (λ (v : Vec ℕ Global). v.items) w.numbers-is in
          let parents : c.if-crossing-domain.parents.items ≡ c.loop-number.parents.items = ap (λ (v : Vec ℕ Global). v.items) w.parents-is in
          subst (λ (xs : List ℕ). AreExits c.args.here.now c.args.crossings.now c.args.domain (c.loop-number.number + 1) xs c.if-crossing-domain.parents.items) (sym numbers)
          (subst (λ (xs : List ℕ). AreExits c.args.here.now c.args.crossings.now c.args.domain (c.loop-number.number + 1) c.loop-number.numbers.items xs) (sym parents)
          (exits_skip c.args.here.now c.args.crossings.now c.args.domain c.loop-number.number c.loop-number.numbers.items c.loop-number.parents.items c.loop-number.invariant
          (get_or c.args.crossings.now c.loop-number.number no_crossing) there w.if-crossing-domain.false))
    ]
