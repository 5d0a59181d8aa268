-- The servers are fast.
use Rattle.std.proofs.Common.{◌≡◌, sym, ◌∙◌, subst}
use Rattle.std.proofs.lemmas.Bool.{leb-true}
use Rattle.weave_tests.specs.KeptOfDomain.{AreCalm}
use Rattle.weave_tests.proofs.driven.prepared.Goals as goal

pub returns-in-Ok : goal.returns-in-Ok
returns-in-Ok c =
    let comps : c.of.result ≡ c.deref.result.now = c.of.ensures ∙ sym c.deref.ensures.value in
    let fast = c.are_fast.ensures c.if-not-are_fast.false in
    let calm : AreCalm 4194304 c.deref.result.now = record { each = λ i s h. let r = fast i s h in (leb-true s.occupancy 4194304 r.0, r.1) } in
    record { comps = c.of.result; is = c.in-Ok.ensures.prepared; calm = subst (AreCalm 4194304) (sym comps) calm }
