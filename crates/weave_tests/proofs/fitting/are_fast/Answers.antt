-- The component is fast, and so are those before it.
use Rattle.std.proofs.Common.{◌≡◌, get_or, Some, ap, subst, inl, inr, arith}
use Rattle.std.proofs.lemmas.Bool.{cases_eq, le-leb}
use Rattle.std.specs.Prelude.{slice_get}
use Rattle.weave_tests.specs.declared.server.Server.{Server}
use Rattle.weave_tests.proofs.Lists.{get_within, read_is}
use Rattle.weave_tests.proofs.fitting.are_fast.Goals as goal

pub loop-server-preserved : goal.loop-server-preserved
loop-server-preserved c = λ i s l at.
    elim (cases_eq i c.loop-server.server-index) [
      | inl same ↦
          let none : Server = record { occupancy = 0; free = 0 } in
          let here : get_or c.args.servers.now c.loop-server.server-index none ≡ s =
          read_is c.args.servers.now c.loop-server.server-index none s (subst (λ n. slice_get c.args.servers.now n ≡ Some s) same at)
          in (
            le-leb s.occupancy 4194304 (omega (arith, ap (λ (z : Server). z.occupancy) here, c.if-server-gt-LIMIT.false)),
            omega (arith, ap (λ (z : Server). z.free) here, c.if-server-gt-LIMIT-2.false),
          )
      | inr ne ↦ c.loop-server.invariant i s (omega (arith, l, ne)) at
    ]

pub returns : goal.returns
returns c = λ t i s at. c.loop-server.invariant i s (omega (arith, get_within c.args.servers.now i s at, c.loop-server-test.false)) at
