-- The crossing leads out of the domain.
use Rattle.std.proofs.Common.{◌≡◌, ℕ, List, Some, get_or, slice_get, sym, ◌∙◌, ap, subst, arith}
use Rattle.domain_map.specs.declared.crossing.Crossing.{Crossing}
use Rattle.domain_map.specs.Domains.{Partition}
use Rattle.weave_core.specs.DomainCalls.{IsOutOf}
use Rattle.weave_tests.proofs.Serving.{there_at}
use Rattle.weave_tests.proofs.driven.Driven.bound.Goals as goal

pub bound-requires : goal.bound-requires
bound-requires c =
    let none : Crossing = record { parent = 0; child = 0; source = 0; target = 0; delay = 0 } in
    let x : Crossing = get_or c.crossings-crossings.result.now c.args.number none in
    let k = c.args.self.now.keeps in
    let there : slice_get c.args.self.now.parts.now.crossings c.args.number ≡ Some x =
    ap (λ (xs : List Crossing). slice_get xs c.args.number) (sym c.crossings-crossings.ensures) ∙ there_at c.crossings-crossings.result.now c.args.number none (omega (arith, c.if-index-crossings.false))
    in
    record {
      out = subst (λ (p : Partition). IsOutOf p c.args.self.now.domain.domain c.args.number) (sym k.partition_is)
          (subst (λ (n : ℕ). IsOutOf c.args.self.now.parts.now n c.args.number) (sym k.domain_is) (record { crossing = x; there = there; source = c.if-crossing-self.false }));
    }
