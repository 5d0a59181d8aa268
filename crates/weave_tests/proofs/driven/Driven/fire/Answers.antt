-- The servers are free before 2^61, and so is the start.
use Rattle.std.proofs.Common.{◌+◌, sym, subst, refl, arith}
use Rattle.weave_tests.specs.KeptOfDomain.{KeptOfDomain}
use Rattle.weave_tests.proofs.Keeping.{can_fire, keeps_fire}
use Rattle.weave_tests.proofs.driven.Driven.fire.Goals as goal

pub fire-requires : goal.fire-requires
fire-requires c =
    can_fire c.args.self.now.graph.now c.args.self.now.parts.now c.args.self.now.number c.args.self.now.domain c.args.self.now.known.items c.args.self.now.told.items c.args.self.now.floor c.args.self.now.busy
    c.args.self.now.keeps _ (λ s kind start. refl) c.in-Fire.key c.in-Fire.ensures (omega (arith, c.if-key-gt-LATEST.false)) (omega (arith, c.if-self-gt-LATEST.false))

pub invariant_of-self : goal.invariant_of-self
invariant_of-self c = record {
  keeps =
      subst (λ n. KeptOfDomain c.args.self.now.graph.now c.args.self.now.parts.now c.args.self.now.number c.fire.new.self c.args.self.now.known.items c.args.self.now.told.items c.args.self.now.floor (n + 4194304)) (sym c.max.ensures)
      (keeps_fire c.args.self.now.graph.now c.args.self.now.parts.now c.args.self.now.number c.args.self.now.domain c.args.self.now.known.items c.args.self.now.told.items c.args.self.now.floor c.args.self.now.busy
      c.args.self.now.keeps _ (λ s kind start. refl) c.fire.new.self c.fire.result c.in-Fire.key c.in-Fire.ensures c.fire.ensures);
}
