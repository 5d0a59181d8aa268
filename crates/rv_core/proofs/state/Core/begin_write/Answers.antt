use Rattle.std.proofs.Common.{◌≡◌, ◌≤◌, ◌<◌, ◌+◌, ◌-◌, true, ap, subst, sym, arith}
use Rattle.std.proofs.lemmas.Bool.{and_parts}
use Rattle.rv_core.specs.CoreState.{CoreState}
use Rattle.rv_core.specs.Step.{is_free}
use Rattle.rv_core.proofs.Fetches.{unfetched-ready}
use Rattle.rv_core.proofs.Kept.{writing-keeps}
use Rattle.rv_core.proofs.state.Core.begin_write.Goals as goal

pub invariant_of-self : goal.invariant_of-self
invariant_of-self c =
    let base : c.self.inside.memory.base ≡ c.args.self.now.memory.base = ap (λ (s : CoreState). s.memory.base) c.self.view_is in
    let size : c.self.inside.memory.size ≡ c.args.self.now.memory.size = ap (λ (s : CoreState). s.memory.size) c.self.view_is in
    let begins : c.self.inside.memory.base ≤ c.args.addr = omega (arith, base, c.requires.begins) in
    let ends : c.args.addr + 1 + (c.args.count - 1) ≤ c.self.inside.memory.base + c.self.inside.memory.size = omega (arith, base, size, c.requires.ends) in
    let few : c.args.count - 1 < 256 = omega (arith, c.requires.few) in
    let free = subst (λ (s : CoreState). is_free s ≡ true) (sym c.self.view_is) (and_parts (is_free c.args.self.now) _ c.requires.idle).0 in
    let ready = unfetched-ready _ free c.self.invariant.0 in
    ((writing-keeps c.args.addr (c.args.count - 1) c.args.count _ ready begins ends few).sound, (begins, ends, few))
