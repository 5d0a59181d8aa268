use Rattle.std.proofs.Common.{sym, ◌∙◌, arith}
use Rattle.profile.specs.Profiled.{has_address}
use Rattle.profile.proofs.Passed.{behind, past, to_end, up_to}
use Rattle.profile.proofs.profile.Profile.next_address.Goals as goal

pub returns-then-has_address : goal.returns-then-has_address
returns-then-has_address c = (
  omega (arith, c.loop-pc.invariant.behind, c.in-Some.ensures.next.0),
  sym c.has_address.ensures ∙ c.if-has_address.true,
  up_to (has_address c.args.self.now c.args.core) c.args.from c.loop-pc.at c.loop-pc.invariant.passed c.in-Some.pc c.in-Some.ensures.next.1,
)

pub returns-then-pc : goal.returns-then-pc
returns-then-pc c =
    past (has_address c.args.self.now c.args.core) c.args.from c.loop-pc.at c.loop-pc.invariant.passed c.in-Some.pc c.in-Some.ensures.next.1
    (sym c.has_address.ensures ∙ c.if-has_address.false) (λ n over. c.next_place.ensures.last n (omega (arith, over, c.if-pc.true)))

pub loop-pc-smaller : goal.loop-pc-smaller
loop-pc-smaller c = omega (arith, c.in-Some.ensures.next.0, c.if-pc.false)

pub loop-pc-preserved : goal.loop-pc-preserved
loop-pc-preserved c = record {
  behind = omega (arith, c.loop-pc.invariant.behind, c.in-Some.ensures.next.0);
  passed = behind (has_address c.args.self.now c.args.core) c.args.from c.loop-pc.at c.loop-pc.invariant.passed c.in-Some.pc c.in-Some.ensures.next.1
      (sym c.has_address.ensures ∙ c.if-has_address.false);
}

pub returns : goal.returns
returns c = to_end (has_address c.args.self.now c.args.core) c.args.from c.loop-pc.at c.loop-pc.invariant.passed c.in_default.ensures.next
