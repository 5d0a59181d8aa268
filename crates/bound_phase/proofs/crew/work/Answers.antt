-- The first core of the queue runs, and goes behind all others.
use Rattle.std.proofs.Common.{rules, ◌≡◌, ◌-◌, ◌+◌, ◌<◌, ℕ, suc, List, ◌∷◌, length, sym, subst, arith}
use Rattle.bound_phase.proofs.Rows.{RanSoFar, all_ran, first_can, next_ran, none_ran, some_left}
use Rattle.bound_phase.specs.Member.{CanRun}
use Rattle.bound_phase.specs.declared.member.Member.{Member}
use Rattle.bound_phase.proofs.crew.work.Goals as goal

pub loop-init : goal.loop-init
loop-init g c =
    let all : List Member = c.args.crew.now.queue.items in
    record {
      so_far =
          subst (λ (n : ℕ). RanSoFar (g.X.Expand.time c.args.expansion.now) (g.P.Program.image c.args.program.now) c.args.end c.args.table.now all n all) (let same : length all ≡ length all - 0 = omega arith in same)
          (none_ran (g.X.Expand.time c.args.expansion.now) (g.P.Program.image c.args.program.now) c.args.end c.args.table.now all);
      within = omega arith;
    }

pub unreachable-requires : goal.unreachable-requires
unreachable-requires g c =
    let all : List Member = c.args.crew.now.queue.items in
    let t = c.loop-test.true in
    let e = c.len-end.ensures in
    let ok = c.args.crew.now.queue.ok in
    let size = ok.0 in
    let left : 0 < length all - c.loop.counter = omega (arith, t, e, size) in
    let some = some_left (g.X.Expand.time c.args.expansion.now) (g.P.Program.image c.args.program.now) c.args.end c.args.table.now all (length all - c.loop.counter) c.loop.crew.queue.items left c.loop.invariant.so_far in
    let now = c.loop.crew.queue.ok in
    let long = now.0 in
    let more : 0 < c.loop.crew.queue.len = omega (arith, some, long) in
    let none = c.in_default.is in
    let variant = c.pop_front.ensures.variant in
    search rules

pub run-member-requires : goal.run-member-requires
run-member-requires g c =
    let all : List Member = c.args.crew.now.queue.items in
    let t = c.loop-test.true in
    let e = c.len-end.ensures in
    let ok = c.args.crew.now.queue.ok in
    let size = ok.0 in
    let left : length all - c.loop.counter ≡ suc (length all - (c.loop.counter + 1)) = omega (arith, t, e, size) in (
      search rules,
      first_can (g.X.Expand.time c.args.expansion.now) (g.P.Program.image c.args.program.now) c.args.end c.args.table.now (CanRun c.args.table.now c.args.memory.now c.args.end) all (length all - (c.loop.counter + 1)) c.in-Some.member
          c.pop_front.new.self.items c.requires.can
          (subst (λ (n : ℕ). RanSoFar (g.X.Expand.time c.args.expansion.now) (g.P.Program.image c.args.program.now) c.args.end c.args.table.now all n (c.in-Some.member ∷ c.pop_front.new.self.items)) left
          (subst (RanSoFar (g.X.Expand.time c.args.expansion.now) (g.P.Program.image c.args.program.now) c.args.end c.args.table.now all (length all - c.loop.counter)) c.in-Some.ensures.items c.loop.invariant.so_far)),
    )

pub loop-preserved : goal.loop-preserved
loop-preserved g c =
    let all : List Member = c.args.crew.now.queue.items in
    let t = c.loop-test.true in
    let e = c.len-end.ensures in
    let ok = c.args.crew.now.queue.ok in
    let size = ok.0 in
    let left : length all - c.loop.counter ≡ suc (length all - (c.loop.counter + 1)) = omega (arith, t, e, size) in
    record {
      so_far =
          subst (RanSoFar (g.X.Expand.time c.args.expansion.now) (g.P.Program.image c.args.program.now) c.args.end c.args.table.now all (length all - (c.loop.counter + 1))) (sym {A = List Member} c.push_back_reserved.ensures.items)
          (next_ran (g.X.Expand.time c.args.expansion.now) (g.P.Program.image c.args.program.now) c.args.end c.args.table.now all (length all - (c.loop.counter + 1)) c.pop_front.new.self.items c.in-Some.member c.run-member.result
          (subst (λ (n : ℕ). RanSoFar (g.X.Expand.time c.args.expansion.now) (g.P.Program.image c.args.program.now) c.args.end c.args.table.now all n (c.in-Some.member ∷ c.pop_front.new.self.items)) left
          (subst (RanSoFar (g.X.Expand.time c.args.expansion.now) (g.P.Program.image c.args.program.now) c.args.end c.args.table.now all (length all - c.loop.counter)) c.in-Some.ensures.items c.loop.invariant.so_far)) c.run-member.ensures);
      within = omega (arith, t, e, size);
    }

pub returns : goal.returns
returns g c =
    let all : List Member = c.args.crew.now.queue.items in
    let t = c.loop-test.false in
    let w = c.loop.invariant.within in
    let e = c.len-end.ensures in
    let ok = c.args.crew.now.queue.ok in
    let size = ok.0 in
    let none : length all - c.loop.counter ≡ 0 = omega (arith, t, w, e, size) in
    record {
      ran = all_ran (g.X.Expand.time c.args.expansion.now) (g.P.Program.image c.args.program.now) c.args.end c.args.table.now all c.loop.crew.queue.items
          (subst (λ (n : ℕ). RanSoFar (g.X.Expand.time c.args.expansion.now) (g.P.Program.image c.args.program.now) c.args.end c.args.table.now all n c.loop.crew.queue.items) none c.loop.invariant.so_far);
    }
