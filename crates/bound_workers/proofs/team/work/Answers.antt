-- The first core of the queue runs, and goes behind all others.
use Rattle.std.proofs.Common.{rules, ◌≡◌, ◌-◌, ◌+◌, ◌<◌, ℕ, suc, List, ◌∷◌, length, sym, subst, arith}
use Rattle.noc_mesh.specs.NetTiming.{net_time}
use Rattle.bound_workers.proofs.Rows.{RanSoFar, all_ran, first_can, next_ran, none_ran, some_left}
use Rattle.bound_workers.specs.Member.{CanRun}
use Rattle.bound_workers.specs.declared.member.Member.{Member}
use Rattle.bound_workers.proofs.team.work.Goals as goal

pub loop-init : goal.loop-init
loop-init g c =
    let all : List Member = c.args.team.now.queue.items in
    record {
      so_far =
          subst (λ (n : ℕ). RanSoFar (λ e. net_time c.args.net.now.path e) c.args.program.now c.args.end c.args.table.now all n all) (let same : length all ≡ length all - 0 = omega arith in same)
          (none_ran (λ e. net_time c.args.net.now.path e) c.args.program.now c.args.end c.args.table.now all);
      places = search rules;
      within = omega arith;
    }

pub unreachable-requires : goal.unreachable-requires
unreachable-requires g c =
    let all : List Member = c.args.team.now.queue.items in
    let t = c.loop-test.true in
    let e = c.len-end.ensures in
    let ok = c.args.team.now.queue.ok in
    let size = ok.0 in
    let left : 0 < length all - c.loop.counter = omega (arith, t, e, size) in
    let some = some_left (λ e. net_time c.args.net.now.path e) c.args.program.now c.args.end c.args.table.now all (length all - c.loop.counter) c.loop.team.queue.items left c.loop.invariant.so_far in
    let now = c.loop.team.queue.ok in
    let long = now.0 in
    let more : 0 < c.loop.team.queue.len = omega (arith, some, long) in
    let none = c.in_default-pop_front.is in
    let variant = c.pop_front.ensures.variant in
    search rules

pub run-member-requires-clause-can : goal.run-member-requires-clause-can
run-member-requires-clause-can g c =
    let all : List Member = c.args.team.now.queue.items in
    let t = c.loop-test.true in
    let e = c.len-end.ensures in
    let ok = c.args.team.now.queue.ok in
    let size = ok.0 in
    let left : length all - c.loop.counter ≡ suc (length all - (c.loop.counter + 1)) = omega (arith, t, e, size) in
    first_can (λ e. net_time c.args.net.now.path e) c.args.program.now c.args.end c.args.table.now (CanRun c.args.table.now c.args.memory.now c.args.end) all (length all - (c.loop.counter + 1)) c.in-Some-pop_front.member
    c.pop_front.new.self.items c.requires.can
    (subst (λ (n : ℕ). RanSoFar (λ e. net_time c.args.net.now.path e) c.args.program.now c.args.end c.args.table.now all n (c.in-Some-pop_front.member ∷ c.pop_front.new.self.items)) left
    (subst (RanSoFar (λ e. net_time c.args.net.now.path e) c.args.program.now c.args.end c.args.table.now all (length all - c.loop.counter)) c.in-Some-pop_front.ensures.items c.loop.invariant.so_far))

pub loop-preserved : goal.loop-preserved
loop-preserved g c =
    let all : List Member = c.args.team.now.queue.items in
    let t = c.loop-test.true in
    let e = c.len-end.ensures in
    let ok = c.args.team.now.queue.ok in
    let size = ok.0 in
    let left : length all - c.loop.counter ≡ suc (length all - (c.loop.counter + 1)) = omega (arith, t, e, size) in
    record {
      so_far =
          subst (RanSoFar (λ e. net_time c.args.net.now.path e) c.args.program.now c.args.end c.args.table.now all (length all - (c.loop.counter + 1))) (sym {A = List Member} c.push_back_reserved.ensures.items)
          (next_ran (λ e. net_time c.args.net.now.path e) c.args.program.now c.args.end c.args.table.now all (length all - (c.loop.counter + 1)) c.pop_front.new.self.items c.in-Some-pop_front.member c.run-member.result.0
          (subst (λ (n : ℕ). RanSoFar (λ e. net_time c.args.net.now.path e) c.args.program.now c.args.end c.args.table.now all n (c.in-Some-pop_front.member ∷ c.pop_front.new.self.items)) left
          (subst (RanSoFar (λ e. net_time c.args.net.now.path e) c.args.program.now c.args.end c.args.table.now all (length all - c.loop.counter)) c.in-Some-pop_front.ensures.items c.loop.invariant.so_far)) c.run-member.ensures.ran);
      places = c.run-member.ensures.places;
      within = omega (arith, t, e, size);
    }

pub returns : goal.returns
returns g c =
    let all : List Member = c.args.team.now.queue.items in
    let t = c.loop-test.false in
    let w = c.loop.invariant.within in
    let e = c.len-end.ensures in
    let ok = c.args.team.now.queue.ok in
    let size = ok.0 in
    let none : length all - c.loop.counter ≡ 0 = omega (arith, t, w, e, size) in
    record {
      ran = all_ran (λ e. net_time c.args.net.now.path e) c.args.program.now c.args.end c.args.table.now all c.loop.team.queue.items
          (subst (λ (n : ℕ). RanSoFar (λ e. net_time c.args.net.now.path e) c.args.program.now c.args.end c.args.table.now all n c.loop.team.queue.items) none c.loop.invariant.so_far);
    }
