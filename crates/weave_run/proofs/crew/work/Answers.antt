-- The first domain of the queue runs, and goes behind all others.
use Rattle.std.proofs.Common.{rules, ◌≡◌, ◌-◌, ◌+◌, ◌<◌, ℕ, suc, List, ◌∷◌, length, refl, sym, ◌∙◌, subst, arith}
use Rattle.weave_run.specs.declared.post.Post.{Post}
use Rattle.weave_run.proofs.Working.{ServedSoFar, all_served, first_can, next_served, none_served, some_left}
use Rattle.weave_run.proofs.crew.work.Goals as goal

pub loop-init : goal.loop-init
loop-init g c =
    let all : List (Post g.row.C.Denot) = c.args.crew.now.queue.items in
    record {
      so_far = subst (λ (n : ℕ). ServedSoFar g.C.Component.stepped c.args.plan.now c.args.crossings.now all n all) (let same : length all ≡ length all - 0 = omega arith in same)
          (none_served g.C.Component.stepped c.args.plan.now c.args.crossings.now all);
      within = omega arith;
      room = refl;
    }

pub unreachable-requires : goal.unreachable-requires
unreachable-requires g c =
    let all : List (Post g.row.C.Denot) = c.args.crew.now.queue.items in
    let t = c.loop-test.true in
    let e = c.len-end.ensures in
    let ok = c.args.crew.now.queue.ok in
    let size = ok.0 in
    let left : 0 < length all - c.loop.counter = omega (arith, t, e, size) in
    let some = some_left g.C.Component.stepped c.args.plan.now c.args.crossings.now all (length all - c.loop.counter) c.loop.crew.queue.items left c.loop.invariant.so_far in
    let now = c.loop.crew.queue.ok in
    let long = now.0 in
    let more : 0 < c.loop.crew.queue.len = omega (arith, some, long) in
    let none = c.in_default.is in
    let variant = c.pop_front.ensures.variant in
    search rules

pub run_beside_others-requires-clause-post : goal.run_beside_others-requires-clause-post
run_beside_others-requires-clause-post g c =
    let all : List (Post g.row.C.Denot) = c.args.crew.now.queue.items in
    let t = c.loop-test.true in
    let e = c.len-end.ensures in
    let ok = c.args.crew.now.queue.ok in
    let size = ok.0 in
    let left : length all - c.loop.counter ≡ suc (length all - (c.loop.counter + 1)) = omega (arith, t, e, size) in
    first_can g.C.Component.stepped c.args.plan.now c.args.crossings.now c.args.crew.now (length all - (c.loop.counter + 1)) c.in-Some.post c.pop_front.new.self.items c.requires.crew
    (subst (λ (n : ℕ). ServedSoFar g.C.Component.stepped c.args.plan.now c.args.crossings.now all n (c.in-Some.post ∷ c.pop_front.new.self.items)) left
    (subst (ServedSoFar g.C.Component.stepped c.args.plan.now c.args.crossings.now all (length all - c.loop.counter)) c.in-Some.ensures.items c.loop.invariant.so_far))

pub loop-preserved : goal.loop-preserved
loop-preserved g c =
    let all : List (Post g.row.C.Denot) = c.args.crew.now.queue.items in
    let t = c.loop-test.true in
    let e = c.len-end.ensures in
    let ok = c.args.crew.now.queue.ok in
    let size = ok.0 in
    let left : length all - c.loop.counter ≡ suc (length all - (c.loop.counter + 1)) = omega (arith, t, e, size) in
    record {
      so_far = subst (ServedSoFar g.C.Component.stepped c.args.plan.now c.args.crossings.now all (length all - (c.loop.counter + 1))) (sym {A = List (Post g.row.C.Denot)} c.push_back_reserved.ensures.items)
          (next_served g.C.Component.stepped c.args.plan.now c.args.crossings.now all (length all - (c.loop.counter + 1)) c.pop_front.new.self.items c.in-Some.post c.run_beside_others.new.post
          (subst (λ (n : ℕ). ServedSoFar g.C.Component.stepped c.args.plan.now c.args.crossings.now all n (c.in-Some.post ∷ c.pop_front.new.self.items)) left
          (subst (ServedSoFar g.C.Component.stepped c.args.plan.now c.args.crossings.now all (length all - c.loop.counter)) c.in-Some.ensures.items c.loop.invariant.so_far)) c.run_beside_others.ensures);
      within = omega (arith, t, e, size);
      room = c.push_back_reserved.ensures.capacity ∙ (c.pop_front.ensures.capacity ∙ c.loop.invariant.room);
    }

pub returns : goal.returns
returns g c =
    let all : List (Post g.row.C.Denot) = c.args.crew.now.queue.items in
    let t = c.loop-test.false in
    let w = c.loop.invariant.within in
    let e = c.len-end.ensures in
    let ok = c.args.crew.now.queue.ok in
    let size = ok.0 in
    let none : length all - c.loop.counter ≡ 0 = omega (arith, t, w, e, size) in
    all_served g.C.Component.stepped c.args.plan.now c.args.crossings.now c.args.crew.now c.loop.crew
    (subst (λ (n : ℕ). ServedSoFar g.C.Component.stepped c.args.plan.now c.args.crossings.now all n c.loop.crew.queue.items) none c.loop.invariant.so_far) c.loop.invariant.room
