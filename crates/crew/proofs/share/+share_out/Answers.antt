use Rattle.std.proofs.Common.{◌≡◌, ◌+◌, ◌-◌, ◌<◌, ℕ, List, length, sym, subst, arith, vec_len}
use Rattle.crew.specs.Crews.{IsBusyAt}
use Rattle.crew.specs.Sharing.{AreDone}
use Rattle.crew.proofs.Sharing.{back_again, busy_after, free_after, snoc_done}
use Rattle.crew.proofs.share.+share_out.Goals as goal

pub share_out-requires-clause-free : goal.share_out-requires-clause-free
share_out-requires-clause-free g t c = λ κs within.
    let n : ℕ = c.len-count.result - 1 in
    let left : vec_len c.pop.new.self ≡ n + 1 = omega (arith, c.len-count.ensures, c.if-count-eq0.false) in
    let low : n + 1 < vec_len c.args.jobs.now = omega (arith, c.in-Some.ensures.cases, left) in
    let inside : n < length c.args.posts.now = omega (arith, low, c.requires.few) in
    free_after c.args.posts.now n c.args.askers.now inside c.requires.free.count (λ seat post at is. c.requires.free.free n seat low at post is) c.in-Some.job c.send_at.new.askers c.send_at.ensures.sent
    (vec_len c.pop.new.self) left (subst (λ k. Rattle.crew.specs.Crews.AreFreeBelow k c.args.posts.now c.args.askers.now) (sym c.in-Some.ensures.cases) c.requires.free)

pub collect_at-answer-requires-clause-busy : goal.collect_at-answer-requires-clause-busy
collect_at-answer-requires-clause-busy g t c = λ κs within.
    let n : ℕ = c.len-count.result - 1 in
    let left : vec_len c.pop.new.self ≡ n + 1 = omega (arith, c.len-count.ensures, c.if-count-eq0.false) in
    let low : n + 1 < vec_len c.args.jobs.now = omega (arith, c.in-Some.ensures.cases, left) in
    let inside : n < length c.args.posts.now = omega (arith, low, c.requires.few) in (
      c.in-Some.job,
      subst (IsBusyAt n c.args.posts.now c.in-Some.job) (sym c.share_out.ensures.free)
          (busy_after c.args.posts.now n c.args.askers.now inside c.requires.free.count (λ seat post at is. c.requires.free.free n seat low at post is) c.in-Some.job c.send_at.new.askers c.send_at.ensures.sent),
    )

pub returns-clause-free : goal.returns-clause-free
returns-clause-free g t c =
    let n : ℕ = c.len-count.result - 1 in
    let left : vec_len c.pop.new.self ≡ n + 1 = omega (arith, c.len-count.ensures, c.if-count-eq0.false) in
    let low : n + 1 < vec_len c.args.jobs.now = omega (arith, c.in-Some.ensures.cases, left) in
    let inside : n < length c.args.posts.now = omega (arith, low, c.requires.few) in
    back_again c.args.posts.now n c.args.askers.now inside c.requires.free.count (λ seat post at is. c.requires.free.free n seat low at post is) c.in-Some.job c.send_at.new.askers c.send_at.ensures.sent
    c.share_out.new.askers c.collect_at-answer.new.askers c.share_out.ensures.free c.collect_at-answer.ensures.free

pub returns-clause-done : goal.returns-clause-done
returns-clause-done g t c =
    let n : ℕ = c.len-count.result - 1 in
    let left : vec_len c.pop.new.self ≡ n + 1 = omega (arith, c.len-count.ensures, c.if-count-eq0.false) in
    let low : n + 1 < vec_len c.args.jobs.now = omega (arith, c.in-Some.ensures.cases, left) in
    let inside : n < length c.args.posts.now = omega (arith, low, c.requires.few) in
    let busy = subst (IsBusyAt n c.args.posts.now c.in-Some.job) (sym c.share_out.ensures.free)
    (busy_after c.args.posts.now n c.args.askers.now inside c.requires.free.count (λ seat post at is. c.requires.free.free n seat low at post is) c.in-Some.job c.send_at.new.askers c.send_at.ensures.sent)
    in
    subst (λ (z : List g.row.J.Denot × List g.row.J.Denot). AreDone g.J.Job.done z.0 z.1) (λ i. (sym c.in-Some.ensures.items i, sym c.push_reserved-2.ensures.items i))
    (snoc_done g.J.Job.done c.pop.new.self.items c.share_out.new.jobs.items c.in-Some.job c.collect_at-answer.result c.share_out.ensures.done (c.collect_at-answer.ensures.done c.in-Some.job busy))
