use Rattle.std.proofs.Common.{length, sym, ◌∙◌, ap, rules}
use Rattle.crew.specs.Crews.{free_seats}
use Rattle.crew.proofs.Seated.{one_more}
use Rattle.crew.proofs.crew.Crew.hire.Goals as goal

pub loop-init : goal.loop-init
loop-init g c = record {
  posts = ap length c.in_ok-posts.ensures.items;
  asker_count = ap length c.in_ok-askers.ensures.items;
  worker_count = ap length c.in_ok-workers.ensures.items;
  askers = c.in_ok-askers.ensures.items ∙ ap (free_seats {J = g.row.J.Denot}) (sym c.in_ok-posts.ensures.items);
  workers = c.in_ok-workers.ensures.items ∙ ap (free_seats {J = g.row.J.Denot}) (sym c.in_ok-posts.ensures.items);
  post_room = c.in_ok-posts.ensures.capacity;
  asker_room = c.in_ok-askers.ensures.capacity;
  worker_room = c.in_ok-workers.ensures.capacity;
}

pub loop-preserved : goal.loop-preserved
loop-preserved g c =
    let post = c.in_ok-post.post in
    let more = c.push_reserved.ensures.items in
    let i = c.loop.invariant in record {
      posts = search rules;
      asker_count = search rules;
      worker_count = search rules;
      askers = one_more c.loop.posts.items c.push_reserved.new.self.items post c.loop.askers.items c.push_reserved-in-loop.new.self.items c.in_ok-post.asker i.askers c.in_ok-post.ensures.asker more
          c.push_reserved-in-loop.ensures.items;
      workers = one_more c.loop.posts.items c.push_reserved.new.self.items post c.loop.workers.items c.push_reserved-in-loop-2.new.self.items c.in_ok-post.worker i.workers c.in_ok-post.ensures.worker more
          c.push_reserved-in-loop-2.ensures.items;
      post_room = search rules;
      asker_room = search rules;
      worker_room = search rules;
    }
