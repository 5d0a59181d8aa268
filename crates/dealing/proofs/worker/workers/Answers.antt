use Rattle.std.proofs.Common.{rules, ◌≡◌, ◌≤◌, ℕ, List, [], All, sym, subst}
use Rattle.std.specs.VecDeque.{deque_capacity}
use Rattle.std.proofs.lemmas.List.Elements.{All-get_or, All-map, All-push}
use Rattle.dealing.specs.declared.worker.Worker.{Worker}
use Rattle.dealing.proofs.worker.workers.Goals as goal

pub returns-clause-free : goal.returns-clause-free
returns-clause-free g c =
    let W : Type 0 = Worker g.row.T.Denot (Unit {0}) in
    let workers : List W = c.loop.workers.items in
    record {
      none = λ worker within. All-get_or (λ (items : List g.row.T.Denot). items ≡ []) _ worker [] within (All-map (λ (items : List g.row.T.Denot). items ≡ []) (λ (w : W). w.queue.items) workers c.loop.invariant.none);
      room = All-map (λ (n : ℕ). c.args.room ≤ n) (λ (w : W). deque_capacity w.queue) workers c.loop.invariant.rooms;
    }

pub loop-preserved : goal.loop-preserved
loop-preserved g c =
    let W : Type 0 = Worker g.row.T.Denot (Unit {0}) in
    let before = c.loop.invariant in
    let old : List W = c.loop.workers.items in
    let one : W = c.in_ok-with_room.field-0 in
    let pushed = c.push_reserved.ensures.items in
    record {
      count = search rules;
      none = subst (All (λ (w : W). w.queue.items ≡ [])) (sym pushed) (All-push (λ (w : W). w.queue.items ≡ []) old one before.none c.in_ok-with_room.ensures.none);
      rooms = subst (All (λ (w : W). c.args.room ≤ deque_capacity w.queue)) (sym pushed) (All-push (λ (w : W). c.args.room ≤ deque_capacity w.queue) old one before.rooms c.in_ok-with_room.ensures.room);
      room = search rules;
      within = search rules;
    }
