-- What the queues of workers are dealt.
use Rattle.std.proofs.Common.{◌≡◌, ◌<◌, ℕ, zero, suc, List, [], ◌∷◌, length, map, slice_get, Some, sym, ◌∙◌, ap, refl, arith}
use Rattle.std.proofs.lemmas.List.{get_or-map, length-map}
use Rattle.std.proofs.lemmas.Option.{get_or_from_slice_get, slice_get_within}
use Rattle.dealing.specs.Dealing.{AreDealt, queue_at}
use Rattle.dealing.specs.Laws.{AreChanged, HaveAsMany}
use Rattle.dealing.specs.Workers.{queues_of}
use Rattle.dealing.specs.declared.worker.Worker.{Worker}
use Rattle.dealing.proofs.Changes.{Changed, changed}
use Rattle.dealing.proofs.Shares.{in_share}

module _ {T X : Type 0} where
  -- the queue of a worker
  pub queue_of : (workers : List (Worker T X)) (worker : ℕ) (w : Worker T X) → slice_get workers worker ≡ Some w → queue_at (queues_of workers) worker ≡ w.queue.items
  queue_of workers worker w there =
      get_or-map (λ (v : Worker T X). v.queue.items) workers worker w [] (slice_get_within workers worker w there) ∙ ap (λ (v : Worker T X). v.queue.items) (get_or_from_slice_get workers worker w w there)

  -- what lies in it is among what was dealt
  pub among : (number : ℕ) (items : List T) (workers : List (Worker T X)) → AreDealt number items (queues_of workers) → (worker place : ℕ) (w : Worker T X) (x : T) → slice_get workers worker ≡ Some w
      → slice_get w.queue.items place ≡ Some x → (i : ℕ) × (slice_get items i ≡ Some x)
  among number items workers dealt worker place w x there at =
      let many = length-map workers (λ (v : Worker T X). v.queue.items) in
      let low = slice_get_within workers worker w there in
      in_share (length (queues_of workers)) worker number items place x
      (ap (λ (ys : List T). slice_get ys place) (sym (dealt worker (omega (arith, low, many))) ∙ queue_of workers worker w there) ∙ at)

  -- the worker of a number
  worker_at : (workers : List (Worker T X)) (worker : ℕ) → worker < length workers → (w : Worker T X) × (slice_get workers worker ≡ Some w)
  worker_at [] worker within = absurd (omega (arith, within))
  worker_at (w ∷ workers) zero within = (w, refl)
  worker_at (w ∷ workers) (suc worker) within = worker_at workers worker (omega (arith, within))

  as_many : (before after : List (Worker T X)) → HaveAsMany T X before after → map length (queues_of after) ≡ map length (queues_of before)
  as_many [] [] same = refl
  as_many [] (v ∷ after) same = absurd (let n = same.count in omega (arith, n))
  as_many (w ∷ before) [] same = absurd (let n = same.count in omega (arith, n))
  as_many (w ∷ before) (v ∷ after) same =
      let first : length v.queue.items ≡ length w.queue.items = same.each 0 w v refl refl in
      let rest : map length (queues_of after) ≡ map length (queues_of before) =
      as_many before after (record { count = (let n = same.count in omega (arith, n)); each = λ worker x y at there. same.each (suc worker) x y at there }) in
      λ i. first i ∷ rest i

  pub all_changed : (number : ℕ) (items : List T) (before after : List (Worker T X)) → 0 < length before → AreDealt number items (queues_of before) → HaveAsMany T X before after → AreChanged T X number items before after
  all_changed number items before after some dealt same =
      let many = length-map before (λ (w : Worker T X). w.queue.items) in
      let it : Changed number items (queues_of before) (queues_of after) = changed items number (queues_of before) (queues_of after) (omega (arith, some, many)) dealt (as_many before after same) in
      record {
        now = it.now;
        dealt = it.dealt;
        count = it.count;
        alike = λ i x y at there.
            let so = it.alike i x y at there in
            let low = so.there in
            let long = same.count in
            let w = worker_at before so.worker (omega (arith, low, many)) in
            let v = worker_at after so.worker (omega (arith, low, many, long)) in
            record {
              worker = so.worker;
              place = so.place;
              was = w.0;
              is = v.0;
              before_there = w.1;
              after_there = v.1;
              x_there = ap (λ (q : List T). slice_get q so.place) (sym (queue_of before so.worker w.0 w.1)) ∙ so.was;
              y_there = ap (λ (q : List T). slice_get q so.place) (sym (queue_of after so.worker v.0 v.1)) ∙ so.is;
            };
      }
