use Rattle.std.proofs.Common.{◌≡◌, ℕ, suc, ◌+◌, ◌-◌, ◌<◌, List, [], length, Some, slice_index_or, drop, sym, ◌∙◌, ap, subst, arith, rules}
use Rattle.std.specs.Prelude.{slice_get}
use Rattle.std.proofs.lemmas.List.{length-replicate}
use Rattle.std.proofs.lemmas.Option.{slice_get-get_or}
use Rattle.access_log.specs.Logs.{LogState}
use Rattle.shard_table.specs.Access.{SeatState}
use Rattle.shard_table.specs.Buffers.{new_logs}
use Rattle.shard_table.specs.Tables.{table_state_of}
use Rattle.shard_table.proofs.Hiring.{AreSeatsUpTo, all_seats, fewer_logs, next_hired}
use Rattle.shard_table.proofs.table.seats.Goals as goal

-- the first seat, which makes the next one
module _ (c : goal.After-remove-in-loop-core) where
  first : SeatState
  first = c.index_mut.result.now

  here : slice_get c.loop-core.seats.items 0 ≡ Some first
  unfolding first
  here =
      let so_far = c.loop-core.invariant.seats in
      slice_get-get_or c.loop-core.seats.items 0 c.index_mut.result.now (omega (arith, so_far.count, so_far.some)) ∙ ap Some (sym c.index_mut.ensures.value)

pub next-seat-requires-clause-counts : goal.next-seat-requires-clause-counts
unfolding first
next-seat-requires-clause-counts c =
    let so_far = c.loop-core.invariant.seats in
    (so_far.some, so_far.counts (first c) (here c), omega (arith, c.loop-core-test.true, c.requires.key.1))

pub next-seat-requires-clause-opening : goal.next-seat-requires-clause-opening
unfolding first
next-seat-requires-clause-opening c = (c.loop-core.invariant.seats.new 0 (first c) (here c)).0.cores

pub next-seat-requires-clause-log : goal.next-seat-requires-clause-log
unfolding first
next-seat-requires-clause-log c =
    let room = c.args.bench.now.key.room in
    let d = c.remove-in-loop-core.result in
    let more : c.args.cores - c.loop-core.core ≡ suc (c.args.cores - (c.loop-core.core + 1)) = omega (arith, c.loop-core-test.true) in
    let one : LogState = record { entries = []; room = room } in
    let same : one ≡ record { entries = []; room = (first c).knows.room } =
    ap (λ (n : ℕ). let log : LogState = record { entries = []; room = n } in log) (sym (c.loop-core.invariant.seats.new 0 (first c) (here c)).0.room)
    in
    c.remove-in-loop-core.ensures.value
    ∙ ap (λ (logs : List LogState). slice_index_or logs 0 d) c.loop-core.invariant.logs
    ∙ ap (λ (n : ℕ). slice_index_or (new_logs n room) 0 d) more
    ∙ same

pub loop-core-preserved : goal.loop-core-preserved
loop-core-preserved c =
    let t = table_state_of c.args.bench.now.table_id c.args.bench.now.key in
    let before = c.loop-core.invariant in
    let below : c.loop-core.core < c.args.cores = omega (arith, c.loop-core-test.true) in
    record {
      seats = subst (AreSeatsUpTo t (c.loop-core.core + 1)) (sym c.push_reserved-in-loop-core.ensures.items)
          (next_hired t c.loop-core.core c.loop-core.seats.items c.index_mut.result.now c.next-seat.new.self c.next-seat.result before.seats (search rules) c.next-seat.ensures.first c.next-seat.ensures.next);
      logs = c.remove-in-loop-core.ensures.items ∙ (ap (λ (ls : List LogState). drop 1 ls) before.logs ∙ fewer_logs c.args.cores c.loop-core.core c.args.bench.now.key.room below);
      room = omega (arith, before.room, c.push_reserved-in-loop-core.ensures.capacity);
      within = omega (arith, c.loop-core-test.true);
    }

pub returns : goal.returns
returns c =
    let t = table_state_of c.args.bench.now.table_id c.args.bench.now.key in
    let all : c.loop-core.core ≡ c.args.bench.now.key.cores = omega (arith, c.loop-core-test.false, c.loop-core.invariant.within, c.requires.key.1) in
    all_seats t c.loop-core.core c.loop-core.seats.items c.loop-core.invariant.seats all

pub next-seat-requires-clause-table : goal.next-seat-requires-clause-table
unfolding first
next-seat-requires-clause-table c = (c.loop-core.invariant.seats.new 0 (first c) (here c)).0.table

pub next-seat-requires-clause-words : goal.next-seat-requires-clause-words
next-seat-requires-clause-words c = c.requires.words

pub remove-requires-in-loop-core : goal.remove-requires-in-loop-core
remove-requires-in-loop-core c =
    let many = ap length c.loop-core.invariant.logs ∙ length-replicate (c.args.cores - c.loop-core.core) _ in
    omega (arith, many, c.loop-core-test.true)

pub push_reserved-requires-in-loop-core : goal.push_reserved-requires-in-loop-core
push_reserved-requires-in-loop-core c = omega (arith, c.loop-core.invariant.room, c.loop-core.invariant.seats.count, c.loop-core-test.true)

pub index_mut-requires : goal.index_mut-requires
index_mut-requires c = omega (arith, c.loop-core.invariant.seats.count, c.loop-core.invariant.seats.some)
