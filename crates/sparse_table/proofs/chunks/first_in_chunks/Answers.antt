use Rattle.std.proofs.Common.{◌/◌, ◌%◌, ◌<◌, ap, arith, length, map, sym}
use Rattle.sparse_table.proofs.Firsts.{chunk_has, chunk_passed}
use Rattle.sparse_table.proofs.InChunks.{from_place}
use Rattle.sparse_table.proofs.Places.{read_full, read_small, rest_at}
use Rattle.sparse_table.proofs.chunks.first_in_chunks.Goals as goal

pub loop-place-init : goal.loop-place-init
loop-place-init g c = from_place c.args.from (c.args.from / 64) (c.args.from % 64) 0 (map (λ c'. (c'.number, c'.values.items)) c.args.chunks.now.items) c.args.at (omega arith) c.requires.chunks c.requires.at

pub overflow_mul-chunk : goal.overflow_mul-chunk
overflow_mul-chunk g c =
    let within : c.loop-place.place < length c.args.chunks.now.items = omega (arith, c.args.chunks.now.ok.0) in
    omega (arith, read_small (λ c'. (c'.number, c'.values.items)) c.args.chunks.now.items c.loop-place.place c.index-chunk.result.now within c.index-chunk.ensures c.requires.chunks)

pub first_in-first-requires : goal.first_in-first-requires
first_in-first-requires g c =
    let within : c.loop-place.place < length c.args.chunks.now.items = omega (arith, c.args.chunks.now.ok.0) in
    omega (arith, ap length c.deref.ensures.value, read_small (λ c'. (c'.number, c'.values.items)) c.args.chunks.now.items c.loop-place.place c.index-chunk.result.now within c.index-chunk.ensures c.requires.chunks, read_full (λ c'. (c'.number, c'.values.items)) c.args.chunks.now.items c.loop-place.place c.index-chunk.result.now within c.index-chunk.ensures c.requires.chunks)

pub returns-then-is_some : goal.returns-then-is_some
returns-then-is_some g c =
    let within : c.loop-place.place < length c.args.chunks.now.items = omega (arith, c.args.chunks.now.ok.0) in
    chunk_has c.args.from c.loop-place.place _ c.loop-place.invariant _ (rest_at (λ c'. (c'.number, c'.values.items)) c.args.chunks.now.items c.loop-place.place c.index-chunk.result.now within c.index-chunk.ensures) _ _ c.deref.ensures.value c.first_in-first.ensures (sym c.if-is_some.ensures)

pub loop-place-preserved : goal.loop-place-preserved
loop-place-preserved g c =
    let within : c.loop-place.place < length c.args.chunks.now.items = omega (arith, c.args.chunks.now.ok.0) in
    chunk_passed c.args.from c.loop-place.place _ c.loop-place.invariant _ (rest_at (λ c'. (c'.number, c'.values.items)) c.args.chunks.now.items c.loop-place.place c.index-chunk.result.now within c.index-chunk.ensures) _ _ c.deref.ensures.value c.first_in-first.ensures (sym c.if-is_some.ensures)
