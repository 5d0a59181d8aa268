use Rattle.std.proofs.Common.{◌≡◌, ◌+◌, ◌<◌, ◌∙◌, ap, arith, count_by, get_or, is_some, length, map, subst, sym}
use Rattle.std.proofs.lemmas.List.Sums.{count_by-le-length}
use Rattle.sparse_table.proofs.Counts.{IsCounted, one_more}
use Rattle.sparse_table.proofs.Places.{read_full, rest_at}
use Rattle.sparse_table.proofs.chunks.count_in_chunks.Goals as goal

pub loop-chunk-preserved : goal.loop-chunk-preserved
loop-chunk-preserved g c =
    let items = c.deref-chunk-items.ensures.value in
    let within : c.loop-chunk.chunk-index < length c.args.chunks.now.items = omega (arith, ap length items) in
    let is : c.chunk-item.result ≡ get_or c.args.chunks.now.items c.loop-chunk.chunk-index c.chunk-item.result = c.chunk-item.is ∙ ap (λ xs. get_or xs c.loop-chunk.chunk-index c.chunk-item.result) items in
    let count = c.count_in.ensures ∙ ap (count_by is_some) c.deref.ensures.value in
    subst (λ n. IsCounted (map (λ c'. (c'.number, c'.values.items)) c.args.chunks.now.items) (c.loop-chunk.count + n) (c.loop-chunk.chunk-index + 1)) (sym count)
    (one_more _ c.loop-chunk.count c.loop-chunk.chunk-index _ c.loop-chunk.invariant (rest_at (λ c'. (c'.number, c'.values.items)) c.args.chunks.now.items c.loop-chunk.chunk-index c.chunk-item.result within is) (read_full (λ c'. (c'.number, c'.values.items)) c.args.chunks.now.items c.loop-chunk.chunk-index c.chunk-item.result within is c.requires))

-- a chunk has 64 values, and takes 32 bytes in the list
pub overflow_add-count : goal.overflow_add-count
overflow_add-count g c =
    let items = c.deref-chunk-items.ensures.value in
    let within : c.loop-chunk.chunk-index < length c.args.chunks.now.items = omega (arith, ap length items) in
    let is : c.chunk-item.result ≡ get_or c.args.chunks.now.items c.loop-chunk.chunk-index c.chunk-item.result = c.chunk-item.is ∙ ap (λ xs. get_or xs c.loop-chunk.chunk-index c.chunk-item.result) items in
    let full = read_full (λ c'. (c'.number, c'.values.items)) c.args.chunks.now.items c.loop-chunk.chunk-index c.chunk-item.result within is c.requires in
    omega (arith, c.loop-chunk.invariant.few, c.deref-chunk-items.type_inv.1, c.loop-chunk-test.true, c.count_in.ensures, count_by-le-length is_some c.deref.result.now, ap length c.deref.ensures.value, full)
