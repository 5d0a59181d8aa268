use Rattle.std.proofs.Common.{arith, refl}
use Rattle.sparse_table.proofs.Places.{put_is, read_full}
use Rattle.sparse_table.proofs.chunk.put.Goals as goal

pub index_mut-requires : goal.index_mut-requires
index_mut-requires g c =
    let h = c.index_mut-chunk.ensures.value in
    omega (arith, c.requires.place, c.index_mut-chunk.result.now.values.ok.0, read_full (λ c'. (c'.number, c'.values.items)) c.args.chunks.now.items c.args.at c.index_mut-chunk.result.now c.requires.at h c.requires.chunks)

pub returns : goal.returns
returns g c = put_is (λ c'. (c'.number, c'.values.items)) c.args.chunks.now.items c.args.at c.index_mut-chunk.result.now c.requires.at c.index_mut-chunk.ensures.value c.args.place _ c.args.value refl
