use Rattle.std.proofs.Common.{◌∙◌, ap, arith, map}
use Rattle.sparse_table.specs.Chunks.{put_at}
use Rattle.sparse_table.proofs.Places.{kept_there, put_is, read_full}
use Rattle.sparse_table.proofs.chunk.change.Goals as goal

pub change_in-requires : goal.change_in-requires
change_in-requires g c =
    let h = c.index_mut-chunk.ensures.value in
    omega (arith, c.requires.place, c.index_mut-chunk.result.now.values.ok.0, read_full (λ c'. (c'.number, c'.values.items)) c.args.chunks.now.items c.args.at c.index_mut-chunk.result.now c.requires.at h c.requires.chunks)

pub returns : goal.returns
returns g c =
    let x = c.index_mut-chunk.result.now in
    let h = c.index_mut-chunk.ensures.value in
    let chunks = map (λ c'. (c'.number, c'.values.items)) c.args.chunks.now.items in
    put_is (λ c'. (c'.number, c'.values.items)) c.args.chunks.now.items c.args.at x c.requires.at h c.args.place _ _ (ap (λ vs. (x.number, vs)) c.change_in.ensures)
    ∙ ap (λ v. put_at c.args.at c.args.place (g.C.Change.changed c.args.by.now v) chunks) (kept_there (λ c'. (c'.number, c'.values.items)) c.args.chunks.now.items c.args.at x c.requires.at h c.args.place c.args.none)
