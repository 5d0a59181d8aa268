use Rattle.std.proofs.Common.{◌<◌, ◌∙◌, ap, arith, length, sym}
use Rattle.std.specs.Option.{unwrap_or}
use Rattle.sparse_table.proofs.Places.{kept_is, read_full}
use Rattle.sparse_table.proofs.chunk.value_at.Goals as goal

pub index-requires-2 : goal.index-requires-2
index-requires-2 g c =
    omega (arith, c.requires.place, c.index.result.now.values.ok.0, read_full (λ c'. (c'.number, c'.values.items)) c.args.chunks.now.items c.args.at c.index.result.now c.requires.at c.index.ensures c.requires.chunks)

pub returns-in-Some : goal.returns-in-Some
returns-in-Some g c =
    let full = read_full (λ c'. (c'.number, c'.values.items)) c.args.chunks.now.items c.args.at c.index.result.now c.requires.at c.index.ensures c.requires.chunks in
    let within : c.args.place < length c.index.result.now.values.items = omega (arith, c.requires.place, full) in
    ap (λ o. unwrap_or o c.args.none) (sym c.in-Some.is)
    ∙ kept_is (λ c'. (c'.number, c'.values.items)) c.args.chunks.now.items c.args.at c.index.result.now c.requires.at c.index.ensures c.args.place c.args.none c.index-2.result.now within c.index-2.ensures
