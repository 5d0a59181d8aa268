use Rattle.std.proofs.Common.{Some, ap, refl, rules, set}
use Rattle.sparse_table.proofs.chunk.chunk_with.Goals as goal

pub returns : goal.returns
returns g c = (refl, ap (λ vs. set vs c.args.place (Some c.args.value)) (c.in_ok-values.ensures.items_if_clones_equal (λ y h. search rules)))
