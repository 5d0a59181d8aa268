use Rattle.std.proofs.Common.{set, sym, ap, ◌∙◌}
use Rattle.std.proofs.lemmas.List.{set-get_or}
use Rattle.l1_cache.specs.declared.near.Kept.{Kept}
use Rattle.l1_cache.specs.Layout.{no_kept}
use Rattle.l1_cache.proofs.Table.{met}
use Rattle.l1_cache.proofs.data_ways.DataWays.near_to_write.Goals as goal

pub returns-then-entry-clause-kept : goal.returns-then-entry-clause-kept
returns-then-entry-clause-kept c =
    let is = met c.requires.ways.near c.args.line c.near_index.result c.index-entry.result.now c.requires.line c.near_index.ensures.value c.index-entry.ensures c.if-entry-line.true in
    sym (ap (λ (k : Kept). set c.args.self.now.kept.items c.index-entry.result.now.place k) (sym (is.writes c.if-entry.true)) ∙ set-get_or c.args.self.now.kept.items c.index-entry.result.now.place no_kept)
