use Rattle.std.proofs.Common.{ℕ, true, List, ap, ◌∙◌}
use Rattle.mesi_dir.specs.CoreSets.{cores_in, with_core}
use Rattle.mesi_dir.proofs.CoreSets.{one_core}
use Rattle.home.specs.HomeState.{HomeLine}
use Rattle.home.proofs.row.Row.own.Goals as goal

pub returns : goal.returns
returns c =
    let row = c.args.self.now in
    let with : List ℕ → HomeLine = λ (cores : List ℕ). record { dirty = row.dirty; sharers = cores; alone = true; fetchers = cores_in row.fetchers.words } in
    ap with (c.add.ensures.cores ∙ (ap (with_core c.args.core) c.empty-self.ensures ∙ one_core c.args.core c.requires))
