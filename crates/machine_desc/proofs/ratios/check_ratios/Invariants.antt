use Rattle.std.proofs.Common.{◌≡◌, map, drop}
use Rattle.toml.specs.View.{table_view}
use Rattle.machine_desc.specs.Description.{ratios_refusal}
use Rattle.machine_desc.specs.Rows.{ratio_of}
use Rattle.machine_desc.proofs.ratios.check_ratios.Given as goal

abbrev pub invariant-loop-ratio : goal.invariant-loop-ratio
invariant-loop-ratio l =
    ratios_refusal (table_view l.document) (map ratio_of l.ratios) ≡ ratios_refusal (table_view l.document) (map ratio_of (drop l.ratio-index l.ratios))
