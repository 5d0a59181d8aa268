use Rattle.std.proofs.Common.{sym, ◌∙◌}
use Rattle.elf_load.proofs.Lists.{passed_over}
use Rattle.elf_load.proofs.Sound.{in_file}
use Rattle.elf_load.proofs.loader.segments.Goals as goal

pub segment-requires : goal.segment-requires
segment-requires c = in_file _ _ (sym c.is_loaded.ensures ∙ c.if-is_loaded.true) (passed_over _ _ c.loop-header.header-index _ c.requires c.loop-header-test.true)
