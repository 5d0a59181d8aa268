-- A run that was put has some accesses.
use Rattle.std.proofs.Common.{◌<◌, length, arith}
use Rattle.parts_table.proofs.KeyRuns.{run_begins}
use Rattle.parts_table.proofs.blocks.Blocks.take_run.Goals as goal

pub returns-then-first-len-clause-some : goal.returns-then-first-len-clause-some
returns-then-first-len-clause-some c = let i = c.self.inside in
    let within : i.first < length i.runs.items = omega (arith, c.if-first-len.true, c.len.ensures) in
    (run_begins i.runs.items i.first i.key i.count c.index.result.now c.self.invariant.0.rise within c.index.ensures).some
