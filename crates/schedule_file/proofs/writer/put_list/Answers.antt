use Rattle.std.proofs.Common.{ℕ, List, ◌++◌, length, ap, ◌∙◌, arith}
use Rattle.std.specs.List.{flat_map}
use Rattle.std.proofs.lemmas.List.{take_all}
use Rattle.byteorder.specs.Endian.{little_bytes}
use Rattle.schedule_file.specs.ScheduleFile.{width_for}
use Rattle.schedule_file.proofs.Lists.{put_on}
use Rattle.schedule_file.proofs.writer.put_list.Goals as goal

pub loop-core-preserved : goal.loop-core-preserved
loop-core-preserved c =
    let turns : List ℕ = c.args.turns.now in
    put_on (width_for c.args.cores) c.args.out.now.items (little_bytes 4 (length turns)) turns c.loop-core.out.items c.put_core.new.out.items c.loop-core.core-index 0
    c.loop-core.invariant c.loop-core-test.true (c.in_ok-put_core.ensures)

pub returns : goal.returns
returns c =
    let turns : List ℕ = c.args.turns.now in
    c.loop-core.invariant
    ∙ ap (λ (ns : List ℕ). c.args.out.now.items ++ (little_bytes 4 (length turns) ++ flat_map (little_bytes (width_for c.args.cores)) ns)) (take_all c.loop-core.core-index turns (omega (arith, c.loop-core-test.false)))
