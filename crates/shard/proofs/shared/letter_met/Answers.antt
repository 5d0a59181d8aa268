use Rattle.std.specs.Prelude.{slice_index_or}
use Rattle.l1_cache.specs.L1State.{no_l1}
use Rattle.shard.proofs.BankLoads.{load_absent}
use Rattle.shard.proofs.shared.letter_met.Goals as goal

pub returns-in-Load : goal.returns-in-Load
returns-in-Load c =
    load_absent (slice_index_or c.args.l1s.now c.args.core no_l1) c.args.request.now c.in-Load.addr c.in-Load.width c.in-Load.is c.requires.shared
