use Rattle.zs_num.specs.declared.entry.Entry.{Entry}
use Rattle.zs_num.specs.declared.entry.Outcome.TheVariants.{Hit}
use Rattle.shard.proofs.Coherent.{coherent_stays, l2_laws}
use Rattle.shard.proofs.HomesAndL1s.RunsOfShards.{asked_then}
use Rattle.shard.proofs.laws.asked_stays.Goals as goal

pub returns : goal.returns
returns c = λ w core stamp request are asked k other before.
    let e : Entry = record { core = core; stamp = stamp; start = 0; request = request; reply = 0; outcome = Hit } in
    asked_then coherent_stays l2_laws w are e asked k other before
