use Rattle.parts_table.proofs.laws.machine_laws.Goals as goal

pub returns : goal.returns
returns c = record {
  only = c.only_touched_parts_count.ensures;
  hits = c.private_is_of_one_l1.ensures;
  runs = c.runs_are_of_shards.ensures;
  own = c.own_bank.ensures;
  other = c.other_bank.ensures;
  serves = c.still_serves.ensures;
}
