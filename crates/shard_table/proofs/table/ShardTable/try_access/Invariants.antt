use Rattle.shard_table.proofs.table.ShardTable.try_access.Given as goal

abbrev pub ghosts-give : goal.ghosts-give
ghosts-give a = record { entry = a.entry }
