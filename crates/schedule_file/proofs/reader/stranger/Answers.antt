use Rattle.std.proofs.Common.{leb, rules, tests}
use Rattle.std.proofs.lemmas.Iterator.{YieldsList-from_slice}
use Rattle.std.proofs.lemmas.Iterator.Search.{position_from_yields_List}
use Rattle.schedule_file.proofs.reader.stranger.Goals as goal

pub returns-clause-value : goal.returns-clause-value
returns-clause-value c =
    position_from_yields_List (leb c.args.cores) _ _ _ c.position.ensures.ran (YieldsList-from_slice c.args.turns.now cc) (λ x b q called. search (rules, tests))
