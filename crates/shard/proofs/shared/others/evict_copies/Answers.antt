use Rattle.std.proofs.Common.{ℕ, Option, sym, ap, ◌∙◌}
use Rattle.std.specs.Prelude.{option_map}
use Rattle.home.specs.declared.row.Row.{Row}
use Rattle.home.specs.Rows.{evicted_in}
use Rattle.mesi_dir.specs.CoreSets.{cores_in}
use Rattle.shard.specs.BankSteps.{bank_with}
use Rattle.shard.specs.Seen.{no_home}
use Rattle.shard.specs.SharedStep.{evicted_everywhere, instructions_given_up_by}
use Rattle.shard.proofs.BankSteps.{instructions_at_home}
use Rattle.shard.proofs.shared.others.evict_copies.Goals as goal

pub returns-in-Some-clause-after : goal.returns-in-Some-clause-after
returns-in-Some-clause-after c =
    let fetchers = cores_in c.in-Some.row.fetchers.words in
    instructions_at_home c.give_up.new.home no_home c.in-Some.line fetchers c.give_up.new.l1s c.give_up_instructions.new.l1s c.give_up_instructions.ensures.after
    ∙ (ap (instructions_given_up_by c.in-Some.line fetchers) c.give_up.ensures.after
    ∙ sym (ap (λ (o : Option (ℕ × Row)). evicted_everywhere (option_map evicted_in o) (bank_with c.args.home.now c.args.l1s.now)) c.in-Some.is))
