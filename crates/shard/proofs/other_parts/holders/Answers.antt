use Rattle.std.proofs.Common.{ℕ, ◌||◌, Bool, Option, sym, ap, ap₂, ◌∙◌}
use Rattle.std.specs.Prelude.{nat_eq, option_map}
use Rattle.std.specs.Set.{is_member}
use Rattle.home.specs.Rows.{evicted_in}
use Rattle.home.specs.declared.row.Row.{Row}
use Rattle.mesi_dir.specs.CoreSets.{cores_in}
use Rattle.mesi_dir.proofs.CoreSets.{is_member-cores_in}
use Rattle.shard.specs.SharedStep.{holders_of}
use Rattle.shard.proofs.AskedOthers.{member_either}
use Rattle.shard.proofs.other_parts.holders.Goals as goal

pub returns-in-Some : goal.returns-in-Some
returns-in-Some c = λ k.
    let row = c.in-Some.row in
    is_member-cores_in c.with_all.result.words k
    ∙ (c.with_all.ensures.each k
    ∙ (ap₂ (λ (x y : Bool). x || y) (sym (is_member-cores_in row.sharers.words k)) (sym (is_member-cores_in row.fetchers.words k))
    ∙ (sym (member_either (cores_in row.sharers.words) (cores_in row.fetchers.words) k)
    ∙ ap (λ (o : Option (ℕ × Row)). is_member nat_eq (holders_of (option_map evicted_in o)) k) (sym c.in-Some.is))))
