use Rattle.std.proofs.Common.{◌&&◌, Bool, not, ap}
use Rattle.zs_num.specs.Request.{line_at}
use Rattle.shard.specs.BankSteps.{bank_with}
use Rattle.shard.specs.Coherence.{is_alone}
use Rattle.shard.specs.Seen.{no_home}
use Rattle.shard.specs.SharedStep.{own_letter}
use Rattle.shard.proofs.BankStores.{stored_by}
use Rattle.shard.proofs.shared.answer.answer_store.Goals as goal

pub returns-clause-after : goal.returns-clause-after
returns-clause-after c =
    let alone : Bool = is_alone (own_letter (bank_with c.args.home.now c.args.l1s.now) c.args.core (line_at c.args.addr)) in
    stored_by c.args.home.now c.end_other_marks.new.home no_home c.args.l1s.now c.store_at.new.l1s c.args.core c.args.addr c.args.width c.args.value (alone && not c.is_marked_by_others-marked.result) c.store_at.ensures.after
    c.end_other_marks.ensures.after (ap (λ (m : Bool). alone && not m) c.is_marked_by_others-marked.ensures) c.requires.there
