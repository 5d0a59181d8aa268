use Rattle.std.proofs.Common.{◌&&◌, Bool, not, ap, ◌∙◌}
use Rattle.zs_num.specs.Request.{line_at}
use Rattle.l1_cache.specs.L1State.{place_in_line}
use Rattle.shard.specs.BankSteps.{bank_with}
use Rattle.shard.specs.Coherence.{is_alone}
use Rattle.shard.specs.Seen.{no_home}
use Rattle.shard.specs.SharedStep.{copy_of, own_letter}
use Rattle.shard.proofs.BankLoads.{loaded_by, number_there}
use Rattle.shard.proofs.shared.answer.answer_load.Goals as goal

pub returns-clause-after : goal.returns-clause-after
returns-clause-after c =
    let alone : Bool = is_alone (own_letter (bank_with c.args.home.now c.args.l1s.now) c.args.core (line_at c.args.addr)) in
    loaded_by c.args.home.now no_home c.args.l1s.now c.load_at.new.l1s c.args.core c.args.addr c.args.width (alone && not c.is_marked_by_others-marked.result) c.load_at.ensures.after
    (ap (λ (m : Bool). alone && not m) c.is_marked_by_others-marked.ensures) c.requires.there

pub returns-clause-reply : goal.returns-clause-reply
returns-clause-reply c =
    c.load_at.ensures.reply
    ∙ number_there (copy_of (bank_with c.args.home.now c.args.l1s.now) c.args.core (line_at c.args.addr)) (place_in_line c.args.addr) c.args.width c.requires.there
