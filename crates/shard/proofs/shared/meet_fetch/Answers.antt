use Rattle.std.proofs.Common.{sym, ap, ◌∙◌, subst}
use Rattle.home.specs.HomeState.{HomeState, evicted_by, row_at}
use Rattle.l1_cache.specs.L1State.{has_instructions}
use Rattle.shard.specs.BankSteps.{CanEvict, bank_with}
use Rattle.shard.specs.SharedStep.{Bank, brought_home, l1_of}
use Rattle.shard.proofs.BankReady.{row_none}
use Rattle.shard.proofs.LikeAsks.{fetch_evict, fetch_instructions}
use Rattle.shard.proofs.shared.meet_fetch.Goals as goal

pub bring_home-dirty-requires-clause-can : goal.bring_home-dirty-requires-clause-can
bring_home-dirty-requires-clause-can c =
    subst (λ (h : HomeState). CanEvict h c.args.l1s.now (evicted_by h c.args.line)) (sym c.in-None.ensures.same) (fetch_evict (bank_with c.args.home.now c.args.l1s.now) c.args.core c.args.line c.requires.touched)

pub bring_instruction-requires-in-None-clause-absent : goal.bring_instruction-requires-in-None-clause-absent
bring_instruction-requires-in-None-clause-absent c =
    ap (λ (b : Bank). has_instructions (l1_of b c.args.core) c.args.line) (c.bring_home-dirty.ensures.after ∙ ap (λ (h : HomeState). brought_home c.args.line (bank_with h c.args.l1s.now)) c.in-None.ensures.same)
    ∙ (fetch_instructions (bank_with c.args.home.now c.args.l1s.now) c.args.core c.args.line c.requires.touched (row_none c.meet.result (row_at c.args.home.now c.args.line) c.meet.ensures.row c.in-None.is) ∙ c.requires.absent)
