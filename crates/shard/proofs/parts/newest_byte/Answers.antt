use Rattle.std.proofs.Common.{ℕ, List, [], ◌∷◌, ◌++◌, get_or, take, sym, ap, ◌∙◌, arith}
use Rattle.std.proofs.lemmas.List.{take_more}
use Rattle.l1_cache.specs.L1State.{L1State}
use Rattle.shard.specs.Seen.{newest_in}
use Rattle.shard.proofs.HomesAndL1s.PartsRead.{newest_more}
use Rattle.shard.proofs.parts.newest_byte.Goals as goal

pub loop-core-preserved : goal.loop-core-preserved
loop-core-preserved c bytes e =
    let l1s : List L1State = c.args.l1s.now in
    let before : List L1State = take c.loop-core.core l1s in
    let one : L1State = c.index-l1s-core.result in
    ap (λ (ls : List L1State). get_or (newest_in c.args.line bytes ls) c.args.place 0) (take_more l1s c.loop-core.core one (omega arith))
    ∙ (ap (λ (l1 : L1State). get_or (newest_in c.args.line bytes (before ++ l1 ∷ [])) c.args.place 0) (sym c.index-l1s-core.is)
    ∙ (ap (λ (b : List ℕ). get_or b c.args.place 0) (newest_more c.args.line bytes before one)
    ∙ c.newer_byte-byte.ensures (newest_in c.args.line bytes before) (c.loop-core.invariant bytes e)))
