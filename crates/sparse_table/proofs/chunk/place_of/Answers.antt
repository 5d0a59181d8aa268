use Rattle.std.proofs.Common.{ℕ, ◌+◌, ◌-◌, ◌/◌, ◌<◌, ◌≤◌, ap, arith, length, subst, sym}
use Rattle.sparse_table.proofs.Places.{all_between, past_middle, read_at, to_middle, within_read}
use Rattle.sparse_table.proofs.chunk.place_of.Goals as goal

-- all chunks are between
pub loop-from-init : goal.loop-from-init
loop-from-init g c =
    all_between (λ c'. (c'.number, c'.values.items)) c.args.chunks.now.items c.args.number _ (omega (arith, c.args.chunks.now.ok.0))

pub loop-from-preserved-then-index-number : goal.loop-from-preserved-then-index-number
loop-from-preserved-then-index-number g c =
    let middle : ℕ = c.loop-from.from + (c.loop-from.to - c.loop-from.from) / 2 in
    let lt : middle < c.loop-from.to = omega arith in
    let within : middle < length c.args.chunks.now.items = within_read (λ c'. (c'.number, c'.values.items)) c.args.chunks.now.items middle (omega (arith, c.loop-from.invariant.within)) in
    let is = read_at (λ c'. (c'.number, c'.values.items)) c.args.chunks.now.items middle c.index.result.now within c.index.ensures in
    past_middle _ c.requires _ _ _ _ c.loop-from.invariant lt (subst (λ n. n < c.args.number) (sym (ap (λ p. p.0) is)) c.if-index-number.true)

pub loop-from-preserved : goal.loop-from-preserved
loop-from-preserved g c =
    let middle : ℕ = c.loop-from.from + (c.loop-from.to - c.loop-from.from) / 2 in
    let lt : middle < c.loop-from.to = omega arith in
    let within : middle < length c.args.chunks.now.items = within_read (λ c'. (c'.number, c'.values.items)) c.args.chunks.now.items middle (omega (arith, c.loop-from.invariant.within)) in
    let is = read_at (λ c'. (c'.number, c'.values.items)) c.args.chunks.now.items middle c.index.result.now within c.index.ensures in
    to_middle _ c.requires _ _ _ _ c.loop-from.invariant lt (omega arith) (subst (λ n. c.args.number ≤ n) (sym (ap (λ p. p.0) is)) c.if-index-number.false)
