-- The last run ends, and the keys stay.
use Rattle.std.proofs.Common.{◌≡◌, ℕ, ◌+◌, ◌*◌, ◌<◌, List, ◌++◌, drop, replicate, ap, ap₂, sym, ◌∙◌, subst, arith}
use Rattle.std.proofs.lemmas.List.{append-nil}
use Rattle.parts_table.specs.KeptKeys.{AreKeptSo, BlocksState, keys_of}
use Rattle.parts_table.specs.declared.blocks.Run.{Run}
use Rattle.parts_table.proofs.KeyRuns.{kept_later, keys_later}
use Rattle.parts_table.proofs.blocks.Blocks.begin.Goals as goal

later : (c : goal.After-self-then-key-self-2-1) → c.self.inside.key < 2 * c.args.time + 1
later c =
    let now : c.self.inside.key ≡ c.args.self.now.now = ap (λ (s : BlocksState). s.now) c.self.view_is in
    let not_same = c.if-key-self.true in
    omega (arith, c.requires.time, now, not_same)

pub invariant_of-self : goal.invariant_of-self
invariant_of-self c = let i = c.self.inside in (
  subst (λ (runs : List Run). AreKeptSo runs i.first (i.closed + i.count) (2 * c.args.time + 1) 0 i.room) (sym c.end_run.ensures.runs)
      (kept_later i.runs.items i.first i.closed i.key i.count i.room (2 * c.args.time + 1) c.self.invariant.0 (later c) (omega (arith, c.requires.low))),
  omega (arith, c.self.invariant.1, c.end_run.ensures.capacity),
)

pub returns-then-key-self : goal.returns-then-key-self
returns-then-key-self c = let i = c.self.inside in
    let keys : keys_of (drop i.first c.end_run.new.runs.items) ++ replicate 0 (2 * c.args.time + 1) ≡ keys_of (drop i.first i.runs.items) ++ replicate i.count i.key =
    append-nil (keys_of (drop i.first c.end_run.new.runs.items)) ∙ ap (λ (runs : List Run). keys_of (drop i.first runs)) c.end_run.ensures.runs ∙ keys_later i.runs.items i.first i.key i.count c.self.invariant.0.taken in
    let made : (i.closed + i.count) + 0 ≡ i.closed + i.count = omega arith in
    ap₂ (λ (ks : List ℕ) (m : ℕ). record { keys = ks; now = 2 * c.args.time + 1; made = m; room = i.room }) keys made
    ∙ ap (λ (s : BlocksState). record s { now = 2 * c.args.time + 1 }) c.self.view_is
