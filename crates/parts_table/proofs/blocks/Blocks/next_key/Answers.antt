-- The first key is that of the first run that isn't taken.
use Rattle.std.proofs.Common.{◌<◌, ◌≤◌, length, ap, sym, ◌∙◌, subst, arith}
use Rattle.parts_table.specs.KeptKeys.{BlocksState, first_of}
use Rattle.parts_table.specs.TurnOrder.{AreRising}
use Rattle.parts_table.proofs.KeyRuns.{BeginsWith, last_begins, rest_rises, run_begins}
use Rattle.parts_table.proofs.blocks.Blocks.next_key.Goals as goal

first_run : (c : goal.After-index) → BeginsWith c.args.self.now.keys c.index.result.now c.self.inside.key
first_run c = let i = c.self.inside in
    let within : i.first < length i.runs.items = omega (arith, c.if-first-len.true, c.len.ensures) in
    subst (λ (s : BlocksState). BeginsWith s.keys c.index.result.now c.self.inside.key) c.self.view_is
    (run_begins i.runs.items i.first i.key i.count c.index.result.now c.self.invariant.0.rise within c.index.ensures)

pub returns-then-first-len-clause-key : goal.returns-then-first-len-clause-key
returns-then-first-len-clause-key c = sym (first_run c).first

pub returns-then-first-len-clause-low : goal.returns-then-first-len-clause-low
returns-then-first-len-clause-low c = λ some. omega (arith, (first_run c).low, c.self.invariant.0.low)

pub returns-then-first-len-clause-rising : goal.returns-then-first-len-clause-rising
returns-then-first-len-clause-rising c = let i = c.self.inside in
    subst (λ (s : BlocksState). AreRising s.keys) c.self.view_is (rest_rises i.runs.items i.first i.key i.count c.self.invariant.0.rise)

pub returns-then-self-gt0-clause-key : goal.returns-then-self-gt0-clause-key
returns-then-self-gt0-clause-key c = let i = c.self.inside in
    let past : length i.runs.items ≤ i.first = omega (arith, c.if-first-len.false, c.len.ensures) in
    sym (last_begins i.runs.items i.first i.key i.count past c.if-self-gt0.true) ∙ ap (λ (s : BlocksState). first_of s.keys) c.self.view_is

pub returns-then-self-gt0-clause-rising : goal.returns-then-self-gt0-clause-rising
returns-then-self-gt0-clause-rising c = let i = c.self.inside in
    subst (λ (s : BlocksState). AreRising s.keys) c.self.view_is (rest_rises i.runs.items i.first i.key i.count c.self.invariant.0.rise)
