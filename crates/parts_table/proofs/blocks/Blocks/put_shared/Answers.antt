-- The last run ends, and the access is a run of its own.
use Rattle.std.proofs.Common.{◌≡◌, ℕ, ◌+◌, ◌*◌, ◌<◌, List, [], ◌∷◌, ◌++◌, drop, replicate, ap, ap₂, sym, ◌∙◌, subst, arith}
use Rattle.std.proofs.lemmas.List.{append-nil}
use Rattle.parts_table.specs.KeptKeys.{AreKeptSo, BlocksState, ended, keys_of}
use Rattle.parts_table.specs.declared.blocks.Run.{Run}
use Rattle.parts_table.proofs.KeyRuns.{kept_shared, keys_shared}
use Rattle.parts_table.proofs.blocks.Blocks.put_shared.Goals as goal

now_is : (c : goal.After-self-4-1) → c.self.inside.key ≡ c.args.self.now.now
now_is c = ap (λ (s : BlocksState). s.now) c.self.view_is

runs_are : (c : goal.After-self-4-1) → c.push_reserved.new.self.items ≡ ended c.self.inside.runs.items c.self.inside.key c.self.inside.count ++ record { key = 2 * c.args.time; count = 1 } ∷ []
runs_are c = c.push_reserved.ensures.items ∙ ap (λ (runs : List Run). runs ++ record { key = 2 * c.args.time; count = 1 } ∷ []) c.end_run.ensures.runs

fits : (c : goal.After-self-4-1) → c.self.inside.closed + c.self.inside.count < c.self.inside.room
fits c =
    let made : c.self.inside.closed + c.self.inside.count ≡ c.args.self.now.made = ap (λ (s : BlocksState). s.made) c.self.view_is in
    let room : c.self.inside.room ≡ c.args.self.now.room = ap (λ (s : BlocksState). s.room) c.self.view_is in
    omega (arith, c.requires.room, made, room)

pub invariant_of-self : goal.invariant_of-self
invariant_of-self c = let i = c.self.inside in (
  subst (λ (runs : List Run). AreKeptSo runs i.first (i.closed + i.count + 1) (2 * c.args.time + 1) 0 i.room) (sym (runs_are c))
      (kept_shared i.runs.items i.first i.closed i.key i.count i.room (2 * c.args.time) c.self.invariant.0 (omega (arith, c.requires.time, now_is c)) (omega (arith, c.requires.low)) (fits c)),
  omega (arith, c.self.invariant.1, c.end_run.ensures.capacity, c.push_reserved.ensures.capacity),
)

pub returns : goal.returns
returns c = let i = c.self.inside in
    let keys : keys_of (drop i.first c.push_reserved.new.self.items) ++ replicate 0 (2 * c.args.time + 1) ≡ (keys_of (drop i.first i.runs.items) ++ replicate i.count i.key) ++ (2 * c.args.time) ∷ [] =
    append-nil (keys_of (drop i.first c.push_reserved.new.self.items)) ∙ ap (λ (runs : List Run). keys_of (drop i.first runs)) (runs_are c) ∙ keys_shared i.runs.items i.first i.closed i.key i.count i.room (2 * c.args.time) c.self.invariant.0 in
    let made : (i.closed + i.count + 1) + 0 ≡ i.closed + i.count + 1 = omega arith in
    ap₂ (λ (ks : List ℕ) (m : ℕ). record { keys = ks; now = 2 * c.args.time + 1; made = m; room = i.room }) keys made
    ∙ ap (λ (s : BlocksState). record s { keys = s.keys ++ (2 * c.args.time) ∷ []; now = 2 * c.args.time + 1; made = s.made + 1 }) c.self.view_is
