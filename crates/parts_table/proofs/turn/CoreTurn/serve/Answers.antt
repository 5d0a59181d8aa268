use Rattle.std.proofs.Common.{◌≡◌, ℕ, ◌<◌, List, length, sym, subst}
use Rattle.std.specs.Prelude.{Option}
use Rattle.parts_table.specs.declared.part.TimedPart.{TimedPart}
use Rattle.parts_table.specs.World.{MayAsk, world_of}
use Rattle.parts_table.proofs.turn.CoreTurn.serve.Goals as goal

pub serve_alone-requires-clause-room : goal.serve_alone-requires-clause-room
serve_alone-requires-clause-room g c = subst (λ (n : ℕ). length c.args.self.now.made < n) (sym c.requires.table.room) c.requires.ask.0

pub serve_alone-requires-clause-ask : goal.serve_alone-requires-clause-ask
serve_alone-requires-clause-ask g c =
    let s = c.args.self.now in
    let t = c.args.table.now in
    let at = c.requires.table in
    subst (λ (n : ℕ). MayAsk n s.knows.banks (world_of s.knows.opening) s.core c.args.request) (sym at.cores)
    (subst (λ (n : ℕ). MayAsk t.cores n (world_of s.knows.opening) s.core c.args.request) (sym at.banks)
    (subst (λ (os : List (Option TimedPart)). MayAsk t.cores t.banks (world_of os) s.core c.args.request) (sym at.opening) c.requires.ask.1))
