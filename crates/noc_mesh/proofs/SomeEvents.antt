-- An access that the core's own cache does not answer has an event at least.
use Rattle.std.proofs.Common.{◌≡◌, ◌+◌, ◌<◌, Bool, true, false, List, [], ◌∷◌, ◌++◌, length, None, refl, arith}
use Rattle.std.proofs.lemmas.List.{length-append}
use Rattle.zs_num.specs.declared.entry.Entry.{Entry}
use Rattle.zs_num.specs.declared.entry.Outcome.{Outcome}
use Rattle.zs_num.specs.declared.entry.Outcome.TheVariants.{Hit, Upgrade, L2 as FoundInL2, Miss}
use Rattle.event_graph.specs.declared.access_path.AccessPath.{AccessPath}
use Rattle.event_graph.specs.declared.piece.Piece.{Piece}
use Rattle.noc_mesh.specs.declared.stage.Stage.{Stage}
use Rattle.noc_mesh.specs.declared.stop.Stop.TheVariants as stop
use Rattle.noc_mesh.specs.NetTiming.{brought, filled, hops, looked_up, passage, reached}
use Rattle.noc_mesh.specs.Passages.{Passage, goes, passes, piece_of}

one_longer : (ps : List Piece) (p : Piece) → 0 < length (ps ++ p ∷ [])
one_longer ps p = let long = length-append ps (p ∷ []) in omega (arith, long)

more_stages : (stages : List Stage) (p : Passage) → 0 < length p.pieces → 0 < length (passes p stages).pieces
more_stages [] p some = some
more_stages (s ∷ stages) p some = more_stages stages (goes p s) (one_longer p.pieces (piece_of s p.end p.last None))

behind_look_up : (path : AccessPath) (e : Entry) (others : Bool) → 0 < length (passes (looked_up path e others) (hops path e stop.Bank stop.Core)).pieces
behind_look_up path e others =
    more_stages (hops path e stop.Bank stop.Core) (looked_up path e others) (one_longer (reached path e).pieces _)

behind_fill : (path : AccessPath) (e : Entry) (dirty : Bool) → 0 < length (passes (filled path e dirty) (hops path e stop.Bank stop.Core)).pieces
behind_fill path e false = more_stages (hops path e stop.Bank stop.Core) (filled path e false) (one_longer (brought path e false).pieces _)
behind_fill path e true = more_stages (hops path e stop.Bank stop.Core) (filled path e true) (one_longer (brought path e true).pieces _)

pub some_by : (path : AccessPath) (e : Entry) (outcome : Outcome) → (outcome ≡ Hit → ⊥) → 0 < length (passage path e outcome).pieces
some_by path e Hit some = absurd (some refl)
some_by path e (Upgrade others) some = behind_look_up path e others
some_by path e (FoundInL2 others) some = behind_look_up path e others
some_by path e (Miss dirty) some = behind_fill path e dirty
