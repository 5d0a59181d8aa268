use Rattle.std.proofs.Common.{◌≡◌, ℕ, List, [], ◌∷◌, refl, sym, ◌∙◌, ap, subst}
use Rattle.home.specs.HomeState.{HomeState}
use Rattle.mesi_dir.specs.CoreSets.{cores_in}
use Rattle.parts_table.specs.declared.part.Part.{Part}
use Rattle.parts_table.specs.Places.{is_in}
use Rattle.parts_table.specs.Seats.{AreTouched, HasParts}
use Rattle.parts_table.specs.Stations.{desk_of}
use Rattle.parts_table.proofs.Members.{in_first}
use Rattle.parts_table.proofs.SharedSteps.{can_serve, works}
use Rattle.parts_table.proofs.station.Station.serve_kept.Goals as goal

pub serve_held-requires-clause-can : goal.serve_held-requires-clause-can
serve_held-requires-clause-can c =
    let s = c.args.self.now in
    let has = c.requires.has in
    let one : cores_in c.of-own.result.words ≡ s.core ∷ [] = c.of-own.ensures in
    can_serve c.args.table.now s c.args.places.now c.args.home c.args.number (cores_in c.of-own.result.words) has.done has.list c.args.request c.requires.at c.requires.ask c.requires.number
    (subst (λ (cs : List ℕ). HasParts (desk_of s) c.args.places.now c.args.home (c.args.number ∷ []) cs has.done has.list) (sym one) has.has) has.timely
    (subst (λ (cs : List ℕ). is_in cs s.core) (sym one) (in_first s.core [] s.core refl))
    (subst (λ (cs : List ℕ). (state : HomeState) → c.args.home.part ≡ Part.Home state → AreTouched c.args.table.now.cores state s.core c.args.request cs) (sym one) c.requires.touched)

pub returns-clause-work : goal.returns-clause-work
returns-clause-work c =
    let held = c.serve_held.ensures in
    works (desk_of c.serve_held.new.self) c.serve_held.new.places (cores_in c.of-own.result.words) (c.of-own.ensures ∙ ap (λ (n : ℕ). n ∷ []) (sym held.access.same.core)) held.has held.past held.low
