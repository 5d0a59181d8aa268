use Rattle.std.proofs.Common.{◌≡◌, ◌∙◌, ◌+◌, ◌<◌, ℕ, Option, None, Some, ap, ap₂, sym, subst, arith}
use Rattle.std.specs.Prelude.{IfSome, slice_get}
use Rattle.machine_desc.specs.declared.machine.Mesh.{Mesh}
use Rattle.machine_desc.specs.Machine.{IsMesh}
use Rattle.component.specs.declared.kind.Kind.TheVariants.{Hop}
use Rattle.noc_mesh.specs.declared.stage.Stage.{Stage}
use Rattle.noc_mesh.specs.NetTiming.{node_of}
use Rattle.noc_mesh.specs.Routes.{route}
use Rattle.noc_mesh.proofs.Legs.{hop_there, link_below, link_there}
use Rattle.noc_mesh.proofs.hops.hop_stage.Goals as goal

pub overflow_add-result-in-Some-route : goal.overflow_add-result-in-Some-route
overflow_add-result-in-Some-route c =
    let path = c.args.path.now in
    let e = c.args.entry.now in
    let mesh : Mesh = c.in-Some.mesh in
    let in_range : IsMesh mesh = subst (λ (o : Option Mesh). IfSome o IsMesh) c.in-Some.is c.requires.path.mesh in
    let at' : slice_get (route mesh (node_of path e mesh c.args.from) (node_of path e mesh c.args.to)) c.args.place ≡ Some c.in-Some-route.link =
    ap₂ (λ (a b : ℕ). slice_get (route mesh a b) c.args.place) (sym c.node_of-source.ensures.node) (sym c.node_of-target.ensures.node) ∙ (sym c.route.ensures ∙ c.in-Some-route.is)
    in
    let below : c.in-Some-route.link < 256 = link_below path c.requires.path e mesh in_range c.args.from c.args.to c.args.place c.in-Some-route.link at' in
    omega (arith, below, c.requires.path.l2.banks.1, c.requires.path.controllers.count.1)

pub unreachable-requires : goal.unreachable-requires
unreachable-requires c =
    let path = c.args.path.now in
    let e = c.args.entry.now in
    let mesh : Mesh = c.in-Some.mesh in
    let in_range : IsMesh mesh = subst (λ (o : Option Mesh). IfSome o IsMesh) c.in-Some.is c.requires.path.mesh in
    let at' : slice_get (route mesh (node_of path e mesh c.args.from) (node_of path e mesh c.args.to)) c.args.place ≡ None =
    ap₂ (λ (a b : ℕ). slice_get (route mesh a b) c.args.place) (sym c.node_of-source.ensures.node) (sym c.node_of-target.ensures.node) ∙ (sym c.route.ensures ∙ c.in-None-route.is)
    in
    link_there path c.requires.path e mesh in_range c.args.from c.args.to c.args.place c.in-Some.is c.requires.place at'

pub returns-clause-stage : goal.returns-clause-stage
returns-clause-stage c =
    let path = c.args.path.now in
    let e = c.args.entry.now in
    let mesh : Mesh = c.in-Some.mesh in
    let in_range : IsMesh mesh = subst (λ (o : Option Mesh). IfSome o IsMesh) c.in-Some.is c.requires.path.mesh in
    let at' : slice_get (route mesh (node_of path e mesh c.args.from) (node_of path e mesh c.args.to)) c.args.place ≡ Some c.in-Some-route.link =
    ap₂ (λ (a b : ℕ). slice_get (route mesh a b) c.args.place) (sym c.node_of-source.ensures.node) (sym c.node_of-target.ensures.node) ∙ (sym c.route.ensures ∙ c.in-Some-route.is)
    in
    hop_there path c.requires.path e mesh in_range c.args.from c.args.to c.args.place c.in-Some-route.link c.in-Some.is at'
    ∙ ap (λ (n : ℕ). let s : Stage = record { component = path.l2.banks + path.controllers.count + c.in-Some-route.link; kind = Hop; time = n } in Some s) (sym c.from.ensures)
