use Rattle.event_graph.specs.AccessPaths.{path_of}
use Rattle.noc_mesh.specs.declared.net.Net.{Net}
use Rattle.noc_mesh.proofs.laws.net_graphs_fit.Goals as goal

pub returns : goal.returns
returns c = λ m comps entries ok are. (
    let net : Net = record {
      path = path_of m;
      in_range = record { l1 = ok.l1; l1i = ok.l1i; l2 = ok.l2; controllers = ok.controllers; mesh = ok.mesh; dram = ok.dram };
    } in
    c.graphs_with_their_floors_fit.ensures net comps entries (c.net_floors_are_of_components.ensures m comps are)
    )
