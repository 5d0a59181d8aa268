-- The components are quick, and stay so.
use Rattle.component.specs.ComponentStep.{free_of}
use Rattle.event_graph.proofs.MachineGrowth.{begin_quick, is_quick, quick_is_paced}
use Rattle.event_graph.proofs.laws.machine_steps_stay_small.Goals as goal

pub returns : goal.returns
returns c = λ m comps events base delay ok are free numbered fits near room.
    c.steps_stay_small.ensures is_quick free_of 131072 delay base events comps numbered fits quick_is_paced near (begin_quick m comps base ok are free) room
