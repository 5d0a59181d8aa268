-- The file of no interval is short.
use Rattle.std.proofs.Common.{ℕ, [], ◌∙◌, ap, arith, refl}
use Rattle.machine_desc.specs.Components.{component_count}
use Rattle.certify.specs.SoFar.{events_so_far}
use Rattle.run.proofs.recording.Recording.new.Goals as goal

pub returns : goal.returns
returns c =
    let length_is = c.files_have_this_length.ensures (component_count c.args.machine.now) [] in
    ((c.in_ok-file.ensures ∙ ap (λ (count : ℕ). events_so_far count []) c.component_count.ensures, omega (arith, length_is)), refl)
