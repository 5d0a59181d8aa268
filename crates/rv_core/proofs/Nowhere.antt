-- A core that went nowhere: nothing is told of its way.
use Rattle.std.proofs.Common.{◌≡◌, ◌+◌, ◌≤◌, ℕ, List, [], ◌++◌, Option, refl, sym, subst, arith}
use Rattle.std.proofs.lemmas.List.{append-nil}
use Rattle.zs_num.specs.declared.entry.Entry.{Entry}
use Rattle.zs_num.specs.declared.request.Request.{Request}
use Rattle.elf_load.specs.MemoryImage.{MemoryImage}
use Rattle.rv_core.specs.declared.leg.Leg.{Leg}
use Rattle.rv_core.specs.declared.memory_range.MemoryRange.{MemoryRange}
use Rattle.rv_core.specs.declared.stint.Stint.{Stint}
use Rattle.rv_core.specs.Hits.{Moment, RunsOn}
use Rattle.rv_core.specs.Told.{told_of, HasToldGoing, Told}

pub told_nowhere : {Port : Type 0} (image : MemoryImage) (memory : MemoryRange) (stint : Stint)
    (gives : Port → (start : ℕ) → Request → Entry → Port → Type 0) (core_of : Port → ℕ) (logged_of : Port → Option (List Entry)) (room_of : Port → ℕ)
    (way : List Leg) (made : ℕ) (before after : Moment Port)
    → made ≡ 0 → after.registers ≡ before.registers → after.pc ≡ before.pc → after.line ≡ before.line → after.clock ≡ before.clock → after.count ≡ before.count → after.port ≡ before.port
    → before.clock ≤ stint.end
    → (told : List Told) × HasToldGoing image memory stint gives core_of logged_of room_of made before after told × (told_of way ≡ told_of way ++ told)
told_nowhere image memory stint gives core_of logged_of room_of way made before after none registers pc line clock count port in_time =
    let runs : RunsOn image memory stint gives core_of logged_of before after = record {
      instructions = 0;
      leads = (registers, pc);
      line = line;
      clock = omega (arith, clock);
      count = omega (arith, count);
      port = port;
      in_time = omega (arith, clock, in_time);
    } in
    subst (λ n. (told : List Told) × HasToldGoing image memory stint gives core_of logged_of room_of n before after told × (told_of way ≡ told_of way ++ told)) (sym none)
    ([], record { gone = record { few = omega arith; room = subst (λ p. room_of before.port ≤ room_of p + 0) (sym port) (omega arith); path = runs }; is = refl; stops = λ all. tt }, sym (append-nil (told_of way)))
