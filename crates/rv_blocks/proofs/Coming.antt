-- How far a core has come by itself, and how many accesses it may still make.
use Rattle.std.proofs.Common.{◌≡◌, ◌⊎◌, ◌+◌, ◌-◌, ◌*◌, ◌^◌, ◌≤◌, ◌<◌, ℕ, zero, suc, List, Option, None, Some, inl, inr, length, refl, subst, sym, ◌∙◌, arith}
use Rattle.std.specs.Prelude.{slice_get, IfSome}
use Rattle.zs_num.specs.declared.entry.Entry.{Entry}
use Rattle.zs_num.specs.declared.request.Request.{Request}
use Rattle.zs_num.specs.Request.{line_at}
use Rattle.elf_load.specs.MemoryImage.{MemoryImage}
use Rattle.rv_core.specs.declared.memory_range.MemoryRange.{MemoryRange}
use Rattle.rv_core.specs.declared.stint.Stint.{Stint}
use Rattle.rv_core.specs.Executions.{LeadsTo, LiesIn}
use Rattle.rv_core.specs.Hits.{GoesOn, HasGoneOn, MakesFetch, MakesHit, Moment, RunsOn}
use Rattle.rv_blocks.specs.declared.slot.Slot.{Slot}
use Rattle.rv_blocks.specs.Served.{IsServed}
use Rattle.rv_blocks.specs.declared.hits.Left.{Left}
use Rattle.rv_blocks.specs.Coming.{moment_at, HasCome}
use Rattle.rv_blocks.specs.Slots.{AreSlots}
use Rattle.rv_blocks.proofs.Serving.{makes_access}
use Rattle.rv_blocks.proofs.Steps.{led_together}

module _ {Port : Type 0} (image : MemoryImage) (memory : MemoryRange) (stint : Stint)
    (gives : Port → (start : ℕ) → Request → Entry → Port → Type 0) (core_of : Port → ℕ) (logged_of : Port → Option (List Entry)) (room_of : Port → ℕ) where
  abbrev Comes : (before after : ℕ) (there here : Moment Port) → Type 0
  Comes before after there here = HasCome image memory stint gives core_of logged_of room_of before after there here

  stands : (here : Moment Port) → here.clock ≤ stint.end → RunsOn image memory stint gives core_of logged_of here here
  stands here in_time = record {
    instructions = 0;
    leads = (refl, refl);
    line = refl;
    clock = omega arith;
    count = omega arith;
    port = refl;
    in_time = in_time;
  }

  pub begins : (accesses : ℕ) (here : Moment Port) → here.clock ≤ stint.end → Comes accesses accesses here here
  begins accesses here in_time = record { made = 0; few = omega arith; room = omega arith; path = stands here in_time }

  pub has_gone : (left : ℕ) (before after : Moment Port) → Comes stint.accesses left before after → HasGoneOn image memory stint gives core_of logged_of room_of (stint.accesses - left) before after
  has_gone left before after come =
      let all : come.made ≡ stint.accesses - left = omega (arith, come.few) in
      record {
        few = omega arith;
        room = omega (arith, all, come.room);
        path = subst (λ n. GoesOn image memory stint gives core_of logged_of n before after) all come.path;
      }

  -- there is room for an access more
  pub has_room : (before left : ℕ) (there here : Moment Port) → Comes before left there here → before ≤ room_of there.port → 0 < left → 1 ≤ room_of here.port
  has_room before left there here come room some = omega (arith, come.few, come.room)

  -- ---- instructions more

  runs_further : (there here last : Moment Port) → RunsOn image memory stint gives core_of logged_of there here → RunsOn image memory stint gives core_of logged_of here last
      → RunsOn image memory stint gives core_of logged_of there last
  runs_further there here last first next = record {
    instructions = next.instructions + first.instructions;
    leads = led_together there.line image there.registers here.registers last.registers there.pc here.pc last.pc first.instructions next.instructions first.leads
        (subst (λ l. LeadsTo l next.instructions image here.registers here.pc last.registers last.pc) first.line next.leads);
    line = next.line ∙ first.line;
    clock = omega (arith, next.clock, first.clock);
    count = omega (arith, next.count, first.count);
    port = next.port ∙ first.port;
    in_time = next.in_time;
  }

  goes_further : (n : ℕ) (there here last : Moment Port) → GoesOn image memory stint gives core_of logged_of n there here → RunsOn image memory stint gives core_of logged_of here last
      → GoesOn image memory stint gives core_of logged_of n there last
  goes_further zero there here last path runs = runs_further there here last path runs
  goes_further (suc n) there here last (s, (t, (path, (made, behind)))) runs = (s, (t, (path, (made, runs_further t here last behind runs))))

  goes_together : (m n : ℕ) (there here last : Moment Port) → GoesOn image memory stint gives core_of logged_of m there here → GoesOn image memory stint gives core_of logged_of n here last
      → GoesOn image memory stint gives core_of logged_of (n + m) there last
  goes_together m zero there here last path next =
      let same : m ≡ 0 + m = omega arith in subst (λ k. GoesOn image memory stint gives core_of logged_of k there last) same (goes_further m there here last path next)
  goes_together m (suc n) there here last path (s, (t, (next, (made, behind)))) =
      let same : suc (n + m) ≡ suc n + m = omega arith in
      subst (λ k. GoesOn image memory stint gives core_of logged_of k there last) same (s, (t, (goes_together m n there here s path next, (made, behind))))

  pub comes_together : (before between after : ℕ) (there here last : Moment Port) → Comes before between there here → Comes between after here last → Comes before after there last
  comes_together before between after there here last come next = record {
    made = next.made + come.made;
    few = omega (arith, come.few, next.few);
    room = omega (arith, come.room, next.room);
    path = goes_together come.made next.made there here last come.path next.path;
  }

  -- instructions alone, of a cycle each
  pub comes_by_running : (accesses : ℕ) (there here : Moment Port) (instructions : ℕ) → LeadsTo there.line instructions image there.registers there.pc here.registers here.pc → here.line ≡ there.line
      → here.clock ≡ there.clock + instructions → here.count ≡ there.count + instructions → here.port ≡ there.port → here.clock ≤ stint.end → Comes accesses accesses there here
  comes_by_running accesses there here instructions leads line clock count port in_time = record {
    made = 0;
    few = omega arith;
    room = subst (λ p. room_of there.port ≤ room_of p + 0) (sym port) (omega arith);
    path = record { instructions = instructions; leads = leads; line = line; clock = clock; count = count; port = port; in_time = in_time };
  }

  -- ---- an access

  pub comes_by : (before : ℕ) (there here : Moment Port) → 0 < before → there.clock ≤ stint.end
      → MakesHit image memory stint gives core_of logged_of there here ⊎ MakesFetch image memory stint gives core_of logged_of there here
      → here.clock ≤ stint.end → room_of there.port ≤ room_of here.port + 1 → Comes before (before - 1) there here
  comes_by before there here some began made in_time room = record {
    made = 1;
    few = omega (arith, some);
    room = room;
    path = (there, (here, (stands there began, (made, stands here in_time))));
  }

  -- a fetch, if it was made
  pub comes_by_fetch : (latest pc : ℕ) (left : Left) (port port_after : Port) (result : Option Left)
      → IfSome result (λ after. (registers : List ℕ) → MakesFetch image memory stint gives core_of logged_of (moment_at stint registers pc (Some latest) left port) (moment_at stint registers pc (Some (line_at pc)) after port_after))
      → IfSome result (λ after. after.accesses + 1 ≡ left.accesses) → room_of port ≤ room_of port_after + 1
      → IfSome result (λ after. (registers : List ℕ) → Comes left.accesses after.accesses (moment_at stint registers pc (Some latest) left port) (moment_at stint registers pc (Some (line_at pc)) after port_after))
  comes_by_fetch latest pc left port port_after None made fewer room = tt
  comes_by_fetch latest pc left port port_after (Some after) made fewer room = λ registers.
      let one : left.accesses - 1 ≡ after.accesses = omega (arith, fewer) in
      subst (λ n. Comes left.accesses n (moment_at stint registers pc (Some latest) left port) (moment_at stint registers pc (Some (line_at pc)) after port_after)) one
      (comes_by left.accesses _ _ (omega (arith, fewer)) (omega arith) (inr (made registers)) (omega arith) room)

  -- a load or a store, with the cycle of its instruction
  pub makes_hit : (first : ℕ) (slots : List Slot) → AreSlots image first slots → (place : ℕ) (slot : Slot) → slice_get slots place ≡ Some slot
      → (line : Option ℕ) (left : Left) (x z : List ℕ) (port port_after : Port)
      → LiesIn line (first + 4 * place) → stint.clock ≤ stint.end → left.cycles + left.waited ≤ stint.end - stint.clock
      → stint.hit < left.cycles → first + 4 * (place + 1) ≤ 2 ^ 48
      → IsServed memory gives core_of logged_of slot (stint.end - left.cycles + 1) x port z port_after
      → MakesHit image memory stint gives core_of logged_of (moment_at stint x (first + 4 * place) line left port)
      (moment_at stint z (first + 4 * (place + 1)) line (record { cycles = left.cycles - (1 + stint.hit); waited = left.waited + stint.hit; accesses = left.accesses - 1 }) port_after)
  makes_hit first slots are place slot here line left x z port port_after lies began paid enough memory_ends served = record {
    lies = lies;
    access = makes_access memory gives core_of logged_of slot (stint.end - left.cycles + 1) x port image first (length slots) place z port_after (are.access place slot here) memory_ends served;
    line = refl;
    clock = omega (arith, paid, enough);
    count = omega (arith, paid, enough);
    in_time = omega arith;
  }

  pub comes_by_hit : (first : ℕ) (slots : List Slot) → AreSlots image first slots → (place : ℕ) (slot : Slot) → slice_get slots place ≡ Some slot
      → (line : Option ℕ) (left : Left) (x z : List ℕ) (port port_after : Port)
      → LiesIn line (first + 4 * place) → stint.clock ≤ stint.end → left.cycles + left.waited ≤ stint.end - stint.clock
      → stint.hit < left.cycles → 0 < left.accesses → first + 4 * (place + 1) ≤ 2 ^ 48 → room_of port ≤ room_of port_after + 1
      → IsServed memory gives core_of logged_of slot (stint.end - left.cycles + 1) x port z port_after
      → Comes left.accesses (left.accesses - 1) (moment_at stint x (first + 4 * place) line left port)
      (moment_at stint z (first + 4 * (place + 1)) line (record { cycles = left.cycles - (1 + stint.hit); waited = left.waited + stint.hit; accesses = left.accesses - 1 }) port_after)
  comes_by_hit first slots are place slot here line left x z port port_after lies began paid enough some memory_ends room served =
      comes_by left.accesses _ _ some (omega arith) (inl (makes_hit first slots are place slot here line left x z port port_after lies began paid enough memory_ends served)) (omega arith) room
