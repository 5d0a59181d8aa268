use Rattle.std.proofs.Common.{◌≡◌, ◌+◌, ◌-◌, ◌*◌, ◌∙◌, ℕ, List, None, true, false, refl, subst, sym, arith}
use Rattle.rv_core.specs.Told.{stretch_told}
use Rattle.rv_blocks.specs.Coming.{moment_at}
use Rattle.rv_blocks.specs.Telling.{HasTold}
use Rattle.rv_blocks.specs.Tries.{is_served}
use Rattle.rv_blocks.proofs.Coming.{has_room, makes_hit}
use Rattle.rv_blocks.proofs.Stopping.{stops}
use Rattle.rv_blocks.proofs.Telling.{has_on, has_served, has_to, is_next}
use Rattle.rv_blocks.proofs.told_hits.by_legs.Goals as goal

pub perform-requires-clause-fit : goal.perform-requires-clause-fit
perform-requires-clause-fit g c = c.requires.slots.fit c.next.here.place c.slot_at-slot.result.now c.slot_at-slot.ensures

pub next-preserved-in-On : goal.next-preserved-in-On
next-preserved-in-On g c =
    let was = c.next.invariant in
    let stint = c.args.stint.now in
    let here = c.next.here in
    let next = is_next c.args.image.now c.args.memory.now stint g.Q.Port.gives g.Q.Port.core g.Q.Port.logged g.Q.Port.room c.args.first c.args.slots.now c.requires.slots here.place c.slot_at-slot.result.now c.slot_at-slot.ensures
    here.left c.next.x c.perform.new.x (here.place + 1) c.next.port (omega (arith, c.next-test.true)) was.paid c.in-On.ensures.value in
    record {
      within = c.in-On.ensures.continues.1;
      from = omega (arith, was.from);
      line = was.line;
      paid = omega (arith, was.paid);
      ended = was.ended;
      some = was.some;
      room = was.room;
      told = has_on c.args.image.now c.args.memory.now stint g.Q.Port.gives g.Q.Port.core g.Q.Port.logged g.Q.Port.room c.args.first c.next.from here.place was.from stint.accesses here.left.accesses _ _ _ _ _ refl was.told was.ended next;
      core = was.core;
      base = was.base;
      size = was.size;
      l1i = was.l1i;
    }

pub returns-then-room-eq0-2-clause-told : goal.returns-then-room-eq0-2-clause-told
returns-then-room-eq0-2-clause-told g c =
    let was = c.next.invariant in
    let stint = c.args.stint.now in
    let here = c.next.here in
    let next = is_next c.args.image.now c.args.memory.now stint g.Q.Port.gives g.Q.Port.core g.Q.Port.logged g.Q.Port.room c.args.first c.args.slots.now c.requires.slots here.place c.slot_at-slot.result.now c.slot_at-slot.ensures
    here.left c.next.x c.perform.new.x c.in-To.next c.next.port (omega (arith, c.next-test.true)) was.paid c.in-To.ensures.value in
    has_to c.args.image.now c.args.memory.now stint g.Q.Port.gives g.Q.Port.core g.Q.Port.logged g.Q.Port.room c.args.first c.next.from here.place was.from stint.accesses here.left.accesses _ _ _ _ _ refl was.told was.ended next
    _ _ c.in-To.next c.tell.ensures.told

pub next-preserved-else-room-eq0-2 : goal.next-preserved-else-room-eq0-2
next-preserved-else-room-eq0-2 g c =
    let was = c.next.invariant in
    let stint = c.args.stint.now in
    let here = c.next.here in
    let next = is_next c.args.image.now c.args.memory.now stint g.Q.Port.gives g.Q.Port.core g.Q.Port.logged g.Q.Port.room c.args.first c.args.slots.now c.requires.slots here.place c.slot_at-slot.result.now c.slot_at-slot.ensures
    here.left c.next.x c.perform.new.x c.in-To.next c.next.port (omega (arith, c.next-test.true)) was.paid c.in-To.ensures.value in
    record {
      within = c.in-To.ensures.continues.1;
      from = omega arith;
      line = was.line;
      paid = omega (arith, was.paid);
      ended = was.ended;
      some = omega (arith, was.some, c.if-room-eq0-2.false);
      room = omega (arith, was.some, was.room, c.tell.ensures.len, c.tell.ensures.capacity);
      told = has_to c.args.image.now c.args.memory.now stint g.Q.Port.gives g.Q.Port.core g.Q.Port.logged g.Q.Port.room c.args.first c.next.from here.place was.from stint.accesses here.left.accesses _ _ _ _ _ refl was.told was.ended next
          _ _ c.in-To.next c.tell.ensures.told;
      core = was.core;
      base = was.base;
      size = was.size;
      l1i = was.l1i;
    }

pub hit-tried-requires : goal.hit-tried-requires
hit-tried-requires g c =
    let was = c.next.invariant in
    let here = c.next.here in
    let fit = c.requires.slots.fit here.place c.slot_at-slot.result.now c.slot_at-slot.ensures in
    record {
      access = c.perform.ensures.access;
      rd = fit.rd;
      rs1 = fit.rs1;
      rs2 = fit.rs2;
      reach = c.requires.reach;
      left = omega (arith, was.paid);
      base = was.base ∙ c.requires.base;
      size = was.size ∙ c.requires.size;
      room = λ some. has_room c.args.image.now c.args.memory.now c.args.stint.now g.Q.Port.gives g.Q.Port.core g.Q.Port.logged g.Q.Port.room c.args.stint.now.accesses here.left.accesses _ _ was.told.come c.requires.room some;
    }

pub returns-then-not-is_served : goal.returns-then-not-is_served
returns-then-not-is_served g c =
    let was = c.next.invariant in
    let stint = c.args.stint.now in
    let here = c.next.here in
    let hit = c.hit-tried.ensures in
    let not : is_served c.hit-tried.result ≡ false = sym c.is_served.ensures ∙ c.if-not-is_served.true in
    let P : List ℕ → g.row.Q.Denot → Type 0 = λ x port. HasTold c.args.image.now c.args.memory.now stint g.Q.Port.gives g.Q.Port.core g.Q.Port.logged g.Q.Port.room stint.accesses here.left.accesses
    (record { registers = c.args.x.now; pc = c.args.first + 4 * c.args.place; line = None; clock = stint.clock; count = 0; port = c.args.port.now })
    (moment_at stint x (c.args.first + 4 * here.place) None here.left port) c.args.way.now.items c.next.way.items (stretch_told (c.args.first + 4 * c.next.from) (here.place - c.next.from)) in
    let kept : c.hit-tried.new.x ≡ c.next.x = hit.none not ∙ c.perform.ensures.same (stops c.perform.result here.place c.perform.new.x c.in_default.not-On c.in_default.not-To).1 in
    record {
      place = was.within;
      from = was.from;
      line = was.line;
      left = was.paid;
      told = subst (λ x. P x c.hit-tried.new.port) (sym kept) (subst (P c.next.x) (sym (hit.same not)) was.told);
      way = λ some. omega (arith, was.some, was.room);
      port_core = hit.port_core ∙ was.core;
      port_base = hit.port_base ∙ was.base;
      port_size = hit.port_size ∙ was.size;
      port_l1i = hit.port_l1i ∙ was.l1i;
    }

pub returns-then-room-eq0-3 : goal.returns-then-room-eq0-3
returns-then-room-eq0-3 g c =
    let was = c.next.invariant in
    let stint = c.args.stint.now in
    let here = c.next.here in
    let hit = c.hit-tried.ensures in
    let slot = c.slot_at-slot.result.now in
    let served : is_served c.hit-tried.result ≡ true = sym c.is_served.ensures ∙ c.if-not-is_served.false in
    let kept : c.perform.new.x ≡ c.next.x = c.perform.ensures.same (stops c.perform.result here.place c.perform.new.x c.in_default.not-On c.in_default.not-To).1 in
    let follows = (c.requires.slots.fit here.place slot c.slot_at-slot.ensures).accessed (hit.access served) in
    let made = makes_hit c.args.image.now c.args.memory.now stint g.Q.Port.gives g.Q.Port.core g.Q.Port.logged g.Q.Port.room c.args.first c.args.slots.now c.requires.slots here.place slot c.slot_at-slot.ensures
    None here.left c.next.x c.hit-tried.new.x c.next.port c.hit-tried.new.port tt c.requires.begins was.paid (hit.time served) (omega (arith, follows, c.requires.slots.memory)) (rw kept at hit.served served) in
    record {
      place = follows;
      from = omega arith;
      line = was.line;
      left = omega (arith, was.paid, hit.time served);
      told = has_served c.args.image.now c.args.memory.now stint g.Q.Port.gives g.Q.Port.core g.Q.Port.logged g.Q.Port.room c.args.first c.next.from here.place was.from stint.accesses here.left.accesses _ _ _ _ _ refl was.told made
          (hit.few served) hit.port_room _ _ (here.place + 1) c.tell-in_default.ensures.told;
      way = λ some. omega (arith, some);
      port_core = hit.port_core ∙ was.core;
      port_base = hit.port_base ∙ was.base;
      port_size = hit.port_size ∙ was.size;
      port_l1i = hit.port_l1i ∙ was.l1i;
    }

pub next-preserved : goal.next-preserved
next-preserved g c =
    let was = c.next.invariant in
    let stint = c.args.stint.now in
    let here = c.next.here in
    let hit = c.hit-tried.ensures in
    let slot = c.slot_at-slot.result.now in
    let served : is_served c.hit-tried.result ≡ true = sym c.is_served.ensures ∙ c.if-not-is_served.false in
    let kept : c.perform.new.x ≡ c.next.x = c.perform.ensures.same (stops c.perform.result here.place c.perform.new.x c.in_default.not-On c.in_default.not-To).1 in
    let follows = (c.requires.slots.fit here.place slot c.slot_at-slot.ensures).accessed (hit.access served) in
    let made = makes_hit c.args.image.now c.args.memory.now stint g.Q.Port.gives g.Q.Port.core g.Q.Port.logged g.Q.Port.room c.args.first c.args.slots.now c.requires.slots here.place slot c.slot_at-slot.ensures
    None here.left c.next.x c.hit-tried.new.x c.next.port c.hit-tried.new.port tt c.requires.begins was.paid (hit.time served) (omega (arith, follows, c.requires.slots.memory)) (rw kept at hit.served served) in
    record {
      within = follows;
      from = omega arith;
      line = was.line;
      paid = omega (arith, was.paid, hit.time served);
      ended = λ none. omega arith;
      some = omega (arith, was.some, c.if-room-eq0-3.false);
      room = omega (arith, was.some, was.room, c.tell-in_default.ensures.len, c.tell-in_default.ensures.capacity);
      told = has_served c.args.image.now c.args.memory.now stint g.Q.Port.gives g.Q.Port.core g.Q.Port.logged g.Q.Port.room c.args.first c.next.from here.place was.from stint.accesses here.left.accesses _ _ _ _ _ refl was.told made
          (hit.few served) hit.port_room _ _ (here.place + 1) c.tell-in_default.ensures.told;
      core = hit.port_core ∙ was.core;
      base = hit.port_base ∙ was.base;
      size = hit.port_size ∙ was.size;
      l1i = hit.port_l1i ∙ was.l1i;
    }
