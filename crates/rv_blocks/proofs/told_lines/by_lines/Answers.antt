use Rattle.std.proofs.Common.{◌≡◌, ◌+◌, ◌-◌, ◌*◌, ◌∙◌, ℕ, List, Some, true, false, refl, subst, sym, arith}
use Rattle.rv_core.specs.Told.{stretch_told}
use Rattle.rv_blocks.specs.Coming.{moment_at}
use Rattle.rv_blocks.specs.Telling.{HasTold}
use Rattle.rv_blocks.specs.Tries.{is_served}
use Rattle.rv_blocks.proofs.Coming.{has_room, makes_hit}
use Rattle.rv_blocks.proofs.Stopping.{stops}
use Rattle.rv_blocks.proofs.Telling.{has_all, has_begun, has_fetched, has_on, has_served, has_to, is_next_in}
use Rattle.rv_blocks.proofs.told_lines.by_lines.Goals as goal

pub returns-then-room-eq0-clause-told : goal.returns-then-room-eq0-clause-told
returns-then-room-eq0-clause-told g c =
    has_begun c.args.image.now c.args.memory.now c.args.stint.now g.Q.Port.gives g.Q.Port.core g.Q.Port.logged g.Q.Port.room c.args.stint.now.accesses _ _ _ _ c.args.place refl refl refl (omega (arith, c.requires.begins)) (omega (arith, c.requires.begins)) refl (omega (arith, c.requires.begins))

pub next-init : goal.next-init
next-init g c = record {
  within = c.requires.place;
  from = omega arith;
  paid = omega arith;
  ended = λ none. none;
  some = omega (arith, c.if-room-eq0.false);
  room = omega (arith, c.if-room-eq0.false, c.capacity.ensures, c.len.ensures);
  told = has_begun c.args.image.now c.args.memory.now c.args.stint.now g.Q.Port.gives g.Q.Port.core g.Q.Port.logged g.Q.Port.room c.args.stint.now.accesses _ _ _ _ c.args.place refl refl refl (omega (arith, c.requires.begins)) (omega (arith, c.requires.begins)) refl (omega (arith, c.requires.begins));
  core = refl;
  base = refl;
  size = refl;
  l1i = refl;
}

pub by_fetch-fetched-requires : goal.by_fetch-fetched-requires
by_fetch-fetched-requires g c =
    let was = c.next.invariant in
    let stint = c.args.stint.now in
    record {
      other = c.if-first-ip.true;
      found = c.requires.slots.found c.next.ip c.slot_at-slot.result.now c.slot_at-slot.ensures;
      aligned = omega (arith, c.requires.aligned);
      code = omega (arith, was.within, c.requires.slots.memory);
      from = was.from;
      reach = c.requires.reach;
      base = was.base ∙ c.requires.base;
      size = was.size ∙ c.requires.size;
      l1i = was.l1i ∙ c.requires.l1i;
      room = λ some. has_room c.args.image.now c.args.memory.now stint g.Q.Port.gives g.Q.Port.core g.Q.Port.logged g.Q.Port.room c.args.stint.now.accesses c.next.left.accesses _ _ was.told.come c.requires.room some;
      begins = c.requires.begins;
      left = was.paid;
      way = omega (arith, was.some, was.room);
    }

pub next-preserved-in-Some : goal.next-preserved-in-Some
next-preserved-in-Some g c =
    let was = c.next.invariant in
    let stint = c.args.stint.now in
    let fetch = c.in-Some.ensures in
    record {
      within = was.within;
      from = omega arith;
      paid = omega (arith, was.paid, fetch.left);
      ended = λ none. omega (arith, none, c.if-left-eq0.false);
      some = omega (arith, c.if-room-eq0-2.false);
      room = omega (arith, c.capacity-in-Some.ensures, c.len-in-Some.ensures, fetch.within);
      told = has_fetched c.args.image.now c.args.memory.now stint g.Q.Port.gives g.Q.Port.core g.Q.Port.logged g.Q.Port.room stint.accesses c.next.left.accesses c.in-Some.after.accesses _ _ _ _ _ _ _ _ c.next.ip was.told
          (fetch.made c.next.x) fetch.accesses fetch.port_room fetch.told;
      core = fetch.port_core ∙ was.core;
      base = fetch.port_base ∙ was.base;
      size = fetch.port_size ∙ was.size;
      l1i = fetch.port_l1i ∙ was.l1i;
    }

pub returns-in-None : goal.returns-in-None
returns-in-None g c =
    let was = c.next.invariant in
    let stint = c.args.stint.now in
    let fetch = c.in-None.ensures in
    let P : g.row.Q.Denot → Type 0 = λ port. HasTold c.args.image.now c.args.memory.now stint g.Q.Port.gives g.Q.Port.core g.Q.Port.logged g.Q.Port.room stint.accesses c.next.left.accesses
    (record { registers = c.args.x.now; pc = c.args.first + 4 * c.args.place; line = Some c.args.line; clock = stint.clock; count = 0; port = c.args.port.now })
    (moment_at stint c.next.x (c.args.first + 4 * c.next.ip) (Some c.next.latest) c.next.left port) c.args.way.now.items c.by_fetch-fetched.new.way.items (stretch_told (c.args.first + 4 * c.next.ip) (c.next.ip - c.next.ip)) in
    record {
      place = was.within;
      from = omega arith;
      line = refl;
      left = was.paid;
      told = subst P (sym fetch.none) (has_all c.args.image.now c.args.memory.now stint g.Q.Port.gives g.Q.Port.core g.Q.Port.logged g.Q.Port.room stint.accesses c.next.left.accesses _ _ _ _ _ _ _ c.next.ip was.told fetch.rest);
      way = λ some. omega (arith, some);
      port_core = fetch.port_core ∙ was.core;
      port_base = fetch.port_base ∙ was.base;
      port_size = fetch.port_size ∙ was.size;
      port_l1i = fetch.port_l1i ∙ was.l1i;
    }

pub returns-then-room-eq0-2 : goal.returns-then-room-eq0-2
returns-then-room-eq0-2 g c =
    let was = c.next.invariant in
    let stint = c.args.stint.now in
    let fetch = c.in-Some.ensures in
    record {
      place = was.within;
      from = omega arith;
      line = refl;
      left = omega (arith, was.paid, fetch.left);
      told = has_fetched c.args.image.now c.args.memory.now stint g.Q.Port.gives g.Q.Port.core g.Q.Port.logged g.Q.Port.room stint.accesses c.next.left.accesses c.in-Some.after.accesses _ _ _ _ _ _ _ _ c.next.ip was.told
          (fetch.made c.next.x) fetch.accesses fetch.port_room fetch.told;
      way = λ some. omega (arith, some);
      port_core = fetch.port_core ∙ was.core;
      port_base = fetch.port_base ∙ was.base;
      port_size = fetch.port_size ∙ was.size;
      port_l1i = fetch.port_l1i ∙ was.l1i;
    }

pub perform-requires-clause-fit : goal.perform-requires-clause-fit
perform-requires-clause-fit g c =
    c.requires.slots.fit c.next.ip c.slot_at-slot.result.now c.slot_at-slot.ensures

pub next-preserved-in-On : goal.next-preserved-in-On
next-preserved-in-On g c =
    let was = c.next.invariant in
    let stint = c.args.stint.now in
    let next = is_next_in c.args.image.now c.args.memory.now stint g.Q.Port.gives g.Q.Port.core g.Q.Port.logged g.Q.Port.room c.args.first c.args.slots.now c.requires.slots c.next.ip c.slot_at-slot.result.now c.slot_at-slot.ensures
    (Some c.next.latest) c.next.left c.next.x c.perform.new.x (c.next.ip + 1) c.next.port c.if-first-ip.false (omega (arith, c.next-test.true)) was.paid c.in-On.ensures.value in
    record {
      within = c.in-On.ensures.continues.1;
      from = omega (arith, was.from);
      paid = omega (arith, was.paid);
      ended = was.ended;
      some = was.some;
      room = was.room;
      told = has_on c.args.image.now c.args.memory.now stint g.Q.Port.gives g.Q.Port.core g.Q.Port.logged g.Q.Port.room c.args.first c.next.from c.next.ip was.from stint.accesses c.next.left.accesses _ _ _ _ _ refl was.told was.ended next;
      core = was.core;
      base = was.base;
      size = was.size;
      l1i = was.l1i;
    }

pub returns-then-room-eq0-3-clause-told : goal.returns-then-room-eq0-3-clause-told
returns-then-room-eq0-3-clause-told g c =
    let was = c.next.invariant in
    let stint = c.args.stint.now in
    let next = is_next_in c.args.image.now c.args.memory.now stint g.Q.Port.gives g.Q.Port.core g.Q.Port.logged g.Q.Port.room c.args.first c.args.slots.now c.requires.slots c.next.ip c.slot_at-slot.result.now c.slot_at-slot.ensures
    (Some c.next.latest) c.next.left c.next.x c.perform.new.x c.in-To.next c.next.port c.if-first-ip.false (omega (arith, c.next-test.true)) was.paid c.in-To.ensures.value in
    has_to c.args.image.now c.args.memory.now stint g.Q.Port.gives g.Q.Port.core g.Q.Port.logged g.Q.Port.room c.args.first c.next.from c.next.ip was.from stint.accesses c.next.left.accesses _ _ _ _ _ refl was.told was.ended next
    _ _ c.in-To.next c.tell.ensures.told

pub next-preserved-else-room-eq0-3 : goal.next-preserved-else-room-eq0-3
next-preserved-else-room-eq0-3 g c =
    let was = c.next.invariant in
    let stint = c.args.stint.now in
    let next = is_next_in c.args.image.now c.args.memory.now stint g.Q.Port.gives g.Q.Port.core g.Q.Port.logged g.Q.Port.room c.args.first c.args.slots.now c.requires.slots c.next.ip c.slot_at-slot.result.now c.slot_at-slot.ensures
    (Some c.next.latest) c.next.left c.next.x c.perform.new.x c.in-To.next c.next.port c.if-first-ip.false (omega (arith, c.next-test.true)) was.paid c.in-To.ensures.value in
    record {
      within = c.in-To.ensures.continues.1;
      from = omega arith;
      paid = omega (arith, was.paid);
      ended = was.ended;
      some = omega (arith, was.some, c.if-room-eq0-3.false);
      room = omega (arith, was.some, was.room, c.tell.ensures.len, c.tell.ensures.capacity);
      told = has_to c.args.image.now c.args.memory.now stint g.Q.Port.gives g.Q.Port.core g.Q.Port.logged g.Q.Port.room c.args.first c.next.from c.next.ip was.from stint.accesses c.next.left.accesses _ _ _ _ _ refl was.told was.ended next
          _ _ c.in-To.next c.tell.ensures.told;
      core = was.core;
      base = was.base;
      size = was.size;
      l1i = was.l1i;
    }

pub hit-tried-requires : goal.hit-tried-requires
hit-tried-requires g c =
    let was = c.next.invariant in
    let stint = c.args.stint.now in
    let fit = c.requires.slots.fit c.next.ip c.slot_at-slot.result.now c.slot_at-slot.ensures in
    record {
      access = c.perform.ensures.access;
      rd = fit.rd;
      rs1 = fit.rs1;
      rs2 = fit.rs2;
      reach = c.requires.reach;
      left = omega (arith, was.paid);
      base = was.base ∙ c.requires.base;
      size = was.size ∙ c.requires.size;
      room = λ some. has_room c.args.image.now c.args.memory.now stint g.Q.Port.gives g.Q.Port.core g.Q.Port.logged g.Q.Port.room c.args.stint.now.accesses c.next.left.accesses _ _ was.told.come c.requires.room some;
    }

pub returns-then-not-is_served : goal.returns-then-not-is_served
returns-then-not-is_served g c =
    let was = c.next.invariant in
    let stint = c.args.stint.now in
    let hit = c.hit-tried.ensures in
    let not : is_served c.hit-tried.result ≡ false = sym c.is_served.ensures ∙ c.if-not-is_served.true in
    let P : List ℕ → g.row.Q.Denot → Type 0 = λ x port. HasTold c.args.image.now c.args.memory.now stint g.Q.Port.gives g.Q.Port.core g.Q.Port.logged g.Q.Port.room stint.accesses c.next.left.accesses
    (record { registers = c.args.x.now; pc = c.args.first + 4 * c.args.place; line = Some c.args.line; clock = stint.clock; count = 0; port = c.args.port.now })
    (moment_at stint x (c.args.first + 4 * c.next.ip) (Some c.next.latest) c.next.left port) c.args.way.now.items c.next.way.items (stretch_told (c.args.first + 4 * c.next.from) (c.next.ip - c.next.from)) in
    let kept : c.hit-tried.new.x ≡ c.next.x = hit.none not ∙ c.perform.ensures.same (stops c.perform.result c.next.ip c.perform.new.x c.in_default.not-On c.in_default.not-To).1 in
    record {
      place = was.within;
      from = was.from;
      line = refl;
      left = was.paid;
      told = subst (λ x. P x c.hit-tried.new.port) (sym kept) (subst (P c.next.x) (sym (hit.same not)) was.told);
      way = λ some. omega (arith, was.some, was.room);
      port_core = hit.port_core ∙ was.core;
      port_base = hit.port_base ∙ was.base;
      port_size = hit.port_size ∙ was.size;
      port_l1i = hit.port_l1i ∙ was.l1i;
    }

pub returns-then-room-eq0-4 : goal.returns-then-room-eq0-4
returns-then-room-eq0-4 g c =
    let was = c.next.invariant in
    let stint = c.args.stint.now in
    let hit = c.hit-tried.ensures in
    let slot = c.slot_at-slot.result.now in
    let served : is_served c.hit-tried.result ≡ true = sym c.is_served.ensures ∙ c.if-not-is_served.false in
    let kept : c.perform.new.x ≡ c.next.x = c.perform.ensures.same (stops c.perform.result c.next.ip c.perform.new.x c.in_default.not-On c.in_default.not-To).1 in
    let follows = (c.requires.slots.fit c.next.ip slot c.slot_at-slot.ensures).accessed (hit.access served) in
    let made = makes_hit c.args.image.now c.args.memory.now stint g.Q.Port.gives g.Q.Port.core g.Q.Port.logged g.Q.Port.room c.args.first c.args.slots.now c.requires.slots c.next.ip slot c.slot_at-slot.ensures
    (Some c.next.latest) c.next.left c.next.x c.hit-tried.new.x c.next.port c.hit-tried.new.port c.if-first-ip.false c.requires.begins was.paid (hit.time served) (omega (arith, follows, c.requires.slots.memory)) (rw kept at hit.served served) in
    record {
      place = follows;
      from = omega arith;
      line = refl;
      left = omega (arith, was.paid, hit.time served);
      told = has_served c.args.image.now c.args.memory.now stint g.Q.Port.gives g.Q.Port.core g.Q.Port.logged g.Q.Port.room c.args.first c.next.from c.next.ip was.from stint.accesses c.next.left.accesses _ _ _ _ _ refl was.told made
          (hit.few served) hit.port_room _ _ (c.next.ip + 1) c.tell-in_default.ensures.told;
      way = λ some. omega (arith, some);
      port_core = hit.port_core ∙ was.core;
      port_base = hit.port_base ∙ was.base;
      port_size = hit.port_size ∙ was.size;
      port_l1i = hit.port_l1i ∙ was.l1i;
    }

pub next-preserved : goal.next-preserved
next-preserved g c =
    let was = c.next.invariant in
    let stint = c.args.stint.now in
    let hit = c.hit-tried.ensures in
    let slot = c.slot_at-slot.result.now in
    let served : is_served c.hit-tried.result ≡ true = sym c.is_served.ensures ∙ c.if-not-is_served.false in
    let kept : c.perform.new.x ≡ c.next.x = c.perform.ensures.same (stops c.perform.result c.next.ip c.perform.new.x c.in_default.not-On c.in_default.not-To).1 in
    let follows = (c.requires.slots.fit c.next.ip slot c.slot_at-slot.ensures).accessed (hit.access served) in
    let made = makes_hit c.args.image.now c.args.memory.now stint g.Q.Port.gives g.Q.Port.core g.Q.Port.logged g.Q.Port.room c.args.first c.args.slots.now c.requires.slots c.next.ip slot c.slot_at-slot.ensures
    (Some c.next.latest) c.next.left c.next.x c.hit-tried.new.x c.next.port c.hit-tried.new.port c.if-first-ip.false c.requires.begins was.paid (hit.time served) (omega (arith, follows, c.requires.slots.memory)) (rw kept at hit.served served) in
    record {
      within = follows;
      from = omega arith;
      paid = omega (arith, was.paid, hit.time served);
      ended = λ none. omega arith;
      some = omega (arith, was.some, c.if-room-eq0-4.false);
      room = omega (arith, was.some, was.room, c.tell-in_default.ensures.len, c.tell-in_default.ensures.capacity);
      told = has_served c.args.image.now c.args.memory.now stint g.Q.Port.gives g.Q.Port.core g.Q.Port.logged g.Q.Port.room c.args.first c.next.from c.next.ip was.from stint.accesses c.next.left.accesses _ _ _ _ _ refl was.told made
          (hit.few served) hit.port_room _ _ (c.next.ip + 1) c.tell-in_default.ensures.told;
      core = hit.port_core ∙ was.core;
      base = hit.port_base ∙ was.base;
      size = hit.port_size ∙ was.size;
      l1i = hit.port_l1i ∙ was.l1i;
    }
