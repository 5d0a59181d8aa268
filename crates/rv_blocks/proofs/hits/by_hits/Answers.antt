use Rattle.std.proofs.Common.{◌+◌, ◌-◌, ◌*◌, ◌∙◌, ℕ, List, Option, length, refl, subst, sym, arith}
use Rattle.std.specs.Prelude.{IfSome}
use Rattle.rv_blocks.specs.declared.slot.Slot.{Slot}
use Rattle.rv_blocks.specs.Coming.{moment_at, HasCome}
use Rattle.rv_blocks.specs.Flows.{AccessesBy}
use Rattle.rv_core.specs.Executions.{Meets}
use Rattle.rv_blocks.proofs.Serving.{meets}
use Rattle.rv_blocks.proofs.Coming.{comes_by_hit, comes_together, has_gone, has_room}
use Rattle.rv_blocks.proofs.hits.by_hits.Goals as goal

pub next-preserved-in-On : goal.next-preserved-in-On
next-preserved-in-On g c =
    let was = c.next.invariant in
    let go = c.go_on-reached.ensures in
    let here = c.go_on-reached.result.gone in
    let come = comes_together c.args.image.now c.args.memory.now c.args.stint.now g.Q.Port.gives g.Q.Port.core g.Q.Port.logged g.Q.Port.room c.args.stint.now.accesses c.next.here.left.accesses here.left.accesses _ _ _ was.come go.come in
    record {
      within = go.place;
      paid = go.left;
      come = come;
      line = λ some. go.line (was.line some);
      no_line = λ none. go.no_line (was.no_line none);
      core = go.port_core ∙ was.core;
      base = go.port_base ∙ was.base;
      size = go.port_size ∙ was.size;
      l1i = go.port_l1i ∙ was.l1i;
    }

pub hit-requires : goal.hit-requires
hit-requires g c =
    let was = c.next.invariant in
    let go = c.go_on-reached.ensures in
    let here = c.go_on-reached.result.gone in
    let come = comes_together c.args.image.now c.args.memory.now c.args.stint.now g.Q.Port.gives g.Q.Port.core g.Q.Port.logged g.Q.Port.room c.args.stint.now.accesses c.next.here.left.accesses here.left.accesses _ _ _ was.come go.come in
    let fit = c.requires.slots.fit here.place c.slot_at-slot.result.now c.slot_at-slot.ensures in
    record {
      access = subst (λ (o : Option Slot). IfSome o (λ slot. AccessesBy c.go_on-reached.result.flow slot.op)) c.slot_at-slot.ensures go.access;
      rd = fit.rd;
      rs1 = fit.rs1;
      rs2 = fit.rs2;
      reach = c.requires.reach;
      left = omega (arith, go.left);
      base = go.port_base ∙ was.base ∙ c.requires.base;
      size = go.port_size ∙ was.size ∙ c.requires.size;
      room = λ some. has_room c.args.image.now c.args.memory.now c.args.stint.now g.Q.Port.gives g.Q.Port.core g.Q.Port.logged g.Q.Port.room c.args.stint.now.accesses here.left.accesses _ _ come c.requires.room some;
    }

pub returns-in-Meets : goal.returns-in-Meets
returns-in-Meets g c =
    let was = c.next.invariant in
    let go = c.go_on-reached.ensures in
    let here = c.go_on-reached.result.gone in
    let come = comes_together c.args.image.now c.args.memory.now c.args.stint.now g.Q.Port.gives g.Q.Port.core g.Q.Port.logged g.Q.Port.room c.args.stint.now.accesses c.next.here.left.accesses here.left.accesses _ _ _ was.come go.come in
    let P : List ℕ → g.row.Q.Denot → Type 0 = λ x port. HasCome c.args.image.now c.args.memory.now c.args.stint.now g.Q.Port.gives g.Q.Port.core g.Q.Port.logged g.Q.Port.room c.args.stint.now.accesses here.left.accesses
    (record { registers = c.args.x.now; pc = c.args.first + 4 * c.args.place; line = c.args.line; clock = c.args.stint.now.clock; count = 0; port = c.args.port.now })
    (moment_at c.args.stint.now x (c.args.first + 4 * here.place) here.line here.left port) in
    let same : P c.hit.new.x c.hit.new.port = subst (λ x. P x c.hit.new.port) (sym (c.in-Meets.ensures.none refl)) (subst (P c.go_on-reached.new.x) (sym (c.in-Meets.ensures.same refl)) come) in
    record {
      place = go.place;
      left = go.left;
      accesses = omega (arith, come.few);
      gone = has_gone c.args.image.now c.args.memory.now c.args.stint.now g.Q.Port.gives g.Q.Port.core g.Q.Port.logged g.Q.Port.room here.left.accesses _ _ same;
      line = λ some. go.line (was.line some);
      no_line = λ none. go.no_line (was.no_line none);
      early = c.in-Meets.ensures.early;
      met = subst (λ x. Meets c.args.image.now c.args.memory.now x (c.args.first + 4 * here.place) c.in-Meets.single) (sym (c.in-Meets.ensures.none refl))
          (meets c.args.image.now c.args.memory.now c.args.first (length c.args.slots.now) here.place c.slot_at-slot.result.now c.go_on-reached.new.x c.in-Meets.single
          (c.requires.slots.access here.place c.slot_at-slot.result.now c.slot_at-slot.ensures) c.in-Meets.ensures.met);
      lies = go.lies c.in-Meets.ensures.met_flow;
      port_core = c.hit.ensures.port_core ∙ go.port_core ∙ was.core;
      port_base = c.hit.ensures.port_base ∙ go.port_base ∙ was.base;
      port_size = c.hit.ensures.port_size ∙ go.port_size ∙ was.size;
      port_l1i = c.hit.ensures.port_l1i ∙ go.port_l1i ∙ was.l1i;
    }

pub returns-in-Not : goal.returns-in-Not
returns-in-Not g c =
    let was = c.next.invariant in
    let go = c.go_on-reached.ensures in
    let here = c.go_on-reached.result.gone in
    let come = comes_together c.args.image.now c.args.memory.now c.args.stint.now g.Q.Port.gives g.Q.Port.core g.Q.Port.logged g.Q.Port.room c.args.stint.now.accesses c.next.here.left.accesses here.left.accesses _ _ _ was.come go.come in
    let P : List ℕ → g.row.Q.Denot → Type 0 = λ x port. HasCome c.args.image.now c.args.memory.now c.args.stint.now g.Q.Port.gives g.Q.Port.core g.Q.Port.logged g.Q.Port.room c.args.stint.now.accesses here.left.accesses
    (record { registers = c.args.x.now; pc = c.args.first + 4 * c.args.place; line = c.args.line; clock = c.args.stint.now.clock; count = 0; port = c.args.port.now })
    (moment_at c.args.stint.now x (c.args.first + 4 * here.place) here.line here.left port) in
    let same : P c.hit.new.x c.hit.new.port = subst (λ x. P x c.hit.new.port) (sym (c.in-Not.ensures.none refl)) (subst (P c.go_on-reached.new.x) (sym (c.in-Not.ensures.same refl)) come) in
    record {
      place = go.place;
      left = go.left;
      accesses = omega (arith, come.few);
      gone = has_gone c.args.image.now c.args.memory.now c.args.stint.now g.Q.Port.gives g.Q.Port.core g.Q.Port.logged g.Q.Port.room here.left.accesses _ _ same;
      line = λ some. go.line (was.line some);
      no_line = λ none. go.no_line (was.no_line none);
      early = tt;
      met = tt;
      lies = tt;
      port_core = c.hit.ensures.port_core ∙ go.port_core ∙ was.core;
      port_base = c.hit.ensures.port_base ∙ go.port_base ∙ was.base;
      port_size = c.hit.ensures.port_size ∙ go.port_size ∙ was.size;
      port_l1i = c.hit.ensures.port_l1i ∙ go.port_l1i ∙ was.l1i;
    }

pub next-preserved : goal.next-preserved
next-preserved g c =
    let was = c.next.invariant in
    let go = c.go_on-reached.ensures in
    let here = c.go_on-reached.result.gone in
    let come = comes_together c.args.image.now c.args.memory.now c.args.stint.now g.Q.Port.gives g.Q.Port.core g.Q.Port.logged g.Q.Port.room c.args.stint.now.accesses c.next.here.left.accesses here.left.accesses _ _ _ was.come go.come in
    let slots = c.args.slots.now in
    let slot = c.slot_at-slot.result.now in
    let served = c.in-Served.ensures in
    let follows = (c.requires.slots.fit here.place slot c.slot_at-slot.ensures).accessed (served.access refl) in
    let made = comes_by_hit c.args.image.now c.args.memory.now c.args.stint.now g.Q.Port.gives g.Q.Port.core g.Q.Port.logged g.Q.Port.room c.args.first slots c.requires.slots here.place slot c.slot_at-slot.ensures here.line here.left c.go_on-reached.new.x c.hit.new.x c.go_on-reached.new.port c.hit.new.port
    (go.lies (served.flow refl)) c.requires.begins go.left (served.time refl) (served.few refl) (omega (arith, follows, c.requires.slots.memory)) c.hit.ensures.port_room (served.served refl) in
    record {
      within = follows;
      paid = omega (arith, go.left, served.time refl);
      come = comes_together c.args.image.now c.args.memory.now c.args.stint.now g.Q.Port.gives g.Q.Port.core g.Q.Port.logged g.Q.Port.room c.args.stint.now.accesses here.left.accesses (here.left.accesses - 1) _ _ _ come made;
      line = λ some. go.line (was.line some);
      no_line = λ none. go.no_line (was.no_line none);
      core = c.hit.ensures.port_core ∙ go.port_core ∙ was.core;
      base = c.hit.ensures.port_base ∙ go.port_base ∙ was.base;
      size = c.hit.ensures.port_size ∙ go.port_size ∙ was.size;
      l1i = c.hit.ensures.port_l1i ∙ go.port_l1i ∙ was.l1i;
    }
