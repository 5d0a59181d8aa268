use Rattle.std.proofs.Common.{◌≡◌, ◌≤◌, ◌∙◌, IsTrue, Some, None, ap, arith, refl, rules, subst, sym}
use Rattle.rv_core.specs.declared.memory_range.MemoryRange.{MemoryRange}
use Rattle.reference.specs.TimedCore.{TimedCore, asks}
use Rattle.bound_core.specs.Met.{begun_in_time}
use Rattle.reference.specs.Turn.{IsOver}
use Rattle.reference.specs.IntervalBounds.{latest_clock}
use Rattle.reference.proofs.Accesses.{fewer, not_later, ran_not_later}
use Rattle.bound_core.proofs.Meeting.{none_asked}
use Rattle.reference.proofs.MoreServable.{more_servable}
use Rattle.bound_core.proofs.Turns.{over_left, ran_locally, ran_over, starts_within, takes_access, took, MakesAccess}
use Rattle.bound_core.proofs.bounded.BoundCore.take_turn.Goals as goal

pub make-requires-clause-servable : goal.make-requires-clause-servable
make-requires-clause-servable g c =
    let core = c.run_to_access-met.new.self.timed.core in
    let memory = sym c.run_to_access-met.ensures.memory in
    let base = c.requires.base ∙ ap (λ (m : MemoryRange). m.base) memory in
    let size = c.requires.size ∙ ap (λ (m : MemoryRange). m.size) memory in
    rw (base, size) (more_servable core.memory.base core.memory.size core.fetching (g.Q.Port.l1i c.args.port.now) c.in-Some.request (λ fetches. c.requires.l1i (subst IsTrue c.run_to_access-met.ensures.fetching fetches)) c.in-Some.ensures.served)

pub returns-in-Some-clause-took : goal.returns-in-Some-clause-took
returns-in-Some-clause-took g c _ =
    let time = g.X.Expand.time c.args.expansion.now in
    let image = g.P.Program.image c.args.program.now in
    let end = c.args.end in
    let before = c.args.self.now.timed in
    let ran = begun_in_time c.run_to_access-met.result c.run_to_access-met.new.self.timed in
    let request = c.in-Some.request in
    let asked : asks ran ≡ Some request = search rules in
    let runs = ran_locally image end before ran c.run_to_access-met.ensures.soon c.run_to_access-met.ensures.value in
    let access : MakesAccess time end before ran c.make.new.self.timed request c.make.result = record {
      runs = runs;
      sound = c.run_to_access-met.ensures.begun_sound;
      asked = asked;
      left = c.make.ensures.left;
      later = c.make.ensures.later;
      soon = c.make.ensures.within;
    } in
    let start : ran.clock ≤ latest_clock end before = starts_within end before ran request runs c.run_to_access-met.ensures.begun_sound asked in
    record {
      entry = c.make.result;
      turn = took time image end g.Q.Port.gives c.args.port.now c.make.new.port before ran c.make.new.self.timed request c.make.result
          c.run_to_access-met.ensures.value asked c.make.ensures.given c.make.ensures.left;
      core = c.make.ensures.core ∙ c.run_to_access-met.ensures.number;
      starts = omega (arith, start, c.make.ensures.start);
      fewer = fewer end before ran c.make.new.self.timed (takes_access time end before ran c.make.new.self.timed request c.make.result access);
      logged = c.make.ensures.port_logged;
    }

pub returns-in-Some-clause-latest : goal.returns-in-Some-clause-latest
returns-in-Some-clause-latest g c =
    let time = g.X.Expand.time c.args.expansion.now in
    let image = g.P.Program.image c.args.program.now in
    let end = c.args.end in
    let before = c.args.self.now.timed in
    let ran = begun_in_time c.run_to_access-met.result c.run_to_access-met.new.self.timed in
    let request = c.in-Some.request in
    let asked : asks ran ≡ Some request = search rules in
    let runs = ran_locally image end before ran c.run_to_access-met.ensures.soon c.run_to_access-met.ensures.value in
    let access : MakesAccess time end before ran c.make.new.self.timed request c.make.result = record {
      runs = runs;
      sound = c.run_to_access-met.ensures.begun_sound;
      asked = asked;
      left = c.make.ensures.left;
      later = c.make.ensures.later;
      soon = c.make.ensures.within;
    } in
    not_later end before ran c.make.new.self.timed (takes_access time end before ran c.make.new.self.timed request c.make.result access)

pub returns-in-None-clause-over : goal.returns-in-None-clause-over
returns-in-None-clause-over g c ended =
    let image = g.P.Program.image c.args.program.now in
    let before = c.args.self.now.timed in
    let now = c.run_to_access-met.new.self.timed in
    let ran = begun_in_time c.run_to_access-met.result now in
    let asked : asks ran ≡ None = search rules in
    let is : ran ≡ now = none_asked c.run_to_access-met.result now asked in
    subst (IsOver c.args.end) is (ran_over image c.args.end before ran c.run_to_access-met.ensures.value asked)

pub returns-in-None-clause-ended : goal.returns-in-None-clause-ended
returns-in-None-clause-ended g c ended =
    let image = g.P.Program.image c.args.program.now in
    let before = c.args.self.now.timed in
    let now = c.run_to_access-met.new.self.timed in
    let ran = begun_in_time c.run_to_access-met.result now in
    let asked : asks ran ≡ None = search rules in
    let is : ran ≡ now = none_asked c.run_to_access-met.result now asked in
    record {
      asked = ap asks (sym c.run_to_access-met.ensures.value) ∙ asked;
      left = sym is ∙ c.run_to_access-met.ensures.value;
      same = refl;
    }

pub returns-in-None-clause-latest : goal.returns-in-None-clause-latest
returns-in-None-clause-latest g c =
    let image = g.P.Program.image c.args.program.now in
    let before = c.args.self.now.timed in
    let now = c.run_to_access-met.new.self.timed in
    let ran = begun_in_time c.run_to_access-met.result now in
    let asked : asks ran ≡ None = search rules in
    let is : ran ≡ now = none_asked c.run_to_access-met.result now asked in
    let over : IsOver c.args.end ran = ran_over image c.args.end before ran c.run_to_access-met.ensures.value asked in
    let later = ran_not_later c.args.end before ran (ran_locally image c.args.end before ran c.run_to_access-met.ensures.soon c.run_to_access-met.ensures.value) (over_left c.args.end ran c.run_to_access-met.ensures.begun_sound over) in
    subst (λ (t : TimedCore). latest_clock c.args.end t ≤ latest_clock c.args.end before) is later
