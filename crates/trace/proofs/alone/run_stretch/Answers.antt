use Rattle.std.proofs.Common.{◌≡◌, ◌∙◌, ap, arith}
use Rattle.rv_core.specs.CoreState.{CoreState}
use Rattle.reference.proofs.Accesses.{clock_within}
use Rattle.trace.specs.EachCore.{untold_steps}
use Rattle.trace.proofs.StretchTold.{HasRun, ran_no_more, ran_not_later, ran_same_end, told_on}
use Rattle.trace.proofs.alone.run_stretch.Goals as goal

pub run_plain-count-requires : goal.run_plain-count-requires
run_plain-count-requires c = omega (arith, c.requires.clock, c.requires.end, clock_within c.args.end c.args.core.now.timed)

pub returns-in_err-add_leg-clause-latest : goal.returns-in_err-add_leg-clause-latest
returns-in_err-add_leg-clause-latest c =
    let did = c.run_plain-count.ensures in
    let run : HasRun c.args.program.now c.args.end c.stretch-known.result c.run_plain-count.result c.args.core.now.timed c.run_plain-count.new.self.timed =
    record { few = did.few; early = did.early; ran = did.ran; value = did.value; free = did.free; unfetched = did.unfetched; fetching = did.fetching; pace = did.pace } in
    let at_pc : c.pc-pc.result ≡ c.args.core.now.timed.core.pc = c.pc-pc.ensures ∙ ap (λ (core : CoreState). core.pc) c.core.ensures.value in
    ran_not_later c.args.program.now c.args.end c.stretch-known.result c.args.core.now.timed c.run_plain-count.new.self.timed c.pc-pc.result at_pc c.stretch-known.ensures.falls c.run_plain-count.result run

pub returns-in_err-add_leg-clause-no_more : goal.returns-in_err-add_leg-clause-no_more
returns-in_err-add_leg-clause-no_more c =
    let did = c.run_plain-count.ensures in
    let run : HasRun c.args.program.now c.args.end c.stretch-known.result c.run_plain-count.result c.args.core.now.timed c.run_plain-count.new.self.timed =
    record { few = did.few; early = did.early; ran = did.ran; value = did.value; free = did.free; unfetched = did.unfetched; fetching = did.fetching; pace = did.pace } in
    let at_pc : c.pc-pc.result ≡ c.args.core.now.timed.core.pc = c.pc-pc.ensures ∙ ap (λ (core : CoreState). core.pc) c.core.ensures.value in
    ran_no_more c.args.program.now c.args.end c.stretch-known.result c.args.core.now.timed c.run_plain-count.new.self.timed c.pc-pc.result at_pc c.stretch-known.ensures.falls c.run_plain-count.result run

pub returns-clause-same_end : goal.returns-clause-same_end
returns-clause-same_end c =
    let did = c.run_plain-count.ensures in
    let run : HasRun c.args.program.now c.args.end c.stretch-known.result c.run_plain-count.result c.args.core.now.timed c.run_plain-count.new.self.timed =
    record { few = did.few; early = did.early; ran = did.ran; value = did.value; free = did.free; unfetched = did.unfetched; fetching = did.fetching; pace = did.pace } in
    let at_pc : c.pc-pc.result ≡ c.args.core.now.timed.core.pc = c.pc-pc.ensures ∙ ap (λ (core : CoreState). core.pc) c.core.ensures.value in
    ran_same_end c.args.program.now c.args.end c.stretch-known.result c.args.core.now.timed c.run_plain-count.new.self.timed c.pc-pc.result at_pc c.stretch-known.ensures.falls c.run_plain-count.result run

pub returns-clause-latest : goal.returns-clause-latest
returns-clause-latest c =
    let did = c.run_plain-count.ensures in
    let run : HasRun c.args.program.now c.args.end c.stretch-known.result c.run_plain-count.result c.args.core.now.timed c.run_plain-count.new.self.timed =
    record { few = did.few; early = did.early; ran = did.ran; value = did.value; free = did.free; unfetched = did.unfetched; fetching = did.fetching; pace = did.pace } in
    let at_pc : c.pc-pc.result ≡ c.args.core.now.timed.core.pc = c.pc-pc.ensures ∙ ap (λ (core : CoreState). core.pc) c.core.ensures.value in
    ran_not_later c.args.program.now c.args.end c.stretch-known.result c.args.core.now.timed c.run_plain-count.new.self.timed c.pc-pc.result at_pc c.stretch-known.ensures.falls c.run_plain-count.result run

pub returns-clause-no_more : goal.returns-clause-no_more
returns-clause-no_more c =
    let did = c.run_plain-count.ensures in
    let run : HasRun c.args.program.now c.args.end c.stretch-known.result c.run_plain-count.result c.args.core.now.timed c.run_plain-count.new.self.timed =
    record { few = did.few; early = did.early; ran = did.ran; value = did.value; free = did.free; unfetched = did.unfetched; fetching = did.fetching; pace = did.pace } in
    let at_pc : c.pc-pc.result ≡ c.args.core.now.timed.core.pc = c.pc-pc.ensures ∙ ap (λ (core : CoreState). core.pc) c.core.ensures.value in
    ran_no_more c.args.program.now c.args.end c.stretch-known.result c.args.core.now.timed c.run_plain-count.new.self.timed c.pc-pc.result at_pc c.stretch-known.ensures.falls c.run_plain-count.result run

pub returns-clause-tells : goal.returns-clause-tells
returns-clause-tells c = λ number.
    let did = c.run_plain-count.ensures in
    let run : HasRun c.args.program.now c.args.end c.stretch-known.result c.run_plain-count.result c.args.core.now.timed c.run_plain-count.new.self.timed =
    record { few = did.few; early = did.early; ran = did.ran; value = did.value; free = did.free; unfetched = did.unfetched; fetching = did.fetching; pace = did.pace } in
    let at_pc : c.pc-pc.result ≡ c.args.core.now.timed.core.pc = c.pc-pc.ensures ∙ ap (λ (core : CoreState). core.pc) c.core.ensures.value in
    told_on c.args.program.now c.args.end c.stretch-known.result c.args.core.now.timed c.run_plain-count.new.self.timed c.pc-pc.result at_pc c.stretch-known.ensures.falls number c.run_plain-count.result
    (untold_steps number c.args.way.now.items) (untold_steps number c.add_leg.new.way.items) run (c.in_ok-add_leg.ensures.tells number)
