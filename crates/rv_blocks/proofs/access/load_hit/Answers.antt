use Rattle.std.proofs.Common.{◌≡◌, ◌==◌, ◌∙◌, true, false, refl, sym, rules, [], ◌∷◌}
use Rattle.std.specs.Prelude.{slice_set}
use Rattle.rv_core.specs.Effect.{received, with_register}
use Rattle.rv_core.specs.Accesses.{reply_to}
use Rattle.zs_num.specs.declared.request.Request.TheVariants as request
use Rattle.rv_blocks.specs.Slots.{is_signed}
use Rattle.rv_blocks.proofs.Serving.{serves_load}
use Rattle.rv_blocks.proofs.access.load_hit.Goals as goal

pub returns-then-slot-ne0-clause-served : goal.returns-then-slot-ne0-clause-served
returns-then-slot-ne0-clause-served g c =
    let x = c.args.x.now in
    let rd = c.args.slot.now.rd in
    let other : (rd == 0) ≡ false = search rules in
    let written : slice_set x rd c.loaded.result ≡ with_register x rd c.loaded.result = rw other refl in
    λ holds. serves_load c.args.memory.now g.Q.Port.gives g.Q.Port.core g.Q.Port.logged c.args.slot.now c.args.start x c.args.port.now c.width_of-width.result c.in-Some.reply c.loaded.result
    (slice_set x rd c.loaded.result) c.load_hit.new.self c.requires.is_load c.width_of-width.ensures.value (sym c.is_single.ensures ∙ c.if-not-is_single.false) c.in-Some.ensures.hit c.loaded.ensures written

pub returns-else-slot-ne0-clause-served : goal.returns-else-slot-ne0-clause-served
returns-else-slot-ne0-clause-served g c =
    let x = c.args.x.now in
    let rd = c.args.slot.now.rd in
    let value = received (record { rd = 0; width = c.width_of-width.result; signed = is_signed c.args.slot.now.name }) (reply_to (request.Load c.width_of-width.result 0) c.in-Some.reply ∷ []) in
    let none : (rd == 0) ≡ true = search rules in
    let kept : x ≡ with_register x rd value = rw none refl in
    λ holds. serves_load c.args.memory.now g.Q.Port.gives g.Q.Port.core g.Q.Port.logged c.args.slot.now c.args.start x c.args.port.now c.width_of-width.result c.in-Some.reply value
    x c.load_hit.new.self c.requires.is_load c.width_of-width.ensures.value (sym c.is_single.ensures ∙ c.if-not-is_single.false) c.in-Some.ensures.hit refl kept
