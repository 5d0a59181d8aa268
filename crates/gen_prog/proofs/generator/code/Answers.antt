use Rattle.std.proofs.Common.{All, List, sym, subst, ap, ◌∙◌}
use Rattle.rv_decode.specs.declared.inst.Inst.{Inst}
use Rattle.gen_prog.specs.Encodable.{IsEncodable}
use Rattle.gen_prog.specs.Generated.{program}
use Rattle.gen_prog.proofs.Encodable.{encodable}
use Rattle.gen_prog.proofs.generator.code.Goals as goal

pub assemble-requires : goal.assemble-requires
assemble-requires c = subst (λ (is : List Inst). All IsEncodable is) (sym (c.program.ensures ∙ ap program c.mask.ensures)) (encodable c.args.number)
