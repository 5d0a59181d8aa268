-- Which instructions have a word.
use Rattle.std.specs.Prelude.{◌≡◌, ◌<◌, ◌^◌, Some}
use Rattle.rv_decode.specs.InstructionTable.{decoded}
use Rattle.rv_decode.specs.declared.inst.Inst.{Inst}
use Rattle.gen_prog.specs.Assembly.{encoded}

-- the word of an instruction is one, and decodes to it
pub record IsEncodable (i : Inst) : Type 0 where
  pub small : encoded i < 2 ^ 32
  pub decodes : decoded (encoded i) ≡ Some i
