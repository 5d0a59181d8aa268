-- What the steps of the reader answer.
use Rattle.std.specs.Prelude.{◌≡◌, List, ℕ, Option, Some, None, Result, Ok, Err, ⊤, String}
use Rattle.std.specs.BTreeMap.{BTreeMap}
use Rattle.std.specs.declared.alloc.Global.{Global}
use Rattle.toml.specs.View.{table_view}
use Rattle.toml.specs.declared.value.Value.{Value}
use Rattle.machine_desc.specs.Text.{document_of}
use Rattle.machine_desc.specs.declared.errors.BadMachine.{BadMachine}
use Rattle.machine_desc.specs.declared.errors.BadMachine.TheVariants.{Text}
use Rattle.machine_desc.specs.declared.errors.MachineFail.{MachineFail}
use Rattle.machine_desc.specs.declared.errors.MachineFail.TheVariants.{Bad, NoMemory}

-- a call answers this, unless memory runs out
abbrev pub Answers : {T : Type 0} → Result T MachineFail → Result T BadMachine → Type 0
Answers (Ok x) answer = answer ≡ Ok x
Answers (Err (Bad bad)) answer = answer ≡ Err bad
Answers (Err NoMemory) answer = ⊤

-- the answer of a check: that it passed, or the refusal that it found
abbrev pub passed_unless : Option BadMachine → Result (Unit {0}) BadMachine
passed_unless None = Ok tt
passed_unless (Some bad) = Err bad

-- the document of a text was read, or the text is none, unless memory runs out
abbrev pub ReadsDocument : List ℕ → Result (BTreeMap (String Global) Value) MachineFail → Type 0
ReadsDocument text (Ok document) = document_of text ≡ Some (table_view document)
ReadsDocument text (Err (Bad bad)) = (bad ≡ Text) × (document_of text ≡ None)
ReadsDocument text (Err NoMemory) = ⊤
