-- The first file was written, and then the others.
use Rattle.std.proofs.Common.{◌≡◌, List, ◌∷◌, Option, rules, subst, sym}
use Rattle.std.specs.List.{flat_map}
use Rattle.std.specs.Prelude.{⊤}
use Rattle.zsim.specs.declared.outputs.OutputFile.{OutputFile}
use Rattle.zsim.specs.Seen.{files_seen}
use Rattle.zsim.specs.Steps.{Writes, output_list}
use Rattle.zsim.proofs.WrittenInTurn.{handed_on, writes_both}
use Rattle.zsim.proofs.outputs.+write_files.Goals as goal

pub returns-in_err-write_file-in-Some : goal.returns-in_err-write_file-in-Some
returns-in_err-write_file-in-Some g t c =
    let files = g.F.Files in
    let seen = files_seen files.is_seen files.contents files.faults files.latest c.args.files.now c.write_file.new.files in
    let first = c.in-Some.first.now in
    let rest = c.in-Some.rest.now in
    let are : c.args.outputs.now ≡ first ∷ rest = search rules in
    subst (λ (outputs : List (Option OutputFile)). Writes c.from_residual.result (flat_map output_list outputs) seen) (sym are)
    (handed_on ⊤ ⊤ c.in_err-write_file-in-Some.field-0.0 c.from_residual.result seen (output_list first) (flat_map output_list rest) c.from_residual.ensures.1 c.in_err-write_file-in-Some.ensures)

pub returns-in_ok-write_file-in-Some : goal.returns-in_ok-write_file-in-Some
returns-in_ok-write_file-in-Some g t c =
    let files = g.F.Files in
    let seen = files_seen files.is_seen files.contents files.faults files.latest c.args.files.now c.write_files.new.files in
    let first = c.in-Some.first.now in
    let rest = c.in-Some.rest.now in
    let are : c.args.outputs.now ≡ first ∷ rest = search rules in
    subst (λ (outputs : List (Option OutputFile)). Writes c.write_files.result (flat_map output_list outputs) seen) (sym are)
    (writes_both files.is_seen files.contents files.faults files.latest c.args.files.now c.write_file.new.files c.write_files.new.files
    (output_list first) c.in_ok-write_file-in-Some.ensures.0 c.in_ok-write_file-in-Some.ensures.1 c.write_files.result (flat_map output_list rest) c.write_files.ensures)
