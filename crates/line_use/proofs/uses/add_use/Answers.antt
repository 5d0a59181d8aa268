use Rattle.std.proofs.Common.{ℕ, ◌&&◌, ◌∙◌, ap}
use Rattle.std.proofs.lemmas.Result.{on_ok_weaker}
use Rattle.sparse_table.specs.ByCore.{value_at, with_one}
use Rattle.line_use.specs.Bytes.{has_byte, reads, writes}
use Rattle.line_use.specs.Right.{unused}
use Rattle.zs_num.specs.Request.{line_of}
use Rattle.line_use.proofs.Adding.{added}
use Rattle.line_use.proofs.uses.add_use.Goals as goal

pub returns-clause-ok : goal.returns-clause-ok
returns-clause-ok c =
    let core = c.args.core in
    let request = c.args.request.now in
    let old = value_at unused c.args.uses.now.items in
    let new = value_at unused c.keep.new.uses.items in
    let before = c.value_at-before.result in
    let after = c.and-after.result in
    on_ok_weaker c.keep.result (λ sets. record {
      read = added core (line_of request) old new before c.of.result after (c.value_at-before.ensures ∙ ap (old core) c.line-line.ensures)
          (λ k n. sets k n ∙ ap (λ (line : ℕ). with_one core line after old k n) c.line-line.ensures) (λ b. b.read) (λ i. reads request && has_byte request i) c.of.ensures.read c.and-after.ensures.read;
      written = added core (line_of request) old new before c.of.result after (c.value_at-before.ensures ∙ ap (old core) c.line-line.ensures)
          (λ k n. sets k n ∙ ap (λ (line : ℕ). with_one core line after old k n) c.line-line.ensures) (λ b. b.written) (λ i. writes request && has_byte request i) c.of.ensures.written c.and-after.ensures.written;
    }) c.keep.ensures.ok
