use Rattle.std.proofs.Common.{◌≡◌, ◌+◌, ◌<◌, ◌^◌, rules, arith, ap, ◌∙◌}
use Rattle.rv_decode.specs.InstructionTable.{decoded}
use Rattle.rv_encode.proofs.EncodeLemmas.{encoded, put_together, encoded_decodes, encoded_only, encoded_below, first_parts_below}
use Rattle.rv_encode.proofs.TableLaws.{MaskLaws, TableLaws}
use Rattle.rv_encode.proofs.encoder.encode.Goals as goal
use Rattle.rv_encode.proofs.encoder.encode.Goals.{After-immediate, After-registers}

whole : (c : After-immediate) → c.row-value.result.0 + c.registers.result + c.immediate.result ≡ encoded c.args.inst
whole c =
    put_together c.args.inst c.row-value.result.0 c.registers.result c.immediate.result c.row-value.result.1
    (search rules) c.row-value.ensures.value c.row-value.ensures.format c.registers.ensures c.immediate.ensures

-- the laws of the table and of masks, which the code calls
table : (c : After-registers) → TableLaws
table c = record {
  matching = c.words_are_by_rows.ensures.matching;
  matched = c.words_are_by_rows.ensures.matched;
  listed = c.each_name_has_one_row.ensures.listed;
  each = c.each_name_has_one_row.ensures.each;
  kept = c.each_name_has_one_row.ensures.kept;
}

masks : (c : After-registers) → MaskLaws
masks c = record { bits = c.masks_add_up.ensures.bits; sums = c.masks_add_up.ensures.sums }

below : (c : After-registers) → encoded c.args.inst < 2 ^ 32
below c = encoded_below (table c) (masks c) c.args.inst c.requires

pub overflow_add-result : goal.overflow_add-result
overflow_add-result c =
    let small = below c in
    let first : c.row-value.result.0 + c.registers.result < 2 ^ 32 = first_parts_below c.args.inst c.row-value.result.0 c.registers.result small c.row-value.ensures.value c.registers.ensures in
    omega arith

pub overflow_add-result-2 : goal.overflow_add-result-2
overflow_add-result-2 c =
    let at = goal.at.overflow_add-result-2 c in
    let small = below at.After-registers in
    let same = whole at.After-immediate in
    omega arith

pub returns-clause-decodes : goal.returns-clause-decodes
returns-clause-decodes c =
    let at = (goal.at.returns-clause-decodes c).After-registers in
    ap decoded (whole c) ∙ encoded_decodes (table at) (masks at) c.args.inst c.requires

pub returns-clause-only : goal.returns-clause-only
returns-clause-only c word small same =
    let at = (goal.at.returns-clause-only c).After-registers in
    whole c ∙ encoded_only (table at) (masks at) c.args.inst word small same
