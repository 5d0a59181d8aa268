use Rattle.std.proofs.Common.{rules, ℕ, List, ◌++◌, ◌∷◌, [], Bool, false, get_or, sym, ◌∙◌, ap, arith}
use Rattle.std.specs.Mem.Slots.{slots_filled, slots_items}
use Rattle.std.proofs.lemmas.List.{get_or-set_other, take_all}
use Rattle.shard.specs.Served.{ShardState}
use Rattle.shard_table.proofs.Making.{emptied, one_taken}
use Rattle.shard_table.proofs.table.taken_out.Goals as goal

pub loop-number-preserved : goal.loop-number-preserved
loop-number-preserved c =
    let before = c.loop-number.invariant in
    let n : ℕ = c.loop-number.number in
    let filled : List Bool = slots_filled c.loop-number.closed.slots in
    let others = c.take.ensures.others in
    record {
      items =
          c.push_reserved.ensures.items ∙ (ap (λ (xs : List ShardState). xs ++ c.take.result ∷ []) before.items
          ∙ sym (one_taken (slots_items c.args.closed.slots) n c.take.result (ap (λ (xs : List ShardState). lib.ListN.get_elem? xs n) (sym before.slots) ∙ c.take.ensures.value)));
      slots = others.0 ∙ before.slots;
      size = others.2 ∙ before.size;
      room = search rules;
      within = search rules;
      empty = λ k below. ap (λ (bs : List Bool). get_or bs k false) others.1 ∙ emptied filled n k (before.empty k) below;
      full = λ k above below.
          ap (λ (bs : List Bool). get_or bs k false) others.1
          ∙ (get_or-set_other filled n k false false (λ same. absurd (omega (arith, same, above))) ∙ before.full k (omega (arith, above)) below);
    }

pub returns : goal.returns
returns c = c.loop-number.invariant.items ∙ take_all c.loop-number.number _ (omega (arith, c.loop-number-test.false))
