use Rattle.std.proofs.Common.{◌++◌, ◌∷◌, ◌+◌, [], ℕ, List, map, sym, ◌∙◌, ap, append-nil, arith}
use Rattle.profile_rows.specs.declared.address_row.AddressRow.{AddressRow}
use Rattle.profile.specs.Listed.{has_address_of_any, sum_row}
use Rattle.profile.proofs.Listing.{mapped_more, no_more, none_before, one_more}
use Rattle.profile.proofs.profile.Profile.rows_of_all.Goals as goal

pub loop-pc-init : goal.loop-pc-init
loop-pc-init c = ([], none_before (has_address_of_any c.args.self.now), sym (append-nil c.new-rows.result.items))

pub loop-pc-preserved : goal.loop-pc-preserved
loop-pc-preserved c =
    let so_far = c.loop-pc.invariant.0 in (
      so_far ++ c.in-Some.pc ∷ [],
      one_more (has_address_of_any c.args.self.now) c.loop-pc.at c.in-Some.pc so_far c.loop-pc.invariant.1 c.in-Some.ensures,
      mapped_more (sum_row c.args.self.now) so_far c.in-Some.pc c.new-rows.result.items c.loop-pc.rows.items c.push.new.self.items c.sum_row.result c.loop-pc.invariant.2 c.sum_row.ensures c.in_ok-push.ensures.items,
    )

-- the last number that fits
pub returns-then-pc : goal.returns-then-pc
returns-then-pc c =
    let so_far = c.loop-pc.invariant.0 in
    let all : List ℕ = so_far ++ c.in-Some.pc ∷ [] in
    let before = one_more (has_address_of_any c.args.self.now) c.loop-pc.at c.in-Some.pc so_far c.loop-pc.invariant.1 c.in-Some.ensures in
    record {
      pcs = all;
      all = no_more (has_address_of_any c.args.self.now) (c.in-Some.pc + 1) all before (λ n le lt. absurd (omega (arith, le, lt, c.if-pc.true)));
      are = mapped_more (sum_row c.args.self.now) so_far c.in-Some.pc c.new-rows.result.items c.loop-pc.rows.items c.push.new.self.items c.sum_row.result c.loop-pc.invariant.2 c.sum_row.ensures c.in_ok-push.ensures.items ∙ ap (λ (xs : List AddressRow). xs ++ map (sum_row c.args.self.now) all) c.new-rows.ensures.items;
    }

pub returns : goal.returns
returns c =
    let so_far = c.loop-pc.invariant.0 in
    record {
      pcs = so_far;
      all = no_more (has_address_of_any c.args.self.now) c.loop-pc.at so_far c.loop-pc.invariant.1 (λ n le lt. c.in_default.ensures n le);
      are = c.loop-pc.invariant.2 ∙ ap (λ (xs : List AddressRow). xs ++ map (sum_row c.args.self.now) so_far) c.new-rows.ensures.items;
    }
