use Rattle.std.proofs.Common.{◌++◌, ◌∷◌, ◌+◌, [], ℕ, List, map, refl, sym, append-nil, arith}
use Rattle.profile.specs.Listed.{AreCoreRows, core_row}
use Rattle.profile.specs.Profiled.{has_address}
use Rattle.profile.proofs.Listing.{mapped_more, no_more, none_before, one_more}
use Rattle.profile.proofs.profile.Profile.push_rows.Goals as goal

pub loop-pc-init : goal.loop-pc-init
loop-pc-init c = ([], none_before (has_address c.args.self.now c.args.core), sym (append-nil c.args.rows.now.items))

pub loop-pc-preserved : goal.loop-pc-preserved
loop-pc-preserved c =
    let so_far = c.loop-pc.invariant.0 in (
      so_far ++ c.in-Some.pc ∷ [],
      one_more (has_address c.args.self.now c.args.core) c.loop-pc.at c.in-Some.pc so_far c.loop-pc.invariant.1 c.in-Some.ensures,
      mapped_more (core_row c.args.self.now c.args.core) so_far c.in-Some.pc c.args.rows.now.items c.loop-pc.rows.items c.push.new.self.items c.core_row.result c.loop-pc.invariant.2 c.core_row.ensures c.in_ok-push.ensures.items,
    )

-- the last number that fits
pub returns-then-pc : goal.returns-then-pc
returns-then-pc c =
    let so_far = c.loop-pc.invariant.0 in
    let all : List ℕ = so_far ++ c.in-Some.pc ∷ [] in
    let before = one_more (has_address c.args.self.now c.args.core) c.loop-pc.at c.in-Some.pc so_far c.loop-pc.invariant.1 c.in-Some.ensures in
    let are : AreCoreRows c.args.self.now c.args.core (map (core_row c.args.self.now c.args.core) all) = record {
      pcs = all;
      all = no_more (has_address c.args.self.now c.args.core) (c.in-Some.pc + 1) all before (λ n le lt. absurd (omega (arith, le, lt, c.if-pc.true)));
      are = refl;
    }
    in
    (map (core_row c.args.self.now c.args.core) all, are, mapped_more (core_row c.args.self.now c.args.core) so_far c.in-Some.pc c.args.rows.now.items c.loop-pc.rows.items c.push.new.self.items c.core_row.result c.loop-pc.invariant.2 c.core_row.ensures c.in_ok-push.ensures.items)

pub returns : goal.returns
returns c =
    let so_far = c.loop-pc.invariant.0 in
    let are : AreCoreRows c.args.self.now c.args.core (map (core_row c.args.self.now c.args.core) so_far) = record {
      pcs = so_far;
      all = no_more (has_address c.args.self.now c.args.core) c.loop-pc.at so_far c.loop-pc.invariant.1 (λ n le lt. c.in_default.ensures n le);
      are = refl;
    }
    in
    (map (core_row c.args.self.now c.args.core) so_far, are, c.loop-pc.invariant.2)
