use Rattle.std.proofs.Common.{◌≡◌, ℕ, ◌*◌, ◌≤◌, ◌++◌, List, length, get_or, take, drop, sym, ap, ◌∙◌, subst, arith}
use Rattle.std.proofs.Math.Seq.{take-append_seam}
use Rattle.cache_set.proofs.SetsInArrays.{anew_are_few}
use Rattle.cache_set.proofs.ticks.with_room.Goals as goal

pub returns-clause-past : goal.returns-clause-past
returns-clause-past c place within =
    let old : List ℕ = c.deref_mut.result.now in
    let anew : List ℕ = c.renumber_all.new.ages in
    let all : c.args.ages.now.len ≡ length anew = omega arith in
    let long : length old ≡ c.args.sets * c.args.ways = omega (arith, ap length c.deref_mut.ensures.value) in
    let items : take c.args.ages.now.len (anew ++ drop (length anew) c.args.ages.now.items) ≡ anew
    = ap (λ n. take n (anew ++ drop (length anew) c.args.ages.now.items)) all ∙ take-append_seam anew (drop (length anew) c.args.ages.now.items) in
    subst (λ (l : List ℕ). get_or l place 0 ≤ 32) (sym items) (omega (arith, anew_are_few c.args.sets c.args.ways old anew long c.renumber_all.ensures.anew place within))
