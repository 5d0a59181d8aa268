use Rattle.std.proofs.Common.{◌≡◌, ℕ, ◌≤◌, ◌++◌, List, length, get_or, take, drop, sym, ap, ◌∙◌, subst, arith}
use Rattle.std.proofs.Math.Seq.{take-append_seam}
use Rattle.cache_set.proofs.ages.with_room.Goals as goal

pub returns-clause-past : goal.returns-clause-past
returns-clause-past c place within =
    let anew : List ℕ = c.renumber.new.ages in
    let all : c.args.ages.now.len ≡ length anew = omega arith in
    let items : take c.args.ages.now.len (anew ++ drop (length anew) c.args.ages.now.items) ≡ anew
    = ap (λ n. take n (anew ++ drop (length anew) c.args.ages.now.items)) all ∙ take-append_seam anew (drop (length anew) c.args.ages.now.items) in
    subst (λ (l : List ℕ). get_or l place 0 ≤ c.renumber.result) (sym items) (c.renumber.ensures.most place (omega arith))
