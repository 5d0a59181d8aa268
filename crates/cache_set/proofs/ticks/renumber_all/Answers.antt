use Rattle.std.proofs.Common.{◌≡◌, ℕ, ◌+◌, ◌*◌, ◌<◌, ◌≤◌, List, length, take, drop, set, refl, sym, ap, ◌∙◌, subst, arith, inl, inr}
use Rattle.std.proofs.lemmas.Bool.{cases_eq}
use Rattle.std.proofs.lemmas.List.{length-drop, length-map, length-take-le}
use Rattle.cache_set.specs.Ages.{rank_in, renumbered}
use Rattle.cache_set.specs.Pieces.{piece, pieces}
use Rattle.cache_set.proofs.Pieces.{piece_changed, piece_unchanged, pieces_set}
use Rattle.cache_set.proofs.ticks.renumber_all.Goals as goal

pub loop-set-preserved : goal.loop-set-preserved
loop-set-preserved c =
    let k : ℕ = c.loop-set.set in
    let start : ℕ = c.start_of-start.result in
    let before : List ℕ = c.loop-set.ages in
    let after : List ℕ = c.renumber_from.new.ages in
    let old : List ℕ = take c.args.ways (drop start before) in
    let new : List ℕ = renumbered old in
    let long : length before ≡ c.args.sets * c.args.ways = c.loop-set.invariant.long in
    let l : k < c.args.sets = omega arith in
    let room : start + c.args.ways ≤ length before = omega arith in
    let new_long : length new ≡ c.args.ways = length-map old (rank_in old) ∙ length-take-le c.args.ways (drop start before) (omega (arith, length-drop start before, room)) in
    let e : pieces c.args.sets c.args.ways after ≡ set (pieces c.args.sets c.args.ways before) k new
    = ap (pieces c.args.sets c.args.ways) c.renumber_from.ensures.value
    ∙ pieces_set c.args.sets c.args.ways k start (start + c.args.ways) before new l long new_long c.start_of-start.ensures.at refl in
    let same : new ≡ renumbered (piece c.args.ways k before) = ap (λ (s : ℕ). renumbered (take c.args.ways (drop s before))) c.start_of-start.ensures.at in
    record {
      long = c.renumber_from.ensures.long ∙ long;
      done = λ n b. elim (cases_eq n k) as (λ _. piece c.args.ways n after ≡ renumbered (piece c.args.ways n c.args.ages.now)) [
        | inl q ↦ subst (λ (j : ℕ). piece c.args.ways j after ≡ renumbered (piece c.args.ways j c.args.ages.now)) (sym q)
            (piece_changed c.args.sets c.args.ways k before after new l e ∙ (same ∙ ap renumbered (c.loop-set.invariant.rest k (omega arith) l)))
        | inr apart ↦ piece_unchanged c.args.sets c.args.ways k n before after new (omega (arith, b, l)) apart e ∙ c.loop-set.invariant.done n (omega (arith, b, apart))
      ];
      rest = λ n b m. piece_unchanged c.args.sets c.args.ways k n before after new m (λ q. omega (arith, b, q)) e ∙ c.loop-set.invariant.rest n (omega (arith, b)) m;
    }
