use Rattle.std.proofs.Common.{rules, ◌≡◌, ℕ, List, [], replicate, ap, ◌∙◌, arith}
use Rattle.cache_set.specs.Ages.{ways_in}
use Rattle.cache_set.proofs.Rows.{empty_ways, rows_empty}
use Rattle.cache_set.proofs.set.Set.with_tick.Goals as goal

pub invariant_of-result : goal.invariant_of-result
invariant_of-result c =
    let n : ℕ = c.from-ways.result in
    let ages : c.in_ok-vec.field-0.items ≡ replicate n 0 = search rules in
    let tags : c.in_ok-vec-2.field-0.items ≡ replicate n 0 = search rules in
    let marks : c.in_ok-vec-3.field-0.items ≡ replicate n 0 = search rules in
    rw (ages, tags, marks) (rows_empty n c.args.tick (omega arith) (omega arith) c.requires.tick)

pub returns : goal.returns
returns c =
    let n : ℕ = c.from-ways.result in
    let same : n ≡ c.args.ways = omega arith in
    let ages : c.in_ok-vec.field-0.items ≡ replicate n 0 = search rules in
    ap (λ (es : List (ℕ × ℕ)). record { ways = n; list = es }) (ap (λ (l : List ℕ). ways_in l c.in_ok-vec-2.field-0.items c.in_ok-vec-3.field-0.items) ages ∙ empty_ways n c.in_ok-vec-2.field-0.items c.in_ok-vec-3.field-0.items)
    ∙ ap (λ (w : ℕ). record { ways = w; list = [] }) same
