use Rattle.std.proofs.Common.{◌≡◌, ℕ, suc, ◌+◌, ◌<◌, List, ◌∷◌, ◌++◌, length, map, drop, get_or, string_bytes, Some, refl, sym, ap, ◌∙◌, arith, append_assoc, drop-cons}
use Rattle.std.specs.Prelude.{slice_get}
use Rattle.std.specs.List.{zip}
use Rattle.std.proofs.lemmas.Option.{get_or_from_slice_get}
use Rattle.bound_core.specs.NumberedCores.{NumberedCore}
use Rattle.stats.specs.declared.counts.CoreCount.{CoreCount}
use Rattle.report.specs.ReportText.{core_lines, numbered_lines}
use Rattle.report.proofs.core_lines.write_cores.Goals as goal

-- the lines of the cores from a place on are those of the core there, and those of the cores behind it
next_lines : (version : ℕ) (cores : List NumberedCore) (counts : List CoreCount) (n : ℕ) (core : NumberedCore) (count : CoreCount) → n < length cores → n < length counts
    → core ≡ get_or cores n core → slice_get counts n ≡ Some count
    → numbered_lines (core_lines version) n (zip (map (λ c. c.timed) (drop n cores)) (drop n counts))
    ≡ core_lines version n (core.timed, count) ++ numbered_lines (core_lines version) (n + 1) (zip (map (λ c. c.timed) (drop (n + 1) cores)) (drop (n + 1) counts))
next_lines version cores counts n core count within counted at got =
    let one : suc n ≡ n + 1 = omega arith in
    let first : drop n cores ≡ core ∷ drop (n + 1) cores = drop-cons cores n core within ∙ ap (λ x. x ∷ drop (suc n) cores) (sym at) ∙ ap (λ k. core ∷ drop k cores) one in
    let second : drop n counts ≡ count ∷ drop (n + 1) counts =
    drop-cons counts n count counted ∙ ap (λ x. x ∷ drop (suc n) counts) (get_or_from_slice_get counts n count count got) ∙ ap (λ k. count ∷ drop k counts) one
    in
    rw (first, second) refl

pub loop-n-preserved : goal.loop-n-preserved
loop-n-preserved c =
    let version = c.args.version in
    let n = c.loop-n.n in
    let cores = c.args.cores.now in
    let counts = c.args.counters.now.core_counts in
    let core = c.index-cores-from.result in
    let rest = numbered_lines (core_lines version) (n + 1) (zip (map (λ (b : NumberedCore). b.timed) (drop (n + 1) cores)) (drop (n + 1) counts)) in
    let lines = core_lines version n (core.timed, c.core.result) in
    let at : core ≡ get_or cores n core = c.index-cores-from.is ∙ ap (λ k. get_or cores k core) c.from.ensures in
    let step = next_lines version cores counts n core c.core.result (omega (arith, c.loop-n-test.true, c.requires.cores)) (omega (arith, c.loop-n-test.true, c.requires.counts)) at c.core.ensures in
    ap (λ text. text ++ rest) c.in_ok-write_core.ensures
    ∙ append_assoc (string_bytes c.loop-n.text) lines rest
    ∙ ap (λ all. string_bytes c.loop-n.text ++ all) (sym step)
    ∙ c.loop-n.invariant
