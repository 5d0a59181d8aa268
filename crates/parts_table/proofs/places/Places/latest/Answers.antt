use Rattle.std.proofs.Common.{◌≡◌, ℕ, zero, suc, ◌<◌, List, [], ◌∷◌, get_or, length, max, refl, sym, ◌∙◌, ap, subst, arith}
use Rattle.mesi_dir.specs.CoreSets.{cores_in}
use Rattle.parts_table.specs.Places.{PlacesState, is_in, time_at}
use Rattle.parts_table.proofs.CoreLoops.{latest_goes_on}
use Rattle.parts_table.proofs.Members.{in_first}
use Rattle.parts_table.proofs.places.Places.latest.Goals as goal

any_default : (xs : List ℕ) (i d e : ℕ) → i < length xs → get_or xs i d ≡ get_or xs i e
any_default [] i d e lt = absurd (omega (arith, lt))
any_default (x ∷ xs) zero d e lt = refl
any_default (x ∷ xs) (suc i) d e lt = any_default xs i d e (omega (arith, lt))

-- what stands at an index that is there
same_value : (times now : List ℕ) (core from value : ℕ) → from < length times → times ≡ now → from ≡ core → value ≡ get_or times from value → value ≡ get_or now core 0
same_value times now core from value lt same is read = read ∙ (any_default times from value 0 lt ∙ (ap (λ (xs : List ℕ). get_or xs from 0) same ∙ ap (λ (n : ℕ). get_or now n 0) is))

pub index-requires : goal.index-requires
index-requires c =
    let core : ℕ = c.in-Some.core in
    let here : is_in (cores_in c.loop-core.cores.words) core = subst (λ (cs : List ℕ). is_in cs core) (sym c.in-Some.ensures.some.1) (in_first core (cores_in c.take_first.new.self.words) core refl) in
    let known = c.requires.known core (c.loop-core.invariant.within core here) in
    let same : length c.self.inside.l1s.items ≡ length c.args.self.now.l1s = ap (λ (s : PlacesState). length s.l1s) c.self.view_is in
    let many = c.self.invariant.0 in
    omega (arith, known, same, many, c.from.ensures)

pub loop-core-preserved : goal.loop-core-preserved
loop-core-preserved c =
    let core : ℕ = c.in-Some.core in
    let here : is_in (cores_in c.loop-core.cores.words) core = subst (λ (cs : List ℕ). is_in cs core) (sym c.in-Some.ensures.some.1) (in_first core (cores_in c.take_first.new.self.words) core refl) in
    let known = c.requires.known core (c.loop-core.invariant.within core here) in
    let same : length c.self.inside.l1s.items ≡ length c.args.self.now.l1s = ap (λ (s : PlacesState). length s.l1s) c.self.view_is in
    let many = c.self.invariant.0 in
    let lt : c.from.result < length c.self.inside.times.items = omega (arith, known, same, many, c.from.ensures) in
    let times : c.self.inside.times.items ≡ c.args.self.now.times = ap (λ (s : PlacesState). s.times) c.self.view_is in
    let value : c.index.result.now ≡ time_at c.args.self.now c.in-Some.core =
    same_value c.self.inside.times.items c.args.self.now.times core c.from.result c.index.result.now lt times c.from.ensures c.index.ensures in
    latest_goes_on (time_at c.args.self.now) c.args.time (cores_in c.args.cores.words) (cores_in c.loop-core.cores.words) (cores_in c.take_first.new.self.words) c.in-Some.core c.loop-core.time c.max-time.result
    c.in-Some.ensures.some.1 (c.max-time.ensures ∙ ap (max c.loop-core.time) value) c.loop-core.invariant
