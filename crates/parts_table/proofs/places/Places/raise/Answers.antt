use Rattle.std.proofs.Common.{◌≡◌, ℕ, ◌<◌, List, ◌∷◌, length, refl, sym, ap, subst, arith}
use Rattle.l1_cache.specs.L1State.{L1State}
use Rattle.mesi_dir.specs.CoreSets.{cores_in}
use Rattle.parts_table.specs.Places.{is_in}
use Rattle.parts_table.proofs.Members.{in_first}
use Rattle.parts_table.proofs.places.Places.raise.Goals as goal

pub index_mut-requires : goal.index_mut-requires
index_mut-requires c =
    let core : ℕ = c.in-Some.core in
    let here : is_in (cores_in c.loop-core.cores.words) core = subst (λ (cs : List ℕ). is_in cs core) (sym c.in-Some.ensures.some.1) (in_first core (cores_in c.take_first.new.self.words) core refl) in
    let known = c.requires.known core (c.loop-core.invariant.raised.within core here) in
    let same : length c.loop-core.self-inside.l1s.items ≡ length c.args.self.now.l1s = ap {A = List L1State} length c.loop-core.invariant.l1s in
    let many = c.loop-core.invariant.many in
    omega (arith, known, same, many, c.from.ensures)
