use Rattle.std.proofs.Common.{◌≡◌, ℕ, ◌+◌, ◌<◌, List, [], ◌∷◌, ◌++◌, length, refl, sym, ◌∙◌, ap, subst, arith}
use Rattle.mesi_dir.specs.CoreSets.{cores_in}
use Rattle.parts_table.specs.Places.{is_in}
use Rattle.parts_table.specs.Stations.{seat_of}
use Rattle.parts_table.proofs.L1Loops.{few_cores, taking_begins, taking_ends, taking_fits, taking_goes_on}
use Rattle.parts_table.proofs.Members.{in_first, in_right}
use Rattle.parts_table.proofs.StationSteps.{seat_again}
use Rattle.parts_table.proofs.station.Station.take_l1s.Goals as goal

pub loop-core-init : goal.loop-core-init
loop-core-init g c = taking_begins c.args.self.now c.args.places.now c.args._home.now c.args._number c.args.table.now.cores (cores_in c.args.cores.words) c.requires.has c.requires.timely

pub take_l1-requires-clause-at : goal.take_l1-requires-clause-at
take_l1-requires-clause-at g c = seat_again c.args.table.now (seat_of c.args.self.now) (seat_of c.loop-core.self) c.requires.at c.loop-core.invariant.same.0

pub take_l1-requires-clause-own : goal.take_l1-requires-clause-own
take_l1-requires-clause-own g c = (record { core = c.loop-core.self.core; list = c.args.self.now.made.list }, c.loop-core.invariant.has.hand.lone, refl)

-- a core that is left is one of all
among : (all taken left rest : List ℕ) (core : ℕ) → all ≡ taken ++ left → left ≡ core ∷ rest → is_in all core
among all taken left rest core is left_is = subst (λ (cs : List ℕ). is_in cs core) (sym is) (in_right taken left core (subst (λ (cs : List ℕ). is_in cs core) (sym left_is) (in_first core rest core refl)))

pub take_l1-requires-clause-core : goal.take_l1-requires-clause-core
take_l1-requires-clause-core g c =
    let it = c.loop-core.invariant in
    c.requires.known c.in-Some.core (among (cores_in c.args.cores.words) it.taken (cores_in c.loop-core.left.words) (cores_in c.take_first.new.self.words) c.in-Some.core it.all_is c.in-Some.ensures.some.1)

pub take_l1-requires-clause-count : goal.take_l1-requires-clause-count
take_l1-requires-clause-count g c = c.loop-core.invariant.has.count ∙ (c.loop-core.invariant.same.0.cores ∙ c.requires.at.cores)

pub take_l1-requires-clause-room : goal.take_l1-requires-clause-room
take_l1-requires-clause-room g c =
    let four : length c.args.cores.words ≡ 4 = omega arith in
    taking_fits c.args.self.now c.loop-core.self c.loop-core.places c.args._home.now c.args._number c.args.table.now.cores c.in-Some.core (cores_in c.args.cores.words) (cores_in c.loop-core.left.words) (cores_in c.take_first.new.self.words)
    c.loop-core.invariant c.in-Some.ensures.some.1 (few_cores c.args.cores.words four)

pub loop-core-preserved : goal.loop-core-preserved
loop-core-preserved g c =
    let it = c.loop-core.invariant in
    let cores : c.args.table.now.cores ≡ c.loop-core.self.place.me.0.cores = sym (it.same.0.cores ∙ c.requires.at.cores) in
    let known = c.requires.known c.in-Some.core (among (cores_in c.args.cores.words) it.taken (cores_in c.loop-core.left.words) (cores_in c.take_first.new.self.words) c.in-Some.core it.all_is c.in-Some.ensures.some.1) in
    taking_goes_on c.machine_laws.ensures c.args.self.now c.loop-core.self c.take_l1.new.self c.loop-core.places c.take_l1.new.places c.args._home.now c.args._number c.args.table.now.cores c.in-Some.core
    (cores_in c.args.cores.words) (cores_in c.loop-core.left.words) (cores_in c.take_first.new.self.words) it c.in-Some.ensures.some.1
    (subst (λ (n : ℕ). c.in-Some.core < n) cores known) cores c.take_l1.ensures.took c.take_l1.ensures.same c.take_l1.ensures.blocks

pub returns-clause-has : goal.returns-clause-has
returns-clause-has g c =
    taking_ends c.args.self.now c.loop-core.self c.loop-core.places c.args._home.now c.args._number c.args.table.now.cores (cores_in c.args.cores.words) (cores_in c.loop-core.left.words) c.loop-core.invariant c.in_default.ensures.none.0
