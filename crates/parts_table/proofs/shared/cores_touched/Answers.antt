use Rattle.std.proofs.Common.{◌≡◌, ℕ, ◌<◌, Bool, List, ◌∷◌, refl, sym, ◌∙◌, ap, arith}
use Rattle.std.specs.Prelude.{◌||◌, nat_eq}
use Rattle.std.specs.Set.{is_member}
use Rattle.home.specs.HomeState.{HomeState}
use Rattle.mesi_dir.specs.CoreSets.{cores_in}
use Rattle.mesi_dir.proofs.CoreSets.{is_member-cores_in}
use Rattle.shard.specs.SharedStep.{touched_by}
use Rattle.parts_table.specs.declared.part.Part.{Part}
use Rattle.parts_table.specs.Access.{TableState}
use Rattle.parts_table.specs.World.{home_in}
use Rattle.parts_table.proofs.TouchedCores.{known_end, known_more}
use Rattle.parts_table.proofs.shared.cores_touched.Goals as goal

pub loop-other-preserved-then-other-table : goal.loop-other-preserved-then-other-table
loop-other-preserved-then-other-table c =
    let count : c.table.inside.words.shared.key.cores ≡ c.args.table.now.cores = ap (λ (t : TableState). t.cores) c.table.view_is in
    let few : c.in-Some.other < c.args.table.now.cores = omega (arith, count, c.if-other-table.true) in
    known_more c.args.core c.args.table.now.cores (cores_in c.others_touched-others.result.words) (cores_in c.loop-other.others.words) (cores_in c.take_first.new.self.words) (cores_in c.loop-other.cores.words) (cores_in c.add.new.self.words) c.in-Some.other
    c.in-Some.ensures.some.1 few
    (λ k. is_member-cores_in c.add.new.self.words k ∙ (c.add.ensures.each k ∙ ap (λ (b : Bool). nat_eq c.in-Some.other k || b) (sym (is_member-cores_in c.loop-other.cores.words k))))
    c.loop-other.invariant

pub returns-clause-touched : goal.returns-clause-touched
returns-clause-touched c = λ state is_home p are asked home shared k low.
    let same : state ≡ c.in-Home.home = ap home_in (sym is_home ∙ c.in-Home.is) in
    known_end c.args.core c.args.table.now.cores (cores_in c.others_touched-others.result.words) (cores_in c.loop-other.others.words) (cores_in c.loop-other.cores.words) (touched_by p c.args.core c.args.request)
    c.in_default-take_first.ensures.none.0 c.loop-other.invariant
    (c.others_touched-others.ensures.others p are asked (home ∙ same) shared) k low
