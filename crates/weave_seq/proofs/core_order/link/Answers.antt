-- The event is linked, and is the first of its core from here on.
use Rattle.std.proofs.Common.{◌≡◌, ◌<◌, ◌+◌, ◌-◌, All, Some, None, length, get_or, set, sym, ◌∙◌, ap, subst, refl, arith, length-set}
use Rattle.std.specs.Prelude.{slice_index_or}
use Rattle.event_graph.specs.declared.event.Event.{Event}
use Rattle.weave_seq.specs.ByCore.{AreFirstFrom}
use Rattle.weave_seq.proofs.CoreLinks.{all_linked, none_first, one_first, one_linked}
use Rattle.weave_seq.proofs.Firing.{no_event}
use Rattle.weave_seq.proofs.core_order.link.Goals as goal
use Rattle.weave_seq.proofs.core_order.link.Goals.{in-Some, in-None}

pub loop-from-init : goal.loop-from-init
loop-from-init c = record {
  within = omega arith;
  first = none_first c.args.events.now c.args.first.now c.requires.none;
  cores = refl;
  following = all_linked c.args.events.now c.args.following.now;
  size = c.requires.size;
}

pub loop-from-preserved : goal.loop-from-preserved
loop-from-preserved c =
    let i = c.loop-from.invariant in
    let old : c.loop-from.from ≡ c.loop-from.from - 1 + 1 = omega (arith, c.loop-from-test.true) in
    let within : c.loop-from.from - 1 < length c.args.events.now = omega (arith, c.loop-from-test.true, i.within) in
    let cores : All (λ e. e.core < length c.loop-from.first) c.args.events.now = subst (λ n. All (λ (e : Event). e.core < n) c.args.events.now) (sym i.cores) c.requires.cores in
    record {
      within = omega (arith, i.within);
      first = one_first c.args.events.now c.requires.numbered c.loop-from.from (c.loop-from.from - 1) old within no_event c.loop-from.first cores i.first _ _ c.from-core.result refl c.from-core.ensures refl;
      cores = length-set c.loop-from.first c.from-core.result _ ∙ i.cores;
      following =
          let core_is : slice_index_or c.loop-from.first (get_or c.args.events.now (c.loop-from.from - 1) no_event).core None ≡ slice_index_or c.loop-from.first c.from-core.result None =
          ap (λ n. slice_index_or c.loop-from.first n None) (sym c.from-core.ensures)
          in
          elim c.match-first-core.branch [
            | in-Some w ↦
                one_linked c.args.events.now c.requires.numbered c.loop-from.from (c.loop-from.from - 1) old within no_event c.loop-from.first cores i.first c.loop-from.following i.size i.following
                (Some w.in-Some.number) (core_is ∙ w.in-Some.is) _ (ap (λ n. set c.loop-from.following (c.loop-from.from - 1) n) w.following-is)
            | in-None w ↦
                one_linked c.args.events.now c.requires.numbered c.loop-from.from (c.loop-from.from - 1) old within no_event c.loop-from.first cores i.first c.loop-from.following i.size i.following
                None (core_is ∙ w.in-None.is) _ (ap (λ n. set c.loop-from.following (c.loop-from.from - 1) n) w.following-is)
          ];
      size = length-set c.loop-from.following (c.loop-from.from - 1) c.match-first-core.following ∙ i.size;
    }

pub returns-clause-first : goal.returns-clause-first
returns-clause-first c =
    let end : c.loop-from.from ≡ 0 = omega (arith, c.loop-from-test.false) in
    subst (λ n. AreFirstFrom c.args.events.now n c.loop-from.first) end c.loop-from.invariant.first
