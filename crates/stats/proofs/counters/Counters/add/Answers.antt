use Rattle.std.proofs.Common.{◌≡◌, ◌+◌, ◌<◌, ◌^◌, List, length, ap, ◌∙◌, sym, subst, arith}
use Rattle.std.specs.Vec.{with_items}
use Rattle.std.proofs.lemmas.List.{with_items_is}
use Rattle.component.specs.declared.comp.Comp.{Comp}
use Rattle.stats.specs.Counts.{Counts, Interval}
use Rattle.stats.specs.CountsFit.{CountsFit}
use Rattle.stats.specs.Added.{added}
use Rattle.stats.proofs.Added.{core_fits, comp_fits, counts_added}
use Rattle.stats.proofs.counters.Counters.add.Goals as goal

pub add_to_core_counts-requires-clause-fits : goal.add_to_core_counts-requires-clause-fits
add_to_core_counts-requires-clause-fits c =
    let i : Interval = record { entries = c.args.entries.now; events = c.args.graph.now; fired = c.args.fired.now; delays = c.args.delays.now } in
    let first : Counts = record { core_counts = c.self.inside.core_counts.items; comp_counts = c.self.inside.comp_counts.items; accesses = c.self.inside.accesses; events = c.self.inside.events } in
    let fits : CountsFit (added first i c.args.comps.now) = subst (λ (v : Counts). CountsFit (added v i c.args.comps.now)) (sym c.self.view_is) c.requires.fits in
    rw (c.deref_mut.ensures.value, c.as_slice.ensures, c.as_slice-2.ensures) (core_fits i first c.args.comps.now fits)

pub add_to_comp_counts-requires-clause-fits : goal.add_to_comp_counts-requires-clause-fits
add_to_comp_counts-requires-clause-fits c =
    let i : Interval = record { entries = c.args.entries.now; events = c.args.graph.now; fired = c.args.fired.now; delays = c.args.delays.now } in
    let first : Counts = record { core_counts = c.self.inside.core_counts.items; comp_counts = c.self.inside.comp_counts.items; accesses = c.self.inside.accesses; events = c.self.inside.events } in
    let fits : CountsFit (added first i c.args.comps.now) = subst (λ (v : Counts). CountsFit (added v i c.args.comps.now)) (sym c.self.view_is) c.requires.fits in
    let same : length c.args.comps.now ≡ length first.comp_counts = c.requires.comps ∙ ap (λ (v : Counts). length v.comp_counts) (sym c.self.view_is) in
    rw (c.deref_mut-2.ensures.value, c.events.ensures.events, c.as_slice-3.ensures) (comp_fits i first c.args.comps.now same fits)

pub overflow_add-self : goal.overflow_add-self
unfolding added
overflow_add-self c =
    let fits : c.args.self.now.accesses + length c.args.entries.now < 2 ^ 64 = c.requires.fits.accesses in
    let was : c.self.inside.accesses ≡ c.args.self.now.accesses = ap (λ (v : Counts). v.accesses) c.self.view_is in
    let seen : length c.as_slice-5.result.now ≡ length c.args.entries.now = ap length c.as_slice-5.ensures in
    omega arith

pub overflow_add-self-2 : goal.overflow_add-self-2
unfolding added
overflow_add-self-2 c =
    let fits : c.args.self.now.events + length c.args.graph.now < 2 ^ 64 = c.requires.fits.events in
    let was : c.self.inside.events ≡ c.args.self.now.events = ap (λ (v : Counts). v.events) c.self.view_is in
    let seen : length c.events-2.result.now ≡ length c.args.graph.now = ap length c.events-2.ensures.events in
    omega arith

pub returns : goal.returns
returns c =
    let i : Interval = record { entries = c.args.entries.now; events = c.args.graph.now; fired = c.args.fired.now; delays = c.args.delays.now } in
    let first : Counts = record { core_counts = c.self.inside.core_counts.items; comp_counts = c.self.inside.comp_counts.items; accesses = c.self.inside.accesses; events = c.self.inside.events } in
    let comps : List Comp = c.args.comps.now in
    let same : length comps ≡ length first.comp_counts = c.requires.comps ∙ ap (λ (v : Counts). length v.comp_counts) (sym c.self.view_is) in
    let long : length c.add_to_core_counts.new.counts ≡ length first.core_counts = c.add_to_core_counts.auto.counts ∙ ap length c.deref_mut.ensures.value in
    let as_long : length c.add_to_comp_counts.new.counts ≡ length first.comp_counts = c.add_to_comp_counts.auto.counts ∙ ap length c.deref_mut-2.ensures.value in
    let cores = rw (c.deref_mut.ensures.value, c.as_slice.ensures, c.as_slice-2.ensures) at c.add_to_core_counts.ensures in
    let counted = rw (c.deref_mut-2.ensures.value, c.events.ensures.events, c.as_slice-3.ensures, c.as_slice-4.ensures) at c.add_to_comp_counts.ensures in
    let cores_are : (with_items c.self.inside.core_counts c.add_to_core_counts.new.counts).items ≡ c.add_to_core_counts.new.counts = with_items_is c.self.inside.core_counts c.add_to_core_counts.new.counts (omega (arith, long, c.self.inside.core_counts.ok.0)) in
    let comps_are : (with_items c.self.inside.comp_counts c.add_to_comp_counts.new.counts).items ≡ c.add_to_comp_counts.new.counts = with_items_is c.self.inside.comp_counts c.add_to_comp_counts.new.counts (omega (arith, as_long, c.self.inside.comp_counts.ok.0)) in
    rw (cores_are, comps_are, c.as_slice-5.ensures, c.events-2.ensures.events)
    (counts_added i first c.add_to_core_counts.new.counts c.add_to_comp_counts.new.counts comps long cores as_long same counted
    ∙ ap (λ (v : Counts). added v i comps) c.self.view_is)
