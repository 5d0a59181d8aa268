use Rattle.std.proofs.Common.{◌≡◌, ◌+◌, ◌<◌, ◌^◌, List, length, ap, ◌∙◌, sym, subst, arith}
use Rattle.std.specs.Vec.{with_items}
use Rattle.std.proofs.lemmas.List.{with_items_is}
use Rattle.component.specs.declared.comp.Comp.{Comp}
use Rattle.stats.specs.Counts.{Counts, Interval}
use Rattle.stats.specs.CountsFit.{CountsFit}
use Rattle.stats.specs.Added.{added}
use Rattle.stats.proofs.Added.{core_fits, comp_fits, counts_added}
use Rattle.stats.proofs.ByCounts.{cores_at_once, counted_cores_fit, comps_at_once, counted_comps_fit}
use Rattle.stats.proofs.counters.Counters.add_counts.Goals as goal

pub add_counted_cores-requires-clause-fits : goal.add_counted_cores-requires-clause-fits
add_counted_cores-requires-clause-fits c =
    let i : Interval = c.requires.fits.0 in
    let first : Counts = record { core_counts = c.self.inside.core_counts.items; comp_counts = c.self.inside.comp_counts.items; accesses = c.self.inside.accesses; events = c.self.inside.events } in
    let fits : CountsFit (added first i c.args.comps.now) = subst (λ (v : Counts). CountsFit (added v i c.args.comps.now)) (sym c.self.view_is) c.requires.fits.4 in
    let long = c.requires.cores ∙ ap (λ (v : Counts). length v.core_counts) (sym c.self.view_is) in
    rw (c.deref_mut.ensures.value, c.as_slice.ensures)
    (counted_cores_fit i c.args.core_counts.now c.args.accesses c.requires.fits.1 c.args.delays.now c.requires.fits.2 first.core_counts long
    (core_fits i first c.args.comps.now fits))

pub add_counted_comps-requires-clause-fits : goal.add_counted_comps-requires-clause-fits
add_counted_comps-requires-clause-fits c =
    let i : Interval = c.requires.fits.0 in
    let first : Counts = record { core_counts = c.self.inside.core_counts.items; comp_counts = c.self.inside.comp_counts.items; accesses = c.self.inside.accesses; events = c.self.inside.events } in
    let fits : CountsFit (added first i c.args.comps.now) = subst (λ (v : Counts). CountsFit (added v i c.args.comps.now)) (sym c.self.view_is) c.requires.fits.4 in
    let long = c.requires.components ∙ ap (λ (v : Counts). length v.comp_counts) (sym c.self.view_is) in
    let same : length c.args.comps.now ≡ length first.comp_counts = c.requires.comps ∙ ap (λ (v : Counts). length v.comp_counts) (sym c.self.view_is) in
    rw c.deref_mut-2.ensures.value
    (counted_comps_fit i c.args.comp_counts.now c.args.events c.requires.fits.3 first.comp_counts long
    (comp_fits i first c.args.comps.now same fits))

pub overflow_add-self : goal.overflow_add-self
unfolding added
overflow_add-self c =
    let i : Interval = c.requires.fits.0 in
    let fits : c.args.self.now.accesses + length i.entries < 2 ^ 64 = c.requires.fits.4.accesses in
    let was : c.self.inside.accesses ≡ c.args.self.now.accesses = ap (λ (v : Counts). v.accesses) c.self.view_is in
    let many : c.args.accesses ≡ length i.entries = c.requires.fits.1.count in
    omega arith

pub overflow_add-self-2 : goal.overflow_add-self-2
unfolding added
overflow_add-self-2 c =
    let i : Interval = c.requires.fits.0 in
    let fits : c.args.self.now.events + length i.events < 2 ^ 64 = c.requires.fits.4.events in
    let was : c.self.inside.events ≡ c.args.self.now.events = ap (λ (v : Counts). v.events) c.self.view_is in
    let many : c.args.events ≡ length i.events = c.requires.fits.3.count in
    omega arith

pub returns : goal.returns
returns c = λ i accessed delays counted.
    let first : Counts = record { core_counts = c.self.inside.core_counts.items; comp_counts = c.self.inside.comp_counts.items; accesses = c.self.inside.accesses; events = c.self.inside.events } in
    let comps : List Comp = c.args.comps.now in
    let same : length comps ≡ length first.comp_counts = c.requires.comps ∙ ap (λ (v : Counts). length v.comp_counts) (sym c.self.view_is) in
    let cores_many = c.requires.cores ∙ ap (λ (v : Counts). length v.core_counts) (sym c.self.view_is) in
    let comps_many = c.requires.components ∙ ap (λ (v : Counts). length v.comp_counts) (sym c.self.view_is) in
    let long : length c.add_counted_cores.new.counts ≡ length first.core_counts = c.add_counted_cores.auto.counts ∙ ap length c.deref_mut.ensures.value in
    let as_long : length c.add_counted_comps.new.counts ≡ length first.comp_counts = c.add_counted_comps.auto.counts ∙ ap length c.deref_mut-2.ensures.value in
    let cores = rw (c.deref_mut.ensures.value, c.as_slice.ensures) at c.add_counted_cores.ensures in
    let comps_now = rw (c.deref_mut-2.ensures.value, c.as_slice-2.ensures) at c.add_counted_comps.ensures in
    let cores_are : (with_items c.self.inside.core_counts c.add_counted_cores.new.counts).items ≡ c.add_counted_cores.new.counts = with_items_is c.self.inside.core_counts c.add_counted_cores.new.counts (omega (arith, long, c.self.inside.core_counts.ok.0)) in
    let comps_are : (with_items c.self.inside.comp_counts c.add_counted_comps.new.counts).items ≡ c.add_counted_comps.new.counts = with_items_is c.self.inside.comp_counts c.add_counted_comps.new.counts (omega (arith, as_long, c.self.inside.comp_counts.ok.0)) in
    rw (cores_are, comps_are, accessed.count, counted.count)
    (counts_added i first c.add_counted_cores.new.counts c.add_counted_comps.new.counts comps
    long (cores_at_once i c.args.core_counts.now c.args.accesses accessed c.args.delays.now delays first.core_counts cores_many c.add_counted_cores.new.counts cores)
    as_long same (comps_at_once i c.args.comp_counts.now c.args.events counted first.comp_counts comps_many c.add_counted_comps.new.counts comps comps_now)
    ∙ ap (λ (v : Counts). added v i comps) c.self.view_is)
