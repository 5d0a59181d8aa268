use Rattle.std.proofs.Common.{ℕ, ◌<◌, sym, ◌∙◌}
use Rattle.cache_set.proofs.Rows.{full_is, oldest_here, victim_is, way_here, within_here}
use Rattle.cache_set.proofs.set.Set.last_if_full.Goals as goal

pub returns-clause-way : goal.returns-clause-way
returns-clause-way c =
    let i : ℕ = c.next_place-last.result in
    let within : i < c.self.inside.ways = within_here i c.self.inside.ways c.deref.ensures.value c.self.invariant.aged.ages_are c.next_place-last.ensures.within in
    let oldest = oldest_here i c.self.inside.ways c.deref.ensures.value c.self.invariant.aged.ages_are c.next_place-last.ensures.oldest in
    let is = c.way_at.ensures ∙ way_here i c.deref-2.ensures.value c.deref-3.ensures.value c.deref-4.ensures.value in
    rw (← c.self.view_is) (is ∙ sym (victim_is c.self.invariant i within oldest))

pub returns-clause-full : goal.returns-clause-full
returns-clause-full c =
    let i : ℕ = c.next_place-last.result in
    let within : i < c.self.inside.ways = within_here i c.self.inside.ways c.deref.ensures.value c.self.invariant.aged.ages_are c.next_place-last.ensures.within in
    let oldest = oldest_here i c.self.inside.ways c.deref.ensures.value c.self.invariant.aged.ages_are c.next_place-last.ensures.oldest in
    let is = c.way_at.ensures ∙ way_here i c.deref-2.ensures.value c.deref-3.ensures.value c.deref-4.ensures.value in
    rw (← c.self.view_is, is) (full_is c.self.invariant i within oldest)
