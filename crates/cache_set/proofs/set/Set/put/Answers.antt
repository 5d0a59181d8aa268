use Rattle.std.proofs.Common.{ℕ, ◌<◌, List, get_or, sym, ap, ◌∙◌, arith}
use Rattle.cache_set.proofs.Rows.{oldest_here, rows_next, within_here, none_from_IsNone, put_rows, put_victim, put_ways, way_here}
use Rattle.cache_set.proofs.set.Set.put.Goals as goal

pub invariant_of-self : goal.invariant_of-self
invariant_of-self c =
    let i : ℕ = c.next_place-at.result in
    let absent = rw (← c.self.view_is) at c.requires in
    let later : (j : ℕ) → j < c.self.inside.ways → get_or c.next_age-age.new.ages.items j 0 < c.next_age-age.result
    = λ j l. c.next_age-age.ensures.later j (omega (arith, l, c.self.invariant.aged.ages_are)) in
    let long = (rows_next c.self.invariant c.next_age-age.result c.next_age-age.new.ages.items c.next_age-age.ensures.order later c.next_age-age.ensures.early).aged.ages_are in
    let within : i < c.self.inside.ways = within_here i c.self.inside.ways c.deref.ensures.value long c.next_place-at.ensures.within in
    let oldest = oldest_here i c.self.inside.ways c.deref.ensures.value long c.next_place-at.ensures.oldest in
    rw (c.next_age-age.ensures.tick)
    (put_rows c.self.invariant c.next_age-age.result c.next_age-age.new.ages.items c.next_age-age.ensures.order later c.next_age-age.ensures.early i within oldest c.args.line c.args.mark (none_from_IsNone absent))

pub returns-clause-victim : goal.returns-clause-victim
returns-clause-victim c =
    let i : ℕ = c.next_place-at.result in
    let later : (j : ℕ) → j < c.self.inside.ways → get_or c.next_age-age.new.ages.items j 0 < c.next_age-age.result
    = λ j l. c.next_age-age.ensures.later j (omega (arith, l, c.self.invariant.aged.ages_are)) in
    let long = (rows_next c.self.invariant c.next_age-age.result c.next_age-age.new.ages.items c.next_age-age.ensures.order later c.next_age-age.ensures.early).aged.ages_are in
    let within : i < c.self.inside.ways = within_here i c.self.inside.ways c.deref.ensures.value long c.next_place-at.ensures.within in
    let oldest = oldest_here i c.self.inside.ways c.deref.ensures.value long c.next_place-at.ensures.oldest in
    let is = c.way_at-victim.ensures ∙ way_here i c.deref-2.ensures.value c.deref-3.ensures.value c.deref-4.ensures.value in
    rw (← c.self.view_is)
    (is ∙ sym (put_victim c.self.invariant c.next_age-age.result c.next_age-age.new.ages.items c.next_age-age.ensures.order later c.next_age-age.ensures.early i within oldest c.args.line c.args.mark))

pub returns-clause-after : goal.returns-clause-after
returns-clause-after c =
    let i : ℕ = c.next_place-at.result in
    let later : (j : ℕ) → j < c.self.inside.ways → get_or c.next_age-age.new.ages.items j 0 < c.next_age-age.result
    = λ j l. c.next_age-age.ensures.later j (omega (arith, l, c.self.invariant.aged.ages_are)) in
    let long = (rows_next c.self.invariant c.next_age-age.result c.next_age-age.new.ages.items c.next_age-age.ensures.order later c.next_age-age.ensures.early).aged.ages_are in
    let within : i < c.self.inside.ways = within_here i c.self.inside.ways c.deref.ensures.value long c.next_place-at.ensures.within in
    let oldest = oldest_here i c.self.inside.ways c.deref.ensures.value long c.next_place-at.ensures.oldest in
    let e = put_ways c.self.invariant c.next_age-age.result c.next_age-age.new.ages.items c.next_age-age.ensures.order later c.next_age-age.ensures.early i within oldest c.args.line c.args.mark in
    rw (← c.self.view_is) (ap (λ (es : List (ℕ × ℕ)). record { ways = c.self.inside.ways; list = es }) e)
