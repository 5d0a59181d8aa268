use Rattle.std.proofs.Common.{ℕ, ◌+◌, ◌-◌, ◌*◌, ◌≡◌, List, Some, sym, ap, ap₂, ◌∙◌, subst, arith}
use Rattle.cache_set.specs.Lines.{in_set_of, set_of}
use Rattle.cache_set.specs.Ways.{filled, kept_of, victim_of}
use Rattle.std.specs.Prelude.{option_map}
use Rattle.home.specs.HomeState.{HomeLine, brought_in, nobody, row_at}
use Rattle.home.specs.Rows.{evicted_in, line_in}
use Rattle.home.proofs.Homes.{absent, age_later, filled_there, home_anew, home_filled, home_with, lists_anew, no_victim, the_victim}
use Rattle.cache_set.specs.Places.{set_number_in}
use Rattle.home.specs.Layout.{IsRemembered, row_place}
use Rattle.home.proofs.KnownWays.{known_entered}
use Rattle.home.proofs.home.Home.enter.Goals as goal
use Rattle.home.proofs.home.Home.enter.Goals.{then-entered, else-entered}

pub invariant_of-self : goal.invariant_of-self
unfolding row_at
invariant_of-self c =
    let was = c.self.invariant in
    let put = c.enter-entered.ensures.entered.put in
    let age = c.enter-entered.new.self.tick in
    let now = home_anew was age put.anew put.order put.long put.later put.early in
    let lacks = rw (← c.self.view_is) at c.requires in
    let none = ap (λ (sets : List (List (ℕ × HomeLine))). kept_of c.args.line (set_of c.self.inside.met.dealt.shards c.args.line sets)) (lists_anew was age put.anew put.order put.long put.later put.early) ∙ lacks in
    let entered = c.enter-entered.ensures.entered in
    let p = c.enter-entered.result.place in
    let s = c.self.inside in
    let way : c.enter-entered.result.way ≡ p - set_number_in s.met.dealt.shards s.ways.sets c.args.line * s.ways.ways = omega (arith, c.enter-entered.ensures.place) in
    let is = subst (λ (w : ℕ). IsRemembered s.met.dealt.number s.met.dealt.shards s.met.dealt.below c.args.line (w + 1) c.enter-entered.result.evicts c.enter-entered.result.had s.met.known.items c.remember.new.self.known.items) way c.remember.ensures.known in
    let known = known_entered now.ways_are.aged now.sets_are.0 now.known_are c.args.line p age put.next (absent now c.args.line p put.next none) (omega (arith, age_later was age put.anew put.order put.long put.later put.early))
    c.enter-entered.result.evicts c.enter-entered.result.had c.remember.new.self.known.items entered.live_was entered.free_was c.enter-entered.ensures.had is in
    let is_row = c.row_place-place.ensures ∙ ap₂ (λ (sets ways : ℕ). row_place sets ways c.enter-entered.result.place) c.enter-entered.ensures.sets c.enter-entered.ensures.ways in
    rw (c.remember.ensures.dealt, c.enter-entered.ensures.sets, c.enter-entered.ensures.ways, put.ages_are, put.tags_are, c.put.ensures.value)
    (home_filled now c.args.line p put.next age c.row_place-place.result c.nobody.result c.remember.new.self.known.items is_row (age_later was age put.anew put.order put.long put.later put.early) put.early none known)

pub returns-clause-after : goal.returns-clause-after
unfolding brought_in
returns-clause-after c =
    let was = c.self.invariant in
    let put = c.enter-entered.ensures.entered.put in
    let age = c.enter-entered.new.self.tick in
    let now = home_anew was age put.anew put.order put.long put.later put.early in
    let s = c.self.inside in
    let is_row = c.row_place-place.ensures ∙ ap₂ (λ (sets ways : ℕ). row_place sets ways c.enter-entered.result.place) c.enter-entered.ensures.sets c.enter-entered.ensures.ways in
    rw (← c.self.view_is, c.remember.ensures.dealt, c.enter-entered.ensures.sets, c.enter-entered.ensures.ways, put.ages_are, put.tags_are, c.put.ensures.value)
    (ap (home_with s.met.dealt.number s.met.dealt.shards s.base s.size s.ways.ways s.bytes s.marks)
    (filled_there now c.args.line c.enter-entered.result.place put.next age c.row_place-place.result c.nobody.result is_row (age_later was age put.anew put.order put.long put.later put.early) c.nobody.ensures
    ∙ ap (in_set_of s.met.dealt.shards c.args.line (filled s.ways.ways c.args.line nobody)) (lists_anew was age put.anew put.order put.long put.later put.early)))

pub returns-clause-evicted : goal.returns-clause-evicted
returns-clause-evicted c =
    let was = c.self.invariant in
    let entered = c.enter-entered.ensures.entered in
    let put = entered.put in
    let age = c.enter-entered.new.self.tick in
    let p = c.enter-entered.result.place in
    let s = c.self.inside in
    let row = c.at-row.result.now in
    let now = home_anew was age put.anew put.order put.long put.later put.early in
    let same = ap (λ (sets : List (List (ℕ × HomeLine))). victim_of s.ways.ways (set_of s.met.dealt.shards c.args.line sets)) (sym (lists_anew was age put.anew put.order put.long put.later put.early)) in
    let is_row = c.row_place-place.ensures ∙ ap₂ (λ (sets ways : ℕ). row_place sets ways c.enter-entered.result.place) c.enter-entered.ensures.sets c.enter-entered.ensures.ways in
    rw (← c.self.view_is)
    (elim c.if-entered.branch [
      | then-entered w ↦ ap (option_map evicted_in) w.result-is
          ∙ sym (same ∙ (the_victim now c.args.line p put.next c.row_place-place.result is_row row c.at-row.ensures (entered.live_was w.if-entered.true) ∙ ap (λ (tag : ℕ). Some (tag, line_in row)) c.enter-entered.ensures.had))
      | else-entered w ↦ ap (option_map evicted_in) w.result-is ∙ sym (same ∙ no_victim now c.args.line p put.next (entered.free_was w.if-entered.false))
    ])
