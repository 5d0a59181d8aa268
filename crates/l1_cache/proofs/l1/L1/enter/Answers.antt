use Rattle.std.proofs.Common.{ℕ, false, get_or, Some, refl, sym, ap, ◌∙◌, arith}
use Rattle.std.specs.Prelude.{option_map}
use Rattle.std.proofs.lemmas.List.{get_or-set_same, length-set}
use Rattle.cache_set.specs.declared.letter.Letter.{Letter}
use Rattle.l1_cache.specs.L1State.{Copy}
use Rattle.l1_cache.specs.Layout.{l1_view, no_kept}
use Rattle.l1_cache.proofs.Copies.{kept_read}
use Rattle.l1_cache.proofs.Entered.{closed_there, entered, its_bytes}
use Rattle.l1_cache.specs.declared.near.Kept.{Kept}
use Rattle.l1_cache.proofs.Table.{near_as, tags_as}
use Rattle.l1_cache.proofs.Views.{aged_after, evicts_none, evicts_this, filled_now, near_taken, next_small, stands_filled}
use Rattle.l1_cache.proofs.l1.L1.enter.Goals as goal
use Rattle.l1_cache.proofs.l1.L1.enter.Goals.{then-entered, else-entered}

pub near_of-requires : goal.near_of-requires
near_of-requires c = next_small c.self.invariant c.args.line c.enter-entered.ensures.entered.put.anew c.enter-entered.result.place c.enter-entered.ensures.entered.put.next

pub invariant_of-self : goal.invariant_of-self
invariant_of-self c =
    let was = c.self.invariant in
    let w = c.self.inside.ways in
    let line = c.args.line in
    let p = c.enter-entered.result.place in
    let age = c.enter-entered.new.self.tick in
    let put = c.enter-entered.ensures.entered.put in
    let k : Kept = record { letter = c.args.letter; free = false } in
    let absent = rw (← c.self.view_is) at c.requires in
    let sets = c.enter-entered.ensures.sets in
    let ways = c.enter-entered.ensures.ways in
    record {
      ways = record {
        shards_are = was.ways.shards_are;
        sets_are = rw sets was.ways.sets_are;
        tags = tags_as sets ways put.ages_are put.tags_are
            (record { few = was.ways.tags.few; some = was.ways.tags.some; early = put.early; aged = aged_after was line p age put.anew put.order put.long put.later put.next absent });
        kept_are = rw (sets, ways) (length-set w.kept.items p k ∙ was.ways.kept_are);
        mask_is = was.ways.mask_is;
        near = near_as sets ways put.ages_are put.tags_are
            (rw c.near_of.ensures
            (near_taken was line p age put.anew put.order put.long put.later put.next k c.enter-entered.result.had c.enter-entered.ensures.had c.near_index-left.result c.near_index-left.ensures.value c.near_index.result c.near_index.ensures.value));
      };
      bytes_are = rw (sets, ways) was.bytes_are;
      instructions = was.instructions;
    }

pub returns-clause-victim : goal.returns-clause-victim
returns-clause-victim c =
    let was = c.self.invariant in
    let w = c.self.inside.ways in
    let line = c.args.line in
    let p = c.enter-entered.result.place in
    let age = c.enter-entered.new.self.tick in
    let entered = c.enter-entered.ensures.entered in
    let put = entered.put in
    let kept = kept_read w.kept.items p c.index.result.now (omega (arith, c.enter-entered.ensures.within, was.ways.kept_are)) c.index.ensures in
    let its : ℕ × Copy → ℕ × Letter = λ (victim : ℕ × Copy). (victim.0, victim.1.letter) in
    rw (← c.self.view_is)
    (elim c.if-entered.branch [
      | then-entered b ↦ b.result-is
          ∙ sym (ap (option_map its) (evicts_this was line p age put.anew put.order put.long put.later put.next (entered.live_was b.if-entered.true))
          ∙ (ap (λ (t : ℕ). Some (t, (get_or w.kept.items p no_kept).letter)) c.enter-entered.ensures.had ∙ ap (λ (k : Kept). Some (c.enter-entered.result.had, k.letter)) kept))
      | else-entered b ↦ b.result-is ∙ sym (ap (option_map its) (evicts_none was line p age put.anew put.order put.long put.later put.next (entered.free_was b.if-entered.false)))
    ])

pub returns-clause-after : goal.returns-clause-after
returns-clause-after c =
    let was = c.self.invariant in
    let w = c.self.inside.ways in
    let line = c.args.line in
    let p = c.enter-entered.result.place in
    let age = c.enter-entered.new.self.tick in
    let is = c.enter-entered.ensures.entered in
    let put = is.put in
    let k : Kept = record { letter = c.args.letter; free = false } in
    let sets = c.enter-entered.ensures.sets in
    let ways = c.enter-entered.ensures.ways in
    rw (← c.self.view_is)
    (entered (invariant_of-self c) (l1_view w c.self.inside.bytes.items c.self.inside.instructions) line p c.args.letter
    (rw (sets, ways, put.ages_are, put.tags_are) (stands_filled was line p age put.anew put.order put.long put.later put.next))
    (get_or-set_same w.kept.items p k no_kept (omega (arith, c.enter-entered.ensures.within, was.ways.kept_are)))
    (λ b. rw (sets, ways, put.ages_are, put.tags_are) (filled_now was line p age put.anew put.order put.long put.later put.next k b b refl))
    (its_bytes _ c.enter-entered.result.evicts _ _ _ is.live_was is.free_was (evicts_this was line p age put.anew put.order put.long put.later put.next) (evicts_none was line p age put.anew put.order put.long put.later put.next)))

pub returns-clause-closed : goal.returns-clause-closed
returns-clause-closed c =
    let was = c.self.invariant in
    let w = c.self.inside.ways in
    let line = c.args.line in
    let p = c.enter-entered.result.place in
    let age = c.enter-entered.new.self.tick in
    let put = c.enter-entered.ensures.entered.put in
    let k : Kept = record { letter = c.args.letter; free = false } in
    let sets = c.enter-entered.ensures.sets in
    let ways = c.enter-entered.ensures.ways in
    closed_there (invariant_of-self c) line p k
    (rw (sets, ways, put.ages_are, put.tags_are) (stands_filled was line p age put.anew put.order put.long put.later put.next))
    (get_or-set_same w.kept.items p k no_kept (omega (arith, c.enter-entered.ensures.within, was.ways.kept_are))) refl
