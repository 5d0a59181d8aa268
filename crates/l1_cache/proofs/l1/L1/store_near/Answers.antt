use Rattle.std.proofs.Common.{◌≡◌, ℕ, ◌/◌, ◌%◌, Bool, List, [], true, sym, ap, ◌∙◌, arith}
use Rattle.std.proofs.lemmas.List.{length-set}
use Rattle.flat_memory.specs.FlatMemory.{with_number}
use Rattle.cache_set.specs.declared.letter.Letter.TheVariants.{M}
use Rattle.cache_set.proofs.SetsInArrays.{all_past}
use Rattle.l1_cache.specs.declared.data_ways.DataWays.{DataWays}
use Rattle.l1_cache.specs.declared.l1i.InstructionWays.{InstructionWays}
use Rattle.l1_cache.specs.L1State.{L1State, is_private, kept_first_in}
use Rattle.zs_num.specs.declared.request.Request.TheVariants.{Store}
use Rattle.l1_cache.specs.Layout.{AreParts, HasAt, l1_view, no_kept}
use Rattle.l1_cache.proofs.Copies.{bytes_read}
use Rattle.l1_cache.proofs.Private.{store_after, store_by, store_reply}
use Rattle.l1_cache.proofs.Views.{aged_then, at_written, copy_there, near_then, parts_written, within, written}
use Rattle.std.proofs.Common.{get_or}
use Rattle.l1_cache.proofs.l1.L1.store_near.Goals as goal

pub next_age-age-requires-clause-past : goal.next_age-age-requires-clause-past
next_age-age-requires-clause-past g c = all_past c.in_ok-place.ensures.ways.tags.aged

pub invariant_of-self-2 : goal.invariant_of-self-2
invariant_of-self-2 g c =
    let was = c.self.invariant in
    let ways = c.in_ok-place.ensures.ways in
    let same = c.in_ok-place.ensures.same in
    let line = c.args.addr / 64 in
    let p = c.in_ok-place.place in
    let now = parts_written was ways same in
    let at = at_written was ways same line p c.in_ok-place.ensures.here in
    rw (c.next_age-age.ensures.tick)
    (record {
      ways = record {
        shards_are = ways.shards_are;
        sets_are = ways.sets_are;
        tags = record {
          few = ways.tags.few;
          some = ways.tags.some;
          early = c.next_age-age.ensures.early;
          aged = aged_then now line p at c.next_age-age.result c.next_age-age.new.ages.items c.next_age-age.ensures.order c.next_age-age.ensures.all c.next_age-age.ensures.later;
        };
        kept_are = ways.kept_are;
        mask_is = ways.mask_is;
        near = near_then now line p at c.next_age-age.result c.next_age-age.new.ages.items c.next_age-age.ensures.order c.next_age-age.ensures.all c.next_age-age.ensures.later;
      };
      bytes_are = length-set c.self.inside.bytes.items p c.write.new.bytes ∙ now.bytes_are;
      instructions = now.instructions;
    })

may : {w : DataWays} {bytes : List (List ℕ)} {l1i : InstructionWays} (parts : AreParts w bytes l1i) (addr width value p : ℕ) → HasAt w (addr / 64) p → (get_or w.kept.items p no_kept).free ≡ true
    → is_private (l1_view w bytes l1i) (Store width addr value) ≡ true
may parts addr width value p at free = store_by _ addr width value _ (copy_there parts (addr / 64) p at) ∙ free

pub returns-clause-private : goal.returns-clause-private
returns-clause-private g c =
    rw (← c.self.view_is) (may c.self.invariant c.args.addr c.args.width c.args.value c.in_ok-place.place c.in_ok-place.ensures.here c.in_ok-place.ensures.free)

pub returns-clause-reply : goal.returns-clause-reply
returns-clause-reply g c = rw (← c.self.view_is) (sym (store_reply _ c.args.addr c.args.width c.args.value))

pub returns-clause-after : goal.returns-clause-after
returns-clause-after g c =
    let was = c.self.invariant in
    let ways = c.in_ok-place.ensures.ways in
    let same = c.in_ok-place.ensures.same in
    let line = c.args.addr / 64 in
    let p = c.in_ok-place.place in
    let here = c.in_ok-place.ensures.here in
    let free = c.in_ok-place.ensures.free in
    let below = within was line p here in
    let view : L1State = l1_view c.self.inside.ways c.self.inside.bytes.items c.self.inside.instructions in
    let read = bytes_read c.self.inside.bytes.items p c.index_mut-2.result.now (omega (arith, below, was.bytes_are)) c.index_mut-2.ensures.value in
    let b : c.write.new.bytes ≡ with_number (get_or c.self.inside.bytes.items p []) (c.args.addr % 64) c.args.width c.args.value
    = c.write.ensures.value ∙ ap (λ (l : List ℕ). with_number l (c.args.addr % 64) c.args.width c.args.value) (sym read) in
    rw (← c.self.view_is)
    (written was ways same line p c.next_age-age.result c.next_age-age.new.ages.items c.write.new.bytes here c.in_ok-place.ensures.kept c.next_age-age.ensures.order c.next_age-age.ensures.all c.next_age-age.ensures.later
    ∙ (ap (λ (l : List ℕ). kept_first_in line (record { letter = M; free = true; bytes = l }) view) b
    ∙ (ap (λ (f : Bool). kept_first_in line (record { letter = M; free = f; bytes = with_number (get_or c.self.inside.bytes.items p []) (c.args.addr % 64) c.args.width c.args.value }) view) (sym free)
    ∙ sym (store_after view c.args.addr c.args.width c.args.value _ (copy_there was line p here)))))
