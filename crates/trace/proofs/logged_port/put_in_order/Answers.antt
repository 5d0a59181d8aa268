-- No two accesses have the same stamp and core, so what climbs by these is the recorded order.
use Rattle.std.proofs.Common.{◌≡◌, ◌≤◌, ◌<◌, ◌+◌, ℕ, false, List, length, get_or, is_lt, nat_cmp, subst, sym, rules, arith}
use Rattle.std.proofs.lemmas.Bool.Decides.{nat_tests}
use Rattle.std.proofs.lemmas.List.Sorted.{answers_always}
use Rattle.std.specs.Ordering.{ordering_then}
use Rattle.zs_num.specs.declared.entry.Entry.{Entry}
use Rattle.access_log.specs.RecordedOrder.{comes_before}
use Rattle.access_log.proofs.Order.{climbs_from_neighbours, is_recorded_order}
use Rattle.access_log.specs.Laws.{Climbs}
use Rattle.trace.proofs.Rising.{rising_recorded}
use Rattle.trace.proofs.logged_port.put_in_order.Goals as goal

not_before : (a b : Entry) → is_lt (ordering_then (nat_cmp a.stamp b.stamp) (nat_cmp a.core b.core)) ≡ false → comes_before a b ≡ false
not_before a b h = grind (arith, nat_tests)

climbs : (es : List Entry) → ((k : ℕ) (d : Entry) → 0 ≤ k → k + 1 < length es
    → is_lt (ordering_then (nat_cmp (get_or es (k + 1) d).stamp (get_or es k d).stamp) (nat_cmp (get_or es (k + 1) d).core (get_or es k d).core)) ≡ false) → Climbs es
climbs es h = climbs_from_neighbours es (λ k next d is below.
    subst (λ n. comes_before (get_or es n d) (get_or es k d) ≡ false) (sym is)
    (not_before (get_or es (k + 1) d) (get_or es k d) (h k d (omega arith) (omega (arith, is, below)))))

pub returns-then-rises : goal.returns-then-rises
returns-then-rises c = sym (rising_recorded 0 c.args.entries.now.items (c.requires.rising (search rules)))

pub returns : goal.returns
returns c =
    let after = c.sort_by_key.new.self.items in
    let sorted = c.in_ok-sort_by_key.ensures.sorted (λ e. (e.stamp, e.core)) (answers_always _ _ _ (λ f a r g h. search rules)) in
    is_recorded_order c.args.entries.now.items after c.requires.keys c.in_ok-sort_by_key.ensures.permutation (climbs after sorted)
