use Rattle.std.proofs.Common.{All, ◌≡◌, ◌<◌, ◌+◌, ◌^◌, ℕ, List, [], ◌++◌, append-nil, get_or, length, map, refl, sym, ◌∙◌, ap, subst, arith, rules}
use Rattle.std.specs.Prelude.{OnOk}
use Rattle.bound_workers.specs.Orderings.{HasOrdered}
use Rattle.bound_workers.specs.declared.ordering.Ordering.{Ordering}
use Rattle.run.specs.Waiting.{IsFirstPart, IsTurnList, lists_in}
use Rattle.run.proofs.Handed.{all_told, lists_of, nil_of, same_lists}
use Rattle.run.proofs.waiting.Waiting.tell.Goals as goal

pub hand_over-requires : goal.hand_over-requires
hand_over-requires g c =
    let before : List Ordering = c.args.self.now.orders.items in
    let after : List Ordering = c.tell_all.new.orders.items in
    let long : length after ≡ length before = omega (arith, c.in_ok-tell_all.ensures.count, c.args.self.now.orders.ok.0, c.tell_all.new.orders.ok.0) in
    let told : (i : ℕ) (d : Ordering) → i < length before → HasOrdered (get_or before i d) (get_or after i d) = λ i d below. c.in_ok-tell_all.ensures.told i d (omega (arith, below, c.args.self.now.orders.ok.0)) in
    let same : lists_of after ≡ lists_of before = same_lists before after long told in
    record {
      told = all_told before after long told;
      lists = subst (All (IsTurnList c.args.schedule.now.cores)) (sym same) c.requires.lists;
      room = subst (λ (ls : List (List ℕ)). length c.args.schedule.now.lists + length ls < 2 ^ 32) (sym same) c.requires.room;
    }

pub returns-clause-told : goal.returns-clause-told
returns-clause-told g c =
    let before : List Ordering = c.args.self.now.orders.items in
    let after : List Ordering = c.tell_all.new.orders.items in
    let long : length after ≡ length before = omega (arith, c.in_ok-tell_all.ensures.count, c.args.self.now.orders.ok.0, c.tell_all.new.orders.ok.0) in
    let same : lists_of after ≡ lists_of before = same_lists before after long (λ i d below. c.in_ok-tell_all.ensures.told i d (omega (arith, below, c.args.self.now.orders.ok.0))) in
    subst (λ (ls : List (List ℕ)). OnOk c.hand_over.result (c.hand_over.new.schedule.lists ≡ c.args.schedule.now.lists ++ ls)) same c.hand_over.ensures.told

pub returns-clause-part : goal.returns-clause-part
returns-clause-part g c =
    let before : List Ordering = c.args.self.now.orders.items in
    let after : List Ordering = c.tell_all.new.orders.items in
    let long : length after ≡ length before = omega (arith, c.in_ok-tell_all.ensures.count, c.args.self.now.orders.ok.0, c.tell_all.new.orders.ok.0) in
    let same : lists_of after ≡ lists_of before = same_lists before after long (λ i d below. c.in_ok-tell_all.ensures.told i d (omega (arith, below, c.args.self.now.orders.ok.0))) in
    subst (λ (ls : List (List ℕ)). IsFirstPart c.hand_over.new.schedule.lists (c.args.schedule.now.lists ++ ls)) same c.hand_over.ensures.part

pub returns-in_err-tell_all-clause-part : goal.returns-in_err-tell_all-clause-part
returns-in_err-tell_all-clause-part g c = record { rest = lists_in c.args.self.now; are = refl }

pub returns-then-is_empty-clause-told : goal.returns-then-is_empty-clause-told
returns-then-is_empty-clause-told g c =
    let zero : length c.args.self.now.orders.items ≡ 0 = search rules in
    let none : c.args.self.now.orders.items ≡ [] = nil_of c.args.self.now.orders.items zero in
    let lists : List (List ℕ) = c.args.schedule.now.lists in
    sym (append-nil lists) ∙ ap (λ (os : List Ordering). lists ++ lists_of os) (sym none)

pub returns-then-is_empty-clause-part : goal.returns-then-is_empty-clause-part
returns-then-is_empty-clause-part g c = record { rest = lists_in c.args.self.now; are = refl }
