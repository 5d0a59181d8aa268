use Rattle.std.proofs.Common.{All, ◌≡◌, ◌<◌, ◌+◌, ◌^◌, ℕ, Vec, Global, Option, List, [], ◌++◌, append-nil, length, map, refl, sym, ◌∙◌, ap, subst, arith, rules}
use Rattle.std.specs.Prelude.{IfSome}
use Rattle.std.specs.List.{remove}
use Rattle.std.proofs.lemmas.List.{length-append, length-map}
use Rattle.access_log.specs.Schedule.{ScheduleState}
use Rattle.access_record.specs.Unordered.{order_of}
use Rattle.bound_workers.specs.declared.ordering.Ordering.{Ordering}
use Rattle.run.specs.Waiting.{IsTurnList, lists_in}
use Rattle.run.proofs.Handed.{IsTold, first_list, first_told, handed, lists_of, nil_of, rest_lists, rest_told}
use Rattle.run.proofs.waiting.Waiting.hand_over.Goals as goal

pub push-requires : goal.push-requires
push-requires c =
    let before = c.loop-self.invariant in
    let orders : List Ordering = c.loop-self.self.orders.items in
    let x = c.remove-unordered.result in
    let some : 0 < length orders = search rules in
    let own : c.in-Some.list.items ≡ order_of x.unordered =
    subst (λ o. IfSome o (λ list. list.items ≡ order_of x.unordered)) c.in-Some.is (first_told orders x c.in-Some.list.items some c.remove-unordered.ensures.value before.told)
    in
    let turns : IsTurnList c.args.schedule.now.cores c.in-Some.list.items =
    subst (IsTurnList c.args.schedule.now.cores) (sym own) (first_list (IsTurnList c.args.schedule.now.cores) orders x some c.remove-unordered.ensures.value before.turns)
    in
    let short = turns.short in
    record {
      cores = subst (λ (n : ℕ). All (λ (core : ℕ). core < n) c.in-Some.list.items) (sym before.cores) turns.known;
      count = omega (arith, short, c.in-Some.list.ok.0);
      room = omega (arith, before.room, some, length-map orders (λ (o : Ordering). order_of o.unordered));
    }

pub loop-self-preserved : goal.loop-self-preserved
loop-self-preserved c =
    let before = c.loop-self.invariant in
    let orders : List Ordering = c.loop-self.self.orders.items in
    let x = c.remove-unordered.result in
    let some : 0 < length orders = search rules in
    let own : c.in-Some.list.items ≡ order_of x.unordered =
    subst (λ o. IfSome o (λ list. list.items ≡ order_of x.unordered)) c.in-Some.is (first_told orders x c.in-Some.list.items some c.remove-unordered.ensures.value before.told)
    in
    let lists : List (List ℕ) = c.loop-self.schedule.lists in
    let now : List (List ℕ) = c.push.new.self.lists in
    let whole : List (List ℕ) = c.args.schedule.now.lists ++ lists_in c.args.self.now in
    let same : c.keep.new.self.orders.items ≡ remove orders 0 = ap (λ (v : Vec Ordering Global). v.items) c.keep.ensures ∙ c.remove-unordered.ensures.items in
    let gained : now ++ lists_of (remove orders 0) ≡ whole =
    handed orders x lists now whole c.in-Some.list.items some c.remove-unordered.ensures.value own c.in_ok-push.ensures.ok before.lists
    in
    let long = ap length gained in
    let was = ap length before.lists in
    let fits : length now + length (lists_of (remove orders 0)) < 2 ^ 32 =
    omega (arith, long, was, before.room, length-append now (lists_of (remove orders 0)), length-append lists (lists_of orders))
    in
    record {
      lists = subst (λ (os : List Ordering). now ++ lists_of os ≡ whole) (sym same) gained;
      told = subst (All IsTold) (sym same) (rest_told orders before.told);
      turns = subst (λ (os : List Ordering). All (IsTurnList c.args.schedule.now.cores) (lists_of os)) (sym same) (rest_lists (IsTurnList c.args.schedule.now.cores) orders before.turns);
      room = subst (λ (os : List Ordering). length now + length (lists_of os) < 2 ^ 32) (sym same) fits;
      cores = c.push.ensures.cores ∙ before.cores;
    }

pub returns : goal.returns
returns c =
    let before = c.loop-self.invariant in
    let zero : length c.loop-self.self.orders.items ≡ 0 = search rules in
    let none : c.loop-self.self.orders.items ≡ [] = nil_of c.loop-self.self.orders.items zero in
    let lists : List (List ℕ) = c.loop-self.schedule.lists in
    record {
      cores = before.cores;
      none = none;
      told = sym (append-nil lists) ∙ (ap (λ (os : List Ordering). lists ++ lists_of os) (sym none) ∙ before.lists);
      part = record { rest = lists_in c.loop-self.self; are = before.lists };
    }

pub returns-in_err-keep-clause-part : goal.returns-in_err-keep-clause-part
returns-in_err-keep-clause-part c =
    let before = c.loop-self.invariant in
    let orders : List Ordering = c.loop-self.self.orders.items in
    let x = c.remove-unordered.result in
    let some : 0 < length orders = search rules in
    let own : c.in-Some.list.items ≡ order_of x.unordered =
    subst (λ o. IfSome o (λ list. list.items ≡ order_of x.unordered)) c.in-Some.is (first_told orders x c.in-Some.list.items some c.remove-unordered.ensures.value before.told)
    in
    let whole : List (List ℕ) = c.args.schedule.now.lists ++ lists_in c.args.self.now in
    record {
      rest = lists_of (remove orders 0);
      are = handed orders x c.loop-self.schedule.lists c.push.new.self.lists whole c.in-Some.list.items some c.remove-unordered.ensures.value own c.in_ok-push.ensures.ok before.lists;
    }
