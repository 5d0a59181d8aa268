-- Orders that are handed to the schedule, the first one first.
use Rattle.std.proofs.Common.{All, ◌≡◌, ◌<◌, ℕ, zero, suc, ◌+◌, Option, Some, List, [], ◌∷◌, ◌++◌, append-nil, append_assoc, get_or, length, map, refl, sym, ◌∙◌, ap, subst, arith}
use Rattle.std.specs.Prelude.{Err, IfSome, Ok, OnOk, Result}
use Rattle.std.specs.List.{remove}
use Rattle.access_record.specs.Unordered.{UnorderedState, order_of}
use Rattle.run.specs.Waiting.{IsFirstPart}
use Rattle.bound_workers.specs.Orderings.{HasOrdered}
use Rattle.bound_workers.specs.declared.ordering.Ordering.{Ordering}

abbrev pub lists_of : List Ordering → List (List ℕ)
lists_of orders = map (λ o. order_of o.unordered) orders

abbrev pub IsTold : Ordering → Type 0
IsTold o = IfSome o.told (λ list. list.items ≡ order_of o.unordered)

pub nil_of : {X : Type 0} (xs : List X) → length xs ≡ 0 → xs ≡ []
nil_of [] size = refl
nil_of (x ∷ xs) size = absurd (omega (arith, size))

-- the list of the first goes behind those before
pub handed : (orders : List Ordering) (x : Ordering) (lists now whole : List (List ℕ)) (list : List ℕ) → 0 < length orders → x ≡ get_or orders 0 x → list ≡ order_of x.unordered
    → now ≡ lists ++ list ∷ [] → lists ++ lists_of orders ≡ whole → now ++ lists_of (remove orders 0) ≡ whole
handed [] x lists now whole list some first own pushed so_far = absurd (omega (arith, some))
handed (o ∷ orders) x lists now whole list some first own pushed so_far =
    ap (λ (ls : List (List ℕ)). ls ++ lists_of orders) pushed
    ∙ (append_assoc lists (list ∷ []) (lists_of orders)
    ∙ (ap (λ (l : List ℕ). lists ++ l ∷ lists_of orders) (own ∙ ap (λ (y : Ordering). order_of y.unordered) first) ∙ so_far))

-- what holds of each list holds of that of the first, and of the others
pub first_list : (P : List ℕ → Type 0) (orders : List Ordering) (x : Ordering) → 0 < length orders → x ≡ get_or orders 0 x → All P (lists_of orders) → P (order_of x.unordered)
first_list P [] x some first all = absurd (omega (arith, some))
first_list P (o ∷ orders) x some first all = subst (λ (y : Ordering). P (order_of y.unordered)) (sym first) (all 0 [] (omega arith))

pub rest_lists : (P : List ℕ → Type 0) (orders : List Ordering) → All P (lists_of orders) → All P (lists_of (remove orders 0))
rest_lists P [] all = all
rest_lists P (o ∷ orders) all = λ k d below. all (suc k) d (omega (arith, below))

pub first_told : (orders : List Ordering) (x : Ordering) (list : List ℕ) → 0 < length orders → x ≡ get_or orders 0 x → All IsTold orders → IsTold x
first_told orders x list some first all = subst IsTold (sym first) (all 0 x some)

pub rest_told : (orders : List Ordering) → All IsTold orders → All IsTold (remove orders 0)
rest_told [] all = all
rest_told (o ∷ orders) all = λ k d below. all (suc k) d (omega (arith, below))

-- orders that were told are those of the same accesses
pub same_lists : (before after : List Ordering) → length after ≡ length before → ((i : ℕ) (d : Ordering) → i < length before → HasOrdered (get_or before i d) (get_or after i d)) → lists_of after ≡ lists_of before
same_lists [] [] long each = refl
same_lists [] (y ∷ after) long each = absurd (omega (arith, long))
same_lists (x ∷ before) [] long each = absurd (omega (arith, long))
same_lists (x ∷ before) (y ∷ after) long each =
    let head : y.unordered ≡ x.unordered = (each 0 x (omega arith)).same in
    let tail : lists_of after ≡ lists_of before = same_lists before after (omega (arith, long)) (λ i d below. each (suc i) d (omega (arith, below))) in
    ap (λ (u : UnorderedState). order_of u ∷ lists_of after) head ∙ ap (λ (ls : List (List ℕ)). order_of x.unordered ∷ ls) tail

pub all_told : (before after : List Ordering) → length after ≡ length before → ((i : ℕ) (d : Ordering) → i < length before → HasOrdered (get_or before i d) (get_or after i d)) → All IsTold after
all_told before after long each = λ k d below.
    let did = each k d (omega (arith, below, long)) in
    subst (λ (u : UnorderedState). IfSome (get_or after k d).told (λ list. list.items ≡ order_of u)) (sym did.same) did.order

-- ---- first parts

-- also of those with more behind them
pub first_of_longer : (now lists waiting more : List (List ℕ)) → IsFirstPart now (lists ++ waiting) → IsFirstPart now (lists ++ (waiting ++ more))
first_of_longer now lists waiting more part = record {
  rest = part.rest ++ more;
  are = sym (append_assoc now part.rest more) ∙ (ap (λ (ls : List (List ℕ)). ls ++ more) part.are ∙ append_assoc lists waiting more);
}

-- ---- one list more

pub on_ok : {E : Type 0} (o : Result (Unit {0}) E) (P Q : Type 0) → (P → Q) → OnOk o P → OnOk o Q
on_ok (Ok x) P Q step p = step p
on_ok (Err e) P Q step p = tt

-- it waits behind those that wait
pub kept_more : (now left later lists waiting : List (List ℕ)) (list turns : List ℕ) → now ++ left ≡ lists ++ waiting → list ≡ turns → later ≡ left ++ list ∷ [] → now ++ later ≡ lists ++ (waiting ++ turns ∷ [])
kept_more now left later lists waiting list turns kept same more =
    ap (λ (ls : List (List ℕ)). now ++ ls) more
    ∙ (sym (append_assoc now left (list ∷ []))
    ∙ (ap (λ (ls : List (List ℕ)). ls ++ list ∷ []) kept
    ∙ (append_assoc lists waiting (list ∷ []) ∙ ap (λ (l : List ℕ). lists ++ (waiting ++ l ∷ [])) same)))

-- it is the schedule's last
pub told_more : (now before lists waiting : List (List ℕ)) (list turns : List ℕ) → now ≡ before ++ list ∷ [] → before ≡ lists ++ waiting → list ≡ turns → now ≡ lists ++ (waiting ++ turns ∷ [])
told_more now before lists waiting list turns pushed told same =
    pushed
    ∙ (ap (λ (ls : List (List ℕ)). ls ++ list ∷ []) told
    ∙ (append_assoc lists waiting (list ∷ []) ∙ ap (λ (l : List ℕ). lists ++ (waiting ++ l ∷ [])) same))

pub first_whole : (now whole : List (List ℕ)) → now ≡ whole → IsFirstPart now whole
first_whole now whole same = record { rest = []; are = append-nil now ∙ same }
