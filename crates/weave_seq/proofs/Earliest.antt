-- What the heap's order says of keys.
use Rattle.std.proofs.Common.{◌≡◌, ◌&&◌, ◌||◌, ◌==◌, Bool, true, false, cond, nat_lt, List, [], ◌∷◌, map, All, sym, ◌∙◌, refl, arith}
use Rattle.std.specs.BinaryHeap.{IsUpperBound}
use Rattle.std.specs.declared.cmp.Reverse.{Reverse}
use Rattle.std.specs.declared.cmp.Ordering.{Ordering}
use Rattle.std.specs.declared.cmp.Ordering.TheVariants.{Less, Equal, Greater}
use Rattle.std.specs.Ordering.{is_lt, nat_cmp, ordering_then}
use Rattle.std.proofs.lemmas.List.Elements.{All-cons}
use Rattle.zs_num.specs.KeyOrder.{is_key_before}
use Rattle.zs_num.specs.declared.time.Key.{Key}

abbrev pub backwards : Reverse Key → Reverse Key → Ordering
backwards a b = ordering_then (nat_cmp b.0.start a.0.start) (nat_cmp b.0.number a.0.number)

by_tests : (p q r s : Bool) → is_lt (ordering_then (cond p Less (cond q Equal Greater)) (cond r Less (cond s Equal Greater))) ≡ (p || (q && r))
by_tests true q r s = refl
by_tests false true true s = refl
by_tests false true false true = refl
by_tests false true false false = refl
by_tests false false r s = refl

none_earlier : (k : Key) (x : Reverse Key) → x.0 ≡ k → (xs : List (Reverse Key)) → IsUpperBound backwards x xs → All (λ other. is_key_before other k ≡ false) (map (λ r. r.0) xs)
none_earlier k x is [] h = λ i d below. absurd (omega (arith, below))
none_earlier k x is (y ∷ ys) h =
    let here : is_key_before y.0 k ≡ false = rw (← is) (sym (by_tests (nat_lt y.0.start x.0.start) (y.0.start == x.0.start) (nat_lt y.0.number x.0.number) (y.0.number == x.0.number)) ∙ h.0) in
    All-cons (λ other. is_key_before other k ≡ false) y.0 (map (λ r. r.0) ys) here (none_earlier k x is ys h.1)

pub least_key : (x : Reverse Key) (xs : List (Reverse Key)) → IsUpperBound backwards x xs → All (λ other. is_key_before other x.0 ≡ false) (map (λ r. r.0) xs)
least_key x xs h = none_earlier x.0 x refl xs h
