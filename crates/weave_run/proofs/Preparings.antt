-- The domains are laid out one after the other, each with its components.
use Rattle.std.proofs.Common.{◌≡◌, ◌+◌, ◌<◌, ℕ, zero, suc, List, [], ◌∷◌, ◌++◌, Vec, length, map, get_or, ◌⊎◌, Some, slice_get, sym, ◌∙◌, ap, subst, refl, inl, inr, arith}
use Rattle.std.proofs.lemmas.List.{append_assoc, length-append, length-map, length_push}
use Rattle.std.proofs.lemmas.Option.{same_Some, none-some}
use Rattle.std.specs.List.{remove}
use Rattle.std.specs.declared.alloc.Global.{Global}
use Rattle.event_graph.specs.declared.event.Event.{Event}
use Rattle.domain_map.specs.Domains.{Partition}
use Rattle.weave_core.specs.DomainCalls.{DomainValue, comps_in}
use Rattle.weave_run.specs.Dealing.{AreDealt, items_of}
use Rattle.weave_run.specs.Setup.{AreBegun, begun}

behind : {X : Type 0} (xs ys : List X) → slice_get (xs ++ ys) (length xs) ≡ slice_get ys 0
behind [] ys = refl
behind (x ∷ xs) ys = behind xs ys

-- the first list that is left is that of the next domain
pub first_left : {C : Type 0} (xs : List (List C)) (rooms : List (Vec C Global)) (number : ℕ) (d : Vec C Global) (places : List ℕ) (comps : List C) → AreDealt places comps (xs ++ items_of rooms) → length xs ≡ number → 0 < length rooms
    → (get_or rooms 0 d).items ≡ comps_in places number comps
first_left xs [] number d places comps h n l = absurd (omega (arith, l))
first_left xs (v ∷ rooms) number d places comps h n l = h.each number v.items (ap (slice_get (xs ++ items_of (v ∷ rooms))) (sym n) ∙ behind xs (items_of (v ∷ rooms)))

pub rest_length : {X : Type 0} (xs : List X) → 0 < length xs → length xs ≡ length (remove xs 0) + 1
rest_length [] l = absurd (omega (arith, l))
rest_length (x ∷ xs) l = omega arith

pub put_count : {C : Type 0} (domains : List (DomainValue C)) (own : List C) (rooms result : List (Vec C Global)) → items_of result ≡ map (λ (v : DomainValue C). v.comps) domains ++ (own ∷ items_of rooms)
    → length result ≡ length domains + 1 + length rooms
put_count {C} domains own rooms result h =
    let a = ap length h in
    let b = length-map result (λ (v : Vec C Global). v.items) in
    let c = length-append (map (λ (v : DomainValue C). v.comps) domains) (own ∷ items_of rooms) in
    let d = length-map domains (λ (v : DomainValue C). v.comps) in
    let e = length-map rooms (λ (v : Vec C Global). v.items) in
    omega (arith, a, b, c, d, e)

pub snoc_get : {X : Type 0} (xs : List X) (x : X) (d : ℕ) (u : X) → slice_get (xs ++ x ∷ []) d ≡ Some u → (slice_get xs d ≡ Some u) ⊎ ((d ≡ length xs) × (x ≡ u))
snoc_get [] x zero u h = inr (refl, same_Some x u h)
snoc_get [] x (suc d) u h = absurd (none-some u h)
snoc_get (y ∷ xs) x zero u h = inl h
snoc_get (y ∷ xs) x (suc d) u h = elim (snoc_get xs x d u h) [ inl a ↦ inl a | inr b ↦ inr (ap suc b.0, b.1) ]

pub none_begun : {C : Type 0} (events : List Event) (p : Partition) (comps : List C) → AreBegun events p comps 0 []
none_begun events p comps = record { count_is = refl; each = λ d v h. absurd (none-some v h) }

pub one_begun : {C : Type 0} (events : List Event) (p : Partition) (comps : List C) (number : ℕ) (vs : List (DomainValue C)) (v : DomainValue C) → AreBegun events p comps number vs → v ≡ begun events p comps number
    → AreBegun events p comps (number + 1) (vs ++ v ∷ [])
one_begun {C} events p comps number vs v h is = record {
  count_is = (let l = length_push vs v in let n = h.count_is in omega (arith, l, n));
  each = λ d u at.
      elim (snoc_get vs v d u at) [
        | inl before ↦ h.each d u before
        | inr now ↦
            let here : number ≡ d = (let n = h.count_is in let m = now.0 in omega (arith, n, m)) in
            sym now.1 ∙ (is ∙ ap (begun events p comps) here)
      ];
}

pub map_push : {X Y : Type 0} (f : X → Y) (xs : List X) (x : X) → map f (xs ++ x ∷ []) ≡ map f xs ++ f x ∷ []
map_push f [] x = refl
map_push f (y ∷ xs) x = ap (λ (ys : List _). f y ∷ ys) (map_push f xs x)

pub still_dealt : {C : Type 0} (places : List ℕ) (comps : List C) (vs : List (DomainValue C)) (v : DomainValue C) (own : Vec C Global) (rooms rest : List (Vec C Global)) → AreDealt places comps (map (λ (v : DomainValue C). v.comps) vs ++ items_of rooms)
    → rooms ≡ own ∷ rest → v.comps ≡ own.items → AreDealt places comps (map (λ (v : DomainValue C). v.comps) (vs ++ v ∷ []) ++ items_of rest)
still_dealt {C} places comps vs v own rooms rest h is same =
    subst (AreDealt places comps)
    (ap (λ (zs : List (Vec C Global)). map (λ (v : DomainValue C). v.comps) vs ++ items_of zs) is
    ∙ (ap (λ (xs : List C). map (λ (v : DomainValue C). v.comps) vs ++ (xs ∷ items_of rest)) (sym same)
    ∙ (sym (append_assoc (map (λ (v : DomainValue C). v.comps) vs) (v.comps ∷ []) (items_of rest)) ∙ ap (λ (xs : List (List C)). xs ++ items_of rest) (sym (map_push (λ (v : DomainValue C). v.comps) vs v)))))
    h
