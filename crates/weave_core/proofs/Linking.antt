-- One link more.
use Rattle.std.proofs.Common.{◌≡◌, ◌+◌, ◌-◌, ◌<◌, ◌≤◌, ◌^◌, ℕ, zero, suc, Bool, true, false, cond, eqb, max, List, [], ◌∷◌, ◌++◌, length, set, Option, Some, slice_get, sym, ◌∙◌, ap, subst, refl, inl, inr, arith}
use Rattle.std.proofs.lemmas.Bool.{cases_eq}
use Rattle.std.proofs.lemmas.List.{length_push}
use Rattle.std.proofs.lemmas.Option.{same_Some, none-some}
use Rattle.event_graph.specs.declared.event.Event.{Event}
use Rattle.event_graph.specs.declared.event.Parent.{Parent}
use Rattle.weave_core.specs.declared.children.Link.{Link}
use Rattle.weave_core.specs.Beginning.{AreChained, HasPlace, IsRisingList, NoPlace}
use Rattle.weave_core.specs.Children.{IsChain}
use Rattle.weave_core.specs.Layout.{hit_after, times_parent, latest_to, links_to}
use Rattle.weave_core.proofs.Lists.{last_at}
use Rattle.weave_core.proofs.Updates.{get_set_other, get_set_same}
use Rattle.weave_core.proofs.Words.{apart_eq, is_eq, one_place}

get_longer : {X : Type 0} (xs : List X) (y x : X) (i : ℕ) → slice_get xs i ≡ Some x → slice_get (xs ++ y ∷ []) i ≡ Some x
get_longer [] y x i h = absurd (none-some x h)
get_longer (z ∷ xs) y x zero h = h
get_longer (z ∷ xs) y x (suc i) h = get_longer xs y x i h

chain_longer : (links : List Link) (new : Link) (next : ℕ) (chain : List Link) → IsChain links next chain → IsChain (links ++ new ∷ []) next chain
chain_longer links new next [] h = h
chain_longer links new next (l ∷ chain) h = (h.0, (get_longer links new l (next - 1) h.1.0, (h.1.1.0, chain_longer links new l.next chain h.1.1.1)))

-- other children get nothing
no_more : (c child n : ℕ) → n ≡ 0 → cond (eqb c child) n 0 ≡ 0
no_more c child n e = by_test (eqb c child)
  where
    by_test : (t : Bool) → cond t n 0 ≡ 0
    by_test true = e
    by_test false = refl

pub chained_alike : (here : List Event) (heads : List ℕ) (links : List Link) (count other : (number child : ℕ) → ℕ) (late over : (finish number child : ℕ) → ℕ)
    → AreChained here heads links count late
    → ((place : ℕ) (e : Event) → slice_get here place ≡ Some e → ((c : ℕ) → count e.number c ≡ other e.number c) × ((f c : ℕ) → late f e.number c ≡ over f e.number c))
    → AreChained here heads links other over
chained_alike here heads links count other late over are same = record {
  each = λ place e h.
      let a = are.each place e h in
      let s = same place e h in
      (a.0, (a.1.0, (a.1.1.0, (a.1.1.1.0, (a.1.1.1.1.0, (a.1.1.1.1.1.0, ((λ c. a.1.1.1.1.1.1.0 c ∙ s.0 c), (λ f c. a.1.1.1.1.1.1.1 f c ∙ s.1 f c))))))));
}

-- the parent isn't here
pub not_added : (here : List Event) (heads : List ℕ) (links : List Link) (child : ℕ) (q : Option Parent) (count : (number child : ℕ) → ℕ) (late : (finish number child : ℕ) → ℕ)
    → ((place : ℕ) (e : Event) → slice_get here place ≡ Some e → (times_parent e.number q ≡ 0) × ((f : ℕ) → hit_after f e.number q ≡ 0))
    → AreChained here heads links count late
    → AreChained here heads links (λ n c. count n c + cond (eqb c child) (times_parent n q) 0) (λ f n c. max (late f n c) (cond (eqb c child) (hit_after f n q) 0))
not_added here heads links child q count late none are =
    chained_alike here heads links count (λ n c. count n c + cond (eqb c child) (times_parent n q) 0) late (λ f n c. max (late f n c) (cond (eqb c child) (hit_after f n q) 0)) are
    (λ place e h. (
      (λ c. omega (arith, no_more c child (times_parent e.number q) (none place e h).0)),
      (λ f c. omega (arith, no_more c child (hit_after f e.number q) ((none place e h).1 f))),
    ))

pub none_hit : (here : List Event) (q : Parent) → NoPlace here q.number → (place : ℕ) (e : Event) → slice_get here place ≡ Some e
    → (times_parent e.number (Some q) ≡ 0) × ((f : ℕ) → hit_after f e.number (Some q) ≡ 0)
none_hit here q none place e h =
    let apart : eqb q.number e.number ≡ false = apart_eq q.number e.number (λ s. none place e h (sym s)) in
    (ap (λ (t : Bool). cond {A = ℕ} t 1 0) apart, λ f. ap (λ (t : Bool). cond t (f + q.delay) 0) apart)

-- the parent is at a place
pub added : (here : List Event) (rising : IsRisingList here) (heads : List ℕ) (links : List Link) (child place head : ℕ) (q : Parent) (count : (number child : ℕ) → ℕ) (late : (finish number child : ℕ) → ℕ)
    → HasPlace here q.number place → child < length here → q.delay ≤ 2 ^ 62 → slice_get heads place ≡ Some head → AreChained here heads links count late
    → AreChained here (set heads place (length links + 1)) (links ++ (record { child = child; next = head; delay = q.delay }) ∷ [])
    (λ n c. count n c + cond (eqb c child) (times_parent n (Some q)) 0) (λ f n c. max (late f n c) (cond (eqb c child) (hit_after f n (Some q)) 0))
added here rising heads links child place head q count late has within small head_there are = record {
  each = λ i e h.
      let a = are.each i e h in
      elim (cases_eq i place) [
        | inl same ↦
            let is : has.event ≡ e = same_Some has.event e (sym has.there ∙ (ap (slice_get here) (sym same) ∙ h)) in
            let number : q.number ≡ e.number = sym has.number_is ∙ ap (λ (z : Event). z.number) is in
            let hit : eqb q.number e.number ≡ true = is_eq q.number e.number number in
            let head_is : a.0 ≡ head = same_Some a.0 head (sym a.1.0 ∙ (ap (slice_get heads) same ∙ head_there)) in
            let lower : head < length links + 1 = omega (arith, a.1.1.0, head_is) in
            let index : length links + 1 - 1 ≡ length links = omega arith in
            let last : slice_get (links ++ new ∷ []) (length links + 1 - 1) ≡ Some new = ap (slice_get (links ++ new ∷ [])) index ∙ last_at links new in
            let some : 0 < length links + 1 = omega arith in (
              length links + 1,
              (
                ap (slice_get (set heads place (length links + 1))) same ∙ get_set_same heads place (length links + 1) head head_there,
                (
                  omega (arith, length_push links new),
                  (
                    new ∷ a.1.1.1.0,
                    (
                      (some, (last, (lower, subst (λ (n : ℕ). IsChain (links ++ new ∷ []) n a.1.1.1.0) head_is (chain_longer links new a.0 a.1.1.1.0 a.1.1.1.1.0)))),
                      (
                        inside a.1.1.1.0 a.1.1.1.1.1.0,
                        (
                          (λ c. counted c (links_to c a.1.1.1.0) (count e.number c) (times_parent e.number (Some q)) (a.1.1.1.1.1.1.0 c) (ap (λ (t : Bool). cond {A = ℕ} t 1 0) hit)),
                          (λ f c. latest f c (latest_to f c a.1.1.1.0) (late f e.number c) (hit_after f e.number (Some q)) (a.1.1.1.1.1.1.1 f c) (ap (λ (t : Bool). cond t (f + q.delay) 0) hit)),
                        ),
                      ),
                    ),
                  ),
                ),
              ),
            )
        | inr apart ↦
            let other : eqb q.number e.number ≡ false =
            apart_eq q.number e.number (λ s. apart (one_place (λ (z : Event). z.number) here rising.rising i place e has.event h has.there (sym (has.number_is ∙ s))))
            in
            let no_hit : times_parent e.number (Some q) ≡ 0 = ap (λ (t : Bool). cond {A = ℕ} t 1 0) other in (
              a.0,
              (
                get_set_other heads place i (length links + 1) apart ∙ a.1.0,
                (
                  omega (arith, a.1.1.0, length_push links new),
                  (
                    a.1.1.1.0,
                    (
                      chain_longer links new a.0 a.1.1.1.0 a.1.1.1.1.0,
                      (
                        a.1.1.1.1.1.0,
                        (
                          (λ c. omega (arith, a.1.1.1.1.1.1.0 c, no_more c child (times_parent e.number (Some q)) no_hit)),
                          (λ f c. let none : hit_after f e.number (Some q) ≡ 0 = ap (λ (t : Bool). cond t (f + q.delay) 0) other in
                              omega (arith, a.1.1.1.1.1.1.1 f c, no_more c child (hit_after f e.number (Some q)) none)),
                        ),
                      ),
                    ),
                  ),
                ),
              ),
            )
      ];
}
  where
    new : Link
    new = record { child = child; next = head; delay = q.delay }

    inside : (chain : List Link) → ((i : ℕ) (l : Link) → slice_get chain i ≡ Some l → (l.child < length here) × (l.delay ≤ 2 ^ 62))
        → (i : ℕ) (l : Link) → slice_get (new ∷ chain) i ≡ Some l → (l.child < length here) × (l.delay ≤ 2 ^ 62)
    inside chain each zero l h = subst (λ (z : Link). (z.child < length here) × (z.delay ≤ 2 ^ 62)) (same_Some new l h) (within, small)
    inside chain each (suc i) l h = each i l h

    counted : (c n m k : ℕ) → n ≡ m → k ≡ 1 → cond {A = ℕ} (eqb child c) 1 0 + n ≡ m + cond (eqb c child) k 0
    counted c n m k e g =
        elim (cases_eq c child) [
          | inl same ↦
              let a : cond {A = ℕ} (eqb child c) 1 0 ≡ 1 = ap (λ (t : Bool). cond {A = ℕ} t 1 0) (is_eq child c (sym same)) in
              let b : cond (eqb c child) k 0 ≡ k = ap (λ (t : Bool). cond t k 0) (is_eq c child same) in
              omega (arith, a, b, e, g)
          | inr apart ↦
              let a : cond {A = ℕ} (eqb child c) 1 0 ≡ 0 = ap (λ (t : Bool). cond {A = ℕ} t 1 0) (apart_eq child c (λ s. apart (sym s))) in
              let b : cond (eqb c child) k 0 ≡ 0 = ap (λ (t : Bool). cond t k 0) (apart_eq c child apart) in
              omega (arith, a, b, e)
        ]

    latest : (f c n m k : ℕ) → n ≡ m → k ≡ f + q.delay → max (cond (eqb child c) (f + q.delay) 0) n ≡ max m (cond (eqb c child) k 0)
    latest f c n m k e g =
        elim (cases_eq c child) [
          | inl same ↦
              let a : cond (eqb child c) (f + q.delay) 0 ≡ f + q.delay = ap (λ (t : Bool). cond t (f + q.delay) 0) (is_eq child c (sym same)) in
              let b : cond (eqb c child) k 0 ≡ k = ap (λ (t : Bool). cond t k 0) (is_eq c child same) in
              omega (arith, a, b, e, g)
          | inr apart ↦
              let a : cond (eqb child c) (f + q.delay) 0 ≡ 0 = ap (λ (t : Bool). cond t (f + q.delay) 0) (apart_eq child c (λ s. apart (sym s))) in
              let b : cond (eqb c child) k 0 ≡ 0 = ap (λ (t : Bool). cond t k 0) (apart_eq c child apart) in
              omega (arith, a, b, e)
        ]
