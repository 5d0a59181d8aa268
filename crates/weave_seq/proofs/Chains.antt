-- One more child in the chains.
use Rattle.std.proofs.Common.{◌≡◌, ◌<◌, ◌≤◌, ◌+◌, ℕ, List, [], ◌∷◌, ◌++◌, length, get_or, set, replicate, inl, inr, Option, Some, None, sym, ◌∙◌, ap, subst, refl, arith, length-set}
use Rattle.std.specs.Prelude.{slice_index}
use Rattle.std.proofs.lemmas.Bool.{cases_eq, cases_lt}
use Rattle.std.proofs.lemmas.List.{get_or-replicate, get_or-set_other, get_or-set_same, get_or_append_left, get_or_past, get_or_push, length-map, length-replicate, length_push}
use Rattle.event_graph.specs.declared.event.Event.{Event}
use Rattle.event_graph.specs.declared.event.Parent.{Parent}
use Rattle.weave_seq.specs.declared.children.ParentSlot.{ParentSlot}
use Rattle.weave_seq.specs.Chains.{AreChains, IsParent, last_child, parent_in, parents_in, with_last_child}

zeros : (n i : ℕ) → slice_index (replicate n 0) i ≡ 0
zeros n i = elim (cases_lt i n) [ inl l ↦ get_or-replicate n i 0 0 l | inr l ↦ get_or_past (replicate n 0) i 0 (omega (arith, l, length-replicate {A = ℕ} n 0)) ]

-- before the first child
pub no_chains : (slot : ParentSlot) (events : List Event) (last before : List ℕ) → last ≡ replicate (length events) 0 → before ≡ [] → AreChains (parents_in slot events) last before 0
no_chains slot events last before a b =
    let none : (n : ℕ) → slice_index last n ≡ 0 = λ n. ap (λ xs. slice_index xs n) a ∙ zeros (length events) n in
    let none' : (n : ℕ) → slice_index before n ≡ 0 = λ n. ap (λ xs. slice_index xs n) b in
    record {
      last_size = ap length a ∙ (length-replicate (length events) 0 ∙ sym (length-map events (parent_in slot)));
      before_size = ap length b;
      last_below = λ n some. absurd (omega (arith, some, none n));
      last_covers = λ c p l k. absurd (omega (arith, l));
      last_is = λ n c some is. absurd (omega (arith, some, is, none n));
      before_below = λ d some. absurd (omega (arith, some, none' d));
      before_covers = λ c d p q l m k j e. absurd (omega (arith, m));
      before_is = λ d c q k some is. absurd (omega (arith, some, is, none' d));
    }

push_size : (before : List ℕ) (upto x : ℕ) → length before ≡ upto → length (before ++ x ∷ []) ≡ upto + 1
push_size before upto x h = length_push before x ∙ ap (λ n. n + 1) h

push_old : (before : List ℕ) (upto x d : ℕ) → length before ≡ upto → d < upto → slice_index (before ++ x ∷ []) d ≡ slice_index before d
push_old before upto x d h l = get_or_append_left before (x ∷ []) 0 d (omega arith)

push_new : (before : List ℕ) (upto x : ℕ) → length before ≡ upto → slice_index (before ++ x ∷ []) upto ≡ x
push_new before upto x h = get_or_push before x 0 upto h

push_past : (before : List ℕ) (upto x d : ℕ) → length before ≡ upto → upto < d → slice_index (before ++ x ∷ []) d ≡ 0
push_past before upto x d h l = get_or_past (before ++ x ∷ []) d 0 (omega (arith, push_size before upto x h, l))

push_below : (before : List ℕ) (upto x : ℕ) → length before ≡ upto → (0 < x → x < upto) → ((d : ℕ) → 0 < slice_index before d → slice_index before d < d) → (d : ℕ) → 0 < slice_index (before ++ x ∷ []) d → slice_index (before ++ x ∷ []) d < d
push_below before upto x h small all d some =
    elim (cases_lt d upto) [
      | inl l ↦ omega (arith, push_old before upto x d h l, some, all d (omega (arith, some, push_old before upto x d h l)))
      | inr l ↦ elim (cases_eq d upto) [
        | inl e ↦
            let is : slice_index (before ++ x ∷ []) d ≡ x = ap (λ n. slice_index (before ++ x ∷ []) n) e ∙ push_new before upto x h in
            omega (arith, is, some, e, small (omega (arith, is, some)))
        | inr ne ↦ absurd (omega (arith, some, push_past before upto x d h (omega (arith, l, ne))))
      ]
    ]

module _ (parents : List (Option Parent)) (last before : List ℕ) (upto : ℕ) (h : AreChains parents last before upto) where
  none_more : get_or parents upto None ≡ None → AreChains parents last (before ++ 0 ∷ []) (upto + 1)
  none_more is = record {
    last_size = h.last_size;
    before_size = push_size before upto 0 h.before_size;
    last_below = λ n some. omega (arith, h.last_below n some);
    last_covers = λ c p l k.
        elim (cases_eq c upto) [
          | inl e ↦ absurd (let q : get_or parents upto None ≡ Some p = subst (λ z. get_or parents z None ≡ Some p) e k in cc)
          | inr ne ↦ h.last_covers c p (omega (arith, l, ne)) k
        ];
    last_is = h.last_is;
    before_below = push_below before upto 0 h.before_size (λ z. absurd (omega (arith, z))) h.before_below;
    before_covers = λ c d p q a b k m e.
        elim (cases_eq d upto) [
          | inl same ↦ absurd (let z : get_or parents upto None ≡ Some q = subst (λ z. get_or parents z None ≡ Some q) same m in cc)
          | inr ne ↦ omega (arith, push_old before upto 0 d h.before_size (omega (arith, b, ne)), h.before_covers c d p q a (omega (arith, b, ne)) k m e)
        ];
    before_is = λ d c q m some e.
        elim (cases_lt d upto) [
          | inl l ↦ h.before_is d c q m some (sym (push_old before upto 0 d h.before_size l) ∙ e)
          | inr l ↦ elim (cases_eq d upto) [
            | inl same ↦ absurd (let z : get_or parents upto None ≡ Some q = subst (λ z. get_or parents z None ≡ Some q) same m in cc)
            | inr ne ↦ absurd (omega (arith, e, some, push_past before upto 0 d h.before_size (omega (arith, l, ne))))
          ]
        ];
  }

  some_more : (r : Parent) → get_or parents upto None ≡ Some r → r.number < length parents → AreChains parents (set last r.number upto) (before ++ slice_index last r.number ∷ []) (upto + 1)
  some_more r is within =
      let room : r.number < length last = omega (arith, within, h.last_size) in
      let at_upto : (p : Parent) (c : ℕ) → c ≡ upto → IsParent parents c p → p ≡ r =
      λ p c same k. (let z : get_or parents upto None ≡ Some p = subst (λ z. get_or parents z None ≡ Some p) same k in cc)
      in
      let set_is : (n : ℕ) → n ≡ r.number → slice_index (set last r.number upto) n ≡ upto =
      λ n same. ap (λ z. slice_index (set last r.number upto) z) same ∙ get_or-set_same last r.number upto 0 room
      in
      record {
        last_size = length-set last r.number upto ∙ h.last_size;
        before_size = push_size before upto (slice_index last r.number) h.before_size;
        last_below = λ n some.
            elim (cases_eq n r.number) [
              | inl e ↦ omega (arith, set_is n e)
              | inr ne ↦ omega (arith, get_or-set_other last r.number n upto 0 ne, some, h.last_below n (omega (arith, get_or-set_other last r.number n upto 0 ne, some)))
            ];
        last_covers = λ c p l k.
            elim (cases_eq p.number r.number) [
              | inl e ↦ omega (arith, set_is p.number e, l)
              | inr ne ↦
                  let apart : c ≡ upto → ⊥ = λ same. ne (ap (λ (y : Parent). y.number) (at_upto p c same k)) in
                  omega (arith, get_or-set_other last r.number p.number upto 0 ne, h.last_covers c p (omega (arith, l, apart)) k)
            ];
        last_is = λ n c some e.
            elim (cases_eq n r.number) [
              | inl same ↦
                  let here : upto ≡ c = sym (set_is n same) ∙ e in
                  (r, (subst (λ z. get_or parents z None ≡ Some r) here is, sym same))
              | inr ne ↦ h.last_is n c some (sym (get_or-set_other last r.number n upto 0 ne) ∙ e)
            ];
        before_below = push_below before upto (slice_index last r.number) h.before_size (h.last_below r.number) h.before_below;
        before_covers = λ c d p q a b k m e.
            elim (cases_eq d upto) [
              | inl same ↦
                  let n : p.number ≡ r.number = e ∙ ap (λ (y : Parent). y.number) (at_upto q d same m) in
                  let covers : c ≤ slice_index last p.number = h.last_covers c p (omega (arith, a, same)) k in
                  let covers' : c ≤ slice_index last r.number = subst (λ z. c ≤ slice_index last z) n covers in
                  subst (λ z. c ≤ slice_index (before ++ slice_index last r.number ∷ []) z) (sym same) (omega (arith, push_new before upto (slice_index last r.number) h.before_size, covers'))
              | inr ne ↦ omega (arith, push_old before upto (slice_index last r.number) d h.before_size (omega (arith, b, ne)), h.before_covers c d p q a (omega (arith, b, ne)) k m e)
            ];
        before_is = λ d c q m some e.
            elim (cases_lt d upto) [
              | inl l ↦ h.before_is d c q m some (sym (push_old before upto (slice_index last r.number) d h.before_size l) ∙ e)
              | inr l ↦ elim (cases_eq d upto) [
                | inl same ↦
                    let at : slice_index (before ++ slice_index last r.number ∷ []) d ≡ slice_index last r.number =
                    subst (λ z. slice_index (before ++ slice_index last r.number ∷ []) z ≡ slice_index last r.number) (sym same) (push_new before upto (slice_index last r.number) h.before_size)
                    in
                    let f : (p : Parent) × (IsParent parents c p × (p.number ≡ r.number)) = h.last_is r.number c some (sym at ∙ e) in
                    (f.0, (f.1.0, f.1.1 ∙ ap (λ (y : Parent). y.number) (sym (at_upto q d same m))))
                | inr ne ↦ absurd (omega (arith, e, some, push_past before upto (slice_index last r.number) d h.before_size (omega (arith, l, ne))))
              ]
            ];
      }

  more : (o : Option Parent) → get_or parents upto None ≡ o → ((p : Parent) → o ≡ Some p → p.number < length parents) → AreChains parents (with_last_child last o upto) (before ++ last_child last o ∷ []) (upto + 1)
  more None is within = none_more is
  more (Some r) is within = some_more r is (within r refl)

  pub one_more : (last' before' : List ℕ) (o : Option Parent) → get_or parents upto None ≡ o → ((p : Parent) → o ≡ Some p → p.number < length parents)
      → last' ≡ with_last_child last o upto → before' ≡ before ++ last_child last o ∷ [] → AreChains parents last' before' (upto + 1)
  one_more last' before' o is within a b =
      subst (λ xs. AreChains parents xs before' (upto + 1)) (sym a) (subst (λ xs. AreChains parents (with_last_child last o upto) xs (upto + 1)) (sym b) (more o is within))
