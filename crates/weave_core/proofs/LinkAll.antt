-- The links of the events up to one.
use Rattle.std.proofs.Common.{◌≡◌, ◌+◌, ◌<◌, ◌≤◌, ◌^◌, ℕ, zero, suc, Bool, true, false, cond, eqb, ltb, max, List, [], ◌∷◌, ◌++◌, length, replicate, Option, Some, slice_get, sym, ◌∙◌, ap, subst, refl, inl, inr, arith}
use Rattle.std.proofs.lemmas.Bool.{cases_eq, cases_lt}
use Rattle.std.proofs.lemmas.Bool.Decides.{nat_tests}
use Rattle.std.proofs.lemmas.List.{length_push}
use Rattle.std.proofs.lemmas.Option.{same_Some, none-some}
use Rattle.std.specs.Option.{option_map_or}
use Rattle.event_graph.specs.declared.event.Event.{Event}
use Rattle.weave_core.specs.declared.children.Link.{Link}
use Rattle.weave_core.specs.Beginning.{AreChained, AreCounts, IsCount}
use Rattle.weave_core.specs.Layout.{AreLinked, hit_after, times_parent}
use Rattle.weave_core.proofs.Linking.{chained_alike}
use Rattle.weave_core.proofs.Lists.{get_below, last_at}
use Rattle.weave_core.proofs.OwnPlaces.{get_push}
use Rattle.weave_core.proofs.Words.{apart_eq, is_eq}

abbrev pub both_hits : (number : ℕ) → Event → ℕ
both_hits number e = times_parent number e.first + times_parent number e.second

abbrev pub both_after : (finish number : ℕ) → Event → ℕ
both_after finish number e = max (hit_after finish number e.first) (hit_after finish number e.second)

-- what the events before this one have of their parents
abbrev pub count_upto : List Event → (upto number child : ℕ) → ℕ
count_upto here upto number child = cond (ltb child upto) (option_map_or (both_hits number) (slice_get here child) 0) 0

abbrev pub late_upto : List Event → (upto finish number child : ℕ) → ℕ
late_upto here upto finish number child = cond (ltb child upto) (option_map_or (both_after finish number) (slice_get here child) 0) 0

below_is : (a b : ℕ) → a < b → ltb a b ≡ true
below_is a b h = grind (arith, nat_tests)

not_below : (a b : ℕ) → b ≤ a → ltb a b ≡ false
not_below a b h = grind (arith, nat_tests)

count_below : (here : List Event) (upto number child : ℕ) (e : Event) → child < upto → slice_get here child ≡ Some e → count_upto here upto number child ≡ times_parent number e.first + times_parent number e.second
count_below here upto number child e l h =
    ap (λ (t : Bool). cond t (option_map_or (both_hits number) (slice_get here child) 0) 0) (below_is child upto l) ∙ ap (λ (o : Option Event). option_map_or (both_hits number) o 0) h

late_below : (here : List Event) (upto finish number child : ℕ) (e : Event) → child < upto → slice_get here child ≡ Some e
    → late_upto here upto finish number child ≡ max (hit_after finish number e.first) (hit_after finish number e.second)
late_below here upto finish number child e l h =
    ap (λ (t : Bool). cond t (option_map_or (both_after finish number) (slice_get here child) 0) 0) (below_is child upto l) ∙ ap (λ (o : Option Event). option_map_or (both_after finish number) o 0) h

count_past : (here : List Event) (upto number child : ℕ) → upto ≤ child → count_upto here upto number child ≡ 0
count_past here upto number child l = ap (λ (t : Bool). cond t (option_map_or (both_hits number) (slice_get here child) 0) 0) (not_below child upto l)

late_past : (here : List Event) (upto finish number child : ℕ) → upto ≤ child → late_upto here upto finish number child ≡ 0
late_past here upto finish number child l = ap (λ (t : Bool). cond t (option_map_or (both_after finish number) (slice_get here child) 0) 0) (not_below child upto l)

same_test : (here : List Event) (upto number child : ℕ) → child < upto → count_upto here upto number child ≡ count_upto here (upto + 1) number child
same_test here upto number child l =
    ap (λ (t : Bool). cond t (option_map_or (both_hits number) (slice_get here child) 0) 0) (below_is child upto l ∙ sym (below_is child (upto + 1) (omega (arith, l))))

same_late : (here : List Event) (upto finish number child : ℕ) → child < upto → late_upto here upto finish number child ≡ late_upto here (upto + 1) finish number child
same_late here upto finish number child l =
    ap (λ (t : Bool). cond t (option_map_or (both_after finish number) (slice_get here child) 0) 0) (below_is child upto l ∙ sym (below_is child (upto + 1) (omega (arith, l))))

-- before the first
pub chained_none : (here : List Event) (heads : List ℕ) → heads ≡ replicate (length here) 0 → AreChained here heads [] (count_upto here 0) (late_upto here 0)
chained_none here heads is = record {
  each = λ place e h. (
    0,
    (
      ap (λ (xs : List ℕ). slice_get xs place) is ∙ zeros (length here) place (get_below here place e h),
      (
        omega arith,
        (
          [],
          (
            refl,
            (
              none,
              (
                (λ c. sym (count_past here 0 e.number c (omega arith))),
                (λ f c. sym (late_past here 0 f e.number c (omega arith))),
              ),
            ),
          ),
        ),
      ),
    ),
  );
}
  where
    zeros : (n i : ℕ) → i < n → slice_get {X = ℕ} (replicate n 0) i ≡ Some 0
    zeros zero i l = absurd (omega arith)
    zeros (suc n) zero l = refl
    zeros (suc n) (suc i) l = zeros n i (omega arith)

    none : (i : ℕ) (l : Link) → slice_get {X = Link} [] i ≡ Some l → (l.child < length here) × (l.delay ≤ 2 ^ 62)
    none i l h = absurd (none-some l h)

-- one event more
pub chained_next : (here : List Event) (heads : List ℕ) (links : List Link) (upto : ℕ) (e : Event) → slice_get here upto ≡ Some e
    → AreChained here heads links (λ n c. (count_upto here upto n c + cond (eqb c upto) (times_parent n e.first) 0) + cond (eqb c upto) (times_parent n e.second) 0)
    (λ f n c. max (max (late_upto here upto f n c) (cond (eqb c upto) (hit_after f n e.first) 0)) (cond (eqb c upto) (hit_after f n e.second) 0))
    → AreChained here heads links (count_upto here (upto + 1)) (late_upto here (upto + 1))
chained_next here heads links upto e there are =
    chained_alike here heads links _ (count_upto here (upto + 1)) _ (late_upto here (upto + 1)) are (λ place f h. (counts f.number, (λ finish. lates finish f.number)))
  where
    off : (c n : ℕ) → (c ≡ upto → ⊥) → cond (eqb c upto) n 0 ≡ 0
    off c n apart = ap (λ (t : Bool). cond t n 0) (apart_eq c upto apart)

    on : (c n : ℕ) → c ≡ upto → cond (eqb c upto) n 0 ≡ n
    on c n same = ap (λ (t : Bool). cond t n 0) (is_eq c upto same)

    counts : (n c : ℕ) → (count_upto here upto n c + cond (eqb c upto) (times_parent n e.first) 0) + cond (eqb c upto) (times_parent n e.second) 0 ≡ count_upto here (upto + 1) n c
    counts n c =
        elim (cases_eq c upto) [
          | inl same ↦
              let now : count_upto here (upto + 1) n c ≡ times_parent n e.first + times_parent n e.second = count_below here (upto + 1) n c e (omega (arith, same)) (ap (slice_get here) same ∙ there) in
              let was : count_upto here upto n c ≡ 0 = count_past here upto n c (omega (arith, same)) in
              omega (arith, now, was, on c (times_parent n e.first) same, on c (times_parent n e.second) same)
          | inr apart ↦
              elim (cases_lt c upto) [
                | inl l ↦ omega (arith, same_test here upto n c l, off c (times_parent n e.first) apart, off c (times_parent n e.second) apart)
                | inr m ↦
                    let now : count_upto here (upto + 1) n c ≡ 0 = count_past here (upto + 1) n c (omega (arith, m, apart)) in
                    let was : count_upto here upto n c ≡ 0 = count_past here upto n c m in
                    omega (arith, now, was, off c (times_parent n e.first) apart, off c (times_parent n e.second) apart)
              ]
        ]

    lates : (f n c : ℕ) → max (max (late_upto here upto f n c) (cond (eqb c upto) (hit_after f n e.first) 0)) (cond (eqb c upto) (hit_after f n e.second) 0) ≡ late_upto here (upto + 1) f n c
    lates f n c =
        elim (cases_eq c upto) [
          | inl same ↦
              let now : late_upto here (upto + 1) f n c ≡ max (hit_after f n e.first) (hit_after f n e.second) = late_below here (upto + 1) f n c e (omega (arith, same)) (ap (slice_get here) same ∙ there) in
              let was : late_upto here upto f n c ≡ 0 = late_past here upto f n c (omega (arith, same)) in
              omega (arith, now, was, on c (hit_after f n e.first) same, on c (hit_after f n e.second) same)
          | inr apart ↦
              elim (cases_lt c upto) [
                | inl l ↦ omega (arith, same_late here upto f n c l, off c (hit_after f n e.first) apart, off c (hit_after f n e.second) apart)
                | inr m ↦
                    let now : late_upto here (upto + 1) f n c ≡ 0 = late_past here (upto + 1) f n c (omega (arith, m, apart)) in
                    let was : late_upto here upto f n c ≡ 0 = late_past here upto f n c m in
                    omega (arith, now, was, off c (hit_after f n e.first) apart, off c (hit_after f n e.second) apart)
              ]
        ]

-- after the last
pub linked_all : (here : List Event) (heads : List ℕ) (links : List Link) (upto : ℕ) → length here ≤ upto → AreChained here heads links (count_upto here upto) (late_upto here upto) → AreLinked here heads links
linked_all here heads links upto end are = record {
  each = λ place e h.
      let a = are.each place e h in (
        a.0,
        (
          a.1.0,
          record {
            chain = a.1.1.1.0;
            is_chain = a.1.1.1.1.0;
            within = a.1.1.1.1.1.0;
            counts = λ child f k. a.1.1.1.1.1.1.0 child ∙ count_below here upto e.number child f (omega (arith, get_below here child f k, end)) k;
            latest = λ finish child f k. a.1.1.1.1.1.1.1 finish child ∙ late_below here upto finish e.number child f (omega (arith, get_below here child f k, end)) k;
          },
        ),
      );
}

-- a count more
pub counts_next : (here : List Event) (waits longer : List ℕ) (upto first second : ℕ) (e : Event) → slice_get here upto ≡ Some e → AreCounts here waits upto → IsCount here e.first first → IsCount here e.second second
    → longer ≡ waits ++ (first + second) ∷ [] → AreCounts here longer (upto + 1)
counts_next here waits longer upto first second e there are a b is =
    subst (λ (xs : List ℕ). AreCounts here xs (upto + 1)) (sym is)
    (record {
      size = length_push waits (first + second) ∙ ap (λ n. n + 1) are.size;
      each = λ place f below h.
          elim (cases_lt place upto) [
            | inl l ↦
                let r = are.each place f l h in
                (r.0, (r.1.0, (r.1.1.0, (r.1.1.1.0, get_push waits (first + second) place (omega (arith, l, are.size)) ∙ r.1.1.1.1))))
            | inr m ↦
                let same : place ≡ upto = omega (arith, m, below) in
                let end : place ≡ length waits = omega (arith, same, are.size) in
                let e_is : e ≡ f = same_Some e f (sym there ∙ (ap (slice_get here) (sym same) ∙ h)) in (
                  first,
                  (
                    second,
                    (
                      subst (λ (z : Event). IsCount here z.first first) e_is a,
                      (
                        subst (λ (z : Event). IsCount here z.second second) e_is b,
                        ap (slice_get (waits ++ (first + second) ∷ [])) end ∙ last_at waits (first + second),
                      ),
                    ),
                  ),
                )
          ];
    })
