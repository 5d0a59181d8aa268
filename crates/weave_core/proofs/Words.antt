-- What a domain's stubs tell of the crossings.
use Rattle.std.proofs.Common.{◌≡◌, ◌+◌, ◌<◌, ◌≤◌, ℕ, zero, suc, Bool, true, false, not, ◌&&◌, cond, eqb, max, List, [], ◌∷◌, length, map, set, get_or, Option, Some, None, is_some, slice_get, sym, ◌∙◌, ap, subst, refl, inl, inr, arith}
use Rattle.std.proofs.lemmas.Bool.{cases_eq, cases_lt, false≢true}
use Rattle.std.proofs.lemmas.Bool.Decides.{nat_tests}
use Rattle.std.proofs.lemmas.Option.{same_Some, none-some}
use Rattle.std.specs.List.{find, enumerate_from}
use Rattle.std.specs.Option.{option_map_or}
use Rattle.zs_num.specs.declared.time.Word.{Word}
use Rattle.zs_num.specs.declared.time.Word.TheVariants.{Bound, Exact}
use Rattle.event_graph.specs.declared.event.Event.{Event}
use Rattle.domain_map.specs.declared.crossing.Crossing.{Crossing}
use Rattle.domain_map.specs.Domains.{Partition}
use Rattle.weave_core.specs.declared.incoming.Stub.{Stub}
use Rattle.weave_core.specs.DomainMachine.{cycle_of, is_exact, word_at}
use Rattle.weave_core.specs.Layout.{AreStubs, IsStubOf, crossing_word, known_words, told_into, unknown_into}
use Rattle.weave_core.specs.Stubs.{told_word}
use Rattle.weave_core.proofs.Lists.{In, at_in, both, and_true, find_in, find_some, get_there, in_at, some_at}
use Rattle.weave_core.proofs.Updates.{get_set_other, get_set_same}

pub eq_is : (a b : ℕ) → eqb a b ≡ true → a ≡ b
eq_is a b h = grind (arith, nat_tests)

pub is_eq : (a b : ℕ) → a ≡ b → eqb a b ≡ true
is_eq a b h = grind (arith, nat_tests)

pub apart_eq : (a b : ℕ) → (a ≡ b → ⊥) → eqb a b ≡ false
apart_eq a b h = by_test (eqb a b) refl
  where
    by_test : (t : Bool) → eqb a b ≡ t → eqb a b ≡ false
    by_test true e = absurd (h (eq_is a b e))
    by_test false e = e

-- Rising numbers stand once.
module _ {X : Type 0} (number : X → ℕ) (xs : List X) (rising : (i j : ℕ) (x y : X) → i < j → slice_get xs i ≡ Some x → slice_get xs j ≡ Some y → number x < number y) where
  pub one_place : (i j : ℕ) (x y : X) → slice_get xs i ≡ Some x → slice_get xs j ≡ Some y → number x ≡ number y → i ≡ j
  one_place i j x y a b same =
      elim (cases_lt i j) [
        | inl l ↦ absurd (omega (arith, rising i j x y l a b, same))
        | inr m ↦ elim (cases_lt j i) [ inl l ↦ absurd (omega (arith, rising j i y x l b a, same)) | inr n ↦ omega arith ]
      ]

-- a numbered list of words
get_enum : (f : ℕ → Word) (n : ℕ) (xs : List Crossing) (i m : ℕ) (x : Crossing) → m ≡ n + i → slice_get xs i ≡ Some x
    → get_or (map (λ (at : ℕ × Crossing). f at.0) (enumerate_from n xs)) i (Bound 0) ≡ f m
get_enum f n [] i m x e h = absurd (none-some x h)
get_enum f n (y ∷ xs) zero m x e h = let same : n ≡ m = omega (arith, e) in ap f same
get_enum f n (y ∷ xs) (suc i) m x e h = get_enum f (n + 1) xs i m x (omega (arith, e)) h

past_enum : (f : ℕ → Word) (n : ℕ) (xs : List Crossing) (i : ℕ) → length xs ≤ i → get_or (map (λ (at : ℕ × Crossing). f at.0) (enumerate_from n xs)) i (Bound 0) ≡ Bound 0
past_enum f n [] i l = refl
past_enum f n (y ∷ xs) zero l = absurd (omega arith)
past_enum f n (y ∷ xs) (suc i) l = past_enum f (n + 1) xs i (omega arith)

module _ (events : List Event) (p : Partition) (domain : ℕ) (here : List Event) (stubs : List Stub) (are : AreStubs events p domain here stubs) where
  pub stub_place : (i j : ℕ) (s t : Stub) → slice_get stubs i ≡ Some s → slice_get stubs j ≡ Some t → s.number ≡ t.number → i ≡ j
  stub_place = one_place (λ (s : Stub). s.number) stubs are.rising

  find_stub : (k : ℕ) (s : Stub) → slice_get stubs k ≡ Some s → find (λ (t : Stub). eqb t.number s.number) stubs ≡ Some s
  find_stub k s there =
      let some : is_some (find (λ (t : Stub). eqb t.number s.number) stubs) ≡ true =
      find_in (λ (t : Stub). eqb t.number s.number) stubs s (at_in s stubs k there) (is_eq s.number s.number refl)
      in
      let found : (t : Stub) × (find (λ (t : Stub). eqb t.number s.number) stubs ≡ Some t) = some_at (find (λ (t : Stub). eqb t.number s.number) stubs) some in
      let is : In found.0 stubs × (eqb found.0.number s.number ≡ true) = find_some (λ (t : Stub). eqb t.number s.number) stubs found.0 found.1 in
      let at : (j : ℕ) × (slice_get stubs j ≡ Some found.0) = in_at found.0 stubs is.0 in
      let same : at.0 ≡ k = stub_place at.0 k found.0 s at.1 there (eq_is found.0.number s.number is.1) in
      found.1 ∙ (sym at.1 ∙ (ap (slice_get stubs) same ∙ there))

  -- the word of a stub
  pub word_of_stub : (k : ℕ) (s : Stub) → slice_get stubs k ≡ Some s → crossing_word stubs s.number ≡ s.word
  word_of_stub k s there = ap (λ (o : Option Stub). option_map_or (λ (t : Stub). t.word) o (Bound 0)) (find_stub k s there)

  -- the word of a stub's crossing
  pub word_known : (k : ℕ) (s : Stub) → slice_get stubs k ≡ Some s → word_at (known_words p.crossings stubs) s.number ≡ s.word
  word_known k s there =
      let i = are.each k s there in
      get_enum (crossing_word stubs) 0 p.crossings s.number s.number i.crossing (omega arith) i.there
      ∙ ap (λ (o : Option Stub). option_map_or (λ (t : Stub). t.word) o (Bound 0)) (find_stub k s there)

  -- a known finish is a stub's
  pub known_is_stub : (number : ℕ) → is_exact (word_at (known_words p.crossings stubs) number) ≡ true
      → (k : ℕ) × ((s : Stub) × ((slice_get stubs k ≡ Some s) × (s.number ≡ number)))
  known_is_stub number h =
      elim (cases_lt number (length p.crossings)) [
        | inr past ↦ absurd (false≢true (ap is_exact (sym (past_enum (crossing_word stubs) 0 p.crossings number past)) ∙ h))
        | inl below ↦
            let x : (x : Crossing) × (slice_get p.crossings number ≡ Some x) = get_there p.crossings number below in
            let word : word_at (known_words p.crossings stubs) number ≡ crossing_word stubs number = get_enum (crossing_word stubs) 0 p.crossings number number x.0 (omega arith) x.1 in
            by_found (find (λ (t : Stub). eqb t.number number) stubs) refl (ap is_exact (sym word) ∙ h)
      ]
    where
      by_found : (o : Option Stub) → find (λ (t : Stub). eqb t.number number) stubs ≡ o → is_exact (option_map_or (λ (t : Stub). t.word) o (Bound 0)) ≡ true
          → (k : ℕ) × ((s : Stub) × ((slice_get stubs k ≡ Some s) × (s.number ≡ number)))
      by_found None e t = absurd (false≢true t)
      by_found (Some s) e t =
          let is : In s stubs × (eqb s.number number ≡ true) = find_some (λ (t : Stub). eqb t.number number) stubs s e in
          let at : (j : ℕ) × (slice_get stubs j ≡ Some s) = in_at s stubs is.0 in
          (at.0, (s, (at.1, eq_is s.number number is.1)))

-- how many are not known, and what the known tell

pub none_unknown : (child : ℕ) (stubs : List Stub) → unknown_into child stubs ≡ 0 → (k : ℕ) (s : Stub) → slice_get stubs k ≡ Some s → s.child ≡ child → is_exact s.word ≡ true
none_unknown child [] none k s there is = absurd (none-some s there)
none_unknown child (t ∷ stubs) none zero s there is =
    let same : t ≡ s = same_Some t s there in
    by_test (is_exact s.word) refl (subst (λ (z : Stub). cond (eqb z.child child && not (is_exact z.word)) 1 0 + unknown_into child stubs ≡ 0) same none)
  where
    by_test : (u : Bool) → is_exact s.word ≡ u → cond (eqb s.child child && not (is_exact s.word)) 1 0 + unknown_into child stubs ≡ 0 → is_exact s.word ≡ true
    by_test true e h = e
    by_test false e h =
        let test : (eqb s.child child && not (is_exact s.word)) ≡ true = and_true (eqb s.child child) (not (is_exact s.word)) (is_eq s.child child is) (ap not e) in
        let one : cond (eqb s.child child && not (is_exact s.word)) 1 0 ≡ 1 = ap (λ (u : Bool). cond {A = ℕ} u 1 0) test in
        absurd (omega (arith, h, one))
none_unknown child (t ∷ stubs) none (suc k) s there is = none_unknown child stubs (omega (arith, none)) k s there is

pub all_known : (child : ℕ) (stubs : List Stub) → ((k : ℕ) (s : Stub) → slice_get stubs k ≡ Some s → s.child ≡ child → is_exact s.word ≡ true) → unknown_into child stubs ≡ 0
all_known child [] h = refl
all_known child (t ∷ stubs) h =
    let rest : unknown_into child stubs ≡ 0 = all_known child stubs (λ k s there. h (suc k) s there) in
    by_test (eqb t.child child) refl rest
  where
    by_test : (u : Bool) → eqb t.child child ≡ u → unknown_into child stubs ≡ 0 → cond (u && not (is_exact t.word)) 1 0 + unknown_into child stubs ≡ 0
    by_test false e rest = omega (arith, rest)
    by_test true e rest =
        let known : not (is_exact t.word) ≡ false = ap not (h 0 t refl (eq_is t.child child e)) in
        let one : cond (true && not (is_exact t.word)) 1 0 ≡ 0 = ap (λ (u : Bool). cond {A = ℕ} u 1 0) known in
        omega (arith, one, rest)

pub told_least : (child : ℕ) (stubs : List Stub) (k : ℕ) (s : Stub) → slice_get stubs k ≡ Some s → s.child ≡ child → is_exact s.word ≡ true → cycle_of s.word + s.delay ≤ told_into child stubs
told_least child [] k s there is e = absurd (none-some s there)
told_least child (t ∷ stubs) zero s there is e =
    let same : t ≡ s = same_Some t s there in
    let test : (eqb t.child child && is_exact t.word) ≡ true =
    subst (λ (z : Stub). (eqb z.child child && is_exact z.word) ≡ true) (sym same) (and_true (eqb s.child child) (is_exact s.word) (is_eq s.child child is) e)
    in
    let one : cond (eqb t.child child && is_exact t.word) (cycle_of t.word + t.delay) 0 ≡ cycle_of s.word + s.delay =
    ap (λ (u : Bool). cond {A = ℕ} u (cycle_of t.word + t.delay) 0) test ∙ ap (λ (z : Stub). cycle_of z.word + z.delay) same
    in
    omega (arith, one)
told_least child (t ∷ stubs) (suc k) s there is e = omega (arith, told_least child stubs k s there is e)

pub told_most : (child : ℕ) (stubs : List Stub) (bound : ℕ) → ((k : ℕ) (s : Stub) → slice_get stubs k ≡ Some s → s.child ≡ child → is_exact s.word ≡ true → cycle_of s.word + s.delay ≤ bound)
    → told_into child stubs ≤ bound
told_most child [] bound h = omega arith
told_most child (t ∷ stubs) bound h =
    let rest : told_into child stubs ≤ bound = told_most child stubs bound (λ k s there. h (suc k) s there) in
    let first : cond (eqb t.child child && is_exact t.word) (cycle_of t.word + t.delay) 0 ≤ bound = by_test (eqb t.child child && is_exact t.word) refl in
    omega (arith, rest, first)
  where
    by_test : (u : Bool) → (eqb t.child child && is_exact t.word) ≡ u → cond u (cycle_of t.word + t.delay) 0 ≤ bound
    by_test false e = omega arith
    by_test true e = let b = both (eqb t.child child) (is_exact t.word) e in h 0 t refl (eq_is t.child child b.0) b.1

-- one of them is told its finish

one_less : (u v : Bool) → u ≡ v → cond {A = ℕ} u 1 0 ≡ cond v 1 0
one_less u v e = ap (λ (t : Bool). cond {A = ℕ} t 1 0) e

pub unknown_told : (child : ℕ) (stubs : List Stub) (k : ℕ) (s : Stub) (finish : ℕ) → slice_get stubs k ≡ Some s → is_exact s.word ≡ false
    → unknown_into child (set stubs k (told_word (Exact finish) s)) + cond {A = ℕ} (eqb s.child child) 1 0 ≡ unknown_into child stubs
unknown_told child [] k s finish there e = absurd (none-some s there)
unknown_told child (t ∷ stubs) zero s finish there e =
    let same : t ≡ s = same_Some t s there in
    subst (λ (z : Stub). cond (eqb s.child child && false) 1 0 + unknown_into child stubs + cond {A = ℕ} (eqb s.child child) 1 0 ≡ cond (eqb z.child child && not (is_exact z.word)) 1 0 + unknown_into child stubs) (sym same)
    (by_test (eqb s.child child) (is_exact s.word) e)
  where
    by_test : (u v : Bool) → v ≡ false → cond (u && false) 1 0 + unknown_into child stubs + cond {A = ℕ} u 1 0 ≡ cond (u && not v) 1 0 + unknown_into child stubs
    by_test true false e = omega arith
    by_test true true e = absurd (false≢true (sym e))
    by_test false v e = omega arith
unknown_told child (t ∷ stubs) (suc k) s finish there e = omega (arith, unknown_told child stubs k s finish there e)

pub told_told : (child : ℕ) (stubs : List Stub) (k : ℕ) (s : Stub) (finish : ℕ) → slice_get stubs k ≡ Some s → is_exact s.word ≡ false
    → told_into child (set stubs k (told_word (Exact finish) s)) ≡ max (told_into child stubs) (cond (eqb s.child child) (finish + s.delay) 0)
told_told child [] k s finish there e = absurd (none-some s there)
told_told child (t ∷ stubs) zero s finish there e =
    let same : t ≡ s = same_Some t s there in
    subst (λ (z : Stub). max (cond (eqb s.child child && true) (finish + s.delay) 0) (told_into child stubs)
    ≡ max (max (cond (eqb z.child child && is_exact z.word) (cycle_of z.word + z.delay) 0) (told_into child stubs)) (cond (eqb s.child child) (finish + s.delay) 0)) (sym same)
    (by_test (eqb s.child child) (is_exact s.word) e)
  where
    by_test : (u v : Bool) → v ≡ false → max (cond (u && true) (finish + s.delay) 0) (told_into child stubs)
        ≡ max (max (cond (u && v) (cycle_of s.word + s.delay) 0) (told_into child stubs)) (cond u (finish + s.delay) 0)
    by_test true false e = omega arith
    by_test true true e = absurd (false≢true (sym e))
    by_test false v e = omega arith
told_told child (t ∷ stubs) (suc k) s finish there e =
    let rest = told_told child stubs k s finish there e in
    omega (arith, rest)

-- another bound changes neither
pub unknown_raised : (child : ℕ) (stubs : List Stub) (k : ℕ) (s : Stub) (bound : ℕ) → slice_get stubs k ≡ Some s → is_exact s.word ≡ false
    → unknown_into child (set stubs k (told_word (Bound bound) s)) ≡ unknown_into child stubs
unknown_raised child [] k s bound there e = absurd (none-some s there)
unknown_raised child (t ∷ stubs) zero s bound there e =
    let same : t ≡ s = same_Some t s there in
    let open_t : is_exact t.word ≡ false = ap (λ (z : Stub). is_exact z.word) same ∙ e in
    ap (λ (z : Stub). cond (eqb z.child child && true) 1 0 + unknown_into child stubs) (sym same)
    ∙ ap (λ (v : Bool). cond (eqb t.child child && not v) 1 0 + unknown_into child stubs) (sym open_t)
unknown_raised child (t ∷ stubs) (suc k) s bound there e = ap (λ n. cond (eqb t.child child && not (is_exact t.word)) 1 0 + n) (unknown_raised child stubs k s bound there e)

pub told_raised : (child : ℕ) (stubs : List Stub) (k : ℕ) (s : Stub) (bound : ℕ) → slice_get stubs k ≡ Some s → is_exact s.word ≡ false
    → told_into child (set stubs k (told_word (Bound bound) s)) ≡ told_into child stubs
told_raised child [] k s bound there e = absurd (none-some s there)
told_raised child (t ∷ stubs) zero s bound there e =
    let same : t ≡ s = same_Some t s there in
    let open_t : is_exact t.word ≡ false = ap (λ (z : Stub). is_exact z.word) same ∙ e in
    by_test (eqb s.child child) (eqb t.child child) (is_exact t.word) open_t
  where
    by_test : (u w v : Bool) → v ≡ false → max (cond (u && false) (bound + s.delay) 0) (told_into child stubs) ≡ max (cond (w && v) (cycle_of t.word + t.delay) 0) (told_into child stubs)
    by_test true true false e = refl
    by_test true false v e = refl
    by_test false true false e = refl
    by_test false false v e = refl
    by_test u true true e = absurd (false≢true (sym e))
told_raised child (t ∷ stubs) (suc k) s bound there e =
    ap (λ n. max (cond (eqb t.child child && is_exact t.word) (cycle_of t.word + t.delay) 0) n) (told_raised child stubs k s bound there e)

-- the words after one stub is told another
set_numbers : (stubs : List Stub) (k : ℕ) (s : Stub) (word : Word) (i : ℕ) (t : Stub) → slice_get stubs k ≡ Some s → slice_get (set stubs k (told_word word s)) i ≡ Some t
    → (u : Stub) × ((slice_get stubs i ≡ Some u) × (t ≡ told_word t.word u))
set_numbers stubs k s word i t there h =
    elim (cases_eq i k) [
      | inl same ↦
          let is : told_word word s ≡ t = same_Some (told_word word s) t (sym (get_set_same stubs k (told_word word s) s there) ∙ (ap (slice_get (set stubs k (told_word word s))) (sym same) ∙ h)) in
          (s, (ap (slice_get stubs) same ∙ there, subst (λ (z : Stub). z ≡ told_word z.word s) is refl))
      | inr apart ↦ (t, (sym (get_set_other stubs k i (told_word word s) apart) ∙ h, refl))
    ]

-- told stubs stand for the same crossings
pub still_stubs : (events : List Event) (p : Partition) (domain : ℕ) (here : List Event) (stubs : List Stub) (k : ℕ) (s : Stub) (word : Word) → AreStubs events p domain here stubs → slice_get stubs k ≡ Some s
    → AreStubs events p domain here (set stubs k (told_word word s))
still_stubs events p domain here stubs k s word are there = record {
  each = λ i t h.
      let u = set_numbers stubs k s word i t there h in
      let e = are.each i u.0 u.1.0 in
      subst (IsStubOf events p domain here) (sym u.1.1)
      (record { crossing = e.crossing; there = e.there; target = e.target; delay = e.delay; latency = e.latency; child = e.child; child_there = e.child_there; child_is = e.child_is });
  covers = λ number x h target.
      let c = are.covers number x h target in
      elim (cases_eq c.0 k) [
        | inl same ↦
            let is : s ≡ c.1.0 = same_Some s c.1.0 (sym there ∙ (ap (slice_get stubs) (sym same) ∙ c.1.1.0)) in
            (k, (told_word word s, (get_set_same stubs k (told_word word s) s there, ap (λ (z : Stub). z.number) is ∙ c.1.1.1)))
        | inr apart ↦ (c.0, (c.1.0, (get_set_other stubs k c.0 (told_word word s) apart ∙ c.1.1.0, c.1.1.1)))
      ];
  rising = λ i j t v l a b.
      let u = set_numbers stubs k s word i t there a in
      let w = set_numbers stubs k s word j v there b in
      let r : u.0.number < w.0.number = are.rising i j u.0 w.0 l u.1.0 w.1.0 in
      let tn : t.number ≡ u.0.number = ap (λ (z : Stub). z.number) u.1.1 in
      let vn : v.number ≡ w.0.number = ap (λ (z : Stub). z.number) w.1.1 in
      omega (arith, r, tn, vn);
}
