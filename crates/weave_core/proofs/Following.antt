-- A domain keeps to a solution through each of its calls.
use Rattle.std.proofs.Common.{◌≡◌, ◌+◌, ◌<◌, ◌≤◌, ℕ, zero, suc, Bool, true, false, cond, eqb, max, List, [], ◌∷◌, ◌++◌, length, map, set, take, get_or, ◌⊎◌, Some, slice_get, sym, ◌∙◌, ap, subst, refl, inl, inr, arith}
use Rattle.std.proofs.lemmas.Bool.{false≢true}
use Rattle.std.proofs.lemmas.List.{length_push}
use Rattle.std.proofs.lemmas.Option.{same_Some, none-some}
use Rattle.std.specs.List.{filter, enumerate_from}
use Rattle.zs_num.specs.declared.time.Word.{Word}
use Rattle.zs_num.specs.declared.time.Word.TheVariants.{Bound, Exact}
use Rattle.component.specs.declared.kind.Kind.{Kind}
use Rattle.event_graph.specs.declared.event.Event.{Event}
use Rattle.event_graph.specs.OneListWeave.{FiredEvent, finish_in}
use Rattle.event_graph.specs.ServedEvents.{after_serving, of_component}
use Rattle.domain_map.specs.declared.crossing.Crossing.{Crossing}
use Rattle.domain_map.specs.Domains.{Partition}
use Rattle.weave_core.specs.DomainCalls.{IsNoFall, MayTell, comps_in, with_known}
use Rattle.weave_core.specs.DomainMachine.{DomainState, bound_of, cycle_of, is_exact, latency_at, with_floor, word_at}
use Rattle.weave_core.specs.Interleavings.{IsFront}
use Rattle.weave_core.specs.Layout.{place_in}
use Rattle.weave_core.specs.Soundness.{AreSoundBounds, AreSoundWords, IsSoundWord}
use Rattle.weave_core.proofs.Updates.{read_after}
use Rattle.weave_core.proofs.Words.{apart_eq, is_eq}

-- a word

module _ (events : List Event) (timed : List FiredEvent) (p : Partition) (domain : ℕ) (own : DomainState) (number : ℕ) (word : Word) (may : MayTell events p domain own number word)
    (known : AreSoundWords timed p (with_known own number word).known) (bounds : AreSoundBounds events timed p domain (with_known own number word)) where
  alike : (n : ℕ) → ((n ≡ number) × (word_at (with_known own number word).known n ≡ word)) ⊎ (word_at (with_known own number word).known n ≡ word_at own.known n)
  alike n = read_after own.known number word (Bound 0) n

  pub words_before : AreSoundWords timed p own.known
  words_before = record {
    each = λ n x h.
        elim (alike n) [
          | inr same ↦ subst (IsSoundWord timed x) same (known.each n x h)
          | inl is ↦
              let x_is : x ≡ may.crossing = same_Some x may.crossing (sym h ∙ (ap (slice_get p.crossings) is.0 ∙ may.there)) in
              subst (λ (m : ℕ). IsSoundWord timed x (word_at own.known m)) (sym is.0)
              (by_words x x_is (word_at own.known number) refl word may.no_fall (subst (IsSoundWord timed x) is.1 (known.each n x h)))
        ];
  }
    where
      by_words : (x : Crossing) → x ≡ may.crossing → (a : Word) → word_at own.known number ≡ a → (b : Word) → IsNoFall events p domain own number may.crossing a b → IsSoundWord timed x b → IsSoundWord timed x a
      by_words x e (Bound a) w (Bound b) fall sound = omega (arith, fall, sound)
      by_words x e (Exact a) w (Bound b) fall sound = absurd fall
      by_words x e (Bound a) w (Exact b) fall sound =
          let cycle : cycle_of (word_at own.known number) ≡ a = ap cycle_of w in
          omega (arith, fall, sound, cycle)
      by_words x e (Exact a) w (Exact b) fall sound = omega (arith, fall, sound)

  pub bounds_before : AreSoundBounds events timed p domain own
  bounds_before = record {
    each = λ n x h target unknown.
        elim (alike n) [
          | inr same ↦
              let now : bound_of events p (with_known own number word) n x ≤ finish_in timed x.parent = bounds.each n x h target (ap is_exact same ∙ unknown) in
              omega (arith, now, ap cycle_of same)
          | inl is ↦
              let x_is : x ≡ may.crossing = same_Some x may.crossing (sym h ∙ (ap (slice_get p.crossings) is.0 ∙ may.there)) in
              by_words n x is.0 x_is target h (ap (λ m. is_exact (word_at own.known m)) (sym is.0) ∙ unknown) (word_at own.known number) refl word is.1 may.no_fall (known.each n x h)
        ];
  }
    where
      by_words : (n : ℕ) (x : Crossing) → n ≡ number → x ≡ may.crossing → x.target ≡ domain → slice_get p.crossings n ≡ Some x → is_exact (word_at own.known number) ≡ false → (a : Word) → word_at own.known number ≡ a → (b : Word)
          → word_at (with_known own number word).known n ≡ b → IsNoFall events p domain own number may.crossing a b → IsSoundWord timed x (word_at (with_known own number word).known n)
          → bound_of events p own n x ≤ finish_in timed x.parent
      by_words n x is e target h u (Bound a) w (Exact f) now fall sound =
          let told : f ≡ finish_in timed x.parent = subst (IsSoundWord timed x) now sound in
          let bound : bound_of events p own n x ≡ bound_of events p own number may.crossing = ap (λ m. bound_of events p own m x) is ∙ ap (bound_of events p own number) e in
          omega (arith, bound, fall, told)
      by_words n x is e target h u (Exact g) w (Exact f) now fall sound = absurd (false≢true (sym u ∙ ap is_exact w))
      by_words n x is e target h u (Bound a) w (Bound b) now fall sound =
          let known_is : is_exact (word_at (with_known own number word).known n) ≡ false = ap is_exact now in
          let later : bound_of events p (with_known own number word) n x ≤ finish_in timed x.parent = bounds.each n x h target known_is in
          let cycle : cycle_of (word_at own.known n) ≡ a = ap (λ m. cycle_of (word_at own.known m)) is ∙ ap cycle_of w in
          omega (arith, later, cycle, ap cycle_of now, fall)
      by_words n x is e target h u (Exact a) w (Bound b) now fall sound = absurd fall

-- a floor

pub floor_before : (events : List Event) (timed : List FiredEvent) (p : Partition) (domain : ℕ) (own : DomainState) (floor : ℕ) → own.floor ≤ floor → AreSoundBounds events timed p domain (with_floor floor own) → AreSoundBounds events timed p domain own
floor_before events timed p domain own floor l bounds = record {
  each = λ n x h target unknown.
      let now : bound_of events p (with_floor floor own) n x ≤ finish_in timed x.parent = bounds.each n x h target unknown in
      lower (cycle_of (word_at own.known n)) own.floor floor (latency_at events x.parent) (finish_in timed x.parent) l now;
}
  where
    lower : (c a b l f : ℕ) → a ≤ b → max c (b + l) ≤ f → max c (a + l) ≤ f
    lower c a b l f h k = omega arith

-- one event more

take_next : {X : Type 0} (xs : List X) (n : ℕ) (x : X) → slice_get xs n ≡ Some x → take (suc n) xs ≡ take n xs ++ x ∷ []
take_next [] n x h = absurd (none-some x h)
take_next (y ∷ xs) zero x h = ap (λ (z : _). z ∷ []) (same_Some y x h)
take_next (y ∷ xs) (suc n) x h = ap (λ (zs : List _). y ∷ zs) (take_next xs n x h)

pub longer_front : (front xs : List FiredEvent) (x : FiredEvent) → IsFront front xs → slice_get xs (length front) ≡ Some x → IsFront (front ++ x ∷ []) xs
longer_front front xs x is h =
    let size : suc (length front) ≡ length (front ++ x ∷ []) = omega (arith, length_push front x) in
    ap (λ (ys : List FiredEvent). ys ++ x ∷ []) is ∙ (sym (take_next xs (length front) x h) ∙ ap (λ n. take n xs) size)

module _ {C : Type 0} (stepped : C → Kind → ℕ → C × ℕ) where
  pub served_next : (c : C) (xs : List FiredEvent) (x : FiredEvent) → after_serving stepped c (xs ++ x ∷ []) ≡ (stepped (after_serving stepped c xs) x.event.kind x.start).0
  served_next c [] x = refl
  served_next c (y ∷ xs) x = served_next (stepped c y.event.kind y.start).0 xs x

  mine_next : (n : ℕ) (xs : List FiredEvent) (x : FiredEvent) → x.event.component ≡ n → of_component n (xs ++ x ∷ []) ≡ of_component n xs ++ x ∷ []
  mine_next n [] x e = ap (λ (t : Bool). cond t (x ∷ []) []) (is_eq x.event.component n e)
  mine_next n (y ∷ xs) x e = by_test (mine_next n xs x e) (eqb y.event.component n)
    where
      by_test : of_component n (xs ++ x ∷ []) ≡ of_component n xs ++ x ∷ [] → (t : Bool)
          → cond t (y ∷ of_component n (xs ++ x ∷ [])) (of_component n (xs ++ x ∷ [])) ≡ cond t (y ∷ of_component n xs) (of_component n xs) ++ x ∷ []
      by_test rest true = ap (λ (zs : List FiredEvent). y ∷ zs) rest
      by_test rest false = rest

  others_next : (n : ℕ) (xs : List FiredEvent) (x : FiredEvent) → (x.event.component ≡ n → ⊥) → of_component n (xs ++ x ∷ []) ≡ of_component n xs
  others_next n [] x e = ap (λ (t : Bool). cond t (x ∷ []) []) (apart_eq x.event.component n e)
  others_next n (y ∷ xs) x e = by_test (others_next n xs x e) (eqb y.event.component n)
    where
      by_test : of_component n (xs ++ x ∷ []) ≡ of_component n xs → (t : Bool)
          → cond t (y ∷ of_component n (xs ++ x ∷ [])) (of_component n (xs ++ x ∷ [])) ≡ cond t (y ∷ of_component n xs) (of_component n xs)
      by_test rest true = ap (λ (zs : List FiredEvent). y ∷ zs) rest
      by_test rest false = rest

  -- the components, of which one served one event more
  abbrev pub left_by : List FiredEvent → ℕ × C → C
  left_by fired at = after_serving stepped at.1 (of_component at.0 fired)

  same_left : (fired : List FiredEvent) (x : FiredEvent) (n : ℕ) (all : List C) → x.event.component < n → map (left_by (fired ++ x ∷ [])) (enumerate_from n all) ≡ map (left_by fired) (enumerate_from n all)
  same_left fired x n [] l = refl
  same_left fired x n (c ∷ all) l =
      ap (λ (xs : List FiredEvent). after_serving stepped c xs ∷ map (left_by (fired ++ x ∷ [])) (enumerate_from (n + 1) all)) (others_next n fired x (λ e. absurd (omega (arith, l, e))))
      ∙ ap (λ (cs : List C). after_serving stepped c (of_component n fired) ∷ cs) (same_left fired x (n + 1) all (omega (arith, l)))

  pub set_left : (fired : List FiredEvent) (x : FiredEvent) (n i : ℕ) (all : List C) (c : C) → x.event.component ≡ n + i → slice_get all i ≡ Some c
      → map (left_by (fired ++ x ∷ [])) (enumerate_from n all) ≡ set (map (left_by fired) (enumerate_from n all)) i (stepped (after_serving stepped c (of_component x.event.component fired)) x.event.kind x.start).0
  set_left fired x n i [] c e h = absurd (none-some c h)
  set_left fired x n zero (d ∷ all) c e h =
      let n_is : x.event.component ≡ n = omega (arith, e) in
      ap (λ (xs : List FiredEvent). after_serving stepped d xs ∷ map (left_by (fired ++ x ∷ [])) (enumerate_from (n + 1) all)) (mine_next n fired x n_is)
      ∙ (ap (λ (z : C). z ∷ map (left_by (fired ++ x ∷ [])) (enumerate_from (n + 1) all)) (served_next d (of_component n fired) x)
      ∙ (ap (λ (cs : List C). (stepped (after_serving stepped d (of_component n fired)) x.event.kind x.start).0 ∷ cs) (same_left fired x (n + 1) all (omega (arith, n_is)))
      ∙ (ap (λ (m : ℕ). (stepped (after_serving stepped d (of_component m fired)) x.event.kind x.start).0 ∷ map (left_by fired) (enumerate_from (n + 1) all)) (sym n_is)
      ∙ ap (λ (z : C). (stepped (after_serving stepped z (of_component x.event.component fired)) x.event.kind x.start).0 ∷ map (left_by fired) (enumerate_from (n + 1) all)) (same_Some d c h))))
  set_left fired x n (suc i) (d ∷ all) c e h =
      ap (λ (xs : List FiredEvent). after_serving stepped d xs ∷ map (left_by (fired ++ x ∷ [])) (enumerate_from (n + 1) all)) (others_next n fired x (λ q. absurd (omega (arith, e, q))))
      ∙ ap (λ (cs : List C). after_serving stepped d (of_component n fired) ∷ cs) (set_left fired x (n + 1) i all c (omega (arith, e)) h)

  pub none_left : (n : ℕ) (all : List C) → map (left_by []) (enumerate_from n all) ≡ all
  none_left n [] = refl
  none_left n (c ∷ all) = ap (λ (cs : List C). c ∷ cs) (none_left (n + 1) all)

  pub left_at : (fired : List FiredEvent) (n i : ℕ) (all : List C) (m : ℕ) (c : C) → m ≡ n + i → slice_get all i ≡ Some c → slice_get (map (left_by fired) (enumerate_from n all)) i ≡ Some (after_serving stepped c (of_component m fired))
  left_at fired n i [] m c e h = absurd (none-some c h)
  left_at fired n zero (d ∷ all) m c e h =
      let n_is : n ≡ m = omega (arith, e) in
      ap (λ (z : C). Some (after_serving stepped z (of_component n fired))) (same_Some d c h) ∙ ap (λ k. Some (after_serving stepped c (of_component k fired))) n_is
  left_at fired n (suc i) (d ∷ all) m c e h = left_at fired (n + 1) i all m c (omega (arith, e)) h

-- the components of a domain, of which one changes
comps_from : {C : Type 0} (full : List ℕ) (domain n : ℕ) (places : List ℕ) (comps : List C) (i d : ℕ) (v : C) → ((j m : ℕ) → m ≡ n + j → j < length places → get_or full m 0 ≡ get_or places j 0)
    → slice_get places i ≡ Some d → d ≡ domain
    → map (λ (at : ℕ × C). at.1) (filter (λ (at : ℕ × C). eqb (get_or full at.0 0) domain) (enumerate_from n (set comps i v)))
    ≡ set (map (λ (at : ℕ × C). at.1) (filter (λ (at : ℕ × C). eqb (get_or full at.0 0) domain) (enumerate_from n comps))) (place_in places domain i) v
comps_from full domain n [] comps i d v same h e = absurd (none-some d h)
comps_from full domain n (x ∷ places) [] i d v same h e = refl
comps_from {C} full domain n (x ∷ places) (y ∷ comps) zero d v same h e =
    let first : get_or full n 0 ≡ domain = same 0 n (omega arith) (omega arith) ∙ (same_Some x d h ∙ e) in
    let rest : List (ℕ × C) = filter (λ (at : ℕ × C). eqb (get_or full at.0 0) domain) (enumerate_from (n + 1) comps) in
    by_test (eqb (get_or full n 0) domain) (is_eq (get_or full n 0) domain first)
  where
    by_test : (t : Bool) → t ≡ true
        → map (λ (at : ℕ × C). at.1) (cond t ((n, v) ∷ filter (λ (at : ℕ × C). eqb (get_or full at.0 0) domain) (enumerate_from (n + 1) comps)) (filter (λ (at : ℕ × C). eqb (get_or full at.0 0) domain) (enumerate_from (n + 1) comps)))
        ≡ set (map (λ (at : ℕ × C). at.1) (cond t ((n, y) ∷ filter (λ (at : ℕ × C). eqb (get_or full at.0 0) domain) (enumerate_from (n + 1) comps)) (filter (λ (at : ℕ × C). eqb (get_or full at.0 0) domain) (enumerate_from (n + 1) comps)))) 0 v
    by_test true q = refl
    by_test false q = absurd (false≢true q)
comps_from {C} full domain n (x ∷ places) (y ∷ comps) (suc i) d v same h e =
    by_test (comps_from full domain (n + 1) places comps i d v (λ j m q l. same (suc j) m (omega (arith, q)) (omega (arith, l))) h e) (eqb x domain) (eqb (get_or full n 0) domain)
    (ap (λ z. eqb z domain) (same 0 n (omega arith) (omega arith)))
  where
    by_test : map (λ (at : ℕ × C). at.1) (filter (λ (at : ℕ × C). eqb (get_or full at.0 0) domain) (enumerate_from (n + 1) (set comps i v)))
        ≡ set (map (λ (at : ℕ × C). at.1) (filter (λ (at : ℕ × C). eqb (get_or full at.0 0) domain) (enumerate_from (n + 1) comps))) (place_in places domain i) v
        → (t u : Bool) → u ≡ t
        → map (λ (at : ℕ × C). at.1) (cond u ((n, y) ∷ filter (λ (at : ℕ × C). eqb (get_or full at.0 0) domain) (enumerate_from (n + 1) (set comps i v))) (filter (λ (at : ℕ × C). eqb (get_or full at.0 0) domain) (enumerate_from (n + 1) (set comps i v))))
        ≡ set (map (λ (at : ℕ × C). at.1) (cond u ((n, y) ∷ filter (λ (at : ℕ × C). eqb (get_or full at.0 0) domain) (enumerate_from (n + 1) comps)) (filter (λ (at : ℕ × C). eqb (get_or full at.0 0) domain) (enumerate_from (n + 1) comps))))
        (length (cond t (x ∷ filter (λ z. eqb z domain) (take i places)) (filter (λ z. eqb z domain) (take i places)))) v
    by_test rest true true q = ap (λ (cs : List C). y ∷ cs) rest
    by_test rest false false q = rest
    by_test rest true false q = absurd (cc)
    by_test rest false true q = absurd (cc)

pub comps_set : {C : Type 0} (places : List ℕ) (domain : ℕ) (comps : List C) (i d : ℕ) (v : C) → slice_get places i ≡ Some d → d ≡ domain
    → comps_in places domain (set comps i v) ≡ set (comps_in places domain comps) (place_in places domain i) v
comps_set places domain comps i d v h e = comps_from places domain 0 places comps i d v (λ j m q l. let same : m ≡ j = omega (arith, q) in ap (λ n. get_or places n 0) same) h e
