-- A domain after it was told a word.
use Rattle.std.proofs.Common.{◌≡◌, ◌+◌, ◌-◌, ◌<◌, ◌≤◌, ◌^◌, ℕ, zero, suc, Bool, true, false, not, ◌&&◌, cond, eqb, max, List, [], ◌∷◌, length, map, set, get_or, Option, Some, slice_get, sym, ◌∙◌, ap, subst, refl, inl, inr, arith, length-set}
use Rattle.std.proofs.lemmas.Bool.{cases_eq, false≢true}
use Rattle.std.proofs.lemmas.Option.{same_Some, none-some, get_or_from_slice_get}
use Rattle.std.specs.List.{find, enumerate_from}
use Rattle.std.specs.Option.{option_map_or}
use Rattle.zs_num.specs.declared.time.Word.{Word}
use Rattle.zs_num.specs.declared.time.Word.TheVariants.{Bound, Exact}
use Rattle.event_graph.specs.declared.event.Event.{Event}
use Rattle.event_graph.specs.declared.event.Parent.{Parent}
use Rattle.event_graph.specs.OneListWeave.{FiredEvent, is_fired}
use Rattle.domain_map.specs.declared.crossing.Crossing.{Crossing}
use Rattle.domain_map.specs.Domains.{Partition}
use Rattle.weave_core.specs.declared.incoming.Stub.{Stub}
use Rattle.weave_core.specs.DomainCalls.{IsNoFall, MayTell}
use Rattle.weave_core.specs.DomainMachine.{DomainState, cycle_of, is_exact, word_at}
use Rattle.weave_core.specs.Layout.{AreHere, AreStubs, IsStubOf, Stands, crossing_word, fired_in, known_words, missing_at, pending, start_after_own, start_at, told_into, unknown_into}
use Rattle.weave_core.specs.Stubs.{told_word}
use Rattle.weave_core.specs.Waits.{Waits, told}
use Rattle.weave_core.proofs.Lists.{get_below}
use Rattle.weave_core.proofs.Updates.{get_set_other, get_set_same}
use Rattle.weave_core.proofs.Words.{apart_eq, is_eq, still_stubs, told_raised, told_told, unknown_raised, unknown_told, word_known, word_of_stub}

-- the words

pub same_enum : (f h : ℕ → Word) (n : ℕ) (xs : List Crossing) → ((j : ℕ) → n ≤ j → f j ≡ h j)
    → map (λ (at : ℕ × Crossing). f at.0) (enumerate_from n xs) ≡ map (λ (at : ℕ × Crossing). h at.0) (enumerate_from n xs)
same_enum f h n [] e = refl
same_enum f h n (y ∷ xs) e =
    let first : f n ≡ h n = e n (omega arith) in
    let rest = same_enum f h (n + 1) xs (λ j l. e j (omega (arith, l))) in
    ap (λ (z : Word). z ∷ map (λ (at : ℕ × Crossing). f at.0) (enumerate_from (n + 1) xs)) first ∙ ap (λ (zs : List Word). h n ∷ zs) rest

set_enum : (f h : ℕ → Word) (n : ℕ) (xs : List Crossing) (i m : ℕ) (v : Word) → m ≡ n + i → f m ≡ v → ((j : ℕ) → (j ≡ m → ⊥) → f j ≡ h j)
    → map (λ (at : ℕ × Crossing). f at.0) (enumerate_from n xs) ≡ set (map (λ (at : ℕ × Crossing). h at.0) (enumerate_from n xs)) i v
set_enum f h n [] i m v e is others = refl
set_enum f h n (y ∷ xs) zero m v e is others =
    let same : n ≡ m = omega (arith, e) in
    let rest = same_enum f h (n + 1) xs (λ j l. others j (λ (q : j ≡ m). absurd (omega (arith, e, q, l)))) in
    ap (λ (z : Word). z ∷ map (λ (at : ℕ × Crossing). f at.0) (enumerate_from (n + 1) xs)) (ap f same ∙ is) ∙ ap (λ (zs : List Word). v ∷ zs) rest
set_enum f h n (y ∷ xs) (suc i) m v e is others =
    let first : f n ≡ h n = others n (λ (q : n ≡ m). absurd (omega (arith, e, q))) in
    let rest = set_enum f h (n + 1) xs i m v (omega (arith, e)) is others in
    ap (λ (z : Word). z ∷ map (λ (at : ℕ × Crossing). f at.0) (enumerate_from (n + 1) xs)) first ∙ ap (λ (zs : List Word). h n ∷ zs) rest

find_other : (stubs : List Stub) (k m : ℕ) (s : Stub) (word : Word) → slice_get stubs k ≡ Some s → (m ≡ s.number → ⊥) → crossing_word (set stubs k (told_word word s)) m ≡ crossing_word stubs m
find_other [] k m s word there apart = refl
find_other (t ∷ stubs) zero m s word there apart =
    let same : t ≡ s = same_Some t s there in
    let test : eqb s.number m ≡ false = apart_eq s.number m (λ e. apart (sym e)) in
    let test_t : eqb t.number m ≡ false = ap (λ (z : Stub). eqb z.number m) same ∙ test in
    ap (λ (u : Bool). option_map_or (λ (z : Stub). z.word) (cond u (Some (told_word word s)) (find (λ (z : Stub). eqb z.number m) stubs)) (Bound 0)) test
    ∙ sym (ap (λ (u : Bool). option_map_or (λ (z : Stub). z.word) (cond u (Some t) (find (λ (z : Stub). eqb z.number m) stubs)) (Bound 0)) test_t)
find_other (t ∷ stubs) (suc k) m s word there apart = by_test (find_other stubs k m s word there apart) (eqb t.number m)
  where
    by_test : crossing_word (set stubs k (told_word word s)) m ≡ crossing_word stubs m → (u : Bool)
        → option_map_or (λ (z : Stub). z.word) (cond u (Some t) (find (λ (z : Stub). eqb z.number m) (set stubs k (told_word word s)))) (Bound 0)
        ≡ option_map_or (λ (z : Stub). z.word) (cond u (Some t) (find (λ (z : Stub). eqb z.number m) stubs)) (Bound 0)
    by_test rest true = refl
    by_test rest false = rest

set_itself : {X : Type 0} (xs : List X) (i : ℕ) (x : X) → slice_get xs i ≡ Some x → set xs i x ≡ xs
set_itself [] i x h = refl
set_itself (y ∷ ys) zero x h = ap (λ (z : _). z ∷ ys) (sym (same_Some y x h))
set_itself (y ∷ ys) (suc i) x h = ap (λ (zs : List _). y ∷ zs) (set_itself ys i x h)

-- how many have fired

one_fired : ℕ → ℕ
one_fired wait = cond (eqb wait 4294967295) 1 0

fired_set : (waits : List ℕ) (place was now : ℕ) → slice_get waits place ≡ Some was → (was ≡ 4294967295 → ⊥) → (now ≡ 4294967295 → ⊥) → fired_in (set waits place now) ≡ fired_in waits
fired_set [] place was now h a b = absurd (none-some was h)
fired_set (w ∷ waits) zero was now h a b =
    let same : w ≡ was = same_Some w was h in
    let x : eqb w 4294967295 ≡ false = apart_eq w 4294967295 (λ e. a (sym same ∙ e)) in
    let y : eqb now 4294967295 ≡ false = apart_eq now 4294967295 b in
    ap (λ (t : Bool). cond {A = ℕ} t 1 0 + fired_in waits) (y ∙ sym x)
fired_set (w ∷ waits) (suc place) was now h a b = ap (λ n. cond {A = ℕ} (eqb w 4294967295) 1 0 + n) (fired_set waits place was now h a b)

pub fired_told : (w : Waits) (place at was : ℕ) → slice_get w.waits place ≡ Some was → was < 4294967295 → fired_in (told w place at).waits ≡ fired_in w.waits
fired_told w place at was h l =
    let read : get_or w.waits place 0 ≡ was = get_or_from_slice_get w.waits place was 0 h in
    fired_set w.waits place was (get_or w.waits place 0 - 1) h (λ (e : was ≡ 4294967295). absurd (omega (arith, e, l))) (λ (e : get_or w.waits place 0 - 1 ≡ 4294967295). absurd (omega (arith, e, read, l)))

pub unknown_few : (child : ℕ) (stubs : List Stub) → unknown_into child stubs ≤ length stubs
unknown_few child [] = omega arith
unknown_few child (s ∷ stubs) = by_test (unknown_few child stubs) (eqb s.child child && not (is_exact s.word))
  where
    by_test : unknown_into child stubs ≤ length stubs → (t : Bool) → cond t 1 0 + unknown_into child stubs ≤ length (s ∷ stubs)
    by_test rest true = omega (arith, rest)
    by_test rest false = omega (arith, rest)

-- what is kept of the graph doesn't read the words or the floor
pub stands_alike : (events : List Event) (p : Partition) (domain : ℕ) (here : List Event) (stubs : List Stub) (w : Waits) (fired : List FiredEvent) (known other : List Word) (floor over : ℕ)
    → Stands events p domain (record { fired = fired; known = known; floor = floor }) here stubs w → Stands events p domain (record { fired = fired; known = other; floor = over }) here stubs w
stands_alike events p domain here stubs w fired known other floor over s = record {
  starts_size = s.starts_size;
  waits_size = s.waits_size;
  waits = s.waits;
  starts = s.starts;
  finished = s.finished;
  agree = s.agree;
}

pending_few : (events : List Event) (p : Partition) (domain : ℕ) (own : DomainState) (q : Option Parent) → pending events p domain own q ≤ 1
pending_few events p domain own q = by_test _
  where
    by_test : (t : Bool) → cond {A = ℕ} t 0 1 ≤ 1
    by_test true = omega arith
    by_test false = omega arith

module _ (events : List Event) (p : Partition) (domain : ℕ) (here : List Event) (stubs : List Stub) (own : DomainState) (w : Waits)
    (are_here : AreHere events p domain here) (are : AreStubs events p domain here stubs)
    (known : own.known ≡ known_words p.crossings stubs) (stands : Stands events p domain own here stubs w)
    (number : ℕ) (word : Word) (may : MayTell events p domain own number word)
    (k : ℕ) (s : Stub) (there : slice_get stubs k ≡ Some s) (number_is : s.number ≡ number) where
  abbrev after : List Stub
  after = set stubs k (told_word word s)

  word_here : (i : ℕ) (t : Stub) → slice_get stubs i ≡ Some t → word_at own.known t.number ≡ t.word
  word_here i t h = ap (λ ws. word_at ws t.number) known ∙ word_known events p domain here stubs are i t h

  was : word_at own.known number ≡ s.word
  was = ap (λ n. word_at own.known n) (sym number_is) ∙ word_here k s there

  pub known_after : known_words p.crossings after ≡ set own.known number word
  known_after =
      let mine : crossing_word after number ≡ word =
      ap (λ n. crossing_word after n) (sym number_is)
      ∙ word_of_stub events p domain here after (still_stubs events p domain here stubs k s word are there) k (told_word word s) (get_set_same stubs k (told_word word s) s there)
      in
      set_enum (crossing_word after) (crossing_word stubs) 0 p.crossings number number word (omega arith) mine
      (λ j apart. find_other stubs k j s word there (λ (e : j ≡ s.number). apart (e ∙ number_is)))
      ∙ ap (λ (ws : List Word). set ws number word) (sym known)

  -- a bound is told only where the finish isn't known, and is no lower
  pub later : is_exact word ≡ false → (is_exact s.word ≡ false) × (cycle_of s.word ≤ cycle_of word)
  later unknown = by_words s.word word (subst (λ (z : Word). IsNoFall events p domain own number may.crossing z word) was may.no_fall) unknown
    where
      by_words : (a b : Word) → IsNoFall events p domain own number may.crossing a b → is_exact b ≡ false → (is_exact a ≡ false) × (cycle_of a ≤ cycle_of b)
      by_words (Bound a) (Bound b) h u = (refl, h)
      by_words (Exact a) (Bound b) h u = absurd h
      by_words a (Exact b) h u = absurd (false≢true (sym u))

  -- a known finish stays
  pub unchanged : is_exact s.word ≡ true → after ≡ stubs
  unchanged exact =
      let same : word ≡ s.word = by_words s.word word (subst (λ (z : Word). IsNoFall events p domain own number may.crossing z word) was may.no_fall) exact in
      ap (λ (z : Word). set stubs k (told_word z s)) same ∙ set_itself stubs k s there
    where
      by_words : (a b : Word) → IsNoFall events p domain own number may.crossing a b → is_exact a ≡ true → b ≡ a
      by_words (Bound a) b h e = absurd (false≢true e)
      by_words (Exact a) (Bound b) h e = absurd h
      by_words (Exact a) (Exact b) h e = ap (λ n. Exact n) h

  agree_after : (i j : ℕ) (t v : Stub) (x y : Crossing) → slice_get after i ≡ Some t → slice_get after j ≡ Some v → slice_get p.crossings t.number ≡ Some x → slice_get p.crossings v.number ≡ Some y
      → is_exact t.word ≡ true → is_exact v.word ≡ true → x.parent ≡ y.parent → cycle_of t.word ≡ cycle_of v.word
  agree_after i j t v x y a b xt yt et ev parents =
      elim (cases_eq i k) [
        | inl ik ↦
            let t_is : told_word word s ≡ t = same_Some (told_word word s) t (sym (get_set_same stubs k (told_word word s) s there) ∙ (ap (slice_get after) (sym ik) ∙ a)) in
            elim (cases_eq j k) [
              | inl jk ↦ ap (λ (z : Stub). cycle_of z.word) (same_Some t v (sym a ∙ (ap (slice_get after) (ik ∙ sym jk) ∙ b)))
              | inr jo ↦
                  ap (λ (z : Stub). cycle_of z.word) (sym t_is)
                  ∙ other j v y x (sym (get_set_other stubs k j (told_word word s) jo) ∙ b) yt (ap (λ (z : Stub). slice_get p.crossings z.number) t_is ∙ xt) (sym parents) ev (ap (λ (z : Stub). is_exact z.word) t_is ∙ et)
            ]
        | inr io ↦
            elim (cases_eq j k) [
              | inl jk ↦
                  let v_is : told_word word s ≡ v = same_Some (told_word word s) v (sym (get_set_same stubs k (told_word word s) s there) ∙ (ap (slice_get after) (sym jk) ∙ b)) in
                  sym (ap (λ (z : Stub). cycle_of z.word) (sym v_is)
                  ∙ other i t x y (sym (get_set_other stubs k i (told_word word s) io) ∙ a) xt (ap (λ (z : Stub). slice_get p.crossings z.number) v_is ∙ yt) parents et (ap (λ (z : Stub). is_exact z.word) v_is ∙ ev))
              | inr jo ↦
                  stands.agree i j t v x y (sym (get_set_other stubs k i (told_word word s) io) ∙ a) (sym (get_set_other stubs k j (told_word word s) jo) ∙ b) xt yt et ev parents
            ]
      ]
    where
      -- the word agrees with another known finish
      other : (j : ℕ) (v : Stub) (y x : Crossing) → slice_get stubs j ≡ Some v → slice_get p.crossings v.number ≡ Some y → slice_get p.crossings s.number ≡ Some x → y.parent ≡ x.parent
          → is_exact v.word ≡ true → is_exact word ≡ true → cycle_of word ≡ cycle_of v.word
      other j v y x h yt xs parents ev ew =
          let x_is : x ≡ may.crossing = same_Some x may.crossing (sym xs ∙ (ap (slice_get p.crossings) number_is ∙ may.there)) in
          may.agrees v.number y yt (parents ∙ ap (λ (z : Crossing). z.parent) x_is) (ap is_exact (word_here j v h) ∙ ev) ew ∙ ap cycle_of (word_here j v h)

  -- another bound
  pub stands_raised : is_exact word ≡ false → Stands events p domain own here after w
  stands_raised unknown =
      let l = later unknown in
      let b : word ≡ Bound (cycle_of word) = is_bound word unknown in
      let same_unknown : (j : ℕ) → unknown_into j after ≡ unknown_into j stubs =
      λ j. ap (λ (z : Word). unknown_into j (set stubs k (told_word z s))) b ∙ unknown_raised j stubs k s (cycle_of word) there l.0
      in
      let same_told : (j : ℕ) → told_into j after ≡ told_into j stubs =
      λ j. ap (λ (z : Word). told_into j (set stubs k (told_word z s))) b ∙ told_raised j stubs k s (cycle_of word) there l.0
      in
      record {
        starts_size = stands.starts_size;
        waits_size = stands.waits_size;
        waits = λ place e h.
            stands.waits place e h
            ∙ ap (λ n. Some (cond (is_fired own.fired e.number) 4294967295 (pending events p domain own e.first + pending events p domain own e.second + n))) (sym (same_unknown place));
        starts = λ place e h.
            stands.starts place e h
            ∙ ap (λ n. Some (max e.min_start (max (max (start_after_own events p domain own e.first) (start_after_own events p domain own e.second)) n))) (sym (same_told place));
        finished = λ place e h fired. omega (arith, stands.finished place e h fired, same_unknown place);
        agree = agree_after;
      }
    where
      is_bound : (z : Word) → is_exact z ≡ false → z ≡ Bound (cycle_of z)
      is_bound (Bound b) u = refl
      is_bound (Exact f) u = absurd (false≢true (sym u))

  -- the finish
  module _ (finish : ℕ) (is : word ≡ Exact finish) (unknown : is_exact s.word ≡ false) where
    less : (j : ℕ) → unknown_into j after + cond {A = ℕ} (eqb s.child j) 1 0 ≡ unknown_into j stubs
    less j = ap (λ (z : Word). unknown_into j (set stubs k (told_word z s)) + cond {A = ℕ} (eqb s.child j) 1 0) is ∙ unknown_told j stubs k s finish there unknown

    more : (j : ℕ) → told_into j after ≡ max (told_into j stubs) (cond (eqb s.child j) (finish + s.delay) 0)
    more j = ap (λ (z : Word). told_into j (set stubs k (told_word z s))) is ∙ told_told j stubs k s finish there unknown

    pub child : IsStubOf events p domain here s
    child = are.each k s there

    one_here : cond {A = ℕ} (eqb s.child s.child) 1 0 ≡ 1
    one_here = ap (λ (t : Bool). cond {A = ℕ} t 1 0) (is_eq s.child s.child refl)

    some_missing : 0 < missing_at events p domain own s.child child.child stubs
    some_missing = omega (arith, less s.child, one_here)

    child_unfired : is_fired own.fired child.child.number ≡ false
    child_unfired = by_test (is_fired own.fired child.child.number) refl
      where
        by_test : (t : Bool) → is_fired own.fired child.child.number ≡ t → is_fired own.fired child.child.number ≡ false
        by_test true v = absurd (omega (arith, some_missing, stands.finished s.child child.child child.child_there v))
        by_test false v = v

    pub wait_is : slice_get w.waits s.child ≡ Some (missing_at events p domain own s.child child.child stubs)
    wait_is = stands.waits s.child child.child child.child_there ∙ ap (λ (t : Bool). Some (cond t 4294967295 (missing_at events p domain own s.child child.child stubs))) child_unfired

    wait_read : get_or w.waits s.child 0 ≡ missing_at events p domain own s.child child.child stubs
    wait_read = get_or_from_slice_get w.waits s.child _ 0 wait_is

    pub child_within : s.child < length w.waits
    child_within = get_below w.waits s.child _ wait_is

    pub child_waits : 0 < get_or w.waits s.child 0
    child_waits = omega (arith, wait_read, some_missing)

    pub child_few : length stubs < 2 ^ 31 → get_or w.waits s.child 0 < 4294967295
    child_few few = omega (arith, wait_read, pending_few events p domain own child.child.first, pending_few events p domain own child.child.second, unknown_few s.child stubs, few)

    start_is : slice_get w.starts s.child ≡ Some (start_at events p domain own s.child child.child stubs)
    start_is = stands.starts s.child child.child child.child_there

    pub stands_told : Stands events p domain own here after (told w s.child (finish + s.delay))
    stands_told = record {
      starts_size = length-set w.starts s.child _ ∙ stands.starts_size;
      waits_size = length-set w.waits s.child _ ∙ stands.waits_size;
      waits = λ place e h.
          elim (cases_eq place s.child) [
            | inl same ↦
                let e_is : child.child ≡ e = same_Some child.child e (sym child.child_there ∙ (ap (slice_get here) (sym same) ∙ h)) in
                let unfired : is_fired own.fired e.number ≡ false = ap (λ (z : Event). is_fired own.fired z.number) (sym e_is) ∙ child_unfired in
                let missing : missing_at events p domain own s.child child.child stubs ≡ missing_at events p domain own place e stubs =
                ap (λ (z : Event). missing_at events p domain own s.child z stubs) e_is ∙ ap (λ n. missing_at events p domain own n e stubs) (sym same)
                in
                let one : cond {A = ℕ} (eqb s.child place) 1 0 ≡ 1 = ap (λ (t : Bool). cond {A = ℕ} t 1 0) (is_eq s.child place (sym same)) in
                let value : get_or w.waits s.child 0 - 1 ≡ missing_at events p domain own place e after = omega (arith, wait_read, missing, less place, one) in
                ap (slice_get (told w s.child (finish + s.delay)).waits) same
                ∙ (get_set_same w.waits s.child (get_or w.waits s.child 0 - 1) _ wait_is
                ∙ (ap (λ n. Some n) value ∙ ap (λ (t : Bool). Some (cond t 4294967295 (missing_at events p domain own place e after))) (sym unfired)))
            | inr apart ↦
                let none : cond {A = ℕ} (eqb s.child place) 1 0 ≡ 0 = ap (λ (t : Bool). cond {A = ℕ} t 1 0) (apart_eq s.child place (λ q. apart (sym q))) in
                let value : missing_at events p domain own place e stubs ≡ missing_at events p domain own place e after = omega (arith, less place, none) in
                get_set_other w.waits s.child place (get_or w.waits s.child 0 - 1) apart
                ∙ (stands.waits place e h ∙ ap (λ n. Some (cond (is_fired own.fired e.number) 4294967295 n)) value)
          ];
      starts = λ place e h.
          elim (cases_eq place s.child) [
            | inl same ↦
                let e_is : child.child ≡ e = same_Some child.child e (sym child.child_there ∙ (ap (slice_get here) (sym same) ∙ h)) in
                let start : get_or w.starts s.child 0 ≡ start_at events p domain own place e stubs =
                get_or_from_slice_get w.starts s.child _ 0 start_is
                ∙ (ap (λ (z : Event). start_at events p domain own s.child z stubs) e_is ∙ ap (λ n. start_at events p domain own n e stubs) (sym same))
                in
                let here_after : cond (eqb s.child place) (finish + s.delay) 0 ≡ finish + s.delay = ap (λ (t : Bool). cond t (finish + s.delay) 0) (is_eq s.child place (sym same)) in
                let value : max (get_or w.starts s.child 0) (finish + s.delay) ≡ start_at events p domain own place e after =
                joins_max e.min_start (start_after_own events p domain own e.first) (start_after_own events p domain own e.second) (told_into place stubs) (told_into place after) (finish + s.delay) (get_or w.starts s.child 0) start (more place ∙ ap (max (told_into place stubs)) here_after)
                in
                ap (slice_get (told w s.child (finish + s.delay)).starts) same ∙ (get_set_same w.starts s.child (max (get_or w.starts s.child 0) (finish + s.delay)) _ start_is ∙ ap (λ n. Some n) value)
            | inr apart ↦
                let none : cond (eqb s.child place) (finish + s.delay) 0 ≡ 0 = ap (λ (t : Bool). cond t (finish + s.delay) 0) (apart_eq s.child place (λ q. apart (sym q))) in
                let value : start_at events p domain own place e stubs ≡ start_at events p domain own place e after = omega (arith, more place, none) in
                get_set_other w.starts s.child place (max (get_or w.starts s.child 0) (finish + s.delay)) apart ∙ (stands.starts place e h ∙ ap (λ n. Some n) value)
          ];
      finished = λ place e h fired. omega (arith, stands.finished place e h fired, less place);
      agree = agree_after;
    }
      where
        joins_max : (m a b t u f s : ℕ) → s ≡ max m (max (max a b) t) → u ≡ max t f → max s f ≡ max m (max (max a b) u)
        joins_max m a b t u f s e g = omega (arith, e, g)
