-- Components are dealt to the lists of their domains, and gathered again.
use Rattle.std.proofs.Common.{◌≡◌, ◌+◌, ◌<◌, ◌≤◌, ℕ, zero, suc, Bool, true, false, cond, eqb, List, [], ◌∷◌, ◌++◌, Vec, length, map, set, get_or, Some, slice_get, sym, ◌∙◌, ap, subst, refl, inl, inr, arith, length-set, vec_capacity}
use Rattle.std.proofs.lemmas.Bool.{cases_eq}
use Rattle.std.proofs.lemmas.Bool.Decides.{nat_tests}
use Rattle.std.proofs.lemmas.List.{append-nil, append_assoc, length_push}
use Rattle.std.proofs.lemmas.Option.{same_Some, none-some, slice_get-map, slice_get_within}
use Rattle.std.specs.List.{enumerate_from, filter, remove}
use Rattle.std.specs.Option.{option_map}
use Rattle.std.specs.declared.alloc.Global.{Global}
use Rattle.domain_map.specs.Domains.{domain_at}
use Rattle.weave_core.specs.DomainCalls.{comps_in}
use Rattle.weave_run.specs.Dealing.{AreDealt, AreEmptyRooms, comps_from, items_of}
use Rattle.weave_run.proofs.Tellings.{get_set_other, get_set_same}

from_same : {C : Type 0} (places : List ℕ) (domain n : ℕ) (c : C) (rest : List C) → domain_at places n ≡ domain → comps_from places domain n (c ∷ rest) ≡ c ∷ comps_from places domain (n + 1) rest
from_same {C} places domain n c rest e =
    let t : eqb (domain_at places n) domain ≡ true = grind (arith, nat_tests) in
    ap (λ (b : Bool). map (λ (at : ℕ × C). at.1) (cond b ((n, c) ∷ filter (λ (at : ℕ × C). eqb (domain_at places at.0) domain) (enumerate_from (n + 1) rest)) (filter (λ (at : ℕ × C). eqb (domain_at places at.0) domain) (enumerate_from (n + 1) rest)))) t

from_other : {C : Type 0} (places : List ℕ) (domain n : ℕ) (c : C) (rest : List C) → (domain_at places n ≡ domain → ⊥) → comps_from places domain n (c ∷ rest) ≡ comps_from places domain (n + 1) rest
from_other {C} places domain n c rest e =
    let t : eqb (domain_at places n) domain ≡ false = apart (domain_at places n) domain e in
    ap (λ (b : Bool). map (λ (at : ℕ × C). at.1) (cond b ((n, c) ∷ filter (λ (at : ℕ × C). eqb (domain_at places at.0) domain) (enumerate_from (n + 1) rest)) (filter (λ (at : ℕ × C). eqb (domain_at places at.0) domain) (enumerate_from (n + 1) rest)))) t
  where
    apart : (a b : ℕ) → (a ≡ b → ⊥) → eqb a b ≡ false
    apart a b h = by_test (eqb a b) refl
      where
        by_test : (t : Bool) → eqb a b ≡ t → t ≡ false
        by_test false e = refl
        by_test true e = absurd (h (let q : a ≡ b = grind (arith, nat_tests) in q))

at_items : {C : Type 0} (lists : List (Vec C Global)) (d : ℕ) (xs : List C) → slice_get (items_of lists) d ≡ Some xs → (v : Vec C Global) × ((slice_get lists d ≡ Some v) × (v.items ≡ xs))
at_items [] d xs h = absurd (none-some xs h)
at_items (v ∷ lists) zero xs h = (v, (refl, same_Some v.items xs h))
at_items (v ∷ lists) (suc d) xs h = at_items lists d xs h

items_at : {C : Type 0} (lists : List (Vec C Global)) (d : ℕ) (v : Vec C Global) → slice_get lists d ≡ Some v → slice_get (items_of lists) d ≡ Some v.items
items_at {C} lists d v h = slice_get-map (λ (w : Vec C Global). w.items) lists d ∙ ap (option_map (λ (w : Vec C Global). w.items)) h

-- dealing, as far as it went

pub record IsDealtSo {C : Type 0} (places : List ℕ) (comps left : List C) (rooms : List (Vec C Global)) (index count : ℕ) : Type 0 where
  pub domains_are : length rooms ≡ count
  pub left_is : length left + index ≡ length places
  pub each : (d : ℕ) (r : Vec C Global) → slice_get rooms d ≡ Some r → r.items ++ comps_from places d index left ≡ comps_in places d comps
  pub room : (d : ℕ) (r : Vec C Global) → slice_get rooms d ≡ Some r → (length places ≤ vec_capacity r) × (length r.items ≤ index)

pub none_dealt : {C : Type 0} (places : List ℕ) (comps : List C) (rooms : List (Vec C Global)) → length places ≡ length comps → AreEmptyRooms (length rooms) (length places) rooms → IsDealtSo places comps comps rooms 0 (length rooms)
none_dealt {C} places comps rooms count e = record {
  domains_are = refl;
  left_is = omega (arith, count);
  each = λ d r at. ap (λ (xs : List C). xs ++ comps_from places d 0 comps) (e.empty d r at);
  room = λ d r at. (e.room d r at, (let n = ap length (e.empty d r at) in omega (arith, n)));
}

pub one_dealt : {C : Type 0} (places : List ℕ) (comps left : List C) (rooms : List (Vec C Global)) (index count : ℕ) (one : C) (rest : List C) (place : ℕ) (r s : Vec C Global) → IsDealtSo places comps left rooms index count
    → left ≡ one ∷ rest → place ≡ domain_at places index → slice_get rooms place ≡ Some r → s.items ≡ r.items ++ one ∷ [] → vec_capacity s ≡ vec_capacity r → IsDealtSo places comps rest (set rooms place s) (index + 1) count
one_dealt {C} places comps left rooms index count one rest place r s h is here at pushed same_room =
    let below : place < length rooms = slice_get_within rooms place r at in
    record {
      domains_are = length-set rooms place s ∙ h.domains_are;
      left_is = (let l = h.left_is in let e = ap length is in omega (arith, l, e));
      each = λ d u there.
          elim (cases_eq d place) [
            | inl same ↦
                let u_is : s ≡ u = same_Some s u (sym (get_set_same rooms place s below) ∙ (ap (slice_get (set rooms place s)) (sym same) ∙ there)) in
                let d_is : domain_at places index ≡ d = sym here ∙ sym same in
                ap (λ (v : Vec C Global). v.items ++ comps_from places d (index + 1) rest) (sym u_is)
                ∙ (ap (λ (xs : List C). xs ++ comps_from places d (index + 1) rest) pushed
                ∙ (append_assoc r.items (one ∷ []) (comps_from places d (index + 1) rest)
                ∙ (ap (λ (xs : List C). r.items ++ xs) (sym (from_same places d index one rest d_is))
                ∙ (ap (λ (xs : List C). r.items ++ comps_from places d index xs) (sym is) ∙ h.each d r (ap (slice_get rooms) same ∙ at)))))
            | inr other ↦
                ap (λ (xs : List C). u.items ++ xs) (sym (from_other places d index one rest (λ e. other (sym e ∙ sym here))))
                ∙ (ap (λ (xs : List C). u.items ++ comps_from places d index xs) (sym is) ∙ h.each d u (sym (get_set_other rooms place d s other) ∙ there))
          ];
      room = λ d u there.
          elim (cases_eq d place) [
            | inl same ↦
                let u_is : s ≡ u = same_Some s u (sym (get_set_same rooms place s below) ∙ (ap (slice_get (set rooms place s)) (sym same) ∙ there)) in
                let b = h.room place r at in
                let l : length s.items ≡ length r.items + 1 = ap length pushed ∙ length_push r.items one in
                subst (λ (v : Vec C Global). (length places ≤ vec_capacity v) × (length v.items ≤ index + 1)) u_is (omega (arith, b.0, same_room), omega (arith, b.1, l))
            | inr other ↦ let b = h.room d u (sym (get_set_other rooms place d s other) ∙ there) in (b.0, omega (arith, b.1))
          ];
    }

pub all_dealt : {C : Type 0} (places : List ℕ) (comps left : List C) (rooms : List (Vec C Global)) (index count : ℕ) → IsDealtSo places comps left rooms index count → length places ≤ index → AreDealt places comps (items_of rooms)
all_dealt {C} places comps left rooms index count h l = record {
  each = λ d xs there.
      let v = at_items rooms d xs there in
      sym v.1.1 ∙ (sym (append-nil v.0.items) ∙ (ap (λ (ys : List C). v.0.items ++ comps_from places d index ys) (sym (none_left left (let e = h.left_is in omega (arith, e, l)))) ∙ h.each d v.0 v.1.0));
}
  where
    none_left : (xs : List C) → length xs ≡ 0 → xs ≡ []
    none_left [] e = refl
    none_left (x ∷ xs) e = absurd (omega (arith, e))

pub left_empty : {C : Type 0} (places : List ℕ) (comps left : List C) (rooms : List (Vec C Global)) (index count : ℕ) → IsDealtSo places comps left rooms index count → length places ≤ index → left ≡ []
left_empty {C} places comps left rooms index count h l = none_left left (let e = h.left_is in omega (arith, e, l))
  where
    none_left : (xs : List C) → length xs ≡ 0 → xs ≡ []
    none_left [] e = refl
    none_left (x ∷ xs) e = absurd (omega (arith, e))

-- the first of a list, and the others
pub first_and_rest : {C : Type 0} (xs : List C) (d : C) → 0 < length xs → xs ≡ get_or xs 0 d ∷ remove xs 0
first_and_rest [] d l = absurd (omega (arith, l))
first_and_rest (x ∷ xs) d l = refl

-- gathering, as far as it went

pub record IsGathered {C : Type 0} (places : List ℕ) (comps list : List C) (lists : List (Vec C Global)) (index : ℕ) : Type 0 where
  pub rest : List C
  pub whole : list ++ rest ≡ comps
  pub each : (d : ℕ) (v : Vec C Global) → slice_get lists d ≡ Some v → v.items ≡ comps_from places d index rest

pub none_gathered : {C : Type 0} (places : List ℕ) (comps list : List C) (lists : List (Vec C Global)) → list ≡ [] → AreDealt places comps (items_of lists) → IsGathered places comps list lists 0
none_gathered {C} places comps list lists none h = record {
  rest = comps;
  whole = ap (λ (xs : List C). xs ++ comps) none;
  each = λ d v at. h.each d v.items (items_at lists d v at);
}

pub record IsNextOf {C : Type 0} (places : List ℕ) (comps list : List C) (lists : List (Vec C Global)) (index : ℕ) (items : List C) : Type 0 where
  pub one : C
  pub rest : List C
  pub whole : list ++ one ∷ rest ≡ comps
  pub items_are : items ≡ one ∷ comps_from places (domain_at places index) (index + 1) rest
  pub each : (d : ℕ) (v : Vec C Global) → slice_get lists d ≡ Some v → (domain_at places index ≡ d → ⊥) → v.items ≡ comps_from places d (index + 1) rest

pub next_of : {C : Type 0} (places : List ℕ) (comps list : List C) (lists : List (Vec C Global)) (index : ℕ) (v : Vec C Global) → IsGathered places comps list lists index → length comps ≡ length places → length list ≡ index → index < length places
    → slice_get lists (domain_at places index) ≡ Some v → IsNextOf places comps list lists index v.items
next_of {C} places comps list lists index v h count size l at = by_rest h.rest h.whole h.each
  where
    by_rest : (rest : List C) → list ++ rest ≡ comps → ((d : ℕ) (v : Vec C Global) → slice_get lists d ≡ Some v → v.items ≡ comps_from places d index rest) → IsNextOf places comps list lists index v.items
    by_rest [] w e = absurd (let n = ap length (sym (append-nil list) ∙ w) in omega (arith, n, count, size, l))
    by_rest (c ∷ rest) w e = record {
      one = c;
      rest = rest;
      whole = w;
      items_are = e (domain_at places index) v at ∙ from_same places (domain_at places index) index c rest refl;
      each = λ d u there other. e d u there ∙ from_other places d index c rest other;
    }

pub one_gathered : {C : Type 0} (places : List ℕ) (comps list : List C) (lists : List (Vec C Global)) (index place : ℕ) (v w : Vec C Global) (d : C) → IsNextOf places comps list lists index v.items → place ≡ domain_at places index
    → slice_get lists place ≡ Some v → w.items ≡ remove v.items 0 → IsGathered places comps (list ++ get_or v.items 0 d ∷ []) (set lists place w) (index + 1)
one_gathered {C} places comps list lists index place v w d n here at removed = record {
  rest = n.rest;
  whole = append_assoc list (get_or v.items 0 d ∷ []) n.rest ∙ (ap (λ (c : C). list ++ c ∷ n.rest) (ap (λ (xs : List C). get_or xs 0 d) n.items_are) ∙ n.whole);
  each = λ x u there.
      elim (cases_eq x place) [
        | inl same ↦
            let u_is : w ≡ u = same_Some w u (sym (get_set_same lists place w (slice_get_within lists place v at)) ∙ (ap (slice_get (set lists place w)) (sym same) ∙ there)) in
            ap (λ (z : Vec C Global). z.items) (sym u_is)
            ∙ (removed ∙ (ap (λ (xs : List C). remove xs 0) n.items_are ∙ ap (λ (k : ℕ). comps_from places k (index + 1) n.rest) (sym here ∙ sym same)))
        | inr other ↦ n.each x u (sym (get_set_other lists place x w other) ∙ there) (λ e. other (sym e ∙ sym here))
      ];
}

pub all_gathered : {C : Type 0} (places : List ℕ) (comps list : List C) (lists : List (Vec C Global)) (index : ℕ) → IsGathered places comps list lists index → length comps ≡ length places → length list ≡ index → length places ≤ index → list ≡ comps
all_gathered {C} places comps list lists index h count size l = by_rest h.rest h.whole
  where
    by_rest : (rest : List C) → list ++ rest ≡ comps → list ≡ comps
    by_rest [] w = sym (append-nil list) ∙ w
    by_rest (c ∷ rest) w = absurd (let n = ap length w in let m = length_more list (c ∷ rest) in omega (arith, n, m, count, size, l))
      where
        length_more : (xs ys : List C) → length (xs ++ ys) ≡ length xs + length ys
        length_more [] ys = omega arith
        length_more (x ∷ xs) ys = let r : length (xs ++ ys) ≡ length xs + length ys = length_more xs ys in omega (arith, r)
