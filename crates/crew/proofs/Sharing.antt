-- A job is sent, those before it are done, and its answer is collected.
use Rattle.std.proofs.Common.{◌≡◌, ◌≢◌, ◌+◌, ◌<◌, ℕ, zero, suc, List, [], ◌∷◌, ◌++◌, length, get_or, set, sym, ◌∙◌, ap, subst, refl, inl, inr, arith, length-set, length-append, Some, slice_get}
use Rattle.std.proofs.lemmas.Bool.{cases_lt}
use Rattle.atomic_table.specs.Seated.{TableId}
use Rattle.crew.specs.declared.view.Stage.TheVariants.{Free, Busy}
use Rattle.crew.specs.Crews.{AreFreeBelow, IsBusyAt, free_seat}
use Rattle.crew.specs.Seats.{SeatValue, at_stage}
use Rattle.crew.specs.Sharing.{AreDone}

module _ {A : Type 0} where
  get_other : (xs : List A) (n k : ℕ) (a : A) → k ≢ n → slice_get (set xs n a) k ≡ slice_get xs k
  get_other [] n k a apart = refl
  get_other (x ∷ xs) zero zero a apart = absurd (apart refl)
  get_other (x ∷ xs) zero (suc k) a apart = refl
  get_other (x ∷ xs) (suc n) zero a apart = refl
  get_other (x ∷ xs) (suc n) (suc k) a apart = get_other xs n k a (λ e. apart (ap suc e))

  get_set : (xs : List A) (n : ℕ) (a : A) → n < length xs → slice_get (set xs n a) n ≡ Some a
  get_set [] n a l = absurd (omega (arith, l))
  get_set (x ∷ xs) zero a l = refl
  get_set (x ∷ xs) (suc n) a l = get_set xs n a (omega (arith, l))

  default_set : (xs : List A) (n : ℕ) (a d : A) → n < length xs → get_or (set xs n a) n d ≡ a
  default_set [] n a d l = absurd (omega (arith, l))
  default_set (x ∷ xs) zero a d l = refl
  default_set (x ∷ xs) (suc n) a d l = default_set xs n a d (omega (arith, l))

  set_twice : (xs : List A) (n : ℕ) (a b : A) → set (set xs n a) n b ≡ set xs n b
  set_twice [] n a b = refl
  set_twice (x ∷ xs) zero a b = refl
  set_twice (x ∷ xs) (suc n) a b = ap (λ ys. x ∷ ys) (set_twice xs n a b)

  set_same : (xs : List A) (n : ℕ) (a : A) → slice_get xs n ≡ Some a → set xs n a ≡ xs
  set_same [] n a e = refl
  set_same (x ∷ xs) zero a e = let same : x ≡ a = cc in ap (λ y. y ∷ xs) (sym same)
  set_same (x ∷ xs) (suc n) a e = ap (λ ys. x ∷ ys) (set_same xs n a e)

  there : (xs : List A) (n : ℕ) → n < length xs → (a : A) × (slice_get xs n ≡ Some a) × ((d : A) → get_or xs n d ≡ a)
  there [] n l = absurd (omega (arith, l))
  there (x ∷ xs) zero l = (x, refl, λ d. refl)
  there (x ∷ xs) (suc n) l = there xs n (omega (arith, l))

  get_before : (xs : List A) (x d : A) (i : ℕ) → i < length xs → get_or (xs ++ x ∷ []) i d ≡ get_or xs i d
  get_before [] x d i l = absurd (omega (arith, l))
  get_before (y ∷ ys) x d zero l = refl
  get_before (y ∷ ys) x d (suc i) l = get_before ys x d i (omega (arith, l))

  get_end : (xs : List A) (x d : A) → get_or (xs ++ x ∷ []) (length xs) d ≡ x
  get_end [] x d = refl
  get_end (y ∷ ys) x d = get_end ys x d

module _ {J : Type 0} (posts : List TableId) (n : ℕ) (seats : List (SeatValue J)) (inside : n < length posts) (count : length seats ≡ length posts)
    (free : (seat : SeatValue J) (post : TableId) → slice_get seats n ≡ Some seat → slice_get posts n ≡ Some post → seat ≡ free_seat post)
    (job : J) (sent : List (SeatValue J)) (sent_is : (d : SeatValue J) → sent ≡ set seats n (at_stage (get_or seats n d) (Busy job))) where
  found : (post : TableId) × (slice_get posts n ≡ Some post) × ((d : TableId) → get_or posts n d ≡ post)
  found = there posts n inside

  within : n < length seats
  within = omega (arith, inside, count)

  -- the seat is free, and busy afterwards
  seat_there : (seat : SeatValue J) × (slice_get seats n ≡ Some seat) × ((d : SeatValue J) → get_or seats n d ≡ seat)
  seat_there = there seats n within

  is_free : seat_there.0 ≡ free_seat found.0
  is_free = free seat_there.0 found.0 seat_there.1 found.1

  sent_so : sent ≡ set seats n (at_stage (free_seat found.0) (Busy job))
  sent_so = sent_is (free_seat found.0) ∙ ap (λ (s : SeatValue J). set seats n (at_stage s (Busy job))) (seat_there.2 (free_seat found.0) ∙ is_free)

  sent_count : length sent ≡ length posts
  sent_count = ap length sent_so ∙ (length-set seats n _ ∙ count)

  pub busy_after : IsBusyAt n posts job sent
  busy_after = record {
    count = sent_count;
    busy = λ seat other at is.
        let e = found.1 in
        let same : found.0 ≡ other = cc in
        let got : slice_get sent n ≡ Some (at_stage (free_seat found.0) (Busy job)) = ap (λ (ss : List (SeatValue J)). slice_get ss n) sent_so ∙ get_set seats n (at_stage (free_seat found.0) (Busy job)) within in
        let was : seat ≡ at_stage (free_seat found.0) (Busy job) = cc in
        was ∙ ap (λ (p : TableId). at_stage (free_seat {J = J} p) (Busy job)) same;
  }

  pub free_after : (number : ℕ) → number ≡ n + 1 → AreFreeBelow (number + 1) posts seats → AreFreeBelow number posts sent
  free_after number is below = record {
    count = sent_count;
    free = λ k seat low at.
        below.free k seat (omega (arith, low))
        (sym (get_other seats n k (at_stage (free_seat found.0) (Busy job)) (λ e. omega (arith, e, low, is))) ∙ (ap (λ (ss : List (SeatValue J)). slice_get ss k) (sym sent_so) ∙ at));
  }

  pub back_again : (between last : List (SeatValue J)) → between ≡ sent → ((d : SeatValue J) → last ≡ set between n (at_stage (get_or between n d) Free)) → last ≡ seats
  back_again between last same last_is =
      let busy : SeatValue J = at_stage (free_seat found.0) (Busy job) in
      let was : between ≡ set seats n busy = same ∙ sent_so in
      let reads : get_or between n busy ≡ busy = ap (λ (ss : List (SeatValue J)). get_or ss n busy) was ∙ default_set seats n busy busy within in
      last_is busy ∙ (ap (λ (z : List (SeatValue J) × SeatValue J). set z.0 n (at_stage z.1 Free)) (λ i. (was i, reads i))
      ∙ (set_twice seats n busy (free_seat found.0) ∙ set_same seats n (free_seat found.0) (seat_there.1 ∙ ap (λ (s : SeatValue J). Some s) is_free)))

pub snoc_done : {J : Type 0} (done : J → J → Type 0) (xs ys : List J) (x y : J) → AreDone done xs ys → done x y → AreDone done (xs ++ x ∷ []) (ys ++ y ∷ [])
snoc_done {J} done xs ys x y are is = record {
  count = length-append ys (y ∷ []) ∙ (ap (λ k. k + 1) are.count ∙ sym (length-append xs (x ∷ [])));
  each = λ i d low.
      elim (cases_lt i (length xs)) [
        | inl before ↦
            let c = are.count in
            subst (λ (z : J × J). done z.0 z.1) (λ k. (sym (get_before xs x d i before) k, sym (get_before ys y d i (omega (arith, before, c))) k)) (are.each i d before)
        | inr past ↦
            let l = length-append xs (x ∷ []) in
            let c = are.count in
            let end : i ≡ length xs = omega (arith, past, low, l) in
            let end' : i ≡ length ys = omega (arith, c, end) in
            let here : get_or (xs ++ x ∷ []) i d ≡ x = ap (λ k. get_or (xs ++ x ∷ []) k d) end ∙ get_end xs x d in
            let here' : get_or (ys ++ y ∷ []) i d ≡ y = ap (λ k. get_or (ys ++ y ∷ []) k d) end' ∙ get_end ys y d in
            subst (λ (z : J × J). done z.0 z.1) (λ k. (sym here k, sym here' k)) is
      ];
}
