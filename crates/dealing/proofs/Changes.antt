-- Queues in which things were changed.
use Rattle.std.proofs.Common.{◌≡◌, ◌+◌, ◌%◌, ◌<◌, ℕ, zero, suc, List, [], ◌∷◌, length, map, set, get_or, slice_get, Some, sym, ◌∙◌, ap, subst, refl, inl, inr, arith, mod-lt}
use Rattle.std.proofs.lemmas.Bool.{cases_eq}
use Rattle.std.proofs.lemmas.List.{get_or-map, length-map, length-set, map-set}
use Rattle.std.proofs.lemmas.Option.{none-some, same_Some}
use Rattle.dealing.specs.Dealing.{AreDealt, queue_at, share_of, with_next}
use Rattle.dealing.proofs.Shares.{own_share}
use Rattle.dealing.proofs.Steps.{dealt_next, dealt_rest, next_at, next_of, others_stay, same_queues}

-- two things lie at the same place of the same queue
pub record LieSo {T : Type 0} (before after : List (List T)) (x y : T) : Type 0 where
  pub worker : ℕ
  pub there : worker < length before
  pub place : ℕ
  pub was : slice_get (queue_at before worker) place ≡ Some x
  pub is : slice_get (queue_at after worker) place ≡ Some y

-- the queues are dealt as many other things, each of which lies where the one of its number lay before
pub record Changed {T : Type 0} (number : ℕ) (items : List T) (before after : List (List T)) : Type 0 where
  pub now : List T
  pub dealt : AreDealt number now after
  pub count : length now ≡ length items
  pub alike : (i : ℕ) (x y : T) → slice_get items i ≡ Some x → slice_get now i ≡ Some y → LieSo before after x y

-- the first of a list that isn't empty
first_of : {T : Type 0} (xs : List T) (n : ℕ) → length xs ≡ suc n → (x : T) × (rest : List T) × (xs ≡ x ∷ rest)
first_of [] n many = absurd (omega (arith, many))
first_of (x ∷ xs) n many = (x, xs, refl)

-- ---- lengths

as_long : {T : Type 0} (before after : List (List T)) → map length after ≡ map length before → length after ≡ length before
as_long before after same = sym (length-map after length) ∙ (ap length same ∙ length-map before length)

long_at : {T : Type 0} (before after : List (List T)) → map length after ≡ map length before → (worker : ℕ) → worker < length before → length (queue_at after worker) ≡ length (queue_at before worker)
long_at before after same worker within =
    let long = as_long before after same in
    sym (get_or-map length after worker [] 0 (omega (arith, within, long))) ∙ (ap (λ (ns : List ℕ). get_or ns worker 0) same ∙ get_or-map length before worker [] 0 within)

-- queues that are as long, of which one has other things, and as many
same_lengths : {T : Type 0} (before after : List (List T)) (own place : ℕ) (queue rest : List T) → place ≡ own → map length after ≡ map length before → length rest ≡ length queue
    → map length (set after place rest) ≡ map length (set before own queue)
same_lengths before after own place queue rest here same size =
    map-set length after place rest
    ∙ (ap (λ (k : ℕ). set (map length after) k (length rest)) here
    ∙ (ap (λ (ns : List ℕ). set ns own (length rest)) same ∙ (ap (set (map length before) own) size ∙ sym (map-set length before own queue))))

-- ---- the next thing

module _ {T : Type 0} (number : ℕ) (x y : T) (before after : List (List T)) (some : 0 < length before) (long : length after ≡ length before) where
  own_place : number % length after ≡ number % length before
  own_place = ap (λ (n : ℕ). number % n) long

  -- where two things lay alike they do with one more before them
  still_alike : (u v : T) → LieSo before after u v → LieSo (with_next number x before) (with_next number y after) u v
  still_alike u v alike =
      let w : ℕ = alike.worker in
      let many : 0 < length after = omega (arith, some, long) in
      let there : w < length (with_next number x before) = (let t = alike.there in let s = same_queues number x before some in omega (arith, t, s)) in
      elim (cases_eq w (number % length before)) as (λ _. LieSo (with_next number x before) (with_next number y after) u v) [
        | inl mine ↦ record {
          worker = w;
          there = there;
          place = suc alike.place;
          was = ap (λ (q : List T). slice_get q (suc alike.place)) (ap (queue_at (with_next number x before)) mine ∙ (next_at number x before some ∙ ap (λ (k : ℕ). x ∷ queue_at before k) (sym mine))) ∙ alike.was;
          is =
              ap (λ (q : List T). slice_get q (suc alike.place))
              (ap (queue_at (with_next number y after)) (mine ∙ sym own_place) ∙ (next_at number y after many ∙ ap (λ (k : ℕ). y ∷ queue_at after k) (own_place ∙ sym mine))) ∙ alike.is;
        }
        | inr other ↦ record {
          worker = w;
          there = there;
          place = alike.place;
          was = ap (λ (q : List T). slice_get q alike.place) (others_stay number x before some w other) ∙ alike.was;
          is = ap (λ (q : List T). slice_get q alike.place) (others_stay number y after many w (λ same. other (same ∙ own_place))) ∙ alike.is;
        }
      ]

  next_alike : LieSo (with_next number x before) (with_next number y after) x y
  next_alike =
      let many : 0 < length after = omega (arith, some, long) in
      record {
        worker = number % length before;
        there = (let t = mod-lt number some in let s = same_queues number x before some in omega (arith, t, s));
        place = 0;
        was = ap (λ (q : List T). slice_get q 0) (next_at number x before some);
        is = ap (λ (q : List T). slice_get q 0) (ap (queue_at (with_next number y after)) (sym own_place) ∙ next_at number y after many);
      }

  alike_at : (items now : List T) → ((i : ℕ) (u v : T) → slice_get items i ≡ Some u → slice_get now i ≡ Some v → LieSo before after u v)
      → (i : ℕ) (u v : T) → slice_get (x ∷ items) i ≡ Some u → slice_get (y ∷ now) i ≡ Some v → LieSo (with_next number x before) (with_next number y after) u v
  alike_at items now each zero u v at there =
      subst (λ (a : T). LieSo (with_next number x before) (with_next number y after) a v) (same_Some x u at)
      (subst (LieSo (with_next number x before) (with_next number y after) x) (same_Some y v there) next_alike)
  alike_at items now each (suc i) u v at there = still_alike u v (each i u v at there)

-- ---- all

pub changed : {T : Type 0} (items : List T) (number : ℕ) (before after : List (List T)) → 0 < length before → AreDealt number items before → map length after ≡ map length before → Changed number items before after
changed {T} [] number before after some dealt same = record {
  now = [];
  dealt = λ worker within.
      let inside : worker < length before = (let long = as_long before after same in omega (arith, within, long)) in
      let none = ap length (dealt worker inside) in
      let size = long_at before after same worker inside in
      nothing (queue_at after worker) (size ∙ none);
  count = refl;
  alike = λ i x y at there. absurd (none-some x at);
}
  where
    nothing : (xs : List T) → length xs ≡ 0 → xs ≡ []
    nothing [] none = refl
    nothing (x ∷ xs) none = absurd (omega (arith, none))
changed {T} (x ∷ items) number before after some dealt same =
    let long : length after ≡ length before = as_long before after same in
    let many : 0 < length after = omega (arith, some, long) in
    let own : ℕ = number % length before in
    let within : own < length before = mod-lt number some in
    let queue : List T = share_of (length before) own (number + 1) items in
    let here : queue_at before own ≡ x ∷ queue = dealt own within ∙ own_share (length before) own number x items refl in
    let first = first_of (queue_at after own) (length queue) (long_at before after same own within ∙ ap length here) in
    let y : T = first.0 in
    let rest : List T = first.1 in
    let own_after : number % length after ≡ own = ap (λ (n : ℕ). number % n) long in
    let was : List (List T) = set before own queue in
    let is : List (List T) = set after (number % length after) rest in
    let before_is : before ≡ with_next number x was = next_of number x queue before some here in
    let after_is : after ≡ with_next number y is = next_of number y rest after many (ap (queue_at after) own_after ∙ first.2) in
    let was_long : length was ≡ length before = length-set before own queue in
    let is_long : length is ≡ length after = length-set after (number % length after) rest in
    let was_some : 0 < length was = omega (arith, some, was_long) in
    let is_some : 0 < length is = omega (arith, many, is_long) in
    let was_dealt : AreDealt (number + 1) items was = (dealt_rest number x was was_some x items (subst (AreDealt number (x ∷ items)) before_is dealt)).1 in
    let rest_long : length rest ≡ length queue = (let size = long_at before after same own within ∙ ap length here in let f = ap length first.2 in omega (arith, size, f)) in
    let same_rest : map length is ≡ map length was = same_lengths before after own (number % length after) queue rest own_after same rest_long in
    let later = changed items (number + 1) was is was_some was_dealt same_rest in
    let both : length is ≡ length was = as_long was is same_rest in
    record {
      now = y ∷ later.now;
      dealt = subst (AreDealt number (y ∷ later.now)) (sym after_is) (dealt_next number y is is_some later.now later.dealt);
      count = ap suc later.count;
      alike = λ i u v at there.
          subst (λ (qs : List (List T)). LieSo qs after u v) (sym before_is)
          (subst (λ (qs : List (List T)). LieSo (with_next number x was) qs u v) (sym after_is) (alike_at number x y was is was_some both items later.now later.alike i u v at there));
    }
