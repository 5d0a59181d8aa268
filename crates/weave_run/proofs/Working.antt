-- The domains of a worker run, one after the other.
use Rattle.std.proofs.Common.{◌≡◌, ◌<◌, ℕ, suc, List, [], ◌∷◌, ◌++◌, length, Some, slice_get, sym, ◌∙◌, ap, subst, refl, inl, inr, arith}
use Rattle.std.proofs.lemmas.List.{append-nil, append_assoc, length-append, length_push}
use Rattle.std.proofs.lemmas.Option.{none-some, slice_get_within}
use Rattle.std.specs.VecDeque.{deque_capacity}
use Rattle.atomic_table.specs.Seated.{TableId}
use Rattle.component.specs.declared.kind.Kind.{Kind}
use Rattle.weave_run.specs.Crews.{CanWork, Crew, HasWorked}
use Rattle.weave_run.specs.Seating.{HasServed, IsPostSeated}
use Rattle.weave_run.specs.declared.post.Post.{Post}
use Rattle.weave_run.specs.declared.plan.Plan.{Plan}
use Rattle.weave_run.proofs.Preparings.{snoc_get}

-- behind others
behind : {X : Type 0} (xs : List X) (x : X) (ys : List X) → slice_get (xs ++ x ∷ ys) (length xs) ≡ Some x
behind [] x ys = refl
behind (y ∷ xs) x ys = behind xs x ys

module _ {C : Type 0} (stepped : C → Kind → ℕ → C × ℕ) (plan : Plan C) (table : TableId) where
  -- each has run, and lies in its place
  pub record HaveServed (before after : List (Post C)) : Type 0 where
    pub count : length after ≡ length before
    pub each : (place : ℕ) (p q : Post C) → slice_get before place ≡ Some p → slice_get after place ≡ Some q → HasServed stepped plan table p q

  one_more_served : (before after : List (Post C)) (p q : Post C) → HaveServed before after → HasServed stepped plan table p q → HaveServed (before ++ p ∷ []) (after ++ q ∷ [])
  one_more_served before after p q h one = record {
    count = (let a = h.count in let b = length_push before p in let c = length_push after q in omega (arith, a, b, c));
    each = λ place x y at there.
        elim (snoc_get before p place x at) [
          | inl was ↦
              elim (snoc_get after q place y there) [
                | inl too ↦ h.each place x y was too
                | inr last ↦ absurd (let a = h.count in let b = slice_get_within before place x was in let e = last.0 in omega (arith, a, b, e))
              ]
          | inr last ↦
              elim (snoc_get after q place y there) [
                | inl was ↦ absurd (let a = h.count in let b = slice_get_within after place y was in let e = last.0 in omega (arith, a, b, e))
                | inr too ↦ subst (λ (v : Post C). HasServed stepped plan table v y) last.1 (subst (HasServed stepped plan table p) too.1 one)
              ]
        ];
  }

  -- those that are left are first, and those that ran are behind them
  pub record ServedSoFar (all : List (Post C)) (left : ℕ) (queue : List (Post C)) : Type 0 where
    pub before : List (Post C)
    pub rest : List (Post C)
    pub done : List (Post C)
    pub whole : before ++ rest ≡ all
    pub queue_is : queue ≡ rest ++ done
    pub count : length rest ≡ left
    pub served : HaveServed before done

  pub none_served : (all : List (Post C)) → ServedSoFar all (length all) all
  none_served all = record {
    before = [];
    rest = all;
    done = [];
    whole = refl;
    queue_is = sym (append-nil all);
    count = refl;
    served = record { count = refl; each = λ place p q at there. absurd (none-some p at) };
  }

  pub next_served : (all : List (Post C)) (left : ℕ) (queue : List (Post C)) (p q : Post C) → ServedSoFar all (suc left) (p ∷ queue) → HasServed stepped plan table p q → ServedSoFar all left (queue ++ q ∷ [])
  next_served all left queue p q so_far one = first so_far.rest so_far.whole so_far.queue_is so_far.count
    where
      first : (rest : List (Post C)) → so_far.before ++ rest ≡ all → p ∷ queue ≡ rest ++ so_far.done → length rest ≡ suc left → ServedSoFar all left (queue ++ q ∷ [])
      first [] whole is count = absurd (omega (arith, count))
      first (x ∷ rest) whole is count =
          let heads : p ≡ x = cc in
          let tails : queue ≡ rest ++ so_far.done = cc in
          record {
            before = so_far.before ++ p ∷ [];
            rest = rest;
            done = so_far.done ++ q ∷ [];
            whole = append_assoc so_far.before (p ∷ []) rest ∙ (ap (λ (y : Post C). so_far.before ++ y ∷ rest) heads ∙ whole);
            queue_is = ap (λ (xs : List (Post C)). xs ++ q ∷ []) tails ∙ append_assoc rest so_far.done (q ∷ []);
            count = omega (arith, count);
            served = one_more_served so_far.before so_far.done p q so_far.served one;
          }

  -- there is one
  pub some_left : (all : List (Post C)) (left : ℕ) (queue : List (Post C)) → 0 < left → ServedSoFar all left queue → 0 < length queue
  some_left all left queue some so_far =
      let is = ap length so_far.queue_is in
      let both = length-append so_far.rest so_far.done in
      let count = so_far.count in
      omega (arith, some, is, both, count)

  -- which can run
  pub first_can : (crew : Crew C) (left : ℕ) (p : Post C) (queue : List (Post C)) → CanWork stepped plan table crew → ServedSoFar crew.queue.items (suc left) (p ∷ queue) → IsPostSeated stepped plan table p
  first_can crew left p queue can so_far = first so_far.rest so_far.whole so_far.queue_is so_far.count
    where
      first : (rest : List (Post C)) → so_far.before ++ rest ≡ crew.queue.items → p ∷ queue ≡ rest ++ so_far.done → length rest ≡ suc left → IsPostSeated stepped plan table p
      first [] whole is count = absurd (omega (arith, count))
      first (x ∷ rest) whole is count =
          let heads : p ≡ x = cc in
          can.each (length so_far.before) p
          (ap (λ (xs : List (Post C)). slice_get xs (length so_far.before)) (sym whole ∙ ap (λ (y : Post C). so_far.before ++ y ∷ rest) (sym heads)) ∙ behind so_far.before p rest)

  pub all_served : (old now : Crew C) → ServedSoFar old.queue.items 0 now.queue.items → deque_capacity now.queue ≡ deque_capacity old.queue → HasWorked stepped plan table old now
  all_served old now so_far room =
      let none : so_far.rest ≡ [] = none_of so_far.rest so_far.count in
      let before : so_far.before ≡ old.queue.items = sym (append-nil so_far.before) ∙ (ap (λ (xs : List (Post C)). so_far.before ++ xs) (sym none) ∙ so_far.whole) in
      let done : so_far.done ≡ now.queue.items = ap (λ (xs : List (Post C)). xs ++ so_far.done) (sym none) ∙ sym so_far.queue_is in
      let served : HaveServed old.queue.items now.queue.items = subst (λ (xs : List (Post C)). HaveServed xs now.queue.items) before (subst (HaveServed so_far.before) done so_far.served) in
      record { count = served.count; served = served.each; room = room }
    where
      none_of : (xs : List (Post C)) → length xs ≡ 0 → xs ≡ []
      none_of [] none = refl
      none_of (x ∷ xs) none = absurd (omega (arith, none))
