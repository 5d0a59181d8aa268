-- Lists of cores that ran.
use Rattle.std.proofs.Common.{◌≡◌, ◌<◌, ℕ, suc, List, [], ◌∷◌, ◌++◌, All, length, refl, sym, ◌∙◌, ap, subst, arith}
use Rattle.std.proofs.lemmas.List.{append-nil, append_assoc, length-append}
use Rattle.std.proofs.lemmas.List.Elements.{All-head, All-tail}
use Rattle.zs_num.specs.declared.entry.Entry.{Entry}
use Rattle.elf_load.specs.MemoryImage.{MemoryImage}
use Rattle.parts_table.specs.Access.{TableState}
use Rattle.bound_workers.specs.declared.member.Member.{Member}
use Rattle.bound_workers.specs.Team.{HaveRun}
use Rattle.bound_workers.specs.Member.{HasRun}

module _ (time : Entry → ℕ) (image : MemoryImage) (end : ℕ) (t : TableState) where
  abbrev Ran : List Member → List Member → Type 0
  Ran = HaveRun time image end t

  pub one_more_ran : (before after : List Member) (m n : Member) → Ran before after → HasRun time image end t m n → Ran (before ++ m ∷ []) (after ++ n ∷ [])
  one_more_ran [] [] m n ran one = (one, tt)
  one_more_ran [] (y ∷ after) m n ran one = absurd ran
  one_more_ran (x ∷ before) [] m n ran one = absurd ran
  one_more_ran (x ∷ before) (y ∷ after) m n ran one = (ran.0, one_more_ran before after m n ran.1 one)

  -- those that are left are first, and those that ran are behind them
  pub record RanSoFar (all : List Member) (left : ℕ) (queue : List Member) : Type 0 where
    pub before : List Member
    pub rest : List Member
    pub done : List Member
    pub whole : before ++ rest ≡ all
    pub queue_is : queue ≡ rest ++ done
    pub count : length rest ≡ left
    pub ran : Ran before done

  pub none_ran : (all : List Member) → RanSoFar all (length all) all
  none_ran all = record { before = []; rest = all; done = []; whole = refl; queue_is = sym (append-nil all); count = refl; ran = tt }

  pub next_ran : (all : List Member) (left : ℕ) (queue : List Member) (m n : Member) → RanSoFar all (suc left) (m ∷ queue) → HasRun time image end t m n → RanSoFar all left (queue ++ n ∷ [])
  next_ran all left queue m n so_far one = first so_far.rest so_far.whole so_far.queue_is so_far.count
    where
      first : (rest : List Member) → so_far.before ++ rest ≡ all → m ∷ queue ≡ rest ++ so_far.done → length rest ≡ suc left → RanSoFar all left (queue ++ n ∷ [])
      first [] whole is count = absurd (omega (arith, count))
      first (x ∷ rest) whole is count =
          let heads : m ≡ x = cc in
          let tails : queue ≡ rest ++ so_far.done = cc in
          record {
            before = so_far.before ++ m ∷ [];
            rest = rest;
            done = so_far.done ++ n ∷ [];
            whole = append_assoc so_far.before (m ∷ []) rest ∙ (ap (λ (y : Member). so_far.before ++ y ∷ rest) heads ∙ whole);
            queue_is = ap (λ (xs : List Member). xs ++ n ∷ []) tails ∙ append_assoc rest so_far.done (n ∷ []);
            count = omega (arith, count);
            ran = one_more_ran so_far.before so_far.done m n so_far.ran one;
          }

  -- there is one
  pub some_left : (all : List Member) (left : ℕ) (queue : List Member) → 0 < left → RanSoFar all left queue → 0 < length queue
  some_left all left queue some so_far =
      let is = ap length so_far.queue_is in
      let both = length-append so_far.rest so_far.done in
      let count = so_far.count in
      omega (arith, some, is, both, count)

  -- which can still do what all could
  pub first_can : (P : Member → Type 0) (all : List Member) (left : ℕ) (m : Member) (queue : List Member) → All P all → RanSoFar all (suc left) (m ∷ queue) → P m
  first_can P all left m queue can so_far = first so_far.rest so_far.whole so_far.queue_is so_far.count
    where
      middle : (before rest : List Member) (x : Member) → All P (before ++ x ∷ rest) → P x
      middle [] rest x ok = All-head P x rest ok
      middle (y ∷ before) rest x ok = middle before rest x (All-tail P y (before ++ x ∷ rest) ok)

      first : (rest : List Member) → so_far.before ++ rest ≡ all → m ∷ queue ≡ rest ++ so_far.done → length rest ≡ suc left → P m
      first [] whole is count = absurd (omega (arith, count))
      first (x ∷ rest) whole is count =
          let heads : m ≡ x = cc in
          middle so_far.before rest m (subst (All P) (sym whole ∙ ap (λ (y : Member). so_far.before ++ y ∷ rest) (sym heads)) can)

  pub all_ran : (all queue : List Member) → RanSoFar all 0 queue → Ran all queue
  all_ran all queue so_far =
      let none : so_far.rest ≡ [] = none_of so_far.rest so_far.count in
      let before : so_far.before ≡ all = sym (append-nil so_far.before) ∙ (ap (λ (xs : List Member). so_far.before ++ xs) (sym none) ∙ so_far.whole) in
      let done : so_far.done ≡ queue = ap (λ (xs : List Member). xs ++ so_far.done) (sym none) ∙ sym so_far.queue_is in
      subst (λ (xs : List Member). Ran xs queue) before (subst (Ran so_far.before) done so_far.ran)
    where
      none_of : (xs : List Member) → length xs ≡ 0 → xs ≡ []
      none_of [] none = refl
      none_of (x ∷ xs) none = absurd (omega (arith, none))
