-- The accesses of all cores are served by one memory and by the caches of one machine, one after the other.
use Rattle.std.proofs.Common.{◌≡◌, ℕ, zero, suc, ◌+◌, ◌<◌, List, [], ◌∷◌, ◌++◌, All, length, map, refl, sym, ◌∙◌, ap, subst, arith, ◌⊎◌, inl, inr}
use Rattle.std.specs.Prelude.{Bool, nat_lt, slice_get, slice_set, Some, None}
use Rattle.std.specs.List.{enumerate_from, fold}
use Rattle.std.proofs.lemmas.Bool.{cases_eq}
use Rattle.std.proofs.lemmas.List.{append_assoc, length-set}
use Rattle.std.proofs.lemmas.List.Elements.{All-head, All-tail, All-weaker}
use Rattle.std.proofs.lemmas.Option.{same_Some, slice_get_within}
use Rattle.zs_num.specs.Request.{line_of, bank_of_line}
use Rattle.zs_num.specs.Servable.{IsServable}
use Rattle.zs_num.specs.declared.entry.Entry.{Entry}
use Rattle.access_log.specs.History.{bank_of_entry, each_after, of_bank, of_number}
use Rattle.shard.specs.Coherence.{Caches, caches_after}
use Rattle.shard.specs.Accesses.{caches_after_all, outcomes_of}
use Rattle.shard.specs.HaveL1i.{have_l1i}
use Rattle.shard.specs.Laws.{CoherentStays, EntriesAreOfOneMachine, NumberStays, ReadAfterWrite, ShardsStandForAMachine, marked_after_all, marked_replies}
use Rattle.shard.specs.Marks.{MarkedMemory, marked_after}
use Rattle.shard.specs.Served.{AreServedBy, CanServe, ShardState, shard_after}
use Rattle.shard.specs.StandsFor.{AreAnswered, StandFor, accesses_of}
use Rattle.shard_table.specs.Access.{AreWhole, SeatState, TableState}
use Rattle.shard_table.specs.Laws.{AreOfOneMachine, WholeIsAnswered, WholeReadsAfterWrites}
use Rattle.shard_table.specs.Lives.{MayAsk}
use Rattle.shard_table.proofs.Closing.{left_all, right_all}
use Rattle.shard_table.proofs.Ends.{other_first, own_first}
use Rattle.shard_table.proofs.Seats.{some_at}

-- ---- one place of a list is set

get_set : {X : Type 0} (xs : List X) (i : ℕ) (x y : X) → slice_get xs i ≡ Some x → slice_get (slice_set xs i y) i ≡ Some y
get_set [] i x y here = absurd (let none : None ≡ Some x = here in cc)
get_set (z ∷ xs) zero x y here = refl
get_set (z ∷ xs) (suc i) x y here = get_set xs i x y here

get_other : {X : Type 0} (xs : List X) (i j : ℕ) (y : X) → (i ≡ j → ⊥) → slice_get (slice_set xs i y) j ≡ slice_get xs j
get_other [] i j y apart = refl
get_other (x ∷ xs) zero zero y apart = absurd (apart refl)
get_other (x ∷ xs) zero (suc j) y apart = refl
get_other (x ∷ xs) (suc i) zero y apart = refl
get_other (x ∷ xs) (suc i) (suc j) y apart = get_other xs i j y (λ s. apart (ap suc s))

-- ---- where each comes to by its own entries, one entry at a time

module _ {X : Type 0} (step : X → Entry → X) (number_of : Entry → ℕ) where
  abbrev at_from : ℕ → List Entry → List X → List X
  at_from a entries xs = map (λ (at : ℕ × X). fold step at.1 (of_number number_of at.0 entries)) (enumerate_from a xs)

  nothing_left : (a : ℕ) (xs : List X) → at_from a [] xs ≡ xs
  nothing_left a [] = refl
  nothing_left a (x ∷ xs) = ap (λ (ys : List X). x ∷ ys) (nothing_left (a + 1) xs)

  none_own : (a : ℕ) (e : Entry) (entries : List Entry) (xs : List X) → number_of e < a → at_from a (e ∷ entries) xs ≡ at_from a entries xs
  none_own a e entries [] below = refl
  none_own a e entries (x ∷ xs) below =
      let other = other_first number_of a e entries (λ s. omega (arith, s, below)) in
      rw (other, none_own (a + 1) e entries xs (omega (arith, below))) refl

  one_own : (a i : ℕ) (e : Entry) (entries : List Entry) (xs : List X) (x : X) → number_of e ≡ a + i → slice_get xs i ≡ Some x
      → at_from a (e ∷ entries) xs ≡ at_from a entries (slice_set xs i (step x e))
  one_own a i e entries [] x is here = refl
  one_own a zero e entries (y ∷ ys) x is here =
      let own : number_of e ≡ a = omega (arith, is) in
      let same : y ≡ x = same_Some y x here in
      rw (own_first number_of a e entries own, same, none_own (a + 1) e entries ys (omega (arith, own))) refl
  one_own a (suc i) e entries (y ∷ ys) x is here =
      let other = other_first number_of a e entries (λ s. omega (arith, s, is)) in
      rw (other, one_own (a + 1) i e entries ys x (omega (arith, is)) here) refl

  after_none : (xs : List X) → each_after step number_of [] xs ≡ xs
  after_none xs = nothing_left 0 xs

  after_first : (e : Entry) (entries : List Entry) (xs : List X) (x : X) → slice_get xs (number_of e) ≡ Some x
      → each_after step number_of (e ∷ entries) xs ≡ each_after step number_of entries (slice_set xs (number_of e) (step x e))
  after_first e entries xs x here = one_own 0 (number_of e) e entries xs x (omega arith) here

-- ---- all shards answer, one after the other

module _ (stays : NumberStays) (n : ℕ) where
  -- each stands at its number
  abbrev AreInOrder : List ShardState → Type 0
  AreInOrder xs = (number : ℕ) (x : ShardState) → slice_get xs number ≡ Some x → x.number ≡ number

  -- each served its own entries
  abbrev HaveServed : List Entry → List ShardState → Type 0
  HaveServed entries xs = (number : ℕ) (x : ShardState) → slice_get xs number ≡ Some x → AreServedBy x (of_bank n number entries)

  module _ (e : Entry) (entries : List Entry) (xs : List ShardState) (x : ShardState) (here : slice_get xs (bank_of_entry n e) ≡ Some x) where
    abbrev k : ℕ
    k = bank_of_entry n e

    abbrev xs' : List ShardState
    xs' = slice_set xs k (shard_after x e)

    -- what stands at a number after it
    stands : (number : ℕ) (y : ShardState) → slice_get xs' number ≡ Some y → ((k ≡ number) × (shard_after x e ≡ y)) ⊎ ((k ≡ number → ⊥) × (slice_get xs number ≡ Some y))
    stands number y there =
        elim (cases_eq k number) as (λ _. ((k ≡ number) × (shard_after x e ≡ y)) ⊎ ((k ≡ number → ⊥) × (slice_get xs number ≡ Some y))) [
          | inl own ↦
              let set : slice_get xs' number ≡ Some (shard_after x e) = ap (slice_get xs') (sym own) ∙ get_set xs k x (shard_after x e) here in
              inl (own, same_Some (shard_after x e) y (sym set ∙ there))
          | inr other ↦ inr (other, sym (get_other xs k number (shard_after x e) other) ∙ there)
        ]

    order_stays : AreInOrder xs → AreInOrder xs'
    order_stays order = λ number y there.
        elim (stands number y there) as (λ _. y.number ≡ number) [
          | inl own ↦ ap (λ (z : ShardState). z.number) (sym own.1) ∙ (stays x e ∙ (order k x here ∙ own.0))
          | inr other ↦ order number y other.1
        ]

    first_served : HaveServed (e ∷ entries) xs → AreServedBy x (e ∷ of_bank n k entries)
    first_served served = subst (AreServedBy x) (own_first (bank_of_entry n) k e entries refl) (served k x here)

    rest_served : HaveServed (e ∷ entries) xs → HaveServed entries xs'
    rest_served served = λ number y there.
        elim (stands number y there) as (λ _. AreServedBy y (of_bank n number entries)) [
          | inl own ↦ subst (λ (z : ShardState). AreServedBy z (of_bank n number entries)) own.1
              (subst (λ (m : ℕ). AreServedBy (shard_after x e) (of_bank n m entries)) own.0 (first_served served).2)
          | inr other ↦ subst (AreServedBy y) (other_first (bank_of_entry n) number e entries other.0) (served number y other.1)
        ]

  answered : (entries : List Entry) (xs : List ShardState) → length xs ≡ n → AreInOrder xs → All (λ e. bank_of_entry n e < n) entries → HaveServed entries xs
      → AreAnswered xs entries (each_after shard_after (bank_of_entry n) entries xs)
  answered [] xs size order within served = after_none shard_after (bank_of_entry n) xs
  answered (e ∷ entries) xs size order within served =
      let W : Entry → Type 0 = λ e. bank_of_entry n e < n in
      let bank : ℕ = bank_of_entry n e in
      let inside : bank < n = All-head W e entries within in
      let x = some_at xs bank (omega (arith, size, inside)) in
      let first = first_served e entries xs x.0 x.1 served in
      let ys : List ShardState = slice_set xs bank (shard_after x.0 e) in
      let rest : AreAnswered ys entries (each_after shard_after (bank_of_entry n) entries ys) =
      answered entries ys (length-set xs bank (shard_after x.0 e) ∙ size) (order_stays e entries xs x.0 x.1 order) (All-tail W e entries within) (rest_served e entries xs x.0 x.1 served) in (
        x.0,
        subst (λ (m : ℕ). slice_get xs (bank_of_line m (line_of e.request)) ≡ Some x.0) (sym size) x.1,
        first.0,
        first.1,
        subst (λ (m : ℕ). AreAnswered (slice_set xs m (shard_after x.0 e)) entries (each_after shard_after (bank_of_entry n) (e ∷ entries) xs)) (sym (order bank x.0 x.1))
            (subst (AreAnswered ys entries) (sym (after_first shard_after (bank_of_entry n) e entries xs x.0 x.1)) rest),
      )

pub whole_answered : NumberStays → WholeIsAnswered
whole_answered stays t entries seats left whole =
    let n : ℕ = length t.shards in
    subst (AreAnswered t.shards entries) (sym whole.left)
    (answered stays n entries t.shards refl (λ number x at. (whole.new number x at).0)
    (All-weaker (λ e. MayAsk t.shards e.core e.request) (λ e. bank_of_entry n e < n) (λ e may. slice_get_within t.shards (bank_of_entry n e) may.0 may.1) entries whole.servable)
    whole.served)

-- ---- one memory and one machine's caches

same_size : (s : ShardState) (e : Entry) → (shard_after s e).size ≡ s.size
unfolding shard_after
same_size s e = refl

servable_of : (s : ShardState) (e : Entry) → CanServe s e.request → IsServable s.base s.size (have_l1i s.caches) e.request
unfolding CanServe
servable_of s e can = can.0

record AreOfMarked (base size : ℕ) (l1i : Bool) (memory : MarkedMemory) (c : Caches) (entries : List Entry) (left : List ShardState) : Type 0 where
  replies : map (λ e. e.reply) entries ≡ marked_replies memory (accesses_of entries)
  outcomes : map (λ e. e.outcome) entries ≡ outcomes_of c (accesses_of entries)
  stand : StandFor left (marked_after_all memory (accesses_of entries)) (caches_after_all c (accesses_of entries))
  base_is : (marked_after_all memory (accesses_of entries)).base ≡ base
  size_is : length (marked_after_all memory (accesses_of entries)).bytes ≡ size
  cores_are : length (caches_after_all c (accesses_of entries)).l1 ≡ length c.l1
  l1i_is : have_l1i (caches_after_all c (accesses_of entries)) ≡ l1i

module _ (stand : ShardsStandForAMachine) (coherent : CoherentStays) (base size : ℕ) (l1i : Bool) where
  marked : (entries : List Entry) (xs : List ShardState) (memory : MarkedMemory) (c : Caches) (left : List ShardState)
      → StandFor xs memory c → memory.base ≡ base → length memory.bytes ≡ size → have_l1i c ≡ l1i → All (λ e. e.core < length c.l1) entries
      → All (λ e. IsServable base size l1i e.request) entries → AreAnswered xs entries left → AreOfMarked base size l1i memory c entries left
  marked [] xs memory c left h base_is size_is l1i_is known can did = record {
    replies = refl;
    outcomes = refl;
    stand = subst (λ (ys : List ShardState). StandFor ys memory c) (sym did) h;
    base_is = base_is;
    size_is = size_is;
    cores_are = refl;
    l1i_is = l1i_is;
  }
  marked (e ∷ entries) xs memory c left h base_is size_is l1i_is known can did =
      let Known : Entry → Type 0 = λ e. e.core < length c.l1 in
      let Can : Entry → Type 0 = λ e. IsServable base size l1i e.request in
      let s : ShardState = did.0 in
      let number : ℕ = bank_of_line (length xs) (line_of e.request) in
      let here_known : Known e = All-head Known e entries known in
      let here_can : IsServable memory.base (length memory.bytes) (have_l1i c) e.request =
      subst (λ (b : ℕ). IsServable b (length memory.bytes) (have_l1i c) e.request) (sym base_is)
      (subst (λ (m : ℕ). IsServable base m (have_l1i c) e.request) (sym size_is) (subst (λ (have : Bool). IsServable base size have e.request) (sym l1i_is) (All-head Can e entries can))) in
      let step = stand xs memory c s e h did.1 here_can here_known in
      let at : slice_get xs s.number ≡ Some s = ap (slice_get xs) (h.are.number number s did.1) ∙ did.1 in
      let later : MarkedMemory = marked_after memory e.core e.request in
      let ys : List ShardState = slice_set xs s.number (shard_after s e) in
      let size_stays : length later.bytes ≡ size =
      sym (step.2.are.size s.number (shard_after s e) (get_set xs s.number s (shard_after s e) at)) ∙ (same_size s e ∙ (h.are.size number s did.1 ∙ size_is)) in
      let stays = coherent c e.core e.request h.coherent h.room here_known in
      let cores_stay : length (caches_after c e.core e.request).l1 ≡ length c.l1 = stays.2 in
      let rest : AreOfMarked base size l1i later (caches_after c e.core e.request) entries left =
      marked entries ys later (caches_after c e.core e.request) left step.2 base_is size_stays (ap (nat_lt 0) stays.3 ∙ l1i_is)
      (subst (λ (m : ℕ). All (λ (x : Entry). x.core < m) entries) (sym cores_stay) (All-tail Known e entries known)) (All-tail Can e entries can) did.4 in
      record {
        replies = rw (did.2 ∙ step.0, rest.replies) refl;
        outcomes = rw (did.3 ∙ step.1, rest.outcomes) refl;
        stand = rest.stand;
        base_is = rest.base_is;
        size_is = rest.size_is;
        cores_are = rest.cores_are ∙ cores_stay;
        l1i_is = rest.l1i_is;
      }

-- each core is one of the machine, and what it asks memory can serve
module _ (t : TableState) (entries : List Entry) (seats : List SeatState) (left : List ShardState) (memory : MarkedMemory) (c : Caches) (whole : AreWhole t entries seats left) (h : StandFor t.shards memory c) where
  abbrev May : Entry → Type 0
  May e = MayAsk t.shards e.core e.request

  all_known : All (λ e. e.core < length c.l1) entries
  all_known = All-weaker May (λ e. e.core < length c.l1) (λ e may. let marks = (h.cores (bank_of_entry (length t.shards) e) may.0 may.1).1 in subst (λ (m : ℕ). e.core < m) marks may.2) entries whole.servable

  all_can : All (λ e. IsServable memory.base (length memory.bytes) (have_l1i c) e.request) entries
  all_can =
      All-weaker May (λ e. IsServable memory.base (length memory.bytes) (have_l1i c) e.request) (λ e may.
      subst (λ (have : Bool). IsServable memory.base (length memory.bytes) have e.request) (ap (nat_lt 0) (h.fetchers (bank_of_entry (length t.shards) e) may.0 may.1))
      (subst (λ (m : ℕ). IsServable memory.base m (have_l1i may.0.caches) e.request) (h.are.size (bank_of_entry (length t.shards) e) may.0 may.1)
      (subst (λ (b : ℕ). IsServable b may.0.size (have_l1i may.0.caches) e.request) (h.are.base (bank_of_entry (length t.shards) e) may.0 may.1) (servable_of may.0 e may.3)))) entries whole.servable

pub whole_of_one_machine : WholeIsAnswered → CoherentStays → ShardsStandForAMachine → EntriesAreOfOneMachine
    → (t : TableState) (entries : List Entry) (seats : List SeatState) (left : List ShardState) (memory : MarkedMemory) (c : Caches)
    → AreWhole t entries seats left → StandFor t.shards memory c → AreOfOneMachine memory c entries left
whole_of_one_machine answers coherent stand one_machine t entries seats left memory c whole h =
    let did : AreAnswered t.shards entries left = answers t entries seats left whole in
    let known = all_known t entries seats left memory c whole h in
    let can = all_can t entries seats left memory c whole h in
    let m = marked stand coherent memory.base (length memory.bytes) (have_l1i c) entries t.shards memory c left h refl refl refl known can did in
    record {
      replies = m.replies;
      outcomes = m.outcomes;
      stand = m.stand;
      flat = λ pairings long right.
          let flat = one_machine t.shards memory c pairings entries left h long known can right did in
          (flat.0, flat.3);
    }

-- ---- what a load reads

-- some accesses, and then others
answered_split : (entries others : List Entry) (xs left : List ShardState) → AreAnswered xs (entries ++ others) left
    → (between : List ShardState) × AreAnswered xs entries between × AreAnswered between others left
answered_split [] others xs left did = (xs, refl, did)
answered_split (e ∷ entries) others xs left did =
    let rest = answered_split entries others (slice_set xs did.0.number (shard_after did.0 e)) left did.4 in
    (rest.0, (did.0, did.1, did.2, did.3, rest.1), rest.2)

pub reads_after_writes : WholeIsAnswered → CoherentStays → ShardsStandForAMachine → ReadAfterWrite → WholeReadsAfterWrites
reads_after_writes answers coherent stand reads t seats left memory c before between later store load addr width value whole h stored loaded none_wrote =
    let rest : List Entry = store ∷ (between ++ (load ∷ later)) in
    let first : List Entry = store ∷ (between ++ (load ∷ [])) in
    let Known : Entry → Type 0 = λ e. e.core < length c.l1 in
    let Can : Entry → Type 0 = λ e. IsServable memory.base (length memory.bytes) (have_l1i c) e.request in
    let known : All Known (before ++ rest) = all_known t (before ++ rest) seats left memory c whole h in
    let can : All Can (before ++ rest) = all_can t (before ++ rest) seats left memory c whole h in
    let one = answered_split before rest t.shards left (answers t (before ++ rest) seats left whole) in
    let m = marked stand coherent memory.base (length memory.bytes) (have_l1i c) before t.shards memory c one.0 h refl refl refl (left_all Known before rest known) (left_all Can before rest can) one.1 in
    let now : MarkedMemory = marked_after_all memory (accesses_of before) in
    let caches : Caches = caches_after_all c (accesses_of before) in
    let again : rest ≡ first ++ later = ap (λ (es : List Entry). store ∷ es) (sym (append_assoc between (load ∷ []) later)) in
    let two = answered_split first later one.0 left (subst (λ (es : List Entry). AreAnswered one.0 es left) again one.2) in
    let known_first : All Known first = left_all Known first later (subst (All Known) again (right_all Known before rest known)) in
    let can_first : All Can first = left_all Can first later (subst (All Can) again (right_all Can before rest can)) in
    reads one.0 now caches store load between two.0 addr width value m.stand two.1
    (subst (λ (n : ℕ). All (λ (e : Entry). e.core < n) first) (sym m.cores_are) known_first)
    (subst (λ (b : ℕ). All (λ (e : Entry). IsServable b (length now.bytes) (have_l1i caches) e.request) first) (sym m.base_is)
    (subst (λ (n : ℕ). All (λ (e : Entry). IsServable memory.base n (have_l1i caches) e.request) first) (sym m.size_is)
    (subst (λ (have : Bool). All (λ (e : Entry). IsServable memory.base (length memory.bytes) have e.request) first) (sym m.l1i_is) can_first)))
    stored loaded none_wrote
