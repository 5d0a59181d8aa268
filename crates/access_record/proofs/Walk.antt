-- The accesses in recorded order are met core by core, and their records are taken.
use Rattle.std.proofs.Common.{◌≡◌, ℕ, zero, suc, ◌+◌, ◌<◌, ◌≤◌, true, false, Option, List, [], ◌∷◌, ◌++◌, All, Some, append-nil, append_assoc, length, map, get_or, set, drop, refl, sym, ap, ap₂, ◌∙◌, subst, arith, inl, inr}
use Rattle.std.specs.List.{slice_get}
use Rattle.std.specs.Option.{option_map}
use Rattle.std.specs.Prelude.{replicate}
use Rattle.std.proofs.lemmas.Bool.{cases_eq, eq-eqb, ne_eqb}
use Rattle.std.proofs.lemmas.List.{drop_all, get_or-map, get_or-set_other, get_or-set_same, length-map, length-replicate, length-set}
use Rattle.std.proofs.lemmas.Option.{get_or_from_slice_get, slice_get-map, slice_get_within}
use Rattle.zs_num.specs.declared.entry.Entry.{Entry}
use Rattle.access_log.specs.History.{of_core}
use Rattle.access_record.specs.BankLogs.{BankLogState, byte_of, makes_events}
use Rattle.access_record.specs.Laws.{beyond_hits, kept_of}
use Rattle.access_record.specs.RecordLogs.{RecordLogState}
use Rattle.access_record.specs.RecordedAccesses.{AreRecordsOf, IsWalking}
use Rattle.access_record.proofs.Steps.{next_of, zero_at}

pub drop_step : (xs : List Entry) (n : ℕ) (e : Entry) (ys : List Entry) → drop n xs ≡ e ∷ ys → (n < length xs) × (slice_get xs n ≡ Some e) × (drop (n + 1) xs ≡ ys)
drop_step [] zero e ys same = cc
drop_step [] (suc n) e ys same = cc
drop_step (x ∷ xs) zero e ys same = (omega arith, cc, cc)
drop_step (x ∷ xs) (suc n) e ys same =
    let r = drop_step xs n e ys same in
    let k : suc n + 1 ≡ suc (n + 1) = omega arith in
    (omega (arith, r.0), r.1, ap (λ (m : ℕ). drop m (x ∷ xs)) k ∙ r.2)

pub own_first : (e : Entry) (rest : List Entry) → of_core e.core (e ∷ rest) ≡ e ∷ of_core e.core rest
own_first e rest = rw (eq-eqb e.core e.core refl) refl

pub other_first : (i : ℕ) (e : Entry) (rest : List Entry) → (i ≡ e.core → ⊥) → of_core i (e ∷ rest) ≡ of_core i rest
other_first i e rest other = rw (ne_eqb e.core i (λ s. other (sym s))) refl

-- one of several counts goes on by one
pub counted : {X : Type 0} (list_of : X → List Entry) (xs : List X) (counts : List ℕ) (k : ℕ) (before after : ℕ → List Entry) (e : Entry)
    → k < length counts → ((i : ℕ) (x : X) → slice_get xs i ≡ Some x → drop (get_or counts i 0) (list_of x) ≡ before i)
    → before k ≡ e ∷ after k → ((i : ℕ) → (i ≡ k → ⊥) → before i ≡ after i)
    → (i : ℕ) (x : X) → slice_get xs i ≡ Some x → drop (get_or (set counts k (get_or counts k 0 + 1)) i 0) (list_of x) ≡ after i
counted {X} list_of xs counts k before after e within all here others i x at =
    elim (cases_eq i k) as (λ _. drop (get_or (set counts k (get_or counts k 0 + 1)) i 0) (list_of x) ≡ after i) [
      | inl same ↦
          let there : slice_get xs k ≡ Some x = ap (slice_get xs) (sym same) ∙ at in
          let now : get_or (set counts k (get_or counts k 0 + 1)) i 0 ≡ get_or counts k 0 + 1 = ap (λ (j : ℕ). get_or (set counts k (get_or counts k 0 + 1)) j 0) same ∙ get_or-set_same counts k (get_or counts k 0 + 1) 0 within in
          ap (λ (n : ℕ). drop n (list_of x)) now ∙ ((drop_step (list_of x) (get_or counts k 0) e (after k) (all k x there ∙ here)).2 ∙ ap after (sym same))
      | inr other ↦
          ap (λ (n : ℕ). drop n (list_of x)) (get_or-set_other counts k i (get_or counts k 0 + 1) 0 other) ∙ (all i x at ∙ others i other)
    ]

pub byte_at : (banks : ℕ) (entries : List Entry) (bytes : List ℕ) (i d : ℕ) (e : Entry) → bytes ≡ map (byte_of banks) entries → slice_get entries i ≡ Some e → get_or bytes i d ≡ byte_of banks e
byte_at banks entries bytes i d e are at =
    ap (λ (bs : List ℕ). get_or bs i d) are ∙ get_or_from_slice_get (map (byte_of banks) entries) i (byte_of banks e) d (slice_get-map (byte_of banks) entries i ∙ ap (option_map (byte_of banks)) at)

pub some_same : {X : Type 0} {x y : X} (o : Option X) → o ≡ Some x → o ≡ Some y → x ≡ y
some_same o p q = cc

pub has_at : {X : Type 0} (xs : List X) (i : ℕ) → i < length xs → (x : X) × (slice_get xs i ≡ Some x)
has_at [] i within = absurd (omega arith)
has_at (x ∷ xs) zero within = (x, refl)
has_at (x ∷ xs) (suc i) within = has_at xs i (omega arith)

module _ (begin base : ℕ) (recorded : List Entry) (logs : List BankLogState) (records : List RecordLogState) (first : List Entry) (e : Entry) (rest : List Entry) (met taken : List ℕ) (items : List Entry)
    (w : IsWalking begin base recorded logs records first (e ∷ rest) met taken items) where
  -- the next access of the core is this one
  pub met_here : (log : BankLogState) → slice_get logs e.core ≡ Some log → (get_or met e.core 0 < length log.entries) × (slice_get log.entries (get_or met e.core 0) ≡ Some e) × (drop (get_or met e.core 0 + 1) log.entries ≡ of_core e.core rest)
  met_here log at = drop_step log.entries (get_or met e.core 0) e (of_core e.core rest) (w.met_so e.core log at ∙ own_first e rest)

  with_events : makes_events e.outcome ≡ true → (xs : List Entry) → beyond_hits (e ∷ xs) ≡ e ∷ beyond_hits xs
  with_events some xs = rw some refl

  without_events : makes_events e.outcome ≡ false → (xs : List Entry) → beyond_hits (e ∷ xs) ≡ beyond_hits xs
  without_events none xs = rw none refl

  -- the next record of the core is of this one, if it makes events
  pub taken_here : makes_events e.outcome ≡ true → (log : RecordLogState) → slice_get records e.core ≡ Some log → (get_or taken e.core 0 < length log.entries) × (slice_get log.entries (get_or taken e.core 0) ≡ Some e) × (drop (get_or taken e.core 0 + 1) log.entries ≡ beyond_hits (of_core e.core rest))
  taken_here some log at =
      drop_step log.entries (get_or taken e.core 0) e (beyond_hits (of_core e.core rest)) (w.taken_so e.core log at ∙ (ap beyond_hits (own_first e rest) ∙ with_events some (of_core e.core rest)))

  met_more : e.core < length met → (i : ℕ) (log : BankLogState) → slice_get logs i ≡ Some log → drop (get_or (set met e.core (get_or met e.core 0 + 1)) i 0) log.entries ≡ of_core i rest
  met_more known = counted (λ (l : BankLogState). l.entries) logs met e.core (λ i. of_core i (e ∷ rest)) (λ i. of_core i rest) e known w.met_so (own_first e rest) (λ i other. other_first i e rest other)

  same_beyond_hits : makes_events e.outcome ≡ false → (i : ℕ) → beyond_hits (of_core i (e ∷ rest)) ≡ beyond_hits (of_core i rest)
  same_beyond_hits none i =
      elim (cases_eq i e.core) as (λ _. beyond_hits (of_core i (e ∷ rest)) ≡ beyond_hits (of_core i rest)) [
        | inl same ↦
            ap (λ (j : ℕ). beyond_hits (of_core j (e ∷ rest))) same ∙ (ap beyond_hits (own_first e rest) ∙ (without_events none (of_core e.core rest) ∙ ap (λ (j : ℕ). beyond_hits (of_core j rest)) (sym same)))
        | inr other ↦ ap beyond_hits (other_first i e rest other)
      ]

  pub hit_met : e.core < length met → makes_events e.outcome ≡ false → (now : List ℕ) → now ≡ set met e.core (get_or met e.core 0 + 1)
      → IsWalking begin base recorded logs records first rest now taken items
  hit_met known none now is = record {
    listed = ap (λ (xs : List Entry). items ++ map (kept_of begin base) xs) (sym (without_events none rest)) ∙ w.listed;
    met_so = λ i log at. ap (λ (c : List ℕ). drop (get_or c i 0) log.entries) is ∙ met_more known i log at;
    taken_so = λ i log at. w.taken_so i log at ∙ same_beyond_hits none i;
    as_many_met = ap length is ∙ (length-set met e.core (get_or met e.core 0 + 1) ∙ w.as_many_met);
    as_many_taken = w.as_many_taken;
  }

  pub record_taken : e.core < length met → e.core < length taken → makes_events e.outcome ≡ true → (now gone : List ℕ) (all : List Entry)
      → now ≡ set met e.core (get_or met e.core 0 + 1) → gone ≡ set taken e.core (get_or taken e.core 0 + 1) → all ≡ items ++ kept_of begin base e ∷ []
      → IsWalking begin base recorded logs records first rest now gone all
  record_taken known there some now gone all is is_gone more = record {
    listed = ap (λ (xs : List Entry). xs ++ map (kept_of begin base) (beyond_hits rest)) more ∙ (append_assoc items (kept_of begin base e ∷ []) (map (kept_of begin base) (beyond_hits rest))
        ∙ (ap (λ (xs : List Entry). items ++ map (kept_of begin base) xs) (sym (with_events some rest)) ∙ w.listed));
    met_so = λ i log at. ap (λ (c : List ℕ). drop (get_or c i 0) log.entries) is ∙ met_more known i log at;
    taken_so = λ i log at. ap (λ (c : List ℕ). drop (get_or c i 0) log.entries) is_gone
        ∙ counted (λ (l : RecordLogState). l.entries) records taken e.core (λ i. beyond_hits (of_core i (e ∷ rest))) (λ i. beyond_hits (of_core i rest)) e there w.taken_so
        (ap beyond_hits (own_first e rest) ∙ with_events some (of_core e.core rest)) (λ i other. ap beyond_hits (other_first i e rest other)) i log at;
    as_many_met = ap length is ∙ (length-set met e.core (get_or met e.core 0 + 1) ∙ w.as_many_met);
    as_many_taken = ap length is_gone ∙ (length-set taken e.core (get_or taken e.core 0 + 1) ∙ w.as_many_taken);
  }

  -- the same where the core is known by another name
  pub next_met : (core : ℕ) → e.core ≡ core → (log : BankLogState) → slice_get logs core ≡ Some log → (get_or met core 0 < length log.entries) × (slice_get log.entries (get_or met core 0) ≡ Some e)
  next_met core same log at =
      let r = met_here log (ap (slice_get logs) same ∙ at) in
      (subst (λ (k : ℕ). get_or met k 0 < length log.entries) same r.0, subst (λ (k : ℕ). slice_get log.entries (get_or met k 0) ≡ Some e) same r.1)

  pub next_taken : (core : ℕ) → e.core ≡ core → makes_events e.outcome ≡ true → (log : RecordLogState) → slice_get records core ≡ Some log → (get_or taken core 0 < length log.entries) × (slice_get log.entries (get_or taken core 0) ≡ Some e)
  next_taken core same some log at =
      let r = taken_here some log (ap (slice_get records) same ∙ at) in
      (subst (λ (k : ℕ). get_or taken k 0 < length log.entries) same r.0, subst (λ (k : ℕ). slice_get log.entries (get_or taken k 0) ≡ Some e) same r.1)

  pub after_hit : (core : ℕ) → e.core ≡ core → core < length logs → makes_events e.outcome ≡ false → (now : List ℕ) → now ≡ set met core (get_or met core 0 + 1) → IsWalking begin base recorded logs records first rest now taken items
  after_hit core same known none now is =
      hit_met (subst (λ (k : ℕ). k < length met) (sym same) (omega (arith, known, w.as_many_met))) none now (subst (λ (k : ℕ). now ≡ set met k (get_or met k 0 + 1)) (sym same) is)

  pub after_record : (core : ℕ) → e.core ≡ core → core < length logs → length records ≡ length logs → makes_events e.outcome ≡ true → (now gone : List ℕ) (x : Entry) (all : List Entry)
      → now ≡ set met core (get_or met core 0 + 1) → gone ≡ set taken core (get_or taken core 0 + 1)
      → ((log : RecordLogState) → slice_get records core ≡ Some log → (slice_get (map (kept_of log.begin log.base) log.entries) (get_or taken core 0) ≡ Some x) × (log.begin ≡ begin) × (log.base ≡ base))
      → all ≡ items ++ x ∷ []
      → IsWalking begin base recorded logs records first rest now gone all
  after_record core same known as_many some now gone x all is is_gone read more =
      let k = has_at records core (omega (arith, known, as_many)) in
      let log : RecordLogState = k.0 in
      let r = read log k.1 in
      let at = (next_taken core same some log k.1).1 in
      let told : Some x ≡ Some (kept_of log.begin log.base e) = sym r.0 ∙ (slice_get-map (kept_of log.begin log.base) log.entries (get_or taken core 0) ∙ ap (option_map (kept_of log.begin log.base)) at) in
      let x_is : x ≡ kept_of log.begin log.base e = cc in
      let x_so : x ≡ kept_of begin base e = x_is ∙ ap₂ (λ (b o : ℕ). kept_of b o e) r.1 r.2 in
      record_taken (subst (λ (k : ℕ). k < length met) (sym same) (omega (arith, known, w.as_many_met))) (subst (λ (k : ℕ). k < length taken) (sym same) (omega (arith, known, as_many, w.as_many_taken))) some now gone all
      (subst (λ (k : ℕ). now ≡ set met k (get_or met k 0 + 1)) (sym same) is) (subst (λ (k : ℕ). gone ≡ set taken k (get_or taken k 0 + 1)) (sym same) is_gone)
      (more ∙ ap (λ (y : Entry). items ++ y ∷ []) x_so)

-- ---- at the beginning

pub walk_begins : (begin base : ℕ) (logs : List BankLogState) (records : List RecordLogState) (recorded first : List Entry) → AreRecordsOf begin base logs records
    → ((i : ℕ) (log : BankLogState) → slice_get logs i ≡ Some log → of_core i recorded ≡ log.entries)
    → (met taken : List ℕ) → met ≡ replicate (length logs) 0 → taken ≡ replicate (length logs) 0
    → IsWalking begin base recorded logs records first recorded met taken first
walk_begins begin base logs records recorded first kept own met taken met_are taken_are = record {
  listed = refl;
  met_so = λ i log at. ap (λ (n : ℕ). drop n log.entries) (ap (λ (c : List ℕ). get_or c i 0) met_are ∙ zero_at (length logs) i) ∙ sym (own i log at);
  taken_so = λ i log at.
      let l = has_at logs i (omega (arith, slice_get_within records i log at, kept.as_many)) in
      ap (λ (n : ℕ). drop n log.entries) (ap (λ (c : List ℕ). get_or c i 0) taken_are ∙ zero_at (length logs) i)
      ∙ ((kept.each i l.0 log l.1 at).entries_are ∙ ap beyond_hits (sym (own i l.0 l.1)));
  as_many_met = ap length met_are ∙ length-replicate (length logs) 0;
  as_many_taken = ap length taken_are ∙ (length-replicate (length logs) 0 ∙ sym kept.as_many);
}

pub core_next : (recorded : List Entry) (cores : List ℕ) (i many : ℕ) → cores ≡ map (λ e. e.core) recorded → All (λ e. e.core < many) recorded → i < length cores
    → (e : Entry) × (drop i recorded ≡ e ∷ drop (i + 1) recorded) × (e.core ≡ get_or cores i 0) × (get_or cores i 0 < many)
core_next recorded cores i many are known within =
    let in_list : i < length recorded = omega (arith, ap length are, length-map recorded (λ (e : Entry). e.core)) in
    let n = next_of recorded i in_list in
    let core : get_or cores i 0 ≡ n.0.core = ap (λ (cs : List ℕ). get_or cs i 0) are ∙ (get_or-map (λ (e : Entry). e.core) recorded i n.0 0 in_list ∙ ap (λ (e : Entry). e.core) (n.2 n.0)) in
    let small : n.0.core < many = subst (λ (e : Entry). e.core < many) (n.2 n.0) (known i n.0 in_list) in
    (n.0, n.1, sym core, subst (λ (k : ℕ). k < many) (sym core) small)

pub walked : (begin base : ℕ) (recorded : List Entry) (logs : List BankLogState) (records : List RecordLogState) (first : List Entry) (i : ℕ) (met taken : List ℕ) (items : List Entry)
    → length recorded ≤ i → IsWalking begin base recorded logs records first (drop i recorded) met taken items → items ≡ first ++ map (kept_of begin base) (beyond_hits recorded)
walked begin base recorded logs records first i met taken items past w =
    sym (append-nil items) ∙ (ap (λ (xs : List Entry). items ++ map (kept_of begin base) (beyond_hits xs)) (sym (drop_all i recorded past)) ∙ w.listed)
