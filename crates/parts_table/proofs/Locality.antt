-- What a right access touches, is answered and leaves depends on the parts alone that it touches. It leaves homes and L1s
-- of a machine, of which can be asked what could be asked before.
use Rattle.std.proofs.Common.{◌≡◌, ℕ, ◌+◌, ◌<◌, ◌≤◌, Bool, true, false, cond, List, [], ◌∷◌, length, get_or, refl, sym, ◌∙◌, ap, subst, arith, inl, inr}
use Rattle.std.specs.Prelude.{◌&&◌, not, nat_eq, nat_lt, slice_get, Some, None}
use Rattle.std.specs.List.{range_with_len}
use Rattle.std.specs.Set.{is_member}
use Rattle.std.proofs.lemmas.Bool.{cases_Bool, cases_eq, cases_lt, eq-eqb, ne_eqb}
use Rattle.std.proofs.lemmas.Bool.Decides.{nat_tests}
use Rattle.std.proofs.lemmas.List.{get_or-set_same, get_or_past}
use Rattle.std.proofs.lemmas.List.FromFn.{get_or-map-range_with_len, length-map-range_with_len}
use Rattle.zs_num.specs.declared.request.Request.{Request}
use Rattle.home.specs.HomeState.{HomeState}
use Rattle.l1_cache.specs.L1State.{L1State, is_private, no_l1, private_after, private_reply}
use Rattle.shard.specs.PartsLaws.{AreParts}
use Rattle.shard.specs.Seen.{bank_at, no_home}
use Rattle.shard.specs.SharedStep.{Bank, bank_after, bank_reply, l1_of, met_at_bank, shared_after, shared_reply, touched_by, with_l1}
use Rattle.parts_table.specs.declared.part.Part.{Part}
use Rattle.parts_table.specs.declared.part.TimedPart.{TimedPart}
use Rattle.parts_table.specs.declared.view.Made.{Made}
use Rattle.parts_table.specs.MachineLaws.{MachineLaws}
use Rattle.shard.specs.Touched.{IsLike}
use Rattle.parts_table.specs.World.{IsRight, IsSound, MayAsk, World, after, bank_for, bank_in, bank_of_made, home_in, is_alone, l1_in, l1s_in, moved, parts_in, touches}

-- ---- the parts of a world

module _ (cores banks : ℕ) (w : World) where
  pub l1_at : (core : ℕ) → core < cores → (d : L1State) → get_or (l1s_in cores banks w) core d ≡ l1_in (w core).part
  l1_at core within d = get_or-map-range_with_len (λ c. l1_in (w c).part) 0 cores core core d within (omega arith)

  pub many_l1s : length (l1s_in cores banks w) ≡ cores
  many_l1s = length-map-range_with_len (λ c. l1_in (w c).part) 0 cores

  pub home_at : (bank : ℕ) → bank < banks → (d : HomeState) → get_or (parts_in cores banks w).homes bank d ≡ home_in (w (cores + bank)).part
  home_at bank within d = get_or-map-range_with_len (λ b. home_in (w (cores + b)).part) 0 banks bank bank d within (omega arith)

  pub many_homes : length (parts_in cores banks w).homes ≡ banks
  many_homes = length-map-range_with_len (λ b. home_in (w (cores + b)).part) 0 banks

  pub bank_is : (bank : ℕ) → bank < banks → bank_at (parts_in cores banks w) bank ≡ bank_in cores banks w bank
  bank_is bank within = ap (λ (h : HomeState). record { home = h; l1s = l1s_in cores banks w }) (home_at bank within no_home)

  pub parts_at : IsSound cores banks w → (bank : ℕ) → bank < banks → AreParts (bank_in cores banks w bank)
  parts_at sound bank within = subst AreParts (bank_is bank within) (sound.parts.parts bank (subst (λ (n : ℕ). bank < n) (sym many_homes) within))

  -- ---- an access
  module _ (a : Made) where
    pub in_l1s : (k : ℕ) → k < cores → touches cores banks w a k ≡ is_member nat_eq (touched_by (bank_for cores banks w a) a.entry.core a.entry.request) k
    unfolding touches
    in_l1s k within = let is : nat_lt k cores ≡ true = grind (arith, nat_tests) in rw is refl

    pub in_homes : (k : ℕ) → cores ≤ k → touches cores banks w a k ≡ (nat_eq k (cores + bank_of_made cores banks a) && not (is_alone cores banks w a))
    unfolding touches
    in_homes k past = let is : nat_lt k cores ≡ false = grind (arith, nat_tests) in rw is refl

    pub moved_l1 : (k : ℕ) → k < cores → moved cores banks w a k ≡ record { time = a.time; part = Part.L1 (l1_of (bank_after (bank_for cores banks w a) a.entry.core a.entry.request) k) }
    unfolding moved
    moved_l1 k within = let is : nat_lt k cores ≡ true = grind (arith, nat_tests) in rw is refl

    pub moved_home : (k : ℕ) → cores ≤ k → moved cores banks w a k ≡ record { time = a.time; part = Part.Home (bank_after (bank_for cores banks w a) a.entry.core a.entry.request).home }
    unfolding moved
    moved_home k past = let is : nat_lt k cores ≡ false = grind (arith, nat_tests) in rw is refl

    pub touched_after : (k : ℕ) → touches cores banks w a k ≡ true → after cores banks w a k ≡ moved cores banks w a k
    unfolding after
    touched_after k is = rw is refl

    pub other_after : (k : ℕ) → touches cores banks w a k ≡ false → after cores banks w a k ≡ w k
    unfolding after
    other_after k is = rw is refl

    pub time_moved : (k : ℕ) → (moved cores banks w a k).time ≡ a.time
    unfolding moved
    time_moved k = refl

pub own_member : (p : Bank) (core : ℕ) (request : Request) → is_member nat_eq (touched_by p core request) core ≡ true
unfolding touched_by
own_member p core request = rw (eq-eqb core core refl) refl

pub alone_touched : (p : Bank) (core : ℕ) (request : Request) → is_private (l1_of p core) request ≡ true → touched_by p core request ≡ core ∷ []
unfolding touched_by
alone_touched p core request alone = rw alone refl

-- what a private access is answered and leaves
pub alone_reply : (p : Bank) (core : ℕ) (request : Request) → is_private (l1_of p core) request ≡ true → bank_reply p core request ≡ private_reply (l1_of p core) request
unfolding bank_reply
alone_reply p core request alone = ap (λ (b : Bool). cond b (private_reply (l1_of p core) request) (shared_reply p core request)) alone

pub alone_after : (p : Bank) (core : ℕ) (request : Request) → is_private (l1_of p core) request ≡ true → bank_after p core request ≡ with_l1 core (λ l1. private_after l1 request) p
unfolding bank_after
alone_after p core request alone = ap (λ (b : Bool). cond b (with_l1 core (λ l1. private_after l1 request) p) (shared_after p core request)) alone

pub own_touched : (cores banks : ℕ) (w : World) (a : Made) → a.entry.core < cores → touches cores banks w a a.entry.core ≡ true
own_touched cores banks w a within = in_l1s cores banks w a a.entry.core within ∙ own_member (bank_for cores banks w a) a.entry.core a.entry.request

-- ---- worlds that are alike where an access touches them

-- Parts to which accesses have led from those of a machine.
pub record IsFine (cores banks : ℕ) (first w : World) : Type 0 where
  pub sound : IsSound cores banks w
  pub asked : (core : ℕ) (request : Request) → MayAsk cores banks first core request → MayAsk cores banks w core request

-- An access that its core may make, and that has what the parts give it.
pub record IsAllowed (cores banks : ℕ) (first w : World) (a : Made) : Type 0 where
  pub right : IsRight cores banks w a
  pub asked : MayAsk cores banks first a.entry.core a.entry.request

-- what the access is where the worlds are alike
pub record IsSameAccess (cores banks : ℕ) (w v : World) (a : Made) : Type 0 where
  pub touched : (k : ℕ) → touches cores banks v a k ≡ touches cores banks w a k
  pub moved_same : (k : ℕ) → touches cores banks w a k ≡ true → moved cores banks v a k ≡ moved cores banks w a k
  pub right : IsRight cores banks v a

module _ (cores banks : ℕ) (laws : MachineLaws) (w v : World) (a : Made) (sound : IsSound cores banks w) (too : IsSound cores banks v)
    (right : IsRight cores banks w a) (asked : MayAsk cores banks w a.entry.core a.entry.request) (asked_too : MayAsk cores banks v a.entry.core a.entry.request)
    (agree : (k : ℕ) → touches cores banks w a k ≡ true → v k ≡ w k) where
  abbrev core : ℕ
  core = a.entry.core

  abbrev request : Request
  request = a.entry.request

  abbrev p : Bank
  p = bank_for cores banks w a

  abbrev q : Bank
  q = bank_for cores banks v a

  abbrev home : ℕ
  home = cores + bank_of_made cores banks a

  are : AreParts p
  are = parts_at cores banks w sound (bank_of_made cores banks a) right.bank

  are_too : AreParts q
  are_too = parts_at cores banks v too (bank_of_made cores banks a) right.bank

  own_same : v core ≡ w core
  own_same = agree core (own_touched cores banks w a right.known)

  l1_same : (k : ℕ) → (k < cores → v k ≡ w k) → l1_of q k ≡ l1_of p k
  l1_same k same =
      elim (cases_lt k cores) as (λ _. l1_of q k ≡ l1_of p k) [
        | inl within ↦ l1_at cores banks v k within no_l1 ∙ (ap (λ (x : TimedPart). l1_in x.part) (same within) ∙ sym (l1_at cores banks w k within no_l1))
        | inr past ↦
            get_or_past (l1s_in cores banks v) k no_l1 (subst (λ (n : ℕ). n ≤ k) (sym (many_l1s cores banks v)) past)
            ∙ sym (get_or_past (l1s_in cores banks w) k no_l1 (subst (λ (n : ℕ). n ≤ k) (sym (many_l1s cores banks w)) past))
      ]

  own_l1_same : l1_of q core ≡ l1_of p core
  own_l1_same = l1_same core (λ _. own_same)

  alone_same : is_alone cores banks v a ≡ is_alone cores banks w a
  alone_same = ap (λ (l1 : L1State). is_private l1 request) own_l1_same

  same_touched : touched_by q core request ≡ touched_by p core request → (k : ℕ) → touches cores banks v a k ≡ touches cores banks w a k
  same_touched is k =
      elim (cases_lt k cores) as (λ _. touches cores banks v a k ≡ touches cores banks w a k) [
        | inl within ↦ in_l1s cores banks v a k within ∙ (ap (λ (cs : List ℕ). is_member nat_eq cs k) is ∙ sym (in_l1s cores banks w a k within))
        | inr past ↦ in_homes cores banks v a k past ∙ (ap (λ (b : Bool). nat_eq k home && not b) alone_same ∙ sym (in_homes cores banks w a k past))
      ]

  same_right : ((k : ℕ) → touches cores banks v a k ≡ touches cores banks w a k) → bank_reply q core request ≡ bank_reply p core request → met_at_bank q core request ≡ met_at_bank p core request
      → IsRight cores banks v a
  same_right touched reply met = record {
    known = right.known;
    bank = right.bank;
    reply = right.reply ∙ sym reply;
    outcome = right.outcome ∙ sym met;
    shared = right.shared ∙ ap not (sym alone_same);
    alone = λ is. right.alone is ∙ ap (λ (x : TimedPart). x.time) (sym own_same);
    later = λ is k at. let here : touches cores banks w a k ≡ true = sym (touched k) ∙ at in subst (λ (x : TimedPart). x.time < a.time) (sym (agree k here)) (right.later is k here);
  }

  -- ---- the core's own L1 serves it alone

  module _ (alone : is_alone cores banks w a ≡ true) where
    alone_too : is_alone cores banks v a ≡ true
    alone_too = alone_same ∙ alone

    own_list : touched_by q core request ≡ touched_by p core request
    own_list = alone_touched q core request alone_too ∙ sym (alone_touched p core request alone)

    touched_alone : (k : ℕ) → touches cores banks v a k ≡ touches cores banks w a k
    touched_alone = same_touched own_list

    -- it touches that L1 and nothing else
    only_own : (k : ℕ) → touches cores banks w a k ≡ true → (k < cores) × (k ≡ core)
    only_own k is =
        elim (cases_lt k cores) as (λ _. (k < cores) × (k ≡ core)) [
          | inl within ↦
              let one : is_member nat_eq (core ∷ []) k ≡ true = ap (λ (cs : List ℕ). is_member nat_eq cs k) (sym (alone_touched p core request alone)) ∙ (sym (in_l1s cores banks w a k within) ∙ is) in
              elim (cases_eq k core) as (λ _. (k < cores) × (k ≡ core)) [
                | inl same ↦ (within, same)
                | inr other ↦ absurd (let no : is_member nat_eq (core ∷ []) k ≡ false = rw (ne_eqb k core other) refl in let bad : true ≡ false = sym one ∙ no in cc)
              ]
          | inr past ↦ absurd (
              let at : (nat_eq k home && not (is_alone cores banks w a)) ≡ true = sym (in_homes cores banks w a k past) ∙ is in
              let no : (nat_eq k home && not (is_alone cores banks w a)) ≡ false = rw alone (none (nat_eq k home)) in
              let bad : true ≡ false = sym at ∙ no in cc)
        ]
      where
        none : (b : Bool) → (b && false) ≡ false
        none true = refl
        none false = refl

    l1_after : (r : Bank) → is_private (l1_of r core) request ≡ true → length r.l1s ≡ cores → l1_of (bank_after r core request) core ≡ private_after (l1_of r core) request
    l1_after r private many =
        ap (λ (b : Bank). l1_of b core) (alone_after r core request private)
        ∙ get_or-set_same r.l1s core (private_after (l1_of r core) request) no_l1 (subst (λ (n : ℕ). core < n) (sym many) right.known)

    moved_alone : (k : ℕ) → touches cores banks w a k ≡ true → moved cores banks v a k ≡ moved cores banks w a k
    moved_alone k is =
        let own = only_own k is in
        let l1 : l1_of (bank_after q core request) k ≡ l1_of (bank_after p core request) k =
        subst (λ (n : ℕ). l1_of (bank_after q core request) n ≡ l1_of (bank_after p core request) n) (sym own.1)
        (l1_after q alone_too (many_l1s cores banks v) ∙ (ap (λ (l : L1State). private_after l request) own_l1_same ∙ sym (l1_after p alone (many_l1s cores banks w)))) in
        moved_l1 cores banks v a k own.0 ∙ (ap (λ (l : L1State). record { time = a.time; part = Part.L1 l }) l1 ∙ sym (moved_l1 cores banks w a k own.0))

    same_alone : IsSameAccess cores banks w v a
    same_alone = record {
      touched = touched_alone;
      moved_same = moved_alone;
      right = same_right touched_alone
          (alone_reply q core request alone_too ∙ (ap (λ (l : L1State). private_reply l request) own_l1_same ∙ sym (alone_reply p core request alone)))
          ((laws.hits q core request are_too asked_too.1 (sure alone_too)).0 ∙ sym (laws.hits p core request are asked.1 (sure alone)).0);
    } where
      sure : {b : Bool} → b ≡ true → Rattle.std.specs.Prelude.IsTrue b
      sure is = is

  -- ---- it is shared

  module _ (shared : is_alone cores banks w a ≡ false) where
    home_touched : touches cores banks w a home ≡ true
    home_touched = in_homes cores banks w a home (omega arith) ∙ rw (eq-eqb home home refl, shared) refl

    like : IsLike p q core request
    like = record {
      home = ap (λ (x : TimedPart). home_in x.part) (agree home home_touched);
      count = many_l1s cores banks v ∙ sym (many_l1s cores banks w);
      same = λ k is. l1_same k (λ within. agree k (in_l1s cores banks w a k within ∙ is));
    }

    same_shared : IsSameAccess cores banks w v a
    same_shared = record {
      touched = same_touched (laws.only p q core request are asked.1 like).0;
      moved_same = λ k is.
          elim (cases_lt k cores) as (λ _. moved cores banks v a k ≡ moved cores banks w a k) [
            | inl within ↦
                moved_l1 cores banks v a k within
                ∙ (ap (λ (l : L1State). record { time = a.time; part = Part.L1 l }) ((laws.only p q core request are asked.1 like).5 k (sym (in_l1s cores banks w a k within) ∙ is)) ∙ sym (moved_l1 cores banks w a k within))
            | inr past ↦
                moved_home cores banks v a k past
                ∙ (ap (λ (h : HomeState). record { time = a.time; part = Part.Home h }) (laws.only p q core request are asked.1 like).3 ∙ sym (moved_home cores banks w a k past))
          ];
      right = (let same = laws.only p q core request are asked.1 like in same_right (same_touched same.0) same.1 same.2);
    }

  pub same_access : IsSameAccess cores banks w v a
  same_access = elim (cases_Bool (is_alone cores banks w a)) as (λ _. IsSameAccess cores banks w v a) [
    | inl alone ↦ same_alone alone
    | inr shared ↦ same_shared shared
  ]
