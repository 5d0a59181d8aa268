-- What an access does to other cores' copies, by the caches before and behind it.
use Rattle.std.proofs.Common.{◌≡◌, ℕ, ◌==◌, Bool, true, false, not, ◌&&◌, ◌||◌, cond, if◌then◌else◌, List, [], ◌∷◌, length, map, filter, count_by, Option, None, is_some, refl, sym, ◌∙◌, ap, inl, inr, arith}
use Rattle.std.specs.List.{list_any, range_with_len}
use Rattle.std.proofs.lemmas.Bool.{and_parts, cases_Bool, eq-eqb}
use Rattle.std.proofs.lemmas.List.Sums.{sum_by-cons}
use Rattle.zs_num.specs.declared.entry.Entry.{Entry}
use Rattle.zs_num.specs.declared.request.Request.{Request}
use Rattle.zs_num.specs.declared.request.Request.TheVariants.{Load, Store, Lr, Sc, Amo, Fetch}
use Rattle.zs_num.specs.Request.{is_fetch, line_of}
use Rattle.cache_set.specs.declared.letter.Letter.{Letter}
use Rattle.cache_set.specs.declared.letter.Letter.TheVariants.{M, E, S, I}
use Rattle.shard.specs.Coherence.{Caches, caches_after, dirty_at, fetch_holds, fetch_met_at, filled_into_l1i, looked_up, used_in_l1i, fetch_outcome_by, is_alone, is_dirty_victim, is_valid, is_write, l2_victim, letter_at, met_at, on_l1i, on_l2, outcome_by, outcome_of, some_other}
use Rattle.shard.specs.Laws.{CoherentStays}
use Rattle.shard.specs.Leaving as leaving_of_caches
use Rattle.shard.specs.Leaving.{fetch_leaving_at, l2_leaves, leaving_at, leaving_of}
use Rattle.shard.specs.LeavingLaws.{CopiesBehind, InstructionsBehind}
use Rattle.shard.specs.declared.leaving.Leaving.{Leaving}
use Rattle.stats.specs.Counted.{one_if}
use Rattle.trace.specs.Laws.{AreMetBy, IsMetBy}
use Rattle.trace.specs.Trace.{Accessed, Ended, Executed, Step}
use Rattle.profile.specs.declared.contribution.Contribution.{Contribution}
use Rattle.profile.specs.Contributions.{suffered_tally, suffering, suffers}
use Rattle.profile.specs.Copies.{Copies, changes_others, copies_after, downgrades, has_other, invalidates, is_held, reads, writes}
use Rattle.profile.specs.MachineCopies.{OfEachAccess, TellsOfOthers, behind, is_lowered, is_shared, loses, suffers_by}
use Rattle.profile_rows.specs.Tallies.{no_tally}
use Rattle.profile.proofs.CopiesHeld.{AreOf, alone_after, met_of_write, no_fetch, not_true, outcome_is, same_write, some_has, still_of, turned}
use Rattle.profile.proofs.Fields.{sum_by-same}

-- ---- lists

filter_same : (p q : ℕ → Bool) → ((n : ℕ) → p n ≡ q n) → (ns : List ℕ) → filter p ns ≡ filter q ns
filter_same p q same [] = refl
filter_same p q same (n ∷ ns) =
    ap (λ (rest : List ℕ). if p n then n ∷ rest else rest) (filter_same p q same ns)
    ∙ ap (λ (b : Bool). if b then n ∷ filter q ns else filter q ns) (same n)

any_same : (p q : ℕ → Bool) → ((n : ℕ) → p n ≡ q n) → (ns : List ℕ) → list_any p ns ≡ list_any q ns
any_same p q same [] = refl
any_same p q same (n ∷ ns) = ap (λ (b : Bool). p n || b) (any_same p q same ns) ∙ ap (λ (b : Bool). b || list_any q ns) (same n)

any_more : (p q : ℕ → Bool) → ((n : ℕ) → p n ≡ true → q n ≡ true) → (ns : List ℕ) → list_any p ns ≡ true → list_any q ns ≡ true
any_more p q more [] some = cc
any_more p q more (n ∷ ns) some =
    elim (cases_Bool (p n)) as (λ _. list_any q (n ∷ ns) ≡ true) [
      | inl here ↦ ap (λ (b : Bool). b || list_any q ns) (more n here)
      | inr not ↦
          let rest : list_any p ns ≡ true = ap (λ (b : Bool). b || list_any p ns) (sym not) ∙ some in
          ap (λ (b : Bool). q n || b) (any_more p q more ns rest) ∙ or_true (q n)
    ]
  where
    or_true : (b : Bool) → (b || true) ≡ true
    or_true true = refl
    or_true false = refl

none_any : (ns : List ℕ) → list_any (λ n. false) ns ≡ false
none_any [] = refl
none_any (n ∷ ns) = none_any ns

none_passes : (ns : List ℕ) → filter (λ n. false) ns ≡ []
none_passes [] = refl
none_passes (n ∷ ns) = none_passes ns

none_counts : (ns : List ℕ) → count_by (λ n. false) ns ≡ 0
none_counts [] = refl
none_counts (n ∷ ns) = omega (arith, sum_by-cons (λ (k : ℕ). 0) n ns, none_counts ns)

some_found : (p : ℕ → Bool) (ns : List ℕ) → list_any p ns ≡ true → (n : ℕ) × (p n ≡ true)
some_found p [] some = cc
some_found p (n ∷ ns) some =
    elim (cases_Bool (p n)) as (λ _. (m : ℕ) × (p m ≡ true)) [
      | inl here ↦ (n, here)
      | inr not ↦ some_found p ns (ap (λ (b : Bool). b || list_any p ns) (sym not) ∙ some)
    ]

-- ---- lists of those that pass two tests, of which the first is the same for all

any_where : (b : Bool) (p : ℕ → Bool) (ns : List ℕ) → (b ≡ true → list_any p ns ≡ true) → list_any (λ n. b && p n) ns ≡ b
any_where true p ns some = some refl
any_where false p ns some = none_any ns

counts_where : (b : Bool) (p : ℕ → Bool) (ns : List ℕ) → (if b then count_by p ns else 0) ≡ count_by (λ n. b && p n) ns
counts_where true p ns = refl
counts_where false p ns = sym (none_counts ns)

counts_same : (p q : ℕ → Bool) → ((n : ℕ) → p n ≡ q n) → (ns : List ℕ) → count_by p ns ≡ count_by q ns
counts_same p q same ns = sum_by-same (λ n. cond (p n) 1 0) (λ n. cond (q n) 1 0) (λ n. ap (λ (b : Bool). cond b 1 0) (same n)) ns

absorbed : (a b : Bool) → a ≡ (a || (b && a))
absorbed true b = refl
absorbed false true = refl
absorbed false false = refl

passes_either : (a b : Bool) (p : ℕ → Bool) (ns : List ℕ) → (if a || b then filter p ns else []) ≡ filter (λ n. (a && p n) || (b && p n)) ns
passes_either true b p ns = filter_same p (λ n. p n || (b && p n)) (λ n. absorbed (p n) b) ns
passes_either false true p ns = refl
passes_either false false p ns = sym (none_passes ns)

map_where : (f g : ℕ → Contribution) (p : ℕ → Bool) → ((n : ℕ) → p n ≡ true → f n ≡ g n) → (ns : List ℕ) → map f (filter p ns) ≡ map g (filter p ns)
map_where f g p same [] = refl
map_where f g p same (n ∷ ns) =
    elim (cases_Bool (p n)) as (λ _. map f (filter p (n ∷ ns)) ≡ map g (filter p (n ∷ ns))) [
      | inl passes ↦ rw passes (ap (λ (c : Contribution). c ∷ map f (filter p ns)) (same n passes) ∙ ap (λ (cs : List Contribution). g n ∷ cs) (map_where f g p same ns))
      | inr not ↦ rw not (map_where f g p same ns)
    ]

-- ---- by tests

one_there : (a b has : Bool) → ((a && has) || (b && has)) ≡ true → has ≡ true
one_there a b true some = refl
one_there true true false some = cc
one_there true false false some = cc
one_there false true false some = cc
one_there false false false some = cc

and_there : (a has : Bool) → has ≡ true → (a && has) ≡ a
and_there true has there = there
and_there false has there = refl

reads_only : (request : Request) → reads request ≡ true → (is_fetch request ≡ false) × (is_write request ≡ false)
reads_only (Load width addr) is = (refl, refl)
reads_only (Store width addr value) is = cc
reads_only (Lr width addr) is = (refl, refl)
reads_only (Sc width paired addr value) is = cc
reads_only (Amo width op addr value) is = cc
reads_only (Fetch addr) is = cc

abbrev suffered_so : Entry → (other : ℕ) → (lost lowered : Bool) → Contribution
suffered_so e other lost lowered = record {
  core = other;
  pc = None;
  line = line_of e.request;
  tally = record no_tally { lost = one_if lost; lowered = one_if lowered };
}

and_none : (b : Bool) → (b && false) ≡ false
and_none true = refl
and_none false = refl

-- whether a copy of data is there behind an access, as `copy_behind` says it, where its tests have these values
abbrev behind_by : (fetch here used write shared room was : Bool) → Bool
behind_by fetch here used write shared room was =
    if not fetch && here && used then true else if shared then false else if not fetch && here && room then false else if not here && used && write then false else was

-- a copy that another core had is lost where the access needs to invalidate, and only there
lost_by : (fetch write shared room takes had : Bool) → (had ≡ true → shared ≡ false) → (takes ≡ true → write ≡ true) → (write ≡ true → takes ≡ false → had ≡ false)
    → (had && not (behind_by fetch false true write shared room had)) ≡ (takes && had)
lost_by fetch write shared room takes false stays writes alone = sym (and_none takes)
lost_by fetch write true room takes true stays writes alone = let wrong = stays refl in cc
lost_by true true false room true true stays writes alone = refl
lost_by false true false room true true stays writes alone = refl
lost_by fetch true false room false true stays writes alone = let wrong = alone refl refl in cc
lost_by fetch false false room true true stays writes alone = let wrong = writes refl in cc
lost_by true false false room false true stays writes alone = refl
lost_by false false false room false true stays writes alone = refl

-- and one that is read, and not written, is there behind the access
kept_by : (shared room had : Bool) → shared ≡ false → had ≡ true → behind_by false false true false shared room had ≡ true
kept_by true room had stays is = cc
kept_by false room true stays is = refl
kept_by false room false stays is = cc

-- ---- the line of an access does not leave the L2 where it is there

fetch_leaves_none : (held in_l2 dirty : Bool) (c : Caches) (line : ℕ) → in_l2 ≡ true → l2_leaves (fetch_outcome_by held in_l2 dirty) c line ≡ None
fetch_leaves_none true in_l2 dirty c line there = refl
fetch_leaves_none false true dirty c line there = refl
fetch_leaves_none false false dirty c line there = cc

leaves_none : (write : Bool) (letter : Letter) (in_l2 alone has dirty : Bool) (c : Caches) (line : ℕ) → in_l2 ≡ true → l2_leaves (outcome_by write letter in_l2 alone has dirty) c line ≡ None
leaves_none false M in_l2 alone has dirty c line there = refl
leaves_none false E in_l2 alone has dirty c line there = refl
leaves_none false S in_l2 alone has dirty c line there = refl
leaves_none false I true alone has dirty c line there = refl
leaves_none false I false alone has dirty c line there = cc
leaves_none true M in_l2 alone has dirty c line there = refl
leaves_none true E in_l2 alone has dirty c line there = refl
leaves_none true S in_l2 alone has dirty c line there = refl
leaves_none true I true alone has dirty c line there = refl
leaves_none true I false alone has dirty c line there = cc

module _ (c : Caches) (core : ℕ) (request : Request) (there : is_some (dirty_at c (line_of request)) ≡ true) where
  abbrev own_line : ℕ
  own_line = line_of request

  stays_by : (fetch : Bool) → leaving_of_caches.is_this (if fetch then fetch_leaving_at c core own_line else leaving_at c core own_line (is_write request)).shared own_line ≡ false
  stays_by true =
      ap (λ (o : Option ℕ). leaving_of_caches.is_this o own_line)
      (fetch_leaves_none (fetch_holds c core own_line) (is_some (dirty_at c own_line)) (is_dirty_victim c (l2_victim c own_line)) c own_line there)
  stays_by false =
      ap (λ (o : Option ℕ). leaving_of_caches.is_this o own_line)
      (leaves_none (is_write request) (letter_at c core own_line) (is_some (dirty_at c own_line)) (some_other is_alone c core own_line) (some_other is_valid c core own_line) (is_dirty_victim c (l2_victim c own_line)) c own_line there)

  pub stays_in_l2 : leaving_of_caches.is_this (leaving_of c core request).shared own_line ≡ false
  unfolding leaving_of
  stays_in_l2 = stays_by (is_fetch request)

-- ---- a fetch changes no letter of its own line

letter_of_fetched : (c : Caches) (core line : ℕ) (held in_l2 dirty : Bool) (other : ℕ) → in_l2 ≡ true → letter_at (on_l1i held core line (on_l2 (fetch_outcome_by held in_l2 dirty) line c)) other line ≡ letter_at c other line
unfolding letter_at used_in_l1i filled_into_l1i looked_up
letter_of_fetched c core line true in_l2 dirty other there = refl
letter_of_fetched c core line false true dirty other there = refl
letter_of_fetched c core line false false dirty other there = cc

same_letter : (c : Caches) (core : ℕ) (request : Request) (other : ℕ) → is_fetch request ≡ true → is_some (dirty_at c (line_of request)) ≡ true
    → letter_at (caches_after c core request) other (line_of request) ≡ letter_at c other (line_of request)
unfolding caches_after
same_letter c core request other fetch there =
    let line = line_of request in
    rw fetch (letter_of_fetched c core line (fetch_holds c core line) (is_some (dirty_at c line)) (is_dirty_victim c (l2_victim c line)) other there)

-- ---- letters

not_shared : (letter : Letter) → is_alone letter ≡ true → is_shared letter ≡ false
not_shared M alone = refl
not_shared E alone = refl
not_shared S alone = cc
not_shared I alone = cc

not_valid : (letter : Letter) → is_valid letter ≡ false → is_shared letter ≡ false
not_valid M not = cc
not_valid E not = cc
not_valid S not = cc
not_valid I not = refl

shares : (letter : Letter) → is_valid letter ≡ true → is_alone letter ≡ false → is_shared letter ≡ true
shares M valid not = cc
shares E valid not = cc
shares S valid not = refl
shares I valid not = cc

alone_is_valid : (letter : Letter) → is_alone letter ≡ true → is_valid letter ≡ true
alone_is_valid M alone = refl
alone_is_valid E alone = refl
alone_is_valid S alone = cc
alone_is_valid I alone = cc

-- ---- how an access is met that changes other cores' copies

takes_from_some : (letter : Letter) (in_l2 alone has dirty : Bool) → changes_others (outcome_by true letter in_l2 alone has dirty) ≡ true → has ≡ true
takes_from_some M in_l2 alone has dirty changes = cc
takes_from_some E in_l2 alone has dirty changes = cc
takes_from_some S in_l2 alone has dirty changes = changes
takes_from_some I true alone has dirty changes = changes
takes_from_some I false alone has dirty changes = cc

lowers_some : (letter : Letter) (in_l2 alone has dirty : Bool) → changes_others (outcome_by false letter in_l2 alone has dirty) ≡ true → alone ≡ true
lowers_some M in_l2 alone has dirty changes = cc
lowers_some E in_l2 alone has dirty changes = cc
lowers_some S in_l2 alone has dirty changes = cc
lowers_some I true alone has dirty changes = changes
lowers_some I false alone has dirty changes = cc

-- a read of a line that another core has alone
lowers_where_alone : (letter : Letter) (in_l2 alone has dirty : Bool) → letter ≡ I → in_l2 ≡ true → alone ≡ true → changes_others (outcome_by false letter in_l2 alone has dirty) ≡ true
lowers_where_alone letter in_l2 alone has dirty none there some = rw (none, there, some) refl

no_read : (request : Request) → reads request ≡ (not (is_fetch request) && not (is_write request))
no_read (Load width addr) = refl
no_read (Store width addr value) = refl
no_read (Lr width addr) = refl
no_read (Sc width paired addr value) = refl
no_read (Amo width op addr value) = refl
no_read (Fetch addr) = refl

met_of_read : (c : Caches) (core : ℕ) (request : Request) → is_fetch request ≡ false → is_write request ≡ false → outcome_of c core request ≡ met_at c core (line_of request) false
met_of_read c core request fetch write =
    outcome_is c core request
    ∙ ap (λ (b : Bool). if b then fetch_met_at c core (line_of request) else met_at c core (line_of request) (is_write request)) fetch
    ∙ ap (met_at c core (line_of request)) write

-- ---- an access

module _ (copies : Copies) (c : Caches) (of : AreOf copies c) (e : Entry) (leaving : Leaving) (met : IsMetBy c e leaving) (stays : CoherentStays) (letters : CopiesBehind) where
  abbrev line : ℕ
  line = line_of e.request

  abbrev before : ℕ → Letter
  before other = letter_at c other line

  abbrev after : ℕ → Letter
  after other = letter_at (behind c e) other line

  abbrev out : Bool
  out = leaving_of_caches.is_this (leaving_of c e.core e.request).shared line

  abbrev room : Bool
  room = leaving_of_caches.is_this (leaving_of c e.core e.request).own line

  -- another core has its copy by the steps
  abbrev has : ℕ → Bool
  has other = has_other copies e.core line other

  has_is : (other : ℕ) → (e.core == other) ≡ false → has other ≡ is_valid (before other)
  has_is other apart = ap (λ (b : Bool). not b && is_held (copies false other line)) apart ∙ of.are false other line

  has_none : (other : ℕ) → (e.core == other) ≡ true → has other ≡ false
  has_none other same = ap (λ (b : Bool). not b && is_held (copies false other line)) same

  stays_there : (other : ℕ) → is_valid (before other) ≡ true → out ≡ false
  stays_there other valid = stays_in_l2 c e.core e.request (of.coherent.inclusive other line valid)

  -- what is there of another core's copy behind the access
  other_behind : (other : ℕ) → (other == e.core) ≡ false → is_valid (after other) ≡ behind_by (is_fetch e.request) false true (is_write e.request) out room (is_valid (before other))
  other_behind other apart =
      letters c e.core e.request of.coherent of.room met.known other line
      ∙ ap (λ (b : Bool). behind_by (is_fetch e.request) b (line == line) (is_write e.request) out room (is_valid (before other))) apart
      ∙ ap (λ (b : Bool). behind_by (is_fetch e.request) false b (is_write e.request) out room (is_valid (before other))) (eq-eqb line line refl)

  writes_where_takes : invalidates e ≡ true → is_write e.request ≡ true
  writes_where_takes takes = sym (same_write e.request) ∙ (and_parts (writes e.request) (changes_others e.outcome) takes).0

  takes_none : (write changes : Bool) → write ≡ true → (write && changes) ≡ false → changes ≡ false
  takes_none true changes is none = none
  takes_none false changes is none = cc

  alone_where_takes_none : (other : ℕ) → (other == e.core) ≡ false → is_write e.request ≡ true → invalidates e ≡ false → is_valid (before other) ≡ false
  alone_where_takes_none other apart write none =
      let changes : changes_others (outcome_of c e.core e.request) ≡ false = ap changes_others (sym met.outcome) ∙ takes_none (writes e.request) (changes_others e.outcome) (same_write e.request ∙ write) none in
      alone_after c e.core e.request of.coherent write changes other (λ same. let is : (other == e.core) ≡ true = eq-eqb other e.core same in cc)

  -- a core loses its copy where the access invalidates, and the core has one by the steps
  lost_is : (other : ℕ) → loses c e other ≡ (invalidates e && has other)
  lost_is other =
      elim (cases_Bool (other == e.core)) as (λ _. loses c e other ≡ (invalidates e && has other)) [
        | inl same ↦
            ap (λ (b : Bool). not b && (is_valid (before other) && not (is_valid (after other)))) same
            ∙ sym (and_none (invalidates e))
            ∙ sym (ap (λ (b : Bool). invalidates e && b) (has_none other (turned e.core other ∙ same)))
        | inr apart ↦
            ap (λ (b : Bool). not b && (is_valid (before other) && not (is_valid (after other)))) apart
            ∙ ap (λ (b : Bool). is_valid (before other) && not b) (other_behind other apart)
            ∙ lost_by (is_fetch e.request) (is_write e.request) out room (invalidates e) (is_valid (before other)) (stays_there other) writes_where_takes (alone_where_takes_none other apart)
            ∙ sym (ap (λ (b : Bool). invalidates e && b) (has_is other (turned e.core other ∙ apart)))
      ]

  -- ---- downgrades

  abbrev lowers : ℕ → Bool
  lowers other = is_alone (before other) && is_shared (after other)

  abbrev IsLowered : ℕ → Type 0
  IsLowered other = lowers other ≡ (downgrades e && is_valid (before other))

  and_true : (a b : Bool) → a ≡ true → b ≡ true → (a && b) ≡ true
  and_true a b one two = rw (one, two) refl

  no_reader : reads e.request ≡ false → downgrades e ≡ false
  no_reader not = ap (λ (b : Bool). b && changes_others e.outcome) not

  none_lowered : (other : ℕ) → downgrades e ≡ false → lowers other ≡ false → IsLowered other
  none_lowered other down not = not ∙ sym (ap (λ (b : Bool). b && is_valid (before other)) down)

  by_fetch : (other : ℕ) → is_fetch e.request ≡ true → IsLowered other
  by_fetch other fetch =
      none_lowered other (no_reader (no_read e.request ∙ ap (λ (b : Bool). not b && not (is_write e.request)) fetch))
      (elim (cases_Bool (is_alone (before other))) as (λ _. lowers other ≡ false) [
        | inl alone ↦
            let there = of.coherent.inclusive other line (alone_is_valid (before other) alone) in
            let shared : is_shared (after other) ≡ false = ap is_shared (same_letter c e.core e.request other fetch there) ∙ not_shared (before other) alone in
            rw shared (and_none (is_alone (before other)))
        | inr not ↦ ap (λ (b : Bool). b && is_shared (after other)) not
      ])

  by_write : (other : ℕ) → (other == e.core) ≡ false → is_write e.request ≡ true → IsLowered other
  by_write other apart write =
      let fetch : is_fetch e.request ≡ false = no_fetch e.request write in
      none_lowered other (no_reader (no_read e.request ∙ ap (λ (b : Bool). not (is_fetch e.request) && not b) write ∙ and_none (not (is_fetch e.request))))
      (elim (cases_Bool (is_alone (before other))) as (λ _. lowers other ≡ false) [
        | inl alone ↦
            let valid = alone_is_valid (before other) alone in
            let gone : is_valid (after other) ≡ false =
            other_behind other apart
            ∙ ap (λ (b : Bool). behind_by b false true (is_write e.request) out room (is_valid (before other))) fetch
            ∙ ap (λ (b : Bool). behind_by false false true b out room (is_valid (before other))) write
            ∙ ap (λ (b : Bool). behind_by false false true true b room (is_valid (before other))) (stays_there other valid)
            in
            rw (not_valid (after other) gone) (and_none (is_alone (before other)))
        | inr not ↦ ap (λ (b : Bool). b && is_shared (after other)) not
      ])

  module _ (fetch : is_fetch e.request ≡ false) (write : is_write e.request ≡ false) where
    reader : reads e.request ≡ true
    reader = no_read e.request ∙ ap (λ (b : Bool). not b && not (is_write e.request)) fetch ∙ ap not write

    met_is : e.outcome ≡ met_at c e.core line false
    met_is = met.outcome ∙ met_of_read c e.core e.request fetch write

    lowers_is : downgrades e ≡ changes_others (met_at c e.core line false)
    lowers_is = ap (λ (b : Bool). b && changes_others e.outcome) reader ∙ ap changes_others met_is

    -- the reader has the line behind the access, so no other core has it alone
    own_behind : is_valid (after e.core) ≡ true
    own_behind =
        letters c e.core e.request of.coherent of.room met.known e.core line
        ∙ ap (λ (b : Bool). behind_by b (e.core == e.core) (line == line) (is_write e.request) out room (is_valid (before e.core))) fetch
        ∙ ap (λ (b : Bool). behind_by false b (line == line) (is_write e.request) out room (is_valid (before e.core))) (eq-eqb e.core e.core refl)
        ∙ ap (λ (b : Bool). behind_by false true b (is_write e.request) out room (is_valid (before e.core))) (eq-eqb line line refl)

    none_alone : (other : ℕ) → (other ≡ e.core → ⊥) → is_alone (after other) ≡ false
    none_alone other apart =
        not_true (is_alone (after other)) (λ alone.
        let still = (stays c e.core e.request of.coherent of.room met.known).0 in
        let own : letter_at (behind c e) e.core line ≡ I = still.single other e.core line (λ same. apart (sym same)) alone in
        let wrong : false ≡ true = sym (ap is_valid own) ∙ own_behind in cc)

    by_read : (other : ℕ) → (other == e.core) ≡ false → IsLowered other
    by_read other apart =
        let not_own : other ≡ e.core → ⊥ = λ same. (let is : (other == e.core) ≡ true = eq-eqb other e.core same in cc) in
        elim (cases_Bool (is_alone (before other))) as (λ _. IsLowered other) [
          | inl alone ↦
              let valid = alone_is_valid (before other) alone in
              let there = of.coherent.inclusive other line valid in
              let own : letter_at c e.core line ≡ I = of.coherent.single other e.core line (λ same. not_own (sym same)) alone in
              let some : some_other is_alone c e.core line ≡ true = some_has is_alone refl c e.core other line not_own alone in
              let down : downgrades e ≡ true = lowers_is ∙ lowers_where_alone (letter_at c e.core line) (is_some (dirty_at c line)) (some_other is_alone c e.core line) (some_other is_valid c e.core line) (is_dirty_victim c (l2_victim c line)) own there some in
              let kept : is_valid (after other) ≡ true =
              other_behind other apart
              ∙ ap (λ (b : Bool). behind_by b false true (is_write e.request) out room (is_valid (before other))) fetch
              ∙ ap (λ (b : Bool). behind_by false false true b out room (is_valid (before other))) write
              ∙ kept_by out room (is_valid (before other)) (stays_there other valid) valid
              in
              and_true (is_alone (before other)) (is_shared (after other)) alone (shares (after other) kept (none_alone other not_own))
              ∙ sym (and_true (downgrades e) (is_valid (before other)) down valid)
          | inr shared ↦
              ap (λ (b : Bool). b && is_shared (after other)) shared
              ∙ sym (elim (cases_Bool (downgrades e)) as (λ _. (downgrades e && is_valid (before other)) ≡ false) [
                | inl down ↦
                    let some : some_other is_alone c e.core line ≡ true = lowers_some (letter_at c e.core line) (is_some (dirty_at c line)) (some_other is_alone c e.core line) (some_other is_valid c e.core line) (is_dirty_victim c (l2_victim c line)) (sym lowers_is ∙ down) in
                    let one = some_found (λ k. not (k == e.core) && is_alone (letter_at c k line)) (range_with_len 0 (length c.l1)) some in
                    let parts = and_parts (not (one.0 == e.core)) (is_alone (letter_at c one.0 line)) one.1 in
                    let gone : before other ≡ I =
                    of.coherent.single one.0 other line (λ same. let is : is_alone (before other) ≡ true = ap (λ (k : ℕ). is_alone (letter_at c k line)) same ∙ parts.1 in cc) parts.1
                    in
                    ap (λ (letter : Letter). downgrades e && is_valid letter) gone ∙ and_none (downgrades e)
                | inr none ↦ ap (λ (b : Bool). b && is_valid (before other)) none
              ])
        ]

  by_request : (other : ℕ) → (other == e.core) ≡ false → IsLowered other
  by_request other apart =
      elim (cases_Bool (is_fetch e.request)) as (λ _. IsLowered other) [
        | inl fetch ↦ by_fetch other fetch
        | inr no_instruction ↦ (elim (cases_Bool (is_write e.request)) as (λ _. IsLowered other) [
          | inl write ↦ by_write other apart write
          | inr reading ↦ by_read no_instruction reading other apart
        ])
      ]

  -- a core's copy is lowered where the access downgrades, and the core has one by the steps
  lowered_is : (other : ℕ) → is_lowered c e other ≡ (downgrades e && has other)
  lowered_is other =
      elim (cases_Bool (other == e.core)) as (λ _. is_lowered c e other ≡ (downgrades e && has other)) [
        | inl same ↦
            ap (λ (b : Bool). not b && lowers other) same
            ∙ sym (and_none (downgrades e))
            ∙ sym (ap (λ (b : Bool). downgrades e && b) (has_none other (turned e.core other ∙ same)))
        | inr apart ↦
            ap (λ (b : Bool). not b && lowers other) apart
            ∙ by_request other apart
            ∙ sym (ap (λ (b : Bool). downgrades e && b) (has_is other (turned e.core other ∙ apart)))
      ]

  -- ---- of all cores

  module _ (cores : ℕ) (many : length c.l1 ≡ cores) where
    abbrev all : List ℕ
    all = range_with_len 0 cores

    has_eq : (other : ℕ) → (not (other == e.core) && is_valid (before other)) ≡ has other
    has_eq other =
        sym (ap (λ (b : Bool). not b && is_held (copies false other line)) (turned e.core other) ∙ ap (λ (b : Bool). not (other == e.core) && b) (of.are false other line))

    takes_some : invalidates e ≡ true → list_any has all ≡ true
    takes_some takes =
        let write = writes_where_takes takes in
        let changes = (and_parts (writes e.request) (changes_others e.outcome) takes).1 in
        let some : some_other is_valid c e.core line ≡ true =
        takes_from_some (letter_at c e.core line) (is_some (dirty_at c line)) (some_other is_alone c e.core line) (some_other is_valid c e.core line) (is_dirty_victim c (l2_victim c line))
        (ap changes_others (sym (met.outcome ∙ met_of_write c e.core e.request write)) ∙ changes)
        in
        sym (any_same (λ other. not (other == e.core) && is_valid (before other)) has has_eq all)
        ∙ ap (λ (n : ℕ). list_any (λ other. not (other == e.core) && is_valid (before other)) (range_with_len 0 n)) (sym many)
        ∙ some

    lowers_one : downgrades e ≡ true → list_any has all ≡ true
    lowers_one down =
        let parts = and_parts (reads e.request) (changes_others e.outcome) down in
        let kind = reads_only e.request parts.0 in
        let some : some_other is_alone c e.core line ≡ true =
        lowers_some (letter_at c e.core line) (is_some (dirty_at c line)) (some_other is_alone c e.core line) (some_other is_valid c e.core line) (is_dirty_victim c (l2_victim c line))
        (sym (lowers_is kind.0 kind.1) ∙ down)
        in
        any_more (λ other. not (other == e.core) && is_alone (before other)) has
        (λ other here.
        let test = and_parts (not (other == e.core)) (is_alone (before other)) here in
        sym (has_eq other) ∙ and_true (not (other == e.core)) (is_valid (before other)) test.0 (alone_is_valid (before other) test.1))
        all
        (ap (λ (n : ℕ). list_any (λ other. not (other == e.core) && is_alone (before other)) (range_with_len 0 n)) (sym many) ∙ some)

    abbrev changes : ℕ → Bool
    changes other = loses c e other || is_lowered c e other

    either_is : (other : ℕ) → ((invalidates e && has other) || (downgrades e && has other)) ≡ changes other
    either_is other = sym (ap (λ (b : Bool). b || is_lowered c e other) (lost_is other) ∙ ap (λ (b : Bool). (invalidates e && has other) || b) (lowered_is other))

    those : suffering cores copies e ≡ filter changes all
    those = passes_either (invalidates e) (downgrades e) has all ∙ filter_same (λ other. (invalidates e && has other) || (downgrades e && has other)) changes either_is all

    what : (other : ℕ) → changes other ≡ true → suffers e other ≡ suffers_by c e other
    unfolding suffered_tally
    what other some =
        let there : has other ≡ true = one_there (invalidates e) (downgrades e) (has other) (either_is other ∙ some) in
        ap (λ (b : Bool). suffered_so e other b (downgrades e)) (sym (lost_is other ∙ and_there (invalidates e) (has other) there))
        ∙ ap (suffered_so e other (loses c e other)) (sym (lowered_is other ∙ and_there (downgrades e) (has other) there))

    pub tells_of_others : TellsOfOthers cores copies c e
    tells_of_others = record {
      invalidating = sym (any_same (loses c e) (λ other. invalidates e && has other) lost_is all ∙ any_where (invalidates e) has all takes_some);
      invalidated = counts_where (invalidates e) has all ∙ sym (counts_same (loses c e) (λ other. invalidates e && has other) lost_is all);
      downgrading = sym (any_same (is_lowered c e) (λ other. downgrades e && has other) lowered_is all ∙ any_where (downgrades e) has all lowers_one);
      those = those;
      suffered = ap (map (suffers e)) those ∙ map_where (suffers e) (suffers_by c e) changes what all;
    }

-- ---- all steps

pub all_tell_of_others : (stays : CoherentStays) (letters : CopiesBehind) (instructions : InstructionsBehind) (cores : ℕ) (copies : Copies) (c : Caches) (steps : List Step)
    → AreOf copies c → length c.l1 ≡ cores → AreMetBy c steps → OfEachAccess (λ copies c e leaving. TellsOfOthers cores copies c e) copies c steps
all_tell_of_others stays letters instructions cores copies c [] of many met = tt
all_tell_of_others stays letters instructions cores copies c (Executed core pc ∷ steps) of many met = all_tell_of_others stays letters instructions cores copies c steps of many met
all_tell_of_others stays letters instructions cores copies c (Accessed pc e leaving ∷ steps) of many met = (
  tells_of_others copies c of e leaving met.0 stays letters cores many,
  all_tell_of_others stays letters instructions cores (copies_after e leaving copies) (caches_after c e.core e.request) steps
      (still_of copies c of e leaving met.0 stays letters instructions)
      ((stays c e.core e.request of.coherent of.room met.0.known).2 ∙ many)
      met.1,
)
all_tell_of_others stays letters instructions cores copies c (Ended interval ∷ steps) of many met = all_tell_of_others stays letters instructions cores copies c steps of many met
