-- Which other L1s an access touches: the home alone says it.
use Rattle.std.proofs.Common.{◌≡◌, ◌≢◌, ℕ, ◌&&◌, ◌||◌, Bool, true, false, not, cond, List, [], ◌∷◌, ◌++◌, ◌<◌, length, Option, Some, None, is_some, refl, sym, ap, ◌∙◌, subst, inl, inr}
use Rattle.std.specs.List.{range_with_len}
use Rattle.std.specs.Option.{unwrap_or}
use Rattle.std.specs.Prelude.{nat_eq}
use Rattle.std.specs.Set.{is_member}
use Rattle.std.proofs.lemmas.Bool.{cases_Bool, cases_eq, eq-eqb, ne_eqb, or_cases}
use Rattle.zs_num.specs.Request.{is_fetch, line_of}
use Rattle.zs_num.specs.declared.entry.Outcome.{Outcome}
use Rattle.zs_num.specs.declared.request.Request.{Request}
use Rattle.cache_set.specs.declared.letter.Letter.{Letter}
use Rattle.cache_set.specs.declared.letter.Letter.TheVariants.{M, E, S, I}
use Rattle.home.specs.HomeState.{HomeLine, evicted_by, nobody, row_at, row_of}
use Rattle.mesi_dir.specs.CoreSets.{without_core}
use Rattle.l1_cache.specs.L1State.{has_instructions, is_private}
use Rattle.shard.specs.Coherence.{fetch_outcome_by, is_alone, is_valid, is_write, letter_at, outcome_by}
use Rattle.shard.specs.PartsLaws.{AreParts, IsAsked, IsOwn}
use Rattle.shard.specs.Seen.{caches_seen}
use Rattle.shard.specs.SharedStep.{Bank, holders_of, is_dirty_here, is_some_core, l1_of, met_at_bank, others_asked, others_of, own_letter, touched_by}
use Rattle.shard.specs.Touched.{TouchedAreKnown, named_by, named_for}
use Rattle.shard.proofs.BankAsks.{known_fetcher, known_sharer}
use Rattle.shard.proofs.BankMet.{fetch_absent}
use Rattle.shard.proofs.HomesAndL1s.Decisions.{any_has, contrary}
use Rattle.shard.proofs.HomesAndL1s.EvictedSeen.{row_is}
use Rattle.shard.proofs.HomesAndL1s.FitOf.{fit_of}
use Rattle.shard.proofs.HomesAndL1s.FoldAt.{not_own}
use Rattle.shard.proofs.HomesAndL1s.LettersSeen.{letter_seen}
use Rattle.shard.proofs.HomesAndL1s.Untouched.{member_without}
use Rattle.shard.proofs.HomesAndL1s.Victims.{victim_own}

only_shared : (x : Letter) → x ≡ S → is_alone x ≡ true → ⊥
only_shared x e h = let bad : false ≡ true = sym (ap is_alone e) ∙ h in absurd cc

is_lost : (x : Letter) → is_valid x ≡ false → x ≡ I
is_lost M h = absurd cc
is_lost E h = absurd cc
is_lost S h = absurd cc
is_lost I h = refl

pub member_either : (a b : List ℕ) (k : ℕ) → is_member nat_eq (a ++ b) k ≡ (is_member nat_eq a k || is_member nat_eq b k)
member_either [] b k = refl
member_either (c ∷ a) b k = first (nat_eq k c) (member_either a b k) where
  first : (here : Bool) → is_member nat_eq (a ++ b) k ≡ (is_member nat_eq a k || is_member nat_eq b k) → (here || is_member nat_eq (a ++ b) k) ≡ ((here || is_member nat_eq a k) || is_member nat_eq b k)
  first true e = refl
  first false e = e

module _ (p : Bank) (are : AreParts p) (core line : ℕ) (own : IsOwn p line) where
  abbrev row : HomeLine
  row = row_of p.home line

  seen : (k : ℕ) → letter_at (caches_seen p) k line ≡ own_letter p k line
  seen k = letter_seen p (fit_of p are) k line own

  -- where the core has the line alone, no other has it
  nobody_else : is_alone (own_letter p core line) ≡ true → (c : ℕ) → c ≢ core → is_member nat_eq row.sharers c ≡ false
  nobody_else h c apart =
      are.holds c line own ∙ ap is_valid (sym (seen c) ∙ are.coherent.single core c line apart (ap is_alone (seen core) ∙ h))

  -- where some core has it alone, no core has it in S
  none_shared : row.alone ≡ true → own_letter p core line ≡ S → ⊥
  none_shared h shared =
      let some = any_has (λ k. is_alone (letter_at (caches_seen p) k line)) (range_with_len 0 (length (caches_seen p).l1)) (sym (are.alone line own) ∙ h) in
      elim (cases_eq core some.0) as (λ _. ⊥) [
        | inl e ↦ only_shared (own_letter p core line) shared (sym (ap is_alone (ap (λ (k : ℕ). letter_at (caches_seen p) k line) (sym e) ∙ seen core)) ∙ some.2)
        | inr apart ↦
            let bad : S ≡ I = sym shared ∙ (sym (seen core) ∙ are.coherent.single some.0 core line apart some.2) in
            absurd cc
      ]

  -- where the L2 does not have it, no core has it
  none_there : row_at p.home line ≡ None → own_letter p core line ≡ I
  none_there none =
      is_lost (own_letter p core line) (sym (are.holds core line own) ∙ ap (λ (o : Option HomeLine). is_member nat_eq (unwrap_or o nobody).sharers core) none)

  module _ (c : ℕ) (apart : c ≢ core) (evicted : Option (ℕ × HomeLine)) (alone has dirty : Bool) where
    abbrev Asks : (write : Bool) → Letter → Type 0
    Asks write letter =
        is_member nat_eq (others_asked (outcome_by write letter true alone has dirty) false write core row evicted) c ≡ is_member nat_eq (cond (write || row.alone) row.sharers []) c

    without : is_member nat_eq (others_of core row) c ≡ is_member nat_eq row.sharers c
    without = member_without core c row.sharers (λ e. apart (sym e))

    none_named : is_alone (own_letter p core line) ≡ true → (b : Bool) → false ≡ is_member nat_eq (cond b row.sharers []) c
    none_named h true = sym (nobody_else h c apart)
    none_named h false = refl

    shared_named : own_letter p core line ≡ S → (b : Bool) → row.alone ≡ b → false ≡ is_member nat_eq (cond b row.sharers []) c
    shared_named h true e = absurd (none_shared e h)
    shared_named h false e = refl

    read_named : (b : Bool) → is_member nat_eq (cond b (others_of core row) []) c ≡ is_member nat_eq (cond b row.sharers []) c
    read_named true = without
    read_named false = refl

    asks : (write : Bool) (letter : Letter) → own_letter p core line ≡ letter → Asks write letter
    asks false M e = none_named (ap is_alone e) row.alone
    asks false E e = none_named (ap is_alone e) row.alone
    asks false S e = shared_named e row.alone refl
    asks false I e = read_named row.alone
    asks true M e = none_named (ap is_alone e) true
    asks true E e = none_named (ap is_alone e) true
    asks true S e = without
    asks true I e = without

-- ---- an access
module _ (p : Bank) (are : AreParts p) (core : ℕ) (request : Request) (asked : IsAsked p core request) (shared : is_private (l1_of p core) request ≡ false) where
  abbrev line : ℕ
  line = line_of request

  abbrev has : Bool
  has = is_some_core (others_of core (row_of p.home line))

  abbrev dirty : Bool
  dirty = is_dirty_here p (evicted_by p.home line)

  abbrev met_where : (fetch held in_l2 : Bool) → Letter → Outcome
  met_where fetch held in_l2 letter =
      cond fetch (fetch_outcome_by held in_l2 dirty) (outcome_by (is_write request) letter in_l2 ((row_of p.home line).alone && has) has dirty)

  abbrev asked_where : (fetch held in_l2 : Bool) → Letter → List ℕ
  asked_where fetch held in_l2 letter =
      others_asked (met_where fetch held in_l2 letter) fetch (is_write request) core (row_of p.home line) (evicted_by p.home line)

  module _ (c : ℕ) (apart : c ≢ core) where
    abbrev Named : (fetch in_l2 : Bool) → Letter → Option HomeLine → Type 0
    Named fetch in_l2 letter o =
        is_member nat_eq (asked_where fetch false in_l2 letter) c ≡ is_member nat_eq (named_for fetch (is_write request) o (evicted_by p.home line)) c

    missed : (write : Bool) → is_member nat_eq (others_asked (outcome_by write I false ((row_of p.home line).alone && has) has dirty) false write core (row_of p.home line) (evicted_by p.home line)) c
        ≡ is_member nat_eq (holders_of (evicted_by p.home line)) c
    missed true = refl
    missed false = refl

    -- whether or not it is a fetch, and whether or not the L2 has the line
    by_row : (fetch : Bool) (o : Option HomeLine) → row_at p.home line ≡ o → Named fetch (is_some o) (own_letter p core line) o
    by_row true None e = refl
    by_row true (Some row) e = refl
    by_row false None e =
        ap (λ (x : Letter). is_member nat_eq (asked_where false false false x) c) (none_there p are core line asked.own e) ∙ missed (is_write request)
    by_row false (Some row) e =
        asks p are core line asked.own c apart (evicted_by p.home line) ((row_of p.home line).alone && has) has dirty (is_write request) (own_letter p core line) refl
        ∙ ap (λ (o : Option HomeLine). is_member nat_eq (cond (is_write request || (unwrap_or o nobody).alone) (unwrap_or o nobody).sharers []) c) e

    not_held : (fetch : Bool) → is_fetch request ≡ fetch
        → asked_where fetch (has_instructions (l1_of p core) line) (is_some (row_at p.home line)) (own_letter p core line) ≡ asked_where fetch false (is_some (row_at p.home line)) (own_letter p core line)
    not_held true f =
        ap (λ (b : Bool). asked_where true b (is_some (row_at p.home line)) (own_letter p core line)) (fetch_absent (l1_of p core) request f shared)
    not_held false f = refl

    others_named : is_member nat_eq (others_asked (met_at_bank p core request) (is_fetch request) (is_write request) core (row_of p.home line) (evicted_by p.home line)) c
        ≡ is_member nat_eq (named_by p.home request) c
    unfolding met_at_bank
    others_named =
        ap (λ (cores : List ℕ). is_member nat_eq cores c) (not_held (is_fetch request) refl) ∙ by_row (is_fetch request) (row_at p.home line) refl

    pub first_apart : is_member nat_eq (touched_by p core request) c ≡ is_member nat_eq (named_by p.home request) c
    unfolding touched_by
    first_apart =
        ap (λ (b : Bool). is_member nat_eq (core ∷ cond b [] (others_asked (met_at_bank p core request) (is_fetch request) (is_write request) core (row_of p.home line) (evicted_by p.home line))) c) shared
        ∙ (ap (λ (b : Bool). b || is_member nat_eq (others_asked (met_at_bank p core request) (is_fetch request) (is_write request) core (row_of p.home line) (evicted_by p.home line)) c) (ne_eqb c core apart)
        ∙ others_named)

  first_own : is_member nat_eq (touched_by p core request) core ≡ true
  unfolding touched_by
  first_own = rw (eq-eqb core core refl) refl

  -- what a set of cores has to say that has those that the home names, but the core itself
  pub touched_is : (named others : List ℕ) → ((c : ℕ) → is_member nat_eq named c ≡ is_member nat_eq (named_by p.home request) c) → others ≡ without_core core named
      → (c : ℕ) → is_member nat_eq (touched_by p core request) c ≡ (nat_eq c core || is_member nat_eq others c)
  touched_is named others names left c =
      elim (cases_eq c core) as (λ _. is_member nat_eq (touched_by p core request) c ≡ (nat_eq c core || is_member nat_eq others c)) [
        | inl e ↦
            ap (λ (k : ℕ). is_member nat_eq (touched_by p core request) k) e
            ∙ (first_own ∙ sym (ap (λ (b : Bool). b || is_member nat_eq others c) (eq-eqb c core e)))
        | inr apart ↦
            first_apart c apart
            ∙ (sym (names c)
            ∙ (sym (member_without core c named (λ e. apart (sym e)))
            ∙ (ap (λ (cores : List ℕ). is_member nat_eq cores c) (sym left)
            ∙ sym (ap (λ (b : Bool). b || is_member nat_eq others c) (ne_eqb c core apart)))))
      ]

-- which of them are left
pub named_left : (core : ℕ) (names named others : List ℕ) → ((c : ℕ) → is_member nat_eq named c ≡ is_member nat_eq names c) → others ≡ without_core core named
    → (c : ℕ) → is_member nat_eq others c ≡ (not (nat_eq c core) && is_member nat_eq names c)
named_left core names named others same left c =
    ap (λ (cores : List ℕ). is_member nat_eq cores c) left
    ∙ elim (cases_eq c core) as (λ _. is_member nat_eq (without_core core named) c ≡ (not (nat_eq c core) && is_member nat_eq names c)) [
      | inl e ↦
          ap (λ (k : ℕ). is_member nat_eq (without_core core named) k) e
          ∙ (not_own core named ∙ sym (ap (λ (b : Bool). not b && is_member nat_eq names c) (eq-eqb c core e)))
      | inr apart ↦
          member_without core c named (λ e. apart (sym e))
          ∙ (same c ∙ sym (ap (λ (b : Bool). not b && is_member nat_eq names c) (ne_eqb c core apart)))
    ]

pub own_left : (core : ℕ) (named others : List ℕ) → others ≡ without_core core named → is_member nat_eq others core ≡ false
own_left core named others left = ap (λ (cores : List ℕ). is_member nat_eq cores core) left ∙ not_own core named

-- ---- each is a core of the machine
module _ (p : Bank) (are : AreParts p) where
  sharer_known : (line k : ℕ) → IsOwn p line → (row : HomeLine) → row_of p.home line ≡ row → is_member nat_eq row.sharers k ≡ true → k < length p.l1s
  sharer_known line k own row is h = known_sharer p are line own k (ap (λ (r : HomeLine). is_member nat_eq r.sharers k) is ∙ h)

  fetcher_known : (line k : ℕ) → IsOwn p line → (row : HomeLine) → row_of p.home line ≡ row → is_member nat_eq row.fetchers k ≡ true → k < length p.l1s
  fetcher_known line k own row is h = known_fetcher p are line own k (ap (λ (r : HomeLine). is_member nat_eq r.fetchers k) is ∙ h)

  holder_known : (line k : ℕ) (o : Option (ℕ × HomeLine)) → evicted_by p.home line ≡ o → is_member nat_eq (holders_of o) k ≡ true → k < length p.l1s
  holder_known line k None e h = absurd cc
  holder_known line k (Some w) e h =
      let own : IsOwn p w.0 = victim_own p are line w e in
      let row : row_of p.home w.0 ≡ w.1 = row_is p are line w e in
      elim (or_cases (is_member nat_eq w.1.sharers k) (is_member nat_eq w.1.fetchers k) (sym (member_either w.1.sharers w.1.fetchers k) ∙ h)) as (λ _. k < length p.l1s) [
        | inl shares ↦ sharer_known w.0 k own w.1 row shares
        | inr fetches ↦ fetcher_known w.0 k own w.1 row fetches
      ]

  some_sharer : (b : Bool) (line k : ℕ) → IsOwn p line → (row : HomeLine) → row_of p.home line ≡ row → is_member nat_eq (cond b row.sharers []) k ≡ true → k < length p.l1s
  some_sharer true line k own row is h = sharer_known line k own row is h
  some_sharer false line k own row is h = absurd cc

  named_known : (request : Request) (k : ℕ) → IsOwn p (line_of request) → (o : Option HomeLine) → row_at p.home (line_of request) ≡ o
      → is_member nat_eq (named_for (is_fetch request) (is_write request) o (evicted_by p.home (line_of request))) k ≡ true → k < length p.l1s
  named_known request k own None e h = holder_known (line_of request) k (evicted_by p.home (line_of request)) refl h
  named_known request k own (Some row) e h =
      some_sharer (not (is_fetch request) && (is_write request || row.alone)) (line_of request) k own row (ap (λ (o : Option HomeLine). unwrap_or o nobody) e) h

touched_alone : (p : Bank) (core : ℕ) (request : Request) (k : ℕ) → is_private (l1_of p core) request ≡ true → is_member nat_eq (touched_by p core request) k ≡ (nat_eq k core || false)
unfolding touched_by
touched_alone p core request k private =
    ap (λ (b : Bool). is_member nat_eq (core ∷ cond b [] (others_asked (met_at_bank p core request) (is_fetch request) (is_write request) core (row_of p.home (line_of request)) (evicted_by p.home (line_of request)))) k) private

pub touched_known : TouchedAreKnown
touched_known p core request are asked k h =
    elim (cases_eq k core) as (λ _. k < length p.l1s) [
      | inl e ↦ subst (λ (c : ℕ). c < length p.l1s) (sym e) asked.known
      | inr apart ↦
          elim (cases_Bool (is_private (l1_of p core) request)) as (λ _. k < length p.l1s) [
            | inl private ↦
                absurd (contrary (is_member nat_eq (touched_by p core request) k) h (touched_alone p core request k private ∙ ap (λ (b : Bool). b || false) (ne_eqb k core apart)))
            | inr shared ↦
                named_known p are request k asked.own (row_at p.home (line_of request)) refl (sym (first_apart p are core request asked shared k apart) ∙ h)
          ]
    ]
