-- The waits of each core's events are shared out to its accesses, in order.
use Rattle.std.proofs.Common.{◌≡◌, ℕ, zero, suc, ◌+◌, ◌<◌, ◌==◌, Bool, true, false, if◌then◌else◌, List, [], ◌∷◌, ◌++◌, drop, filter, fold, length, map, sum_by, take, Option, refl, sym, ◌∙◌, ap, subst, inl, inr, append_assoc, append-nil, arith}
use Rattle.std.specs.List.{enumerate_from}
use Rattle.std.proofs.lemmas.Bool.{cases_Bool, eq-eqb, eqb-true, ne_eqb}
use Rattle.std.proofs.lemmas.List.{length-map}
use Rattle.std.proofs.lemmas.List.Elements.{filter-append}
use Rattle.std.proofs.lemmas.List.Sums.{sum_by-cons}
use Rattle.zs_num.specs.declared.entry.Entry.{Entry}
use Rattle.event_graph.specs.declared.access_path.AccessPath.{AccessPath}
use Rattle.event_graph.specs.declared.event.Event.{Event}
use Rattle.event_graph.specs.declared.fired.Fired.{Fired}
use Rattle.event_graph.specs.declared.piece.Piece.{Piece}
use Rattle.event_graph.specs.EventGraph.{access_events, all_events, event_at}
use Rattle.noc_mesh.specs.NetTiming.{net_pieces}
use Rattle.access_log.specs.History.{of_core}
use Rattle.stats.specs.Counted.{is_hit, wait_of}
use Rattle.zs_num.specs.Request.{line_of}
use Rattle.profile.specs.declared.contribution.Contribution.{Contribution}
use Rattle.profile.specs.declared.contribution.Maker.{Maker}
use Rattle.profile.specs.Contributions.{wait_adds}
use Rattle.profile.specs.SharedOut.{AreSharedOut, ToldAccess, shared_out, waits_for}
use Rattle.profile.specs.Waits.{Wait, event_waits, first_of, makers_of, wait_for, without_first}

-- ---- the waits of a core

abbrev is_of : (core : ℕ) → Maker → Bool
is_of core m = m.core == core

abbrev is_wait_of : (core : ℕ) → Wait → Bool
is_wait_of core w = w.maker.core == core

abbrev is_event_of : (core : ℕ) → Event × Fired → Bool
is_event_of core x = x.0.core == core

module _ (core : ℕ) where
  same_first : (makers : List Maker) → first_of core (filter (is_of core) makers) ≡ first_of core makers
  same_first [] = refl
  same_first (m ∷ makers) =
      elim (cases_Bool (m.core == core)) as (λ _. first_of core (filter (is_of core) (m ∷ makers)) ≡ first_of core (m ∷ makers)) [
        | inl own ↦ rw own (rw own refl)
        | inr other ↦ rw other (same_first makers)
      ]

  own_wait : (makers : List Maker) (e : Event) (f : Fired) → filter (is_wait_of core) (wait_for (first_of core makers) e f) ≡ wait_for (first_of core makers) e f
  own_wait [] e f = refl
  own_wait (m ∷ makers) e f =
      elim (cases_Bool (m.core == core)) as (λ _. filter (is_wait_of core) (wait_for (first_of core (m ∷ makers)) e f) ≡ wait_for (first_of core (m ∷ makers)) e f) [
        | inl own ↦ rw own (rw own refl)
        | inr other ↦ rw other (own_wait makers e f)
      ]

  other_wait : (by : ℕ) → (by == core) ≡ false → (makers : List Maker) (e : Event) (f : Fired) → filter (is_wait_of core) (wait_for (first_of by makers) e f) ≡ []
  other_wait by apart [] e f = refl
  other_wait by apart (m ∷ makers) e f =
      elim (cases_Bool (m.core == by)) as (λ _. filter (is_wait_of core) (wait_for (first_of by (m ∷ makers)) e f) ≡ []) [
        | inl own ↦
            let not_here : (m.core == core) ≡ false = ap (λ (n : ℕ). n == core) (eqb-true m.core by own) ∙ apart in
            rw own (rw not_here refl)
        | inr other ↦ rw other (other_wait by apart makers e f)
      ]

  own_left : (makers : List Maker) → filter (is_of core) (without_first core makers) ≡ without_first core (filter (is_of core) makers)
  own_left [] = refl
  own_left (m ∷ makers) =
      elim (cases_Bool (m.core == core)) as (λ _. filter (is_of core) (without_first core (m ∷ makers)) ≡ without_first core (filter (is_of core) (m ∷ makers))) [
        | inl own ↦ rw own (rw own refl)
        | inr other ↦ rw other (rw other (own_left makers))
      ]

  other_left : (by : ℕ) → (by == core) ≡ false → (makers : List Maker) → filter (is_of core) (without_first by makers) ≡ filter (is_of core) makers
  other_left by apart [] = refl
  other_left by apart (m ∷ makers) =
      elim (cases_Bool (m.core == by)) as (λ _. filter (is_of core) (without_first by (m ∷ makers)) ≡ filter (is_of core) (m ∷ makers)) [
        | inl own ↦
            let not_here : (m.core == core) ≡ false = ap (λ (n : ℕ). n == core) (eqb-true m.core by own) ∙ apart in
            rw own (rw not_here refl)
        | inr other ↦ rw other (ap (λ (ms : List Maker). if m.core == core then m ∷ ms else ms) (other_left by apart makers))
      ]

  left_where : (critical : Bool) (makers : List Maker) → filter (is_of core) (if critical then without_first core makers else makers) ≡ (if critical then without_first core (filter (is_of core) makers) else filter (is_of core) makers)
  left_where true makers = own_left makers
  left_where false makers = refl

  left_elsewhere : (by : ℕ) → (by == core) ≡ false → (critical : Bool) (makers : List Maker) → filter (is_of core) (if critical then without_first by makers else makers) ≡ filter (is_of core) makers
  left_elsewhere by apart true makers = other_left by apart makers
  left_elsewhere by apart false makers = refl

  -- the waits of a core are those of its events, for its accesses
  waits_of : (makers : List Maker) (events : List (Event × Fired)) → filter (is_wait_of core) (event_waits makers events) ≡ event_waits (filter (is_of core) makers) (filter (is_event_of core) events)
  waits_of makers [] = refl
  waits_of makers ((e, f) ∷ events) =
      let left : List Maker = if e.critical then without_first e.core makers else makers in
      filter-append (is_wait_of core) (wait_for (first_of e.core makers) e f) (event_waits left events)
      ∙ ap (λ (ws : List Wait). filter (is_wait_of core) (wait_for (first_of e.core makers) e f) ++ ws) (waits_of left events)
      ∙ elim (cases_Bool (e.core == core)) as (λ _. filter (is_wait_of core) (wait_for (first_of e.core makers) e f) ++ event_waits (filter (is_of core) left) (filter (is_event_of core) events) ≡ event_waits (filter (is_of core) makers) (filter (is_event_of core) ((e, f) ∷ events))) [
        | inl own ↦
            let same : core ≡ e.core = sym (eqb-true e.core core own) in
            rw own (here (e.core) same e.critical makers e f (filter (is_event_of core) events))
        | inr other ↦
            rw other (ap (λ (ws : List Wait). ws ++ event_waits (filter (is_of core) left) (filter (is_event_of core) events)) (other_wait e.core other makers e f)
            ∙ ap (λ (ms : List Maker). event_waits ms (filter (is_event_of core) events)) (left_elsewhere e.core other e.critical makers))
      ]
    where
      here : (by : ℕ) → core ≡ by → (critical : Bool) (makers : List Maker) (e : Event) (f : Fired) (events : List (Event × Fired))
          → filter (is_wait_of core) (wait_for (first_of by makers) e f) ++ event_waits (filter (is_of core) (if critical then without_first by makers else makers)) events
          ≡ wait_for (first_of by (filter (is_of core) makers)) e f ++ event_waits (if critical then without_first by (filter (is_of core) makers) else filter (is_of core) makers) events
      here by same critical makers e f events =
          subst
          (λ (n : ℕ). filter (is_wait_of core) (wait_for (first_of n makers) e f) ++ event_waits (filter (is_of core) (if critical then without_first n makers else makers)) events
          ≡ wait_for (first_of n (filter (is_of core) makers)) e f ++ event_waits (if critical then without_first n (filter (is_of core) makers) else filter (is_of core) makers) events)
          same
          (ap (λ (ws : List Wait). ws ++ event_waits (filter (is_of core) (if critical then without_first core makers else makers)) events) (own_wait makers e f ∙ ap (λ (o : Option Maker). wait_for o e f) (sym (same_first makers)))
          ∙ ap (λ (ms : List Maker). wait_for (first_of core (filter (is_of core) makers)) e f ++ event_waits ms events) (left_where critical makers))

-- ---- the accesses that make events

abbrev pub makers_in : List ToldAccess → List Maker
makers_in [] = []
makers_in (told ∷ accesses) = makers_of told.0 told.1 ++ makers_in accesses

pub makers_behind : (accesses : List ToldAccess) (pc : ℕ) (e : Entry) → makers_in (accesses ++ (pc, e) ∷ []) ≡ makers_in accesses ++ makers_of pc e
makers_behind [] pc e = append-nil (makers_of pc e)
makers_behind (told ∷ accesses) pc e =
    ap (λ (ms : List Maker). makers_of told.0 told.1 ++ ms) (makers_behind accesses pc e)
    ∙ sym (append_assoc (makers_of told.0 told.1) (makers_in accesses) (makers_of pc e))

abbrev is_access_of : (core : ℕ) → ToldAccess → Bool
is_access_of core told = told.1.core == core

own_makers : (core pc : ℕ) (e : Entry) → (e.core == core) ≡ true → filter (is_of core) (makers_of pc e) ≡ makers_of pc e
own_makers core pc e own =
    elim (cases_Bool (is_hit e.outcome)) as (λ _. filter (is_of core) (makers_of pc e) ≡ makers_of pc e) [
      | inl hit ↦ rw hit refl
      | inr beyond ↦ rw beyond (rw own refl)
    ]

other_makers : (core pc : ℕ) (e : Entry) → (e.core == core) ≡ false → filter (is_of core) (makers_of pc e) ≡ []
other_makers core pc e other =
    elim (cases_Bool (is_hit e.outcome)) as (λ _. filter (is_of core) (makers_of pc e) ≡ []) [
      | inl hit ↦ rw hit refl
      | inr beyond ↦ rw beyond (rw other refl)
    ]

makers_of_core : (core : ℕ) (accesses : List ToldAccess) → filter (is_of core) (makers_in accesses) ≡ makers_in (filter (is_access_of core) accesses)
makers_of_core core [] = refl
makers_of_core core (told ∷ accesses) =
    filter-append (is_of core) (makers_of told.0 told.1) (makers_in accesses)
    ∙ ap (λ (ms : List Maker). filter (is_of core) (makers_of told.0 told.1) ++ ms) (makers_of_core core accesses)
    ∙ elim (cases_Bool (told.1.core == core)) as (λ _. filter (is_of core) (makers_of told.0 told.1) ++ makers_in (filter (is_access_of core) accesses) ≡ makers_in (filter (is_access_of core) (told ∷ accesses))) [
      | inl own ↦
          ap (λ (ms : List Maker). ms ++ makers_in (filter (is_access_of core) accesses)) (own_makers core told.0 told.1 own)
          ∙ ap (λ (b : Bool). makers_in (if b then told ∷ filter (is_access_of core) accesses else filter (is_access_of core) accesses)) (sym own)
      | inr other ↦
          ap (λ (ms : List Maker). ms ++ makers_in (filter (is_access_of core) accesses)) (other_makers core told.0 told.1 other)
          ∙ ap (λ (b : Bool). makers_in (if b then told ∷ filter (is_access_of core) accesses else filter (is_access_of core) accesses)) (sym other)
    ]

-- ---- events, access by access

abbrev is_last : ℕ → Bool
is_last zero = true
is_last (suc n) = false

-- the first events, so many, are of this core, and the last one of them alone is critical
abbrev IsBlock : (core n : ℕ) → List Event → Type 0
IsBlock core zero events = Unit {0}
IsBlock core (suc n) [] = ⊥
IsBlock core (suc n) (e ∷ events) = (e.core ≡ core) × (e.critical ≡ is_last n) × IsBlock core n events

-- these are the events of such accesses, one after the other
abbrev HaveBlocks : (count : Entry → ℕ) → List Entry → List Event → Type 0
HaveBlocks count [] events = events ≡ []
HaveBlocks count (e ∷ entries) events = IsBlock e.core (count e) events × HaveBlocks count entries (drop (count e) events)

abbrev first : Event × Fired → Event
first x = x.0

drop_first : (n : ℕ) (xs : List (Event × Fired)) → drop n (map first xs) ≡ map first (drop n xs)
drop_first zero xs = refl
drop_first (suc n) [] = refl
drop_first (suc n) (x ∷ xs) = drop_first n xs

length_of_block : (core n : ℕ) (events : List Event) → IsBlock core n events → length events ≡ n + length (drop n events)
length_of_block core zero events block = omega arith
length_of_block core (suc n) [] block = absurd block
length_of_block core (suc n) (e ∷ events) block = omega (arith, length_of_block core n events block.2)

length_of_blocks : (count : Entry → ℕ) (entries : List Entry) (events : List Event) → HaveBlocks count entries events → length events ≡ sum_by count entries
length_of_blocks count [] events blocks = ap length blocks
length_of_blocks count (e ∷ entries) events blocks =
    omega (arith, length_of_block e.core (count e) events blocks.0, length_of_blocks count entries (drop (count e) events) blocks.1, sum_by-cons count e entries)

-- ---- the waits of one access

module _ (pc : ℕ) (e : Entry) where
  abbrev own : Maker
  own = record { core = e.core; pc = pc; line = line_of e.request }

  one_wait : (makers : List Maker) (x : Event) (f : Fired) → x.core ≡ e.core → wait_for (first_of x.core (own ∷ makers)) x f ≡ record { maker = own; component = x.component; cycles = wait_of x f } ∷ []
  one_wait makers x f same = rw (eq-eqb e.core x.core (sym same)) refl

  left_behind : (makers : List Maker) (x : Event) → x.core ≡ e.core → without_first x.core (own ∷ makers) ≡ makers
  left_behind makers x same = rw (eq-eqb e.core x.core (sym same)) refl

  waits_of_access : (n : ℕ) (makers : List Maker) (xs : List (Event × Fired)) → IsBlock e.core (suc n) (map first xs)
      → map wait_adds (event_waits (own ∷ makers) xs) ≡ map (waits_for (pc, e)) (take (suc n) xs) ++ map wait_adds (event_waits makers (drop (suc n) xs))
  waits_of_access n makers [] block = absurd block
  waits_of_access zero makers ((x, f) ∷ xs) (core, critical, rest) =
      ap (λ (b : Bool). map wait_adds (wait_for (first_of x.core (own ∷ makers)) x f ++ event_waits (if b then without_first x.core (own ∷ makers) else own ∷ makers) xs)) critical
      ∙ ap (λ (ws : List Wait). map wait_adds (ws ++ event_waits (without_first x.core (own ∷ makers)) xs)) (one_wait makers x f core)
      ∙ ap (λ (ms : List Maker). waits_for (pc, e) (x, f) ∷ map wait_adds (event_waits ms xs)) (left_behind makers x core)
  waits_of_access (suc n) makers ((x, f) ∷ xs) (core, critical, rest) =
      ap (λ (b : Bool). map wait_adds (wait_for (first_of x.core (own ∷ makers)) x f ++ event_waits (if b then without_first x.core (own ∷ makers) else own ∷ makers) xs)) critical
      ∙ ap (λ (ws : List Wait). map wait_adds (ws ++ event_waits (own ∷ makers) xs)) (one_wait makers x f core)
      ∙ ap (λ (cs : List Contribution). waits_for (pc, e) (x, f) ∷ cs) (waits_of_access n makers xs rest)

-- ---- the waits of a core's accesses

abbrev entry_of : ToldAccess → Entry
entry_of told = told.1

some_piece : (ps : List Piece) → 0 < length ps → (n : ℕ) × (length ps ≡ suc n)
some_piece [] some = absurd (omega (arith, some))
some_piece (p ∷ ps) some = (length ps, refl)

-- no event waits where there is no access
none_left : (critical : Bool) (core : ℕ) → (if critical then without_first core [] else []) ≡ []
none_left true core = refl
none_left false core = refl

no_waits : (events : List (Event × Fired)) → map wait_adds (event_waits [] events) ≡ []
no_waits [] = refl
no_waits ((e, f) ∷ events) = ap (λ (ms : List Maker). map wait_adds (event_waits ms events)) (none_left e.critical e.core) ∙ no_waits events

-- hits alone make no events
module _ (path : AccessPath) (none : (e : Entry) → is_hit e.outcome ≡ true → net_pieces path e ≡ []) (some : (e : Entry) → is_hit e.outcome ≡ false → 0 < length (net_pieces path e)) where
  abbrev pieces : Entry → List Piece
  pieces e = net_pieces path e

  abbrev count : Entry → ℕ
  count e = length (pieces e)

  next_shared : (told : ToldAccess) (accesses : List ToldAccess) (xs : List (Event × Fired)) → IsBlock told.1.core (count told.1) (map first xs)
      → map wait_adds (event_waits (makers_of told.0 told.1 ++ makers_in accesses) xs)
      ≡ map (waits_for told) (take (count told.1) xs) ++ map wait_adds (event_waits (makers_in accesses) (drop (count told.1) xs))
  next_shared (pc, e) accesses xs block =
      elim (cases_Bool (is_hit e.outcome)) as (λ _. map wait_adds (event_waits (makers_of pc e ++ makers_in accesses) xs) ≡ map (waits_for (pc, e)) (take (count e) xs) ++ map wait_adds (event_waits (makers_in accesses) (drop (count e) xs))) [
        | inl hit ↦
            ap (λ (b : Bool). map wait_adds (event_waits ((if b then [] else own pc e ∷ []) ++ makers_in accesses) xs)) hit
            ∙ ap (λ (ps : List Piece). map (waits_for (pc, e)) (take (length ps) xs) ++ map wait_adds (event_waits (makers_in accesses) (drop (length ps) xs))) (sym (none e hit))
        | inr beyond ↦
            let many = some_piece (pieces e) (some e beyond) in
            ap (λ (b : Bool). map wait_adds (event_waits ((if b then [] else own pc e ∷ []) ++ makers_in accesses) xs)) beyond
            ∙ waits_of_access pc e many.0 (makers_in accesses) xs (subst (λ (n : ℕ). IsBlock e.core n (map first xs)) many.1 block)
            ∙ ap (λ (n : ℕ). map (waits_for (pc, e)) (take n xs) ++ map wait_adds (event_waits (makers_in accesses) (drop n xs))) (sym many.1)
      ]

  all_shared : (accesses : List ToldAccess) (xs : List (Event × Fired)) → HaveBlocks count (map entry_of accesses) (map first xs)
      → map wait_adds (event_waits (makers_in accesses) xs) ≡ shared_out path accesses xs
  all_shared [] xs blocks = no_waits xs
  all_shared (told ∷ accesses) xs blocks =
      next_shared told accesses xs blocks.0
      ∙ ap (λ (cs : List Contribution). map (waits_for told) (take (count told.1) xs) ++ cs)
      (all_shared accesses (drop (count told.1) xs) (subst (HaveBlocks count (map entry_of accesses)) (drop_first (count told.1) xs) blocks.1))

-- ---- the events of accesses are theirs

abbrev is_made_by : (core : ℕ) → Event → Bool
is_made_by core x = x.core == core

module _ (before : List Event) (e : Entry) (pieces : List Piece) where
  abbrev made_from : (place : ℕ) → List Piece → List Event
  made_from place ps = map (λ at'. event_at before e pieces at'.0 at'.1) (enumerate_from place ps)

  all_own : (core place : ℕ) (ps : List Piece) → (e.core == core) ≡ true → filter (is_made_by core) (made_from place ps) ≡ made_from place ps
  all_own core place [] own_core = refl
  all_own core place (p ∷ ps) own_core = rw own_core (ap (λ (es : List Event). event_at before e pieces place p ∷ es) (all_own core (place + 1) ps own_core))

  none_own : (core place : ℕ) (ps : List Piece) → (e.core == core) ≡ false → filter (is_made_by core) (made_from place ps) ≡ []
  none_own core place [] other = refl
  none_own core place (p ∷ ps) other = rw other (none_own core (place + 1) ps other)

  last_by : (place : ℕ) (ps : List Piece) → place + suc (length ps) ≡ length pieces → (place + 1 == length pieces) ≡ is_last (length ps)
  last_by place [] whole = eq-eqb (place + 1) (length pieces) (omega (arith, whole))
  last_by place (p ∷ ps) whole = ne_eqb (place + 1) (length pieces) (λ same. omega (arith, same, whole))

  are_block : (place : ℕ) (ps : List Piece) (rest : List Event) → place + length ps ≡ length pieces → IsBlock e.core (length ps) (made_from place ps ++ rest)
  are_block place [] rest whole = tt
  are_block place (p ∷ ps) rest whole = (refl, last_by place ps whole, are_block (place + 1) ps rest (omega (arith, whole)))

  behind_block : (place : ℕ) (ps : List Piece) (rest : List Event) → drop (length ps) (made_from place ps ++ rest) ≡ rest
  behind_block place [] rest = refl
  behind_block place (p ∷ ps) rest = behind_block (place + 1) ps rest

module _ (pieces : Entry → List Piece) where
  abbrev pieces_in : Entry → ℕ
  pieces_in e = length (pieces e)

  abbrev OfEachCore : List Entry → List Event → Type 0
  OfEachCore entries events = (core : ℕ) → HaveBlocks pieces_in (of_core core entries) (filter (is_made_by core) events)

  record MadeInBlocks (before : List Event) (entries : List Entry) : Type 0 where
    made : List Event
    are : fold (λ events e. events ++ access_events events e (pieces e)) before entries ≡ before ++ made
    blocks : OfEachCore entries made

  one_more : (before : List Event) (e : Entry) (entries : List Entry) (made : List Event) → OfEachCore entries made → OfEachCore (e ∷ entries) (access_events before e (pieces e) ++ made)
  one_more before e entries made blocks core =
      let events = access_events before e (pieces e) in
      let rest = filter (is_made_by core) made in
      let split : filter (is_made_by core) (events ++ made) ≡ filter (is_made_by core) events ++ rest = filter-append (is_made_by core) events made in
      elim (cases_Bool (e.core == core)) as (λ _. HaveBlocks pieces_in (of_core core (e ∷ entries)) (filter (is_made_by core) (events ++ made))) [
        | inl own_core ↦
            let all : filter (is_made_by core) (events ++ made) ≡ events ++ rest = split ∙ ap (λ (es : List Event). es ++ rest) (all_own before e (pieces e) core 0 (pieces e) own_core) in
            let here : HaveBlocks pieces_in (e ∷ of_core core entries) (events ++ rest) = (
              are_block before e (pieces e) 0 (pieces e) rest (omega arith),
              subst (HaveBlocks pieces_in (of_core core entries)) (sym (behind_block before e (pieces e) 0 (pieces e) rest)) (blocks core),
            ) in
            subst (λ (b : Bool). HaveBlocks pieces_in (if b then e ∷ of_core core entries else of_core core entries) (filter (is_made_by core) (events ++ made))) (sym own_core)
            (subst (HaveBlocks pieces_in (e ∷ of_core core entries)) (sym all) here)
        | inr other ↦
            let all : filter (is_made_by core) (events ++ made) ≡ rest = split ∙ ap (λ (es : List Event). es ++ rest) (none_own before e (pieces e) core 0 (pieces e) other) in
            subst (λ (b : Bool). HaveBlocks pieces_in (if b then e ∷ of_core core entries else of_core core entries) (filter (is_made_by core) (events ++ made))) (sym other)
            (subst (HaveBlocks pieces_in (of_core core entries)) (sym all) (blocks core))
      ]

  made_in_blocks : (before : List Event) (entries : List Entry) → MadeInBlocks before entries
  made_in_blocks before [] = record { made = []; are = sym (append-nil before); blocks = λ core. refl }
  made_in_blocks before (e ∷ entries) =
      let events = access_events before e (pieces e) in
      let rest = made_in_blocks (before ++ events) entries in
      record {
        made = events ++ rest.made;
        are = rest.are ∙ append_assoc before events rest.made;
        blocks = one_more before e entries rest.made rest.blocks;
      }

  all_blocks : (entries : List Entry) → OfEachCore entries (all_events pieces entries)
  all_blocks entries = let all = made_in_blocks [] entries in subst (OfEachCore entries) (sym all.are) all.blocks

-- ---- an interval

filter_first : (core : ℕ) (xs : List (Event × Fired)) → map first (filter (is_event_of core) xs) ≡ filter (is_made_by core) (map first xs)
filter_first core [] = refl
filter_first core (x ∷ xs) =
    elim (cases_Bool (x.0.core == core)) as (λ _. map first (filter (is_event_of core) (x ∷ xs)) ≡ filter (is_made_by core) (map first (x ∷ xs))) [
      | inl own_core ↦ rw own_core (ap (λ (es : List Event). x.0 ∷ es) (filter_first core xs))
      | inr other ↦ rw other (filter_first core xs)
    ]

filter_entries : (core : ℕ) (accesses : List ToldAccess) → of_core core (map entry_of accesses) ≡ map entry_of (filter (is_access_of core) accesses)
filter_entries core [] = refl
filter_entries core (told ∷ accesses) =
    elim (cases_Bool (told.1.core == core)) as (λ _. of_core core (map entry_of (told ∷ accesses)) ≡ map entry_of (filter (is_access_of core) (told ∷ accesses))) [
      | inl own_core ↦ rw own_core (ap (λ (es : List Entry). told.1 ∷ es) (filter_entries core accesses))
      | inr other ↦ rw other (filter_entries core accesses)
    ]

filter_adds : (core : ℕ) (waits : List Wait) → filter (λ c. c.core == core) (map wait_adds waits) ≡ map wait_adds (filter (is_wait_of core) waits)
filter_adds core [] = refl
filter_adds core (w ∷ waits) =
    elim (cases_Bool (w.maker.core == core)) as (λ _. filter (λ c. c.core == core) (map wait_adds (w ∷ waits)) ≡ map wait_adds (filter (is_wait_of core) (w ∷ waits))) [
      | inl own_core ↦ rw own_core (ap (λ (cs : List Contribution). wait_adds w ∷ cs) (filter_adds core waits))
      | inr other ↦ rw other (filter_adds core waits)
    ]

sum_of_entries : (count : Entry → ℕ) (accesses : List ToldAccess) → sum_by count (map entry_of accesses) ≡ sum_by (λ told. count told.1) accesses
sum_of_entries count [] = refl
sum_of_entries count (told ∷ accesses) =
    omega (arith, sum_of_entries count accesses, sum_by-cons count told.1 (map entry_of accesses), sum_by-cons (λ (x : ToldAccess). count x.1) told accesses)

-- the events are those of the entries, of which each core has those of its accesses in order
pub shared : (path : AccessPath) → ((e : Entry) → is_hit e.outcome ≡ true → net_pieces path e ≡ []) → ((e : Entry) → is_hit e.outcome ≡ false → 0 < length (net_pieces path e))
    → (accesses : List ToldAccess) (entries : List Entry) (events : List (Event × Fired))
    → map (λ x. x.0) events ≡ all_events (net_pieces path) entries → ((core : ℕ) → of_core core entries ≡ of_core core (map (λ told. told.1) accesses))
    → AreSharedOut path accesses events (map wait_adds (event_waits (makers_in accesses) events))
shared path none some accesses entries events are by_core =
    let blocks : (core : ℕ) → HaveBlocks (λ e. length (net_pieces path e)) (map entry_of (filter (is_access_of core) accesses)) (map first (filter (is_event_of core) events)) = λ core.
    subst (HaveBlocks (λ e. length (net_pieces path e)) (map entry_of (filter (is_access_of core) accesses))) (ap (filter (is_made_by core)) (sym are) ∙ sym (filter_first core events))
    (subst (λ (es : List Entry). HaveBlocks (λ e. length (net_pieces path e)) es (filter (is_made_by core) (all_events (net_pieces path) entries))) (by_core core ∙ filter_entries core accesses)
    (all_blocks (net_pieces path) entries core))
    in
    record {
      count = λ core.
          sym (length-map (filter (is_event_of core) events) first)
          ∙ length_of_blocks (λ e. length (net_pieces path e)) (map entry_of (filter (is_access_of core) accesses)) (map first (filter (is_event_of core) events)) (blocks core)
          ∙ sum_of_entries (λ e. length (net_pieces path e)) (filter (is_access_of core) accesses);
      waits = λ core.
          filter_adds core (event_waits (makers_in accesses) events)
          ∙ ap (map wait_adds) (waits_of core (makers_in accesses) events ∙ ap (λ (ms : List Maker). event_waits ms (filter (is_event_of core) events)) (makers_of_core core accesses))
          ∙ all_shared path none some (filter (is_access_of core) accesses) (filter (is_event_of core) events) (blocks core);
    }
