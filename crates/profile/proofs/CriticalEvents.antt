-- Each access that makes events makes one critical event, its last one.
use Rattle.std.proofs.Common.{◌≡◌, ℕ, ◌+◌, ◌<◌, ◌≤◌, ◌==◌, Bool, true, false, cond, List, [], ◌∷◌, ◌++◌, length, map, fold, sum_by, count_by, refl, sym, ◌∙◌, ap, subst, append_assoc, append-nil, inl, inr, arith}
use Rattle.std.specs.List.{enumerate_from}
use Rattle.std.proofs.lemmas.Bool.{cases_Bool, eq-eqb, ne_eqb}
use Rattle.std.proofs.lemmas.List.Sums.{sum_by-append, sum_by-cons}
use Rattle.zs_num.specs.declared.entry.Entry.{Entry}
use Rattle.event_graph.specs.declared.event.Event.{Event}
use Rattle.event_graph.specs.declared.piece.Piece.{Piece}
use Rattle.event_graph.specs.Critical.{is_critical_of}
use Rattle.event_graph.specs.EventGraph.{access_events, all_events, event_at}
use Rattle.stats.specs.Counted.{is_hit, one_if}

-- how many critical events of a core are among these
abbrev pub criticals : (core : ℕ) → List Event → ℕ
criticals core events = count_by (is_critical_of core) events

-- each event has a critical one of its core that is not before it
abbrev pub AllLeadToEnds : List Event → Type 0
AllLeadToEnds [] = Unit {0}
AllLeadToEnds (e ∷ events) = (1 ≤ criticals e.core (e ∷ events)) × AllLeadToEnds events

-- how many accesses of a core that an access is make events: one or none
abbrev pub makes_of : (core : ℕ) → Entry → ℕ
makes_of core e = cond (e.core == core) (cond (is_hit e.outcome) 0 1) 0

abbrev pub either_none : Bool → ℕ
either_none b = cond b 0 0

pub zero_both : (b : Bool) → either_none b ≡ 0
zero_both true = refl
zero_both false = refl

critical-cons : (core : ℕ) (e : Event) (events : List Event) → criticals core (e ∷ events) ≡ one_if (is_critical_of core e) + criticals core events
critical-cons core e events = sum_by-cons (λ (x : Event). cond (is_critical_of core x) 1 0) e events

critical-append : (core : ℕ) (xs ys : List Event) → criticals core (xs ++ ys) ≡ criticals core xs + criticals core ys
critical-append core xs ys = sum_by-append (λ (x : Event). cond (is_critical_of core x) 1 0) xs ys

-- ---- the events of an access

module _ (before : List Event) (e : Entry) (pieces : List Piece) where
  abbrev events_from : (place : ℕ) → List Piece → List Event
  events_from place ps = map (λ at'. event_at before e pieces at'.0 at'.1) (enumerate_from place ps)

  last_is : (core place : ℕ) (p : Piece) → place + 1 ≡ length pieces → one_if (is_critical_of core (event_at before e pieces place p)) ≡ one_if (e.core == core)
  last_is core place p last = rw (eq-eqb (place + 1) (length pieces) last) refl

  inner_is : (core place : ℕ) (p : Piece) → place + 1 < length pieces → one_if (is_critical_of core (event_at before e pieces place p)) ≡ 0
  inner_is core place p inner = rw (ne_eqb (place + 1) (length pieces) (λ same. omega (arith, same, inner))) refl

  one_critical : (core place : ℕ) (p : Piece) (ps : List Piece) → place + length (p ∷ ps) ≡ length pieces → criticals core (events_from place (p ∷ ps)) ≡ one_if (e.core == core)
  one_critical core place p [] whole =
      omega (arith, critical-cons core (event_at before e pieces place p) [], last_is core place p (omega (arith, whole)))
  one_critical core place p (q ∷ ps) whole =
      omega (
        arith,
        critical-cons core (event_at before e pieces place p) (events_from (place + 1) (q ∷ ps)),
        inner_is core place p (omega (arith, whole)),
        one_critical core (place + 1) q ps (omega (arith, whole)),
      )

  lead_on : (place : ℕ) (ps : List Piece) (rest : List Event) → place + length ps ≡ length pieces → AllLeadToEnds rest → AllLeadToEnds (events_from place ps ++ rest)
  lead_on place [] rest whole ends = ends
  lead_on place (p ∷ ps) rest whole ends =
      let own : one_if (e.core == e.core) ≡ 1 = rw (eq-eqb e.core e.core refl) refl in (
        omega (arith, critical-append e.core (events_from place (p ∷ ps)) rest, one_critical e.core place p ps whole, own),
        lead_on (place + 1) ps rest (omega (arith, whole)) ends,
      )

-- ---- the events of all accesses

module _ (pieces : Entry → List Piece) (none : (e : Entry) → is_hit e.outcome ≡ true → pieces e ≡ []) (some : (e : Entry) → is_hit e.outcome ≡ false → 0 < length (pieces e)) where
  of_pieces : (before : List Event) (e : Entry) (core : ℕ) (ps : List Piece) → 0 < length ps → criticals core (access_events before e ps) ≡ one_if (e.core == core)
  of_pieces before e core [] there = absurd (omega (arith, there))
  of_pieces before e core (p ∷ ps) there = one_critical before e (p ∷ ps) core 0 p ps (omega arith)

  of_access : (before : List Event) (e : Entry) (core : ℕ) → criticals core (access_events before e (pieces e)) ≡ makes_of core e
  of_access before e core =
      elim (cases_Bool (is_hit e.outcome)) as (λ _. criticals core (access_events before e (pieces e)) ≡ makes_of core e) [
        | inl hit ↦ rw (none e hit, hit) (sym (zero_both (e.core == core)))
        | inr not ↦ of_pieces before e core (pieces e) (some e not) ∙ rw not refl
      ]

  record Made (before : List Event) (entries : List Entry) : Type 0 where
    made : List Event
    are : fold (λ events e. events ++ access_events events e (pieces e)) before entries ≡ before ++ made
    count : (core : ℕ) → criticals core made ≡ sum_by (makes_of core) entries
    ends : AllLeadToEnds made

  made_from : (before : List Event) (entries : List Entry) → Made before entries
  made_from before [] = record { made = []; are = sym (append-nil before); count = λ core. refl; ends = tt }
  made_from before (e ∷ entries) =
      let own = access_events before e (pieces e) in
      let rest = made_from (before ++ own) entries in
      record {
        made = own ++ rest.made;
        are = rest.are ∙ append_assoc before own rest.made;
        count = λ core. omega (arith, critical-append core own rest.made, of_access before e core, rest.count core, sum_by-cons (makes_of core) e entries);
        ends = lead_on before e (pieces e) 0 (pieces e) rest.made (omega arith) rest.ends;
      }

  -- as many critical events of a core are made as accesses of the core make events, and each event leads to one
  pub all_made : (entries : List Entry) → ((core : ℕ) → criticals core (all_events pieces entries) ≡ sum_by (makes_of core) entries) × AllLeadToEnds (all_events pieces entries)
  all_made entries =
      let all = made_from [] entries in
      (λ core. ap (criticals core) all.are ∙ all.count core, subst AllLeadToEnds (sym all.are) all.ends)
