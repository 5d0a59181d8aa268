-- A domain that raises the words of events that it has yet to fire.
use Rattle.std.proofs.Common.{◌≡◌, ◌+◌, ◌*◌, ◌%◌, ◌<◌, ◌≤◌, ◌^◌, ℕ, Bool, false, List, max, ◌⊎◌, length, set, slice_index, Some, slice_get, sym, ◌∙◌, ap, subst, refl, inl, inr, arith, length-set}
use Rattle.std.proofs.lemmas.Bool.{false≢true, cases_eq, cases_lt}
use Rattle.std.proofs.lemmas.List.{get_or-set_other, get_or-set_same}
use Rattle.std.proofs.lemmas.Option.{same_Some}
use Rattle.atomic_table.specs.Seated.{TableId}
use Rattle.zs_num.specs.declared.time.Word.{Word}
use Rattle.zs_num.specs.declared.time.Word.TheVariants.{Bound, Exact}
use Rattle.component.specs.declared.kind.Kind.{Kind}
use Rattle.event_graph.specs.declared.event.Event.{Event}
use Rattle.event_graph.specs.OneListWeave.{finish_in, is_fired, woven}
use Rattle.domain_map.specs.declared.crossing.Crossing.{Crossing}
use Rattle.domain_map.specs.Domains.{Partition}
use Rattle.crossing.specs.Seats.{Looked, MayWrite, SeatValue, kept_number, with_written}
use Rattle.weave_core.specs.DomainCalls.{DomainValue, IsBlockedBy, IsBoundAnswer, IsOutOf}
use Rattle.weave_core.specs.Keeping.{KeepingLaws}
use Rattle.weave_run.specs.Rounds.{CanWeavePlan, Grows, IsBoundOf, KeepsToWeave}
use Rattle.weave_run.specs.Seating.{HasRaised, HasRaisedWord, IsPostSeated, WasRaised}
use Rattle.weave_run.specs.declared.plan.Plan.{Plan}
use Rattle.weave_run.specs.declared.post.Post.{Post}
use Rattle.weave_run.proofs.Postings.{finish_at, nothing_published, number_there, owner_at, published_twice, was_raised_not}
use Rattle.weave_run.proofs.Tellings.{grows_nothing, kept_bound, read_set}

-- ---- a word

module _ (old mid : SeatValue) (x : ℕ) (word : Word) (may : MayWrite old x) (looked : Looked old mid x word) where
  own_word : kept_number word ≡ slice_index old.wrote x
  own_word = looked.own may.owner

  wrote_same : (n : ℕ) → slice_index mid.wrote n ≡ slice_index old.wrote n
  wrote_same n = ap (λ (s : SeatValue). slice_index s.wrote n) looked.new_is

  pub may_still : MayWrite mid x
  may_still = record {
    there = let e = ap (λ (s : SeatValue). length s.sources) looked.new_is in let l = may.there in omega (arith, e, l);
    owner = ap (λ (s : SeatValue). slice_index s.sources x) looked.new_is ∙ (may.owner ∙ ap (λ (s : SeatValue). s.domain) (sym looked.new_is));
    unpublished = ap (λ n. n % 2) (wrote_same x) ∙ may.unpublished;
  }

  pub no_finish : (f : ℕ) → word ≡ Exact f → ⊥
  no_finish f e = let k = ap kept_number e in let o = own_word in let u = may.unpublished in absurd (odd_even f (slice_index old.wrote x) (sym o ∙ k) u)
    where
      odd_even : (f n : ℕ) → n ≡ 2 * f + 1 → n % 2 ≡ 0 → ⊥
      odd_even f n a b = omega (arith, a, b)

  pub rises : (before bound : ℕ) → word ≡ Bound before → before < bound → slice_index mid.wrote x ≤ 2 * bound
  rises before bound e l = let k = ap kept_number e in let o = own_word in let w = wrote_same x in omega (arith, k, o, w, l)

  noted_even : (other : ℕ) → (slice_index mid.noted other ≡ slice_index old.noted other) ⊎ (slice_index mid.noted other % 2 ≡ 0)
  noted_even other =
      let is : slice_index mid.noted other ≡ slice_index (set old.noted x (kept_number word)) other = ap (λ (s : SeatValue). slice_index s.noted other) looked.new_is in
      elim (read_set old.noted x (kept_number word) 0 other) [
        | inl a ↦ inr (ap (λ n. n % 2) (is ∙ (a.1 ∙ own_word)) ∙ may.unpublished)
        | inr b ↦ inl (is ∙ b)
      ]

  pub unraised : (before bound : ℕ) → word ≡ Bound before → bound ≤ before → HasRaisedWord old mid x bound
  unraised before bound e l = record {
    crossings_are = ap (λ (s : SeatValue). s.crossings) looked.new_is;
    domain_is = ap (λ (s : SeatValue). s.domain) looked.new_is;
    finishes_are = ap (λ (s : SeatValue). s.finishes) looked.new_is;
    sources_are = ap (λ (s : SeatValue). s.sources) looked.new_is;
    noted = noted_even;
    wide = ap (λ (s : SeatValue). length s.wrote) looked.new_is;
    here = let k = ap kept_number e in let o = own_word in let w = wrote_same x in higher (slice_index old.wrote x) (slice_index mid.wrote x) before bound w (sym o ∙ k) l;
    others = λ other apart. wrote_same other;
  }
    where
      higher : (was is before bound : ℕ) → is ≡ was → was ≡ 2 * before → bound ≤ before → is ≡ max was (2 * bound)
      higher was is before bound e f l = omega (arith, e, f, l)

  pub raised_word : (before bound : ℕ) → word ≡ Bound before → before < bound → length old.wrote ≡ length old.sources → (new : SeatValue) → new ≡ with_written mid x (2 * bound) → HasRaisedWord old new x bound
  raised_word before bound e l size new is = record {
    crossings_are = ap (λ (s : SeatValue). s.crossings) is ∙ ap (λ (s : SeatValue). s.crossings) looked.new_is;
    domain_is = ap (λ (s : SeatValue). s.domain) is ∙ ap (λ (s : SeatValue). s.domain) looked.new_is;
    finishes_are = ap (λ (s : SeatValue). s.finishes) is ∙ ap (λ (s : SeatValue). s.finishes) looked.new_is;
    sources_are = ap (λ (s : SeatValue). s.sources) is ∙ ap (λ (s : SeatValue). s.sources) looked.new_is;
    noted = λ other.
        let same : slice_index new.noted other ≡ slice_index mid.noted other = ap (λ (s : SeatValue). slice_index s.noted other) is in
        elim (noted_even other) [ inl a ↦ inl (same ∙ a) | inr b ↦ inr (ap (λ n. n % 2) same ∙ b) ];
    wide = ap (λ (s : SeatValue). length s.wrote) is ∙ (length-set mid.wrote x (2 * bound) ∙ ap (λ (s : SeatValue). length s.wrote) looked.new_is);
    here =
        let k = ap kept_number e in
        let o = own_word in
        ap (λ (s : SeatValue). slice_index s.wrote x) is
        ∙ (get_or-set_same mid.wrote x (2 * bound) 0 within ∙ higher (slice_index old.wrote x) before bound (sym o ∙ k) l);
    others = λ other apart.
        ap (λ (s : SeatValue). slice_index s.wrote other) is ∙ (get_or-set_other mid.wrote x other (2 * bound) 0 apart ∙ wrote_same other);
  }
    where
      within : x < length mid.wrote
      within = let w = ap (λ (s : SeatValue). length s.wrote) looked.new_is in let t = may.there in omega (arith, w, t, size)

      higher : (was before bound : ℕ) → was ≡ 2 * before → before < bound → 2 * bound ≡ max was (2 * bound)
      higher was before bound f l = omega (arith, f, l)

-- ---- all words of a domain

module _ {C : Type 0} (stepped : C → Kind → ℕ → C × ℕ) (plan : Plan C) (table : TableId) where
  pub raised_nothing : (post : Post C) → IsPostSeated stepped plan table post → HasRaised stepped plan table post post
  raised_nothing post ok = record { domain_is = refl; seated = ok.seated; published = nothing_published stepped plan table post post refl (λ n. refl) }

  pub seated_still : (old new : Post C) → IsPostSeated stepped plan table old → HasRaised stepped plan table old new → IsPostSeated stepped plan table new
  seated_still old new ok h = record {
    kept = subst (KeepsToWeave stepped plan) (sym h.domain_is) ok.kept;
    seated = h.seated;
  }

  pub blocked_still : (events : List Event) (p : Partition) (old new : Post C) (number bound : ℕ) → HasRaised stepped plan table old new → IsBlockedBy events p old.domain.domain old.domain.own number bound
      → IsBlockedBy events p new.domain.domain new.domain.own number bound
  blocked_still events p old new number bound h b = subst (λ (v : DomainValue C). IsBlockedBy events p v.domain v.own number bound) (sym h.domain_is) b

  pub raised_more : (first old new : Post C) → HasRaised stepped plan table first old → HasRaised stepped plan table old new → HasRaised stepped plan table first new
  raised_more first old new h k = record {
    domain_is = k.domain_is ∙ h.domain_is;
    seated = k.seated;
    published = published_twice stepped plan table first old new (ap (λ (v : DomainValue C). v.domain) h.domain_is)
        (subst (λ (v : DomainValue C). Grows first.domain.own v.own) (sym h.domain_is) (grows_nothing first.domain.own))
        (subst (λ (v : DomainValue C). Grows old.domain.own v.own) (sym k.domain_is) (grows_nothing old.domain.own)) h.published k.published;
  }

module _ {C : Type 0} (serves : C → Kind → Bool) (floor : C → Kind → ℕ) (stepped : C → Kind → ℕ → C × ℕ) (greatest : C → Kind → ℕ → ℕ) (laws : KeepingLaws serves floor stepped greatest)
    (plan : Plan C) (can : CanWeavePlan serves floor stepped greatest plan) (table : TableId) (now : Post C) (ok : IsPostSeated stepped plan table now) (number bound : ℕ)
    (out : IsOutOf now.domain.partition now.domain.domain number)
    (answer : (x : Crossing) → slice_get now.domain.partition.crossings number ≡ Some x → IsBoundAnswer now.domain.events now.domain.partition now.domain.domain now.domain.own x (Some bound)) where
  here : IsOutOf plan.parts.value now.domain.domain number
  here = subst (λ (w : DomainValue C). IsOutOf w.partition w.domain number) ok.kept.is out

  unfired : is_fired now.domain.own.fired here.crossing.parent ≡ false
  unfired = (answer here.crossing (ap (λ (w : DomainValue C). slice_get w.partition.crossings number) ok.kept.is ∙ here.there)).unfired

  upto : IsBoundOf stepped plan here.crossing bound
  upto = kept_bound serves floor stepped greatest laws plan can now.domain.domain now.domain ok.kept number bound out answer here.crossing here.there

  pub may_raise : MayWrite now.seat number
  may_raise = record {
    there = number_there stepped plan table now.domain.domain now.seat ok.seated.seat number here.crossing here.there;
    owner = ap (λ (xs : List ℕ). slice_index xs number) ok.seated.seat.sources_are ∙ (owner_at stepped plan number here.crossing here.there ∙ (here.source ∙ sym ok.seated.seat.domain_is));
    unpublished = ok.seated.unpublished number here.crossing here.there here.source unfired;
  }

  pub sound_raise : bound ≤ slice_index now.seat.finishes number
  sound_raise =
      let e = ap (λ (xs : List ℕ). slice_index xs number) ok.seated.seat.finishes_are in
      let f = finish_at stepped plan number here.crossing here.there in
      let l = upto in
      omega (arith, e, f, l)

  pub small_raise : bound ≤ 2 ^ 62
  small_raise = let f = laws.finishes plan.graph.value plan.parts.value plan.comps.value can here.crossing.parent in let l = upto in omega (arith, f, l)

  pub raised_one : (seat : SeatValue) → HasRaisedWord now.seat seat number bound → HasRaised stepped plan table now (record { number = now.number; domain = now.domain; seat = seat })
  raised_one seat r = record {
    domain_is = refl;
    seated = record {
      seat = record {
        crossings_are = r.crossings_are ∙ ok.seated.seat.crossings_are;
        domain_is = r.domain_is ∙ ok.seated.seat.domain_is;
        finishes_are = r.finishes_are ∙ ok.seated.seat.finishes_are;
        sources_are = r.sources_are ∙ ok.seated.seat.sources_are;
        wide = r.wide ∙ (ok.seated.seat.wide ∙ sym (ap length r.sources_are));
      };
      unpublished = λ n y at source un.
          elim (cases_eq n number) [
            | inl same ↦
                ap (λ m. slice_index seat.wrote m % 2) same
                ∙ (ap (λ m. m % 2) r.here ∙ even_max (slice_index now.seat.wrote number) bound may_raise.unpublished)
            | inr apart ↦ ap (λ m. m % 2) (r.others n apart) ∙ ok.seated.unpublished n y at source un
          ];
      informed = λ n odd.
          elim (r.noted n) [
            | inl same ↦ ok.seated.informed n (ap (λ m. m % 2) (sym same) ∙ odd)
            | inr even ↦ absurd (zero_one (slice_index seat.noted n % 2) even odd)
          ];
    };
    published = record {
      finishes = λ n finish y at un is f. absurd (false≢true (sym un ∙ is));
      raised = λ n y at un.
          elim (cases_eq n number) [
            | inl same ↦
                let one : here.crossing ≡ y = same_Some here.crossing y (sym here.there ∙ (ap (slice_get plan.parts.value.crossings) (sym same) ∙ at)) in
                subst (λ m. WasRaised (finish_in (woven stepped plan.graph.value plan.comps.value) y.parent) (slice_index now.seat.wrote m) (slice_index seat.wrote m)) (sym same)
                (subst (λ (z : Crossing). WasRaised (finish_in (woven stepped plan.graph.value plan.comps.value) z.parent) (slice_index now.seat.wrote number) (slice_index seat.wrote number)) one
                (raised_to (finish_in (woven stepped plan.graph.value plan.comps.value) here.crossing.parent) (slice_index now.seat.wrote number) (slice_index seat.wrote number) r.here upto))
            | inr apart ↦ was_raised_not stepped plan table (finish_in (woven stepped plan.graph.value plan.comps.value) y.parent) (slice_index now.seat.wrote n) (slice_index seat.wrote n) (r.others n apart)
          ];
      others = λ n y at other.
          elim (cases_eq n number) [
            | inr apart ↦ r.others n apart
            | inl same ↦
                let one : here.crossing ≡ y = same_Some here.crossing y (sym here.there ∙ (ap (slice_get plan.parts.value.crossings) (sym same) ∙ at)) in
                elim other [
                  | inl fired ↦ absurd (false≢true (sym unfired ∙ (ap (λ (z : Crossing). is_fired now.domain.own.fired z.parent) one ∙ fired)))
                  | inr away ↦ absurd (away (ap (λ (z : Crossing). z.source) (sym one) ∙ here.source))
                ]
          ];
    };
  }
    where
      even_max : (was bound : ℕ) → was % 2 ≡ 0 → max was (2 * bound) % 2 ≡ 0
      even_max was bound h = elim (cases_lt was (2 * bound)) [
        | inl l ↦ let e : max was (2 * bound) ≡ 2 * bound = omega (arith, l) in omega (arith, e)
        | inr m ↦ let e : max was (2 * bound) ≡ was = omega (arith, m) in omega (arith, e, h)
      ]

      zero_one : (n : ℕ) → n ≡ 0 → n ≡ 1 → ⊥
      zero_one n a b = absurd (omega (arith, a, b))

      raised_to : (finish was is : ℕ) → is ≡ max was (2 * bound) → bound ≤ finish → WasRaised finish was is
      raised_to finish was is e l = record {
        upto = omega (arith, e);
        bound = elim (cases_lt was (2 * bound)) [
          | inl less ↦ inr (bound, (omega (arith, e, less), l))
          | inr m ↦ inl (omega (arith, e, m))
        ];
      }
