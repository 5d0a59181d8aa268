-- A round in which the workers run their domains beside each other.
use Rattle.std.proofs.Common.{◌≡◌, ◌<◌, ◌≤◌, ◌+◌, ℕ, zero, suc, Bool, List, [], ◌∷◌, length, set, slice_index, Some, slice_get, refl, sym, ◌∙◌, ap, subst, inl, inr, arith}
use Rattle.std.proofs.lemmas.Bool.{cases_lt, cases_eq}
use Rattle.std.proofs.lemmas.List.{get_or-set_other, get_or-set_same}
use Rattle.std.proofs.lemmas.Option.{same_Some, none-some, slice_get_within}
use Rattle.component.specs.declared.kind.Kind.{Kind}
use Rattle.domain_map.specs.Domains.{domain_of_event}
use Rattle.weave_core.specs.AtBarrier.{MayGoOn}
use Rattle.weave_core.specs.DomainCalls.{DomainValue}
use Rattle.weave_core.specs.DomainMachine.{DomainState, fresh_domain}
use Rattle.weave_core.specs.Keeping.{IsKept, KeepingLaws, owns_of}
use Rattle.weave_run.specs.Rounds.{AllGrow, AllKeep, AreMet, AreNoted, CanWeavePlan, Grows, HasGoneOn, HasMet, HasRun, HasRunRound, HasToldRests, HaveRun, own_in}
use Rattle.weave_run.specs.declared.plan.Plan.{Plan}
use Rattle.weave_run.proofs.Rounding.{met_again, still_fired}
use Rattle.weave_run.proofs.Tellings.{grows_by_learning, grows_nothing, own_there, there_at}

-- ---- how many each has fired

pub one_noted : {C : Type 0} (vs : List (DomainValue C)) (counts : List ℕ) (index n : ℕ) (v : DomainValue C) → AreNoted vs counts index → slice_get vs index ≡ Some v → n ≡ length v.own.fired → index < length counts
    → AreNoted vs (set counts index n) (index + 1)
one_noted vs counts index n v h at is l = record {
  each = λ d w below there.
      elim (cases_eq d index) [
        | inr other ↦ get_or-set_other counts index d n 0 other ∙ h.each d w (omega (arith, below, other)) there
        | inl same ↦
            let one : v ≡ w = same_Some v w (sym at ∙ (ap (slice_get vs) (sym same) ∙ there)) in
            ap (slice_index (set counts index n)) same ∙ (get_or-set_same counts index n 0 l ∙ (is ∙ ap (λ (z : DomainValue _). length z.own.fired) one))
      ];
}

-- ---- all domains after they ran

own_beyond : {C : Type 0} (vs : List (DomainValue C)) (d : ℕ) → length vs ≤ d → own_in vs d ≡ fresh_domain
own_beyond [] zero l = refl
own_beyond [] (suc d) l = refl
own_beyond (v ∷ vs) zero l = absurd (omega (arith, l))
own_beyond (v ∷ vs) (suc d) l = own_beyond vs d (omega (arith, l))

module _ {C : Type 0} (stepped : C → Kind → ℕ → C × ℕ) (plan : Plan C) (old mid : List (DomainValue C)) (kept : AllKeep stepped plan old) (ran : HaveRun stepped plan old mid) where
  pub record HasRunThere (d : ℕ) : Type 0 where
    pub before : DomainValue C
    pub after : DomainValue C
    pub there : slice_get old d ≡ Some before
    pub there_now : slice_get mid d ≡ Some after
    pub has_run : HasRun stepped plan before after
    pub number : before.domain ≡ d

  pub ran_there : (d : ℕ) → d < length old → HasRunThere d
  ran_there d l =
      let v = there_at old d l in
      let w = there_at mid d (let n = ran.count in omega (arith, l, n)) in
      let k : IsKept stepped plan.graph.value plan.parts.value plan.comps.value d v.0 = kept.each d v.0 v.1 in
      record { before = v.0; after = w.0; there = v.1; there_now = w.1; has_run = ran.each d v.0 w.0 v.1 w.1; number = ap (λ (z : DomainValue C). z.domain) k.is }

  pub all_kept : AllKeep stepped plan mid
  all_kept = record {
    count = ran.count ∙ kept.count;
    each = λ d w at.
        let r : HasRunThere d = ran_there d (let b = slice_get_within mid d w at in let n = ran.count in omega (arith, b, n)) in
        let one : r.after ≡ w = same_Some r.after w (sym r.there_now ∙ at) in
        subst (IsKept stepped plan.graph.value plan.parts.value plan.comps.value d) one
        (subst (λ (n : ℕ). IsKept stepped plan.graph.value plan.parts.value plan.comps.value n r.after) (r.has_run.same ∙ r.number) r.has_run.kept);
  }

  grown : (d : ℕ) → Grows (own_in old d) (own_in mid d)
  grown d =
      elim (cases_lt d (length old)) [
        | inr past ↦
            let a : own_in old d ≡ fresh_domain = own_beyond old d (omega (arith, past)) in
            let b : own_in mid d ≡ fresh_domain = own_beyond mid d (let n = ran.count in omega (arith, past, n)) in
            subst (Grows (own_in old d)) (a ∙ sym b) (grows_nothing (own_in old d))
        | inl less ↦
            let r : HasRunThere d = ran_there d less in
            subst (λ (a : DomainState). Grows a (own_in mid d)) (sym (own_there old d r.before r.there)) (subst (Grows r.before.own) (sym (own_there mid d r.after r.there_now)) r.has_run.grows)
      ]

  pub all_grown : AllGrow old mid
  all_grown = record { each = grown }

  gone_on : (d : ℕ) → d < length old → HasGoneOn plan.graph.value plan.parts.value d (own_in old d) (own_in mid d)
  gone_on d l =
      let r : HasRunThere d = ran_there d l in
      subst (λ (n : ℕ). HasGoneOn plan.graph.value plan.parts.value n (own_in old d) (own_in mid d)) r.number
      (subst (λ (a : DomainState). HasGoneOn plan.graph.value plan.parts.value r.before.domain a (own_in mid d)) (sym (own_there old d r.before r.there))
      (subst (HasGoneOn plan.graph.value plan.parts.value r.before.domain r.before.own) (sym (own_there mid d r.after r.there_now)) r.has_run.goes_on))

  module _ (serves : C → Kind → Bool) (floor : C → Kind → ℕ) (greatest : C → Kind → ℕ → ℕ) (laws : KeepingLaws serves floor stepped greatest) (can : CanWeavePlan serves floor stepped greatest plan) (met : AreMet stepped plan old)
      (new : List (DomainValue C)) (counts : List ℕ) (noted : AreNoted old counts (length old)) (told : HasToldRests stepped plan mid new counts (length mid)) where
    is_met : HasMet stepped plan old new
    is_met =
        met_again stepped plan old mid new met all_grown told.kept told.learn
        (λ source at y past there. elim (cases_lt source (length old)) [
          | inl less ↦
              let r : HasRunThere source = ran_there source less in
              let place : slice_index counts source ≡ length (own_in old source).fired =
              noted.each source r.before less r.there ∙ ap (λ (a : DomainState). length a.fired) (sym (own_there old source r.before r.there))
              in
              told.told source at y (let n = ran.count in omega (arith, less, n)) (omega (arith, place, past)) there
          | inr beyond ↦
              let b : own_in mid source ≡ fresh_domain = own_beyond mid source (let n = ran.count in omega (arith, beyond, n)) in
              absurd (none-some y (ap (λ (a : DomainState). slice_get a.fired at) (sym b) ∙ there))
        ])

    pub round_beside : HasRunRound stepped plan old new
    round_beside = record {
      has_met = is_met;
      advanced = λ index x first clear.
          let d : ℕ = domain_of_event plan.parts.value.places x.event in
          let below : domain_of_event plan.parts.value.places x.event < length old = (let b = laws.here plan.graph.value plan.parts.value plan.comps.value can index x first.there in let n = kept.count in omega (arith, b, n)) in
          let go : MayGoOn plan.graph.value plan.parts.value (owns_of old) x = laws.goes_on plan.graph.value plan.parts.value plan.comps.value can old index x met.kept met.told first in
          still_fired (own_in mid (domain_of_event plan.parts.value.places x.event)) (own_in new (domain_of_event plan.parts.value.places x.event)) x.event.number
          (grows_by_learning (own_in mid (domain_of_event plan.parts.value.places x.event)) (own_in new (domain_of_event plan.parts.value.places x.event)) (told.learn.each (domain_of_event plan.parts.value.places x.event)))
          (gone_on (domain_of_event plan.parts.value.places x.event) below x.event x.start go.next clear);
    }
