-- Shares that go to workers with their domains, and come back.
use Rattle.std.proofs.Common.{◌≡◌, ◌<◌, ◌+◌, ◌++◌, ◌∷◌, [], ℕ, Bool, List, All, length, set, get_or, Some, slice_get, sym, ◌∙◌, ap, subst, refl, inl, inr, arith, length-set}
use Rattle.std.proofs.lemmas.Bool.{cases_eq}
use Rattle.std.proofs.lemmas.List.{length_push}
use Rattle.std.proofs.lemmas.Option.{none-some, same_Some, slice_get-get_or, slice_get_within}
use Rattle.std.specs.Arc.{arc_value}
use Rattle.atomic_table.specs.Seated.{TableId}
use Rattle.component.specs.declared.kind.Kind.{Kind}
use Rattle.weave_run.specs.Crews.{CanWork, Crew, HasWorked}
use Rattle.weave_run.specs.Outgoing.{AreOutgoing}
use Rattle.weave_run.specs.Rounds.{CanWeavePlan}
use Rattle.weave_run.specs.Shares.{AreExchanged, AreShares, CanRunShare, HasRunShare, HaveRunShares, IsShareOf, with_crew}
use Rattle.weave_run.specs.declared.outgoing.Outgoing.{Outgoing}
use Rattle.weave_run.specs.declared.plan.Plan.{Plan}
use Rattle.weave_run.specs.declared.share.DomainShare.{DomainShare}
use Rattle.weave_run.proofs.Preparings.{snoc_get}
use Rattle.weave_run.proofs.Tellings.{get_set_other, get_set_same, there_at}

-- ---- one exchange

module _ {C W : Type 0} where
  pub none_exchanged : (crews : List (Crew C)) (shares : List (DomainShare C W)) → AreExchanged crews crews shares shares 0
  none_exchanged crews shares = record {
    crews_are = refl;
    shares_are = refl;
    taken = λ w s below at. absurd (omega (arith, below));
    given = λ w crew s below at there. absurd (omega (arith, below));
    crews_left = λ w l. refl;
    shares_left = λ w l. refl;
  }

  pub one_exchanged : (crews now : List (Crew C)) (shares after : List (DomainShare C W)) (n : ℕ) (crew got : Crew C) (s put : DomainShare C W) → AreExchanged crews now shares after n
      → slice_get now n ≡ Some crew → slice_get after n ≡ Some s → got ≡ s.crew → put ≡ with_crew s crew → AreExchanged crews (set now n got) shares (set after n put) (n + 1)
  one_exchanged crews now shares after n crew got s put h at there got_is put_is = record {
    crews_are = length-set now n got ∙ h.crews_are;
    shares_are = length-set after n put ∙ h.shares_are;
    taken = λ w t below is.
        elim (cases_eq w n) [
          | inr other ↦ get_set_other now n w got other ∙ h.taken w t (omega (arith, below, other)) is
          | inl same ↦
              let one : s ≡ t = same_Some s t (sym there ∙ (h.shares_left n (omega arith) ∙ (ap (slice_get shares) (sym same) ∙ is))) in
              ap (slice_get (set now n got)) same
              ∙ (get_set_same now n got (slice_get_within now n crew at) ∙ ap (λ (c : Crew C). Some c) (got_is ∙ ap (λ (x : DomainShare C W). x.crew) one))
        ];
    given = λ w c t below is was.
        elim (cases_eq w n) [
          | inr other ↦ get_set_other after n w put other ∙ h.given w c t (omega (arith, below, other)) is was
          | inl same ↦
              let one : s ≡ t = same_Some s t (sym there ∙ (h.shares_left n (omega arith) ∙ (ap (slice_get shares) (sym same) ∙ was))) in
              let own : crew ≡ c = same_Some crew c (sym at ∙ (h.crews_left n (omega arith) ∙ (ap (slice_get crews) (sym same) ∙ is))) in
              ap (slice_get (set after n put)) same
              ∙ (get_set_same after n put (slice_get_within after n s there)
              ∙ ap (λ (x : DomainShare C W). Some x) (put_is ∙ (ap (λ (x : DomainShare C W). with_crew x crew) one ∙ ap (with_crew t) own)))
        ];
    crews_left = λ w l. get_set_other now n w got (λ e. absurd (omega (arith, l, e))) ∙ h.crews_left w (omega (arith, l));
    shares_left = λ w l. get_set_other after n w put (λ e. absurd (omega (arith, l, e))) ∙ h.shares_left w (omega (arith, l));
  }

-- ---- the shares of a round

module _ {C W : Type 0} (plan : Plan C) (table : TableId) where
  pub share_with : (s : DomainShare C W) (crew : Crew C) → IsShareOf plan table s → IsShareOf plan table (with_crew s crew)
  share_with s crew o = record { plan_is = o.plan_is; table_is = o.table_is; outgoing = o.outgoing; some = o.some }

  pub share_after : (stepped : C → Kind → ℕ → C × ℕ) (before after : DomainShare C W) → IsShareOf plan table before → HasRunShare stepped before after → IsShareOf plan table after
  share_after stepped before after o r = record {
    plan_is = r.plan_is ∙ o.plan_is;
    table_is = r.table_is ∙ o.table_is;
    outgoing = subst (AreOutgoing plan.parts.value.crossings (length plan.graph.value)) (sym r.outgoing_is) o.outgoing;
    some = (let was = o.some in let same = r.steps_are in omega (arith, was, same));
  }

  can_one : (serves : C → Kind → Bool) (floor : C → Kind → ℕ) (stepped : C → Kind → ℕ → C × ℕ) (greatest : C → Kind → ℕ → ℕ) → CanWeavePlan serves floor stepped greatest plan
      → (s : DomainShare C W) (crew : Crew C) → IsShareOf plan table s → CanWork stepped plan table crew → CanRunShare serves floor stepped greatest (with_crew s crew)
  can_one serves floor stepped greatest can s crew o w = record {
    plan = subst (CanWeavePlan serves floor stepped greatest) (sym o.plan_is) can;
    share = record {
      plan_is = refl;
      table_is = refl;
      outgoing = subst (λ (p : Plan C). AreOutgoing p.parts.value.crossings (length p.graph.value) (arc_value s.outgoing)) (sym o.plan_is) o.outgoing;
      some = o.some;
    };
    crew = subst (λ (p : Plan C). CanWork stepped p (arc_value s.crossings) crew) (sym o.plan_is) (subst (λ (t : TableId). CanWork stepped plan t crew) (sym o.table_is) w);
  }

  module _ (crews now : List (Crew C)) (shares after : List (DomainShare C W)) (are : AreShares plan table (length crews) shares) (e : AreExchanged crews now shares after (length crews)) where
    -- a worker with its share, before the round
    record Sent (worker : ℕ) : Type 0 where
      pub crew : Crew C
      pub share : DomainShare C W
      pub is_crew : slice_get crews worker ≡ Some crew
      pub is_share : IsShareOf plan table share
      pub given : slice_get after worker ≡ Some (with_crew share crew)

    sent : (worker : ℕ) → worker < length crews → Sent worker
    sent worker below =
        let c = there_at crews worker below in
        let s = there_at shares worker (let n = are.count_is in omega (arith, below, n)) in
        record { crew = c.0; share = s.0; is_crew = c.1; is_share = are.each worker s.0 s.1; given = e.given worker c.0 s.0 below c.1 s.1 }

    pub all_sent : (serves : C → Kind → Bool) (floor : C → Kind → ℕ) (stepped : C → Kind → ℕ → C × ℕ) (greatest : C → Kind → ℕ → ℕ) → CanWeavePlan serves floor stepped greatest plan
        → All (CanWork stepped plan table) crews → All (CanRunShare serves floor stepped greatest) after
    all_sent serves floor stepped greatest can work worker d l =
        let below : worker < length crews = (let a = e.shares_are in let b = are.count_is in omega (arith, l, a, b)) in
        let s : Sent worker = sent worker below in
        let own : get_or crews worker s.crew ≡ s.crew = same_Some _ _ (sym (slice_get-get_or crews worker s.crew below) ∙ s.is_crew) in
        let one : with_crew s.share s.crew ≡ get_or after worker d = same_Some _ _ (sym s.given ∙ slice_get-get_or after worker d l) in
        subst (CanRunShare serves floor stepped greatest) one
        (can_one serves floor stepped greatest can s.share s.crew s.is_share (subst (CanWork stepped plan table) own (work worker s.crew below)))

    module _ (stepped : C → Kind → ℕ → C × ℕ) (ran back : List (DomainShare C W)) (last : List (Crew C)) (did : HaveRunShares stepped after ran) (f : AreExchanged now last ran back (length now)) where
      -- and after it
      record Returned (worker : ℕ) : Type 0 where
        pub sent_is : Sent worker
        pub share : DomainShare C W
        pub there : slice_get ran worker ≡ Some share
        pub did_it : HasRunShare stepped (with_crew sent_is.share sent_is.crew) share
        pub taken : slice_get last worker ≡ Some share.crew

      returned : (worker : ℕ) → worker < length crews → Returned worker
      returned worker below =
          let s : Sent worker = sent worker below in
          let inside : worker < length after = slice_get_within after worker (with_crew s.share s.crew) s.given in
          let r = there_at ran worker (let n = did.count in omega (arith, inside, n)) in
          let x : DomainShare C W = r.0 in
          let a : get_or after worker x ≡ with_crew s.share s.crew = same_Some _ _ (sym (slice_get-get_or after worker x inside) ∙ s.given) in
          let b : get_or ran worker x ≡ r.0 = same_Some _ _ (sym (slice_get-get_or ran worker x (slice_get_within ran worker r.0 r.1)) ∙ r.1) in
          record {
            sent_is = s;
            share = r.0;
            there = r.1;
            did_it = subst (λ (y : DomainShare C W). HasRunShare stepped y r.0) a (subst (HasRunShare stepped (get_or after worker x)) b (did.each worker x inside));
            taken = f.taken worker r.0 (let n = e.crews_are in omega (arith, below, n)) r.1;
          }

      pub all_ran : (worker : ℕ) (d : Crew C) → worker < length crews → HasWorked stepped plan table (get_or crews worker d) (get_or last worker d)
      all_ran worker d below =
          let r : Returned worker = returned worker below in
          let s : Sent worker = r.sent_is in
          let a : s.crew ≡ get_or crews worker d = same_Some _ _ (sym s.is_crew ∙ slice_get-get_or crews worker d below) in
          let b : r.share.crew ≡ get_or last worker d = same_Some _ _ (sym r.taken ∙ slice_get-get_or last worker d (slice_get_within last worker r.share.crew r.taken)) in
          let w : HasWorked stepped plan table s.crew r.share.crew =
          subst (λ (t : TableId). HasWorked stepped plan t s.crew r.share.crew) s.is_share.table_is
          (subst (λ (p : Plan C). HasWorked stepped p (arc_value s.share.crossings) s.crew r.share.crew) s.is_share.plan_is r.did_it.worked)
          in
          subst (λ (c : Crew C). HasWorked stepped plan table c (get_or last worker d)) a (subst (HasWorked stepped plan table s.crew) b w)

      pub all_back : AreShares plan table (length crews) back
      all_back = record {
        count_is = (let a = f.shares_are in let b = did.count in let c = e.shares_are in let d = are.count_is in omega (arith, a, b, c, d));
        each = λ worker x at.
            let below : worker < length crews =
            (let i = slice_get_within back worker x at in let a = f.shares_are in let b = did.count in let c = e.shares_are in let d = are.count_is in omega (arith, i, a, b, c, d))
            in
            let r : Returned worker = returned worker below in
            let inside : worker < length now = (let n = e.crews_are in omega (arith, below, n)) in
            let c = there_at now worker inside in
            let one : with_crew r.share c.0 ≡ x = same_Some _ _ (sym (f.given worker c.0 r.share inside c.1 r.there) ∙ at) in
            subst (IsShareOf plan table) one
            (share_with r.share c.0 (share_after stepped (with_crew r.sent_is.share r.sent_is.crew) r.share (share_with r.sent_is.share r.sent_is.crew r.sent_is.is_share) r.did_it));
      }

-- ---- the shares before the first round

pub same_plan : {C : Type 0} (a b : Plan C) → a.graph.value ≡ b.graph.value → a.parts.value ≡ b.parts.value → a.comps.value ≡ b.comps.value → a ≡ b
same_plan a b graph parts comps = λ i. record {
  graph = record { marker = a.graph.marker; value = graph i };
  parts = record { marker = a.parts.marker; value = parts i };
  comps = record { marker = a.comps.marker; value = comps i };
}

module _ {C W : Type 0} (plan : Plan C) (table : TableId) where
  pub share_of : (s : DomainShare C W) (o : Outgoing) → s.plan ≡ plan → arc_value s.crossings ≡ table → arc_value s.outgoing ≡ o → AreOutgoing plan.parts.value.crossings (length plan.graph.value) o → 0 < s.steps → IsShareOf plan table s
  share_of s o p t same are some = record { plan_is = p; table_is = t; outgoing = subst (AreOutgoing plan.parts.value.crossings (length plan.graph.value)) (sym same) are; some = some }

  pub one_share : (n : ℕ) (shares : List (DomainShare C W)) (s : DomainShare C W) (new : List (DomainShare C W)) → AreShares plan table n shares → IsShareOf plan table s → new ≡ shares ++ s ∷ [] → AreShares plan table (n + 1) new
  one_share n shares s new h one pushed = record {
    count_is = (let a = ap length pushed in let b = length_push shares s in let c = h.count_is in omega (arith, a, b, c));
    each = λ worker t at.
        elim (snoc_get shares s worker t (ap (λ (xs : List (DomainShare C W)). slice_get xs worker) (sym pushed) ∙ at)) [
          | inl before ↦ h.each worker t before
          | inr last ↦ subst (IsShareOf plan table) last.1 one
        ];
  }

  pub no_shares : (shares : List (DomainShare C W)) → shares ≡ [] → AreShares plan table 0 shares
  no_shares shares none = record { count_is = ap length none; each = λ worker s at. absurd (none-some s (ap (λ (xs : List (DomainShare C W)). slice_get xs worker) (sym none) ∙ at)) }
