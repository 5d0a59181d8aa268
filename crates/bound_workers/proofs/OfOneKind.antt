-- Jobs of one kind, given out and taken in.
use Rattle.std.proofs.Common.{All, ◌≡◌, ◌<◌, ◌++◌, ◌∷◌, [], List, get_or, length, map, refl, sym, ◌∙◌, ap, subst, arith, append_assoc, suc}
use Rattle.std.specs.Arc.{arc_value}
use Rattle.std.specs.List.{remove}
use Rattle.std.proofs.lemmas.List.{get_or-map, length-map, map-append}
use Rattle.noc_mesh.specs.NetTiming.{net_time}
use Rattle.crew.specs.Sharing.{AreDone}
use Rattle.component.specs.ComponentStep.{comp_step}
use Rattle.component.specs.declared.comp.Comp.{Comp}
use Rattle.weave_run.specs.Shares.{HasRunShare}
use Rattle.weave_run.specs.declared.share.DomainShare.{DomainShare}
use Rattle.weave_run.specs.declared.way.WatchedDomains.{WatchedDomains}
use Rattle.bound_workers.specs.Carrying.{CarriesShares}
use Rattle.bound_workers.specs.Team.{HasWorked}
use Rattle.bound_workers.specs.Works.{AreCores, CanDo, HasDone, HasShared, IsOrder}
use Rattle.bound_workers.specs.declared.ordering.Ordering.{Ordering}
use Rattle.bound_workers.specs.declared.share.Share.{Share}
use Rattle.bound_workers.specs.declared.work.Work.{Work}
use Rattle.bound_workers.specs.declared.work.Work.TheVariants.{Cores, Domains, Order}

-- all but the first
pub rest_all : {X : Type 0} (P : X → Type 0) (xs : List X) → All P xs → All P (remove xs 0)
rest_all P [] all = all
rest_all P (x ∷ xs) all = λ k d below. all (suc k) d (omega (arith, below))

module _ {J K : Type 0} (of : K → J) where
  -- the first of those that are left goes behind those that were given out
  pub given_out : (js new : List J) (ks : List K) (x : K) (whole : List J) → 0 < length ks → x ≡ get_or ks 0 x → new ≡ js ++ of x ∷ [] → js ++ map of ks ≡ whole → new ++ map of (remove ks 0) ≡ whole
  given_out js new [] x whole some first pushed so_far = absurd (omega (arith, some))
  given_out js new (k ∷ ks) x whole some first pushed so_far =
      ap (λ (xs : List J). xs ++ map of ks) pushed
      ∙ (append_assoc js (of x ∷ []) (map of ks)
      ∙ (ap (λ (y : K). js ++ of y ∷ map of ks) first ∙ so_far))

  pub taken_in : (ks new : List K) (js : List J) (x : J) (k : K) (whole : List J) → 0 < length js → x ≡ get_or js 0 x → x ≡ of k → new ≡ ks ++ k ∷ [] → map of ks ++ js ≡ whole → map of new ++ remove js 0 ≡ whole
  taken_in ks new [] x k whole some first is pushed so_far = absurd (omega (arith, some))
  taken_in ks new (j ∷ js) x k whole some first is pushed so_far =
      ap (λ (xs : List K). map of xs ++ js) pushed
      ∙ (ap (λ (xs : List J). xs ++ js) (map-append of ks (k ∷ []))
      ∙ (append_assoc (map of ks) (of k ∷ []) js
      ∙ (ap (λ (y : J). map of ks ++ y ∷ js) (sym is ∙ first) ∙ so_far)))

  -- what holds of each answer by what was asked
  pub kinds : (done : J → J → Type 0) (P : J → Type 0) → ((k : K) (j : J) → done (of k) j → P j) → (ks : List K) (answers : List J) → AreDone done (map of ks) answers → All P answers
  kinds done P step [] answers are = λ i d within. absurd (let count = are.count in omega (arith, within, count))
  kinds done P step (k ∷ ks) answers are = λ i d within.
      let count = are.count in
      let mapped = length-map (k ∷ ks) of in
      let inside : i < length (map of (k ∷ ks)) = omega (arith, within, count) in
      let there : i < length (k ∷ ks) = omega (arith, inside, mapped) in
      step (get_or (k ∷ ks) i k) (get_or answers i d)
      (subst (λ (j : J). done j (get_or answers i d)) (get_or-map of (k ∷ ks) i k d there) (are.each i d inside))

  -- and each answer for itself
  pub done_so : (done : J → J → Type 0) (Own : K → K → Type 0) → ((k l : K) → done (of k) (of l) → Own k l) → (ks back : List K) (answers : List J) → AreDone done (map of ks) answers → map of back ≡ answers → AreDone Own ks back
  done_so done Own step ks back answers are same =
      let count = are.count in
      let mapped = length-map ks of in
      let taken = length-map back of in
      let long = ap length same in
      record {
        count = omega (arith, count, mapped, taken, long);
        each = λ i d within.
            let inside : i < length (map of ks) = omega (arith, within, mapped) in
            let there : i < length back = omega (arith, within, count, mapped, taken, long) in
            step (get_or ks i d) (get_or back i d)
            (subst (λ (j : J). done j (of (get_or back i d))) (get_or-map of ks i d (of d) within)
            (subst (λ (j : J). done (get_or (map of ks) i (of d)) j) (ap (λ (xs : List J). get_or xs i (of d)) (sym same) ∙ get_or-map of back i d (of d) there) (are.each i (of d) inside)));
      }

module _ {R G : Type 0} where
  pub cores_answer : (s : Share R G) (w : Work R G) → HasDone (Cores s) w → AreCores w
  cores_answer s (Cores t) did = tt
  cores_answer s (Order o) did = did
  cores_answer s (Domains d) did = did

  pub order_answer : (o : Ordering) (w : Work R G) → HasDone {R = R} {G = G} (Order o) w → IsOrder w
  order_answer o (Cores t) did = did
  order_answer o (Order p) did = tt
  order_answer o (Domains d) did = did

  pub carries_shares : CarriesShares {W = WatchedDomains G} {J = Work R G} (λ d. Domains d) (λ w. CanDo w) (λ v w. HasDone v w)
  carries_shares = record { may = λ s can. can; did = did }
    where
      did : (s : DomainShare Comp (WatchedDomains G)) (answer : Work R G) → HasDone {R = R} {G = G} (Domains s) answer → (t : DomainShare Comp (WatchedDomains G)) × ((answer ≡ Domains t) × HasRunShare comp_step s t)
      did s (Cores t) h = absurd h
      did s (Order o) h = absurd h
      did s (Domains t) h = (t, (refl, h))

  pub cores_done : (s t : Share R G) (w : Work R G) → w ≡ Cores s → arc_value t.table ≡ arc_value s.table
      → HasWorked (λ e. net_time s.net.now.path e) s.program.now s.end (arc_value s.table) s.team t.team → HasDone w (Cores t)
  cores_done s t w is same worked =
      let did : HasShared s t = record { same = same; worked = worked } in
      subst (λ (v : Work R G). HasDone v (Cores t)) (sym is) did
