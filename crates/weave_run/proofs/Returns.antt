-- Domains that are dealt to workers run there, and come back in order.
use Rattle.std.proofs.Common.{◌≡◌, ◌<◌, ℕ, List, All, length, get_or, Some, slice_get, sym, ◌∙◌, ap, subst, arith}
use Rattle.std.proofs.lemmas.List.{get_or-map, length-map}
use Rattle.std.proofs.lemmas.Option.{get_or_from_slice_get, same_Some, slice_get-get_or, slice_get-map, slice_get_within}
use Rattle.std.specs.Option.{option_map}
use Rattle.std.specs.VecDeque.{deque_capacity}
use Rattle.atomic_table.specs.Seated.{TableId}
use Rattle.component.specs.declared.kind.Kind.{Kind}
use Rattle.crossing.specs.Seats.{SeatValue}
use Rattle.dealing.specs.Laws.{AreAmongThese, AreChanged, ChangedAreDealt}
use Rattle.dealing.specs.Workers.{HaveRoom, rooms_of}
use Rattle.weave_core.specs.DomainCalls.{DomainValue}
use Rattle.weave_core.specs.Keeping.{IsKept}
use Rattle.weave_run.specs.Crews.{AreHired, AreReturned, CanWork, Crew, HasWorked, HaveDomains, domains_in, seats_in}
use Rattle.weave_run.specs.Rounds.{AllKeep, HasRun, HaveRun, KeepsToWeave}
use Rattle.weave_run.specs.Seating.{AreSeated, HasServed, IsSeated}
use Rattle.weave_run.specs.declared.post.Post.{Post}
use Rattle.weave_run.specs.declared.plan.Plan.{Plan}
use Rattle.weave_run.proofs.Tellings.{there_at}
use Rattle.weave_run.proofs.Wovens.{map_at}

-- where a post lies, its domain and its seat do
made_at : {X Y : Type 0} (f : X → Y) (xs : List X) (ys : List Y) (i : ℕ) (x : X) → Rattle.std.proofs.Common.map f xs ≡ ys → slice_get xs i ≡ Some x → slice_get ys i ≡ Some (f x)
made_at {X} {Y} f xs ys i x is at = ap (λ (zs : List Y). slice_get zs i) (sym is) ∙ (slice_get-map f xs i ∙ ap (option_map f) at)

module _ {C : Type 0} (stepped : C → Kind → ℕ → C × ℕ) (plan : Plan C) (table : TableId) (vs : List (DomainValue C)) (seats : List SeatValue) (crews : List (Crew C)) (hired : AreHired vs seats crews) where
  keeps_at : AllKeep stepped plan vs → (d : ℕ) (v : DomainValue C) → slice_get vs d ≡ Some v → KeepsToWeave stepped plan v
  keeps_at k d v at =
      let i : IsKept stepped plan.graph.value plan.parts.value plan.comps.value d v = k.each d v at in
      subst (λ (n : ℕ). IsKept stepped plan.graph.value plan.parts.value plan.comps.value n v) (sym (ap (λ (w : DomainValue C). w.domain) i.is)) i

  pub all_can : AreAmongThese (Post C) (Unit {0}) → AllKeep stepped plan vs → AreSeated stepped plan table vs seats → All (CanWork stepped plan table) crews
  all_can among k seated worker d l = record {
    each = λ place post at.
        let there = among 0 hired.posts crews hired.dealt worker place (get_or crews worker d) post (slice_get-get_or crews worker d l) at in
        let domain = made_at (λ (p : Post C). p.domain) hired.posts vs there.0 post hired.domains_are there.1 in
        let seat = made_at (λ (p : Post C). p.seat) hired.posts seats there.0 post hired.seats_are there.1 in
        record { kept = keeps_at k there.0 post.domain domain; seated = seated.each there.0 post.domain post.seat domain seat };
  }

  module _ (after : List (Crew C)) (count : length after ≡ length crews) (worked : (worker : ℕ) (d : Crew C) → worker < length crews → HasWorked stepped plan table (get_or crews worker d) (get_or after worker d)) where
    worked_at : (i : ℕ) (w v : Crew C) → slice_get crews i ≡ Some w → slice_get after i ≡ Some v → HasWorked stepped plan table w v
    worked_at i w v was is =
        subst (λ (x : Crew C). HasWorked stepped plan table x v) (get_or_from_slice_get crews i w w was)
        (subst (HasWorked stepped plan table (get_or crews i w)) (get_or_from_slice_get after i v w is) (worked i w (slice_get_within crews i w was)))

    -- they have the room that they had
    pub rooms_stay : (n : ℕ) → HaveRoom n crews → HaveRoom n after
    rooms_stay n room worker d l =
        let within : worker < length after = (let m = length-map after (λ (w : Crew C). deque_capacity w.queue) in omega (arith, l, m)) in
        let inside : worker < length crews = omega (arith, within, count) in
        let low : worker < length (rooms_of crews) = (let m = length-map crews (λ (w : Crew C). deque_capacity w.queue) in omega (arith, inside, m)) in
        let w = there_at crews worker inside in
        let v = there_at after worker within in
        let is = get_or-map (λ (x : Crew C). deque_capacity x.queue) after worker v.0 d within ∙ ap (λ (x : Crew C). deque_capacity x.queue) (get_or_from_slice_get after worker v.0 v.0 v.1) in
        let was = get_or-map (λ (x : Crew C). deque_capacity x.queue) crews worker w.0 d inside ∙ ap (λ (x : Crew C). deque_capacity x.queue) (get_or_from_slice_get crews worker w.0 w.0 w.1) in
        let same = (worked_at worker w.0 v.0 w.1 v.1).room in
        let r = room worker d low in
        omega (arith, is, was, same, r)

    module _ (law : ChangedAreDealt (Post C) (Unit {0})) (some : 0 < length crews) where
      changed : AreChanged (Post C) (Unit {0}) 0 hired.posts crews after
      changed = law 0 hired.posts crews after some hired.dealt (record { count = count; each = λ i w v was is. (worked_at i w v was is).count })

      size : length changed.now ≡ length vs
      size = changed.count ∙ (sym (length-map hired.posts (λ (p : Post C). p.domain)) ∙ ap length hired.domains_are)

      served : (i : ℕ) (x y : Post C) → slice_get hired.posts i ≡ Some x → slice_get changed.now i ≡ Some y → HasServed stepped plan table x y
      served i x y at there =
          let it = changed.alike i x y at there in
          (worked_at it.worker it.was it.is it.before_there it.after_there).served it.place x y it.x_there it.y_there

      -- the workers have what the domains became
      pub still_dealt : (n : ℕ) → length vs ≡ n → HaveDomains n after
      still_dealt n many = record { some = (let s = some in omega (arith, s, count)); posts = changed.now; dealt = changed.dealt; size = size ∙ many }

      now_ran : HaveRun stepped plan vs (domains_in changed.now)
      now_ran = record {
        count = length-map changed.now (λ (p : Post C). p.domain) ∙ size;
        each = λ place v w at there.
            let p = map_at (λ (p : Post C). p.domain) hired.posts place v (ap (λ (zs : List (DomainValue C)). slice_get zs place) hired.domains_are ∙ at) in
            let q = map_at (λ (p : Post C). p.domain) changed.now place w there in
            subst (λ (x : DomainValue C). HasRun stepped plan x w) p.1.1 (subst (HasRun stepped plan p.0.domain) q.1.1 (served place p.0 q.0 p.1.0 q.1.0).ran);
      }

      now_seated : AreSeated stepped plan table (domains_in changed.now) (seats_in changed.now)
      now_seated = record {
        count = length-map changed.now (λ (p : Post C). p.seat) ∙ sym (length-map changed.now (λ (p : Post C). p.domain));
        each = λ d v s at there.
            let q = map_at (λ (p : Post C). p.domain) changed.now d v at in
            let r = map_at (λ (p : Post C). p.seat) changed.now d s there in
            let one : r.0 ≡ q.0 = same_Some _ _ (sym r.1.0 ∙ q.1.0) in
            let seat : q.0.seat ≡ s = ap (λ (p : Post C). p.seat) (sym one) ∙ r.1.1 in
            let p = there_at hired.posts d (let b = slice_get_within changed.now d q.0 q.1.0 in let n = changed.count in omega (arith, b, n)) in
            subst (λ (x : DomainValue C). IsSeated stepped plan table x s) q.1.1 (subst (IsSeated stepped plan table q.0.domain) seat (served d p.0 q.0 p.1 q.1.0).seated);
      }

      -- and these came back
      pub all_back : (n : ℕ) → length vs ≡ n → (back : List (DomainValue C)) (back_seats : List SeatValue) → AreReturned n after back back_seats → HaveRun stepped plan vs back × AreSeated stepped plan table back back_seats
      all_back n many back back_seats returned =
          let are = returned changed.now changed.dealt (size ∙ many) in (
            subst (HaveRun stepped plan vs) (sym are.0) now_ran,
            subst (λ (xs : List (DomainValue C)). AreSeated stepped plan table xs back_seats) (sym are.0) (subst (AreSeated stepped plan table (domains_in changed.now)) (sym are.1) now_seated),
          )
