-- What a domain publishes, and what it finds in the words.
use Rattle.std.proofs.Common.{◌≡◌, ◌+◌, ◌-◌, ◌*◌, ◌%◌, ◌<◌, ◌≤◌, ◌^◌, ℕ, zero, suc, Bool, true, false, not, ◌&&◌, eqb, max, List, [], ◌∷◌, length, map, set, get_or, slice_index, ◌⊎◌, Some, slice_get, sym, ◌∙◌, ap, subst, refl, inl, inr, arith, length-set}
use Rattle.std.proofs.lemmas.Bool.{false≢true, cases_eq, cases_lt}
use Rattle.std.proofs.lemmas.Bool.Decides.{nat_tests}
use Rattle.std.proofs.lemmas.List.{get_or-set_other, get_or-set_same, length-map}
use Rattle.std.proofs.lemmas.Option.{same_Some, none-some, slice_get_within}
use Rattle.atomic_table.specs.Seated.{TableId}
use Rattle.zs_num.specs.declared.time.Key.{Key}
use Rattle.zs_num.specs.declared.time.Word.{Word}
use Rattle.zs_num.specs.declared.time.Word.TheVariants.{Bound, Exact}
use Rattle.component.specs.declared.kind.Kind.{Kind}
use Rattle.event_graph.specs.declared.event.Event.{Event}
use Rattle.event_graph.specs.declared.fired.Fired.{Fired}
use Rattle.event_graph.specs.OneListWeave.{FiredEvent, finish_in, is_fired, woven}
use Rattle.domain_map.specs.declared.crossing.Crossing.{Crossing}
use Rattle.domain_map.specs.Domains.{Partition, domain_of_event}
use Rattle.crossing.specs.Seats.{IsTrueOfFinish, Looked, MayWrite, SeatValue, finishes_of, kept_number, sources_of, with_written}
use Rattle.weave_core.specs.DomainCalls.{DomainValue, IsAnswer, IsBlockedBy, MayTell, with_known}
use Rattle.weave_core.specs.DomainMachine.{DomainState, SaysAsMuch, cycle_of, is_exact, latency_at, word_at}
use Rattle.weave_core.specs.Keeping.{IsReadyEvent, IsTrueWordOf, JoinsDomains, KeepingLaws}
use Rattle.weave_core.specs.Soundness.{IsSoundWord}
use Rattle.weave_core.specs.declared.next.Next.{Next}
use Rattle.weave_core.specs.declared.next.Next.TheVariants.{Blocked, Done, Fire}
use Rattle.weave_run.specs.Outgoing.{AreOutgoing, IsLastBelow}
use Rattle.weave_run.specs.Rounds.{CanWeavePlan, Grows, HasFiredNext, HasGoneOn, IsFinish, Learns}
use Rattle.weave_run.specs.Seating.{IsInformed, IsPostSeated, HasFiredThere, HasLearned, HasLooked, HasPublished, HasPublishedSince, HasRaised, HasServed, IsSeatOfPlan, MayPublish, WasRaised, after_finding, says_more}
use Rattle.weave_run.specs.declared.outgoing.Outgoing.{Outgoing}
use Rattle.weave_run.specs.declared.plan.Plan.{Plan}
use Rattle.weave_run.specs.declared.post.Post.{Post}
use Rattle.weave_run.proofs.Chains.{IsLink, before_less, before_of, last_of, next_link, read_there}
use Rattle.weave_run.proofs.Firings.{fired_by_more, fired_last, fired_no_other}
use Rattle.weave_run.proofs.Running.{goes_after, goes_nowhere, same_value, same_words}
use Rattle.weave_run.proofs.Tellings.{bound_says, finish_says, grows_by_learning, grows_nothing, grows_twice, learns_nothing, read_set, stays_exact, word_told}

eq_is : (a b : ℕ) → eqb a b ≡ true → a ≡ b
eq_is a b e = grind (arith, nat_tests)

left_of : (a b : Bool) → (a && b) ≡ true → a ≡ true
left_of true b h = refl
left_of false b h = absurd (false≢true h)

right_of : (a b : Bool) → (a && b) ≡ true → b ≡ true
right_of true b h = h
right_of false b h = absurd (false≢true h)

not_true : (a : Bool) → not a ≡ true → a ≡ false
not_true true h = absurd (false≢true h)
not_true false h = refl

index_map : {X : Type 0} (f : X → ℕ) (xs : List X) (i : ℕ) (x : X) → slice_get xs i ≡ Some x → slice_index (map f xs) i ≡ f x
index_map f [] i x h = absurd (none-some x h)
index_map f (y ∷ xs) zero x h = ap f (same_Some y x h)
index_map f (y ∷ xs) (suc i) x h = index_map f xs i x h

module _ {C : Type 0} (stepped : C → Kind → ℕ → C × ℕ) (plan : Plan C) where
  abbrev crossings : List Crossing
  crossings = plan.parts.value.crossings

  pub finish_at : (number : ℕ) (x : Crossing) → slice_get crossings number ≡ Some x → slice_index (finishes_of stepped plan.graph.value plan.parts.value plan.comps.value) number ≡ finish_in (woven stepped plan.graph.value plan.comps.value) x.parent
  finish_at number x at = index_map (λ (y : Crossing). finish_in (woven stepped plan.graph.value plan.comps.value) y.parent) crossings number x at

  pub owner_at : (number : ℕ) (x : Crossing) → slice_get crossings number ≡ Some x → slice_index (sources_of plan.parts.value) number ≡ x.source
  owner_at number x at = index_map (λ (y : Crossing). y.source) crossings number x at

  pub number_there : (table : TableId) (domain : ℕ) (s : SeatValue) → IsSeatOfPlan stepped plan table domain s → (number : ℕ) (x : Crossing) → slice_get crossings number ≡ Some x → number < length s.sources
  number_there table domain s seat number x at =
      let w = slice_get_within crossings number x at in
      let n = ap length seat.sources_are in
      let m = length-map crossings (λ (y : Crossing). y.source) in
      omega (arith, w, n, m)

  -- ---- publishing

  -- the crossings from the link on are published
  pub record IsPublishing (old now : SeatValue) (parent finish link : ℕ) : Type 0 where
    pub crossings_are : now.crossings ≡ old.crossings
    pub domain_is : now.domain ≡ old.domain
    pub finishes_are : now.finishes ≡ old.finishes
    pub sources_are : now.sources ≡ old.sources
    pub noted_are : now.noted ≡ old.noted
    pub looks_are : now.looks ≡ old.looks
    pub wide : length now.wrote ≡ length old.wrote
    pub all : (number : ℕ) (x : Crossing) → link ≤ number → slice_get crossings number ≡ Some x → x.parent ≡ parent → slice_index now.wrote number ≡ kept_number (Exact finish)
    pub others : (number : ℕ) (x : Crossing) → slice_get crossings number ≡ Some x → (number < link) ⊎ (x.parent ≡ parent → ⊥) → slice_index now.wrote number ≡ slice_index old.wrote number

  -- before the first
  pub record IsPublishStart (s : SeatValue) (parent finish link : ℕ) : Type 0 where
    pub link_is : IsLink crossings parent link
    pub published : IsPublishing s s parent finish link

  pub none_published : (o : Outgoing) → AreOutgoing crossings (length plan.graph.value) o → (s : SeatValue) (parent finish link d : ℕ) → parent < length plan.graph.value → link ≡ get_or o.last.items parent d → IsPublishStart s parent finish link
  none_published o out s parent finish link d l is =
      let reads : link ≡ get_or o.last.items parent 0 = is ∙ read_there o.last.items parent d (let n = out.events_are in omega (arith, l, n)) in
      let b : IsLastBelow crossings (length crossings) parent link = last_of stepped plan o out parent link l reads in
      record {
        link_is = record { below = b.below; there = b.there };
        published = record {
          crossings_are = refl;
          domain_is = refl;
          finishes_are = refl;
          sources_are = refl;
          noted_are = refl;
          looks_are = refl;
          wide = refl;
          all = λ number x from at e. absurd (b.none_behind number x from (slice_get_within crossings number x at) at e);
          others = λ number x at h. refl;
        };
      }

  pub all_published : (old now : SeatValue) (parent finish link : ℕ) → link ≤ 0 → IsPublishing old now parent finish link → HasPublished plan old now parent finish
  all_published old now parent finish link none h = record {
    crossings_are = h.crossings_are;
    domain_is = h.domain_is;
    finishes_are = h.finishes_are;
    sources_are = h.sources_are;
    noted_are = h.noted_are;
    looks_are = h.looks_are;
    wide = h.wide;
    all = λ number x at e. h.all number x (omega (arith, none)) at e;
    others = λ number x at other. h.others number x at (inr other);
  }

  module _ (table : TableId) (old now : SeatValue) (parent link finish : ℕ) (some : 0 < link) (seat : IsSeatOfPlan stepped plan table old.domain old) (may : MayPublish plan old parent) (is_finish : IsFinish stepped plan parent finish)
      (h : IsLink crossings parent link) (so_far : IsPublishing old now parent finish link) where
    abbrev number : ℕ
    number = link - 1

    pub more : link ≡ (link - 1) + 1
    more = omega (arith, some)

    abbrev one : Crossing
    one = (h.there (link - 1) more).0

    pub at_one : slice_get crossings (link - 1) ≡ Some one
    at_one = (h.there (link - 1) more).1

    parent_is : one.parent ≡ parent
    parent_is = (h.there (link - 1) more).2

    pub same_table : now.crossings ≡ table
    same_table = so_far.crossings_are ∙ seat.crossings_are

    pub may_write : MayWrite now (link - 1)
    may_write = record {
      there = (let n = number_there table old.domain old seat (link - 1) one at_one in let l = ap length so_far.sources_are in omega (arith, n, l));
      owner = ap (λ (xs : List ℕ). slice_index xs (link - 1)) (so_far.sources_are ∙ seat.sources_are) ∙ (owner_at (link - 1) one at_one ∙ (may.own (link - 1) one at_one parent_is ∙ sym so_far.domain_is));
      unpublished = ap (λ (n : ℕ). n % 2) (so_far.others (link - 1) one at_one (inl (omega (arith, more)))) ∙ may.unpublished (link - 1) one at_one parent_is;
    }

    pub sound : finish ≡ slice_index now.finishes (link - 1)
    sound =
        is_finish
        ∙ (ap (finish_in (woven stepped plan.graph.value plan.comps.value)) (sym parent_is)
        ∙ (sym (finish_at (link - 1) one at_one) ∙ ap (λ (xs : List ℕ). slice_index xs (link - 1)) (sym (so_far.finishes_are ∙ seat.finishes_are))))

    pub record IsPublishStep (new : SeatValue) (before : ℕ) : Type 0 where
      pub link_is : IsLink crossings parent before
      pub published : IsPublishing old new parent finish before
      pub less : before < link

    pub publish_step : (o : Outgoing) → AreOutgoing crossings (length plan.graph.value) o → (new : SeatValue) (before d : ℕ) → new ≡ with_written now (link - 1) (2 * finish + 1) → before ≡ get_or o.before.items (link - 1) d → IsPublishStep new before
    publish_step o out new before d new_is is =
        let below : link - 1 < length o.before.items = (let w = slice_get_within crossings (link - 1) one at_one in let m = out.crossings_are in omega (arith, w, m)) in
        let reads : before ≡ get_or o.before.items (link - 1) 0 = is ∙ read_there o.before.items (link - 1) d below in
        let last : IsLastBelow crossings (link - 1) parent before = before_of stepped plan o out parent link (link - 1) before h more reads in
        let written : (m : ℕ) → slice_index new.wrote m ≡ slice_index (set now.wrote (link - 1) (2 * finish + 1)) m = λ m. ap (λ (s : SeatValue). slice_index s.wrote m) new_is in
        let room : link - 1 < length now.wrote = (let n = may_write.there in let a = so_far.wide in let b = seat.wide in let l = ap length so_far.sources_are in omega (arith, n, a, b, l)) in
        record {
          link_is = next_link stepped plan o out parent link (link - 1) before h more reads;
          less = before_less stepped plan o out parent link (link - 1) before h more reads;
          published = record {
            crossings_are = ap (λ (s : SeatValue). s.crossings) new_is ∙ so_far.crossings_are;
            domain_is = ap (λ (s : SeatValue). s.domain) new_is ∙ so_far.domain_is;
            finishes_are = ap (λ (s : SeatValue). s.finishes) new_is ∙ so_far.finishes_are;
            sources_are = ap (λ (s : SeatValue). s.sources) new_is ∙ so_far.sources_are;
            noted_are = ap (λ (s : SeatValue). s.noted) new_is ∙ so_far.noted_are;
            looks_are = ap (λ (s : SeatValue). s.looks) new_is ∙ so_far.looks_are;
            wide = ap (λ (s : SeatValue). length s.wrote) new_is ∙ (length-set now.wrote (link - 1) (2 * finish + 1) ∙ so_far.wide);
            all = λ m x from at e.
                elim (cases_eq m (link - 1)) [
                  | inl same ↦
                      written m
                      ∙ (ap (λ (k : ℕ). slice_index (set now.wrote (link - 1) (2 * finish + 1)) k) same ∙ get_or-set_same now.wrote (link - 1) (2 * finish + 1) 0 room)
                  | inr apart ↦
                      elim (cases_lt m (link - 1)) [
                        | inl less ↦ absurd (last.none_behind m x from less at e)
                        | inr past ↦ written m ∙ (get_or-set_other now.wrote (link - 1) m (2 * finish + 1) 0 apart ∙ so_far.all m x (omega (arith, past, apart, more)) at e)
                      ]
                ];
            others = λ m x at other.
                elim other [
                  | inl less ↦
                      let apart : m ≡ link - 1 → ⊥ = λ e. (let b = last.below in omega (arith, b, less, e)) in
                      written m ∙ (get_or-set_other now.wrote (link - 1) m (2 * finish + 1) 0 apart ∙ so_far.others m x at (inl (let b = last.below in omega (arith, b, less, more))))
                  | inr differs ↦
                      let apart : m ≡ link - 1 → ⊥ =
                      λ e. differs (ap (λ (z : Crossing). z.parent) (same_Some x one (sym at ∙ (ap (slice_get crossings) e ∙ at_one))) ∙ parent_is)
                      in
                      written m ∙ (get_or-set_other now.wrote (link - 1) m (2 * finish + 1) 0 apart ∙ so_far.others m x at (inr differs))
                ];
          };
        }

-- ---- running

module _ {C : Type 0} (stepped : C → Kind → ℕ → C × ℕ) (plan : Plan C) (table : TableId) where
  -- what a domain has done since it began to run
  pub record HasServedSo (first now : Post C) : Type 0 where
    pub can : IsPostSeated stepped plan table now
    pub same : now.domain.domain ≡ first.domain.domain
    pub grows : Grows first.domain.own now.domain.own
    pub published : HasPublishedSince stepped plan first now

  -- nothing was raised
  pub was_raised_not : (finish was is : ℕ) → is ≡ was → WasRaised finish was is
  was_raised_not finish was is e = record { upto = omega (arith, e); bound = inl e }

  -- nothing fired, and nothing written
  pub nothing_published : (old new : Post C) → new.domain.own.fired ≡ old.domain.own.fired → ((n : ℕ) → slice_index new.seat.wrote n ≡ slice_index old.seat.wrote n) → HasPublishedSince stepped plan old new
  nothing_published old new fired wrote = record {
    finishes = λ number finish x at un is f. absurd (false≢true (sym un ∙ (ap (λ (xs : List FiredEvent). is_fired xs x.parent) (sym fired) ∙ is)));
    raised = λ number x at un. was_raised_not (finish_in (woven stepped plan.graph.value plan.comps.value) x.parent) (slice_index old.seat.wrote number) (slice_index new.seat.wrote number) (wrote number);
    others = λ number x at other. wrote number;
  }

  still : (a b : DomainState) → Grows a b → (n : ℕ) → is_fired a.fired n ≡ true → is_fired b.fired n ≡ true
  still a b g n h = ap (λ (xs : List FiredEvent). is_fired xs n) g.fired ∙ fired_by_more a.fired g.rest n h

  unfired_before : (a b : DomainState) → Grows a b → (n : ℕ) → is_fired b.fired n ≡ false → is_fired a.fired n ≡ false
  unfired_before a b g n un = by_test (is_fired a.fired n) refl
    where
      by_test : (t : Bool) → is_fired a.fired n ≡ t → is_fired a.fired n ≡ false
      by_test false e = e
      by_test true e = absurd (false≢true (sym un ∙ still a b g n e))

  raised_twice : (finish a b c : ℕ) → WasRaised finish a b → WasRaised finish b c → WasRaised finish a c
  raised_twice finish a b c h k = record {
    upto = omega (arith, h.upto, k.upto);
    bound = elim k.bound [
      | inr q ↦ inr q
      | inl same ↦
          elim h.bound [
            | inl before ↦ inl (same ∙ before)
            | inr q ↦ inr (q.0, (same ∙ q.1.0, q.1.1))
          ]
    ];
  }

  pub published_twice : (first old new : Post C) → old.domain.domain ≡ first.domain.domain → Grows first.domain.own old.domain.own → Grows old.domain.own new.domain.own → HasPublishedSince stepped plan first old → HasPublishedSince stepped plan old new
      → HasPublishedSince stepped plan first new
  published_twice first old new domain g k h p = record {
    finishes = λ number finish x at un is f. finished number finish x at un is f (is_fired old.domain.own.fired x.parent) refl;
    raised = λ number x at un.
        raised_twice (finish_in (woven stepped plan.graph.value plan.comps.value) x.parent) (slice_index first.seat.wrote number) (slice_index old.seat.wrote number) (slice_index new.seat.wrote number)
        (h.raised number x at (unfired_before old.domain.own new.domain.own k x.parent un)) (p.raised number x at un);
    others = λ number x at other.
        elim other [
          | inl fired ↦ p.others number x at (inl (still first.domain.own old.domain.own g x.parent fired)) ∙ h.others number x at (inl fired)
          | inr away ↦ p.others number x at (inr (λ e. away (e ∙ domain))) ∙ h.others number x at (inr away)
        ];
  }
    where
      finished : (number finish : ℕ) (x : Crossing) → slice_get plan.parts.value.crossings number ≡ Some x → is_fired first.domain.own.fired x.parent ≡ false → is_fired new.domain.own.fired x.parent ≡ true → IsFinish stepped plan x.parent finish
          → (t : Bool) → is_fired old.domain.own.fired x.parent ≡ t → slice_index new.seat.wrote number ≡ kept_number (Exact finish)
      finished number finish x at un is f true e = p.others number x at (inl e) ∙ h.finishes number finish x at un e f
      finished number finish x at un is f false e = p.finishes number finish x at e is f

  pub not_served : (post : Post C) → IsPostSeated stepped plan table post → HasServedSo post post
  not_served post ok = record { can = ok; same = refl; grows = grows_nothing post.domain.own; published = nothing_published post post refl (λ n. refl) }

  pub served_by_firing : (first old new : Post C) → HasServedSo first old → HasFiredThere stepped plan table old new → HasServedSo first new
  served_by_firing first old new h f =
      let grows : Grows old.domain.own new.domain.own = record {
        rest = (record { event = f.fired.event; start = f.fired.start; finish = f.finish.finish }) ∷ [];
        fired = f.fired.fired;
        floor = f.fired.floor;
        words = same_words new.domain.own.known old.domain.own.known f.fired.known;
      } in
      record {
        can = f.can;
        same = f.fired.same ∙ h.same;
        grows = grows_twice first.domain.own old.domain.own new.domain.own h.grows grows;
        published = published_twice first old new h.same h.grows grows h.published f.published;
      }

  -- a domain that learned more
  pub served_by_learning : (first old new : Post C) → HasServedSo first old → HasLearned stepped plan table old new → HasServedSo first new
  served_by_learning first old new h l =
      let grows : Grows old.domain.own new.domain.own = grows_by_learning old.domain.own new.domain.own l.learns in
      record {
        can = l.can;
        same = l.same ∙ h.same;
        grows = grows_twice first.domain.own old.domain.own new.domain.own h.grows grows;
        published = published_twice first old new h.same h.grows grows h.published l.published;
      }

  -- first it raised words, and then it looked
  pub raised_and_looked : (old mid new : Post C) → HasRaised stepped plan table old mid → HasLearned stepped plan table mid new → HasLearned stepped plan table old new
  raised_and_looked old mid new h l = record {
    can = l.can;
    same = l.same ∙ ap (λ (v : DomainValue C). v.domain) h.domain_is;
    learns = subst (λ (v : DomainValue C). Learns v.own new.domain.own) h.domain_is l.learns;
    published = published_twice old mid new (ap (λ (v : DomainValue C). v.domain) h.domain_is) (subst (λ (v : DomainValue C). Grows old.domain.own v.own) (sym h.domain_is) (grows_nothing old.domain.own))
        (grows_by_learning mid.domain.own new.domain.own l.learns) h.published l.published;
  }

  -- a look
  learns_by_finding : (v w : DomainValue C) (number : ℕ) (word : Word) (more : Bool) → (more ≡ true → SaysAsMuch (word_at v.own.known number) word) → w ≡ after_finding v number word more → Learns v.own w.own
  learns_by_finding v w n word false says is = subst (λ (u : DomainValue C). Learns v.own u.own) (sym is) (learns_nothing v.own)
  learns_by_finding v w n word true says is =
      subst (λ (u : DomainValue C). Learns v.own u.own) (sym is) (record { fired = refl; floor = refl; words = word_told v.own n word (says refl) })

  same_by_finding : (v w : DomainValue C) (number : ℕ) (word : Word) (more : Bool) → w ≡ after_finding v number word more → w.domain ≡ v.domain
  same_by_finding v w n word false is = ap (λ (u : DomainValue C). u.domain) is
  same_by_finding v w n word true is = ap (λ (u : DomainValue C). u.domain) is

  pub learned_by_looking : (old new : Post C) (number bound : ℕ) (more : Bool) → (bound_upto : (word : Word) → says_more bound word ≡ true → SaysAsMuch (word_at old.domain.own.known number) word)
      → HasLooked stepped plan table old new number bound more → HasLearned stepped plan table old new
  learned_by_looking old new number bound more says l =
      let learns : Learns old.domain.own new.domain.own = learns_by_finding old.domain new.domain number l.word more (λ e. says l.word (sym l.answer ∙ e)) l.told in
      record {
        can = l.can;
        same = same_by_finding old.domain new.domain number l.word more l.told;
        learns = learns;
        published = nothing_published old new learns.fired (λ n. ap (λ (s : SeatValue). slice_index s.wrote n) l.found.new_is);
      }

pub blocked_is_no_fire : (number bound : ℕ) (key : Key) → ◌≡◌ {A = Next} (Blocked number bound) (Fire key) → ⊥
blocked_is_no_fire number bound key e = cc

pub done_is_no_fire : (key : Key) → ◌≡◌ {A = Next} Done (Fire key) → ⊥
done_is_no_fire key e = cc

module _ {C : Type 0} (serves : C → Kind → Bool) (floor : C → Kind → ℕ) (stepped : C → Kind → ℕ → C × ℕ) (greatest : C → Kind → ℕ → ℕ) (laws : KeepingLaws serves floor stepped greatest)
    (plan : Plan C) (can : CanWeavePlan serves floor stepped greatest plan) (table : TableId) where
  abbrev events : List Event
  events = plan.graph.value

  abbrev partition : Partition
  partition = plan.parts.value

  -- ---- looking

  -- what says more than a blocked domain knows says as much
  pub says_as_much : (own : DomainState) (domain number bound : ℕ) → IsBlockedBy events partition domain own number bound → (word : Word) → says_more bound word ≡ true → SaysAsMuch (word_at own.known number) word
  says_as_much own domain number bound b (Exact f) more = finish_says (word_at own.known number) f
  says_as_much own domain number bound b (Bound found) more = by_word (word_at own.known number) refl
    where
      open_word : is_exact (word_at own.known number) ≡ false
      open_word = not_true (is_exact (word_at own.known number)) (right_of (eqb b.crossing.target domain) (not (is_exact (word_at own.known number))) b.is_least.unresolved)

      below : bound < found
      below = grind (arith, nat_tests)

      by_word : (w : Word) → word_at own.known number ≡ w → SaysAsMuch (word_at own.known number) (Bound found)
      by_word (Exact g) e = absurd (false≢true (sym open_word ∙ ap is_exact e))
      by_word (Bound a) e =
          bound_says (word_at own.known number) a found e
          (let is : bound ≡ max (cycle_of (word_at own.known number)) (own.floor + latency_at events b.crossing.parent) = b.bound_is in let c = ap cycle_of e in omega (arith, is, c, below))

  module _ (old : Post C) (ok : IsPostSeated stepped plan table old) (number bound : ℕ) (b : IsBlockedBy events partition old.domain.domain old.domain.own number bound)
      (seat : SeatValue) (word : Word) (looked : Looked old.seat seat number word) where
    at : slice_get partition.crossings number ≡ Some b.crossing
    at = b.is_least.there

    target : b.crossing.target ≡ old.domain.domain
    target = eq_is b.crossing.target old.domain.domain (left_of (eqb b.crossing.target old.domain.domain) (not (is_exact (word_at old.domain.own.known number))) b.is_least.unresolved)

    finish_known : slice_index old.seat.finishes number ≡ finish_in (woven stepped events plan.comps.value) b.crossing.parent
    finish_known = ap (λ (xs : List ℕ). slice_index xs number) ok.seated.seat.finishes_are ∙ finish_at stepped plan number b.crossing at

    sound_found : (w : Word) → IsTrueOfFinish (slice_index old.seat.finishes number) w → IsSoundWord (woven stepped events plan.comps.value) b.crossing w
    sound_found (Bound c) l = omega (arith, l, finish_known)
    sound_found (Exact f) e = e ∙ finish_known

    true_found : says_more bound word ≡ true → IsTrueWordOf stepped events partition plan.comps.value old.domain.domain old.domain.own number word
    true_found more = record {
      crossing = b.crossing;
      there = at;
      target = target;
      sound = sound_found word looked.is_true;
      says = says_as_much old.domain.own old.domain.domain number bound b word more;
    }

    pub may_tell_found : says_more bound word ≡ true → MayTell old.domain.events old.domain.partition old.domain.domain old.domain.own number word
    may_tell_found more =
        subst (λ (v : DomainValue C). MayTell v.events v.partition v.domain v.own number word) (sym ok.kept.is)
        (laws.may_tell events partition plan.comps.value can old.domain.domain old.domain.own old.domain.comps number word ok.kept.keeps (true_found more))

    same_seat : IsSeatOfPlan stepped plan table old.domain.domain seat
    same_seat = record {
      crossings_are = ap (λ (s : SeatValue). s.crossings) looked.new_is ∙ ok.seated.seat.crossings_are;
      domain_is = ap (λ (s : SeatValue). s.domain) looked.new_is ∙ ok.seated.seat.domain_is;
      finishes_are = ap (λ (s : SeatValue). s.finishes) looked.new_is ∙ ok.seated.seat.finishes_are;
      sources_are = ap (λ (s : SeatValue). s.sources) looked.new_is ∙ ok.seated.seat.sources_are;
      wide = ap (λ (s : SeatValue). length s.wrote) looked.new_is ∙ (ok.seated.seat.wide ∙ sym (ap (λ (s : SeatValue). length s.sources) looked.new_is));
    }

    noted_there : (n : ℕ) → ((n ≡ number) × (slice_index seat.noted n ≡ kept_number word)) ⊎ (slice_index seat.noted n ≡ slice_index old.seat.noted n)
    noted_there n =
        let is : slice_index seat.noted n ≡ slice_index (set old.seat.noted number (kept_number word)) n = ap (λ (s : SeatValue). slice_index s.noted n) looked.new_is in
        elim (read_set old.seat.noted number (kept_number word) 0 n) [ inl a ↦ inl (a.0, is ∙ a.1) | inr o ↦ inr (is ∙ o) ]

    -- a domain that knows more, and the finish where the word says it
    still_informed : (w : DomainValue C) → Learns old.domain.own w.own → (kept_number word % 2 ≡ 1 → is_exact (word_at w.own.known number) ≡ true) → IsInformed w seat
    still_informed w learns told n odd =
        elim (noted_there n) [
          | inl here ↦ subst (λ (m : ℕ). is_exact (word_at w.own.known m) ≡ true) (sym here.0) (told (ap (λ (k : ℕ). k % 2) (sym here.1) ∙ odd))
          | inr other ↦ stays_exact old.domain.own w.own n (learns.words n) (ok.seated.informed n (ap (λ (k : ℕ). k % 2) (sym other) ∙ odd))
        ]

    wrote_same : (n : ℕ) → slice_index seat.wrote n ≡ slice_index old.seat.wrote n
    wrote_same n = ap (λ (s : SeatValue). slice_index s.wrote n) looked.new_is

    odd_is_exact : (w : Word) → kept_number w % 2 ≡ 1 → is_exact w ≡ true
    odd_is_exact (Exact f) h = refl
    odd_is_exact (Bound c) h = absurd (omega (arith, h))

    pub has_looked : (w : DomainValue C) → says_more bound word ≡ true → w ≡ record old.domain { own = with_known old.domain.own number word }
        → HasLooked stepped plan table old (record { number = old.number; domain = w; seat = seat }) number bound true
    has_looked w more is =
        let told : DomainValue C = record old.domain { own = with_known old.domain.own number word } in
        let wide : number < length old.domain.own.known = (let l = slice_get_within partition.crossings number b.crossing at in let k = ok.kept.keeps.wide in omega (arith, l, k)) in
        subst (λ (v : DomainValue C). HasLooked stepped plan table old (record { number = old.number; domain = v; seat = seat }) number bound true) (sym is)
        (record {
          can = record {
            kept = record {
              is = same_value told events partition old.domain.domain (ap (λ (v : DomainValue C). v.events) ok.kept.is) (ap (λ (v : DomainValue C). v.partition) ok.kept.is) refl;
              keeps = laws.tells events partition plan.comps.value can old.domain.domain old.domain.own old.domain.comps number word ok.kept.keeps (true_found more);
            };
            seated = record {
              seat = same_seat;
              unpublished = λ n y there source unfired. ap (λ (k : ℕ). k % 2) (wrote_same n) ∙ ok.seated.unpublished n y there source unfired;
              informed = still_informed told (record { fired = refl; floor = refl; words = word_told old.domain.own number word (says_as_much old.domain.own old.domain.domain number bound b word more) })
                  (λ odd. ap is_exact (get_or-set_same old.domain.own.known number word (Bound 0) wide) ∙ odd_is_exact word odd);
            };
          };
          word = word;
          found = looked;
          told = refl;
          answer = sym more;
        })

    pub has_looked_in_vain : says_more bound word ≡ false → HasLooked stepped plan table old (record { number = old.number; domain = old.domain; seat = seat }) number bound false
    has_looked_in_vain less = record {
      can = record {
        kept = ok.kept;
        seated = record {
          seat = same_seat;
          unpublished = λ n y there source unfired. ap (λ (k : ℕ). k % 2) (wrote_same n) ∙ ok.seated.unpublished n y there source unfired;
          informed = still_informed old.domain (learns_nothing old.domain.own) (λ odd. absurd (false≢true (sym less ∙ exact_more word (odd_is_exact word odd))));
        };
      };
      word = word;
      found = looked;
      told = refl;
      answer = sym less;
    }
      where
        exact_more : (w : Word) → is_exact w ≡ true → says_more bound w ≡ true
        exact_more (Exact f) e = refl
        exact_more (Bound c) e = absurd (false≢true e)

  -- ---- firing

  module _ (old : Post C) (ok : IsPostSeated stepped plan table old) (v : DomainValue C) (result : Fired) (f : HasFiredNext stepped plan old.domain v result) where
    ready : IsReadyEvent stepped events partition plan.comps.value old.domain.domain old.domain.own f.event f.start
    ready = laws.ready events partition plan.comps.value can old.domain.domain old.domain.own old.domain.comps f.event f.start ok.kept.keeps f.next

    from_here : (number : ℕ) (x : Crossing) → slice_get partition.crossings number ≡ Some x → x.parent ≡ result.number → x.source ≡ old.domain.domain
    from_here number x at parent =
        let b : JoinsDomains stepped events partition plan.comps.value x = laws.crossings events partition plan.comps.value can number x at in
        let one : b.parent ≡ f.event = same_Some b.parent f.event (sym b.there ∙ (ap (slice_get events) (parent ∙ f.number) ∙ ready.there)) in
        sym b.source ∙ (ap (domain_of_event partition.places) one ∙ ready.here)

    unfired : is_fired old.domain.own.fired result.number ≡ false
    unfired = ap (is_fired old.domain.own.fired) f.number ∙ ready.unfired

    pub event_below : result.number < length events
    event_below = let w = slice_get_within events f.event.number f.event ready.there in let n = f.number in omega (arith, w, n)

    pub small_finish : result.finish ≤ 2 ^ 62
    small_finish = let s = laws.finishes events partition plan.comps.value can result.number in let e = f.finish in omega (arith, s, e)

    pub may_publish : MayPublish plan old.seat result.number
    may_publish = record {
      own = λ number x at parent. from_here number x at parent ∙ sym ok.seated.seat.domain_is;
      unpublished = λ number x at parent. ok.seated.unpublished number x at (from_here number x at parent) (ap (is_fired old.domain.own.fired) parent ∙ unfired);
    }

    pub own_seat : IsSeatOfPlan stepped plan table old.seat.domain old.seat
    own_seat = record { crossings_are = ok.seated.seat.crossings_are; domain_is = refl; finishes_are = ok.seated.seat.finishes_are; sources_are = ok.seated.seat.sources_are; wide = ok.seated.seat.wide }

    now_fired : (n : ℕ) → is_fired v.own.fired n ≡ false → is_fired old.domain.own.fired n ≡ false
    now_fired n un = by_test (is_fired old.domain.own.fired n) refl
      where
        by_test : (t : Bool) → is_fired old.domain.own.fired n ≡ t → is_fired old.domain.own.fired n ≡ false
        by_test false e = e
        by_test true e = absurd (false≢true (sym un ∙ (ap (λ (xs : List FiredEvent). is_fired xs n) f.fired ∙ fired_by_more old.domain.own.fired _ n e)))

    fires_other : (n : ℕ) → (n ≡ result.number → ⊥) → is_fired v.own.fired n ≡ is_fired old.domain.own.fired n
    fires_other n differs =
        ap (λ (xs : List FiredEvent). is_fired xs n) f.fired ∙ fired_no_other old.domain.own.fired (record { event = f.event; start = f.start; finish = result.finish }) n (λ e. differs (sym e ∙ sym f.number))

    pub fired_there : (s : SeatValue) → HasPublished plan old.seat s result.number result.finish → HasFiredThere stepped plan table old (record { number = old.number; domain = v; seat = s })
    fired_there s p = record {
      can = record {
        kept = f.kept;
        seated = record {
          seat = record {
            crossings_are = p.crossings_are ∙ ok.seated.seat.crossings_are;
            domain_is = p.domain_is ∙ (ok.seated.seat.domain_is ∙ sym f.same);
            finishes_are = p.finishes_are ∙ ok.seated.seat.finishes_are;
            sources_are = p.sources_are ∙ ok.seated.seat.sources_are;
            wide = p.wide ∙ (ok.seated.seat.wide ∙ sym (ap length p.sources_are));
          };
          informed = λ n odd.
              ap (λ (ws : List Word). is_exact (word_at ws n)) f.known ∙ ok.seated.informed n (ap (λ (ks : List ℕ). slice_index ks n % 2) (sym p.noted_are) ∙ odd);
          unpublished = λ n x at source un.
              let differs : x.parent ≡ result.number → ⊥ =
              λ e. false≢true
              (sym un ∙ (ap (λ (xs : List FiredEvent). is_fired xs x.parent) f.fired ∙ fired_last old.domain.own.fired (record { event = f.event; start = f.start; finish = result.finish }) x.parent (sym (e ∙ f.number))))
              in
              ap (λ (k : ℕ). k % 2) (p.others n x at differs) ∙ ok.seated.unpublished n x at (source ∙ f.same) (now_fired x.parent un);
        };
      };
      finish = result;
      fired = f;
      published = record {
        finishes = λ n finish x at un is has.
            elim (cases_eq x.parent result.number) [
              | inl same ↦ p.all n x at same ∙ ap (λ (k : ℕ). kept_number (Exact k)) (f.finish ∙ (ap (finish_in (woven stepped events plan.comps.value)) (sym same) ∙ sym has))
              | inr differs ↦ absurd (false≢true (sym un ∙ (sym (fires_other x.parent differs) ∙ is)))
            ];
        raised = λ n x at un.
            was_raised_not stepped plan table (finish_in (woven stepped events plan.comps.value) x.parent) (slice_index old.seat.wrote n) (slice_index s.wrote n)
            (p.others n x at
            (λ e. false≢true
            (sym un ∙ (ap (λ (xs : List FiredEvent). is_fired xs x.parent) f.fired ∙ fired_last old.domain.own.fired (record { event = f.event; start = f.start; finish = result.finish }) x.parent (sym (e ∙ f.number))))));
        others = λ n x at other.
            p.others n x at
            (λ here. elim other [
              | inl fired ↦ absurd (false≢true (sym (ap (is_fired old.domain.own.fired) here ∙ unfired) ∙ fired))
              | inr away ↦ absurd (away (from_here n x at here))
            ]);
      };
    }

  -- ---- running

  -- that it has gone on stays so
  pub gone_on_still : (v : DomainValue C) (a b : DomainState) → HasGoneOn events partition v.domain v.own a → Grows a b → HasGoneOn events partition v.domain v.own b
  gone_on_still v a b h g e start next clear = ap (λ (xs : List FiredEvent). is_fired xs e.number) g.fired ∙ fired_by_more a.fired g.rest e.number (h e start next clear)

  -- where it didn't fire, it has gone on at its first step, since it may not fire
  pub gone_on_looking : (first old new : Post C) (step : ℕ) (answer : Next) → HasServedSo stepped plan table first old → (step ≡ 0 → old.domain ≡ first.domain) → (0 < step → HasGoneOn events partition first.domain.domain first.domain.own old.domain.own)
      → IsAnswer old.domain.events old.domain.partition old.domain.domain old.domain.own answer → ((key : Key) → answer ≡ Fire key → ⊥) → Grows old.domain.own new.domain.own
      → HasGoneOn events partition first.domain.domain first.domain.own new.domain.own
  gone_on_looking first old new step answer h fresh goes is not_fire grows =
      elim (cases_lt 0 step) [
        | inl some ↦ gone_on_still first.domain old.domain.own new.domain.own (goes some) grows
        | inr none ↦
            subst (λ (v : DomainValue C). HasGoneOn events partition v.domain v.own new.domain.own) (fresh (omega (arith, none)))
            (goes_nowhere serves floor stepped greatest laws plan can old.domain answer new.domain.own h.can.kept
            (subst (λ (v : DomainValue C). IsAnswer v.events v.partition v.domain v.own answer) h.can.kept.is is) not_fire)
      ]

  -- after so many steps
  pub record HasStepped (first : Post C) (step : ℕ) (now : Post C) : Type 0 where
    pub so_far : HasServedSo stepped plan table first now
    pub fresh : step ≡ 0 → now.domain ≡ first.domain
    pub goes : 0 < step → HasGoneOn events partition first.domain.domain first.domain.own now.domain.own

  pub stepped_by_firing : (first old new : Post C) (step : ℕ) → HasStepped first step old → HasFiredThere stepped plan table old new → HasStepped first (step + 1) new
  stepped_by_firing first old new step h f = record {
    so_far = served_by_firing stepped plan table first old new h.so_far f;
    fresh = λ e. absurd (omega (arith, e));
    goes = λ l. goes_after serves floor stepped greatest laws plan can first.domain old.domain new.domain f.finish step h.fresh h.goes f.fired;
  }

  pub stepped_by_learning : (first old new : Post C) (step : ℕ) (answer : Next) → HasStepped first step old → IsAnswer old.domain.events old.domain.partition old.domain.domain old.domain.own answer → ((key : Key) → answer ≡ Fire key → ⊥)
      → HasLearned stepped plan table old new → HasStepped first (step + 1) new
  stepped_by_learning first old new step answer h is not_fire l = record {
    so_far = served_by_learning stepped plan table first old new h.so_far l;
    fresh = λ e. absurd (omega (arith, e));
    goes = λ some. gone_on_looking first old new step answer h.so_far h.fresh h.goes is not_fire (grows_by_learning old.domain.own new.domain.own l.learns);
  }

  -- the domain is blocked by what it answers
  pub blocked_by : (post : Post C) → IsPostSeated stepped plan table post → (answer : Next) (n bound : ℕ) → answer ≡ Blocked n bound
      → IsAnswer post.domain.events post.domain.partition post.domain.domain post.domain.own answer → IsBlockedBy events partition post.domain.domain post.domain.own n bound
  blocked_by post ok answer n bound e is =
      subst (λ (a : Next). IsAnswer events partition post.domain.domain post.domain.own a) e
      (subst (λ (v : DomainValue C). IsAnswer v.events v.partition v.domain v.own answer) ok.kept.is is)

  pub has_served : (first now : Post C) → HasServedSo stepped plan table first now → HasGoneOn events partition first.domain.domain first.domain.own now.domain.own → HasServed stepped plan table first now
  has_served first now h goes = record { ran = record { same = h.same; kept = h.can.kept; grows = h.grows; goes_on = goes }; seated = h.can.seated; published = h.published }
