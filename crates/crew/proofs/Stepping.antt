-- Each step at a post keeps its rule.
use Rattle.std.proofs.Common.{◌≡◌, ◌<◌, ◌⊎◌, ℕ, zero, suc, List, [], ◌∷◌, ◌++◌, length, replicate, get_or, set, sym, ◌∙◌, ap, subst, refl, inl, inr, arith, length-set, eqb, Option, Some, None}
use mathlib.Core.Option.{none, some, some-injective, some-ne-none}
use lib.ListN.{get_elem?}
use prog.Atomic.{either}
use Rattle.std.proofs.lemmas.Bool.{cases_eq}
use Rattle.std.proofs.lemmas.List.{get_or-set_same, get_or-set_other}
use Rattle.atomic_table.specs.Table.{Act, Allows, Splits, Me, State, Valid, carried_after, gives, homes_after, keeps, opening, step, stepped, takes}
use Rattle.atomic_table.proofs.Lists.{exchanged, set_again}
use Rattle.crew.specs.declared.view.Stage.{Stage}
use Rattle.crew.specs.declared.view.Stage.TheVariants.{Free, Busy, Ended}
use Rattle.crew.specs.declared.view.View.{View}
use Rattle.crew.specs.declared.view.View.TheVariants.{Begun, Alone, Asks, Works}
use Rattle.crew.specs.Rule.{Fits, Home, IsAlone, IsBegun, IsManned, IsPost, LiesAnswered, LiesSent}
use Rattle.crew.specs.Steps.{answered, asks_on, began, collected, ended, nothing, picked, sent, taken_back, works}

-- lists

at_one : {A : Type 0} (a b : A) (id : ℕ) → get_elem? (a ∷ []) id ≡ some b → (id ≡ 0) × (a ≡ b)
at_one a b zero e = (refl, some-injective a b e)
at_one a b (suc id) e = absurd (some-ne-none b (sym e))

at_two : {A : Type 0} (a b c : A) (id : ℕ) → get_elem? (a ∷ b ∷ []) id ≡ some c → ((id ≡ 0) × (a ≡ c)) ⊎ ((id ≡ 1) × (b ≡ c))
at_two a b c zero e = inl (refl, some-injective a c e)
at_two a b c (suc zero) e = inr (refl, some-injective b c e)
at_two a b c (suc (suc id)) e = absurd (some-ne-none c (sym e))

module _ {J : Type 0} where
  asks_is : (a b : Stage J) → Asks a ≡ Asks b → a ≡ b
  asks_is a b e = cc

  works_is : (a b : Stage J) → Works a ≡ Works b → a ≡ b
  works_is a b e = cc

  same_hand : (job other : J) → ◌≡◌ {A = List (ℕ × Option J)} ((0, Some job) ∷ []) ((0, Some other) ∷ []) → job ≡ other
  same_hand job other e =
      let first : ℕ × Option J = (0, Some job) in
      let second : ℕ × Option J = (0, Some other) in
      let pairs : first ≡ second = cc in
      let values : Some job ≡ Some other = ap (λ (z : ℕ × Option J). z.1) pairs in
      cc

  same_job : (job other : J) → Asks (Busy job) ≡ Asks (Busy other) → job ≡ other
  same_job job other e = cc

  apart : {X : Type 0} (a b : Stage J) → Works a ≡ Asks b → X
  apart a b e = absurd (cc)

module _ {J : Type 0} (can : J → Type 0) (done : J → J → Type 0) where
  Post : State (Option J) (View J) → Type 0
  Post = IsPost can done

  -- where the asker is so far
  record IsAskerAt (s : State (Option J) (View J)) (id : ℕ) (stage : Stage J) : Type 0 where
    wide : length s.words ≡ 32
    place : id ≡ 0
    worker : Stage J
    home : Home J
    views : s.views ≡ Asks stage ∷ Works worker ∷ []
    homes : s.homes ≡ home ∷ []
    fits : Fits can done (get_or s.words 16 0) home stage worker

  -- where the worker is so far
  record IsWorkerAt (s : State (Option J) (View J)) (id : ℕ) (stage : Stage J) : Type 0 where
    wide : length s.words ≡ 32
    place : id ≡ 1
    asker : Stage J
    home : Home J
    views : s.views ≡ Asks asker ∷ Works stage ∷ []
    homes : s.homes ≡ home ∷ []
    fits : Fits can done (get_or s.words 16 0) home asker stage

  asker_at : (s : State (Option J) (View J)) (id : ℕ) (stage : Stage J) → IsPost can done s → get_elem? s.views id ≡ some (Asks stage) → IsAskerAt s id stage
  asker_at s id stage r at =
      elim r.manned [
        | inl begun ↦ absurd (let e = (at_one Begun (Asks stage) id (subst (λ (vs : List (View J)). get_elem? vs id ≡ some (Asks stage)) begun.views at)).1 in cc)
        | inr (inl alone) ↦ absurd (let e = (at_one Alone (Asks stage) id (subst (λ (vs : List (View J)). get_elem? vs id ≡ some (Asks stage)) alone.views at)).1 in cc)
        | inr (inr m) ↦
            elim (at_two (Asks m.asker) (Works m.worker) (Asks stage) id (subst (λ (vs : List (View J)). get_elem? vs id ≡ some (Asks stage)) m.views at)) [
              | inl here ↦
                  let same : m.asker ≡ stage = asks_is m.asker stage here.1 in record {
                    wide = r.words;
                    place = here.0;
                    worker = m.worker;
                    home = m.home;
                    views = subst (λ (a : Stage J). s.views ≡ Asks a ∷ Works m.worker ∷ []) same m.views;
                    homes = m.homes;
                    fits = subst (λ (a : Stage J). Fits can done (get_or s.words 16 0) m.home a m.worker) same m.fits;
                  }
              | inr there ↦ apart m.worker stage there.1
            ]
      ]

  worker_at : (s : State (Option J) (View J)) (id : ℕ) (stage : Stage J) → IsPost can done s → get_elem? s.views id ≡ some (Works stage) → IsWorkerAt s id stage
  worker_at s id stage r at =
      elim r.manned [
        | inl begun ↦ absurd (let e = (at_one Begun (Works stage) id (subst (λ (vs : List (View J)). get_elem? vs id ≡ some (Works stage)) begun.views at)).1 in cc)
        | inr (inl alone) ↦ absurd (let e = (at_one Alone (Works stage) id (subst (λ (vs : List (View J)). get_elem? vs id ≡ some (Works stage)) alone.views at)).1 in cc)
        | inr (inr m) ↦
            elim (at_two (Asks m.asker) (Works m.worker) (Works stage) id (subst (λ (vs : List (View J)). get_elem? vs id ≡ some (Works stage)) m.views at)) [
              | inl here ↦ apart stage m.asker (sym here.1)
              | inr there ↦
                  let same : m.worker ≡ stage = works_is m.worker stage there.1 in record {
                    wide = r.words;
                    place = there.0;
                    asker = m.asker;
                    home = m.home;
                    views = subst (λ (w : Stage J). s.views ≡ Asks m.asker ∷ Works w ∷ []) same m.views;
                    homes = m.homes;
                    fits = subst (λ (w : Stage J). Fits can done (get_or s.words 16 0) m.home m.asker w) same m.fits;
                  }
            ]
      ]

  word_after : (words : List ℕ) (n : ℕ) → length words ≡ 32 → get_or (set words 16 n) 16 0 ≡ n
  word_after words n wide = get_or-set_same words 16 n 0 (omega arith)

  -- the asker's step leaves it at this stage, the slot with this and the word at this number
  asker_moves : (s : State (Option J) (View J)) (id : ℕ) (stage : Stage J) (at : IsAskerAt s id stage) (n : ℕ) (c : List (ℕ × Option J)) (a : Act (Option J)) (to : Stage J) (home : Home J)
      → homes_after (at.home ∷ []) c a ≡ home ∷ [] → Fits can done n home to at.worker → IsPost can done (stepped s 16 n id c (Asks to) a)
  asker_moves s id stage at n c a to home goes fits = record {
    words = length-set s.words 16 n ∙ at.wide;
    manned = inr (inr (record {
      asker = to;
      worker = at.worker;
      home = home;
      views = ap (λ (z : List (View J) × ℕ). set z.0 z.1 (Asks to)) (λ i. (at.views i, at.place i));
      homes = ap (λ (hs : List (Home J)). homes_after hs c a) at.homes ∙ goes;
      fits = subst (λ (k : ℕ). Fits can done k home to at.worker) (sym (word_after s.words n at.wide)) fits;
    }));
  }

  worker_moves : (s : State (Option J) (View J)) (id : ℕ) (stage : Stage J) (at : IsWorkerAt s id stage) (n : ℕ) (c : List (ℕ × Option J)) (a : Act (Option J)) (to : Stage J) (home : Home J)
      → homes_after (at.home ∷ []) c a ≡ home ∷ [] → Fits can done n home at.asker to → IsPost can done (stepped s 16 n id c (Works to) a)
  worker_moves s id stage at n c a to home goes fits = record {
    words = length-set s.words 16 n ∙ at.wide;
    manned = inr (inr (record {
      asker = at.asker;
      worker = to;
      home = home;
      views = ap (λ (z : List (View J) × ℕ). set z.0 z.1 (Works to)) (λ i. (at.views i, at.place i));
      homes = ap (λ (hs : List (Home J)). homes_after hs c a) at.homes ∙ goes;
      fits = subst (λ (k : ℕ). Fits can done k home at.asker to) (sym (word_after s.words n at.wide)) fits;
    }));
  }

  -- What a step finds by how far the two are.

  sent_there : (n : ℕ) (home : Home J) (a : Stage J) → Fits can done n home a Free → n ≡ 1 → (job : J) × (a ≡ Busy job) × LiesSent can done n home job
  sent_there n home Free h one = absurd (let z = h.0 in omega arith)
  sent_there n home (Busy job) (inl lies) one = (job, refl, lies)
  sent_there n home (Busy job) (inr lies) one = absurd (let w = lies.word in omega arith)
  sent_there n home Ended h one = absurd (let z = h.0 in omega arith)

  untouched : (n : ℕ) (home : Home J) (job : J) (w : Stage J) → Fits can done n home (Busy job) w → n ≡ 1 → LiesSent can done n home job × (w ≡ Free)
  untouched n home job Free (inl lies) one = (lies, refl)
  untouched n home job Free (inr lies) one = absurd (let w = lies.word in omega arith)
  untouched n home job (Busy had) h one = absurd (let z = h.0 in omega arith)
  untouched n home job Ended h one = absurd h

  answer_there : (n : ℕ) (home : Home J) (job : J) (w : Stage J) → Fits can done n home (Busy job) w → n ≡ 3 → LiesAnswered can done n home job × (w ≡ Free)
  answer_there n home job Free (inl lies) three = absurd (let w = lies.word in omega arith)
  answer_there n home job Free (inr lies) three = (lies, refl)
  answer_there n home job (Busy had) h three = absurd (let z = h.0 in omega arith)
  answer_there n home job Ended h three = absurd h

  fits_end : (n : ℕ) (home : Home J) (w : Stage J) → Fits can done n home Free w → Fits can done 4 home Ended w
  fits_end n home Free h = (refl, h.1)
  fits_end n home (Busy had) h = absurd h
  fits_end n home Ended h = absurd h

  fits_told : (n : ℕ) (home : Home J) (a : Stage J) → Fits can done n home a Free → n ≡ 4 → Fits can done n home a Ended
  fits_told n home Free h four = absurd (let z = h.0 in omega arith)
  fits_told n home (Busy job) (inl lies) four = absurd (let w = lies.word in omega arith)
  fits_told n home (Busy job) (inr lies) four = absurd (let w = lies.word in omega arith)
  fits_told n home Ended h four = h

  fits_sent : (n : ℕ) (home : Home J) (w : Stage J) (job : J) → can job → Fits can done n home Free w → Fits can done 1 (some (Some job)) (Busy job) w
  fits_sent n home Free job may h = inl (record { word = refl; there = refl; may = may })
  fits_sent n home (Busy had) job may h = absurd h
  fits_sent n home Ended job may h = absurd h

  fits_answered : (n : ℕ) (home : Home J) (a : Stage J) (had job : J) → done had job → Fits can done n home a (Busy had) → Fits can done 3 (some (Some job)) a Free
  fits_answered n home Free had job is h = absurd h
  fits_answered n home (Busy sent) had job is h = inr (record { word = refl; answer = job; there = refl; is_done = subst (λ (x : J). done x job) h.2 is })
  fits_answered n home Ended had job is h = absurd h

  -- the value of the slot where it is at home
  lies_in : (s : State (Option J) (View J)) (home : Home J) (job : J) → s.homes ≡ home ∷ [] → home ≡ some (Some job) → get_elem? s.homes 0 ≡ some (some (Some job))
  lies_in s home job homes there = ap (λ (hs : List (Home J)). get_elem? hs 0) homes ∙ ap (λ (h : Home J). some h) there

  -- The steps as the calls ask for them.

  pub sends : (slots id : ℕ) (job : J) → can job
      → Allows (IsPost can done) slots id (Asks Free, (0, Some job) ∷ []) 16 (λ _. 1) (λ _. sent (step slots 16 1 0 none) (Asks Free, (0, Some job) ∷ []) 1)
  sends slots id job may s r sized there small =
      let at = asker_at s id Free r there in (
        Asks (Busy job),
        gives,
        tt,
        asker_moves s id Free at 1 ((0, Some job) ∷ []) gives (Busy job) (some (Some job)) refl (fits_sent _ at.home at.worker job may at.fits),
        λ other e. ap (λ (x : J). (Asks (Busy x), [])) (same_hand job other e),
      )

  pub picks : (slots id : ℕ) → Allows (IsPost can done) slots id (Works Free, []) 16 (λ n. either (eqb n 1) 2 n) (picked can (step slots 16 1 2 none) (Works Free, []))
  picks slots id s r sized there small =
      let at = worker_at s id Free r there in
      let n : ℕ = get_or s.words 16 0 in
      let Goes : ℕ → Type 0 = λ k.
      (w : View J) × (a : Act (Option J)) × Valid s.homes [] a × IsPost can done (stepped s 16 k id [] w a) × picked can (step slots 16 1 2 none) (Works Free, []) n (w, carried_after [] a)
      in
      exchanged n 1 2 Goes
      (λ one.
      let lies = sent_there n at.home at.asker at.fits one in (
        Works (Busy lies.0),
        takes 0 (Some lies.0),
        lies_in s at.home lies.0 at.homes lies.2.there,
        worker_moves s id Free at 2 [] (takes 0 (Some lies.0)) (Busy lies.0) none refl (subst (λ (a : Stage J). Fits can done 2 none a (Busy lies.0)) (sym lies.1) (refl, refl, refl)),
        ((λ e. (lies.0, refl, lies.2.may)), (λ four. absurd (omega (arith, one, four))), λ other. absurd (other one)),
      ))
      (λ other.
      elim (cases_eq n 4) [
        | inl four ↦ (
          Works Ended,
          keeps,
          tt,
          worker_moves s id Free at n [] keeps Ended at.home refl (fits_told n at.home at.asker at.fits four),
          ((λ one. absurd (other one)), (λ e. refl), λ not_one not_four. absurd (not_four four)),
        )
        | inr not_four ↦ (Works Free, keeps, tt, worker_moves s id Free at n [] keeps Free at.home refl at.fits, ((λ one. absurd (other one)), (λ four. absurd (not_four four)), λ a b. refl))
      ])

  pub answers : (slots id : ℕ) (had job : J) → done had job
      → Allows (IsPost can done) slots id (Works (Busy had), (0, Some job) ∷ []) 16 (λ _. 3) (λ _. answered (step slots 16 3 0 none) (Works (Busy had), (0, Some job) ∷ []) 3)
  answers slots id had job is s r sized there small =
      let at = worker_at s id (Busy had) r there in (
        Works Free,
        gives,
        tt,
        worker_moves s id (Busy had) at 3 ((0, Some job) ∷ []) gives Free (some (Some job)) refl (fits_answered _ at.home at.asker had job is at.fits),
        refl,
      )

  pub collects : (slots id : ℕ) (job : J) → Allows (IsPost can done) slots id (Asks (Busy job), []) 16 (λ n. either (eqb n 3) 0 n) (collected done (step slots 16 3 0 none) (Asks (Busy job), []))
  collects slots id job s r sized there small =
      let at = asker_at s id (Busy job) r there in
      let n : ℕ = get_or s.words 16 0 in
      let Goes : ℕ → Type 0 = λ k.
      (w : View J) × (a : Act (Option J)) × Valid s.homes [] a × IsPost can done (stepped s 16 k id [] w a) × collected done (step slots 16 3 0 none) (Asks (Busy job), []) n (w, carried_after [] a)
      in
      exchanged n 3 0 Goes
      (λ three.
      let lies = answer_there n at.home job at.worker at.fits three in (
        Asks Free,
        takes 0 (Some lies.0.answer),
        lies_in s at.home lies.0.answer at.homes lies.0.there,
        asker_moves s id (Busy job) at 0 [] (takes 0 (Some lies.0.answer)) Free none refl (subst (λ (w : Stage J). Fits can done 0 none Free w) (sym lies.1) (refl, refl)),
        ((λ e job' is. (lies.0.answer, refl, subst (λ (x : J). done x lies.0.answer) (same_job job job' is) lies.0.is_done)), λ other. absurd (other three)),
      ))
      (λ other. (Asks (Busy job), keeps, tt, asker_moves s id (Busy job) at n [] keeps (Busy job) at.home refl at.fits, ((λ three. absurd (other three)), λ e. refl)))

  pub takes_back : (slots id : ℕ) (job : J) → Allows (IsPost can done) slots id (Asks (Busy job), []) 16 (λ n. either (eqb n 1) 0 n) (taken_back can (step slots 16 1 0 none) (Asks (Busy job), []))
  takes_back slots id job s r sized there small =
      let at = asker_at s id (Busy job) r there in
      let n : ℕ = get_or s.words 16 0 in
      let Goes : ℕ → Type 0 = λ k.
      (w : View J) × (a : Act (Option J)) × Valid s.homes [] a × IsPost can done (stepped s 16 k id [] w a) × taken_back can (step slots 16 1 0 none) (Asks (Busy job), []) n (w, carried_after [] a)
      in
      exchanged n 1 0 Goes
      (λ one.
      let lies = untouched n at.home job at.worker at.fits one in (
        Asks Free,
        takes 0 (Some job),
        lies_in s at.home job at.homes lies.0.there,
        asker_moves s id (Busy job) at 0 [] (takes 0 (Some job)) Free none refl (subst (λ (w : Stage J). Fits can done 0 none Free w) (sym lies.1) (refl, refl)),
        ((λ e job' is. (ap (λ (x : J). (Asks Free, (0, Some x) ∷ [])) (same_job job job' is), subst can (same_job job job' is) lies.0.may)), λ other. absurd (other one)),
      ))
      (λ other. (Asks (Busy job), keeps, tt, asker_moves s id (Busy job) at n [] keeps (Busy job) at.home refl at.fits, ((λ one. absurd (other one)), λ e. refl)))

  pub ends : (slots id : ℕ) (hand : List (ℕ × Option J)) → Allows (IsPost can done) slots id (Asks Free, hand) 16 (λ _. 4) (λ _. ended (step slots 16 4 0 none) (Asks Free, hand) 4)
  ends slots id hand s r sized there small =
      let at = asker_at s id Free r there in
      (Asks Ended, keeps, tt, asker_moves s id Free at 4 hand keeps Ended at.home refl (fits_end _ at.home at.worker at.fits), refl)

  same_manned : (s t : State (Option J) (View J)) → t.views ≡ s.views → t.homes ≡ s.homes → get_or t.words 16 0 ≡ get_or s.words 16 0 → IsBegun can done s ⊎ IsAlone can done s ⊎ IsManned can done s
      → IsBegun can done t ⊎ IsAlone can done t ⊎ IsManned can done t
  same_manned s t views homes word (inl b) = inl (record { views = views ∙ b.views; homes = homes ∙ b.homes; word = word ∙ b.word })
  same_manned s t views homes word (inr (inl b)) = inr (inl (record { views = views ∙ b.views; homes = homes ∙ b.homes; word = word ∙ b.word }))
  same_manned s t views homes word (inr (inr m)) = inr (inr (record {
    asker = m.asker;
    worker = m.worker;
    home = m.home;
    views = views ∙ m.views;
    homes = homes ∙ m.homes;
    fits = subst (λ (k : ℕ). Fits can done k m.home m.asker m.worker) (sym word) m.fits;
  }))

  -- a step on another word
  pub turns : (slots id word n : ℕ) (me : Me (Option J) (View J)) → 16 < word → Allows (IsPost can done) slots id me word (λ _. n) (λ _. nothing (step slots word n 0 none) me n)
  turns slots id word n me past s r sized there small = (
    me.0,
    keeps,
    tt,
    record {
      words = length-set s.words word n ∙ r.words;
      manned = same_manned s (stepped s word n id me.1 me.0 keeps) (set_again s.views id me.0 there) refl (get_or-set_other s.words word 16 n 0 (λ e. omega (arith, e, past))) r.manned;
    },
    refl,
  )

  begun_at : (s : State (Option J) (View J)) (id : ℕ) → IsBegun can done s ⊎ IsAlone can done s ⊎ IsManned can done s → get_elem? s.views id ≡ some Begun → (id ≡ 0) × IsBegun can done s
  begun_at s id (inl b) at = ((at_one Begun Begun id (subst (λ (vs : List (View J)). get_elem? vs id ≡ some Begun) b.views at)).0, b)
  begun_at s id (inr (inl b)) at = absurd (let e = (at_one Alone Begun id (subst (λ (vs : List (View J)). get_elem? vs id ≡ some Begun) b.views at)).1 in cc)
  begun_at s id (inr (inr m)) at =
      elim (at_two (Asks m.asker) (Works m.worker) Begun id (subst (λ (vs : List (View J)). get_elem? vs id ≡ some Begun) m.views at)) [
        | inl here ↦ absurd (let e = here.1 in cc)
        | inr there ↦ absurd (let e = there.1 in cc)
      ]

  alone_at : (s : State (Option J) (View J)) (id : ℕ) → IsBegun can done s ⊎ IsAlone can done s ⊎ IsManned can done s → get_elem? s.views id ≡ some Alone → (id ≡ 0) × IsAlone can done s
  alone_at s id (inl b) at = absurd (let e = (at_one Begun Alone id (subst (λ (vs : List (View J)). get_elem? vs id ≡ some Alone) b.views at)).1 in cc)
  alone_at s id (inr (inl b)) at = ((at_one Alone Alone id (subst (λ (vs : List (View J)). get_elem? vs id ≡ some Alone) b.views at)).0, b)
  alone_at s id (inr (inr m)) at =
      elim (at_two (Asks m.asker) (Works m.worker) Alone id (subst (λ (vs : List (View J)). get_elem? vs id ≡ some Alone) m.views at)) [
        | inl here ↦ absurd (let e = here.1 in cc)
        | inr there ↦ absurd (let e = there.1 in cc)
      ]

  pub begins : (slots id : ℕ) → Allows (IsPost can done) slots id (Begun, []) 16 (λ _. 0) (λ _. began (step slots 16 0 0 none) (Begun, []) 0)
  begins slots id s r sized there small =
      let b = begun_at s id r.manned there in (
        Alone,
        takes 0 None,
        ap (λ (hs : List (Home J)). get_elem? hs 0) b.1.homes,
        record {
          words = length-set s.words 16 0 ∙ r.words;
          manned = inr (inl (record {
            views = ap (λ (z : List (View J) × ℕ). set z.0 z.1 Alone) (λ i. (b.1.views i, b.0 i));
            homes = ap (λ (hs : List (Home J)). homes_after hs [] (takes 0 None)) b.1.homes;
            word = word_after s.words 0 r.words;
          }));
        },
        refl,
      )

  pub hires : (id : ℕ) → Splits (IsPost can done) id Alone (asks_on Alone) (works Alone)
  hires id s r there =
      let b = alone_at s id r.manned there in record {
        words = r.words;
        manned = inr (inr (record {
          asker = Free;
          worker = Free;
          home = none;
          views = ap (λ (z : List (View J) × ℕ). set z.0 z.1 (Asks Free) ++ Works Free ∷ []) (λ i. (b.1.views i, b.0 i));
          homes = b.1.homes;
          fits = (b.1.word, refl);
        }));
      }

  pub opens : (words : List ℕ) → words ≡ replicate 32 0 → IsPost can done (opening words (replicate 1 None) Begun)
  opens words zeros = record { words = ap length zeros; manned = inl (record { views = refl; homes = refl; word = ap (λ (ws : List ℕ). get_or ws 16 0) zeros }) }
