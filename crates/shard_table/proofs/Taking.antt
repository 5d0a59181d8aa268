-- A shard is taken, or another core is found to hold it.
use Rattle.std.proofs.Common.{◌≡◌, ℕ, zero, suc, ◌+◌, ◌*◌, ◌/◌, ◌<◌, ◌≤◌, ◌≢◌, ◌==◌, List, [], ◌∷◌, length, All, refl, sym, ◌∙◌, ap, subst, arith, inl, inr}
use Rattle.std.specs.Prelude.{slice_get, slice_index, slice_set, Some, None}
use mathlib.Core.Option.{some, none}
use lib.ListN.{get_elem?}
use prog.Atomic.{either}
use Rattle.std.proofs.lemmas.Bool.{cases_eq}
use Rattle.std.proofs.lemmas.List.{get_or-set_other, get_or-set_same, length-set}
use Rattle.std.proofs.lemmas.List.Elements.{All-head, All-weaker}
use Rattle.std.proofs.lemmas.Option.{same_Some}
use Rattle.atomic_table.specs.Table.{Act, Allows, State, Valid, carried_after, keeps, step, stepped, takes}
use Rattle.atomic_table.proofs.Lists.{at_set, exchanged, set_else}
use Rattle.zs_num.specs.declared.entry.Entry.{Entry}
use Rattle.access_log.specs.History.{bank_of_entry, core_of_entry, latest_of, of_bank, of_core}
use Rattle.shard.specs.Laws.{LastIsStamp}
use Rattle.shard.specs.Served.{ShardState}
use Rattle.shard_table.specs.declared.view.View.{View}
use Rattle.shard_table.specs.declared.view.CoreAccesses.{CoreAccesses}
use Rattle.shard_table.specs.declared.view.ShardAccesses.{ShardAccesses}
use Rattle.shard_table.specs.Lives.{IsPrefix, after_all}
use Rattle.shard_table.specs.Rule.{AreHoldsAtTable, Has, IsTrueOfHistory, word_index}
use Rattle.shard_table.specs.Steps.{IsTakenShard, taken, taken_at}
use Rattle.shard_table.specs.Views.{holding, refused}
use Rattle.shard_table.proofs.Ends.{all_numbered, either_first, few_entries, last_is_latest, latest_low}
use Rattle.shard_table.proofs.Seats.{apart_stays, fresh_stays, its_own, new_here, other_there, some_at}

-- the words of different shards are different
pub words_apart : (k number : ℕ) → k ≢ number → word_index k ≢ word_index number
words_apart k number other same = other (omega (arith, same))

-- a word as it is, written again
pub same_word : (words : List ℕ) (i : ℕ) → slice_set words i (slice_index words i) ≡ words
same_word [] i = refl
same_word (n ∷ words) zero = refl
same_word (n ∷ words) (suc i) = ap (λ (ms : List ℕ). n ∷ ms) (same_word words i)

module _ (shards : List ShardState) (cores room : ℕ) where
  abbrev Rule : State ShardState View → Type 0
  Rule = AreHoldsAtTable shards cores room

  -- what a seat that holds no shard knows stays true where only the word of a shard without a holder changes
  module _ (s : State ShardState View) (r : Rule s) (id : ℕ) (v : View) (at : get_elem? s.views id ≡ some v) (hold : v.hold ≡ None) where
    -- who holds a shard is another
    pub holder_apart : (place : ℕ) (u : View) (served : ShardAccesses) → get_elem? s.views place ≡ some u → u.hold ≡ Some served → place ≢ id
    holder_apart place u served there has same =
        let here : some u ≡ some v = sym there ∙ (ap (get_elem? s.views) same ∙ at) in
        let held : u.hold ≡ v.hold = cc in
        absurd (let none : Some served ≡ None = sym has ∙ (held ∙ hold) in cc)

    module _ (number core : ℕ) (part : CoreAccesses) (parts : v.parts ≡ part ∷ []) (own : part.core ≡ core) (within : number < length shards) (is_stamp : LastIsStamp) where
      knows : IsTrueOfHistory shards cores room r.history s.words v
      knows = r.seats id v at

      opening : (v.shards ≡ shards) × (v.cores ≡ cores) × (v.room ≡ room)
      opening = knows.opening (subst (λ (ps : List CoreAccesses). 0 < length ps) (sym parts) (omega arith))

      abbrev list : List Entry
      list = of_bank (length shards) number r.history

      low_all : All (λ e. e.stamp ≤ cores * room) r.history
      low_all = λ i e lt. omega (arith, r.accesses.low i e lt, few_entries cores room r.history r.accesses.known r.accesses.fits)

      ready : (first : ShardState) → slice_get shards number ≡ Some first → IsTakenShard v number (after_all first list) list
      ready first there = record {
        lives = λ x here.
            let found : slice_get shards number ≡ Some x = subst (λ (xs : List ShardState). slice_get xs number ≡ Some x) opening.0 here in
            let same : first ≡ x = same_Some first x (sym there ∙ found) in
            (ap (λ (y : ShardState). after_all y list) same, r.accesses.served number x found);
        own = λ p is.
            let known = All-head (λ (q : CoreAccesses). (q.core < cores) × (q.list ≡ of_core q.core r.history)) p [] (subst (All (λ (q : CoreAccesses). (q.core < cores) × (q.list ≡ of_core q.core r.history))) is knows.parts) in
            either_first core_of_entry (bank_of_entry (length shards)) p.core number r.history
            ∙ (ap (of_bank (length shards) number) (sym known.1) ∙ ap (λ (xs : List ShardState). of_bank (length xs) number p.list) (sym opening.0));
        seen = All-weaker (λ (note : ShardAccesses). IsPrefix note.list (of_bank (length shards) note.shard r.history)) (λ note. note.shard ≡ number → IsPrefix note.list list)
            (λ note is same. subst (λ (n : ℕ). IsPrefix note.list (of_bank (length shards) n r.history)) same is) v.notes knows.notes;
        last = last_is_latest is_stamp first list (r.begins number first there).1;
        low = subst (λ (m : ℕ). latest_of list ≤ m) (sym (ap (λ (m : ℕ). m * v.room) opening.1 ∙ ap (λ (m : ℕ). cores * m) opening.2))
            (latest_low (cores * room) list (all_numbered (bank_of_entry (length shards)) number (λ e. e.stamp ≤ cores * room) r.history low_all));
        own_low = λ p is.
            let known = All-head (λ (q : CoreAccesses). (q.core < cores) × (q.list ≡ of_core q.core r.history)) p [] (subst (All (λ (q : CoreAccesses). (q.core < cores) × (q.list ≡ of_core q.core r.history))) is knows.parts) in
            let few : latest_of (of_core p.core r.history) ≤ cores * room = latest_low (cores * room) (of_core p.core r.history) (all_numbered core_of_entry p.core (λ e. e.stamp ≤ cores * room) r.history low_all) in
            subst (λ (m : ℕ). latest_of p.list ≤ m) (sym (ap (λ (m : ℕ). m * v.room) opening.1 ∙ ap (λ (m : ℕ). cores * m) opening.2)) (subst (λ (es : List Entry). latest_of es ≤ cores * room) (sym known.1) few);
      }

      -- ---- nobody holds the shard

      module _ (free : slice_index s.words (word_index number) ≡ 0) (first : ShardState) (there : slice_get shards number ≡ Some first) where
        abbrev w : View
        w = holding v number list

        abbrev words' : List ℕ
        words' = slice_set s.words (word_index number) (core + 1)

        word_within : word_index number < length s.words
        word_within = omega (arith, r.words, within)

        mine : slice_index words' (word_index number) ≡ core + 1
        mine = get_or-set_same s.words (word_index number) (core + 1) 0 word_within

        others : (k : ℕ) → k ≢ number → slice_index words' (word_index k) ≡ slice_index s.words (word_index k)
        others k other = get_or-set_other s.words (word_index number) (word_index k) (core + 1) 0 (words_apart k number other)

        taken_rule : Rule (stepped s (word_index number) (core + 1) id [] w (takes number (after_all first list)))
        taken_rule = record {
          history = r.history;
          begins = r.begins;
          accesses = r.accesses;
          words = length-set s.words (word_index number) (core + 1) ∙ r.words;
          homes = length-set s.homes number none ∙ r.homes;
          home = λ k shard here zero_there.
              elim (cases_eq k number) as (λ _. get_elem? (slice_set s.homes number none) k ≡ some (some (after_all shard (of_bank (length shards) k r.history)))) [
                | inl same ↦ absurd (let word : slice_index words' (word_index k) ≡ core + 1 = ap (λ (n : ℕ). slice_index words' (word_index n)) same ∙ mine in omega (arith, word, zero_there))
                | inr other ↦ set_else s.homes number k none other ∙ r.home k shard here (sym (others k other) ∙ zero_there)
              ];
          busy = λ k inside some_word.
              elim (cases_eq k number) as (λ _. (place : ℕ) × (u : View) × (served : ShardAccesses) × (get_elem? (slice_set s.views id w) place ≡ some u) × (u.hold ≡ Some served) × (served.shard ≡ k)) [
                | inl same ↦ (id, w, record { shard = number; list = list }, new_here s.views id v w at, refl, sym same)
                | inr other ↦
                    let b = r.busy k inside (subst (λ (n : ℕ). 0 < n) (others k other) some_word) in
                    (b.0, b.1, b.2, other_there s.views id v w at b.0 (holder_apart b.0 b.1 b.2 b.3 b.4) ∙ b.3, b.4, b.5)
              ];
          seats = λ place u here.
              elim (at_set s.views id place w u here) as (λ _. IsTrueOfHistory shards cores room r.history words' u) [
                | inl new ↦ subst (IsTrueOfHistory shards cores room r.history words') new.1 (record {
                  opening = knows.opening;
                  parts = knows.parts;
                  distinct = knows.distinct;
                  hold = λ served is.
                      let same : record { shard = number; list = list } ≡ served = same_Some (record { shard = number; list = list }) served is in (
                        part,
                        parts,
                        subst (λ (z : ShardAccesses). z.shard < length shards) same within,
                        subst (λ (z : ShardAccesses). slice_index words' (word_index z.shard) ≡ part.core + 1) same (mine ∙ ap (λ (n : ℕ). n + 1) (sym own)),
                        subst (λ (z : ShardAccesses). z.list ≡ of_bank (length shards) z.shard r.history) same refl,
                      );
                  notes = knows.notes;
                  first = knows.first;
                })
                | inr old ↦
                    let it : IsTrueOfHistory shards cores room r.history s.words u = r.seats place u old.1 in
                    record {
                      opening = it.opening;
                      parts = it.parts;
                      distinct = it.distinct;
                      hold = λ served is.
                          let h = it.hold served is in
                          let apart : served.shard ≢ number = λ same. absurd (let word : slice_index s.words (word_index served.shard) ≡ 0 = ap (λ (n : ℕ). slice_index s.words (word_index n)) same ∙ free in omega (arith, word, h.3)) in
                          (h.0, h.1, h.2, others served.shard apart ∙ h.3, h.4);
                      notes = it.notes;
                      first = it.first;
                    }
              ];
          apart = apart_stays s.views id v w at (λ c has. has) r.apart;
          fresh = fresh_stays s.views id v w at (λ c has. has) r.history refl r.fresh;
        }

      -- ---- another core has it

      -- what no fact of the rule but the seat's notes depends on
      noticed_rule : (shard word : ℕ) → Rule (stepped s (word_index number) (slice_index s.words (word_index number)) id [] (refused v shard word) keeps)
      noticed_rule shard word =
          let w : View = refused v shard word in
          subst (λ (ws : List ℕ). Rule (record { words = ws; homes = s.homes; views = slice_set s.views id w })) (sym (same_word s.words (word_index number))) (record {
            history = r.history;
            begins = r.begins;
            accesses = r.accesses;
            words = r.words;
            homes = r.homes;
            home = r.home;
            busy = λ k inside some_word.
                let b = r.busy k inside some_word in
                (b.0, b.1, b.2, other_there s.views id v w at b.0 (holder_apart b.0 b.1 b.2 b.3 b.4) ∙ b.3, b.4, b.5);
            seats = λ place u here.
                elim (at_set s.views id place w u here) as (λ _. IsTrueOfHistory shards cores room r.history s.words u) [
                  | inl new ↦ subst (IsTrueOfHistory shards cores room r.history s.words) new.1 (record { opening = knows.opening; parts = knows.parts; distinct = knows.distinct; hold = knows.hold; notes = knows.notes; first = knows.first })
                  | inr old ↦ r.seats place u old.1
                ];
            apart = apart_stays s.views id v w at (λ c has. has) r.apart;
            fresh = fresh_stays s.views id v w at (λ c has. has) r.history refl r.fresh;
          })

      -- the word is another core's number plus 1
      holder : slice_index s.words (word_index number) ≢ 0 → (slice_index s.words (word_index number) ≢ core + 1) × (slice_index s.words (word_index number) ≤ v.cores)
      holder some_word =
          let word : ℕ = slice_index s.words (word_index number) in
          let b = r.busy number within (omega (arith, some_word)) in
          let it : IsTrueOfHistory shards cores room r.history s.words b.1 = r.seats b.0 b.1 b.3 in
          let h = it.hold b.2 b.4 in
          let is : word ≡ h.0.core + 1 = ap (λ (n : ℕ). slice_index s.words (word_index n)) (sym b.5) ∙ h.3 in
          let known = All-head (λ (q : CoreAccesses). (q.core < cores) × (q.list ≡ of_core q.core r.history)) h.0 [] (subst (All (λ (q : CoreAccesses). (q.core < cores) × (q.list ≡ of_core q.core r.history))) h.1 it.parts) in (
            (λ same.
                let alike : h.0.core ≡ part.core = omega (arith, is, same, own) in
                holder_apart b.0 b.1 b.2 b.3 b.4 (r.apart b.0 id part.core b.1 v b.3 at (subst (λ (n : ℕ). Has n b.1.parts) alike (its_own b.1.parts h.0 h.1)) (its_own v.parts part parts))),
            subst (λ (n : ℕ). word ≤ n) (sym opening.1) (omega (arith, is, known.0)),
          )

  -- ---- the step

  pub takes_hold : LastIsStamp → (slots id number core : ℕ) (v : View) (part : CoreAccesses) → v.parts ≡ part ∷ [] → part.core ≡ core → v.hold ≡ None → number < length shards
      → Allows Rule slots id (v, []) (word_index number) (λ n. either (n == 0) (core + 1) n) (taken (step slots (word_index number) 0 (core + 1) none) (v, []))
  takes_hold is_stamp slots id number core v part parts own hold within = λ s r long at small.
      let found : ℕ = slice_index s.words (word_index number) in
      let there = some_at shards number within in
      let list : List Entry = of_bank (length shards) number r.history in
      let shard : ShardState = after_all there.0 list in
      let is_shard : number ≡ word_index number / 16 = omega arith in
      let F : ℕ → Type 0 = λ n. (w : View) × (a : Act ShardState) × Valid s.homes [] a × Rule (stepped s (word_index number) n id [] w a)
      × taken (step slots (word_index number) 0 (core + 1) none) (v, []) found (w, carried_after [] a) in
      exchanged found 0 (core + 1) F
      (λ free. (
        holding v number list,
        takes number shard,
        r.home number there.0 there.1 free,
        taken_rule s r id v at hold number core part parts own within is_stamp free there.0 there.1,
        subst (λ (k : ℕ). taken_at k (core + 1) (v, []) found (holding v number list, (number, shard) ∷ [])) is_shard
            ((λ _. (shard, list, refl, ready s r id v at hold number core part parts own within is_stamp there.0 there.1)), (λ other. absurd (other free))),
      ))
      (λ other. (
        refused v number found,
        keeps,
        tt,
        noticed_rule s r id v at hold number core part parts own within is_stamp number found,
        subst (λ (k : ℕ). taken_at k (core + 1) (v, []) found (refused v number found, [])) is_shard
            ((λ free. absurd (other free)), (λ _. let h = holder s r id v at hold number core part parts own within is_stamp other in (refl, h.0, h.1))),
      ))
