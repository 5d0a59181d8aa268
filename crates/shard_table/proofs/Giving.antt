-- A hold ends with an entry.
use Rattle.std.proofs.Common.{◌≡◌, ℕ, ◌+◌, ◌<◌, ◌≤◌, ◌≢◌, max, List, [], ◌∷◌, ◌++◌, length, All, refl, sym, ◌∙◌, ap, subst, arith, inl, inr}
use Rattle.std.specs.Prelude.{slice_get, slice_index, slice_set, Some, None}
use mathlib.Core.Option.{some, none}
use lib.ListN.{get_elem?}
use Rattle.std.proofs.lemmas.Bool.{cases_eq}
use Rattle.std.proofs.lemmas.List.{get_or-set_other, get_or-set_same, length-append, length-set}
use Rattle.std.proofs.lemmas.List.Elements.{All-cons, All-head, All-nil, All-push, All-tail, All-weaker}
use Rattle.std.proofs.lemmas.Option.{same_Some}
use Rattle.atomic_table.specs.Table.{Allows, State, gives, step, stepped}
use Rattle.atomic_table.proofs.Lists.{at_set, set_else, set_here}
use Rattle.zs_num.specs.declared.entry.Entry.{Entry}
use Rattle.access_log.specs.History.{bank_of_entry, core_of_entry, latest_of, of_bank, of_core}
use Rattle.access_log.specs.Laws.{OneMoreIsStamped}
use Rattle.shard.specs.Served.{AreServedBy, ShardState, met_by, shard_after, shard_reply}
use Rattle.shard_table.specs.declared.view.View.{View}
use Rattle.shard_table.specs.declared.view.CoreAccesses.{CoreAccesses}
use Rattle.shard_table.specs.declared.view.ShardAccesses.{ShardAccesses}
use Rattle.shard_table.specs.Lives.{AreAccesses, IsPrefix, MayAsk, after_all}
use Rattle.shard_table.specs.Rule.{AreHoldsAtTable, Has, IsTrueOfHistory, word_index}
use Rattle.shard_table.specs.Steps.{IsEntryOf, gave, gave_at, shard_of_step}
use Rattle.shard_table.specs.Views.{given}
use Rattle.shard_table.proofs.Ends.{all_numbered, latest_low, notes_stay, prefix_whole, one_more_after, one_more_served, other_last, own_last}
use Rattle.shard_table.proofs.Seats.{apart_stays, fresh_stays, has_its, its_own, new_here, other_there}
use Rattle.shard_table.proofs.Taking.{words_apart}

module _ (shards : List ShardState) (cores room : ℕ) where
  abbrev Rule : State ShardState View → Type 0
  Rule = AreHoldsAtTable shards cores room

  -- a seat that holds a shard, with the shard in hand as the access of this entry has left it
  module _ (s : State ShardState View) (r : Rule s) (id number : ℕ) (v : View) (part : CoreAccesses) (served : ShardAccesses) (e : Entry) (b : ShardState)
      (at : get_elem? s.views id ≡ some v) (parts : v.parts ≡ part ∷ []) (hold : v.hold ≡ Some served) (here : served.shard ≡ number)
      (ends : IsEntryOf v number part served e b) (one_more : OneMoreIsStamped) where
    knows : IsTrueOfHistory shards cores room r.history s.words v
    knows = r.seats id v at

    opening : (v.shards ≡ shards) × (v.cores ≡ cores) × (v.room ≡ room)
    opening = knows.opening (subst (λ (ps : List CoreAccesses). 0 < length ps) (sym parts) (omega arith))

    abbrev Known : CoreAccesses → Type 0
    Known q = (q.core < cores) × (q.list ≡ of_core q.core r.history)

    known : Known part
    known = All-head Known part [] (subst (All Known) parts knows.parts)

    held : (p : CoreAccesses) × (v.parts ≡ p ∷ []) × (served.shard < length shards) × (slice_index s.words (word_index served.shard) ≡ p.core + 1) × (served.list ≡ of_bank (length shards) served.shard r.history)
    held = knows.hold served hold

    same_part : held.0 ≡ part
    same_part = let is : held.0 ∷ [] ≡ part ∷ [] = sym held.1 ∙ parts in cc

    within : number < length shards
    within = subst (λ (n : ℕ). n < length shards) here held.2

    word : slice_index s.words (word_index number) ≡ part.core + 1
    word = ap (λ (n : ℕ). slice_index s.words (word_index n)) (sym here) ∙ (held.3 ∙ ap (λ (p : CoreAccesses). p.core + 1) same_part)

    list_is : served.list ≡ of_bank (length shards) number r.history
    list_is = held.4 ∙ ap (λ (n : ℕ). of_bank (length shards) n r.history) here

    core_is : e.core ≡ part.core
    core_is = ends.core

    bank_is : bank_of_entry (length shards) e ≡ number
    bank_is = ap (λ (xs : List ShardState). bank_of_entry (length xs) e) (sym opening.0) ∙ ends.bank

    abbrev history' : List Entry
    history' = r.history ++ e ∷ []

    abbrev w : View
    w = given v part served e

    -- ---- the history

    longer : length history' ≡ length r.history + 1
    longer = length-append r.history (e ∷ [])

    stamp_is : e.stamp ≡ max (latest_of (of_bank (length shards) (bank_of_entry (length shards) e) r.history)) (latest_of (of_core e.core r.history)) + 1
    stamp_is =
        let bank : latest_of served.list ≡ latest_of (of_bank (length shards) (bank_of_entry (length shards) e) r.history) =
        ap latest_of list_is ∙ ap (λ (n : ℕ). latest_of (of_bank (length shards) n r.history)) (sym bank_is) in
        let core : latest_of part.list ≡ latest_of (of_core e.core r.history) = ap latest_of known.1 ∙ ap (λ (n : ℕ). latest_of (of_core n r.history)) (sym core_is) in
        ends.stamp ∙ ap (λ (p : ℕ × ℕ). max p.0 p.1 + 1) (λ i. (bank i, core i))

    stamp_low : e.stamp ≤ length history'
    stamp_low =
        let n : ℕ = length r.history in
        let one = latest_low n (of_bank (length shards) (bank_of_entry (length shards) e) r.history) (all_numbered (bank_of_entry (length shards)) (bank_of_entry (length shards) e) (λ x. x.stamp ≤ n) r.history r.accesses.low) in
        let two = latest_low n (of_core e.core r.history) (all_numbered core_of_entry e.core (λ x. x.stamp ≤ n) r.history r.accesses.low) in
        omega (arith, one, two, stamp_is, longer)

    accesses' : AreAccesses shards cores room history'
    accesses' = record {
      known = All-push (λ x. x.core < cores) r.history e r.accesses.known (subst (λ (n : ℕ). n < cores) (sym core_is) known.0);
      asked = All-push (λ x. MayAsk shards x.core x.request) r.history e r.accesses.asked (subst (λ (xs : List ShardState). MayAsk xs e.core e.request) opening.0 ends.asked);
      served = λ k shard there.
          elim (cases_eq (bank_of_entry (length shards) e) k) as (λ _. AreServedBy shard (of_bank (length shards) k history')) [
            | inl own ↦
                let k_is : number ≡ k = sym bank_is ∙ own in
                let first : slice_get v.shards number ≡ Some shard = subst (λ (xs : List ShardState). slice_get xs number ≡ Some shard) (sym opening.0) (ap (slice_get shards) k_is ∙ there) in
                let list_k : served.list ≡ of_bank (length shards) k r.history = list_is ∙ ap (λ (n : ℕ). of_bank (length shards) n r.history) k_is in
                let did = ends.served shard first in
                subst (AreServedBy shard) (sym (own_last (bank_of_entry (length shards)) k r.history e own))
                (one_more_served shard (of_bank (length shards) k r.history) e (r.accesses.served k shard there)
                (subst (λ (es : List Entry). e.reply ≡ shard_reply (after_all shard es) e) list_k did.0)
                (subst (λ (es : List Entry). e.outcome ≡ met_by (after_all shard es) e) list_k did.1))
            | inr other ↦ subst (AreServedBy shard) (sym (other_last (bank_of_entry (length shards)) k r.history e other)) (r.accesses.served k shard there)
          ];
      stamped = one_more (length shards) cores r.history e (omega (arith, within)) r.accesses.known r.accesses.stamped stamp_is;
      low = All-push (λ x. x.stamp ≤ length history') r.history e
          (All-weaker (λ x. x.stamp ≤ length r.history) (λ x. x.stamp ≤ length history') (λ x low. omega (arith, low, longer)) r.history r.accesses.low) stamp_low;
      fits = λ c.
          elim (cases_eq e.core c) as (λ _. length (of_core c history') ≤ room) [
            | inl own ↦
                let size : length (of_core c history') ≡ length (of_core c r.history) + 1 = ap length (own_last core_of_entry c r.history e own) ∙ length-append (of_core c r.history) (e ∷ []) in
                let mine : length part.list ≡ length (of_core c r.history) = ap length known.1 ∙ ap (λ (n : ℕ). length (of_core n r.history)) (sym core_is ∙ own) in
                let room_is : v.room ≡ room = opening.2 in
                omega (arith, size, mine, ends.room, room_is)
            | inr other ↦ subst (λ (es : List Entry). length es ≤ room) (sym (other_last core_of_entry c r.history e other)) (r.accesses.fits c)
          ];
    }

    -- ---- the seats

    -- another seat has other cores
    other_cores : (place : ℕ) (u : View) → get_elem? s.views place ≡ some u → place ≢ id → (core : ℕ) → Has core u.parts → e.core ≢ core
    other_cores place u there other core has same =
        other (r.apart place id core u v there at has (subst (λ (n : ℕ). Has n v.parts) (sym core_is ∙ same) (its_own v.parts part parts)))

    abbrev words' : List ℕ
    words' = slice_set s.words (word_index number) 0

    others : (k : ℕ) → k ≢ number → slice_index words' (word_index k) ≡ slice_index s.words (word_index k)
    others k other = get_or-set_other s.words (word_index number) (word_index k) 0 0 (words_apart k number other)

    free : slice_index words' (word_index number) ≡ 0
    free = get_or-set_same s.words (word_index number) 0 0 (omega (arith, r.words, within))

    same_parts : (parts : List CoreAccesses) → ((core : ℕ) → Has core parts → e.core ≢ core) → All Known parts → All (λ q. (q.core < cores) × (q.list ≡ of_core q.core history')) parts
    same_parts [] apart all = All-nil (λ (q : CoreAccesses). (q.core < cores) × (q.list ≡ of_core q.core history'))
    same_parts (p ∷ ps) apart all =
        let it : Known p = All-head Known p ps all in
        All-cons (λ (q : CoreAccesses). (q.core < cores) × (q.list ≡ of_core q.core history')) p ps
        (it.0, it.1 ∙ sym (other_last core_of_entry p.core r.history e (apart p.core (inl refl))))
        (same_parts ps (λ core has. apart core (inr has)) (All-tail Known p ps all))

    other_seat : (place : ℕ) (u : View) → get_elem? s.views place ≡ some u → place ≢ id → IsTrueOfHistory shards cores room history' words' u
    other_seat place u there other =
        let it : IsTrueOfHistory shards cores room r.history s.words u = r.seats place u there in
        record {
          opening = it.opening;
          parts = same_parts u.parts (other_cores place u there other) it.parts;
          distinct = it.distinct;
          hold = λ x is.
              let h = it.hold x is in
              let apart : x.shard ≢ number = λ same.
              let word_there : slice_index s.words (word_index number) ≡ h.0.core + 1 = ap (λ (n : ℕ). slice_index s.words (word_index n)) (sym same) ∙ h.3 in
              let alike : e.core ≡ h.0.core = omega (arith, word_there, word, core_is) in
              other_cores place u there other h.0.core (its_own u.parts h.0 h.1) alike
              in
              (h.0, h.1, h.2, others x.shard apart ∙ h.3, h.4 ∙ sym (other_last (bank_of_entry (length shards)) x.shard r.history e (λ same. apart (sym same ∙ bank_is))));
          notes = notes_stay (length shards) r.history e u.notes it.notes;
          first = it.first;
        }

    own_seat : IsTrueOfHistory shards cores room history' words' w
    own_seat = record {
      opening = λ some. opening;
      parts = All-cons (λ (q : CoreAccesses). (q.core < cores) × (q.list ≡ of_core q.core history')) (record part { list = part.list ++ e ∷ [] }) []
          (known.0, ap (λ (es : List Entry). es ++ e ∷ []) known.1 ∙ sym (own_last core_of_entry part.core r.history e core_is))
          (All-nil (λ (q : CoreAccesses). (q.core < cores) × (q.list ≡ of_core q.core history')));
      distinct = ((λ no. no), tt);
      hold = λ x is. absurd (let none : None ≡ Some x = is in cc);
      notes =
          let note : ShardAccesses = record served { list = served.list ++ e ∷ [] } in
          let whole : of_bank (length shards) served.shard history' ≡ served.list ++ e ∷ [] =
          own_last (bank_of_entry (length shards)) served.shard r.history e (bank_is ∙ sym here) ∙ ap (λ (es : List Entry). es ++ e ∷ []) (sym held.4) in
          All-push (λ (n : ShardAccesses). IsPrefix n.list (of_bank (length shards) n.shard history')) v.notes note (notes_stay (length shards) r.history e v.notes knows.notes)
          (prefix_whole note.list (of_bank (length shards) served.shard history') whole);
      first = λ some. inl (has_its 0 v.parts part parts (knows.first some));
    }

    given_rule : Rule (stepped s (word_index number) 0 id ((number, b) ∷ []) w gives)
    given_rule = record {
      history = history';
      begins = r.begins;
      accesses = accesses';
      words = length-set s.words (word_index number) 0 ∙ r.words;
      homes = length-set s.homes number (some b) ∙ r.homes;
      home = λ k shard there zero_there.
          elim (cases_eq k number) as (λ _. get_elem? (slice_set s.homes number (some b)) k ≡ some (some (after_all shard (of_bank (length shards) k history')))) [
            | inl same ↦
                let first : slice_get v.shards number ≡ Some shard = subst (λ (xs : List ShardState). slice_get xs number ≡ Some shard) (sym opening.0) (ap (slice_get shards) (sym same) ∙ there) in
                let left : b ≡ shard_after (after_all shard served.list) e = (ends.served shard first).2 in
                let list_k : served.list ≡ of_bank (length shards) k r.history = list_is ∙ ap (λ (n : ℕ). of_bank (length shards) n r.history) (sym same) in
                let whole : b ≡ after_all shard (of_bank (length shards) k history') =
                left ∙ (ap (λ (es : List Entry). shard_after (after_all shard es) e) list_k ∙ (sym (one_more_after shard (of_bank (length shards) k r.history) e)
                ∙ ap (after_all shard) (sym (own_last (bank_of_entry (length shards)) k r.history e (bank_is ∙ sym same))))) in
                ap (get_elem? (slice_set s.homes number (some b))) same ∙ (set_here s.homes number (some b) (omega (arith, r.homes, within)) ∙ ap (λ (x : ShardState). some (some x)) whole)
            | inr other ↦
                set_else s.homes number k (some b) other ∙ (r.home k shard there (sym (others k other) ∙ zero_there)
                ∙ ap (λ (es : List Entry). some (some (after_all shard es))) (sym (other_last (bank_of_entry (length shards)) k r.history e (λ same. other (sym same ∙ bank_is)))))
          ];
      busy = λ k inside some_word.
          let other : k ≢ number = λ same. absurd (let zero_word : slice_index words' (word_index k) ≡ 0 = ap (λ (n : ℕ). slice_index words' (word_index n)) same ∙ free in omega (arith, zero_word, some_word)) in
          let b' = r.busy k inside (subst (λ (n : ℕ). 0 < n) (others k other) some_word) in
          let apart : b'.0 ≢ id = λ same.
          let there : some b'.1 ≡ some v = sym b'.3 ∙ (ap (get_elem? s.views) same ∙ at) in
          let view : b'.1.hold ≡ v.hold = cc in
          let both : b'.2 ≡ served = same_Some b'.2 served (sym b'.4 ∙ (view ∙ hold)) in
          other (sym b'.5 ∙ (ap (λ (x : ShardAccesses). x.shard) both ∙ here))
          in
          (b'.0, b'.1, b'.2, other_there s.views id v w at b'.0 apart ∙ b'.3, b'.4, b'.5);
      seats = λ place u there.
          elim (at_set s.views id place w u there) as (λ _. IsTrueOfHistory shards cores room history' words' u) [
            | inl new ↦ subst (IsTrueOfHistory shards cores room history' words') new.1 own_seat
            | inr old ↦ other_seat place u old.1 old.0
          ];
      apart = apart_stays s.views id v w at kept r.apart;
      fresh = λ place u there counted.
          let before = fresh_stays s.views id v w at kept r.history refl r.fresh place u there counted in (
            All-push (λ x. x.core < u.made) r.history e before.0
                (subst (λ (n : ℕ). n < u.made) (sym core_is) (made_above place u there counted)),
            before.1,
          );
    } where
      kept : (core : ℕ) → Has core w.parts → Has core v.parts
      kept core (inl is) = subst (Has core) (sym parts) (inl is)
      kept core (inr never) = absurd never

      -- the first seat counts this one
      made_above : (place : ℕ) (u : View) → get_elem? (slice_set s.views id w) place ≡ some u → 0 < u.made → part.core < u.made
      made_above place u there counted = (fresh_stays s.views id v w at kept r.history refl r.fresh place u there counted).1 id part.core w (new_here s.views id v w at) (inl refl)

  -- ---- the step

  pub gives_back : OneMoreIsStamped → (slots id number : ℕ) (v : View) (part : CoreAccesses) (served : ShardAccesses) (e : Entry) (b : ShardState)
      → v.parts ≡ part ∷ [] → v.hold ≡ Some served → served.shard ≡ number → IsEntryOf v number part served e b
      → Allows Rule slots id (v, (number, b) ∷ []) (word_index number) (λ _. 0) (λ _. gave e (step slots (word_index number) 0 0 none) (v, (number, b) ∷ []) 0)
  gives_back one_more slots id number v part served e b parts hold here ends = λ s r long at small.
      let is_shard : number ≡ shard_of_step (step {S = ShardState} slots (word_index number) 0 0 none) = omega arith in (
        given v part served e,
        gives,
        tt,
        given_rule s r id number v part served e b at parts hold here ends one_more,
        subst (λ (k : ℕ). gave_at e k (v, (number, b) ∷ []) (given v part served e, [])) is_shard
            (λ shard served' part' in_hand hold' parts'.
            let one : served ≡ served' = same_Some served served' (sym hold ∙ hold') in
            let two : part ∷ [] ≡ part' ∷ [] = sym parts ∙ parts' in
            let three : part ≡ part' = cc in
            λ i. (given v (three i) (one i) e, [])),
      )
