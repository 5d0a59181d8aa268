-- A core's L1 is wanted, or no longer.
use Rattle.std.proofs.Common.{◌≡◌, ℕ, ◌+◌, ◌<◌, ◌≢◌, List, refl, sym, ◌∙◌, subst, arith}
use Rattle.std.specs.Prelude.{slice_index, slice_set, Option}
use mathlib.Core.Option.{some, none}
use lib.ListN.{get_elem?}
use Rattle.std.proofs.lemmas.List.{get_or-set_other, length-set}
use Rattle.atomic_table.specs.Table.{Allows, State, keeps, step, stepped}
use Rattle.atomic_table.proofs.Lists.{set_again}
use Rattle.parts_table.specs.declared.part.TimedPart.{TimedPart}
use Rattle.parts_table.specs.declared.view.View.{View}
use Rattle.parts_table.specs.Rule.{AreHoldsAtTable, IsTrueOfHistory, want_index, word_index}
use Rattle.parts_table.specs.Steps.{same}
use Rattle.parts_table.proofs.Held.{held_stays}

module _ (opening : List (Option TimedPart)) (cores banks room : ℕ) where
  abbrev Rule : State (Option TimedPart) View → Type 0
  Rule = AreHoldsAtTable opening cores banks room

  -- a word of no part changes
  module _ (s : State (Option TimedPart) View) (r : Rule s) (i n : ℕ) (other : (k : ℕ) → k < cores + banks → word_index k ≢ i) where
    abbrev words' : List ℕ
    words' = slice_set s.words i n

    same_at : (k : ℕ) → k < cores + banks → slice_index words' (word_index k) ≡ slice_index s.words (word_index k)
    same_at k low = get_or-set_other s.words i (word_index k) n 0 (other k low)

    with_words : Rule (record { words = words'; homes = s.homes; views = s.views })
    with_words = record {
      history = r.history;
      opened = r.opened;
      accesses = r.accesses;
      words = length-set s.words i n ∙ r.words;
      homes = r.homes;
      home = λ k low free. r.home k low (sym (same_at k low) ∙ free);
      busy = λ k low some_word. r.busy k low (subst (λ (m : ℕ). 0 < m) (same_at k low) some_word);
      seats = λ place u there.
          let it : IsTrueOfHistory opening cores banks room r.history s.words u = r.seats place u there in
          record {
            begins = it.begins;
            logs = it.logs;
            distinct = it.distinct;
            holds = λ some_holds. let h = it.holds some_holds in (h.0, h.1, held_stays opening cores banks room r.history r.history s.words words' h.0.core u.holds h.2 (λ k has low. (same_at k low, refl)));
            first = it.first;
          };
      apart = r.apart;
      fresh = r.fresh;
    }

    pub wanted_rule : (id : ℕ) (v : View) (held : List (ℕ × Option TimedPart)) → get_elem? s.views id ≡ some v → Rule (stepped s i n id held v keeps)
    wanted_rule id v held at = subst (λ (vs : List View). Rule (record { words = words'; homes = s.homes; views = vs })) (sym (set_again s.views id v at)) with_words

  pub wants : (slots id core n : ℕ) (v : View) (held : List (ℕ × Option TimedPart))
      → Allows Rule slots id (v, held) (want_index cores banks core) (λ _. n) (λ _. same (step slots (want_index cores banks core) n 0 none) (v, held) n)
  wants slots id core n v held = λ s r long at small. (
    v,
    keeps,
    tt,
    wanted_rule s r (want_index cores banks core) n (λ k low is. omega (arith, low, is)) id v held at,
    refl,
  )
