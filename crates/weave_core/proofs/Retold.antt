-- The queues after another word, or another floor.
use Rattle.std.proofs.Common.{◌≡◌, ◌+◌, ◌≤◌, ◌^◌, ℕ, max, false, List, set, Some, slice_get, sym, ◌∙◌, ap, subst, inl, inr, arith, length-set}
use Rattle.std.proofs.lemmas.Bool.{cases_eq}
use Rattle.std.proofs.lemmas.Option.{same_Some}
use Rattle.std.specs.List.{Contains}
use Rattle.zs_num.specs.declared.time.Word.{Word}
use Rattle.domain_queue.specs.SortedKeys.{ReadyKeys}
use Rattle.weave_core.specs.declared.incoming.Stub.{Stub}
use Rattle.weave_core.specs.DomainMachine.{cycle_of, is_exact}
use Rattle.weave_core.specs.Stubs.{AreSmallStubs, IsKeyed, IsSmallStub, arrival_at, reach_of, told_word}
use Rattle.weave_core.specs.Waits.{key_of}
use Rattle.weave_core.proofs.Updates.{get_set_other, get_set_same}

module _ (stubs : List Stub) (floor : ℕ) (by_floor queue : ReadyKeys) (keyed : IsKeyed stubs floor by_floor queue) where
  pub keyed_told : (place : ℕ) (s : Stub) (word : Word) → slice_get stubs place ≡ Some s → (is_exact word ≡ false → (is_exact s.word ≡ false) × (cycle_of s.word ≤ cycle_of word))
      → IsKeyed (set stubs place (told_word word s)) floor by_floor queue
  keyed_told place s word there later = record {
    covers = λ other t at unknown.
        elim (cases_eq other place) [
          | inl same ↦
              let is : told_word word s ≡ t = same_Some (told_word word s) t (sym (get_set_same stubs place (told_word word s) s there) ∙ (ap (slice_get (set stubs place (told_word word s))) (sym same) ∙ at)) in
              let told : is_exact word ≡ false = ap (λ (z : Stub). is_exact z.word) is ∙ unknown in
              let l = later told in
              elim (keyed.covers other s (ap (slice_get stubs) same ∙ there) l.0) [
                | inl h ↦ inl (subst (λ (n : ℕ). Contains by_floor.keys (key_of n other)) (ap reach_of is) h)
                | inr k ↦ inr (k.0, (omega (arith, k.1.0, ap (arrival_at floor) is, rises s.delay (cycle_of s.word) (cycle_of word) (floor + s.latency) l.1), k.1.1))
              ]
          | inr apart ↦ keyed.covers other t (sym (get_set_other stubs place other (told_word word s) apart) ∙ at) unknown
        ];
    reaches = λ k h.
        let r = keyed.reaches k h in
        elim (cases_eq k.number place) [
          | inl same ↦
              let is : s ≡ r.0 = same_Some s r.0 (sym there ∙ (ap (slice_get stubs) (sym same) ∙ r.1.0)) in
              (told_word word s, (ap (slice_get (set stubs place (told_word word s))) same ∙ get_set_same stubs place (told_word word s) s there, r.1.1 ∙ ap reach_of (sym is)))
          | inr apart ↦ (r.0, (get_set_other stubs place k.number (told_word word s) apart ∙ r.1.0, r.1.1))
        ];
    within = λ k h. omega (arith, keyed.within k h, length-set stubs place (told_word word s));
    once = keyed.once;
    apart = keyed.apart;
    floor_room = keyed.floor_room;
    word_room = keyed.word_room;
  }
    where
      rises : (d a b c : ℕ) → a ≤ b → max a c + d ≤ max b c + d
      rises d a b c l = omega arith

  pub keyed_raised : (higher : ℕ) → floor ≤ higher → IsKeyed stubs higher by_floor queue
  keyed_raised higher l = record {
    covers = λ place s at unknown.
        elim (keyed.covers place s at unknown) [
          | inl h ↦ inl h
          | inr k ↦ inr (k.0, (omega (arith, k.1.0, rises s.delay (cycle_of s.word) floor higher s.latency l), k.1.1))
        ];
    reaches = keyed.reaches;
    within = keyed.within;
    once = keyed.once;
    apart = keyed.apart;
    floor_room = keyed.floor_room;
    word_room = keyed.word_room;
  }
    where
      rises : (d c a b l : ℕ) → a ≤ b → max c (a + l) + d ≤ max c (b + l) + d
      rises d c a b l h = omega arith

pub small_told : (stubs : List Stub) (place : ℕ) (s : Stub) (word : Word) → AreSmallStubs stubs → slice_get stubs place ≡ Some s → cycle_of word ≤ 2 ^ 62
    → AreSmallStubs (set stubs place (told_word word s))
small_told stubs place s word small there l other t at =
    elim (cases_eq other place) [
      | inl same ↦
          let is : told_word word s ≡ t = same_Some (told_word word s) t (sym (get_set_same stubs place (told_word word s) s there) ∙ (ap (slice_get (set stubs place (told_word word s))) (sym same) ∙ at)) in
          subst IsSmallStub is (record { delay = (small place s there).delay; latency = (small place s there).latency; cycle = l })
      | inr apart ↦ small other t (sym (get_set_other stubs place other (told_word word s) apart) ∙ at)
    ]
