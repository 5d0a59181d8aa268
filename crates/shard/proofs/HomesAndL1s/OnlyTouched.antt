-- An access does the same to a bank that has the parts that it touches.
use Rattle.std.proofs.Common.{◌≡◌, ◌≢◌, ℕ, ◌<◌, ◌≤◌, false, cond, List, [], ◌∷◌, length, refl, sym, ap, ◌∙◌, subst, inl, inr}
use Rattle.std.specs.Prelude.{nat_eq}
use Rattle.std.specs.Set.{is_member}
use Rattle.std.proofs.lemmas.Bool.{cases_lt}
use Rattle.std.proofs.lemmas.List.{get_or_past}
use Rattle.zs_num.specs.Request.{is_fetch, line_of}
use Rattle.zs_num.specs.declared.entry.Outcome.{Outcome}
use Rattle.zs_num.specs.declared.request.Request.{Request}
use Rattle.home.specs.HomeState.{evicted_by, row_of}
use Rattle.l1_cache.specs.L1State.{L1State, copy_at, is_private, no_l1}
use Rattle.shard.specs.Coherence.{is_write}
use Rattle.shard.specs.SharedStep.{Bank, bank_after, bank_reply, l1_of, met_at_bank, others_asked, touched_by, with_l1}
use Rattle.shard.specs.Touched.{OnlyTouchedCount}
use Rattle.shard.proofs.Coherent.{coherent_stays, l2_laws}
use Rattle.shard.proofs.HomesAndL1s.Accesses.{access_done}
use Rattle.shard.proofs.HomesAndL1s.Frame.{l1_same, not_first}
use Rattle.shard.proofs.HomesAndL1s.Mixed.{AreApart, among, apart_in, are_apart, get_kept, get_taken, length_mixed, like_is, mixed, others_than, taken}
use Rattle.shard.proofs.HomesAndL1s.Private.{own_sound}
use Rattle.shard.proofs.HomesAndL1s.PrivateHits.{IsSound}
use Rattle.shard.proofs.HomesAndL1s.Untouched.{untouched_at}

module _ (from : List L1State) (p : Bank) (core : ℕ) (request : Request) where
  abbrev asked_from : L1State → Outcome → List ℕ
  asked_from l1 met =
      cond (is_private l1 request) [] (others_asked met (is_fetch request) (is_write request) core (row_of p.home (line_of request)) (evicted_by p.home (line_of request)))

  pub record AllSame (us : List ℕ) : Type 0 where
    pub bank : bank_after (mixed from us p) core request ≡ mixed from us (bank_after p core request)
    pub reply : bank_reply (mixed from us p) core request ≡ bank_reply p core request
    pub met : met_at_bank (mixed from us p) core request ≡ met_at_bank p core request
    pub own : l1_of (mixed from us p) core ≡ l1_of p core
    pub touched : touched_by (mixed from us p) core request ≡ touched_by p core request

  pub all_same : IsSound (copy_at (l1_of p core) (line_of request)) → (us : List ℕ) → AreApart (touched_by p core request) us → AllSame us
  unfolding touched_by
  all_same sound [] apart = record { bank = refl; reply = refl; met = refl; own = refl; touched = refl }
  all_same sound (u ∷ us) apart =
      let before = all_same sound us apart.1 in
      let r : Bank = mixed from us p in
      let first = not_first core u (asked_from (l1_of p core) (met_at_bank p core request)) apart.0 in
      let other : core ≢ u = λ e. first.0 (sym e) in
      let same = untouched_at r core u request (taken from u) (subst (λ (l1 : L1State). IsSound (copy_at l1 (line_of request))) (sym before.own) sound)
      (ap (λ (cores : List ℕ). is_member nat_eq cores u) before.touched ∙ apart.0) in
      let own : l1_of (mixed from (u ∷ us) p) core ≡ l1_of p core = l1_same u (taken from u) core r other ∙ before.own in
      let met : met_at_bank (mixed from (u ∷ us) p) core request ≡ met_at_bank p core request = same.2 ∙ before.met in
      record {
        bank = same.0 ∙ ap (with_l1 u (taken from u)) before.bank;
        reply = same.1 ∙ before.reply;
        met = met;
        own = own;
        touched = ap (λ (l1 : L1State). core ∷ asked_from l1 (met_at_bank (mixed from (u ∷ us) p) core request)) own ∙ ap (λ (o : Outcome). core ∷ asked_from (l1_of p core) o) met;
      }

pub only_touched_count : OnlyTouchedCount
only_touched_count p q core request are asked like =
    let touched : List ℕ = touched_by p core request in
    let n : ℕ = length p.l1s in
    let us : List ℕ = others_than touched n in
    let apart = are_apart touched n in
    let is = like_is touched p q like in
    let all = all_same q.l1s p core request (own_sound p core request are asked) us apart in
    let then : Bank = bank_after p core request in
    let after : bank_after q core request ≡ mixed q.l1s us then = ap (λ (b : Bank). bank_after b core request) is ∙ all.bank in
    let cores : length then.l1s ≡ n = (access_done coherent_stays l2_laws p are core request asked).accessed.keeps.bank.cores in
    let left_as_it_is : (c : ℕ) → is_member nat_eq touched c ≡ false → l1_of (mixed q.l1s us then) c ≡ l1_of q c
    = λ c h. elim (cases_lt c n) as (λ _. l1_of (mixed q.l1s us then) c ≡ l1_of q c) [
      | inl l ↦ get_taken q.l1s us then.l1s c (among touched n c l h) (subst (λ (k : ℕ). c < k) (sym cores) l)
      | inr past ↦
          get_or_past (mixed q.l1s us then).l1s c no_l1 (subst (λ (k : ℕ). k ≤ c) (sym (length_mixed q.l1s us then.l1s ∙ cores)) past)
          ∙ sym (get_or_past q.l1s c no_l1 (subst (λ (k : ℕ). k ≤ c) (sym like.count) past))
    ] in (
      ap (λ (b : Bank). touched_by b core request) is ∙ all.touched,
      ap (λ (b : Bank). bank_reply b core request) is ∙ all.reply,
      ap (λ (b : Bank). met_at_bank b core request) is ∙ all.met,
      ap (λ (b : Bank). b.home) after,
      ap (λ (b : Bank). length b.l1s) after ∙ (length_mixed q.l1s us then.l1s ∙ (cores ∙ sym like.count)),
      λ c h. ap (λ (b : Bank). l1_of b c) after ∙ get_kept q.l1s us then.l1s c (apart_in touched us apart c h),
      λ c h. ap (λ (b : Bank). l1_of b c) after ∙ left_as_it_is c h,
    )
