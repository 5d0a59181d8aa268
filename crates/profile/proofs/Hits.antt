-- A hit adds to three numbers, and changes nothing of other cores.
use Rattle.std.proofs.Common.{◌≡◌, ℕ, ◌&&◌, Bool, true, false, List, [], ◌∷◌, ◌++◌, if◌then◌else◌, map, Some, refl, sym, ◌∙◌, ap, ap₂, subst, append-nil}
use Rattle.std.specs.Prelude.{◌||◌, count_by}
use Rattle.std.specs.List.{filter, range_with_len}
use Rattle.zs_num.specs.declared.entry.Entry.{Entry}
use Rattle.zs_num.specs.declared.entry.Outcome.{Outcome}
use Rattle.zs_num.specs.declared.entry.Outcome.TheVariants.{Hit, Upgrade, L2, Miss}
use Rattle.zs_num.specs.Request.{line_of}
use Rattle.zs_num.specs.declared.request.Request.{Request}
use Rattle.zs_num.specs.declared.request.Request.TheVariants.{Load, Store, Lr, Sc, Amo, Fetch}
use Rattle.shard.specs.declared.leaving.Leaving.{Leaving}
use Rattle.stats.specs.Counted.{is_hit}
use Rattle.trace.specs.Trace.{Accessed, Step}
use Rattle.profile.specs.declared.contribution.Contribution.{Contribution}
use Rattle.profile.specs.declared.contribution.Maker.{Maker}
use Rattle.profile.specs.declared.copies.CopyState.{CopyState}
use Rattle.profile.specs.declared.parts.Parts.{Parts}
use Rattle.profile.specs.declared.added.Hit.{Hit as HitAdded}
use Rattle.profile.specs.declared.added.Kind.{Kind}
use Rattle.profile.specs.Added.{Adds, kind_of, with_hit, with_wait}
use Rattle.profile.specs.Contributions.{access_adds, access_tally, suffering, suffers}
use Rattle.profile.specs.Copies.{Copies, changes_others, copy_after, downgrades, has_other, invalidates, own_copy, reads, taken_away, writes}
use Rattle.profile.specs.CopyTables.{copies_in}
use Rattle.profile.specs.Makers.{of_core, queue_at}
use Rattle.profile.specs.Parts.{AreParts}
use Rattle.profile.specs.Rows.{AreRows}
use Rattle.profile.specs.Waits.{makers_of}
use Rattle.profile_rows.specs.declared.tally.Tally.{Tally}
use Rattle.profile_rows.specs.Tallies.{capped_tally, no_tally, plus}
use Rattle.profile.proofs.PartsMore.{access_more}
use Rattle.profile.proofs.RowsMore.{capped_sum, capped_wide_sum, plus_zero}

and_false : (b : Bool) → (b && false) ≡ false
and_false true = refl
and_false false = refl

hit_is : (o : Outcome) → is_hit o ≡ true → o ≡ Hit
hit_is Hit is = refl
hit_is (Upgrade others) is = cc
hit_is (L2 others) is = cc
hit_is (Miss dirty) is = cc

-- the wait of an event adds to one number
pub wait_adds_up : (cycles : ℕ) → Adds (with_wait cycles) (record no_tally { waited = cycles })
unfolding capped_tally plus
wait_adds_up cycles t = simp (capped_wide_sum, plus_zero) refl

module _ (e : Entry) (is : is_hit e.outcome ≡ true) where
  outcome : e.outcome ≡ Hit
  outcome = hit_is e.outcome is

  takes_none : invalidates e ≡ false
  takes_none = ap (λ (o : Outcome). writes e.request && changes_others o) outcome ∙ and_false (writes e.request)

  lowers_none : downgrades e ≡ false
  lowers_none = ap (λ (o : Outcome). reads e.request && changes_others o) outcome ∙ and_false (reads e.request)

  none_suffers : (cores : ℕ) (copies : Copies) → suffering cores copies e ≡ []
  none_suffers cores copies = ap₂ (λ (a b : Bool). if a || b then filter (has_other copies e.core (line_of e.request)) (range_with_len 0 cores) else []) takes_none lowers_none

  none_taken : (cores : ℕ) (copies : Copies) → taken_away cores copies e ≡ 0
  none_taken cores copies = ap (λ (b : Bool). if b then count_by (has_other copies e.core (line_of e.request)) (range_with_len 0 cores) else 0) takes_none

  makes_none : (pc : ℕ) → makers_of pc e ≡ []
  makes_none pc =
      let maker : Maker = record { core = e.core; pc = pc; line = line_of e.request } in
      ap (λ (b : Bool). if b then [] else maker ∷ []) is

  by_kind : (copy : CopyState) (cycles : ℕ) (t : Tally) (r : Request) → e.request ≡ r → with_hit (kind_of r) cycles (capped_tally t) ≡ capped_tally (plus t (access_tally e copy 0 cycles))
  unfolding access_tally capped_tally plus
  by_kind copy cycles t (Load width addr) kind = rw (kind, outcome) (simp (capped_sum, plus_zero) refl)
  by_kind copy cycles t (Store width addr value) kind = rw (kind, outcome) (simp (capped_sum, plus_zero) refl)
  by_kind copy cycles t (Lr width addr) kind = rw (kind, outcome) (simp (capped_sum, plus_zero) refl)
  by_kind copy cycles t (Sc width paired addr value) kind = rw (kind, outcome) (simp (capped_sum, plus_zero) refl)
  by_kind copy cycles t (Amo width op addr value) kind = rw (kind, outcome) (simp (capped_sum, plus_zero) refl)
  by_kind copy cycles t (Fetch addr) kind = rw (kind, outcome) (simp (capped_sum, plus_zero) refl)

  -- what it adds
  pub hit_adds : (cores : ℕ) (copies : Copies) (hit : HitAdded) (cycles : ℕ) → hit.kind ≡ kind_of e.request → hit.cycles ≡ cycles
      → Adds (with_hit hit.kind hit.cycles) (access_tally e (own_copy copies e) (taken_away cores copies e) cycles)
  hit_adds cores copies hit cycles kind_is cycles_are =
      subst (λ (n : ℕ). Adds (with_hit hit.kind hit.cycles) (access_tally e (own_copy copies e) n cycles)) (sym (none_taken cores copies))
      (λ t. ap₂ (λ (k : Kind) (n : ℕ). with_hit k n (capped_tally t)) kind_is cycles_are ∙ by_kind (own_copy copies e) cycles t e.request refl)

  module _ (time : Entry → ℕ) (cores : ℕ) (steps : List Step) (old new : Parts) (parts : AreParts time cores steps old)
      (pc : ℕ) (leaving : Leaving) (line : ℕ) (hit : HitAdded) (line_is : line ≡ line_of e.request) (kind_is : hit.kind ≡ kind_of e.request) (cycles_are : hit.cycles ≡ time e)
      (added : (cs : List Contribution) (more : Tally) → Adds (with_hit hit.kind hit.cycles) more → AreRows cs old.rows.addresses.items old.rows.lines.items
      → AreRows (cs ++ record { core = e.core; pc = Some pc; line = line; tally = more } ∷ []) new.rows.addresses.items new.rows.lines.items)
      (passed : (f : Bool) (c n : ℕ) → copies_in new.copies.of_data.items new.copies.of_instructions.items f c n ≡ copy_after e leaving f c n (copies_in old.copies.of_data.items old.copies.of_instructions.items f c n))
      (same : new.makers ≡ old.makers) where
    abbrev copies : Copies
    copies = copies_in old.copies.of_data.items old.copies.of_instructions.items

    rows : (cs : List Contribution) → AreRows cs old.rows.addresses.items old.rows.lines.items → AreRows (cs ++ access_adds time cores copies pc e ∷ []) new.rows.addresses.items new.rows.lines.items
    rows cs are =
        subst (λ (n : ℕ). AreRows (cs ++ record { core = e.core; pc = Some pc; line = n; tally = access_tally e (own_copy copies e) (taken_away cores copies e) (time e) } ∷ []) new.rows.addresses.items new.rows.lines.items) line_is
        (added cs (access_tally e (own_copy copies e) (taken_away cores copies e) (time e))
        (hit_adds cores copies hit (time e) kind_is cycles_are) are)

    unsuffered : (cs : List Contribution) → AreRows cs new.rows.addresses.items new.rows.lines.items → AreRows (cs ++ map (suffers e) (suffering cores copies e)) new.rows.addresses.items new.rows.lines.items
    unsuffered cs are =
        subst (λ (others : List ℕ). AreRows (cs ++ map (suffers e) others) new.rows.addresses.items new.rows.lines.items) (sym (none_suffers cores copies))
        (subst (λ (all : List Contribution). AreRows all new.rows.addresses.items new.rows.lines.items) (sym (append-nil cs)) are)

    unmade : (c : ℕ) → queue_at new.makers.items c ≡ queue_at old.makers.items c ++ of_core c (makers_of pc e)
    unmade c =
        ap (λ ms. queue_at ms.items c) same ∙ sym (append-nil (queue_at old.makers.items c))
        ∙ ap (λ (ms : List Maker). queue_at old.makers.items c ++ of_core c ms) (sym (makes_none pc))

    pub hit_more : AreParts time cores (steps ++ Accessed pc e leaving ∷ []) new
    hit_more = access_more time cores steps old new parts pc e leaving (access_adds time cores copies pc e) refl new.rows rows unsuffered passed unmade
