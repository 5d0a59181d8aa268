-- The first of the stubs, by the first keys of the two queues.
use Rattle.std.proofs.Common.{◌≡◌, ◌+◌, Option, Some, None, false, sym, ◌∙◌, subst, refl, inl, inr}
use Rattle.std.proofs.lemmas.Option.{same_Some, none-some}
use Rattle.std.specs.Prelude.{IfNone, IfSome, slice_get}
use Rattle.zs_num.specs.KeyOrder.{is_key_before}
use Rattle.zs_num.specs.declared.time.Key.{Key}
use Rattle.weave_core.specs.Stubs.{IsFirstStub, NoneOpen}
use Rattle.weave_core.specs.Waits.{key_of}
use Rattle.weave_core.proofs.Queued.{first_by_floor, first_by_word, floor_small, none_open}
use Rattle.weave_core.proofs.incoming.first_of.Goals as goal

if_some : (o : Option Key) (P : Key → Type 0) → ((k : Key) → o ≡ Some k → P k) → IfSome o P
if_some None P h = tt
if_some (Some k) P h = h k refl

if_none : (o : Option Key) (P : Type 0) → (o ≡ None → P) → IfNone o P
if_none None P h = h refl
if_none (Some k) P h = tt

pub after_floor-requires : goal.after_floor-requires
after_floor-requires c =
    floor_small c.args.stubs.now c.args.floor c.args.by_floor.now c.args.by_word.now c.requires.queued c.in-Some-None.key (sym c.first.ensures.first ∙ c.in-Some-None.is-0)

pub after_floor-requires-in-Some-Some : goal.after_floor-requires-in-Some-Some
after_floor-requires-in-Some-Some c =
    floor_small c.args.stubs.now c.args.floor c.args.by_floor.now c.args.by_word.now c.requires.queued c.in-Some-Some.key (sym c.first.ensures.first ∙ c.in-Some-Some.is-0)

pub returns-in-None-default-clause-first : goal.returns-in-None-default-clause-first
returns-in-None-default-clause-first c =
    if_some c.first-key.result (IsFirstStub (record { stubs = c.args.stubs.now; floor = c.args.floor }))
    (λ k e.
    first_by_word c.args.stubs.now c.args.floor c.args.by_floor.now c.args.by_word.now c.requires.queued k (sym c.first-key.ensures.first ∙ e)
    (λ g h. absurd (none-some g (sym (sym c.first.ensures.first ∙ c.in-None-default.is-0) ∙ h)))
    c.first.ensures.ascending c.first-key.ensures.ascending)

pub returns-in-None-default-clause-none : goal.returns-in-None-default-clause-none
returns-in-None-default-clause-none c =
    if_none c.first-key.result (NoneOpen (record { stubs = c.args.stubs.now; floor = c.args.floor }))
    (λ e. none_open c.args.stubs.now c.args.floor c.args.by_floor.now c.args.by_word.now c.requires.queued (sym c.first.ensures.first ∙ c.in-None-default.is-0) (sym c.first-key.ensures.first ∙ e))

pub returns-in-Some-None-clause-first : goal.returns-in-Some-None-clause-first
returns-in-Some-None-clause-first c =
    subst (λ (k : Key). IsFirstStub (record { stubs = c.args.stubs.now; floor = c.args.floor }) k) (sym c.after_floor.ensures)
    (first_by_floor c.args.stubs.now c.args.floor c.args.by_floor.now c.args.by_word.now c.requires.queued c.in-Some-None.key (sym c.first.ensures.first ∙ c.in-Some-None.is-0)
    (λ g h. absurd (none-some g (sym (sym c.first-key.ensures.first ∙ c.in-Some-None.is-1) ∙ h)))
    c.first.ensures.ascending c.first-key.ensures.ascending)

pub returns-in-Some-Some-clause-first : goal.returns-in-Some-Some-clause-first
returns-in-Some-Some-clause-first c =
    let a : slice_get c.args.by_floor.now.keys 0 ≡ Some c.in-Some-Some.key = sym c.first.ensures.first ∙ c.in-Some-Some.is-0 in
    let b : slice_get c.args.by_word.now.keys 0 ≡ Some c.in-Some-Some.other = sym c.first-key.ensures.first ∙ c.in-Some-Some.is-1 in
    let first : Key = key_of (c.args.floor + c.in-Some-Some.key.start) c.in-Some-Some.key.number in
    elim c.earlier.ensures.first [
      | inl is ↦
          let at : c.earlier.result ≡ first = is ∙ c.after_floor-in-Some-Some.ensures in
          subst (λ (k : Key). IsFirstStub (record { stubs = c.args.stubs.now; floor = c.args.floor }) k) (sym at)
          (first_by_floor c.args.stubs.now c.args.floor c.args.by_floor.now c.args.by_word.now c.requires.queued c.in-Some-Some.key a
          (λ g h. subst (λ (k : Key). is_key_before g k ≡ false) at (subst (λ (k : Key). is_key_before k c.earlier.result ≡ false) (same_Some c.in-Some-Some.other g (sym b ∙ h)) c.earlier.ensures.least.1))
          c.first.ensures.ascending c.first-key.ensures.ascending)
      | inr is ↦
          subst (λ (k : Key). IsFirstStub (record { stubs = c.args.stubs.now; floor = c.args.floor }) k) (sym is)
          (first_by_word c.args.stubs.now c.args.floor c.args.by_floor.now c.args.by_word.now c.requires.queued c.in-Some-Some.other b
          (λ g h. subst (λ (k : Key). is_key_before (key_of (c.args.floor + k.start) k.number) c.in-Some-Some.other ≡ false) (same_Some c.in-Some-Some.key g (sym a ∙ h))
          (subst (λ (k : Key). is_key_before k c.in-Some-Some.other ≡ false) c.after_floor-in-Some-Some.ensures (subst (λ (k : Key). is_key_before c.after_floor-in-Some-Some.result k ≡ false) is c.earlier.ensures.least.0)))
          c.first.ensures.ascending c.first-key.ensures.ascending)
    ]
