-- A turn of a core that was told up to its access.
use Rattle.std.proofs.Common.{◌≡◌, ◌⊎◌, ◌≤◌, ℕ, false, None, inl, inr, sym, ◌∙◌, ap, subst, arith}
use Rattle.std.specs.Prelude.{IsSome, is_some}
use Rattle.zs_num.specs.declared.entry.Entry.{Entry}
use Rattle.elf_load.specs.MemoryImage.{MemoryImage}
use Rattle.bound_core.specs.IntervalBounds.{latest_clock, most_accesses}
use Rattle.bound_core.specs.NumberedCores.{NumberedCore}
use Rattle.bound_core.specs.TimedCore.{TimedCore, asks, core_after_access, ran_to}
use Rattle.bound_core.specs.Turn.{IsOver}
use Rattle.reference.proofs.Instructions.{local_instructions_end, ran_again}
use Rattle.trace.specs.Port.{Gives, LoggedPortState}
use Rattle.trace.specs.Turns.{TakesAccess, TakesNone}

-- What the local instructions of a core keep, which it has behind it.
pub record HasRunAlone (image : MemoryImage) (end : ℕ) (before ran : NumberedCore) : Type 0 where
  pub is : ran.timed ≡ ran_to image end before.timed
  pub latest : latest_clock end ran.timed ≤ latest_clock end before.timed
  pub no_more : most_accesses end ran.timed ≤ most_accesses end before.timed
  pub number : ran.number ≡ before.number
  pub memory : ran.timed.core.memory ≡ before.timed.core.memory
  pub fetching : ran.timed.core.fetching ≡ before.timed.core.fetching
  pub spare : ran.spare ≡ before.spare

module _ (image : MemoryImage) (end : ℕ) (before ran : NumberedCore) (h : HasRunAlone image end before ran) where
  pub stands : ran_to image end ran.timed ≡ ran.timed
  stands = ap (ran_to image end) h.is ∙ ran_again image end before.timed ∙ sym h.is

  same : ran_to image end ran.timed ≡ ran_to image end before.timed
  same = stands ∙ h.is

  -- its access then is that of its turn
  pub from_before : (time : Entry → ℕ) (port port_after : LoggedPortState) (after : NumberedCore) (e : Entry)
      → TakesAccess time image end port port_after ran after e → TakesAccess time image end port port_after before after e
  from_before time port port_after after e t = record {
    turn = record {
      request = t.turn.request;
      asked = ap asks (sym same) ∙ t.turn.asked;
      given = subst (λ (c : TimedCore). Gives port c.clock t.turn.request e port_after) same t.turn.given;
      left = t.turn.left ∙ ap (core_after_access time e) same;
    };
    own = t.own ∙ h.number;
    start = omega (arith, t.start, h.latest);
    fewer = omega (arith, t.fewer, h.no_more);
    not_later = omega (arith, t.not_later, h.latest);
    number = t.number ∙ h.number;
    memory = t.memory ∙ h.memory;
    fetching = t.fetching ∙ h.fetching;
    spare = omega (arith, t.spare, h.spare);
    base = t.base;
    size = t.size;
    l1i = t.l1i;
    room = t.room;
    logged = t.logged;
  }

  over_by : IsSome (asks (ran_to image end before.timed)) ⊎ IsOver end (ran_to image end before.timed) → asks (ran_to image end before.timed) ≡ None → IsOver end (ran_to image end before.timed)
  over_by (inl some) none = absurd (let not : is_some (asks (ran_to image end before.timed)) ≡ false = ap is_some none in cc)
  over_by (inr over) none = over

  -- and where it has none its turn takes none
  pub none_from_before : (port port_after : LoggedPortState) → asks ran.timed ≡ None → port_after ≡ port → TakesNone image end port port_after before ran
  none_from_before port port_after none kept =
      let asked : asks (ran_to image end before.timed) ≡ None = ap asks (sym h.is) ∙ none in
      record {
        ends = record { asked = asked; left = h.is; same = kept };
        over = subst (IsOver end) (sym h.is) (over_by (local_instructions_end image end before.timed) asked);
        not_later = h.latest;
        number = h.number;
        memory = h.memory;
        fetching = h.fetching;
        spare = h.spare;
      }
