-- What a core has reserved after accesses of other cores.
use Rattle.std.proofs.Common.{◌≡◌, ◌≢◌, ◌==◌, ◌∙◌, ℕ, Bool, true, false, cond, Option, Some, None, inl, inr, refl, sym, ap}
use Rattle.std.proofs.lemmas.Bool.Decides.{eqb_tells}
use Rattle.std.proofs.lemmas.List.{get_or-set_other}
use Rattle.zs_num.specs.declared.request.Request.TheVariants.{Load, Store, Lr, Sc, Amo, Fetch}
use Rattle.flat_memory.specs.declared.reservation.Reservation.{Reservation}
use Rattle.flat_memory.specs.FlatMemory.{MemoryState, is_reserved, reserving, unless_written, written}
use Rattle.flat_memory.specs.Laws.{reservation_of, OthersEndByWrites}
use Rattle.flat_memory.proofs.AfterWrite.{after_write-at}

differ : (core other : ℕ) → other ≢ core → (core == other) ≡ false
differ core other apart =
    elim (eqb_tells core other) [
      | inl (is, same) ↦ absurd (apart (sym same))
      | inr (is, different) ↦ is
    ]

-- another core wrote
after_others : (memory : MemoryState) (core other addr width value : ℕ) → other ≢ core
    → reservation_of (written memory other addr width value) core ≡ unless_written false addr (reservation_of memory core)
unfolding written
after_others memory core other addr width value apart =
    after_write-at other addr memory.reservations core ∙ ap (λ b. unless_written b addr (reservation_of memory core)) (differ core other apart)

-- another core's reservation was set, or ended
others_keep : (memory : MemoryState) (core other : ℕ) (reservation : Option Reservation) → other ≢ core
    → reservation_of (reserving memory other reservation) core ≡ reservation_of memory core
others_keep memory core other reservation apart =
    get_or-set_other memory.reservations other core reservation None (λ same. apart (sym same))

-- another core's store-conditional stored, or not
after_conditional : (memory : MemoryState) (core other addr width value : ℕ) (stores : Bool) → other ≢ core
    → reservation_of (cond stores (reserving (written memory other addr width value) other None) (reserving memory other None)) core
    ≡ cond stores (unless_written false addr (reservation_of memory core)) (reservation_of memory core)
after_conditional memory core other addr width value true apart =
    others_keep (written memory other addr width value) core other None apart ∙ after_others memory core other addr width value apart
after_conditional memory core other addr width value false apart = others_keep memory core other None apart

pub others_end_by_writes : OthersEndByWrites
others_end_by_writes memory core other (Load width addr) apart = refl
others_end_by_writes memory core other (Store width addr value) apart = after_others memory core other addr width value apart
others_end_by_writes memory core other (Lr width addr) apart = others_keep memory core other (Some (record { addr = addr; width = width })) apart
others_end_by_writes memory core other (Sc width paired addr value) apart =
    after_conditional memory core other addr width value (is_reserved memory other addr width) apart
others_end_by_writes memory core other (Amo width op addr value) apart = after_others memory core other addr width _ apart
others_end_by_writes memory core other (Fetch addr) apart = refl
