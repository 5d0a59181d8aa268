-- Where the loop does not go on, nothing was done.
use Rattle.std.proofs.Common.{◌≡◌, ℕ, List, Option, None, Some, IsTrue, refl, subst, sym}
use Rattle.std.specs.Prelude.{slice_get, IfSome}
use Rattle.rv_blocks.specs.declared.flow.Flow.{Flow}
use Rattle.rv_blocks.specs.declared.flow.Flow.TheVariants.{On, To, Load, Store, Apart}
use Rattle.rv_blocks.specs.declared.slot.Slot.{Slot}
use Rattle.rv_blocks.specs.Flows.{is_apart, placed_by, AccessesAt, AccessesBy}

pub stops : (flow : Flow) (place : ℕ) (registers : List ℕ) → (flow ≡ On → ⊥) → ((next : ℕ) → flow ≡ To next → ⊥) → (placed_by flow place registers ≡ None) × IsTrue (is_apart flow)
stops On place registers on to = absurd (on refl)
stops (To next) place registers on to = absurd (to next refl)
stops Load place registers on to = (refl, refl)
stops Store place registers on to = (refl, refl)
stops Apart place registers on to = (refl, refl)

-- the slot at a place is one as it says
pub accesses_at : (slots : List Slot) (place : ℕ) (slot : Slot) (flow : Flow) → slice_get slots place ≡ Some slot → AccessesBy flow slot.op → AccessesAt slots place flow
accesses_at slots place slot flow here access = subst (λ (o : Option Slot). IfSome o (λ s. AccessesBy flow s.op)) (sym here) access
