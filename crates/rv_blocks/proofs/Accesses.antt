-- The slots of loads and stores access as their instructions do.
use Rattle.std.proofs.Common.{◌≡◌, false, None, refl, IsTrue}
use Rattle.rv_decode.specs.declared.inst.Inst.{Inst}
use Rattle.rv_decode.specs.declared.name.Name.{Name}
use Rattle.rv_decode.specs.declared.name.Name.TheVariants as name
use Rattle.rv_core.specs.CoreState.{CoreState}
use Rattle.rv_core.specs.Effect.{effect, loads, stores}
use Rattle.rv_blocks.specs.declared.slot.Op.{Op}
use Rattle.rv_blocks.specs.declared.slot.Op.TheVariants as op
use Rattle.rv_blocks.specs.declared.slot.Slot.{Slot}
use Rattle.rv_blocks.specs.Slots.{Placed, Stretch, does, is_access, is_load, is_plain, is_signed, is_store, name_of, named, width_of, IsAccess}

pub loaded : (n : Name) → IsTrue (is_load n) → (i : Inst) (core : CoreState) → effect n i core ≡ loads (width_of n) (is_signed n) i core
unfolding effect
loaded name.Lb holds i core = refl
loaded name.Lh holds i core = refl
loaded name.Lw holds i core = refl
loaded name.Ld holds i core = refl
loaded name.Lbu holds i core = refl
loaded name.Lhu holds i core = refl
loaded name.Lwu holds i core = refl
loaded _ holds i core = cc

pub stored : (n : Name) → IsTrue (is_store n) → (i : Inst) (core : CoreState) → effect n i core ≡ stores (width_of n) i core
unfolding effect
stored name.Sb holds i core = refl
stored name.Sh holds i core = refl
stored name.Sw holds i core = refl
stored name.Sd holds i core = refl
stored _ holds i core = cc

-- a slot of another kind accesses nothing
pub no_access : (o : Op) → is_access o ≡ false → (after loaded stored : CoreState) → IsAccess o after loaded stored
no_access op.Load none after loaded stored = cc
no_access op.Store none after loaded stored = cc
no_access _ none after loaded stored = tt

ends_as : (o : Op) (other : Name) → IsTrue (is_access o) → is_plain (named o other) ≡ false
ends_as op.Load other access = refl
ends_as op.Store other access = refl
ends_as _ other access = cc

-- a load or a store ends its block
pub access_ends : (slot : Slot) → IsTrue (is_access slot.op) → is_plain (name_of slot) ≡ false
access_ends slot access = ends_as slot.op slot.name access

-- and so does any slot that does nothing
pub apart_ends : (n : Name) (stretch : Stretch) (slot : Slot) (s : Placed) → does n stretch slot s ≡ None → is_plain n ≡ false
unfolding does
apart_ends name.Sub stretch slot s none = cc
apart_ends name.Sll stretch slot s none = cc
apart_ends name.Slt stretch slot s none = cc
apart_ends name.Sltu stretch slot s none = cc
apart_ends name.Xor stretch slot s none = cc
apart_ends name.Srl stretch slot s none = cc
apart_ends name.Sra stretch slot s none = cc
apart_ends name.Or stretch slot s none = cc
apart_ends name.And stretch slot s none = cc
apart_ends name.Addw stretch slot s none = cc
apart_ends name.Subw stretch slot s none = cc
apart_ends name.Sllw stretch slot s none = cc
apart_ends name.Srlw stretch slot s none = cc
apart_ends name.Sraw stretch slot s none = cc
apart_ends name.Mul stretch slot s none = cc
apart_ends name.Mulh stretch slot s none = cc
apart_ends name.Mulhsu stretch slot s none = cc
apart_ends name.Mulhu stretch slot s none = cc
apart_ends name.Div stretch slot s none = cc
apart_ends name.Divu stretch slot s none = cc
apart_ends name.Rem stretch slot s none = cc
apart_ends name.Remu stretch slot s none = cc
apart_ends name.Mulw stretch slot s none = cc
apart_ends name.Divw stretch slot s none = cc
apart_ends name.Divuw stretch slot s none = cc
apart_ends name.Remw stretch slot s none = cc
apart_ends name.Remuw stretch slot s none = cc
apart_ends name.Addi stretch slot s none = cc
apart_ends name.Slti stretch slot s none = cc
apart_ends name.Sltiu stretch slot s none = cc
apart_ends name.Xori stretch slot s none = cc
apart_ends name.Ori stretch slot s none = cc
apart_ends name.Andi stretch slot s none = cc
apart_ends name.Slli stretch slot s none = cc
apart_ends name.Srli stretch slot s none = cc
apart_ends name.Srai stretch slot s none = cc
apart_ends name.Addiw stretch slot s none = cc
apart_ends name.Slliw stretch slot s none = cc
apart_ends name.Srliw stretch slot s none = cc
apart_ends name.Sraiw stretch slot s none = cc
apart_ends name.Add stretch slot s none = cc
apart_ends name.Lui stretch slot s none = cc
apart_ends name.Fence stretch slot s none = cc
apart_ends _ stretch slot s none = refl
