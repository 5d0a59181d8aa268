-- What can be asked where there are instruction caches only if it is wanted can be asked where there are.
use Rattle.std.proofs.Common.{ℕ, Bool, IsTrue}
use Rattle.zs_num.specs.Servable.{IsServable, MayFetch}
use Rattle.zs_num.specs.declared.request.Request.{Request}
use Rattle.zs_num.specs.declared.request.Request.TheVariants.{Load, Store, Lr, Sc, Amo, Fetch}

may_more : (l1i more : Bool) → (IsTrue l1i → IsTrue more) → (request : Request) → MayFetch l1i request → MayFetch more request
may_more l1i more has (Load width addr) may = tt
may_more l1i more has (Store width addr value) may = tt
may_more l1i more has (Lr width addr) may = tt
may_more l1i more has (Sc width paired addr value) may = tt
may_more l1i more has (Amo width op addr value) may = tt
may_more l1i more has (Fetch addr) may = has may

pub more_servable : (base size : ℕ) (l1i more : Bool) (request : Request) → (IsTrue l1i → IsTrue more) → IsServable base size l1i request → IsServable base size more request
more_servable base size l1i more request has can = record {
  some = can.some;
  few = can.few;
  begins = can.begins;
  ends = can.ends;
  in_line = can.in_line;
  aligned = can.aligned;
  fetched = may_more l1i more has request can.fetched;
}
