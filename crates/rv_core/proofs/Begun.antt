-- What a core keeps that has begun an instruction of one access.
use Rattle.std.proofs.Common.{◌≡◌, Option, Some, None, refl}
use Rattle.rv_core.specs.declared.single.Single.{Single}
use Rattle.rv_core.specs.CoreState.{CoreState}
use Rattle.rv_core.specs.Single.{begun_if}

pub begun-fetched : (met : Option Single) (core : CoreState) → (begun_if met core).is_fetched ≡ core.is_fetched
begun-fetched None core = refl
begun-fetched (Some single) core = refl

pub begun-memory : (met : Option Single) (core : CoreState) → (begun_if met core).memory ≡ core.memory
begun-memory None core = refl
begun-memory (Some single) core = refl

pub begun-fetching : (met : Option Single) (core : CoreState) → (begun_if met core).fetching ≡ core.fetching
begun-fetching None core = refl
begun-fetching (Some single) core = refl
