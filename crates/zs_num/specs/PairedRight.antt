-- Accesses that are paired right: each store-conditional says rightly whether it is paired.
use Rattle.std.specs.Prelude.{◌≡◌, ℕ, List, [], ◌∷◌, slice_index_or, slice_set, Option, None}
use Rattle.zs_num.specs.declared.request.Request.{Request}
use Rattle.zs_num.specs.declared.request.Request.TheVariants.{Load, Store, Lr, Sc, Amo, Fetch}
use Rattle.zs_num.specs.declared.pairing.Pairing.{Pairing}
use Rattle.zs_num.specs.Pairing.{is_paired, pairing_after}

-- an access says of its core's pairing what it is
abbrev pub IsPairedRight : Option Pairing → Request → Type 0
IsPairedRight pairing (Load width addr) = Unit {0}
IsPairedRight pairing (Store width addr value) = Unit {0}
IsPairedRight pairing (Lr width addr) = Unit {0}
IsPairedRight pairing (Sc width paired addr value) = paired ≡ is_paired pairing addr width
IsPairedRight pairing (Amo width op addr value) = Unit {0}
IsPairedRight pairing (Fetch addr) = Unit {0}

-- ---- the accesses of one core

-- each of a core's accesses says of the pairing that those before it leave what it is
abbrev pub ArePairedRight : Option Pairing → List Request → Type 0
ArePairedRight pairing [] = Unit {0}
ArePairedRight pairing (request ∷ requests) = IsPairedRight pairing request × ArePairedRight (pairing_after pairing request) requests

-- the pairing that a list of accesses leaves
abbrev pub pairing_after_all : Option Pairing → List Request → Option Pairing
pairing_after_all pairing [] = pairing
pairing_after_all pairing (request ∷ requests) = pairing_after_all (pairing_after pairing request) requests

-- ---- the accesses of all cores, each with the number of its core

-- the pairing of a core, of those of all cores in order of their numbers
abbrev pub pairing_of : (pairings : List (Option Pairing)) → (core : ℕ) → Option Pairing
pairing_of pairings core = slice_index_or pairings core None

-- the cores' pairings after an access of one of them
abbrev pub pairings_after : (pairings : List (Option Pairing)) → (core : ℕ) → Request → List (Option Pairing)
pairings_after pairings core request = slice_set pairings core (pairing_after (pairing_of pairings core) request)

-- each access says of its core's pairing that those before it leave what it is
abbrev pub AreAllPairedRight : (pairings : List (Option Pairing)) → List (ℕ × Request) → Type 0
AreAllPairedRight pairings [] = Unit {0}
AreAllPairedRight pairings (access ∷ accesses) =
    IsPairedRight (pairing_of pairings access.0) access.1 × AreAllPairedRight (pairings_after pairings access.0 access.1) accesses

-- the pairings that a list of accesses leaves
abbrev pub pairings_after_all : (pairings : List (Option Pairing)) → List (ℕ × Request) → List (Option Pairing)
pairings_after_all pairings [] = pairings
pairings_after_all pairings (access ∷ accesses) = pairings_after_all (pairings_after pairings access.0 access.1) accesses
