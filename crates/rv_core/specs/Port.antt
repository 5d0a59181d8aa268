-- What a port says of the accesses that go through it.
use Rattle.std.specs.Prelude.{◌≡◌, ℕ, List, [], ◌∷◌, ◌++◌, Option, Some, None}
use Rattle.zs_num.specs.declared.entry.Entry.{Entry}
use Rattle.zs_num.specs.declared.entry.Outcome.TheVariants.{Hit}
use Rattle.zs_num.specs.declared.request.Request.{Request}

-- the entries so far, where they are logged, gain these
abbrev pub Gains : (logged : Option (List Entry)) → (entries : List Entry) → (logged_after : Option (List Entry)) → Type 0
Gains None entries logged_after = logged_after ≡ None
Gains (Some before) entries logged_after = logged_after ≡ Some (before ++ entries)

-- The port of the core of a number, which `core_of` says, gave this reply to a request that starts then, as a hit.
-- `gives` says which entry, and which port after it, may come of a request, and `logged_of` the entries so far, where it
-- logs them.
pub record IsHit {Port : Type 0} (gives : Port → (start : ℕ) → Request → Entry → Port → Type 0) (core_of : Port → ℕ) (logged_of : Port → Option (List Entry))
    (port : Port) (start : ℕ) (request : Request) (reply : ℕ) (port_after : Port) : Type 0 where
  pub entry : Entry
  pub given : gives port start request entry port_after
  pub core : entry.core ≡ core_of port
  pub starts : entry.start ≡ start
  pub asked : entry.request ≡ request
  pub replied : entry.reply ≡ reply
  pub hit : entry.outcome ≡ Hit
  pub logged : Gains (logged_of port) (entry ∷ []) (logged_of port_after)
  pub same : core_of port_after ≡ core_of port
