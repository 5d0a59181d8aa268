-- When the parts of a profile are right, and while the events of an interval are served.
use Rattle.std.specs.Prelude.{◌≡◌, ℕ, List, ◌++◌, map}
use Rattle.zs_num.specs.declared.entry.Entry.{Entry}
use Rattle.event_graph.specs.declared.event.Event.{Event}
use Rattle.event_graph.specs.declared.fired.Fired.{Fired}
use Rattle.trace.specs.Trace.{Step}
use Rattle.profile.specs.declared.contribution.Contribution.{Contribution}
use Rattle.profile.specs.declared.contribution.Maker.{Maker}
use Rattle.profile.specs.declared.parts.Parts.{Parts}
use Rattle.profile.specs.Contributions.{after_steps, contributions, nothing_before, wait_adds}
use Rattle.profile.specs.CopyTables.{copies_in}
use Rattle.profile.specs.Makers.{HaveMakers}
use Rattle.profile.specs.Rows.{AreRows}
use Rattle.profile.specs.Waits.{event_waits}

-- after these steps
pub record AreParts (time : Entry → ℕ) (cores : ℕ) (steps : List Step) (p : Parts) : Type 0 where
  pub copies : copies_in p.copies.of_data.items p.copies.of_instructions.items ≡ (after_steps nothing_before steps).copies
  pub makers : HaveMakers p.makers.items (after_steps nothing_before steps).makers
  pub rows : AreRows (contributions time cores steps) p.rows.addresses.items p.rows.lines.items

-- With the waits of these events that are left, all that was added is `whole`.
pub record IsServing (whole : List Contribution) (left : List (Event × Fired)) (p : Parts) : Type 0 where
  pub makers : List Maker
  pub cs : List Contribution
  pub queues : HaveMakers p.makers.items makers
  pub rows : AreRows cs p.rows.addresses.items p.rows.lines.items
  pub is : cs ++ map wait_adds (event_waits makers left) ≡ whole
