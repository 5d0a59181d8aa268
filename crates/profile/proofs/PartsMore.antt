-- The parts of a profile after one step more.
use Rattle.std.proofs.Common.{◌≡◌, ℕ, Bool, List, [], ◌∷◌, ◌++◌, map, refl, sym, ◌∙◌, ap, subst, append-nil, append_assoc}
use Rattle.std.specs.List.{zip}
use Rattle.std.proofs.lemmas.List.Elements.{filter-append}
use Rattle.zs_num.specs.declared.entry.Entry.{Entry}
use Rattle.event_graph.specs.declared.event.Event.{Event}
use Rattle.event_graph.specs.declared.fired.Fired.{Fired}
use Rattle.shard.specs.declared.leaving.Leaving.{Leaving}
use Rattle.stats.specs.Counts.{Interval}
use Rattle.trace.specs.Trace.{Accessed, Ended, Executed, Step}
use Rattle.profile.specs.declared.contribution.Contribution.{Contribution}
use Rattle.profile.specs.declared.contribution.Maker.{Maker}
use Rattle.profile.specs.declared.parts.Parts.{Parts}
use Rattle.profile.specs.declared.rows.Rows.{Rows}
use Rattle.profile.specs.Contributions.{Before, access_adds, after_steps, contributions, nothing_before, suffering, suffers, wait_adds}
use Rattle.profile.specs.Copies.{Copies, copies_after, copy_after}
use Rattle.profile.specs.CopyTables.{copies_in}
use Rattle.profile.specs.Makers.{of_core, queue_at}
use Rattle.profile.specs.Parts.{AreParts, IsServing}
use Rattle.profile.specs.Rows.{AreRows}
use Rattle.profile.specs.Waits.{event_waits, makers_of}
use Rattle.profile.proofs.Serving.{all_served}
use Rattle.profile.proofs.StepsMore.{adds_more, after_more, same_copies}

module _ (time : Entry → ℕ) (cores : ℕ) (steps : List Step) (old new : Parts) (parts : AreParts time cores steps old) where
  abbrev before : Before
  before = after_steps nothing_before steps

  abbrev old_copies : Copies
  old_copies = copies_in old.copies.of_data.items old.copies.of_instructions.items

  abbrev new_copies : Copies
  new_copies = copies_in new.copies.of_data.items new.copies.of_instructions.items

  module _ (pc : ℕ) (e : Entry) (leaving : Leaving) (adds : Contribution)
      (adds_is : adds ≡ access_adds time cores old_copies pc e)
      (added_rows : Rows)
      (added : (cs : List Contribution) → AreRows cs old.rows.addresses.items old.rows.lines.items → AreRows (cs ++ adds ∷ []) added_rows.addresses.items added_rows.lines.items)
      (suffered : (cs : List Contribution) → AreRows cs added_rows.addresses.items added_rows.lines.items → AreRows (cs ++ map (suffers e) (suffering cores old_copies e)) new.rows.addresses.items new.rows.lines.items)
      (passed : (f : Bool) (c n : ℕ) → new_copies f c n ≡ copy_after e leaving f c n (old_copies f c n))
      (put : (c : ℕ) → queue_at new.makers.items c ≡ queue_at old.makers.items c ++ of_core c (makers_of pc e)) where
    abbrev step : Step
    step = Accessed pc e leaving

    pub access_more : AreParts time cores (steps ++ step ∷ []) new
    access_more = record {
      copies =
          same_copies new_copies (copies_after e leaving before.copies) (λ f c n. passed f c n ∙ ap (λ (k : Copies). copy_after e leaving f c n (k f c n)) parts.copies)
          ∙ sym (ap (λ (b : Before). b.copies) (after_more nothing_before steps step));
      makers = λ c.
          put c ∙ ap (λ (ms : List Maker). ms ++ of_core c (makers_of pc e)) (parts.makers c) ∙ sym (filter-append _ before.makers (makers_of pc e))
          ∙ sym (ap (λ (b : Before). of_core c b.makers) (after_more nothing_before steps step));
      rows = subst (λ (cs : List Contribution). AreRows cs new.rows.addresses.items new.rows.lines.items)
          (append_assoc (contributions time cores steps) (adds ∷ []) (map (suffers e) (suffering cores old_copies e))
          ∙ ap (λ (c : Contribution). contributions time cores steps ++ c ∷ map (suffers e) (suffering cores old_copies e)) adds_is
          ∙ ap (λ (k : Copies). contributions time cores steps ++ access_adds time cores k pc e ∷ map (suffers e) (suffering cores k e)) parts.copies
          ∙ sym (adds_more time cores nothing_before steps step))
          (suffered (contributions time cores steps ++ adds ∷ []) (added (contributions time cores steps) parts.rows));
    }

  module _ (entries : List Entry) (events : List Event) (fired : List Fired) (delays : List ℕ) (left : List (Event × Fired))
      (none_left : left ≡ [])
      (served : (whole : List Contribution) → IsServing whole (zip events fired) old → IsServing whole left new)
      (kept : new.copies ≡ old.copies)
      (cleared : Parts) (same_rows : cleared.rows ≡ new.rows) (same_copies_there : cleared.copies ≡ new.copies)
      (gone : (c : ℕ) → queue_at cleared.makers.items c ≡ []) where
    abbrev last : Interval
    last = record { entries = entries; events = events; fired = fired; delays = delays }

    abbrev whole : List Contribution
    whole = contributions time cores steps ++ map wait_adds (event_waits before.makers (zip events fired))

    pub end_more : AreParts time cores (steps ++ Ended last ∷ []) cleared
    end_more = record {
      copies = ap (λ c. copies_in c.of_data.items c.of_instructions.items) (same_copies_there ∙ kept) ∙ parts.copies ∙ sym (ap (λ (b : Before). b.copies) (after_more nothing_before steps (Ended last)));
      makers = λ c. gone c ∙ sym (ap (λ (b : Before). of_core c b.makers) (after_more nothing_before steps (Ended last)));
      rows = subst (λ (cs : List Contribution). AreRows cs cleared.rows.addresses.items cleared.rows.lines.items) (sym (adds_more time cores nothing_before steps (Ended last)))
          (subst (λ r. AreRows whole r.addresses.items r.lines.items) (sym same_rows)
          (all_served whole left new none_left (served whole (record { makers = before.makers; cs = contributions time cores steps; queues = parts.makers; rows = parts.rows; is = refl }))));
    }

  -- an instruction changes none of them
  pub executed_more : (core pc : ℕ) → AreParts time cores (steps ++ Executed core pc ∷ []) old
  executed_more core pc = record {
    copies = parts.copies ∙ sym (ap (λ (b : Before). b.copies) (after_more nothing_before steps (Executed core pc)));
    makers = λ c. parts.makers c ∙ sym (ap (λ (b : Before). of_core c b.makers) (after_more nothing_before steps (Executed core pc)));
    rows = subst (λ (cs : List Contribution). AreRows cs old.rows.addresses.items old.rows.lines.items)
        (sym (append-nil (contributions time cores steps)) ∙ sym (adds_more time cores nothing_before steps (Executed core pc))) parts.rows;
  }
