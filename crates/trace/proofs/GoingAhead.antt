-- A core that goes ahead within its turn, without an access, and what is told of it.
use Rattle.std.proofs.Common.{◌≡◌, ℕ, ◌<◌, ◌≤◌, List, [], ◌∷◌, ◌++◌, length, false, Some, append_assoc, refl, sym, ◌∙◌, ap, subst, arith}
use Rattle.std.specs.Prelude.{is_some, slice_get, slice_set}
use Rattle.std.proofs.lemmas.Option.{slice_get-get_or, slice_get_within}
use Rattle.zs_num.specs.declared.entry.Entry.{Entry}
use Rattle.elf_load.specs.MemoryImage.{MemoryImage}
use Rattle.rv_core.specs.Told.{Told}
use Rattle.bound_core.specs.NumberedCores.{NumberedCore}
use Rattle.bound_core.specs.ReferenceMachine.{BoundState}
use Rattle.bound_core.specs.ShardPort.{base_of, l1i_of, size_of}
use Rattle.bound_core.specs.ShardWorld.{ShardWorld}
use Rattle.bound_core.specs.Taken.{Settles, TakesThese}
use Rattle.bound_core.specs.TimedCore.{TimedCore}
use Rattle.bound_core.specs.ToldTurns.{TellsTurns}
use Rattle.trace.specs.Port.{Gives, LoggedPortState}
use Rattle.trace.specs.Trace.{Step, steps_alone}
use Rattle.trace.specs.Turns.{GoesAhead, HaveTaken, TakesHits, chosen}
use Rattle.trace.specs.Ways.{told_steps}
use Rattle.trace.proofs.TakingHits.{ahead_taken, as_chosen, left_of, logged_of, not_over, settled_way}
use Rattle.trace.proofs.WayTold.{alone_behind}

module _ (time : Entry → ℕ) (image : MemoryImage) (end : ℕ) where
  -- A core of this number went on by instructions alone, the port is as it was, and what was told and is left to tell of the
  -- turn is the same.
  pub record HasSettled (number : ℕ) (port port_after : LoggedPortState) (core after : NumberedCore) (steps steps_after : List Step) : Type 0 where
    pub settles : Settles time image end Gives core.timed after.timed
    pub number_is : after.number ≡ core.number
    pub spare : after.spare ≡ core.spare
    pub same : chosen port_after number ≡ chosen port number
    pub tells : steps_after ++ steps_alone image end number after.timed ≡ steps ++ steps_alone image end number core.timed

  -- one that stays where it is
  pub stays : (number : ℕ) (port : LoggedPortState) (core : NumberedCore) (steps : List Step) → HasSettled number port port core core steps steps
  stays number port core steps = record {
    settles = record { ran = refl; begun = omega arith; not_later = omega arith; fewer = omega arith; memory = refl; fetching = refl };
    number_is = refl;
    spare = refl;
    same = refl;
    tells = refl;
  }

  module _ (number : ℕ) (port : LoggedPortState) (core : NumberedCore) (steps : List Step) (between : LoggedPortState) (mid : NumberedCore) (steps_between : List Step) (last : LoggedPortState) (after : NumberedCore) (steps_after : List Step) where
    -- one after the other
    pub further : HasSettled number port between core mid steps steps_between → HasSettled number between last mid after steps_between steps_after → HasSettled number port last core after steps steps_after
    further one two =
        let first = one.settles in
        let then = two.settles in
        record {
          settles = record {
            ran = then.ran ∙ first.ran;
            begun = (let a = first.begun in let b = then.begun in omega (arith, a, b));
            not_later = (let a = first.not_later in let b = then.not_later in omega (arith, a, b));
            fewer = (let a = first.fewer in let b = then.fewer in omega (arith, a, b));
            memory = then.memory ∙ first.memory;
            fetching = then.fetching ∙ first.fetching;
          };
          number_is = two.number_is ∙ one.number_is;
          spare = two.spare ∙ one.spare;
          same = two.same ∙ one.same;
          tells = two.tells ∙ one.tells;
        }

  -- what is told of no turn is of the one that follows
  none_tells : (number : ℕ) (told : List Told) (core after : TimedCore) (steps steps_after : List Step) → TellsTurns time image end told [] core after → steps_after ≡ steps ++ told_steps number told []
      → steps_after ++ steps_alone image end number after ≡ steps ++ steps_alone image end number core
  none_tells number told core after steps steps_after tells are =
      ap (λ (all : List Step). all ++ steps_alone image end number after) are
      ∙ (append_assoc steps (told_steps number told []) (steps_alone image end number after)
      ∙ ap (λ (all : List Step). steps ++ all)
      (sym (alone_behind number image end told [] after) ∙ (ap (λ (t : List Told). told_steps number t []) tells ∙ alone_behind number image end [] [] core)))

  no_entry : (number : ℕ) (entries : List Entry) (told : List Told) (port port_after : LoggedPortState) (core after : NumberedCore) (steps steps_after : List Step) → length entries ≡ 0 → core.number ≡ number
      → TakesThese time image end Gives logged_of core.number entries (chosen port number) port_after core.timed after.timed → TellsTurns time image end told entries core.timed after.timed
      → steps_after ≡ steps ++ told_steps core.number told entries → after.number ≡ core.number → after.spare ≡ core.spare → HasSettled number port port_after core after steps steps_after
  no_entry number [] told port port_after core after steps steps_after none own these tells are number_is spare = record {
    settles = these.1;
    number_is = number_is;
    spare = spare;
    same = ap (λ (p : LoggedPortState). chosen p number) these.0;
    tells = none_tells number told core.timed after.timed steps steps_after tells (are ∙ ap (λ (n : ℕ). steps ++ told_steps n told []) own);
  }
  no_entry number (e ∷ entries) told port port_after core after steps steps_after none own these tells are number_is spare = absurd (omega (arith, none))

  -- a core that takes no turn
  pub no_turn : (number most count : ℕ) (port port_after : LoggedPortState) (core after : NumberedCore) (steps steps_after : List Step) → count ≤ 0 → core.number ≡ number
      → TakesHits time image end most count (chosen port number) port_after core after steps steps_after → HasSettled number port port_after core after steps steps_after
  no_turn number most count port port_after core after steps steps_after none own t =
      let many = t.many in
      no_entry number t.entries t.told port port_after core after steps steps_after (omega (arith, many, none)) own t.these t.tells t.are t.number t.spare

  -- where the core was not over it has gone ahead
  pub gone : (port port_after : LoggedPortState) (core after : NumberedCore) (steps steps_after : List Step) → is_some core.timed.core.halted ≡ false → core.timed.clock < end
      → HasSettled core.number port port_after core after steps steps_after → GoesAhead image end port port_after core after steps steps_after
  gone port port_after core after steps steps_after going early h = record {
    ran = h.settles.ran;
    stays = λ base size l1i left way. settled_way time image end core after h.settles h.spare base size l1i left (not_over end left core.timed going early way.few) way;
    same = h.same;
    number = h.number_is;
    tells = h.tells;
  }

-- the turns so far are those of a core that has gone ahead, too
pub ahead_keeps : (time : Entry → ℕ) (image : MemoryImage) (end most : ℕ) (first : BoundState ShardWorld) (number : ℕ) (turns : List ℕ) (cores : List NumberedCore) (port port_after : LoggedPortState)
    → HaveTaken time image end most first turns cores port → (core after : NumberedCore) (steps steps_after : List Step) → slice_get cores number ≡ Some core
    → GoesAhead image end port port_after core after steps steps_after → HaveTaken time image end most first turns (slice_set cores number after) port_after
ahead_keeps time image end most first number turns cores port port_after h core after steps steps_after here goes =
    let count = h.count in
    let within = slice_get_within cores number core here in
    let left_here : slice_get h.left number ≡ Some (left_of h number) = slice_get-get_or h.left number 0 (omega (arith, within, count)) in
    let own = goes.stays (base_of port.world) (size_of port.world) (l1i_of port.world) (left_of h number) (h.each number (left_of h number) core left_here here) in
    let cores_after : List NumberedCore = slice_set cores number after in
    let ahead : HaveTaken time image end most first turns cores_after port = ahead_taken time image end most first number turns cores port h core after here goes.ran goes.number own in
    let there : HaveTaken time image end most first turns cores_after (chosen port_after core.number) =
    subst (λ (p : LoggedPortState). HaveTaken time image end most first turns cores_after p) (sym goes.same) (as_chosen time image end most first turns cores_after port core.number ahead)
    in
    record {
      reaches = there.reaches;
      left = there.left;
      count = there.count;
      each = there.each;
      few = there.few;
      room = there.room;
      numbered = there.numbered;
      stamps = there.stamps;
      starts = there.starts;
    }
