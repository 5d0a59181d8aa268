-- The bound phase of an interval by the turns of a list.
use Rattle.std.proofs.Common.{◌≡◌, ℕ, ◌+◌, ◌*◌, ◌^◌, ◌≤◌, List, length, All, get_or, sym, ◌∙◌, ap, subst, arith}
use Rattle.std.proofs.lemmas.Option.{slice_get-get_or, slice_get_within}
use Rattle.elf_load.specs.MemoryImage.{MemoryImage}
use Rattle.machine_desc.specs.declared.machine.Machine.{Machine}
use Rattle.access_record.specs.Records.{IsInReach}
use Rattle.bound_core.specs.NumberedCores.{NumberedCore, timed_of}
use Rattle.bound_core.specs.Turn.{IsOver}
use Rattle.reference.proofs.Accesses.{clock_within}
use Rattle.bound_records.specs.CoreRuns.{access_time_of, phase_in}
use Rattle.bound_records.specs.Recorders.{RecorderState}
use Rattle.bound_records.specs.Turns.{HaveTaken}
use Rattle.bound_records.proofs.SameCores.{all_timed}
use Rattle.bound_records.proofs.TurnsBegin.{all_most}
use Rattle.bound_records.proofs.Whole.{HaveEnded}

fits_in_all : (cores interval : ℕ) → cores * (interval + 256) ≤ cores * (interval + 258)
fits_in_all cores interval = omega arith

pub ended_by_turns : (machine : Machine) (image : MemoryImage) (end : ℕ) (turns : List ℕ) (cores after : List NumberedCore) (r s : RecorderState)
    → length r.world.stamps ≡ length cores → length r.lists ≡ length cores → length after ≡ length cores → All (IsOver end) (timed_of after)
    → (h : HaveTaken (access_time_of machine) image end (all_most machine) r (phase_in cores r) turns after s) → HaveEnded machine image end turns h.taken cores after r s
ended_by_turns machine image end turns cores after r s stamps lists count over h =
    let begin_is : s.begin ≡ r.begin = ap (λ (x : RecorderState). x.begin) h.room.as_was in
    let base_is : s.base ≡ r.base = ap (λ (x : RecorderState). x.base) h.room.as_was in
    record {
      reaches = h.reaches;
      own = h.own;
      starts = h.starts;
      reach = subst (λ (b : ℕ). All (IsInReach s.begin b) h.taken) (sym base_is) (subst (λ (b : ℕ). All (IsInReach b r.base) h.taken) (sym begin_is) h.reach);
      few = (let f = h.room.few in let m = fits_in_all machine.cores machine.interval in omega (arith, f, m));
      count = count;
      numbered = h.numbered;
      over = over;
      clocks = all_timed (λ x. x.clock ≤ 2 ^ 57) after (λ i x here.
          let left = get_or h.left i 0 in
          let within = slice_get_within after i x here in
          let way = h.each i left x (slice_get-get_or h.left i 0 (omega (arith, within, h.count))) here in
          omega (arith, way.clock, clock_within end x.timed));
      stamps = h.room.stamps ∙ (count ∙ sym stamps);
      banks = h.room.banks;
      lists = h.room.lists ∙ (count ∙ sym lists);
      begin_is = begin_is;
      base_is = base_is;
      room_is = ap (λ (x : RecorderState). x.room) h.room.as_was;
    }
