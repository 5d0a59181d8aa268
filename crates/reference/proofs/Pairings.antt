-- The pairings of cores, through the turn of one of them.
use Rattle.std.proofs.Common.{◌≡◌, ℕ, List, Option, Some, None, refl, sym, ◌∙◌, ap, subst}
use Rattle.std.specs.Prelude.{slice_get, slice_set}
use Rattle.std.specs.Option.{option_map}
use Rattle.std.proofs.lemmas.List.{map-set}
use Rattle.std.proofs.lemmas.Option.{get_or_from_slice_get, slice_get-map}
use Rattle.zs_num.specs.PairedRight.{IsPairedRight, pairing_of, pairings_after}
use Rattle.zs_num.specs.Pairing.{pairing_after}
use Rattle.zs_num.specs.declared.entry.Entry.{Entry}
use Rattle.zs_num.specs.declared.pairing.Pairing.{Pairing}
use Rattle.zs_num.specs.declared.request.Request.{Request}
use Rattle.elf_load.specs.MemoryImage.{MemoryImage}
use Rattle.rv_core.specs.CoreState.{CoreState, InProgress}
use Rattle.rv_core.specs.Sound.{IsSoundCore}
use Rattle.rv_core.specs.Step.{answered}
use Rattle.reference.specs.MachineOfShards.{pairings_of}
use Rattle.reference.specs.TimedCore.{TimedCore, asks, core_after_access, ran_to}
use Rattle.reference.proofs.CoreKept.{CoreLaws, StaysSound, ran_stays_sound, waits_for}

pub pairing_at : (cores : List TimedCore) (number : ℕ) (c : TimedCore) → slice_get cores number ≡ Some c → pairing_of (pairings_of cores) number ≡ c.core.pairing
pairing_at cores number c here =
    get_or_from_slice_get (pairings_of cores) number c.core.pairing None
    (slice_get-map (λ (x : TimedCore). x.core.pairing) cores number ∙ ap (option_map (λ (x : TimedCore). x.core.pairing)) here)

pub core_after : (time : Entry → ℕ) (e : Entry) (c : TimedCore) → (core_after_access time e c).core ≡ answered e.reply c.core
unfolding core_after_access
core_after time e c = refl

-- a turn of a sound core
module _ (laws : CoreLaws) (image : MemoryImage) (end : ℕ) (cores : List TimedCore) (number : ℕ) (c : TimedCore) (here : slice_get cores number ≡ Some c) (sound : IsSoundCore c.core) (request : Request) (asked : asks (ran_to image end c) ≡ Some request) where
  -- the core as it asks
  abbrev ran : TimedCore
  ran = ran_to image end c

  stays : StaysSound c.core ran.core
  stays = ran_stays_sound laws image end c sound

  waiting : (now : InProgress) × (ran.core.instruction ≡ Some now) × (now.next ≡ request)
  waiting = waits_for ran.core.instruction request asked

  -- the access says rightly whether it is paired
  pub turn_right : IsPairedRight (pairing_of (pairings_of cores) number) request
  turn_right =
      let own : IsPairedRight ran.core.pairing waiting.0.next = laws.paired_right ran.core waiting.0 stays.sound waiting.1 in
      let first : IsPairedRight c.core.pairing waiting.0.next = subst (λ (p : Option Pairing). IsPairedRight p waiting.0.next) stays.pairing own in
      subst (λ (p : Option Pairing). IsPairedRight p request) (sym (pairing_at cores number c here)) (subst (IsPairedRight c.core.pairing) waiting.2 first)

  -- whatever its entry is
  module _ (time : Entry → ℕ) (e : Entry) where
    abbrev after : TimedCore
    after = core_after_access time e ran

    pub turn_sound : IsSoundCore after.core
    turn_sound = subst IsSoundCore (sym (core_after time e ran)) (laws.answered_sound e.reply ran.core stays.sound)

    pairing_left : after.core.pairing ≡ pairing_after (pairing_of (pairings_of cores) number) request
    pairing_left =
        ap (λ (core : CoreState). core.pairing) (core_after time e ran)
        ∙ laws.answered_pairing e.reply ran.core waiting.0 stays.sound waiting.1
        ∙ ap (λ (x : Request). pairing_after ran.core.pairing x) waiting.2
        ∙ ap (λ (x : Option Pairing). pairing_after x request) stays.pairing
        ∙ ap (λ (x : Option Pairing). pairing_after x request) (sym (pairing_at cores number c here))

    pub turn_pairings : pairings_after (pairings_of cores) number request ≡ pairings_of (slice_set cores number after)
    turn_pairings =
        ap (λ (x : Option Pairing). slice_set (pairings_of cores) number x) (sym pairing_left)
        ∙ sym (map-set (λ (x : TimedCore). x.core.pairing) cores number after)
