-- The events file of a run.
use Rattle.std.proofs.Common.{◌≡◌, List, ℕ, Result, Ok, Err, refl, sym, ◌∙◌, ap, subst}
use Rattle.elf_load.specs.MemoryImage.{MemoryImage}
use Rattle.machine_desc.specs.declared.machine.Machine.{Machine}
use Rattle.component.specs.declared.comp.Comp.{Comp}
use Rattle.component.specs.Components.{AreFresh}
use Rattle.component.specs.Laws.{FreshComponentsAreOne}
use Rattle.reference.specs.ReferenceRun.{Illegal, IsRunOf, RunState, after_intervals, continued, first_state, results_at}
use Rattle.reference.specs.Results.{Results}
use Rattle.reference.specs.RunEvents.{IsEventsFileOf, events_file_of_run}

reached_from : (machine : Machine) (image : MemoryImage) (lists : List (List ℕ)) (results : Results) (comps : List Comp) → AreFresh machine comps
    → (found : Result RunState Illegal) → after_intervals machine image (first_state machine image comps) lists ≡ found
    → continued (results_at machine) found ≡ Ok results → (bytes : List ℕ) × IsEventsFileOf machine image lists bytes
reached_from machine image lists results comps fresh (Err illegal) is gives = absurd cc
reached_from machine image lists results comps fresh (Ok state) is gives =
    (events_file_of_run machine state.intervals, record { comps = comps; fresh = fresh; state = state; reached = is; file = refl })

pub has_file : (machine : Machine) (image : MemoryImage) (lists : List (List ℕ)) (results : Results) → IsRunOf machine image lists results → (bytes : List ℕ) × IsEventsFileOf machine image lists bytes
has_file machine image lists results run =
    reached_from machine image lists results run.comps run.fresh (after_intervals machine image (first_state machine image run.comps) lists) refl run.gives

pub one_file : FreshComponentsAreOne → (machine : Machine) (image : MemoryImage) (lists : List (List ℕ)) (first second : List ℕ)
    → IsEventsFileOf machine image lists first → IsEventsFileOf machine image lists second → first ≡ second
one_file law machine image lists first second a b =
    let comps : a.comps ≡ b.comps = law machine a.comps b.comps a.fresh b.fresh in
    let here : after_intervals machine image (first_state machine image b.comps) lists ≡ Ok a.state =
    subst (λ (cs : List Comp). after_intervals machine image (first_state machine image cs) lists ≡ Ok a.state) comps a.reached
    in
    let both : Ok a.state ≡ Ok b.state = sym here ∙ b.reached in
    let state : a.state ≡ b.state = cc in
    a.file ∙ ap (λ (s : RunState). events_file_of_run machine s.intervals) state ∙ sym b.file
