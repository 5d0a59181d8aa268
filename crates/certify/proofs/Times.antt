-- The events of a graph with their times, one after the other.
use Rattle.std.proofs.Common.{◌≡◌, ℕ, zero, suc, ◌+◌, ◌<◌, List, [], ◌∷◌, ◌++◌, length, take, get_or, refl, ap, ◌∙◌, sym, arith, append_assoc, append-nil}
use Rattle.std.proofs.lemmas.List.{take_more}
use Rattle.std.proofs.lemmas.List.Concat.{flat_map-append}
use Rattle.std.specs.List.{flat_map}
use Rattle.event_graph.specs.declared.event.Event.{Event}
use Rattle.event_graph.specs.declared.fired.Fired.{Fired}
use Rattle.event_graph.specs.OneListWeave.{FiredEvent}
use Rattle.certify.specs.EventsFile.{record_bytes, with_time, with_times}

pub times_length : (events : List Event) (fired : List Fired) → length fired ≡ length events → length (with_times events fired) ≡ length events
times_length [] fired same = refl
times_length (e ∷ es) [] same = same
times_length (e ∷ es) (f ∷ fs) same = ap suc (times_length es fs (omega (arith, same)))

pub time_at : (events : List Event) (fired : List Fired) (k : ℕ) (d : Event) (g : Fired) → length fired ≡ length events → k < length events
    → get_or (with_times events fired) k (with_time d g) ≡ with_time (get_or events k d) (get_or fired k g)
time_at [] fired k d g same within = absurd (omega (arith, within))
time_at (e ∷ es) [] k d g same within = absurd (omega (arith, same))
time_at (e ∷ es) (f ∷ fs) zero d g same within = refl
time_at (e ∷ es) (f ∷ fs) (suc k) d g same within = time_at es fs k d g (omega (arith, same)) (omega (arith, within))

-- one more is written
pub written_on : (start out after : List ℕ) (timed : List FiredEvent) (k : ℕ) (d : FiredEvent) → k < length timed
    → out ≡ start ++ flat_map record_bytes (take k timed) → after ≡ out ++ record_bytes (get_or timed k d)
    → after ≡ start ++ flat_map record_bytes (take (k + 1) timed)
written_on start out after timed k d within so_far put =
    let one = get_or timed k d in
    let more : flat_map record_bytes (take (k + 1) timed) ≡ flat_map record_bytes (take k timed) ++ record_bytes one =
    ap (flat_map record_bytes) (take_more timed k d within) ∙ (flat_map-append record_bytes (take k timed) (one ∷ []) ∙ ap (λ bytes. flat_map record_bytes (take k timed) ++ bytes) (append-nil (record_bytes one))) in
    put ∙ (ap (λ bytes. bytes ++ record_bytes one) so_far
    ∙ (append_assoc start (flat_map record_bytes (take k timed)) (record_bytes one) ∙ ap (λ bytes. start ++ bytes) (sym more)))

-- the record of the next event was put
pub record_put : (events : List Event) (fired : List Fired) (k : ℕ) (d : Event) (g : Fired) (out after put : List ℕ) → length fired ≡ length events → k < length events
    → put ≡ record_bytes (with_time (get_or events k d) (get_or fired k g)) → after ≡ out ++ put → after ≡ out ++ record_bytes (get_or (with_times events fired) k (with_time d g))
record_put events fired k d g out after put same within is put_on =
    put_on ∙ ap (λ bytes. out ++ bytes) (is ∙ ap record_bytes (sym (time_at events fired k d g same within)))
