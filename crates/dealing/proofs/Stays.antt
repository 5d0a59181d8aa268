-- A worker changed, and not in this.
use Rattle.std.proofs.Common.{◌≡◌, ◌<◌, ℕ, List, length, get_or, map, set, sym, ◌∙◌, ap}
use Rattle.std.proofs.lemmas.List.{get_or-map, map-set, set-get_or}
use Rattle.dealing.specs.declared.worker.Worker.{Worker}

-- what is made of a worker that has it still
pub stays : {T X Y : Type 0} (f : Worker T X → Y) (workers : List (Worker T X)) (own : ℕ) (d new : Worker T X) → own < length workers → f new ≡ f (get_or workers own d) → map f (set workers own new) ≡ map f workers
stays f workers own d new within is =
    map-set f workers own new ∙ (ap (set (map f workers) own) (is ∙ sym (get_or-map f workers own d (f new) within)) ∙ set-get_or (map f workers) own (f new))
