-- The parts that a seat holds, as the rule knows them.
use Rattle.std.proofs.Common.{◌≡◌, ℕ, ◌+◌, ◌*◌, ◌<◌, ◌≤◌, List, [], ◌∷◌, length, All, refl, sym, ◌∙◌, ap, subst, arith, inl, inr}
use Rattle.std.specs.Prelude.{slice_index, Option}
use Rattle.std.proofs.lemmas.List.Elements.{All-head, All-weaker}
use Rattle.zs_num.specs.declared.request.Request.{Request}
use Rattle.parts_table.specs.declared.part.TimedPart.{TimedPart}
use Rattle.parts_table.specs.declared.view.CoreAccesses.{CoreAccesses}
use Rattle.parts_table.specs.declared.view.Hold.{Hold}
use Rattle.parts_table.specs.declared.view.Made.{Made}
use Rattle.parts_table.specs.declared.view.View.{View}
use Rattle.parts_table.specs.MachineLaws.{MachineLaws}
use Rattle.parts_table.specs.Rule.{AreAccesses, AreHeld, HasOpened, Holds, IsTrueOfHistory, word_index}
use Rattle.parts_table.specs.Steps.{Agrees, IsReached}
use Rattle.parts_table.specs.TurnOrder.{by_core}
use Rattle.parts_table.specs.World.{IsSound, MayAsk, World, lived, world_of}
use Rattle.parts_table.proofs.ByCore.{few_accesses}
use Rattle.parts_table.proofs.Locality.{IsFine, many_l1s}
use Rattle.parts_table.proofs.Runs.{stays_fine_all}

-- who may ask is a core of the machine
pub core_known : (cores banks : ℕ) (w : World) (core : ℕ) (request : Request) → MayAsk cores banks w core request → core < cores
core_known cores banks w core request may = subst (λ (n : ℕ). core < n) (many_l1s cores banks w) may.1.known

pub agrees_at : (w : World) (holds : List Hold) → Agrees w holds → (v : World) → Agrees v holds → (k : ℕ) → Holds k holds → v k ≡ w k
agrees_at w [] one v two k has = absurd has
agrees_at w (h ∷ holds) one v two k (inl is) = ap v (sym is) ∙ (sym two.0 ∙ (one.0 ∙ ap w is))
agrees_at w (h ∷ holds) one v two k (inr has) = agrees_at w holds one.1 v two.1 k has

abbrev pair : ℕ → ℕ → ℕ × ℕ
pair a b = (a, b)

module _ (opening : List (Option TimedPart)) (cores banks room : ℕ) where
  abbrev pub first : World
  first = world_of opening

  -- the parts after these accesses
  abbrev pub then : List Made → World
  then history = lived cores banks first history

  pub held_word : (history : List Made) (words : List ℕ) (core : ℕ) (holds : List Hold) → AreHeld opening cores banks room history words core holds
      → (k : ℕ) → Holds k holds → slice_index words (word_index k) ≡ core + 1
  held_word history words core [] held k has = absurd has
  held_word history words core (h ∷ holds) held k (inl is) = ap (λ (n : ℕ). slice_index words (word_index n)) (sym is) ∙ held.1
  held_word history words core (h ∷ holds) held k (inr has) = held_word history words core holds held.4 k has

  pub held_within : (history : List Made) (words : List ℕ) (core : ℕ) (holds : List Hold) → AreHeld opening cores banks room history words core holds
      → (k : ℕ) → Holds k holds → k < cores + banks
  held_within history words core [] held k has = absurd has
  held_within history words core (h ∷ holds) held k (inl is) = subst (λ (n : ℕ). n < cores + banks) is held.0
  held_within history words core (h ∷ holds) held k (inr has) = held_within history words core holds held.4 k has

  pub held_agrees : (history : List Made) (words : List ℕ) (core : ℕ) (holds : List Hold) → AreHeld opening cores banks room history words core holds
      → Agrees (then history) holds
  held_agrees history words core [] held = tt
  held_agrees history words core (h ∷ holds) held = (held.2, held_agrees history words core holds held.4)

  -- after more accesses, and with other words
  pub held_stays : (history later : List Made) (words words' : List ℕ) (core : ℕ) (holds : List Hold) → AreHeld opening cores banks room history words core holds
      → ((k : ℕ) → Holds k holds → k < cores + banks → (slice_index words' (word_index k) ≡ slice_index words (word_index k)) × (then later k ≡ then history k))
      → AreHeld opening cores banks room later words' core holds
  held_stays history later words words' core [] held stays = tt
  held_stays history later words words' core (h ∷ holds) held stays =
      let it = stays h.part (inl refl) held.0 in
      (held.0, it.0 ∙ held.1, held.2 ∙ sym it.1, held.3, held_stays history later words words' core holds held.4 (λ k has low. stays k (inr has) low))

  -- of a seat that has accesses of one core alone
  pub its_holds : (history : List Made) (words : List ℕ) (v : View) (log : CoreAccesses) → IsTrueOfHistory opening cores banks room history words v → v.logs ≡ log ∷ []
      → AreHeld opening cores banks room history words log.core v.holds
  its_holds history words v log knows logs = of v.holds knows.holds
    where
      of : (holds : List Hold)
          → (0 < length holds → (l : CoreAccesses) × (v.logs ≡ l ∷ []) × AreHeld opening cores banks room history words l.core holds)
          → AreHeld opening cores banks room history words log.core holds
      of [] held = tt
      of (h ∷ holds) held =
          let it = held (omega arith) in
          let same : it.0 ≡ log = (let both : it.0 ∷ [] ≡ log ∷ [] = sym it.1 ∙ logs in cc) in
          subst (λ (l : CoreAccesses). AreHeld opening cores banks room history words l.core (h ∷ holds)) same it.2

  pub its_log : (history : List Made) (words : List ℕ) (v : View) (log : CoreAccesses) → IsTrueOfHistory opening cores banks room history words v → v.logs ≡ log ∷ []
      → (log.core < cores) × (log.list ≡ by_core log.core history)
  its_log history words v log knows logs =
      let P : CoreAccesses → Type 0 = λ log. (log.core < cores) × (log.list ≡ by_core log.core history) in
      All-head P log [] (subst (All P) logs knows.logs)

  -- ---- what the parts have become

  pub all_known : (history : List Made) → AreAccesses opening cores banks room history → All (λ a. a.entry.core < cores) history
  all_known history accesses =
      All-weaker (λ a. MayAsk cores banks first a.entry.core a.entry.request) (λ a. a.entry.core < cores) (λ (a : Made) may. core_known cores banks first a.entry.core a.entry.request may) history accesses.asked

  pub few : (history : List Made) → AreAccesses opening cores banks room history → length history ≤ cores * room
  few history accesses = few_accesses cores room history (all_known history accesses) accesses.fits

  pub then_fine : MachineLaws → (history : List Made) → HasOpened opening cores banks room → AreAccesses opening cores banks room history → IsFine cores banks first (then history)
  then_fine laws history opened accesses =
      stays_fine_all cores banks laws first first history (record { sound = opened.sound; asked = λ core request may. may }) accesses.right accesses.asked

  -- what a seat knows of all parts, in these words
  module _ (v : View) (begins : (v.opening ≡ opening) × (v.cores ≡ cores) × (v.banks ≡ banks) × (v.room ≡ room)) (w : World) where
    counts : pair cores banks ≡ pair v.cores v.banks
    counts = λ i. (sym begins.1 i, sym begins.2 i)

    pub reached_fine : IsReached v w → IsFine cores banks first w
    reached_fine reached = record {
      sound = subst (λ (p : ℕ × ℕ). IsSound p.0 p.1 w) (sym counts) reached.sound;
      asked = λ core request may.
          let ours : MayAsk v.cores v.banks (world_of v.opening) core request =
          subst (λ (os : List (Option TimedPart)). MayAsk v.cores v.banks (world_of os) core request) (sym begins.0)
          (subst (λ (p : ℕ × ℕ). MayAsk p.0 p.1 first core request) counts may) in
          subst (λ (p : ℕ × ℕ). MayAsk p.0 p.1 w core request) (sym counts) (reached.asked core request ours);
    }

    pub fine_reached : IsFine cores banks first w → Agrees w v.holds → IsReached v w
    fine_reached fine agrees = record {
      sound = subst (λ (p : ℕ × ℕ). IsSound p.0 p.1 w) counts fine.sound;
      agrees = agrees;
      asked = λ core request may.
          let ours : MayAsk cores banks first core request =
          subst (λ (p : ℕ × ℕ). MayAsk p.0 p.1 first core request) (sym counts)
          (subst (λ (os : List (Option TimedPart)). MayAsk v.cores v.banks (world_of os) core request) begins.0 may) in
          subst (λ (p : ℕ × ℕ). MayAsk p.0 p.1 w core request) counts (fine.asked core request ours);
    }

    -- as many accesses as all cores can make, as the seat knows it
    pub most_is : v.cores * v.room ≡ cores * room
    most_is = ap (λ (m : ℕ). m * v.room) begins.1 ∙ ap (λ (m : ℕ). cores * m) begins.3
