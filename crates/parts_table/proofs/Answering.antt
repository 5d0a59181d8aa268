-- Right accesses are what homes and L1s answer one after the other.
use Rattle.std.proofs.Common.{◌≡◌, ℕ, List, [], ◌∷◌, map, length, set, refl, sym, ◌∙◌, ap, subst, arith}
use Rattle.std.proofs.lemmas.List.Elements.{All-head, All-tail}
use Rattle.zs_num.specs.Request.{bank_of}
use Rattle.zs_num.specs.declared.entry.Entry.{Entry}
use Rattle.zs_num.specs.declared.request.Request.{Request}
use Rattle.shard.specs.PartsLaws.{AnswerInTurn, AreAskedOf, IsAsked}
use Rattle.shard.specs.Seen.{PartsState, bank_at, parts_after, parts_met, parts_reply}
use Rattle.shard.specs.SharedStep.{Bank}
use Rattle.parts_table.specs.declared.view.Made.{Made}
use Rattle.parts_table.specs.Access.{unstamped}
use Rattle.parts_table.specs.MachineLaws.{MachineLaws}
use Rattle.parts_table.specs.World.{AreRight, MayAsk, World, after, lived, parts_in}
use Rattle.parts_table.proofs.Locality.{IsAllowed, IsFine, bank_is, many_homes}
use Rattle.parts_table.proofs.Opening.{with_lasts}
use Rattle.parts_table.proofs.Runs.{MayAll}
use Rattle.parts_table.proofs.Stays.{met_all, parts_then, reply_all, stays_fine}

-- last stamps are not read
same_reply : (w : PartsState) (lasts : List ℕ) (core : ℕ) (request : Request) → parts_reply (with_lasts w lasts) core request ≡ parts_reply w core request
unfolding parts_reply
same_reply w lasts core request = refl

same_met : (w : PartsState) (lasts : List ℕ) (core : ℕ) (request : Request) → parts_met (with_lasts w lasts) core request ≡ parts_met w core request
unfolding parts_met
same_met w lasts core request = refl

same_after : (w : PartsState) (lasts : List ℕ) (core stamp : ℕ) (request : Request)
    → parts_after (with_lasts w lasts) core stamp request ≡ with_lasts (parts_after w core 0 request) (set lasts (bank_of (length w.homes) request) stamp)
unfolding parts_after
same_after w lasts core stamp request = refl

-- what can be asked of the parts
asked_at : (cores banks : ℕ) (w : World) (lasts : List ℕ) (core : ℕ) (request : Request) → MayAsk cores banks w core request
    → IsAsked (bank_at (with_lasts (parts_in cores banks w) lasts) (bank_of (length (parts_in cores banks w).homes) request)) core request
asked_at cores banks w lasts core request may =
    let bank : bank_of (length (parts_in cores banks w).homes) request ≡ bank_of banks request = ap (λ (n : ℕ). bank_of n request) (many_homes cores banks w) in
    subst (λ (p : Bank). IsAsked p core request) (sym (ap (bank_at (parts_in cores banks w)) bank ∙ bank_is cores banks w (bank_of banks request) may.0)) may.1

-- what they answer, and what is left
pub record AreAnswersOf (cores banks : ℕ) (w : World) (lasts : List ℕ) (made : List Made) (entries : List Entry) : Type 0 where
  pub last_stamps : List ℕ
  pub answers : AnswerInTurn (with_lasts (parts_in cores banks w) lasts) entries (with_lasts (parts_in cores banks (lived cores banks w made)) last_stamps)

head_is : (e a : Entry) (es list : List Entry) → e ∷ es ≡ a ∷ list → e ≡ a
head_is e a es list same = cc

tail_is : (e a : Entry) (es list : List Entry) → e ∷ es ≡ a ∷ list → es ≡ list
tail_is e a es list same = cc

pub are_answers : (cores banks : ℕ) → MachineLaws → (first w : World) (made : List Made) (entries : List Entry) (lasts : List ℕ) → IsFine cores banks first w → AreRight cores banks w made
    → MayAll cores banks first made → map unstamped entries ≡ map (λ a. a.entry) made → AreAnswersOf cores banks w lasts made entries
are_answers cores banks laws first w [] [] lasts fine right may same = record { last_stamps = lasts; answers = refl }
are_answers cores banks laws first w [] (e ∷ entries) lasts fine right may same = absurd (let n = ap length same in omega (arith, n))
are_answers cores banks laws first w (a ∷ made) [] lasts fine right may same = absurd (let n = ap length same in omega (arith, n))
are_answers cores banks laws first w (a ∷ made) (e ∷ entries) lasts fine right may same =
    let all : PartsState = parts_in cores banks w in
    let P : Made → Type 0 = λ a. MayAsk cores banks first a.entry.core a.entry.request in
    let ask : P a = All-head P a made may in
    let asks : MayAsk cores banks w a.entry.core a.entry.request = fine.asked a.entry.core a.entry.request ask in
    let allowed : IsAllowed cores banks first w a = record { right = right.0; asked = ask } in
    let is : unstamped e ≡ a.entry = head_is (unstamped e) a.entry (map unstamped entries) (map (λ x. x.entry) made) same in
    let core : e.core ≡ a.entry.core = ap (λ (x : Entry). x.core) is in
    let request : e.request ≡ a.entry.request = ap (λ (x : Entry). x.request) is in
    let reply : e.reply ≡ a.entry.reply = ap (λ (x : Entry). x.reply) is in
    let outcome : e.outcome ≡ a.entry.outcome = ap (λ (x : Entry). x.outcome) is in
    let bank : ℕ = bank_of (length all.homes) a.entry.request in
    let lasts' : List ℕ = set lasts (bank_of (length all.homes) e.request) e.stamp in
    let later = are_answers cores banks laws first (after cores banks w a) made entries lasts' (stays_fine cores banks laws first w a fine allowed) right.1 (All-tail P a made may)
    (tail_is (unstamped e) a.entry (map unstamped entries) (map (λ x. x.entry) made) same) in
    let then : parts_after (with_lasts all lasts) e.core e.stamp e.request ≡ with_lasts (parts_in cores banks (after cores banks w a)) lasts' =
    same_after all lasts e.core e.stamp e.request
    ∙ (ap (λ (p : ℕ × Request). with_lasts (parts_after all p.0 0 p.1) lasts') (λ i. (core i, request i))
    ∙ ap (λ (z : PartsState). with_lasts z lasts') (sym (parts_then cores banks laws w a fine.sound right.0 asks))) in
    record {
      last_stamps = later.last_stamps;
      answers = (
        reply ∙ (reply_all cores banks laws w a fine.sound right.0 asks ∙ (ap (λ (p : ℕ × Request). parts_reply all p.0 p.1) (λ i. (sym core i, sym request i)) ∙ sym (same_reply all lasts e.core e.request))),
        outcome ∙ (met_all cores banks laws w a fine.sound right.0 asks ∙ (ap (λ (p : ℕ × Request). parts_met all p.0 p.1) (λ i. (sym core i, sym request i)) ∙ sym (same_met all lasts e.core e.request))),
        subst (λ (z : PartsState). AnswerInTurn z entries (with_lasts (parts_in cores banks (lived cores banks (after cores banks w a) made)) later.last_stamps)) (sym then) later.answers,
      );
    }

pub are_asked : (cores banks : ℕ) (first w : World) (made : List Made) (entries : List Entry) (lasts : List ℕ) → IsFine cores banks first w → MayAll cores banks first made
    → map unstamped entries ≡ map (λ a. a.entry) made → AreAskedOf (with_lasts (parts_in cores banks w) lasts) entries
are_asked cores banks first w [] [] lasts fine may same = tt
are_asked cores banks first w [] (e ∷ entries) lasts fine may same = absurd (let n = ap length same in omega (arith, n))
are_asked cores banks first w (a ∷ made) [] lasts fine may same = absurd (let n = ap length same in omega (arith, n))
are_asked cores banks first w (a ∷ made) (e ∷ entries) lasts fine may same =
    let P : Made → Type 0 = λ a. MayAsk cores banks first a.entry.core a.entry.request in
    let ask : P a = All-head P a made may in
    let is : unstamped e ≡ a.entry = head_is (unstamped e) a.entry (map unstamped entries) (map (λ x. x.entry) made) same in
    let asks : MayAsk cores banks w e.core e.request =
    subst (λ (x : Entry). MayAsk cores banks w x.core x.request) (sym is) (fine.asked a.entry.core a.entry.request ask) in (
      asked_at cores banks w lasts e.core e.request asks,
      are_asked cores banks first w made entries lasts fine (All-tail P a made may)
          (tail_is (unstamped e) a.entry (map unstamped entries) (map (λ x. x.entry) made) same),
    )
