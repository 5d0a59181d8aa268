-- One entry more at the end of a history.
use Rattle.std.proofs.Common.{◌≡◌, ℕ, suc, zero, ◌+◌, ◌*◌, ◌<◌, ◌≤◌, nat_lt, true, false, cond, List, [], ◌∷◌, ◌++◌, length, ◌==◌, All, refl, sym, ◌∙◌, ap, subst, arith, inl, inr}
use Rattle.std.specs.List.{fold}
use Rattle.std.proofs.lemmas.Bool.{cases_eq, cases_lt, eq-eqb, ne_eqb}
use Rattle.std.proofs.lemmas.Bool.Decides.{nat_tests}
use Rattle.std.proofs.lemmas.List.{append-nil, append_assoc}
use Rattle.std.proofs.lemmas.List.Elements.{All-filter, All-head, All-tail, All-weaker, filter-append}
use Rattle.zs_num.specs.declared.entry.Entry.{Entry}
use Rattle.zs_num.specs.declared.request.Request.{Request}
use Rattle.access_log.specs.History.{bank_of_entry, latest_of, of_bank, of_core, of_number}
use Rattle.shard.specs.Laws.{CoresStay, LastIsStamp, StillServes}
use Rattle.shard.specs.Served.{AreServedBy, CanServe, KnowsCore, ShardState, met_by, shard_after, shard_reply}
use Rattle.shard_table.specs.declared.view.ShardAccesses.{ShardAccesses}
use Rattle.shard_table.specs.Lives.{IsPrefix, after_all}
use Rattle.shard_table.specs.Rule.{AreTrueNotes}

-- ---- the entries with a number

module _ (number_of : Entry → ℕ) (number : ℕ) where
  pub own_first : (e : Entry) (entries : List Entry) → number_of e ≡ number → of_number number_of number (e ∷ entries) ≡ e ∷ of_number number_of number entries
  own_first e entries own = rw (eq-eqb (number_of e) number own) refl

  pub other_first : (e : Entry) (entries : List Entry) → (number_of e ≡ number → ⊥) → of_number number_of number (e ∷ entries) ≡ of_number number_of number entries
  other_first e entries other = rw (ne_eqb (number_of e) number other) refl

  pub own_last : (entries : List Entry) (e : Entry) → number_of e ≡ number → of_number number_of number (entries ++ e ∷ []) ≡ of_number number_of number entries ++ e ∷ []
  own_last entries e own = filter-append (λ x. number_of x == number) entries (e ∷ []) ∙ ap (λ (es : List Entry). of_number number_of number entries ++ es) (own_first e [] own)

  pub other_last : (entries : List Entry) (e : Entry) → (number_of e ≡ number → ⊥) → of_number number_of number (entries ++ e ∷ []) ≡ of_number number_of number entries
  other_last entries e other = filter-append (λ x. number_of x == number) entries (e ∷ []) ∙ ap (λ (es : List Entry). of_number number_of number entries ++ es) (other_first e [] other) ∙ append-nil (of_number number_of number entries)

  -- what holds of all holds of those
  pub all_numbered : (P : Entry → Type 0) (entries : List Entry) → All P entries → All P (of_number number_of number entries)
  all_numbered P entries all = All-filter (λ x. number_of x == number) P entries all

  -- there are none where none has the number
  pub none_numbered : (entries : List Entry) → All (λ e. number_of e ≡ number → ⊥) entries → of_number number_of number entries ≡ []
  none_numbered [] none = refl
  none_numbered (x ∷ entries) none =
      let P : Entry → Type 0 = λ e. number_of e ≡ number → ⊥ in
      other_first x entries (All-head P x entries none) ∙ none_numbered entries (All-tail P x entries none)

  pub all_are : (entries : List Entry) → All (λ e. number_of e ≡ number) entries → of_number number_of number entries ≡ entries
  all_are [] all = refl
  all_are (x ∷ entries) all =
      let P : Entry → Type 0 = λ e. number_of e ≡ number in
      own_first x entries (All-head P x entries all) ∙ ap (λ (es : List Entry). x ∷ es) (all_are entries (All-tail P x entries all))

-- two ways of numbering
module _ (number_of other_of : Entry → ℕ) (number other : ℕ) where
  abbrev mine : List Entry → List Entry
  mine = of_number number_of number

  abbrev theirs : List Entry → List Entry
  theirs = of_number other_of other

  pub either_first : (entries : List Entry) → mine (theirs entries) ≡ theirs (mine entries)
  either_first [] = refl
  either_first (x ∷ entries) =
      let later : mine (theirs entries) ≡ theirs (mine entries) = either_first entries in
      elim (cases_eq (number_of x) number) as (λ _. mine (theirs (x ∷ entries)) ≡ theirs (mine (x ∷ entries))) [
        | inl one ↦
            let right : mine (x ∷ entries) ≡ x ∷ mine entries = own_first number_of number x entries one in
            elim (cases_eq (other_of x) other) as (λ _. mine (theirs (x ∷ entries)) ≡ theirs (mine (x ∷ entries))) [
              | inl two ↦
                  ap mine (own_first other_of other x entries two) ∙ (own_first number_of number x (theirs entries) one ∙ (ap (λ (es : List Entry). x ∷ es) later
                  ∙ (sym (own_first other_of other x (mine entries) two) ∙ ap theirs (sym right))))
              | inr two ↦ ap mine (other_first other_of other x entries two) ∙ (later ∙ (sym (other_first other_of other x (mine entries) two) ∙ ap theirs (sym right)))
            ]
        | inr one ↦
            let right : mine (x ∷ entries) ≡ mine entries = other_first number_of number x entries one in
            elim (cases_eq (other_of x) other) as (λ _. mine (theirs (x ∷ entries)) ≡ theirs (mine (x ∷ entries))) [
              | inl two ↦ ap mine (own_first other_of other x entries two) ∙ (other_first number_of number x (theirs entries) one ∙ (later ∙ ap theirs (sym right)))
              | inr two ↦ ap mine (other_first other_of other x entries two) ∙ (later ∙ ap theirs (sym right))
            ]
      ]

-- ---- stamps

-- no latest stamp is above what all stamps are at most
latest_from : (n start : ℕ) (entries : List Entry) → start ≤ n → All (λ e. e.stamp ≤ n) entries → fold (λ (stamp : ℕ) (e : Entry). e.stamp) start entries ≤ n
latest_from n start [] low all = low
latest_from n start (x ∷ entries) low all =
    let P : Entry → Type 0 = λ e. e.stamp ≤ n in latest_from n x.stamp entries (All-head P x entries all) (All-tail P x entries all)

pub latest_low : (n : ℕ) (entries : List Entry) → All (λ e. e.stamp ≤ n) entries → latest_of entries ≤ n
latest_low n entries all = latest_from n 0 entries (omega arith) all

-- ---- how many there are

-- how many entries are of cores below this one
abbrev below : ℕ → List Entry → ℕ
below core [] = 0
below core (e ∷ entries) = cond (nat_lt e.core core) 1 0 + below core entries

none_below : (entries : List Entry) → below 0 entries ≡ 0
none_below [] = refl
none_below (e ∷ entries) = let later = none_below entries in let not : nat_lt e.core 0 ≡ false = grind (arith, nat_tests) in rw not (omega (arith, later))

one_core_more : (core : ℕ) (entries : List Entry) → below (suc core) entries ≡ below core entries + length (of_core core entries)
one_core_more core [] = omega arith
one_core_more core (e ∷ entries) =
    let later = one_core_more core entries in
    elim (cases_eq e.core core) as (λ _. below (suc core) (e ∷ entries) ≡ below core (e ∷ entries) + length (of_core core (e ∷ entries))) [
      | inl own ↦
          let up : nat_lt e.core (suc core) ≡ true = grind (arith, nat_tests) in
          let down : nat_lt e.core core ≡ false = grind (arith, nat_tests) in
          rw (eq-eqb e.core core own, up, down) (omega (arith, later))
      | inr other ↦
          let same : nat_lt e.core (suc core) ≡ nat_lt e.core core = elim (cases_lt e.core core) as (λ _. nat_lt e.core (suc core) ≡ nat_lt e.core core) [
            | inl is ↦ grind (arith, nat_tests)
            | inr not ↦ grind (arith, nat_tests)
          ] in
          rw (ne_eqb e.core core other, same) (omega (arith, later))
    ]

all_below : (cores : ℕ) (entries : List Entry) → All (λ e. e.core < cores) entries → below cores entries ≡ length entries
all_below cores [] known = refl
all_below cores (e ∷ entries) known =
    let P : Entry → Type 0 = λ e. e.core < cores in
    let here : e.core < cores = All-head P e entries known in
    let is : nat_lt e.core cores ≡ true = grind (arith, nat_tests) in
    let later = all_below cores entries (All-tail P e entries known) in
    rw is (omega (arith, later))

few_below : (cores room : ℕ) (entries : List Entry) → ((core : ℕ) → length (of_core core entries) ≤ room) → below cores entries ≤ cores * room
few_below zero room entries fits = omega (arith, none_below entries)
few_below (suc cores) room entries fits = omega (arith, few_below cores room entries fits, one_core_more cores entries, fits cores)

pub few_entries : (cores room : ℕ) (entries : List Entry) → All (λ e. e.core < cores) entries → ((core : ℕ) → length (of_core core entries) ≤ room) → length entries ≤ cores * room
few_entries cores room entries known fits = omega (arith, few_below cores room entries fits, all_below cores entries known)

-- ---- beginnings

-- of a list that goes on
pub prefix_longer : (list whole more : List Entry) → IsPrefix list whole → IsPrefix list (whole ++ more)
prefix_longer list whole more is = (is.0 ++ more, ap (λ (es : List Entry). es ++ more) is.1 ∙ append_assoc list is.0 more)

pub prefix_whole : (list whole : List Entry) → whole ≡ list → IsPrefix list whole
prefix_whole list whole is = ([], is ∙ sym (append-nil list))

-- an entry more
pub notes_stay : (shards : ℕ) (history : List Entry) (e : Entry) (notes : List ShardAccesses) → AreTrueNotes shards history notes → AreTrueNotes shards (history ++ e ∷ []) notes
notes_stay shards history e notes true_notes =
    All-weaker (λ note. IsPrefix note.list (of_bank shards note.shard history)) (λ note. IsPrefix note.list (of_bank shards note.shard (history ++ e ∷ [])))
    (λ (note : ShardAccesses) is.
    elim (cases_eq (bank_of_entry shards e) note.shard) as (λ _. IsPrefix note.list (of_bank shards note.shard (history ++ e ∷ []))) [
      | inl own ↦ subst (IsPrefix note.list) (sym (own_last (bank_of_entry shards) note.shard history e own)) (prefix_longer note.list (of_bank shards note.shard history) (e ∷ []) is)
      | inr other ↦ subst (IsPrefix note.list) (sym (other_last (bank_of_entry shards) note.shard history e other)) is
    ]) notes true_notes

-- ---- what a shard has become

pub one_more_after : (shard : ShardState) (entries : List Entry) (e : Entry) → after_all shard (entries ++ e ∷ []) ≡ shard_after (after_all shard entries) e
one_more_after shard [] e = refl
one_more_after shard (x ∷ entries) e = one_more_after (shard_after shard x) entries e

pub one_more_served : (shard : ShardState) (entries : List Entry) (e : Entry) → AreServedBy shard entries
    → e.reply ≡ shard_reply (after_all shard entries) e → e.outcome ≡ met_by (after_all shard entries) e → AreServedBy shard (entries ++ e ∷ [])
one_more_served shard [] e served reply outcome = (reply, outcome, tt)
one_more_served shard (x ∷ entries) e served reply outcome = (served.0, served.1, one_more_served (shard_after shard x) entries e served.2 reply outcome)

module _ (is_stamp : LastIsStamp) where
  last_after : (shard : ShardState) (entries : List Entry) → (after_all shard entries).last ≡ fold (λ (stamp : ℕ) (e : Entry). e.stamp) shard.last entries
  last_after shard [] = refl
  last_after shard (x ∷ entries) = last_after (shard_after shard x) entries ∙ ap (λ (n : ℕ). fold (λ (stamp : ℕ) (e : Entry). e.stamp) n entries) (is_stamp shard x)

  pub last_is_latest : (shard : ShardState) (entries : List Entry) → shard.last ≡ 0 → (after_all shard entries).last ≡ latest_of entries
  last_is_latest shard entries new = last_after shard entries ∙ ap (λ (n : ℕ). fold (λ (stamp : ℕ) (e : Entry). e.stamp) n entries) new

pub still_serves : StillServes → (shard : ShardState) (entries : List Entry) (request : Request) → CanServe shard request → CanServe (after_all shard entries) request
still_serves law shard [] request can = can
still_serves law shard (x ∷ entries) request can = still_serves law (shard_after shard x) entries request (law shard x request can)

pub cores_stay : CoresStay → (shard : ShardState) (entries : List Entry) (core : ℕ) → KnowsCore shard core → KnowsCore (after_all shard entries) core
cores_stay law shard [] core has = has
cores_stay law shard (x ∷ entries) core has = cores_stay law (shard_after shard x) entries core (law shard x core has)
