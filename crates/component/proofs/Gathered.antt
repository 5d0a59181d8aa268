-- How the components of a machine are gathered: its banks, then its controllers, and then its links.
use Rattle.std.specs.Prelude.{◌≡◌, ◌+◌, ◌-◌, ◌<◌, ℕ, List, [], ◌∷◌, ◌++◌, length, replicate, slice_index_or}
use Rattle.std.specs.List.{All, AllWithin}
use Rattle.std.proofs.Common.{◌∙◌, sym, ap, subst, refl, arith}
use Rattle.std.proofs.lemmas.List.{append-nil, append_assoc, length-append, length-replicate, length_push, get_or_append_left}
use Rattle.std.proofs.lemmas.List.Elements.{All-append, All-push, All-replicate}
use Rattle.std.proofs.Math.Seq.{get_or-append_right}
use Rattle.machine_desc.specs.declared.machine.Machine.{Machine}
use Rattle.machine_desc.specs.Components.{component_count, links_of}
use Rattle.component.specs.declared.comp.Comp.{Comp}
use Rattle.component.specs.ComponentStep.{free_of}
use Rattle.component.specs.Components.{AreFresh, HasNoOpenRow, IsBankOf, IsControllerOf, IsLinkOf}
use Rattle.component.specs.Gained.{Gains}

module _ (IsOne : Comp → Type 0) (before : List Comp) where
  pub none_gained : Gains IsOne 0 before before
  none_gained = record { gained = []; behind = sym (append-nil before); long = refl; are = λ k d below. absurd (omega arith); free = λ k d below. absurd (omega arith); closed = λ k d below. absurd (omega arith) }

  pub one_more : (n : ℕ) (after : List Comp) (c : Comp) → Gains IsOne n before after → IsOne c → free_of c ≡ 0 → HasNoOpenRow c → Gains IsOne (n + 1) before (after ++ c ∷ [])
  one_more n after c so_far is free closed = record {
    gained = so_far.gained ++ c ∷ [];
    behind = ap (λ (xs : List Comp). xs ++ c ∷ []) so_far.behind ∙ append_assoc before so_far.gained (c ∷ []);
    long = omega (arith, length_push so_far.gained c, so_far.long);
    are = All-push IsOne so_far.gained c so_far.are is;
    free = All-push (λ z. free_of z ≡ 0) so_far.gained c so_far.free free;
    closed = All-push HasNoOpenRow so_far.gained c so_far.closed closed;
  }

  pub all_alike : (n : ℕ) (c : Comp) → IsOne c → free_of c ≡ 0 → HasNoOpenRow c → Gains IsOne n before (before ++ replicate n c)
  all_alike n c is free closed = record {
    gained = replicate n c;
    behind = refl;
    long = length-replicate n c;
    are = All-replicate IsOne n c is;
    free = All-replicate (λ z. free_of z ≡ 0) n c free;
    closed = All-replicate HasNoOpenRow n c closed;
  }

-- the elements of a list that stands between two others
between : {X : Type 0} (P : X → Type 0) (xs ys zs : List X) (low high : ℕ) → length xs ≡ low → high ≡ low + length ys → All P ys
    → AllWithin P ((xs ++ ys) ++ zs) low high
between P xs ys zs low high from to all k d past below =
    let within : k < length (xs ++ ys) = omega (arith, length-append xs ys) in
    let inner : k - length xs < length ys = omega arith in
    let is : slice_index_or ((xs ++ ys) ++ zs) k d ≡ slice_index_or ys (k - length xs) d =
    get_or_append_left (xs ++ ys) zs d k within ∙ get_or-append_right xs ys k d (omega arith)
    in
    subst P (sym is) (all (k - length xs) d inner)

in_order : (m : Machine) (banks controllers links : List Comp) → length banks ≡ m.l2.banks → length controllers ≡ m.controllers.count → length links ≡ links_of m
    → All (IsBankOf m) banks → All (IsControllerOf m) controllers → All (IsLinkOf m) links
    → All (λ c. free_of c ≡ 0) banks → All (λ c. free_of c ≡ 0) controllers → All (λ c. free_of c ≡ 0) links
    → All HasNoOpenRow banks → All HasNoOpenRow controllers → All HasNoOpenRow links
    → AreFresh m ((banks ++ controllers) ++ links)
in_order m banks controllers links b c l are_banks are_controllers are_links free_banks free_controllers free_links closed_banks closed_controllers closed_links =
    let all : List Comp = (banks ++ controllers) ++ links in
    let two : length (banks ++ controllers) ≡ m.l2.banks + m.controllers.count = omega (arith, length-append banks controllers) in
    let long : length all ≡ component_count m = omega (arith, length-append (banks ++ controllers) links) in
    let free : Comp → Type 0 = λ z. free_of z ≡ 0 in
    let first : AllWithin (IsBankOf m) (([] ++ banks) ++ (controllers ++ links)) 0 m.l2.banks = between (IsBankOf m) [] banks (controllers ++ links) 0 m.l2.banks refl (omega arith) are_banks in
    let last : AllWithin (IsLinkOf m) ((((banks ++ controllers)) ++ links) ++ []) (m.l2.banks + m.controllers.count) (length all) =
    between (IsLinkOf m) (banks ++ controllers) links [] (m.l2.banks + m.controllers.count) (length all) two (omega (arith, long)) are_links
    in
    record {
      are = record {
        count = long;
        banks = subst (λ (xs : List Comp). AllWithin (IsBankOf m) xs 0 m.l2.banks) (sym (append_assoc banks controllers links)) first;
        controllers = between (IsControllerOf m) banks controllers links m.l2.banks (m.l2.banks + m.controllers.count) b (omega arith) are_controllers;
        links = subst (λ (xs : List Comp). AllWithin (IsLinkOf m) xs (m.l2.banks + m.controllers.count) (length all)) (append-nil all) last;
      };
      free = All-append free (banks ++ controllers) links (All-append free banks controllers free_banks free_controllers) free_links;
      closed = All-append HasNoOpenRow (banks ++ controllers) links (All-append HasNoOpenRow banks controllers closed_banks closed_controllers) closed_links;
    }

pub gathered : (m : Machine) (one two three : List Comp) → Gains (IsBankOf m) m.l2.banks [] one → Gains (IsControllerOf m) m.controllers.count one two
    → Gains (IsLinkOf m) (links_of m) two three → AreFresh m three
gathered m one two three b c l =
    let whole : three ≡ (b.gained ++ c.gained) ++ l.gained =
    l.behind ∙ ap (λ (xs : List Comp). xs ++ l.gained) (c.behind ∙ ap (λ (xs : List Comp). xs ++ c.gained) b.behind)
    in
    subst (AreFresh m) (sym whole) (in_order m b.gained c.gained l.gained b.long c.long l.long b.are c.are l.are b.free c.free l.free b.closed c.closed l.closed)
