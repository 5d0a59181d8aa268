-- Shares of an interval that were done.
use Rattle.std.proofs.Common.{◌≡◌, ℕ, ◌<◌, List, [], ◌∷◌, ◌++◌, All, drop, take, length, get_or, map, sym, ◌∙◌, ap, subst, arith}
use Rattle.std.proofs.lemmas.List.{append-nil, drop_all, get_or-map, length-map, take_all}
use Rattle.zs_num.specs.declared.entry.Entry.{Entry}
use Rattle.elf_load.specs.MemoryImage.{MemoryImage}
use Rattle.machine_desc.specs.declared.machine.Memory.{Memory}
use Rattle.noc_mesh.specs.declared.net.Net.{Net}
use Rattle.noc_mesh.specs.NetTiming.{net_time}
use Rattle.parts_table.specs.Access.{TableState}
use Rattle.crew.specs.Sharing.{AreDone}
use Rattle.bound_workers.specs.Team.{CanWork, HasWorked, Team}

-- ---- the cores in the shares

module _ {J : Type 0} (team : J → Team) where
  pub team_at : (shares : List J) (teams : List Team) → map team shares ≡ teams → (i : ℕ) (d : J) (e : Team) → i < length shares → get_or teams i e ≡ team (get_or shares i d)
  team_at shares teams same i d e within = ap (λ (ts : List Team). get_or ts i e) (sym same) ∙ get_or-map team shares i d e within

  pub can_at : (P : Team → Type 0) (shares : List J) (teams : List Team) → map team shares ≡ teams → All P teams → (i : ℕ) (d : J) → i < length shares → P (team (get_or shares i d))
  can_at P shares teams same can i d within =
      let size = ap length same in
      let mapped = length-map shares team in
      let inside : i < length teams = omega (arith, within, size, mapped) in
      subst P (team_at shares teams same i d (team d) within) (can i (team d) inside)

  pub all_done : (done : J → J → Type 0) (P : Team → Team → Type 0) (shares answers : List J) (teams after : List Team) → map team shares ≡ teams → after ≡ map team answers → AreDone done shares answers
      → ((i : ℕ) (d : J) → i < length shares → done (get_or shares i d) (get_or answers i d) → P (team (get_or shares i d)) (team (get_or answers i d)))
      → (i : ℕ) (d : Team) → i < length teams → P (get_or teams i d) (get_or after i d)
  all_done done P [] answers teams after same were are step i d within = absurd (let none = ap length same in omega (arith, none, within))
  all_done done P (x ∷ shares) answers teams after same were are step i d within =
      let size = ap length same in
      let mapped = length-map (x ∷ shares) team in
      let inside : i < length (x ∷ shares) = omega (arith, within, size, mapped) in
      let count = are.count in
      let there : i < length answers = omega (arith, inside, count) in
      subst (λ (t : Team). P (get_or teams i d) t) (sym (team_at answers after (sym were) i x d there))
      (subst (λ (t : Team). P t (team (get_or answers i x))) (sym (team_at (x ∷ shares) teams same i x d inside)) (step i x inside (are.each i x inside)))

-- a list that was written back over one as long
pub written : {X : Type 0} (xs old : List X) (n : ℕ) → length xs ≡ n → length old ≡ n → take n (xs ++ drop (length xs) old) ≡ xs
written {X} xs old n long same =
    ap (λ (rest : List X). take n (xs ++ rest)) (drop_all (length xs) old (omega (arith, long, same))) ∙ (ap (take n) (append-nil xs) ∙ take_all n xs (omega (arith, long)))

-- ---- one share and what it is of

pub same_can : (t u : TableState) (memory other : Memory) (end until : ℕ) (team : Team) → t ≡ u → memory ≡ other → end ≡ until → CanWork u other until team → CanWork t memory end team
same_can t u memory other end until team tables memories ends can =
    subst (λ (x : TableState). CanWork x memory end team) (sym tables) (subst (λ (x : Memory). CanWork u x end team) (sym memories) (subst (λ (x : ℕ). CanWork u other x team) (sym ends) can))

pub same_work : (n m : Net) (image other : MemoryImage) (end until : ℕ) (t u : TableState) (before after : Team) → n ≡ m → image ≡ other → end ≡ until → t ≡ u
    → HasWorked (λ e. net_time n.path e) image end t before after → HasWorked (λ e. net_time m.path e) other until u before after
same_work n m image other end until t u before after nets images ends tables worked =
    subst (λ (x : Net). HasWorked (λ e. net_time x.path e) other until u before after) nets
    (subst (λ (x : MemoryImage). HasWorked (λ e. net_time n.path e) x until u before after) images
    (subst (λ (x : ℕ). HasWorked (λ e. net_time n.path e) image x u before after) ends
    (subst (λ (x : TableState). HasWorked (λ e. net_time n.path e) image end x before after) tables worked)))
