use Rattle.std.proofs.Common.{◌≡◌, ◌∙◌, ℕ, List, take, ap, subst, IfOk}
use Rattle.std.proofs.lemmas.List.{take_min}
use Rattle.zs_host.proofs.mem_files.first_bytes.Goals as goal

pub returns : goal.returns
returns c =
    let bytes = c.args.bytes.now in
    let all = ap (λ (n : ℕ). take n bytes) c.min.ensures ∙ take_min c.args.most bytes in
    subst (λ (taken : List ℕ). IfOk c.from_slice.result (λ first. first ≡ taken)) all c.from_slice.ensures
