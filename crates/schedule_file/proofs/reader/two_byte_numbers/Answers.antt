use Rattle.std.proofs.Common.{◌≡◌, ℕ, List, [], ◌∷◌, ◌++◌, ◌*◌, ap, ◌∙◌, sym, add-one, arith}
use Rattle.std.proofs.lemmas.List.{take_rest}
use Rattle.byteorder.specs.Endian.{little_number}
use Rattle.schedule_file.specs.ScheduleFile.{numbers_of}
use Rattle.schedule_file.proofs.Numbers.{numbers_on}
use Rattle.schedule_file.proofs.reader.two_byte_numbers.Goals as goal

pub loop-k-preserved : goal.loop-k-preserved
loop-k-preserved c =
    let list : List ℕ = c.args.list.now in
    let k = c.loop-k.k in
    c.in_ok-push.ensures.items
    ∙ (ap (λ (ns : List ℕ). ns ++ c.read_u16.result ∷ []) c.loop-k.invariant
    ∙ (ap (λ (n : ℕ). numbers_of 2 k list ++ n ∷ []) (c.read_u16.ensures ∙ ap (little_number 2) (take_rest list (2 * k)))
    ∙ (sym (numbers_on 2 k list) ∙ ap (λ (n : ℕ). numbers_of 2 n list) (sym (add-one k)))))

pub returns : goal.returns
returns c =
    let all : c.loop-k.k ≡ c.args.count = omega (arith, c.loop-k-test.false) in
    c.loop-k.invariant ∙ ap (λ (n : ℕ). numbers_of 2 n c.args.list.now) all
