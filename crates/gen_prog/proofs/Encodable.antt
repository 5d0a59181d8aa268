-- The words of the programs.
use Rattle.std.proofs.Common.{◌≡◌, ℕ, zero, suc, ◌+◌, ◌-◌, ◌*◌, ◌%◌, ◌^◌, ◌<◌, nat_lt, Bool, true, List, [], ◌∷◌, map, All, Some, refl, arith}
use Rattle.std.specs.List.{list_all}
use Rattle.std.proofs.lemmas.Bool.{and_parts, ltb-true}
use Rattle.std.proofs.lemmas.List.Elements.{All-cons, All-nil}
use Rattle.rv_decode.specs.InstructionTable.{decoded, table}
use Rattle.rv_decode.specs.NamedRows.{format_of, row_named, value_of}
use Rattle.rv_decode.specs.declared.inst.Inst.{Inst}
use Rattle.gen_prog.specs.Assembly.{encoded}
use Rattle.gen_prog.specs.Encodable.{IsEncodable}
use Rattle.gen_prog.specs.Generated.{instructions, program}

-- whether the word of an instruction has 32 bits
is_small : Inst → Bool
is_small i = nat_lt (encoded i) (2 ^ 32)

-- the program whose table has 16 * 2^r doublewords
abbrev program_by : ℕ → List Inst
program_by r = program (8 * (2 ^ (4 + r) - 1))

decoded_again : (r : ℕ) → r < 5 → map decoded (map encoded (program_by r)) ≡ map Some (program_by r)
unfolding decoded encoded value_of format_of row_named table
decoded_again zero l = refl
decoded_again (suc zero) l = refl
decoded_again (suc (suc zero)) l = refl
decoded_again (suc (suc (suc zero))) l = refl
decoded_again (suc (suc (suc (suc zero)))) l = refl
decoded_again (suc (suc (suc (suc (suc r))))) l = absurd (omega (arith, l))

small : (r : ℕ) → r < 5 → list_all is_small (program_by r) ≡ true
unfolding is_small encoded value_of format_of row_named table
small zero l = refl
small (suc zero) l = refl
small (suc (suc zero)) l = refl
small (suc (suc (suc zero))) l = refl
small (suc (suc (suc (suc zero)))) l = refl
small (suc (suc (suc (suc (suc r))))) l = absurd (omega (arith, l))

same_head : {A : Type 0} (x y : A) (xs ys : List A) → x ∷ xs ≡ y ∷ ys → x ≡ y
same_head x y xs ys e = cc

same_tail : {A : Type 0} (x y : A) (xs ys : List A) → x ∷ xs ≡ y ∷ ys → xs ≡ ys
same_tail x y xs ys e = cc

all_encodable : (is : List Inst) → map decoded (map encoded is) ≡ map Some is → list_all is_small is ≡ true → All IsEncodable is
unfolding is_small
all_encodable [] e s = All-nil IsEncodable
all_encodable (i ∷ is) e s =
    let parts = and_parts (is_small i) (list_all is_small is) s in
    let first : IsEncodable i = record { small = ltb-true (encoded i) (2 ^ 32) parts.0; decodes = same_head _ _ _ _ e } in
    All-cons IsEncodable i is first (all_encodable is (same_tail _ _ _ _ e) parts.1)

pub words_decode : (n : ℕ) → map decoded (map encoded (instructions n)) ≡ map Some (instructions n)
words_decode n = decoded_again (n % 5) (omega arith)

pub encodable : (n : ℕ) → All IsEncodable (instructions n)
encodable n = all_encodable (instructions n) (words_decode n) (small (n % 5) (omega arith))
