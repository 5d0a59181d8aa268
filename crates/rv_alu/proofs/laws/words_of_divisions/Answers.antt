use Rattle.std.proofs.Common.{ℕ, ◌<◌, ◌^◌, ap, arith}
use Rattle.rv_alu.specs.Operations.{low_word, sign_extended}
use Rattle.rv_alu.proofs.Division.{word_quotient, word_remainder}
use Rattle.rv_alu.specs.Arithmetic.{result_of}
use Rattle.rv_alu.proofs.laws.words_of_divisions.Goals as goal

low-lt : (x : ℕ) → low_word x < 2 ^ 32
low-lt x = omega arith

pub returns-clause-signed_quotient : goal.returns-clause-signed_quotient
unfolding result_of
returns-clause-signed_quotient c = λ a b. ap sign_extended (word_quotient (low_word a) (low_word b) (low-lt a) (low-lt b))

pub returns-clause-signed_remainder : goal.returns-clause-signed_remainder
unfolding result_of
returns-clause-signed_remainder c = λ a b. ap sign_extended (word_remainder (low_word a) (low_word b) (low-lt a) (low-lt b))
