-- The options use nothing of `clap` by which its matches are not defined.
use Rattle.std.proofs.Common.{◌≡◌, true, refl}
use Rattle.clap.specs.Words.{is_simple_and_free}
use Rattle.clap.proofs.OnLiterals.{clap_on_literals}
use Rattle.zsim.specs.Options.{check_options, replay_options, run_options}

pub run_is_simple : is_simple_and_free run_options ≡ true
unfolding run_options clap_on_literals
run_is_simple = refl

pub replay_is_simple : is_simple_and_free replay_options ≡ true
unfolding replay_options clap_on_literals
replay_is_simple = refl

pub check_is_simple : is_simple_and_free check_options ≡ true
unfolding check_options clap_on_literals
check_is_simple = refl
