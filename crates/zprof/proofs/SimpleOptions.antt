-- The options use nothing of `clap` by which its matches are not defined.
use Rattle.std.proofs.Common.{◌≡◌, true, refl}
use Rattle.clap.specs.Words.{is_simple_and_free}
use Rattle.clap.proofs.OnLiterals.{clap_on_literals}
use Rattle.zprof.specs.Options.{profile_options}

pub profile_is_simple : is_simple_and_free profile_options ≡ true
unfolding profile_options clap_on_literals
profile_is_simple = refl
