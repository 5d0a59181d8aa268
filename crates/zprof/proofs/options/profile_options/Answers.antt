-- The options are those of a profile.
use Rattle.std.proofs.Common.{◌≡◌, ◌∙◌, ap, ap₂, rules, codes}
use Rattle.std.proofs.lemmas.Result.{IfOk-weaker}
use Rattle.clap.specs.Words.{app_of, is_simple_and_free, rule_of, with_rule}
use Rattle.zsim.specs.Options.{flag, needed_option, option}
use Rattle.zprof.specs.Options.{profile_options}
use Rattle.zprof.proofs.SimpleOptions.{profile_is_simple}
use Rattle.zprof.proofs.options.profile_options.Goals as goal

module _ (c : goal.After-with_arg-5) where
  options_are : (o : _) → app_of o ≡ with_rule (app_of c.in_ok-options-5.options) (rule_of c.flag-2.result) → app_of o ≡ profile_options
  unfolding profile_options
  options_are o is =
      let schedule : rule_of c.option.result ≡ option (codes "schedule") = search rules in
      let folder : rule_of c.required.result ≡ needed_option (codes "out") = search rules in
      let separate : rule_of c.flag.result ≡ flag (codes "separate-cores") = search rules in
      let every : rule_of c.option-3.result ≡ option (codes "every") = search rules in
      let brief : rule_of c.flag-2.result ≡ flag (codes "brief") = search rules in
      is ∙ ap₂ with_rule (c.in_ok-options-5.ensures ∙ ap₂ with_rule (c.in_ok-options-4.ensures ∙ ap₂ with_rule (c.in_ok-options-3.ensures ∙ ap₂ with_rule (c.in_ok-options-2.ensures ∙ ap₂ with_rule c.in_ok-options.ensures schedule) folder) separate) every) brief

pub returns-clause-options : goal.returns-clause-options
returns-clause-options c = IfOk-weaker c.with_arg-5.result _ _ (options_are c) c.with_arg-5.ensures

pub returns-clause-simple : goal.returns-clause-simple
returns-clause-simple c = IfOk-weaker c.with_arg-5.result _ _ (λ o is. ap is_simple_and_free (options_are c o is) ∙ profile_is_simple) c.with_arg-5.ensures
