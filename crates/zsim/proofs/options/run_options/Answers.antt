use Rattle.std.proofs.Common.{◌≡◌, ◌∙◌, ap, ap₂, rules, codes}
use Rattle.std.proofs.lemmas.Result.{IfOk-weaker}
use Rattle.clap.specs.Words.{app_of, is_simple_and_free, rule_of, with_rule}
use Rattle.zsim.specs.Options.{flag, option, run_options}
use Rattle.zsim.proofs.SimpleOptions.{run_is_simple}
use Rattle.zsim.proofs.options.run_options.Goals as goal

module _ (c : goal.After-with_arg-4) where
  options_are : (o : _) → app_of o ≡ with_rule (app_of c.in_ok-options-4.options) (rule_of c.flag.result) → app_of o ≡ run_options
  unfolding run_options
  options_are o is =
      let workers : rule_of c.option.result ≡ option (codes "workers") = search rules in
      let record_to : rule_of c.option-2.result ≡ option (codes "record") = search rules in
      let events_to : rule_of c.option-3.result ≡ option (codes "events") = search rules in
      let brief : rule_of c.flag.result ≡ flag (codes "brief") = search rules in
      is ∙ ap₂ with_rule (c.in_ok-options-4.ensures ∙ ap₂ with_rule (c.in_ok-options-3.ensures ∙ ap₂ with_rule (c.in_ok-options-2.ensures ∙ ap₂ with_rule c.in_ok-options.ensures workers) record_to) events_to) brief

pub returns-clause-options : goal.returns-clause-options
returns-clause-options c = IfOk-weaker c.with_arg-4.result _ _ (options_are c) c.with_arg-4.ensures

pub returns-clause-simple : goal.returns-clause-simple
returns-clause-simple c = IfOk-weaker c.with_arg-4.result _ _ (λ o is. ap is_simple_and_free (options_are c o is) ∙ run_is_simple) c.with_arg-4.ensures
