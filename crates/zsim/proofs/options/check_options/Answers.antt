use Rattle.std.proofs.Common.{◌≡◌, ◌∙◌, ap, ap₂, rules, codes}
use Rattle.std.proofs.lemmas.Result.{IfOk-weaker}
use Rattle.clap.specs.Words.{app_of, is_simple_and_free, rule_of, with_rule}
use Rattle.zsim.specs.Options.{check_options, no_options, positional}
use Rattle.zsim.proofs.SimpleOptions.{check_is_simple}
use Rattle.zsim.proofs.options.check_options.Goals as goal

module _ (c : goal.After-with_arg-2) where
  options_are : (o : _) → app_of o ≡ with_rule (app_of c.in_ok-options.options) (rule_of c.positional-2.result) → app_of o ≡ check_options
  unfolding check_options
  options_are o is =
      let none : app_of c.no_options.result ≡ no_options = search rules in
      let machine : rule_of c.positional.result ≡ positional (codes "machine") = search rules in
      let events : rule_of c.positional-2.result ≡ positional (codes "events") = search rules in
      is ∙ ap₂ with_rule (c.in_ok-options.ensures ∙ ap₂ with_rule none machine) events

pub returns-clause-options : goal.returns-clause-options
returns-clause-options c = IfOk-weaker c.with_arg-2.result _ _ (options_are c) c.with_arg-2.ensures

pub returns-clause-simple : goal.returns-clause-simple
returns-clause-simple c = IfOk-weaker c.with_arg-2.result _ _ (λ o is. ap is_simple_and_free (options_are c o is) ∙ check_is_simple) c.with_arg-2.ensures
