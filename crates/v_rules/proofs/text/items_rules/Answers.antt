use Rattle.std.proofs.Common.{◌∙◌, map}
use Rattle.v_value.specs.Scope.{scope_at}
use Rattle.v_syntax.specs.Source.{item_of}
use Rattle.v_rules.specs.Judging.{none}
use Rattle.v_rules.proofs.Listed.{items-broken}
use Rattle.v_rules.proofs.text.items_rules.Goals as goal

pub returns-clause-alone : goal.returns-clause-alone
returns-clause-alone c = λ source h. c.broken_items.ensures ∙ items-broken source (scope_at c.args.names.scope.now) (map item_of c.args.items.now) h none
