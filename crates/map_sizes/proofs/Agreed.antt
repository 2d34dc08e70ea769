-- Scopes that agree on the names of an expression judge it alike.
use Rattle.std.proofs.Common.{◌≡◌, ◌∙◌, sym, ap}
use Rattle.verilog_rules.specs.Expression.{anywhere, broken, first_broken, has_width}
use Rattle.verilog_renamed.specs.EachName.{EachIn}
use Rattle.verilog_renamed.specs.Agreement.{IsSameIn}
use Rattle.verilog_renamed.proofs.EachName.{each_listed}
use Rattle.verilog_renamed.proofs.AgreedMeaning.{expressions_are_agreed_on}
use Rattle.flat_rules.specs.SameRules.{ExpressionsBreakTheSame}
use Rattle.map_sizes.specs.Kinds.{RulesAreAgreedOn}
use Rattle.map_sizes.proofs.Unchanged.{itself, expression_same}

pub rules_are_agreed_on : ExpressionsBreakTheSame → RulesAreAgreedOn
rules_are_agreed_on law s t e same =
    let each : EachIn (IsSameIn t s) e = each_listed (IsSameIn t s) e same in
    let rules = law itself t s e each in
    let broken_same : broken s anywhere e ≡ broken t anywhere e = ap (broken s anywhere) (sym (expression_same e)) ∙ rules.rules anywhere in
    record {
      refusal = ap first_broken broken_same;
      has = ap (has_width s) (sym (expression_same e)) ∙ rules.has;
      width = (expressions_are_agreed_on t s e each).width;
    }
