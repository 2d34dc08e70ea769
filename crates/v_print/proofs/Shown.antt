-- Written numbers.
use Rattle.std.proofs.Common.{◌≡◌, Bool, true, false, List, ◌∷◌, sym, ◌∙◌}
use Rattle.std.specs.Fmt.{decimal as numeral}
use Rattle.std.proofs.lemmas.Bool.{cond-true, cond-false}
use Rattle.verilog_text.specs.Token.{Token, decimal, based}
use Rattle.verilog_trees.specs.Syntax.{Number}
use Rattle.v_print.specs.Spelled.{is_plain, based_text, size_before, number_before}

pub plain_shown : (n : Number) (b : Bool) → b ≡ is_plain n → b ≡ true → (r : List Token) → decimal (numeral n.value) ∷ r ≡ number_before n r
unfolding number_before
plain_shown n b e h r = sym (cond-true (is_plain n) _ _ (sym e ∙ h))

pub based_shown : (n : Number) (b : Bool) → b ≡ is_plain n → b ≡ false → (r : List Token) → size_before n (based (based_text n) ∷ r) ≡ number_before n r
unfolding number_before
based_shown n b e h r = sym (cond-false (is_plain n) _ _ (sym e ∙ h))
