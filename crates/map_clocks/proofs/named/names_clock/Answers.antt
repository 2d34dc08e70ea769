use Rattle.std.proofs.Common.{◌∙◌, ap, sym, subst}
use Rattle.std.specs.Prelude.{◌↔◌, IsTrue}
use Rattle.std.specs.List.{list_any}
use Rattle.map_rules.specs.Expressions.{NamesClock}
use Rattle.v_clocks.specs.Views.{sets_of}
use Rattle.map_paths.specs.Tables.{numbers_in}
use Rattle.map_clocks.specs.Clocked.{is_clock_named}
use Rattle.map_clocks.proofs.Nets.{clocks_are_named}
use Rattle.map_clocks.proofs.named.names_clock.Goals as goal

pub returns-clause-clock : goal.returns-clause-clock
returns-clause-clock c = λ d spots e h named.
    subst (λ b. IsTrue b ↔ NamesClock d e)
    (sym (c.any_clock.ensures ∙ ap (list_any (is_clock_named (numbers_in c.args.instances.now) (sets_of c.args.nets.now))) named))
    (clocks_are_named d spots (numbers_in c.args.instances.now) (sets_of c.args.nets.now) h e)
