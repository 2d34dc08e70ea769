use Rattle.std.proofs.Common.{sym, subst, ◌&&◌, ◌||◌}
use Rattle.wb_values.specs.Value.{truth, word}
use Rattle.v_operators.proofs.Growing.{IsOfSort-kept}
use Rattle.v_lower.specs.Deciding.{Decides, connected}
use Rattle.v_lower.proofs.Decisions.{connect}
use Rattle.v_lower.proofs.deciding.connected.Goals as goal

pub is_nonzero-requires-2 : goal.is_nonzero-requires-2
is_nonzero-requires-2 c = IsOfSort-kept c.args.right.0 (word c.args.right_width) c.in_ok-first.ensures.grows c.requires.right

pub both-requires-clause-left : goal.both-requires-clause-left
both-requires-clause-left c = IsOfSort-kept c.in_ok-first.first.0 truth c.in_ok-second.ensures.grows c.in_ok-first.ensures.made.of_sort

pub either-requires-clause-left : goal.either-requires-clause-left
either-requires-clause-left c = IsOfSort-kept c.in_ok-first.first.0 truth c.in_ok-second.ensures.grows c.in_ok-first.ensures.made.of_sort

pub returns-in_ok-id-in-Both-clause-made : goal.returns-in_ok-id-in-Both-clause-made
returns-in_ok-id-in-Both-clause-made c =
    subst (λ o. Decides c.args.terms.now c.both.new.terms c.args.left.0 c.args.left_width c.args.right.0 c.args.right_width c.in_ok-id-in-Both.id.0 (connected o)) (sym c.in-Both.is)
    (connect c.args.terms.now c.is_nonzero.new.terms c.is_nonzero-2.new.terms c.both.new.terms c.args.left.0 c.args.left_width c.args.right.0 c.args.right_width c.in_ok-first.first.0 c.in_ok-second.second.0 c.in_ok-id-in-Both.id.0 (λ a b. a && b)
    c.requires.right c.in_ok-first.ensures.grows c.in_ok-first.ensures.made c.in_ok-second.ensures.grows c.in_ok-second.ensures.made c.in_ok-id-in-Both.ensures.made)

pub returns-in_ok-id-in-Either-clause-made : goal.returns-in_ok-id-in-Either-clause-made
returns-in_ok-id-in-Either-clause-made c =
    subst (λ o. Decides c.args.terms.now c.either.new.terms c.args.left.0 c.args.left_width c.args.right.0 c.args.right_width c.in_ok-id-in-Either.id.0 (connected o)) (sym c.in-Either.is)
    (connect c.args.terms.now c.is_nonzero.new.terms c.is_nonzero-2.new.terms c.either.new.terms c.args.left.0 c.args.left_width c.args.right.0 c.args.right_width c.in_ok-first.first.0 c.in_ok-second.second.0 c.in_ok-id-in-Either.id.0 (λ a b. a || b)
    c.requires.right c.in_ok-first.ensures.grows c.in_ok-first.ensures.made c.in_ok-second.ensures.grows c.in_ok-second.ensures.made c.in_ok-id-in-Either.ensures.made)
