use Rattle.v_value.specs.Scope.{scope_at}
use Rattle.v_syntax.specs.Tree.{tree_of}
use Rattle.v_size.proofs.Known as known
use Rattle.v_size.proofs.sizing.size.Goals as goal

pub returns : goal.returns
returns c =
    known.sizing (scope_at c.args.scope.now) c.requires (tree_of c.args.expression.now) c.judge-judged.result c.judge-judged.ensures c.first_kind.result c.first_kind.ensures
    c.sign_of-signed.result c.sign_of-signed.ensures c.given.result c.given.ensures
