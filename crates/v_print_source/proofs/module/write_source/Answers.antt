use Rattle.v_print.proofs.Written.{as_front}
use Rattle.v_print_source.proofs.Wholes.{source_whole}
use Rattle.v_print_source.proofs.module.write_source.Goals as goal

pub returns : goal.returns
returns c = as_front (source_whole c.args.colons c.args.tree.now c.deref.result.now c.deref.ensures.value) c.in_ok-write_modules.ensures
