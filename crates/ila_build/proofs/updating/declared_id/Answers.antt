use Rattle.std.proofs.Common.{None, Some}
use Rattle.ila_build.proofs.Arms.{is_in}
use Rattle.ila_build.proofs.updating.declared_id.Goals as goal

pub name_of-requires : goal.name_of-requires
name_of-requires c = is_in c.args.terms.now c.args.known.now None c.args.name.now (Some c.in-Some.term) c.requires c.in-Some.ensures
