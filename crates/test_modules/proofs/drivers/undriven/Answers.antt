use Rattle.test_modules.proofs.drivers.undriven.Goals as goal

pub invariant_of-narrow : goal.invariant_of-narrow
invariant_of-narrow c = record { narrow = c.are_objects_narrow.ensures.objects c.if-not-are_objects_narrow.false }
