use Rattle.std.proofs.Common.{◌∙◌, sym, refl, Some, None}
use Rattle.verilog_designs.specs.Names.{has_undeclared, has_duplicate, has_duplicate_module}
use Rattle.v_syntax.specs.Source.{module_of, source_of}
use Rattle.v_scopes.specs.declared.refusal.ScopesKind.TheVariants.{NoTop, Undeclared, DuplicateName}
use Rattle.v_scopes.specs.Ports.{lacks_clock}
use Rattle.v_scopes.proofs.Chosen.{first_kind, later_kind}
use Rattle.v_scopes.proofs.refusal.kind_of_names.Goals as goal

pub returns-then-lacking : goal.returns-then-lacking
returns-then-lacking c =
    let m = module_of c.args.within.now in
    first_kind (lacks_clock m c.args.clock.now) (Some NoTop) _ (sym c.lacks_clock-lacking.ensures ∙ c.if-lacking.true)

pub returns-then-unknown : goal.returns-then-unknown
returns-then-unknown c =
    let m = module_of c.args.within.now in
    let source = source_of c.args.tree.now in
    later_kind (lacks_clock m c.args.clock.now) (Some NoTop) _ _ (sym c.lacks_clock-lacking.ensures ∙ c.if-lacking.false)
    (first_kind (has_undeclared source m) (Some Undeclared) _ (sym c.in_ok-unknown.ensures ∙ c.if-unknown.true))

pub returns-then-modules : goal.returns-then-modules
returns-then-modules c =
    let m = module_of c.args.within.now in
    let source = source_of c.args.tree.now in
    later_kind (lacks_clock m c.args.clock.now) (Some NoTop) _ _ (sym c.lacks_clock-lacking.ensures ∙ c.if-lacking.false)
    (later_kind (has_undeclared source m) (Some Undeclared) _ _ (sym c.in_ok-unknown.ensures ∙ c.if-unknown.false)
    (first_kind (has_duplicate_module source) (Some DuplicateName) _ (sym c.in_ok-modules.ensures ∙ c.if-modules.true)))

pub returns-then-names : goal.returns-then-names
returns-then-names c =
    let m = module_of c.args.within.now in
    let source = source_of c.args.tree.now in
    later_kind (lacks_clock m c.args.clock.now) (Some NoTop) _ _ (sym c.lacks_clock-lacking.ensures ∙ c.if-lacking.false)
    (later_kind (has_undeclared source m) (Some Undeclared) _ _ (sym c.in_ok-unknown.ensures ∙ c.if-unknown.false)
    (later_kind (has_duplicate_module source) (Some DuplicateName) _ _ (sym c.in_ok-modules.ensures ∙ c.if-modules.false)
    (first_kind (has_duplicate m) (Some DuplicateName) _ (sym c.in_ok-names.ensures ∙ c.if-names.true))))

pub returns : goal.returns
returns c =
    let m = module_of c.args.within.now in
    let source = source_of c.args.tree.now in
    later_kind (lacks_clock m c.args.clock.now) (Some NoTop) _ _ (sym c.lacks_clock-lacking.ensures ∙ c.if-lacking.false)
    (later_kind (has_undeclared source m) (Some Undeclared) _ _ (sym c.in_ok-unknown.ensures ∙ c.if-unknown.false)
    (later_kind (has_duplicate_module source) (Some DuplicateName) _ _ (sym c.in_ok-modules.ensures ∙ c.if-modules.false)
    (later_kind (has_duplicate m) (Some DuplicateName) _ _ (sym c.in_ok-names.ensures ∙ c.if-names.false) refl)))
