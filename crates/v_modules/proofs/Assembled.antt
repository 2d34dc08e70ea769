-- What a module breaks, from what its declared names and its text break.
use Rattle.std.proofs.Common.{◌≡◌, ◌∙◌, refl, sym, ap, Bool, true, false, ◌||◌, List, ◌++◌}
use Rattle.wb_values.specs.Value.{Name, Entries}
use Rattle.verilog_trees.specs.Syntax.{Module, Source}
use Rattle.verilog_meaning.specs.Expression.{Object, Scope, scope_of}
use Rattle.verilog_meaning.specs.Hierarchy.{all_parameters, declarations, header_ports, Placed}
use Rattle.verilog_rules.specs.Expression.{Broken as Rules, also, constant_if}
use Rattle.verilog_designs.specs.Names.{is_among, parameter_names, names_in_parameters, names_in_ports}
use Rattle.verilog_designs.specs.Constants.{constant_names_in_module_items, has_net_as_constant}
use Rattle.verilog_designs.specs.Expressions.{broken_header, broken_ports, broken_declarations, broken_module_items, broken_module}
use Rattle.v_value.specs.Narrow.{HasNarrowObjects}
use Rattle.v_scopes.specs.Rows.{Row}
use Rattle.v_size.specs.declared.rule.Broken.{Broken}
use Rattle.v_size.specs.Rule.{coded, both}
use Rattle.v_rules.specs.Judging.{none}
use Rattle.v_modules.specs.Kinds.{kinds}
use Rattle.v_modules.specs.Combined.{names_from, one_other, narrow_objects, net_objects, text, kinds_alone, combined}
use Rattle.v_sound.specs.Alike.{IsNet, five}
use Rattle.v_sound.proofs.Widths.{ports-five, header-five, items-five}
use Rattle.v_sound.proofs.Told.{told-ports, told-header, told-items, told-append}
use Rattle.v_sound.proofs.Objects.{any_wide}
use Rattle.v_modules.proofs.Shapes.{known, all_rows, narrow, nets, wide, narrow-alike, narrow-same, wide-known, wide-narrow, narrow-whole, is_net_here, nets-there, nets-same, narrow-there}
use Rattle.v_modules.proofs.Memories.{any_port, is_port_of, memories-same}
use Rattle.v_modules.proofs.Named.{of_names, names-broken, declarations-broken}

-- the parameters of a module by their names
abbrev pub is_parameter : Module → Name → Bool
is_parameter m = is_among (parameter_names (all_parameters m))

module _ (source : Source) (m : Module) (cs : Entries Object) (fit : HasNarrowObjects (scope_of cs)) where
  abbrev its : Scope
  its = known m cs fit

  abbrev slim : Scope
  slim = narrow m cs fit

  abbrev is_net_of_it : Name → Bool
  is_net_of_it n = is_net_here m cs fit (is_parameter m) n

  -- ---- nets as constants

  front : (h p i : Bool) → p || (h || i) ≡ (h || p) || i
  front true true i = refl
  front true false i = refl
  front false true i = refl
  front false false i = refl

  told-text : (t : Scope) → ((n : Name) → is_net_of_it n ≡ false → slim n ≡ t n) → ((n : Name) → is_net_of_it n ≡ true → IsNet (t n))
      → ((text source slim m).bad_constant || (text source t m).bad_constant) ≡ ((text source slim m).bad_constant || has_net_as_constant source m)
  told-text t same nets =
      let all = told-append slim t is_net_of_it same nets (names_in_parameters m.parameters ++ names_in_ports (header_ports m.ports)) (constant_names_in_module_items source m.items)
      (told-append slim t is_net_of_it same nets (names_in_parameters m.parameters) (names_in_ports (header_ports m.ports))
      (told-header slim t is_net_of_it same nets m.parameters) (told-ports slim t is_net_of_it same nets (header_ports m.ports)))
      (told-items slim t is_net_of_it same nets source m.items) in
      let a = front (broken_header slim m.parameters).bad_constant (broken_ports slim (header_ports m.ports)).bad_constant (broken_module_items source slim m.items).bad_constant in
      let b = front (broken_header t m.parameters).bad_constant (broken_ports t (header_ports m.ports)).bad_constant (broken_module_items source t m.items).bad_constant in
      (λ i. a i || b i) ∙ all.told ∙ (λ i. sym a i || has_net_as_constant source m)

  -- ---- all together

  abbrev own : Rules
  own = text source its m

  abbrev shaped : Rules
  shaped = text source slim m

  text-five : five own ≡ five shaped
  text-five =
      let same = narrow-same m cs fit in
      let left = wide-known m cs fit in
      let right = wide-narrow m cs fit in
      let alike = narrow-alike m cs fit in
      λ i.
      also (ports-five its slim (wide m cs fit) same left right alike (header_ports m.ports) i)
      (also (header-five its slim (wide m cs fit) same left right alike m.parameters i)
      (items-five its slim (wide m cs fit) same left right alike source m.items i))

  text-whole : any_wide its (declarations m) ≡ false → own ≡ shaped
  text-whole h = ap (λ s. text source s m) (narrow-whole m cs fit h)

  abbrev module_rules : Rules
  module_rules =
      also (constant_if (has_net_as_constant source m)) (also (also (broken_header its m.parameters) (broken_ports its (header_ports m.ports)))
      (also (broken_declarations its m (declarations m)) (broken_module_items source its m.items)))

  abbrev joined : Bool → Bool → Bool → Rules
  joined net w memory =
      also (constant_if net) (also (also (broken_header its m.parameters) (broken_ports its (header_ports m.ports))) (also (of_names w memory) (broken_module_items source its m.items)))

  module-joined : module_rules ≡ joined (has_net_as_constant source m) (any_wide its (declarations m)) (any_port its (is_port_of m) (declarations m))
  module-joined =
      ap (λ d. also (constant_if (has_net_as_constant source m)) (also (also (broken_header its m.parameters) (broken_ports its (header_ports m.ports))) (also d (broken_module_items source its m.items))))
      (declarations-broken its m (declarations m))

  or-swap : (h p d i : Bool) → (h || p) || (d || i) ≡ (p || (h || i)) || d
  or-swap true true d i = refl
  or-swap true false d i = refl
  or-swap false true d i = refl
  or-swap false false true true = refl
  or-swap false false true false = refl
  or-swap false false false true = refl
  or-swap false false false false = refl

  -- the parts in another order
  ordered : (net w memory : Bool) → coded (joined net w memory) ≡ both (coded (constant_if net)) (both (coded own) (coded (of_names w memory)))
  ordered net w memory =
      let h : Rules = broken_header its m.parameters in
      let p : Rules = broken_ports its (header_ports m.ports) in
      let x : Rules = broken_module_items source its m.items in
      λ i. record {
        undeclared = or-swap h.undeclared p.undeclared false x.undeclared i;
        has_xz = or-swap h.has_xz p.has_xz false x.has_xz i;
        bad_constant = net || or-swap h.bad_constant p.bad_constant false x.bad_constant i;
        width_over_128 = or-swap h.width_over_128 p.width_over_128 (w || false) x.width_over_128 i;
        bad_select = or-swap h.bad_select p.bad_select false x.bad_select i;
        memory_use = or-swap h.memory_use p.memory_use memory x.memory_use i;
        misshapen = or-swap h.misshapen p.misshapen false x.misshapen i;
      }

  abbrev apart : (net w memory : Bool) → Broken
  apart net w memory = both (coded (constant_if net)) (both (coded own) (coded (of_names w memory)))

  -- with narrow names the same kinds are found
  same-kinds : (w memory net : Bool) → (w ≡ false → own ≡ shaped) → combined (coded (of_names w memory)) (coded shaped) net ≡ kinds_alone (apart net w memory)
  same-kinds false memory net whole = sym (ap (λ (x : Rules). kinds_alone (both (coded (constant_if net)) (both (coded x) (coded (of_names false memory))))) (whole refl))
  same-kinds true memory net whole = sym (λ i. record (kinds_alone (both (coded (constant_if net)) (both (coded (text-five i)) (coded (of_names true memory))))) {
    width_over_128 = wide-anyway own.width_over_128 shaped.width_over_128 i;
  })
    where
      or-yes : (x : Bool) → x || true ≡ true
      or-yes true = refl
      or-yes false = refl

      wide-anyway : (x y : Bool) → x || true ≡ y || true
      wide-anyway x y = or-yes x ∙ sym (or-yes y)

  -- a net stands where a constant must, or the text breaks a rule on constants anyway
  net-moved : (n : Bool) → (shaped.bad_constant || n) ≡ (shaped.bad_constant || has_net_as_constant source m) → (d : Broken) → combined d (coded shaped) (has_net_as_constant source m) ≡ combined d (coded shaped) n
  net-moved n h d = λ i. record (combined d (coded shaped) n) { bad_constant = turned i }
    where
      front : (a b c : Bool) → a || (b || c) ≡ (b || a) || c
      front true true c = refl
      front true false c = refl
      front false true c = refl
      front false false c = refl

      turned : (has_net_as_constant source m || (shaped.bad_constant || d.bad_constant)) ≡ (n || (shaped.bad_constant || d.bad_constant))
      turned =
          front (has_net_as_constant source m) shaped.bad_constant d.bad_constant ∙ ap (λ b. b || d.bad_constant) (sym h) ∙ sym (front n shaped.bad_constant d.bad_constant)

  module-is : (n : Bool) → (shaped.bad_constant || n) ≡ (shaped.bad_constant || has_net_as_constant source m)
      → combined (coded (of_names (any_wide its (declarations m)) (any_port its (is_port_of m) (declarations m)))) (coded shaped) n ≡ coded (kinds module_rules)
  module-is n h =
      let w : Bool = any_wide its (declarations m) in
      let o : Bool = any_port its (is_port_of m) (declarations m) in
      let net : Bool = has_net_as_constant source m in
      let e : coded module_rules ≡ apart net w o = ap coded module-joined ∙ ordered net w o in
      sym (net-moved n h (coded (of_names w o))) ∙ same-kinds w o net text-whole ∙ ap kinds_alone (sym e)

  -- rs are the rows and s the scope of the module, d what its declared names break, and x what its text breaks with narrow names
  module _ (rs : List Row) (is_rs : rs ≡ all_rows m cs fit) (s : Scope) (is_s : s ≡ its) (d x : Broken) (is_d : d ≡ names_from s none rs)
      (is_x : x ≡ coded (text source (scope_of (narrow_objects cs s rs)) m)) (p : Placed) (of_m : p.of_module ≡ m) (same_constants : p.constants ≡ cs) where
    names-are : d ≡ coded (of_names (any_wide its (declarations m)) (any_port its (is_port_of m) (declarations m)))
    names-are =
        is_d ∙ ap (λ z. names_from z none rs) is_s ∙ ap (names_from its none) is_rs ∙ names-broken its (scope_of cs) (declarations m) none
        ∙ ap (λ b. coded (of_names (any_wide its (declarations m)) b)) (memories-same its m)

    text-is : x ≡ coded shaped
    text-is = is_x ∙ (λ i. coded (text source (scope_of (narrow_objects cs (is_s i) (is_rs i))) m))

    placed : record { path = p.path; of_module = m; constants = cs } ≡ p
    placed = λ i. record { path = p.path; of_module = sym of_m i; constants = sym same_constants i }

    whole-module : coded (kinds module_rules) ≡ coded (kinds (broken_module source p))
    whole-module = ap (λ z. coded (kinds (broken_module source z))) placed

    finished : (n : Bool) → (shaped.bad_constant || n) ≡ (shaped.bad_constant || has_net_as_constant source m) → combined d x n ≡ coded (kinds (broken_module source p))
    finished n h =
        ap (λ z. combined z x n) names-are ∙ ap (λ z. combined (coded (of_names (any_wide its (declarations m)) (any_port its (is_port_of m) (declarations m)))) z n) text-is
        ∙ module-is n h ∙ whole-module

    -- all declared names stand for nets
    pub with-values : (u : Bool) → u ≡ one_other s rs → u ≡ false → combined d x false ≡ coded (kinds (broken_module source p))
    with-values u is_u h =
        let k : one_other its (all_rows m cs fit) ≡ false = sym (is_u ∙ (λ i. one_other (is_s i) (is_rs i))) ∙ h in
        finished false (sym (twice shaped.bad_constant) ∙ told-text slim (λ n g. refl) (narrow-there m cs fit (is_parameter m) k))
      where
        twice : (b : Bool) → b || b ≡ b || false
        twice true = refl
        twice false = refl

    -- y is what the text breaks where all nets are declared
    pub without-values : (y : Broken) → y ≡ coded (text source (scope_of (net_objects (is_parameter m) cs s rs)) m) → combined d x y.bad_constant ≡ coded (kinds (broken_module source p))
    without-values y is_y =
        let k : y ≡ coded (text source (nets m cs fit (is_parameter m)) m) = is_y ∙ (λ i. coded (text source (scope_of (net_objects (is_parameter m) cs (is_s i) (is_rs i))) m)) in
        finished y.bad_constant (ap (λ (b : Broken). shaped.bad_constant || b.bad_constant) k ∙ told-text (nets m cs fit (is_parameter m)) (nets-same m cs fit (is_parameter m)) (nets-there m cs fit (is_parameter m)))
