-- The rule on ports in a module whose parameters have such values.
use Rattle.std.proofs.Common.{◌≡◌, ◌∙◌, refl, ap, sym, ℕ, Bool, true, false, cond, ◌||◌, List, [], ◌∷◌, ◌++◌, ◌⊎◌, inl, inr, Option, Some, None, option_map}
use Rattle.std.specs.Prelude.{option_and_then}
use Rattle.wb_values.specs.Value.{Name, same_name, Entries, entry_of}
use Rattle.wb_values.specs.Choice.{first_of}
use Rattle.verilog_trees.specs.Syntax.{Range, Module, Source}
use Rattle.verilog_meaning.specs.Expression.{Object, Scope, undeclared, object_or_undeclared, scope_of}
use Rattle.verilog_meaning.specs.Hierarchy.{Declaration, declarations, declaration_of, Placed}
use Rattle.verilog_meaning.specs.Settled.{port_directions, names_of}
use Rattle.verilog_rules.specs.Expression.{constant_number}
use Rattle.verilog_designs.specs.Known.{as_bound, both_bounds, known_range, known_object, with_range, with_known_addresses, known_declaration, known_module_scope}
use Rattle.verilog_designs.specs.Ports.{lacks_direction, lacks_port, has_reg_input, one_range, ranges_of, differ, has_unequal_ranges, has_bad_instance, has_bad_port}
use Rattle.verilog_constants.specs.Alike.{HaveSameConstants}
use Rattle.verilog_constants.proofs.Expressions.{numbers_agree}
use Rattle.v_ports.specs.Ports.{ports_are_bad}
use Rattle.v_ports.proofs.Differing.{ranged}
use Rattle.v_ports.proofs.Whole.{any_same}

-- ---- no declared name is a constant

addressed : (s : Scope) (a : Option Range) (o : Object) → o.constant ≡ None → (with_known_addresses s a o).constant ≡ None
addressed s None o e = e
addressed s (Some r) o e = e

declared_none : (s : Scope) (d : Declaration) → (object_or_undeclared (known_declaration s d)).constant ≡ None
declared_none s d = at_range d.range
  where
    known : (b : Option (ℕ × ℕ)) → (object_or_undeclared (option_map (with_known_addresses s d.addresses) (option_map (with_range d.signed) b))).constant ≡ None
    known None = refl
    known (Some b) = addressed s d.addresses (with_range d.signed b) refl

    at_range : (r : Option Range) → (object_or_undeclared (option_map (with_known_addresses s d.addresses) (known_object s d.signed r))).constant ≡ None
    at_range None = addressed s d.addresses (record undeclared { is_declared = true; signed = d.signed }) refl
    at_range (Some r) = known (known_range s r)

module _ (m : Module) (cs : Entries Object) where
  abbrev declared : Name → Option Object
  declared n = option_and_then (known_declaration (scope_of cs)) (declaration_of (declarations m) n)

  no_constant : (n : Name) → (object_or_undeclared (declared n)).constant ≡ None
  no_constant n = at_declaration (declaration_of (declarations m) n)
    where
      at_declaration : (o : Option Declaration) → (object_or_undeclared (option_and_then (known_declaration (scope_of cs)) o)).constant ≡ None
      at_declaration None = refl
      at_declaration (Some d) = declared_none (scope_of cs) d

  same_constants : HaveSameConstants (known_module_scope m cs) (scope_of cs)
  same_constants n = at_entry (entry_of cs n) refl
    where
      at_entry : (o : Option Object) → entry_of cs n ≡ o
          → (known_module_scope m cs n ≡ scope_of cs n) ⊎ (((known_module_scope m cs n).constant ≡ None) × ((scope_of cs n).constant ≡ None))
      at_entry (Some o) e = inl (ap (λ x. object_or_undeclared (first_of x (declared n))) e ∙ sym (ap object_or_undeclared e))
      at_entry None e = inr (
        ap (λ x. (object_or_undeclared (first_of x (declared n))).constant) e ∙ no_constant n,
        ap (λ x. (object_or_undeclared x).constant) e,
      )

-- ---- ranges

range_same : (m : Module) (cs : Entries Object) (r : Range) → known_range (known_module_scope m cs) r ≡ known_range (scope_of cs) r
range_same m cs r =
    ap (λ a. both_bounds (as_bound a) (as_bound (constant_number (known_module_scope m cs) r.right)))
    (numbers_agree (known_module_scope m cs) (scope_of cs) r.left (same_constants m cs))
    ∙ ap (λ a. both_bounds (as_bound (constant_number (scope_of cs) r.left)) (as_bound a))
    (numbers_agree (known_module_scope m cs) (scope_of cs) r.right (same_constants m cs))

one_same : (m : Module) (cs : Entries Object) (r : Option Range) → one_range (known_module_scope m cs) r ≡ one_range (scope_of cs) r
one_same m cs None = refl
one_same m cs (Some r) =
    ranged (known_module_scope m cs) r (known_range (scope_of cs) r) (range_same m cs r) ∙ sym (ranged (scope_of cs) r (known_range (scope_of cs) r) refl)

ranges_same : (m : Module) (cs : Entries Object) (ds : List Declaration) (n : Name) → ranges_of (known_module_scope m cs) ds n ≡ ranges_of (scope_of cs) ds n
ranges_same m cs [] n = refl
ranges_same m cs (d ∷ ds) n =
    ap (λ xs. cond (same_name d.of_name n) xs [] ++ ranges_of (known_module_scope m cs) ds n) (one_same m cs d.range)
    ∙ ap (λ xs. cond (same_name d.of_name n) (one_range (scope_of cs) d.range) [] ++ xs) (ranges_same m cs ds n)

unequal_same : (m : Module) (cs : Entries Object) → has_unequal_ranges (known_module_scope m cs) m ≡ has_unequal_ranges (scope_of cs) m
unequal_same m cs = any_same _ _ (λ n. ap differ (ranges_same m cs (declarations m) n)) (names_of (port_directions m))

or_assoc : (a b c : Bool) → (a || b) || c ≡ a || (b || c)
or_assoc true b c = refl
or_assoc false b c = refl

pub bad_ports : (source : Source) (p : Placed) → has_bad_port source p ≡ (ports_are_bad (scope_of p.constants) p.of_module || has_bad_instance source p.of_module.items)
bad_ports source p =
    let m : Module = p.of_module in
    ap (λ x. (lacks_direction m || lacks_port m) || ((has_reg_input m || x) || has_bad_instance source m.items)) (unequal_same m p.constants)
    ∙ sym (or_assoc (lacks_direction m || lacks_port m) (has_reg_input m || has_unequal_ranges (scope_of p.constants) m) (has_bad_instance source m.items))

-- what the code finds out of what it reads of a module
pub found : (source : Source) (p : Placed) (m : Module) (own connected : Bool) → p.of_module ≡ m → own ≡ ports_are_bad (scope_of p.constants) m
    → connected ≡ has_bad_instance source m.items → (own || connected) ≡ has_bad_port source p
found source p m own connected of_m is_own is_connected =
    (λ i. (is_own ∙ ap (ports_are_bad (scope_of p.constants)) (sym of_m)) i || (is_connected ∙ ap (λ (k : Module). has_bad_instance source k.items) (sym of_m)) i)
    ∙ sym (bad_ports source p)

pub found_own : (source : Source) (p : Placed) (m : Module) (own : Bool) → p.of_module ≡ m → own ≡ ports_are_bad (scope_of p.constants) m → own ≡ true
    → true ≡ has_bad_port source p
found_own source p m own of_m is_own e =
    sym (ap (λ b. b || has_bad_instance source m.items) e) ∙ found source p m own (has_bad_instance source m.items) of_m is_own refl

pub found_connected : (source : Source) (p : Placed) (m : Module) (own connected : Bool) → p.of_module ≡ m → own ≡ ports_are_bad (scope_of p.constants) m → own ≡ false
    → connected ≡ has_bad_instance source m.items → connected ≡ has_bad_port source p
found_connected source p m own connected of_m is_own e is_connected = sym (ap (λ b. b || connected) e) ∙ found source p m own connected of_m is_own is_connected
