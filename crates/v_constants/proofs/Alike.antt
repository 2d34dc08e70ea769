-- A constant that breaks no rule is the same in each scope that says the same of all constants.
use Rattle.std.proofs.Common.{◌≡◌, ℕ, Bool, true, false, true≢false, ◌&&◌, ◌⊎◌, inl, inr, refl, ap, sym, ◌∙◌, Option, Some, None, option_map, option_and_then}
use Rattle.wb_values.specs.Value.{Name, Entries, entry_of}
use Rattle.wb_values.specs.Choice.{first_of, some_if}
use Rattle.verilog_trees.specs.Syntax.{Expression, Range, Connections, Module}
use Rattle.verilog_meaning.specs.Expression.{Object, Scope, undeclared, object_or_undeclared, scope_of, no_values, width_of, sign_of, value_of, self_value}
use Rattle.verilog_meaning.specs.Hierarchy.{constant_object, parameter_object, Declaration, declarations, declaration_of, connected, overridable, all_parameters}
use Rattle.verilog_rules.specs.Expression.{is_unbroken, constant, broken, has_width, broken_constant}
use Rattle.verilog_designs.specs.Names.{names_in}
use Rattle.verilog_designs.specs.Known.{known_object, with_known_addresses, known_declaration, known_module_scope, known_parameter, known_overrides, known_range, with_range}
use Rattle.verilog_unique.proofs.Descent.{IsAmong}
use Rattle.verilog_exists.proofs.Scopes.{SameIn, same_in, constant_rules}
use Rattle.verilog_constants.specs.Alike.{HaveSameConstants}
use Rattle.verilog_constants.proofs.Names.{bad_not, name_breaks}

-- ---- a constant that breaks no rule

pub unchanged : (s t : Scope) → ((n : Name) → (s n ≡ t n) ⊎ ((s n).constant ≡ None)) → (w : Option ℕ) (g : Bool) (e : Expression)
    → is_unbroken (broken s (constant w g) e) ≡ true → SameIn s t e
unchanged s t alike w g e h = same_in s t e (λ n i. at_name n i (alike n))
  where
    at_name : (n : Name) → IsAmong (names_in e) n → (s n ≡ t n) ⊎ ((s n).constant ≡ None) → s n ≡ t n
    at_name n i (inl q) = q
    at_name n i (inr k) = absurd (true≢false (sym h ∙ bad_not (broken s (constant w g) e) (name_breaks s n k w g e i)))

-- ---- what it overrides a parameter with

same_value : (s t : Scope) (e : Expression) → SameIn s t e → self_value s no_values e ≡ self_value t no_values e
same_value s t e h =
    h.value (width_of s e) (sign_of s e)
    ∙ (ap (λ w. value_of t no_values e w (sign_of s e)) h.width
    ∙ ap (value_of t no_values e (width_of t e)) h.sign)

same_object : (s t : Scope) (e : Expression) → SameIn s t e → parameter_object s false None e ≡ parameter_object t false None e
same_object s t e h =
    ap (λ g. constant_object g (width_of s e) (self_value s no_values e)) h.sign
    ∙ (ap (λ w. constant_object (sign_of t e) w (self_value s no_values e)) h.width
    ∙ ap (constant_object (sign_of t e) (width_of t e)) (same_value s t e h))

same_known : (s t : Scope) (e : Expression) → SameIn s t e → known_parameter s false None e ≡ known_parameter t false None e
same_known s t e h =
    ap (λ b. some_if (is_unbroken b && true) (parameter_object s false None e)) (constant_rules s t e h)
    ∙ ap (some_if (is_unbroken (broken_constant t e) && true)) (same_object s t e h)

pub same_parameter : (s t : Scope) → HaveSameConstants s t → (e : Expression) → known_parameter s false None e ≡ known_parameter t false None e
same_parameter s t alike e = by_test (is_unbroken (broken_constant s e)) refl (is_unbroken (broken_constant t e)) refl
  where
    forth : (n : Name) → (s n ≡ t n) ⊎ (((s n).constant ≡ None) × ((t n).constant ≡ None)) → (s n ≡ t n) ⊎ ((s n).constant ≡ None)
    forth n (inl q) = inl q
    forth n (inr k) = inr k.0

    back : (n : Name) → (s n ≡ t n) ⊎ (((s n).constant ≡ None) × ((t n).constant ≡ None)) → (t n ≡ s n) ⊎ ((t n).constant ≡ None)
    back n (inl q) = inl (sym q)
    back n (inr k) = inr k.1

    nothing : (r : Scope) → is_unbroken (broken_constant r e) ≡ false → known_parameter r false None e ≡ None
    nothing r h = ap (λ b. some_if (b && true) (parameter_object r false None e)) h

    by_test : (a : Bool) → is_unbroken (broken_constant s e) ≡ a → (b : Bool) → is_unbroken (broken_constant t e) ≡ b
        → known_parameter s false None e ≡ known_parameter t false None e
    by_test true h b k = same_known s t e (unchanged s t (λ n. forth n (alike n)) (some_if (has_width s e) (width_of s e)) (sign_of s e) e h)
    by_test false h true k = sym (same_known t s e (unchanged t s (λ n. back n (alike n)) (some_if (has_width t e) (width_of t e)) (sign_of t e) e k))
    by_test false h false k = nothing s h ∙ sym (nothing t k)

-- ---- the scope of a module and that of its parameters alone

no_constant : (s : Scope) (d : Declaration) → (object_or_undeclared (known_declaration s d)).constant ≡ None
no_constant s d = by_range d.range
  where
    addressed : (o : Object) → o.constant ≡ None → (with_known_addresses s d.addresses o).constant ≡ None
    addressed o h = by_addresses d.addresses
      where
        by_addresses : (r : Option Range) → (with_known_addresses s r o).constant ≡ None
        by_addresses None = h
        by_addresses (Some r) = h

    by_bounds : (b : Option (ℕ × ℕ)) → (object_or_undeclared (option_map (with_known_addresses s d.addresses) (option_map (with_range d.signed) b))).constant ≡ None
    by_bounds None = refl
    by_bounds (Some b) = addressed (with_range d.signed b) refl

    by_range : (r : Option Range) → (object_or_undeclared (option_map (with_known_addresses s d.addresses) (known_object s d.signed r))).constant ≡ None
    by_range None = addressed (record undeclared { is_declared = true; signed = d.signed }) refl
    by_range (Some r) = by_bounds (known_range s r)

pub same_constants : (m : Module) (known : Entries Object) → HaveSameConstants (known_module_scope m known) (scope_of known)
same_constants m known n = by_entry (entry_of known n)
  where
    besides : Option Declaration → Option Object
    besides d = option_and_then (known_declaration (scope_of known)) d

    none : (d : Option Declaration) → (object_or_undeclared (besides d)).constant ≡ None
    none None = refl
    none (Some d) = no_constant (scope_of known) d

    by_entry : (o : Option Object) → (object_or_undeclared (first_of o (besides (declaration_of (declarations m) n))) ≡ object_or_undeclared o)
        ⊎ (((object_or_undeclared (first_of o (besides (declaration_of (declarations m) n)))).constant ≡ None) × ((object_or_undeclared o).constant ≡ None))
    by_entry (Some o) = inl refl
    by_entry None = inr (none (declaration_of (declarations m) n), refl)

pub same_overrides : (m : Module) (known : Entries Object) (given : Connections) (below : Module) (n : Name)
    → known_overrides (scope_of known) given below n ≡ known_overrides (known_module_scope m known) given below n
same_overrides m known given below n = by_given (connected given (overridable (all_parameters below)) n)
  where
    by_given : (e : Option Expression)
        → option_map (known_parameter (scope_of known) false None) e ≡ option_map (known_parameter (known_module_scope m known) false None) e
    by_given None = refl
    by_given (Some e) = ap Some (sym (same_parameter (known_module_scope m known) (scope_of known) (same_constants m known) e))
