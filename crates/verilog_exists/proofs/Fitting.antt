-- Parameters' numbers fit their widths, and so does all that a module names where its nets, variables and memories have values of
-- their objects. (The same stands in the proofs of `wb_laws`, of a settled valuation alone.)
use Rattle.std.proofs.Common.{◌≡◌, ℕ, ◌^◌, ◌<◌, ◌≤◌, Bool, true, false, cond, ◌||◌, List, [], ◌∷◌, ◌++◌, ◌⊎◌, inl, inr, refl, subst, Option, Some, None, arith}
use Rattle.std.specs.Prelude.{◌+◌, ◌-◌, IsTrue, is_some, is_none, unwrap_or, option_map, option_and_then}
use Rattle.std.proofs.Math.Nat.{mod-lt}
use Rattle.std.proofs.Math.Pow.{pow_pos, pow_mono}
use Rattle.wb_values.specs.Choice.{first_of}
use Rattle.wb_values.specs.Value.{Name, Value, truth_value, number as a_number, words, same_name, as_number, Valuation, Entries, entry_of}
use Rattle.verilog_trees.specs.Syntax.{Expression, number, name, concatenation, replication, as_signed, as_unsigned, unary, reduction, binary, shift, power, comparison, logical, conditional, Expressions, no_expressions, expression, Selects, whole, one, two, Range, ParameterDeclaration, Module, Source}
use Rattle.verilog_meaning.specs.Expression.{Object, Scope, undeclared, object_or_undeclared, scope_of, object_width, no_values, widened, whole_value, width_of, sign_of, self_value}
use Rattle.verilog_meaning.specs.Hierarchy.{ranged_object, constant_object, parameter_object, overridden_object, Overrides, one_parameter, override_of, with_values, with_parameters, all_parameters, constants_of, declarations, declaration_of, Declaration, declared_object, module_scope, PathStep, Placed, placed_scope, module_named, Instance, instance_named, instance_reached, connected, overridable, overrides_of, placed_instance, placed_below, no_overrides, placed_at}
use Rattle.verilog_meaning.specs.Settled.{Design, IsPlacedIn, IsDeclared, IsValueOf}
use Rattle.wb_laws.specs.Widths.{ReadFits, LeavesFit, AllLeavesFit}
use Rattle.wb_laws.specs.Settled.{NamesAre, AllNamesAre, HasNumbersThatFit, ValuesFit, ParametersFit, HasFittingNumbers, SourceHasFittingNumbers, IsKnown}
use Rattle.wb_laws.proofs.Widths.{value_fits}
use Rattle.verilog_settled.specs.Locality.{Fits, AllFit}
use Rattle.verilog_unique.specs.Unique as unique
use Rattle.verilog_unique.proofs.Standing.{IsKnownIn}
use Rattle.verilog_unique.proofs.Parameters.{placed_constants, net_is_declared}
use Rattle.wb_values.specs.Number.{top_bit}

-- where what is read of each name of the kind fits, so do the leaves
mutual
  leaves_fit : (s : Scope) (v : Valuation) (IsOfKind : Name → Type 0) → ((n : Name) (x : Selects) → IsOfKind n → ReadFits (s n) (v n) x)
      → (e : Expression) → NamesAre IsOfKind e → LeavesFit s v e
  leaves_fit s v kind r (number k) h = h
  leaves_fit s v kind r (name n x) h = r n x h
  leaves_fit s v kind r (concatenation es) h = all_leaves_fit s v kind r es h
  leaves_fit s v kind r (replication k es) h = all_leaves_fit s v kind r es h
  leaves_fit s v kind r (as_signed x) h = leaves_fit s v kind r x h
  leaves_fit s v kind r (as_unsigned x) h = leaves_fit s v kind r x h
  leaves_fit s v kind r (unary op x) h = leaves_fit s v kind r x h
  leaves_fit s v kind r (reduction op x) h = tt
  leaves_fit s v kind r (binary op x y) h = (leaves_fit s v kind r x h.0, leaves_fit s v kind r y h.1)
  leaves_fit s v kind r (shift op x n) h = leaves_fit s v kind r x h
  leaves_fit s v kind r (power x n) h = tt
  leaves_fit s v kind r (comparison op x y) h = tt
  leaves_fit s v kind r (logical op x y) h = tt
  leaves_fit s v kind r (conditional c x y) h = (leaves_fit s v kind r x h.0, leaves_fit s v kind r y h.1)

  all_leaves_fit : (s : Scope) (v : Valuation) (IsOfKind : Name → Type 0) → ((n : Name) (x : Selects) → IsOfKind n → ReadFits (s n) (v n) x)
      → (es : Expressions) → AllNamesAre IsOfKind es → AllLeavesFit s v es
  all_leaves_fit s v kind r no_expressions h = tt
  all_leaves_fit s v kind r (expression e es) h = (leaves_fit s v kind r e h.0, all_leaves_fit s v kind r es h.1)

-- an object with a number that fits it, as a parameter is
record IsParameter (o : Object) : Type 0 where
  number : ℕ
  is_number : o.constant ≡ Some number
  fits : number < 2 ^ object_width o
  no_memory : o.addresses ≡ None

-- what is read of the object fits, whatever a valuation has of it
parameter_read : (o : Object) (x : Value) (i : Selects) → IsParameter o → ReadFits o x i
parameter_read o x whole h = rw h.is_number h.fits
parameter_read o x (one i) h = λ m. absurd (not_some o.addresses h.no_memory m)
  where
    not_some : {A : Type 0} (a : Option A) → a ≡ None → IsTrue (is_some a) → ⊥
    not_some None e t = cc
    not_some (Some y) e t = cc
parameter_read o x (two i j) h = tt

-- what is read of an object without a number fits where nothing has a value, and where its own value fits
nothing_read : (o : Object) (i : Selects) → o.constant ≡ None → ReadFits o (a_number 0) i
nothing_read o whole e = rw e (pow_pos (object_width o))
nothing_read o (one i) e = λ m k. pow_pos (object_width o)
nothing_read o (two i j) e = tt

value_read : (o : Object) (x : Value) (i : Selects) → o.constant ≡ None → IsValueOf o x → ReadFits o x i
value_read o (truth_value b) i e h = absurd h
value_read o (a_number n) whole e h = rw e h.1
value_read o (words xs) whole e h = rw e (pow_pos (object_width o))
value_read o (a_number n) (one i) e h = λ m k. pow_pos (object_width o)
value_read o (words xs) (one i) e h = λ m k. h.1.narrow k
value_read o x (two i j) e h = tt

-- entries

abbrev AreParameters : Entries Object → Type 0
AreParameters [] = Unit {0}
AreParameters (e ∷ es) = IsParameter e.1 × AreParameters es

one_more : (es : Entries Object) (n : Name) (o : Object) → AreParameters es → IsParameter o → AreParameters (es ++ (n, o) ∷ [])
one_more [] n o h k = (k, tt)
one_more (e ∷ es) n o h k = (h.0, one_more es n o h.1 k)

entry_is : (es : Entries Object) (n : Name) (o : Object) → AreParameters es → entry_of es n ≡ Some o → IsParameter o
entry_is [] n o h e = cc
entry_is (x ∷ es) n o h e = chosen (same_name x.0 n) x.1 (entry_of es n) o h.0 (entry_is es n o h.1) e
  where
    chosen : (b : Bool) (x' : Object) (rest : Option Object) (o' : Object) → IsParameter x' → (rest ≡ Some o' → IsParameter o')
        → cond b (Some x') rest ≡ Some o' → IsParameter o'
    chosen true x' rest o' h' k e' = let same : x' ≡ o' = cc in subst IsParameter same h'
    chosen false x' rest o' h' k e' = k e'

-- a scope in which what is read of each name fits where no net or variable has a value
abbrev HasFittingConstants : Scope → Type 0
HasFittingConstants s = (n : Name) (i : Selects) → ReadFits (s n) (a_number 0) i

constants_fit : (s : Scope) (e : Expression) → HasFittingConstants s → HasNumbersThatFit e → self_value s no_values e < 2 ^ width_of s e
constants_fit s e h f = value_fits s no_values e (leaves_fit s no_values (λ n. Unit {0}) (λ n i _. h n i) e f)

of_entries : (es : Entries Object) → AreParameters es → HasFittingConstants (scope_of es)
of_entries es h n i = found (entry_of es n) (λ o e. entry_is es n o h e) i
  where
    found : (x : Option Object) → ((o : Object) → x ≡ Some o → IsParameter o) → (i' : Selects) → ReadFits (object_or_undeclared x) (a_number 0) i'
    found None k i' = nothing_read undeclared i' refl
    found (Some o) k i' = parameter_read o (a_number 0) i' (k o refl)

plain_declared : (s : Scope) (signed : Bool) (r : Option Range) → (ranged_object s signed r).constant ≡ None
plain_declared s signed None = refl
plain_declared s signed (Some r) = refl

of_module : (m : Module) (es : Entries Object) → AreParameters es → HasFittingConstants (module_scope m es)
of_module m es h n i =
    found (entry_of es n) (declaration_of (declarations m) n) (λ o e. entry_is es n o h e) i
  where
    found : (x : Option Object) (d : Option Declaration) → ((o : Object) → x ≡ Some o → IsParameter o) → (i' : Selects)
        → ReadFits (object_or_undeclared (first_of x (option_map (declared_object (scope_of es)) d))) (a_number 0) i'
    found None None k i' = nothing_read undeclared i' refl
    found None (Some d) k i' = nothing_read (declared_object (scope_of es) d) i' (plain_declared (scope_of es) d.signed d.range)
    found (Some o) d k i' = parameter_read o (a_number 0) i' (k o refl)

-- parameters

plain_width : (signed : Bool) (w x : ℕ) → x < 2 ^ w → x < 2 ^ object_width (constant_object signed w x)
plain_width signed w x h =
    let l : w ≤ object_width (constant_object signed w x) = omega arith in
    let p : 2 ^ w ≤ 2 ^ object_width (constant_object signed w x) = pow_mono l in
    omega (arith, p, h)

of_value : (s : Scope) (signed : Bool) (r : Option Range) (e : Expression) → HasFittingConstants s → HasNumbersThatFit e → IsParameter (parameter_object s signed r e)
of_value s signed None e h f =
    record {
      number = self_value s no_values e;
      is_number = refl;
      fits = plain_width (signed || sign_of s e) (width_of s e) (self_value s no_values e) (constants_fit s e h f);
      no_memory = refl;
    }
of_value s signed (Some r) e h f = record { number = _; is_number = refl; fits = mod-lt _ (pow_pos _); no_memory = refl }

of_override : (s : Scope) (signed : Bool) (r : Option Range) (given : Object) → IsParameter given → IsParameter (overridden_object s signed r given)
of_override s signed None given h = record { number = h.number; is_number = h.is_number; fits = h.fits; no_memory = h.no_memory }
of_override s signed (Some r) given h = record { number = _; is_number = refl; fits = mod-lt _ (pow_pos _); no_memory = refl }

abbrev OverridesFit : Overrides → Type 0
OverridesFit given = (n : Name) (o : Object) → given n ≡ Some o → IsParameter o

of_either : (s : Scope) (signed : Bool) (r : Option Range) (e : Expression) (given : Option Object) → HasFittingConstants s → HasNumbersThatFit e
    → ((o : Object) → given ≡ Some o → IsParameter o) → IsParameter (one_parameter s signed r e given)
of_either s signed r e None h f k = of_value s signed r e h f
of_either s signed r e (Some o) h f k = of_override s signed r o (k o refl)

allowed : (d : ParameterDeclaration) (given : Overrides) (n : Name) → OverridesFit given → (o : Object) → override_of d given n ≡ Some o → IsParameter o
allowed d given n h o e = chosen d.is_local (given n) (h n) o e
  where
    chosen : (b : Bool) (x : Option Object) → ((o' : Object) → x ≡ Some o' → IsParameter o') → (o' : Object) → cond b None x ≡ Some o' → IsParameter o'
    chosen true x k o' e' = cc
    chosen false x k o' e' = k o' e'

values_are : (d : ParameterDeclaration) (given : Overrides) (vs : List (Name × Expression)) (known : Entries Object) → OverridesFit given
    → ValuesFit vs → AreParameters known → AreParameters (with_values d given vs known)
values_are d given [] known g f h = h
values_are d given (v ∷ vs) known g f h =
    values_are d given vs (known ++ (v.0, one_parameter (scope_of known) d.signed d.range v.1 (override_of d given v.0)) ∷ []) g f.1
    (one_more known v.0 (one_parameter (scope_of known) d.signed d.range v.1 (override_of d given v.0)) h
    (of_either (scope_of known) d.signed d.range v.1 (override_of d given v.0) (of_entries known h) f.0 (allowed d given v.0 g)))

parameters_are : (ds : List ParameterDeclaration) (given : Overrides) (known : Entries Object) → OverridesFit given → ParametersFit ds
    → AreParameters known → AreParameters (with_parameters ds given known)
parameters_are [] given known g f h = h
parameters_are (d ∷ ds) given known g f h =
    parameters_are ds given (with_values d given d.values known) g f.1 (values_are d given d.values known g f.0 h)

constants_are : (m : Module) (given : Overrides) → HasFittingNumbers m → OverridesFit given → AreParameters (constants_of m given)
constants_are m given f g = parameters_are (all_parameters m) given [] g f.parameters tt

-- modules that stand in the design

record IsPlaced (p : Placed) : Type 0 where
  numbers : HasFittingNumbers p.of_module
  constants : AreParameters p.constants

given_fit : (s : Scope) (i : Instance) (m : Module) → HasFittingConstants s
    → ((names : List Name) (n : Name) (e : Expression) → connected i.parameters names n ≡ Some e → HasNumbersThatFit e)
    → OverridesFit (overrides_of s i.parameters m)
given_fit s i m h f n o e = found (connected i.parameters (overridable (all_parameters m)) n) (f (overridable (all_parameters m)) n) e
  where
    found : (x : Option Expression) → ((y : Expression) → x ≡ Some y → HasNumbersThatFit y)
        → option_map (λ y. parameter_object s false None y) x ≡ Some o → IsParameter o
    found None k e' = cc
    found (Some y) k e' = let same : parameter_object s false None y ≡ o = cc in subst IsParameter same (of_value s false None y h (k y refl))

instance_is : (source : Source) (path : List PathStep) (s : Scope) (i : Instance) (p : Placed) → SourceHasFittingNumbers source → HasFittingConstants s
    → ((names : List Name) (n : Name) (e : Expression) → connected i.parameters names n ≡ Some e → HasNumbersThatFit e)
    → placed_instance source path s i ≡ Some p → IsPlaced p
instance_is source path s i p f h k e = found (module_named source i.of_module) (f i.of_module) e
  where
    found : (x : Option Module) → ((m : Module) → x ≡ Some m → HasFittingNumbers m)
        → option_map (λ m. record { path = path; of_module = m; constants = constants_of m (overrides_of s i.parameters m) }) x ≡ Some p → IsPlaced p
    found None g e' = cc
    found (Some m) g e' =
        let same : record { path = path; of_module = m; constants = constants_of m (overrides_of s i.parameters m) } ≡ p = cc in
        subst IsPlaced same
        (record { numbers = g m refl; constants = constants_are m (overrides_of s i.parameters m) (g m refl) (given_fit s i m h k) })

placed_is : (source : Source) (top : Name) (path : List PathStep) (p : Placed) → SourceHasFittingNumbers source
    → placed_at source top path ≡ Some p → IsPlaced p
placed_is source top [] p f e = found (module_named source top) (f top) e
  where
    found : (x : Option Module) → ((m : Module) → x ≡ Some m → HasFittingNumbers m)
        → option_map (λ m. record { path = []; of_module = m; constants = constants_of m no_overrides }) x ≡ Some p → IsPlaced p
    found None g e' = cc
    found (Some m) g e' =
        let same : record { path = []; of_module = m; constants = constants_of m no_overrides } ≡ p = cc in
        subst IsPlaced same (record { numbers = g m refl; constants = constants_are m no_overrides (g m refl) (λ n o k. cc) })
placed_is source top (u ∷ around) p f e = found (placed_at source top around) (λ q k. placed_is source top around q f k) e
  where
    without_index : (b : Bool) (x : Option Instance) (i : Instance) → cond b None x ≡ Some i → x ≡ Some i
    without_index true x i e' = cc
    without_index false x i e' = e'

    within : (q : Placed) → IsPlaced q → (x : Option Instance) → ((i : Instance) → x ≡ Some i → instance_named q.of_module.items u.of_name ≡ Some i)
        → option_and_then (placed_instance source (u ∷ q.path) (placed_scope q)) x ≡ Some p → IsPlaced p
    within q is_q None k e' = cc
    within q is_q (Some i) k e' =
        instance_is source (u ∷ q.path) (placed_scope q) i p f (of_module q.of_module q.constants is_q.constants)
        (λ names n y c. is_q.numbers.overrides u.of_name i names n y (k i refl) c) e'

    found : (x : Option Placed) → ((q : Placed) → x ≡ Some q → IsPlaced q) → option_and_then (placed_below source u) x ≡ Some p → IsPlaced p
    found None k e' = cc
    found (Some q) k e' =
        within q (k q refl) (instance_reached q.of_module.items u)
        (λ i c. without_index (is_some u.index) (instance_named q.of_module.items u.of_name) i c) e'

-- what is read of a known name in a settled valuation fits
settled_read : (p : Placed) (v : Valuation) → AreParameters p.constants → ((n : Name) → IsDeclared p n → IsValueOf (placed_scope p n) (v n))
    → (n : Name) (i : Selects) → IsKnown p n → ReadFits (placed_scope p n) (v n) i
settled_read p v h f n i known =
    found (entry_of p.constants n) (declaration_of (declarations p.of_module) n) (λ o e. entry_is p.constants n o h e) (f n) known
  where
    object : Option Object → Option Declaration → Object
    object x d = object_or_undeclared (first_of x (option_map (declared_object (scope_of p.constants)) d))

    found : (x : Option Object) (d : Option Declaration) → ((o : Object) → x ≡ Some o → IsParameter o)
        → (IsDeclared p n → IsValueOf (object x d) (v n)) → IsTrue (is_some x) ⊎ IsDeclared p n → ReadFits (object x d) (v n) i
    found None d k g (inl t) = cc
    found None None k g (inr declared) = value_read undeclared (v n) i refl (g declared)
    found None (Some d) k g (inr declared) =
        value_read (declared_object (scope_of p.constants) d) (v n) i (plain_declared (scope_of p.constants) d.signed d.range) (g declared)
    found (Some o) d k g t = parameter_read o (v n) i (k o refl)

parameters_fit : (source : Source) → unique.NumbersFit source → SourceHasFittingNumbers source
parameters_fit source fit n m e = (fit n m e).parameters

-- a parameter's number in a context of its own width is itself, or more
at_least : (signed : Bool) (w x : ℕ) → widened signed w w x < 2 ^ w → x < 2 ^ w
at_least true w x l = filled (top_bit w x) l
  where
    filled : (b : Bool) → x + cond b (2 ^ w - 2 ^ w) 0 < 2 ^ w → x < 2 ^ w
    filled true m = omega (arith, m)
    filled false m = omega (arith, m)
at_least false w x l = l

entry_or_declared : (d : Design) (p : Placed) (n : Name) → IsPlacedIn d p → IsKnownIn p.of_module n → IsKnown p n
entry_or_declared d p n at (inl h) = inr h
entry_or_declared d p n at (inr h) = inl ((placed_constants d p.path p at).all n h)

-- All that is known in a module fits, where its declared names have values of their objects.
pub known_fit : (d : Design) (p : Placed) (v : Valuation) → unique.NumbersFit d.source → IsPlacedIn d p
    → ((n : Name) → IsDeclared p n → IsValueOf (placed_scope p n) (v n)) → AllFit (placed_scope p) (IsKnownIn p.of_module) v
known_fit d p v fit at fits n known =
    either (placed_scope p n).constant
    (λ net. fits n (net_is_declared d p.path p at n known net))
    (at_least (placed_scope p n).signed (object_width (placed_scope p n)) (whole_value (placed_scope p n) (v n))
    (value_fits (placed_scope p) v (name n whole)
    (leaves_fit (placed_scope p) v (IsKnown p)
    (settled_read p v (placed_is d.source d.top p.path p (parameters_fit d.source fit) at).constants fits) (name n whole) (entry_or_declared d p n at known))))
  where
    either : (x : Option ℕ) → (IsTrue (is_none x) → IsValueOf (placed_scope p n) (v n))
        → unwrap_or x (as_number (v n)) < 2 ^ object_width (placed_scope p n) → Fits x (placed_scope p n) (v n)
    either None f l = f refl
    either (Some c) f l = l
