-- The parameters of a module have the values that they have in the design, one after the other in the order of the text, where no rule
-- is broken and each is declared before it is used.
use Rattle.std.proofs.Common.{◌≡◌, Bool, true, false, cond, not, ◌&&◌, ◌||◌, List, [], ◌∷◌, ◌++◌, inl, inr, refl, sym, ap, ◌∙◌, subst, Option, Some, None, IsTrue}
use Rattle.std.specs.Prelude.{is_some, option_map}
use Rattle.std.proofs.lemmas.Bool.{false≢true}
use Rattle.std.proofs.lemmas.List.{append_assoc}
use Rattle.wb_values.specs.Value.{Name, same_name, Entries, entry_of}
use Rattle.verilog_trees.specs.Syntax.{Expression, ParameterDeclaration, Item, port, parameter, wires, variables, assign, always, instances, Module, Source}
use Rattle.verilog_meaning.specs.Expression.{Object, Scope, scope_of}
use Rattle.verilog_meaning.specs.Hierarchy.{declarations, all_parameters, body_parameters, value_names, Overrides, one_parameter, override_of, with_values, with_parameters}
use Rattle.verilog_meaning.specs.Settled.{is_declared_among}
use Rattle.verilog_rules.specs.Expression.{also, broken}
use Rattle.verilog_designs.specs.Known.{value_position, known_module_scope, KnownOverrides, one_known_parameter, known_entry, with_known_values, with_known_parameters}
use Rattle.verilog_designs.specs.Names.{is_among, names_in, names_in_range, names_in_named, names_in_connections, names_in_values, names_in_addresses, names_in_instances, names_in_assignments, names_in_events, names_in_statement, Mention, declares, uses, value_mentions, parameter_mentions, all_parameter_mentions, all_item_mentions, parameter_names, may_be_used, uses_unknown}
use Rattle.verilog_designs.specs.Constants.{is_net, constant_names_in_module, has_net_as_constant}
use Rattle.verilog_designs.specs.Expressions.{broken_range, broken_width, broken_values, broken_parameters}
use Rattle.verilog_unique.proofs.Options.{same_is, is_same}
use Rattle.verilog_unique.proofs.Descent.{IsAmong, among_left, among_right, among_either}
use Rattle.verilog_unique.proofs.Instances.{any_false}
use Rattle.verilog_unique.proofs.Constants.{Within}
use Rattle.verilog_exists.proofs.Rules.{Good, good_left, good_right, HasEntry, AllDeclared, Grows, parameter_known, override_known}
use Rattle.verilog_exists.proofs.Parameters.{used_front, still, parameters_grow}
use Rattle.flat_rules.proofs.Real.{IsParameter, parameter_is, override_is, AreParameters, one_more, entries_narrow}

-- ---- entries that are appended

append_first : (es fs : Entries Object) (n : Name) → HasEntry es n → entry_of (es ++ fs) n ≡ entry_of es n
append_first [] fs n t = absurd (false≢true t)
append_first (e ∷ es) fs n t = chosen (same_name e.0 n) (append_first es fs n) t
  where
    chosen : (b : Bool) → (HasEntry es n → entry_of (es ++ fs) n ≡ entry_of es n) → IsTrue (is_some (cond b (Some e.1) (entry_of es n)))
        → cond b (Some e.1) (entry_of (es ++ fs) n) ≡ cond b (Some e.1) (entry_of es n)
    chosen true f h = refl
    chosen false f h = f h

append_last : (es : Entries Object) (n : Name) (o : Object) → HasEntry (es ++ (n, o) ∷ []) n
append_last [] n o = subst (λ b. IsTrue (is_some (cond b (Some o) None))) (sym (is_same n)) refl
append_last (e ∷ es) n o = chosen (same_name e.0 n) (append_last es n o)
  where
    chosen : (b : Bool) → HasEntry (es ++ (n, o) ∷ []) n → IsTrue (is_some (cond b (Some e.1) (entry_of (es ++ (n, o) ∷ []) n)))
    chosen true f = refl
    chosen false f = f

longer : (es : Entries Object) (n m : Name) (o : Object) → HasEntry es m → HasEntry (es ++ (n, o) ∷ []) m
longer es n m o t = subst (λ x. IsTrue (is_some x)) (sym (append_first es ((n, o) ∷ []) m t)) t

values_grow : (d : ParameterDeclaration) (given : KnownOverrides) (vs : List (Name × Expression)) (known : Entries Object)
    → Grows known (with_known_values d given vs known)
values_grow d given [] known n t = refl
values_grow d given (v ∷ vs) known n t =
    let new : Entries Object = known_entry v.0 (one_known_parameter (scope_of known) d v.1 (cond d.is_local None (given v.0))) in
    let e = append_first known new n t in
    values_grow d given vs (known ++ new) n (subst (λ x. IsTrue (is_some x)) (sym e) t) ∙ e

pub are_declared : (es : Entries Object) → AreParameters es → AllDeclared es
are_declared [] h = tt
are_declared (e ∷ es) h = (h.0.declared, are_declared es h.1)

-- a name that stands where a constant must is declared before
before_if_constant : (source : Source) (m : Module) (before : List Name) (n : Name) → has_net_as_constant source m ≡ false
    → IsAmong (constant_names_in_module source m) n → may_be_used m before n ≡ true → IsTrue (is_among before n)
before_if_constant source m before n e h t =
    chosen (is_among (parameter_names (all_parameters m)) n) (is_declared_among (declarations m) n) t
    (any_false (is_net m) (constant_names_in_module source m) n e h)
  where
    chosen : (a b : Bool) → cond a (is_among before n) b ≡ true → (b && not a) ≡ false → IsTrue (is_among before n)
    chosen true b f g = f
    chosen false true f g = absurd (false≢true (sym g))
    chosen false false f g = absurd (false≢true f)

-- ---- the parameters of one module

-- What overrides parameters is known, and is a parameter's value.
pub record AreGiven (given : KnownOverrides) (real : Overrides) : Type 0 where
  pub same : (n : Name) → given n ≡ option_map Some (real n)
  pub fit : (n : Name) (o : Object) → real n ≡ Some o → IsParameter o

module _ (source : Source) (m : Module) (given : KnownOverrides) (real : Overrides) (are : AreGiven given real) (all : Entries Object) (constant : has_net_as_constant source m ≡ false) where
  abbrev pub judged : Scope
  judged = known_module_scope m all

  -- what may be used by now has an entry
  pub record Reached (before : List Name) (known : Entries Object) : Type 0 where
    pub has : (n : Name) → IsTrue (is_among before n) → HasEntry known n
    pub parameters : AreParameters known

  -- after the parameters of these names
  pub record After (names : List Name) (rest : List Mention) (known placed : Entries Object) : Type 0 where
    pub before : List Name
    pub mentions_rest : uses_unknown m before rest ≡ false
    pub reached : Reached before known
    pub entries : (n : Name) → IsAmong names n → HasEntry known n
    pub same : known ≡ placed

  -- the rules and the places of a value
  IsGoodValue : ParameterDeclaration → Name × Expression → Type 0
  IsGoodValue d v = Good (broken judged (value_position judged d.range v.1) v.1) × Within (names_in v.1) (constant_names_in_module source m)

  one_value : (d : ParameterDeclaration) (v : Name × Expression) (known : Entries Object) → AreParameters known → Grows known all
      → ((n : Name) → IsAmong (names_in_range d.range) n → HasEntry known n) → ((n : Name) → IsAmong (names_in v.1) n → HasEntry known n)
      → Good (broken_range judged d.range) → Good (broken_width judged d.range)
      → Good (broken judged (value_position judged d.range v.1) v.1)
      → (one_known_parameter (scope_of known) d v.1 (cond d.is_local None (given v.0))
      ≡ Some (one_parameter (scope_of known) d.signed d.range v.1 (override_of d real v.0)))
      × IsParameter (one_parameter (scope_of known) d.signed d.range v.1 (override_of d real v.0))
  one_value d v known parameters grows in_range in_value good_range good_width good_value =
      subst (λ x. (one_known_parameter s d v.1 (cond d.is_local None x) ≡ Some (one_parameter s d.signed d.range v.1 (override_of d real v.0)))
      × IsParameter (one_parameter s d.signed d.range v.1 (override_of d real v.0))) (sym (are.same v.0))
      (by_local d.is_local (real v.0) (are.fit v.0))
    where
      s : Scope
      s = scope_of known

      by_value : (x : Option Object) → ((o : Object) → x ≡ Some o → IsParameter o)
          → (one_known_parameter s d v.1 (option_map Some x) ≡ Some (one_parameter s d.signed d.range v.1 x)) × IsParameter (one_parameter s d.signed d.range v.1 x)
      by_value None f =
          let e = parameter_known m known all (are_declared known parameters) grows d.signed d.range v.1 in_range in_value good_range good_width good_value in
          (e, (parameter_is s d.signed d.range v.1 _ (entries_narrow known parameters) e).1)
      by_value (Some o) f =
          let e = override_known m known all (are_declared known parameters) grows d.signed d.range o in_range good_range good_width in
          (e, (override_is s d.signed d.range o _ (f o refl) e).1)

      by_local : (b : Bool) (x : Option Object) → ((o : Object) → x ≡ Some o → IsParameter o)
          → (one_known_parameter s d v.1 (cond b None (option_map Some x)) ≡ Some (one_parameter s d.signed d.range v.1 (cond b None x)))
          × IsParameter (one_parameter s d.signed d.range v.1 (cond b None x))
      by_local true x f = by_value None (λ o e. cc)
      by_local false x f = by_value x f

  walk_values : (d : ParameterDeclaration) (vs : List (Name × Expression)) (before : List Name) (known : Entries Object) (rest : List Mention)
      → Reached before known → uses_unknown m before (value_mentions vs ++ rest) ≡ false
      → Grows (with_known_values d given vs known) all → ((n : Name) → IsAmong (names_in_range d.range) n → HasEntry known n)
      → Good (broken_range judged d.range) → Good (broken_width judged d.range) → ((v : Name × Expression) → IsAmong vs v → IsGoodValue d v)
      → After (value_names vs) rest (with_known_values d given vs known) (with_values d real vs known)
  unfolding IsGoodValue
  walk_values d [] before known rest reached e grows in_range good_range good_width good =
      record { before = before; mentions_rest = e; reached = reached; entries = λ n h. absurd h; same = refl }
  walk_values d (v ∷ vs) before known rest reached e grows in_range good_range good_width good =
      let front = used_front m before (names_in v.1) ((declares v.0 ∷ value_mentions vs) ++ rest)
      (subst (λ l. uses_unknown m before l ≡ false) (append_assoc (uses (names_in v.1)) (declares v.0 ∷ value_mentions vs) rest) e) in
      let here : IsGoodValue d v = good v (inl refl) in
      let old : Grows known all = λ n t.
      grows n (still known (with_known_values d given (v ∷ vs) known) (values_grow d given (v ∷ vs) known) n t) ∙ values_grow d given (v ∷ vs) known n t in
      let o : Object = one_parameter (scope_of known) d.signed d.range v.1 (override_of d real v.0) in
      let h = one_value d v known reached.parameters old in_range
      (λ n h. reached.has n (before_if_constant source m before n constant (here.1 n h) (front.0 n h))) good_range good_width here.0 in
      let new : Entries Object = known ++ (v.0, o) ∷ [] in
      let same : known_entry v.0 (one_known_parameter (scope_of known) d v.1 (cond d.is_local None (given v.0))) ≡ (v.0, o) ∷ [] = ap (known_entry v.0) h.0 in
      let r : After (value_names vs) rest (with_known_values d given vs new) (with_values d real vs new) =
      walk_values d vs (v.0 ∷ before) new rest
      (record { has = λ n t. more n o t; parameters = one_more known v.0 o reached.parameters h.1 }) front.1
      (subst (λ es. Grows (with_known_values d given vs (known ++ es)) all) same grows)
      (λ n g. longer known v.0 n o (in_range n g)) good_range good_width (λ w g. good w (inr g)) in
      subst (λ es. After (value_names (v ∷ vs)) rest (with_known_values d given vs (known ++ es)) (with_values d real vs new)) (sym same)
      (record {
        before = r.before;
        mentions_rest = r.mentions_rest;
        reached = r.reached;
        entries = λ n g. either n o (still new (with_known_values d given vs new) (values_grow d given vs new)) r.entries g;
        same = r.same;
      })
    where
      more : (n : Name) (o : Object) → IsTrue (same_name v.0 n || is_among before n) → HasEntry (known ++ (v.0, o) ∷ []) n
      more n o t = chosen (same_name v.0 n) (λ e. same_is v.0 n e) t
        where
          chosen : (b : Bool) → (b ≡ true → v.0 ≡ n) → IsTrue (b || is_among before n) → HasEntry (known ++ (v.0, o) ∷ []) n
          chosen true f h = subst (λ i. HasEntry (known ++ (v.0, o) ∷ []) i) (f refl) (append_last known v.0 o)
          chosen false f h = longer known v.0 n o (reached.has n h)

      either : (n : Name) (o : Object) → ((i : Name) → HasEntry (known ++ (v.0, o) ∷ []) i → HasEntry (with_known_values d given vs (known ++ (v.0, o) ∷ [])) i)
          → ((i : Name) → IsAmong (value_names vs) i → HasEntry (with_known_values d given vs (known ++ (v.0, o) ∷ [])) i)
          → IsAmong (v.0 ∷ value_names vs) n → HasEntry (with_known_values d given vs (known ++ (v.0, o) ∷ [])) n
      either n o f g (inl h) = subst (λ i. HasEntry (with_known_values d given vs (known ++ (v.0, o) ∷ [])) i) h (f v.0 (append_last known v.0 o))
      either n o f g (inr h) = g n h

  -- a declaration of parameters
  pub record IsGoodDeclaration (d : ParameterDeclaration) : Type 0 where
    pub rules : Good (broken_parameters judged d)
    pub in_range : Within (names_in_range d.range) (constant_names_in_module source m)
    pub in_values : Within (names_in_values d.values) (constant_names_in_module source m)

  good_value : (d : ParameterDeclaration) (vs : List (Name × Expression)) (v : Name × Expression) → IsAmong vs v → Good (broken_values judged d.range vs)
      → Within (names_in_values vs) (constant_names_in_module source m) → IsGoodValue d v
  unfolding IsGoodValue
  good_value d [] v h g f = absurd h
  good_value d (w ∷ vs) v (inl e) g f =
      subst (λ (x : Name × Expression). Good (broken judged (value_position judged d.range x.1) x.1) × Within (names_in x.1) (constant_names_in_module source m)) e (
        good_left (broken judged (value_position judged d.range w.1) w.1) (broken_values judged d.range vs) g,
        λ n k. f n (among_left (names_in w.1) (names_in_values vs) n k),
      )
  good_value d (w ∷ vs) v (inr h) g f =
      good_value d vs v h (good_right (broken judged (value_position judged d.range w.1) w.1) (broken_values judged d.range vs) g)
      (λ n k. f n (among_right (names_in w.1) (names_in_values vs) n k))

  walk_declaration : (d : ParameterDeclaration) (before : List Name) (known : Entries Object) (rest : List Mention)
      → Reached before known → uses_unknown m before (parameter_mentions d ++ rest) ≡ false → Grows (with_known_values d given d.values known) all
      → IsGoodDeclaration d → After (value_names d.values) rest (with_known_values d given d.values known) (with_values d real d.values known)
  walk_declaration d before known rest reached e grows good =
      let front = used_front m before (names_in_range d.range) (value_mentions d.values ++ rest)
      (subst (λ l. uses_unknown m before l ≡ false) (append_assoc (uses (names_in_range d.range)) (value_mentions d.values) rest) e) in
      let inner : Good (also (broken_width judged d.range) (broken_values judged d.range d.values)) =
      good_right (broken_range judged d.range) (also (broken_width judged d.range) (broken_values judged d.range d.values)) good.rules in
      walk_values d d.values before known rest reached front.1 grows
      (λ n h. reached.has n (before_if_constant source m before n constant (good.in_range n h) (front.0 n h)))
      (good_left (broken_range judged d.range) (also (broken_width judged d.range) (broken_values judged d.range d.values)) good.rules)
      (good_left (broken_width judged d.range) (broken_values judged d.range d.values) inner)
      (λ v h. good_value d d.values v h (good_right (broken_width judged d.range) (broken_values judged d.range d.values) inner) good.in_values)

  -- one declaration and then others
  joined : (d : ParameterDeclaration) (names : List Name) (rest later : List Mention) (known last placed : Entries Object)
      → (first : After (value_names d.values) later (with_known_values d given d.values known) (with_values d real d.values known))
      → Grows (with_known_values d given d.values known) last → After names rest last placed → After (value_names d.values ++ names) rest last placed
  joined d names rest later known last placed first grows r =
      record {
        before = r.before;
        mentions_rest = r.mentions_rest;
        reached = r.reached;
        entries = λ n h. elim (among_either (value_names d.values) names n h) as (λ _. HasEntry last n) [
          | inl k ↦ still (with_known_values d given d.values known) last grows n (first.entries n k)
          | inr k ↦ r.entries n k
        ];
        same = r.same;
      }

  -- those of the header, with these behind them
  pub walk_header : (ds behind : List ParameterDeclaration) (before : List Name) (known : Entries Object) (rest : List Mention)
      → Reached before known → uses_unknown m before (all_parameter_mentions ds ++ rest) ≡ false
      → Grows (with_known_parameters (ds ++ behind) given known) all → ((d : ParameterDeclaration) → IsAmong ds d → IsGoodDeclaration d)
      → After (parameter_names ds) rest (with_known_parameters ds given known) (with_parameters ds real known)
  walk_header [] behind before known rest reached e grows good =
      record { before = before; mentions_rest = e; reached = reached; entries = λ n h. absurd h; same = refl }
  walk_header (d ∷ ds) behind before known rest reached e grows good =
      let one : Entries Object = with_known_values d given d.values known in
      let first : After (value_names d.values) (all_parameter_mentions ds ++ rest) one (with_values d real d.values known) =
      walk_declaration d before known (all_parameter_mentions ds ++ rest) reached
      (subst (λ l. uses_unknown m before l ≡ false) (append_assoc (parameter_mentions d) (all_parameter_mentions ds) rest) e)
      (λ n t. grows n (still one (with_known_parameters (ds ++ behind) given one) (parameters_grow (ds ++ behind) given one) n t) ∙ parameters_grow (ds ++ behind) given one n t)
      (good d (inl refl)) in
      let r : After (parameter_names ds) rest (with_known_parameters ds given one) (with_parameters ds real one) =
      walk_header ds behind first.before one rest first.reached first.mentions_rest grows (λ x h. good x (inr h)) in
      joined d (parameter_names ds) rest (all_parameter_mentions ds ++ rest) known (with_known_parameters ds given one) (with_parameters ds real (with_values d real d.values known))
      first (parameters_grow ds given one) (subst (λ es. After (parameter_names ds) rest (with_known_parameters ds given one) (with_parameters ds real es)) first.same r)

  -- and those of the items
  pub walk_items : (items : List Item) (before : List Name) (known : Entries Object)
      → Reached before known → uses_unknown m before (all_item_mentions items) ≡ false
      → Grows (with_known_parameters (body_parameters items) given known) all
      → ((d : ParameterDeclaration) → IsAmong (body_parameters items) d → IsGoodDeclaration d)
      → After (parameter_names (body_parameters items)) [] (with_known_parameters (body_parameters items) given known) (with_parameters (body_parameters items) real known)
  walk_items [] before known reached e grows good =
      record { before = before; mentions_rest = e; reached = reached; entries = λ n h. absurd h; same = refl }
  walk_items (port d ∷ items) before known reached e grows good =
      walk_items items before known reached (used_front m before (names_in_range d.range) (all_item_mentions items) e).1 grows good
  walk_items (wires signed r ws ∷ items) before known reached e grows good =
      walk_items items before known reached (used_front m before (names_in_range r ++ names_in_named ws) (all_item_mentions items) e).1 grows good
  walk_items (variables signed r vs ∷ items) before known reached e grows good =
      walk_items items before known reached (used_front m before (names_in_range r ++ names_in_addresses vs) (all_item_mentions items) e).1 grows good
  walk_items (assign ts ∷ items) before known reached e grows good =
      walk_items items before known reached (used_front m before (names_in_assignments ts) (all_item_mentions items) e).1 grows good
  walk_items (always es x ∷ items) before known reached e grows good =
      walk_items items before known reached (used_front m before (names_in_events es ++ names_in_statement x) (all_item_mentions items) e).1 grows good
  walk_items (instances k g is ∷ items) before known reached e grows good =
      walk_items items before known reached (used_front m before (names_in_connections g ++ names_in_instances is) (all_item_mentions items) e).1 grows good
  walk_items (parameter d ∷ items) before known reached e grows good =
      let one : Entries Object = with_known_values d given d.values known in
      let ds : List ParameterDeclaration = body_parameters items in
      let first : After (value_names d.values) (all_item_mentions items) one (with_values d real d.values known) =
      walk_declaration d before known (all_item_mentions items) reached e
      (λ n t. grows n (still one (with_known_parameters ds given one) (parameters_grow ds given one) n t) ∙ parameters_grow ds given one n t)
      (good d (inl refl)) in
      let r : After (parameter_names ds) [] (with_known_parameters ds given one) (with_parameters ds real one) =
      walk_items items first.before one first.reached first.mentions_rest grows (λ x h. good x (inr h)) in
      joined d (parameter_names ds) [] (all_item_mentions items) known (with_known_parameters ds given one) (with_parameters ds real (with_values d real d.values known))
      first (parameters_grow ds given one) (subst (λ es. After (parameter_names ds) [] (with_known_parameters ds given one) (with_parameters ds real es)) first.same r)
