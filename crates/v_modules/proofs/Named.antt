-- What the declared names of a module break.
use Rattle.std.proofs.Common.{◌≡◌, ℕ, ◌+◌, ◌<◌, ◌∙◌, refl, sym, ap, Bool, true, false, not, ◌&&◌, ◌||◌, nat_lt, List, [], ◌∷◌, length, drop, get_or, is_some}
use Rattle.verilog_trees.specs.Syntax.{Module}
use Rattle.verilog_meaning.specs.Expression.{Object, Scope, object_width, is_memory}
use Rattle.verilog_meaning.specs.Hierarchy.{Declaration}
use Rattle.verilog_rules.specs.Expression.{Broken as Rules, nothing, also, width_if}
use Rattle.verilog_designs.specs.Expressions.{memory_if, broken_declarations}
use Rattle.v_scopes.specs.declared.row.Declared.{Declared}
use Rattle.v_scopes.specs.Rows.{row_of, rows_of, rows}
use Rattle.v_scopes.proofs.Joined.{rows_drop}
use Rattle.v_size.specs.declared.rule.Broken.{Broken}
use Rattle.v_size.specs.Rule.{coded, both}
use Rattle.v_size.proofs.Chains.{both-none, both-assoc}
use Rattle.v_rules.specs.Judging.{none}
use Rattle.v_modules.specs.Combined.{is_net_object, name_broken, names_from, one_other}
use Rattle.v_sound.proofs.Objects.{any_wide}
use Rattle.v_modules.proofs.Memories.{any_memory, any_port, is_port_of}

-- ---- turns over declared names, which are copied

pub names-turn : (s : Scope) (ds : List Declared) (i : ℕ) (d : Declared) (t a b r : Broken) (o : Object) (p : Bool) → i < length ds → o ≡ s (get_or ds i d).name.now → p ≡ is_some (row_of (get_or ds i d)).direction
    → b ≡ name_broken o p → r ≡ both a b → t ≡ names_from s a (rows_of (drop i ds)) → t ≡ names_from s r (rows_of (drop (i + 1) ds))
names-turn s ds i d t a b r o p h is_o is_p is_b is_r so =
    so ∙ ap (names_from s a) (rows_drop ds i d h)
    ∙ ap (λ z. names_from s z (rows_of (drop (i + 1) ds)))
    (sym (is_r ∙ ap (both a) (is_b ∙ ap (λ z. name_broken z p) is_o ∙ ap (name_broken (s (get_or ds i d).name.now)) is_p)))

module _ (s : Scope) (ds : List Declared) (i : ℕ) (d : Declared) (t u : Bool) (o : Object) (h : i < length ds) (is_o : o ≡ s (get_or ds i d).name.now) (is_u : u ≡ is_net_object o)
    (so : t ≡ one_other s (rows_of (drop i ds))) where
  first-or-later : t ≡ not u || one_other s (rows_of (drop (i + 1) ds))
  first-or-later =
      so ∙ ap (one_other s) (rows_drop ds i d h) ∙ ap (λ b. not b || one_other s (rows_of (drop (i + 1) ds))) (sym (is_u ∙ ap is_net_object is_o))

  pub other-here : u ≡ false → true ≡ t
  other-here e = sym (first-or-later ∙ ap (λ b. not b || one_other s (rows_of (drop (i + 1) ds))) e)

  pub other-later : u ≡ true → t ≡ one_other s (rows_of (drop (i + 1) ds))
  other-later e = first-or-later ∙ ap (λ b. not b || one_other s (rows_of (drop (i + 1) ds))) e

-- ---- declared names

abbrev pub of_names : Bool → Bool → Rules
of_names w m = also (width_if w) (memory_if m)

pub names-broken : (s z : Scope) (ds : List Declaration) (a : Broken) → names_from s a (rows z ds) ≡ both a (coded (of_names (any_wide s ds) (any_memory s ds)))
unfolding any_memory
names-broken s z [] a = both-none a
names-broken s z (d ∷ ds) a =
    let o : Object = s d.of_name in
    names-broken s z ds (both a (name_broken o (is_some d.direction)))
    ∙ sym (both-assoc a (name_broken o (is_some d.direction)) (coded (of_names (any_wide s ds) (any_memory s ds))))
    ∙ ap (both a) (λ i. record none {
      width_over_128 = swapped (nat_lt 128 (object_width o)) (any_wide s ds) i;
      memory_use = (is_some d.direction && is_memory o) || any_memory s ds;
    })
  where
    swapped : (x y : Bool) → (x || false) || (y || false) ≡ (x || y) || false
    swapped true y = refl
    swapped false y = refl

pub declarations-broken : (s : Scope) (m : Module) (ds : List Declaration) → broken_declarations s m ds ≡ of_names (any_wide s ds) (any_port s (is_port_of m) ds)
unfolding any_port
declarations-broken s m [] = refl
declarations-broken s m (d ∷ ds) =
    let o : Object = s d.of_name in
    ap (also (of_names (nat_lt 128 (object_width o)) (is_port_of m d.of_name && is_memory o))) (declarations-broken s m ds)
    ∙ (λ i. record nothing {
      width_over_128 = swapped (nat_lt 128 (object_width o)) (any_wide s ds) i;
      memory_use = (is_port_of m d.of_name && is_memory o) || any_port s (is_port_of m) ds;
    })
  where
    swapped : (x y : Bool) → (x || false) || (y || false) ≡ (x || y) || false
    swapped true y = refl
    swapped false y = refl
