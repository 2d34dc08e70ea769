-- Connections one after the other, and sets of names with one name more.
use Rattle.std.proofs.Common.{◌≡◌, ◌∙◌, refl, ap, sym, ℕ, suc, ◌+◌, ◌<◌, Bool, true, false, cond, List, ◌∷◌, ◌++◌, map, length, drop, get_or, Bor, Option, Some, None, arith}
use Rattle.std.specs.Prelude.{◌||◌}
use Rattle.std.specs.List.{list_any}
use Rattle.std.specs.Ordering.{nat_cmp}
use Rattle.std.specs.Cmp.Lexicographic.{slice_cmp}
use Rattle.std.specs.BTreeSet as sorted
use Rattle.std.specs.BTreeSet.{BTreeSet}
use Rattle.std.proofs.lemmas.List.{drop_more}
use Rattle.std.proofs.lemmas.Map.Text.{is_eq-slice_cmp}
use Rattle.wb_values.specs.Value.{Name, same_name, entry_of}
use Rattle.verilog_trees.specs.Syntax.{Expression, Module}
use Rattle.verilog_meaning.specs.Settled.{PortPlace, port_named, port_numbered, port_meant, port_directions, Connection, connection_if_any, named_connections, ordered_connections}
use Rattle.verilog_designs.specs.Ports.{is_input}
use Rattle.v_syntax.specs.declared.module.NamedConnection.{NamedConnection}
use Rattle.v_syntax.specs.declared.tree.Expression.{Expression as CodeExpression}
use Rattle.v_syntax.specs.Source.{optional_tree_of}
use Rattle.v_hier.specs.Tables.{has_name}
use Rattle.v_clocks.specs.Uses.{Use, no_clock, as_data, as_clock, mentions, has_input, is_whole_name, at_port, at_port_if_any, use_at, use_if_any, uses_of}
use Rattle.v_clocks.specs.Nets.{gives}
use Rattle.v_clocks.specs.Views.{use_of, uses_in}
use Rattle.v_clocks.specs.declared.uses.Use.{Use as CodeUse}

-- ---- connections

module _ (clocks : Name → Bool) (m : Module) where
  before_all : (u : Name) (q : PortPlace) (o : Option Expression) (cs : List Connection)
      → uses_of clocks m (connection_if_any u q o ++ cs) ≡ use_if_any clocks m q o ++ uses_of clocks m cs
  before_all u q None cs = refl
  before_all u q (Some e) cs = refl

  pub named_more : (u : Name) (c : NamedConnection) (cs : List NamedConnection)
      → uses_of clocks m (named_connections u (map (λ z. (z.name.now, optional_tree_of z.value)) (c ∷ cs)))
      ≡ use_if_any clocks m (port_named c.name.now) (optional_tree_of c.value)
      ++ uses_of clocks m (named_connections u (map (λ z. (z.name.now, optional_tree_of z.value)) cs))
  named_more u c cs =
      before_all u (port_named c.name.now) (optional_tree_of c.value) (named_connections u (map (λ z. (z.name.now, optional_tree_of z.value)) cs))

  pub ordered_more : (u : Name) (k : ℕ) (o : Option CodeExpression) (os : List (Option CodeExpression))
      → uses_of clocks m (ordered_connections u k (map optional_tree_of (o ∷ os)))
      ≡ use_if_any clocks m (port_numbered k) (optional_tree_of o) ++ uses_of clocks m (ordered_connections u (k + 1) (map optional_tree_of os))
  ordered_more u k o os =
      let number : suc k ≡ k + 1 = omega arith in
      before_all u (port_numbered k) (optional_tree_of o) (ordered_connections u (suc k) (map optional_tree_of os))
      ∙ ap (λ j. use_if_any clocks m (port_numbered k) (optional_tree_of o) ++ uses_of clocks m (ordered_connections u j (map optional_tree_of os))) number

  -- ---- one connection

  pub without_clock : (q : PortPlace) (e : Expression) (r : Bool) → r ≡ mentions clocks e → r ≡ false → no_clock ≡ use_at clocks m q e
  without_clock q e r h f = sym (ap (λ b. cond b (at_port_if_any m e (port_meant m q)) no_clock) (sym h ∙ f))

  pub with_clock : (q : PortPlace) (e : Expression) (o : Option Name) (r : Bool) (u : Use) → r ≡ mentions clocks e → r ≡ true → port_meant m q ≡ o → u ≡ at_port_if_any m e o
      → u ≡ use_at clocks m q e
  with_clock q e o r u h t meant is =
      is ∙ ap (at_port_if_any m e) (sym meant) ∙ sym (ap (λ b. cond b (at_port_if_any m e (port_meant m q)) no_clock) (sym h ∙ t))

pub input_is : (m : Module) (n : Name) (r : Bool) → r ≡ is_input (entry_of (port_directions m) n) → r ≡ has_input m n
unfolding has_input
input_is m n r h = h

pub no_input : (m : Module) (e : Expression) (n : Name) (r : Bool) → r ≡ has_input m n → r ≡ false → as_data ≡ at_port m e n
no_input m e n r h f = sym (ap (λ b. cond b (cond (is_whole_name e) (as_clock n) as_data) as_data) (sym h ∙ f))

pub at_input : (m : Module) (e : Expression) (n : Name) (r w : Bool) → r ≡ has_input m n → r ≡ true → w ≡ is_whole_name e → cond w (as_clock n) as_data ≡ at_port m e n
at_input m e n r w h t g =
    ap (λ b. cond b (as_clock n) as_data) g ∙ sym (ap (λ b. cond b (cond (is_whole_name e) (as_clock n) as_data) as_data) (sym h ∙ t))

-- ---- sets

pub one_more : (s n : BTreeSet (Bor (List ℕ))) (k : Bor (List ℕ)) (b : Bool) → sorted.Updates (λ x y. slice_cmp nat_cmp x.now y.now) s n k b → (q : Name)
    → has_name n q ≡ cond (same_name k.now q) b (has_name s q)
one_more s n k b u q =
    let at_q : Bor (List ℕ) = record { ref_ptr = (0, 0); now = q } in
    u.0 at_q ∙ ap (λ t. cond t b (has_name s q)) (is_eq-slice_cmp k.now q)

moved : (e h r : Bool) → (cond e true h || r) ≡ (h || (e || r))
moved true true r = refl
moved true false r = refl
moved false h r = refl

-- what the set has, and what the uses that are left give
pub give_turn : (us : List CodeUse) (i : ℕ) (d : CodeUse) (old new all : Bool) (q : Name) → i < length us
    → (old || list_any (gives q) (uses_in (drop i us))) ≡ all → new ≡ (old || gives q (use_of (get_or us i d)))
    → (new || list_any (gives q) (uses_in (drop (i + 1) us))) ≡ all
give_turn us i d old new all q l h e =
    ap (λ b. b || list_any (gives q) (uses_in (drop (i + 1) us))) e
    ∙ together old (gives q (use_of (get_or us i d))) (list_any (gives q) (uses_in (drop (i + 1) us)))
    ∙ sym (ap (λ zs. old || list_any (gives q) (uses_in zs)) (drop_more us i d l)) ∙ h
  where
    together : (a b c : Bool) → ((a || b) || c) ≡ (a || (b || c))
    together true b c = refl
    together false b c = refl

pub port_given : (old new : Bool) (k q : Name) → new ≡ cond (same_name k q) true old → new ≡ (old || same_name k q)
port_given old new k q e = e ∙ at (same_name k q) old
  where
    at : (a b : Bool) → cond a true b ≡ (b || a)
    at true true = refl
    at true false = refl
    at false true = refl
    at false false = refl

pub alone_true : (b : Bool) → cond b true false ≡ b
alone_true true = refl
alone_true false = refl

pub not_given : (old : Bool) → old ≡ (old || false)
not_given true = refl
not_given false = refl
