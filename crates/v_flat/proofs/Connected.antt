-- Connections as assignments, one after the other.
use Rattle.std.proofs.Common.{◌≡◌, ◌∙◌, refl, ap, sym, ℕ, zero, suc, ◌+◌, ◌≤◌, length, List, [], ◌∷◌, ◌++◌, map, Bor, Option, Some, None, option_map, slice_get, arith}
use Rattle.wb_values.specs.Value.{Name}
use Rattle.verilog_trees.specs.Syntax.{Expression, Target, EdgeKind, Direction, input, output, by_order, Module}
use Rattle.verilog_meaning.specs.Settled.{PortPlace, port_named, port_numbered, connection_if_any, named_connections, ordered_connections, instance_connections, Connection, whole_name}
use Rattle.verilog_renamed.specs.Renamed.{renamed_target}
use Rattle.v_syntax.specs.declared.module.NamedConnection.{NamedConnection}
use Rattle.v_syntax.specs.declared.tree.Expression.{Expression as CodeExpression}
use Rattle.v_syntax.specs.Source.{optional_tree_of}
use Rattle.v_instances.specs.Texts.{texts}
use Rattle.v_flat.specs.Links.{from_port, port_link, meant_link, entry_link, connection_links}
use Rattle.v_flat.specs.Items.{renamed_event}

pub event_so : (f : Name → Name) (k : EdgeKind) (n m : Name) → m ≡ f n → record { edge = k; signal = m } ≡ renamed_event f (record { edge = k; signal = n })
event_so f k n m e = λ i. record { edge = k; signal = e i }

pub get_map : {A B : Type 0} (f : A → B) (xs : List A) (k : ℕ) → slice_get (map f xs) k ≡ option_map f (slice_get xs k)
get_map f [] k = refl
get_map f (x ∷ xs) zero = refl
get_map f (x ∷ xs) (suc k) = get_map f xs k

some_is : {A : Type 0} (x y : A) → Some x ≡ Some y → x ≡ y
some_is x y e = cc

pub past_end : {A : Type 0} (xs : List A) (k : ℕ) → length xs ≤ k → slice_get xs k ≡ None
past_end [] k h = refl
past_end (x ∷ xs) zero h = absurd (omega (arith, h))
past_end (x ∷ xs) (suc k) h = past_end xs k (omega (arith, h))

-- no port has this number
pub none_numbered : (ps qs : List (Bor (List ℕ))) (ns : List Name) (k : ℕ) → texts ps ≡ ns → qs ≡ ps → length qs ≤ k → slice_get ns k ≡ None
none_numbered ps qs ns k e p h =
    ap (λ ms. slice_get ms k) (sym e ∙ ap texts (sym p)) ∙ get_map (λ n. n.now) qs k ∙ ap (option_map (λ n. n.now)) (past_end qs k h)

module _ (f g : Name → Name) where
  -- an output, as what is connected to it is a target or not
  pub out_some : (o : Option Target) (t : Target) (n m : Name) → Some t ≡ option_map (renamed_target f) o → m ≡ g n → (t, whole_name m) ∷ [] ≡ from_port f g n o
  out_some None t n m e h = cc
  out_some (Some u) t n m e h = λ i. (some_is t (renamed_target f u) e i, whole_name (h i)) ∷ []

  pub out_none : (o : Option Target) (n : Name) → None ≡ option_map (renamed_target f) o → from_port f g n o ≡ []
  out_none None n e = refl
  out_none (Some u) n e = cc

  pub port_none : (way : Direction) (n : Name) (e : Expression) → port_link way f g n e None ≡ []
  port_none input n e = refl
  port_none output n e = refl

  pub meant_none : (way : Direction) (m : Module) (e : Expression) (o : Option Name) → o ≡ None → meant_link way f g m e o ≡ []
  meant_none way m e o h = ap (meant_link way f g m e) h

  module _ (way : Direction) (m : Module) where
    before_all : (u : Name) (q : PortPlace) (o : Option Expression) (cs : List Connection)
        → connection_links way f g m (connection_if_any u q o ++ cs) ≡ entry_link way f g m q o ++ connection_links way f g m cs
    before_all u q None cs = refl
    before_all u q (Some e) cs = refl

    pub named_more : (u : Name) (c : NamedConnection) (cs : List NamedConnection)
        → connection_links way f g m (named_connections u (map (λ z. (z.name.now, optional_tree_of z.value)) (c ∷ cs)))
        ≡ entry_link way f g m (port_named c.name.now) (optional_tree_of c.value)
        ++ connection_links way f g m (named_connections u (map (λ z. (z.name.now, optional_tree_of z.value)) cs))
    named_more u c cs =
        before_all u (port_named c.name.now) (optional_tree_of c.value) (named_connections u (map (λ z. (z.name.now, optional_tree_of z.value)) cs))

    pub ordered_more : (u : Name) (k : ℕ) (o : Option CodeExpression) (os : List (Option CodeExpression))
        → connection_links way f g m (ordered_connections u k (map optional_tree_of (o ∷ os)))
        ≡ entry_link way f g m (port_numbered k) (optional_tree_of o) ++ connection_links way f g m (ordered_connections u (k + 1) (map optional_tree_of os))
    ordered_more u k o os =
        let number : suc k ≡ k + 1 = omega arith in
        before_all u (port_numbered k) (optional_tree_of o) (ordered_connections u (suc k) (map optional_tree_of os))
        ∙ ap (λ j. entry_link way f g m (port_numbered k) (optional_tree_of o) ++ connection_links way f g m (ordered_connections u j (map optional_tree_of os))) number

    pub none_linked : (u : Name) → connection_links way f g m (instance_connections u (by_order [])) ≡ []
    none_linked u = refl
