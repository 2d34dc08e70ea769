-- Connections as assignments: those of a list of them are the links of the connections.
use Rattle.std.proofs.Common.{◌≡◌, List, [], ◌∷◌, ◌++◌, ◌⊎◌, inl, inr, refl, sym, ◌∙◌, subst, Option, Some, None}
use Rattle.wb_values.specs.Value.{Name, entry_of}
use Rattle.verilog_trees.specs.Syntax.{Expression, Target, Direction, input, output, Module}
use Rattle.verilog_meaning.specs.Hierarchy.{instance_step, Placed}
use Rattle.verilog_meaning.specs.Settled.{Design, at_path, as_target, whole_of, whole_name, Connection, port_meant, port_directions, HasPort, IsConnectedTo}
use Rattle.verilog_unique.proofs.Descent.{IsAmong, among_left, among_right, among_either}
use Rattle.verilog_renamed.specs.EachName.{EachIn, EachInTarget}
use Rattle.verilog_renamed.proofs.EachName.{as_target_named}
use Rattle.verilog_renamed.proofs.Paths.{ap2}
use Rattle.flat_designs.specs.Flat.{Naming, into_input, out_of_output, IsLink, to_input, of_output}
use Rattle.v_places.proofs.Spots.{same_some}
use Rattle.v_flat.specs.Links.{from_port, port_link, meant_link, connection_link, connection_links}
use Rattle.v_flat.proofs.Alike.{Alike, expression_alike, target_alike}

-- ---- under names that replace alike

module _ (f F g G : Name → Name) (m : Module) (ports : (n : Name) (w : Direction) → HasPort m n w → g n ≡ G n) where
  module _ (c : Connection) (each : EachIn (Alike f F) c.expression) where
    from_alike : (n : Name) (o : Option Target) → ((t : Target) → o ≡ Some t → EachInTarget (Alike f F) t) → g n ≡ G n → from_port f g n o ≡ from_port F G n o
    from_alike n None h e = refl
    from_alike n (Some t) h e = λ i. (target_alike f F t (h t refl) i, whole_name (e i)) ∷ []

    port_alike : (way : Direction) (n : Name) (x : Option Direction) → entry_of (port_directions m) n ≡ x
        → port_link way f g n c.expression x ≡ port_link way F G n c.expression x
    port_alike input n None e = refl
    port_alike output n None e = refl
    port_alike input n (Some input) e = λ i. (whole_of (ports n input e i), expression_alike f F c.expression each i) ∷ []
    port_alike input n (Some output) e = refl
    port_alike output n (Some input) e = refl
    port_alike output n (Some output) e =
        from_alike n (as_target c.expression) (λ t h. as_target_named (Alike f F) c.expression t each h) (ports n output e)

    meant_alike : (way : Direction) (o : Option Name) → meant_link way f g m c.expression o ≡ meant_link way F G m c.expression o
    meant_alike way None = refl
    meant_alike way (Some n) = port_alike way n (entry_of (port_directions m) n) refl

  pub links_alike : (way : Direction) (cs : List Connection) → ((c : Connection) → IsAmong cs c → EachIn (Alike f F) c.expression)
      → connection_links way f g m cs ≡ connection_links way F G m cs
  links_alike way [] h = refl
  links_alike way (c ∷ cs) h =
      ap2 (λ xs ys. xs ++ ys) (meant_alike c (h c (inl refl)) way (port_meant m c.to_port)) (links_alike way cs (λ z k. h z (inr k)))

-- ---- an assignment among those of several connections is that of one of them

pub record IsOfOne (way : Direction) (f g : Name → Name) (m : Module) (cs : List Connection) (a : Target × Expression) : Type 0 where
  pub one : Connection
  pub is_one : IsAmong cs one
  pub is_link : IsAmong (connection_link way f g m one) a

pub of_one : (way : Direction) (f g : Name → Name) (m : Module) (cs : List Connection) (a : Target × Expression) → IsAmong (connection_links way f g m cs) a
    → IsOfOne way f g m cs a
of_one way f g m [] a h = absurd h
of_one way f g m (c ∷ cs) a h =
    elim (among_either (connection_link way f g m c) (connection_links way f g m cs) a h) as (λ _. IsOfOne way f g m (c ∷ cs) a) [
      | inl k ↦ record { one = c; is_one = inl refl; is_link = k }
      | inr k ↦ let r = of_one way f g m cs a k in record { one = r.one; is_one = inr r.is_one; is_link = r.is_link }
    ]

pub one_of : (way : Direction) (f g : Name → Name) (m : Module) (cs : List Connection) (c : Connection) (a : Target × Expression) → IsAmong cs c
    → IsAmong (connection_link way f g m c) a → IsAmong (connection_links way f g m cs) a
one_of way f g m [] c a h k = absurd h
one_of way f g m (b ∷ cs) c a (inl e) k =
    among_left (connection_link way f g m b) (connection_links way f g m cs) a (subst (λ (z : Connection). IsAmong (connection_link way f g m z) a) (sym e) k)
one_of way f g m (b ∷ cs) c a (inr h) k = among_right (connection_link way f g m b) (connection_links way f g m cs) a (one_of way f g m cs c a h k)

-- ---- it is the connection's link

module _ (d : Design) (called : Naming) (r b : Placed) (c : Connection) (at : at_path d (instance_step c.of_instance ∷ r.path) ≡ Some b) where
  module _ (a : Target × Expression) where
    outward : (n : Name) → IsConnectedTo d r c b n output → (o : Option Target) → as_target c.expression ≡ o
        → IsAmong (from_port (called r.path) (called b.path) n o) a → IsLink d called r c a
    outward n to None e h = absurd h
    outward n to (Some t) e (inl k) = subst (IsLink d called r c) k (of_output b n t to e)
    outward n to (Some t) e (inr k) = absurd k

    at_port : (way : Direction) (n : Name) → port_meant b.of_module c.to_port ≡ Some n → (x : Option Direction) → entry_of (port_directions b.of_module) n ≡ x
        → IsAmong (port_link way (called r.path) (called b.path) n c.expression x) a → IsLink d called r c a
    at_port input n e None g h = absurd h
    at_port output n e None g h = absurd h
    at_port input n e (Some input) g (inl k) = subst (IsLink d called r c) k (to_input b n (record { is_below = at; is_meant = e; is_port = g }))
    at_port input n e (Some input) g (inr k) = absurd k
    at_port input n e (Some output) g h = absurd h
    at_port output n e (Some input) g h = absurd h
    at_port output n e (Some output) g h = outward n (record { is_below = at; is_meant = e; is_port = g }) (as_target c.expression) refl h

    meant_port : (way : Direction) (o : Option Name) → port_meant b.of_module c.to_port ≡ o
        → IsAmong (meant_link way (called r.path) (called b.path) b.of_module c.expression o) a → IsLink d called r c a
    meant_port way None e h = absurd h
    meant_port way (Some n) e h = at_port way n e (entry_of (port_directions b.of_module) n) refl h

    pub link_found : (way : Direction) → IsAmong (connection_link way (called r.path) (called b.path) b.of_module c) a → IsLink d called r c a
    link_found way h = meant_port way (port_meant b.of_module c.to_port) refl h

  -- the link of a connection to a port of this direction
  placed_in : (way : Direction) (x : Placed) (n : Name) (a : Target × Expression) → IsConnectedTo d r c x n way
      → IsAmong (port_link way (called r.path) (called x.path) n c.expression (Some way)) a
      → IsAmong (connection_link way (called r.path) (called b.path) b.of_module c) a
  placed_in way x n a to h =
      subst (λ (z : Placed). IsAmong (connection_link way (called r.path) (called z.path) z.of_module c) a) (same_some x b (sym to.is_below ∙ at))
      (subst (λ o. IsAmong (meant_link way (called r.path) (called x.path) x.of_module c.expression o) a) (sym to.is_meant)
      (subst (λ o. IsAmong (port_link way (called r.path) (called x.path) n c.expression o) a) (sym to.is_port) h))

  pub link_listed : (a : Target × Expression) → IsLink d called r c a
      → IsAmong (connection_link input (called r.path) (called b.path) b.of_module c) a
      ⊎ IsAmong (connection_link output (called r.path) (called b.path) b.of_module c) a
  link_listed _ (to_input x n to) = inl (placed_in input x n (into_input called r x n c.expression) to (inl refl))
  link_listed _ (of_output x n t to e) =
      inr (placed_in output x n (out_of_output called r x n t) to
      (subst (λ o. IsAmong (from_port (called r.path) (called x.path) n o) (out_of_output called r x n t)) (sym e) (inl refl)))
