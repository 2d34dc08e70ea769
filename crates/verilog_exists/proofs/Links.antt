-- What gives a module values by equations: its continuous assignments, the outputs of its instances, and what is connected to its inputs.
use Rattle.std.proofs.Common.{◌≡◌, Bool, true, false, cond, List, [], ◌∷◌, ◌++◌, inl, inr, refl, sym, ap, subst, Option, Some, None}
use Rattle.std.specs.Prelude.{IsTrue, ◌&&◌, is_none, ℤ}
use Rattle.wb_values.specs.Value.{Name, same_name, entry_of}
use Rattle.verilog_trees.specs.Syntax.{Expression, Target, Direction, input, output}
use Rattle.verilog_meaning.specs.Hierarchy.{PathStep, instance_step, Placed}
use Rattle.verilog_meaning.specs.Settled.{Design, at_path, IsPlacedIn, assignments, as_target, whole_of, whole_name, Connection, port_connections, port_directions, port_meant, IsConnectedTo}
use Rattle.verilog_unique.proofs.Options.{same_is, is_same, both_true}
use Rattle.verilog_unique.proofs.Descent.{IsAmong, among_left, among_right, among_either}
use Rattle.verilog_unique.proofs.Paths.{stands_at, placed_in}

-- a target of the module, and the expression of some module whose value it gets
pub record Link : Type 0 where
  pub inner : Placed
  pub expression : Expression
  pub target : Target

abbrev pub assignment_link : Placed → Target × Expression → Link
assignment_link p a = record { inner = p; expression = a.1; target = a.0 }

abbrev pub output_link : Placed → Name → Target → Link
output_link below m t = record { inner = below; expression = whole_name m; target = t }

abbrev pub input_link : Placed → Connection → Name → Link
input_link around c n = record { inner = around; expression = c.expression; target = whole_of n }

pub data IsLink (d : Design) (p : Placed) : Link → Type 0 where
  of_assignment : (a : Target × Expression) → IsAmong (assignments p.of_module.items) a → IsLink d p (assignment_link p a)
  of_output : (c : Connection) (below : Placed) (m : Name) (t : Target) → IsAmong (port_connections p.of_module.items) c
      → IsConnectedTo d p c below m output → as_target c.expression ≡ Some t → IsLink d p (output_link below m t)
  of_input : (around : Placed) (c : Connection) (n : Name) → IsPlacedIn d around → IsAmong (port_connections around.of_module.items) c
      → IsConnectedTo d around c p n input → IsLink d p (input_link around c n)

-- ---- in one list

abbrev assignment_links : Placed → List (Target × Expression) → List Link
assignment_links p [] = []
assignment_links p (a ∷ rest) = assignment_link p a ∷ assignment_links p rest

abbrev output_to : Placed → Name → Option Target → List Link
output_to below m None = []
output_to below m (Some t) = output_link below m t ∷ []

abbrev output_way : Connection → Placed → Name → Option Direction → List Link
output_way c below m None = []
output_way c below m (Some input) = []
output_way c below m (Some output) = output_to below m (as_target c.expression)

abbrev output_port : Connection → Placed → Option Name → List Link
output_port c below None = []
output_port c below (Some m) = output_way c below m (entry_of (port_directions below.of_module) m)

abbrev output_from : Connection → Option Placed → List Link
output_from c None = []
output_from c (Some below) = output_port c below (port_meant below.of_module c.to_port)

abbrev output_links : Design → Placed → List Connection → List Link
output_links d p [] = []
output_links d p (c ∷ cs) = output_from c (at_path d (instance_step c.of_instance ∷ p.path)) ++ output_links d p cs

abbrev input_way : Placed → Connection → Name → Option Direction → List Link
input_way around c n None = []
input_way around c n (Some input) = input_link around c n ∷ []
input_way around c n (Some output) = []

abbrev input_port : Placed → Connection → Placed → Option Name → List Link
input_port around c p None = []
input_port around c p (Some n) = input_way around c n (entry_of (port_directions p.of_module) n)

abbrev is_step : PathStep → Name → Bool
is_step u n = same_name n u.of_name && is_none u.index

abbrev input_of : Placed → Placed → PathStep → List Connection → List Link
input_of around p u [] = []
input_of around p u (c ∷ cs) =
    cond (is_step u c.of_instance) (input_port around c p (port_meant p.of_module c.to_port)) [] ++ input_of around p u cs

abbrev input_from : Placed → PathStep → Option Placed → List Link
input_from p u None = []
input_from p u (Some around) = input_of around p u (port_connections around.of_module.items)

abbrev input_links : Design → Placed → List PathStep → List Link
input_links d p [] = []
input_links d p (u ∷ path) = input_from p u (at_path d path)

pub links : Design → Placed → List Link
links d p =
    assignment_links p (assignments p.of_module.items)
    ++ (output_links d p (port_connections p.of_module.items) ++ input_links d p p.path)

-- ---- what is in it is one

assignment_sound : (d : Design) (p : Placed) (as' : List (Target × Expression)) (l : Link) → ((a : Target × Expression) → IsAmong as' a → IsAmong (assignments p.of_module.items) a)
    → IsAmong (assignment_links p as') l → IsLink d p l
assignment_sound d p [] l f h = absurd h
assignment_sound d p (a ∷ rest) l f (inl e) = subst (IsLink d p) e (of_assignment a (f a (inl refl)))
assignment_sound d p (a ∷ rest) l f (inr h) = assignment_sound d p rest l (λ b k. f b (inr k)) h

output_sound : (d : Design) (p : Placed) (cs : List Connection) (l : Link) → ((c : Connection) → IsAmong cs c → IsAmong (port_connections p.of_module.items) c)
    → IsAmong (output_links d p cs) l → IsLink d p l
output_sound d p [] l f h = absurd h
output_sound d p (c ∷ cs) l f h =
    elim (among_either (output_from c (at_path d (instance_step c.of_instance ∷ p.path))) (output_links d p cs) l h) as (λ _. IsLink d p l) [
      | inl k ↦ from (at_path d (instance_step c.of_instance ∷ p.path)) refl k
      | inr k ↦ output_sound d p cs l (λ b g. f b (inr g)) k
    ]
  where
    to : (below : Placed) (m : Name) → IsConnectedTo d p c below m output → (x : Option Target) → as_target c.expression ≡ x
        → IsAmong (output_to below m x) l → IsLink d p l
    to below m connected None e k = absurd k
    to below m connected (Some t) e (inl g) = subst (IsLink d p) g (of_output c below m t (f c (inl refl)) connected e)
    to below m connected (Some t) e (inr g) = absurd g

    way : (below : Placed) (m : Name) → at_path d (instance_step c.of_instance ∷ p.path) ≡ Some below → port_meant below.of_module c.to_port ≡ Some m
        → (x : Option Direction) → entry_of (port_directions below.of_module) m ≡ x → IsAmong (output_way c below m x) l → IsLink d p l
    way below m e g None i k = absurd k
    way below m e g (Some input) i k = absurd k
    way below m e g (Some output) i k = to below m (record { is_below = e; is_meant = g; is_port = i }) (as_target c.expression) refl k

    at_port : (below : Placed) → at_path d (instance_step c.of_instance ∷ p.path) ≡ Some below → (x : Option Name) → port_meant below.of_module c.to_port ≡ x
        → IsAmong (output_port c below x) l → IsLink d p l
    at_port below e None g k = absurd k
    at_port below e (Some m) g k = way below m e g (entry_of (port_directions below.of_module) m) refl k

    from : (x : Option Placed) → at_path d (instance_step c.of_instance ∷ p.path) ≡ x → IsAmong (output_from c x) l → IsLink d p l
    from None e k = absurd k
    from (Some below) e k = at_port below e (port_meant below.of_module c.to_port) refl k

input_sound : (d : Design) (p around : Placed) (u : PathStep) → IsPlacedIn d around → at_path d (u ∷ around.path) ≡ Some p
    → (cs : List Connection) (l : Link) → ((c : Connection) → IsAmong cs c → IsAmong (port_connections around.of_module.items) c)
    → IsAmong (input_of around p u cs) l → IsLink d p l
input_sound d p around u at e [] l f h = absurd h
input_sound d p around u at e (c ∷ cs) l f h =
    elim (among_either (cond (is_step u c.of_instance) (input_port around c p (port_meant p.of_module c.to_port)) []) (input_of around p u cs) l h) as (λ _. IsLink d p l) [
      | inl k ↦ tested (is_step u c.of_instance) refl k
      | inr k ↦ input_sound d p around u at e cs l (λ b g. f b (inr g)) k
    ]
  where
    same_step : (n : Name) (x : Option ℤ) → c.of_instance ≡ n → IsTrue (is_none x) → instance_step c.of_instance ≡ record { of_name = n; index = x }
    same_step n None g t = ap instance_step g
    same_step n (Some i) g t = cc

    way : (n : Name) → instance_step c.of_instance ≡ u → port_meant p.of_module c.to_port ≡ Some n → (x : Option Direction)
        → entry_of (port_directions p.of_module) n ≡ x → IsAmong (input_way around c n x) l → IsLink d p l
    way n s g None i k = absurd k
    way n s g (Some input) i (inl q) =
        subst (IsLink d p) q (of_input around c n at (f c (inl refl)) (record { is_below = subst (λ w. at_path d (w ∷ around.path) ≡ Some p) (sym s) e; is_meant = g; is_port = i }))
    way n s g (Some input) i (inr q) = absurd q
    way n s g (Some output) i k = absurd k

    at_port : instance_step c.of_instance ≡ u → (x : Option Name) → port_meant p.of_module c.to_port ≡ x → IsAmong (input_port around c p x) l → IsLink d p l
    at_port s None g k = absurd k
    at_port s (Some n) g k = way n s g (entry_of (port_directions p.of_module) n) refl k

    tested : (b : Bool) → is_step u c.of_instance ≡ b → IsAmong (cond b (input_port around c p (port_meant p.of_module c.to_port)) []) l → IsLink d p l
    tested true t k =
        let r = both_true (same_name c.of_instance u.of_name) (is_none u.index) t in
        at_port (same_step u.of_name u.index (same_is c.of_instance u.of_name r.0) r.1) (port_meant p.of_module c.to_port) refl k
    tested false t k = absurd k

inputs_sound : (d : Design) (p : Placed) (path : List PathStep) (l : Link) → at_path d path ≡ Some p → IsAmong (input_links d p path) l → IsLink d p l
inputs_sound d p [] l at h = absurd h
inputs_sound d p (u ∷ path) l at h = from (at_path d path) refl h
  where
    from : (x : Option Placed) → at_path d path ≡ x → IsAmong (input_from p u x) l → IsLink d p l
    from None e k = absurd k
    from (Some around) e k =
        input_sound d p around u (placed_in d path around e) (subst (λ q. at_path d (u ∷ q) ≡ Some p) (sym (stands_at d path around e)) at)
        (port_connections around.of_module.items) l (λ c g. g) k

pub links_sound : (d : Design) (p : Placed) (l : Link) → IsPlacedIn d p → IsAmong (links d p) l → IsLink d p l
unfolding links
links_sound d p l at h =
    elim (among_either (assignment_links p (assignments p.of_module.items)) (output_links d p (port_connections p.of_module.items) ++ input_links d p p.path) l h)
    as (λ _. IsLink d p l) [
      | inl k ↦ assignment_sound d p (assignments p.of_module.items) l (λ a g. g) k
      | inr k ↦ elim (among_either (output_links d p (port_connections p.of_module.items)) (input_links d p p.path) l k) as (λ _. IsLink d p l) [
        | inl g ↦ output_sound d p (port_connections p.of_module.items) l (λ c i. i) g
        | inr g ↦ inputs_sound d p p.path l at g
      ]
    ]

-- ---- and each is in it

assignment_complete : (p : Placed) (as' : List (Target × Expression)) (a : Target × Expression) → IsAmong as' a → IsAmong (assignment_links p as') (assignment_link p a)
assignment_complete p [] a h = absurd h
assignment_complete p (b ∷ rest) a (inl e) = inl (ap (assignment_link p) e)
assignment_complete p (b ∷ rest) a (inr h) = inr (assignment_complete p rest a h)

output_here : (d : Design) (p : Placed) (c : Connection) (below : Placed) (m : Name) (t : Target) → IsConnectedTo d p c below m output → as_target c.expression ≡ Some t
    → IsAmong (output_from c (at_path d (instance_step c.of_instance ∷ p.path))) (output_link below m t)
output_here d p c below m t connected e =
    subst (λ x. IsAmong (output_from c x) (output_link below m t)) (sym connected.is_below)
    (subst (λ x. IsAmong (output_port c below x) (output_link below m t)) (sym connected.is_meant)
    (subst (λ x. IsAmong (output_way c below m x) (output_link below m t)) (sym connected.is_port)
    (subst (λ x. IsAmong (output_to below m x) (output_link below m t)) (sym e) (inl refl))))

output_complete : (d : Design) (p : Placed) (cs : List Connection) (c : Connection) (below : Placed) (m : Name) (t : Target) → IsAmong cs c
    → IsConnectedTo d p c below m output → as_target c.expression ≡ Some t → IsAmong (output_links d p cs) (output_link below m t)
output_complete d p [] c below m t h connected e = absurd h
output_complete d p (b ∷ cs) c below m t (inl g) connected e =
    among_left (output_from b (at_path d (instance_step b.of_instance ∷ p.path))) (output_links d p cs) (output_link below m t)
    (subst (λ (x : Connection). IsAmong (output_from x (at_path d (instance_step x.of_instance ∷ p.path))) (output_link below m t)) (sym g)
    (output_here d p c below m t connected e))
output_complete d p (b ∷ cs) c below m t (inr h) connected e =
    among_right (output_from b (at_path d (instance_step b.of_instance ∷ p.path))) (output_links d p cs) (output_link below m t)
    (output_complete d p cs c below m t h connected e)

input_here : (d : Design) (around p : Placed) (c : Connection) (n : Name) → IsConnectedTo d around c p n input
    → IsAmong (cond (is_step (instance_step c.of_instance) c.of_instance) (input_port around c p (port_meant p.of_module c.to_port)) []) (input_link around c n)
input_here d around p c n connected =
    subst (λ b. IsAmong (cond (b && true) (input_port around c p (port_meant p.of_module c.to_port)) []) (input_link around c n)) (sym (is_same c.of_instance))
    (subst (λ x. IsAmong (input_port around c p x) (input_link around c n)) (sym connected.is_meant)
    (subst (λ x. IsAmong (input_way around c n x) (input_link around c n)) (sym connected.is_port) (inl refl)))

input_complete : (d : Design) (around p : Placed) (cs : List Connection) (c : Connection) (n : Name) → IsAmong cs c → IsConnectedTo d around c p n input
    → IsAmong (input_of around p (instance_step c.of_instance) cs) (input_link around c n)
input_complete d around p [] c n h connected = absurd h
input_complete d around p (b ∷ cs) c n (inl g) connected =
    among_left (cond (is_step (instance_step c.of_instance) b.of_instance) (input_port around b p (port_meant p.of_module b.to_port)) [])
    (input_of around p (instance_step c.of_instance) cs) (input_link around c n)
    (subst (λ (x : Connection). IsAmong (cond (is_step (instance_step c.of_instance) x.of_instance) (input_port around x p (port_meant p.of_module x.to_port)) []) (input_link around c n))
    (sym g) (input_here d around p c n connected))
input_complete d around p (b ∷ cs) c n (inr h) connected =
    among_right (cond (is_step (instance_step c.of_instance) b.of_instance) (input_port around b p (port_meant p.of_module b.to_port)) [])
    (input_of around p (instance_step c.of_instance) cs) (input_link around c n) (input_complete d around p cs c n h connected)

pub links_complete : (d : Design) (p : Placed) (l : Link) → IsPlacedIn d p → IsLink d p l → IsAmong (links d p) l
unfolding links
links_complete d p _ at (of_assignment a h) =
    among_left (assignment_links p (assignments p.of_module.items)) (output_links d p (port_connections p.of_module.items) ++ input_links d p p.path)
    (assignment_link p a) (assignment_complete p (assignments p.of_module.items) a h)
links_complete d p _ at (of_output c below m t h connected e) =
    among_right (assignment_links p (assignments p.of_module.items)) (output_links d p (port_connections p.of_module.items) ++ input_links d p p.path)
    (output_link below m t)
    (among_left (output_links d p (port_connections p.of_module.items)) (input_links d p p.path) (output_link below m t)
    (output_complete d p (port_connections p.of_module.items) c below m t h connected e))
links_complete d p _ at (of_input around c n around_at h connected) =
    among_right (assignment_links p (assignments p.of_module.items)) (output_links d p (port_connections p.of_module.items) ++ input_links d p p.path)
    (input_link around c n)
    (among_right (output_links d p (port_connections p.of_module.items)) (input_links d p p.path) (input_link around c n)
    (subst (λ path. IsAmong (input_links d p path) (input_link around c n)) (sym (stands_at d (instance_step c.of_instance ∷ around.path) p connected.is_below))
    (subst (λ x. IsAmong (input_from p (instance_step c.of_instance) x) (input_link around c n)) (sym around_at)
    (input_complete d around p (port_connections around.of_module.items) c n h connected))))
