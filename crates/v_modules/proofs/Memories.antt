-- A declaration as a port is that of a memory exactly where a port is one.
use Rattle.std.proofs.Common.{◌≡◌, ◌∙◌, refl, sym, ap, Bool, true, false, cond, ◌&&◌, ◌||◌, List, [], ◌∷◌, ◌++◌, Option, Some, is_some, inl, inr}
use Rattle.std.proofs.lemmas.Bool.{false≢true}
use Rattle.std.proofs.lemmas.Slice.Eq.{bytes_eq-Decides}
use Rattle.wb_values.specs.Value.{Name, same_name, Entries, entry_of}
use Rattle.verilog_trees.specs.Syntax.{Expression, Range, PortDeclaration, Item, port, parameter, wires, variables, assign, always, instances, Module}
use Rattle.verilog_meaning.specs.Expression.{Scope, is_memory}
use Rattle.verilog_meaning.specs.Hierarchy.{Declaration, each_port, port_declarations, wire_declarations, variable_declarations, item_declarations, declarations, header_ports}
use Rattle.verilog_meaning.specs.Settled.{named_ports, declared_ports, item_ports, port_directions}
use Rattle.v_sound.proofs.Constants.{or-left, or-right, either}

-- Some declaration as a port is that of a memory.
unfoldable pub any_memory : Scope → List Declaration → Bool
any_memory s [] = false
any_memory s (d ∷ ds) = (is_some d.direction && is_memory (s d.of_name)) || any_memory s ds

-- Some declared name is a port, by p, and a memory.
unfoldable pub any_port : Scope → (Name → Bool) → List Declaration → Bool
any_port s p [] = false
any_port s p (d ∷ ds) = (p d.of_name && is_memory (s d.of_name)) || any_port s p ds

-- Some declaration of the name is as a port.
as_port : List Declaration → Name → Bool
as_port [] n = false
as_port (d ∷ ds) n = (is_some d.direction && same_name d.of_name n) || as_port ds n

or-assoc : (a b c : Bool) → (a || b) || c ≡ a || (b || c)
or-assoc true b c = refl
or-assoc false b c = refl

or-none : (a : Bool) → a || false ≡ a
or-none true = refl
or-none false = refl

as_port-append : (ds es : List Declaration) (n : Name) → as_port (ds ++ es) n ≡ as_port ds n || as_port es n
unfolding as_port
as_port-append [] es n = refl
as_port-append (d ∷ ds) es n = ap (λ b. (is_some d.direction && same_name d.of_name n) || b) (as_port-append ds es n) ∙ sym (or-assoc (is_some d.direction && same_name d.of_name n) (as_port ds n) (as_port es n))

there : {A : Type 0} (b : Bool) (x : A) (o : Option A) → is_some (cond b (Some x) o) ≡ b || is_some o
there true x o = refl
there false x o = refl

entry-append : {A : Type 0} (xs ys : Entries A) (n : Name) → is_some (entry_of (xs ++ ys) n) ≡ is_some (entry_of xs n) || is_some (entry_of ys n)
entry-append [] ys n = refl
entry-append (x ∷ xs) ys n =
    there (same_name x.0 n) x.1 (entry_of (xs ++ ys) n) ∙ ap (λ b. same_name x.0 n || b) (entry-append xs ys n)
    ∙ sym (or-assoc (same_name x.0 n) (is_some (entry_of xs n)) (is_some (entry_of ys n)))
    ∙ ap (λ b. b || is_some (entry_of ys n)) (sym (there (same_name x.0 n) x.1 (entry_of xs n)))

named-as_port : (d : PortDeclaration) (ns : List Name) (n : Name) → is_some (entry_of (named_ports d.direction ns) n) ≡ as_port (each_port d ns) n
unfolding as_port
named-as_port d [] n = refl
named-as_port d (m ∷ ns) n = there (same_name m n) d.direction (entry_of (named_ports d.direction ns) n) ∙ ap (λ b. same_name m n || b) (named-as_port d ns n)

wires-as_port : (signed : Bool) (r : Option Range) (ws : List (Name × Option Expression)) (n : Name) → as_port (wire_declarations signed r ws) n ≡ false
unfolding as_port
wires-as_port signed r [] n = refl
wires-as_port signed r (w ∷ ws) n = wires-as_port signed r ws n

variables-as_port : (signed : Bool) (r : Option Range) (vs : List (Name × Option Range)) (n : Name) → as_port (variable_declarations signed r vs) n ≡ false
unfolding as_port
variables-as_port signed r [] n = refl
variables-as_port signed r (v ∷ vs) n = variables-as_port signed r vs n

header-as_port : (ds : List PortDeclaration) (n : Name) → is_some (entry_of (declared_ports ds) n) ≡ as_port (port_declarations ds) n
unfolding as_port
header-as_port [] n = refl
header-as_port (d ∷ ds) n =
    entry-append (named_ports d.direction d.names) (declared_ports ds) n
    ∙ ap (λ b. b || is_some (entry_of (declared_ports ds) n)) (named-as_port d d.names n) ∙ ap (λ b. as_port (each_port d d.names) n || b) (header-as_port ds n)
    ∙ sym (as_port-append (each_port d d.names) (port_declarations ds) n)

items-as_port : (items : List Item) (n : Name) → is_some (entry_of (item_ports items) n) ≡ as_port (item_declarations items) n
unfolding as_port
items-as_port [] n = refl
items-as_port (port d ∷ items) n =
    entry-append (named_ports d.direction d.names) (item_ports items) n
    ∙ ap (λ b. b || is_some (entry_of (item_ports items) n)) (named-as_port d d.names n) ∙ ap (λ b. as_port (each_port d d.names) n || b) (items-as_port items n)
    ∙ sym (as_port-append (each_port d d.names) (item_declarations items) n)
items-as_port (parameter d ∷ items) n = items-as_port items n
items-as_port (wires signed r ws ∷ items) n =
    items-as_port items n ∙ ap (λ b. b || as_port (item_declarations items) n) (sym (wires-as_port signed r ws n)) ∙ sym (as_port-append (wire_declarations signed r ws) (item_declarations items) n)
items-as_port (variables signed r vs ∷ items) n =
    items-as_port items n ∙ ap (λ b. b || as_port (item_declarations items) n) (sym (variables-as_port signed r vs n)) ∙ sym (as_port-append (variable_declarations signed r vs) (item_declarations items) n)
items-as_port (assign xs ∷ items) n = items-as_port items n
items-as_port (always es x ∷ items) n = items-as_port items n
items-as_port (instances k given is ∷ items) n = items-as_port items n

abbrev pub is_port_of : Module → Name → Bool
is_port_of m n = is_some (entry_of (port_directions m) n)

port-as_port : (m : Module) (n : Name) → is_port_of m n ≡ as_port (declarations m) n
port-as_port m n =
    entry-append (declared_ports (header_ports m.ports)) (item_ports m.items) n
    ∙ ap (λ b. b || is_some (entry_of (item_ports m.items) n)) (header-as_port (header_ports m.ports) n) ∙ ap (λ b. as_port (port_declarations (header_ports m.ports)) n || b) (items-as_port m.items n)
    ∙ sym (as_port-append (port_declarations (header_ports m.ports)) (item_declarations m.items) n)

two-ways : (a b : Bool) → (a ≡ true → b ≡ true) → (b ≡ true → a ≡ true) → a ≡ b
two-ways true b f g = sym (f refl)
two-ways false true f g = g refl
two-ways false false f g = refl

both-true : (a b : Bool) → a && b ≡ true → (a ≡ true) × (b ≡ true)
both-true true b h = (refl, h)
both-true false b h = absurd (false≢true h)

and-true : (a b : Bool) → a ≡ true → b ≡ true → a && b ≡ true
and-true a b h g = ap (λ z. z && b) h ∙ g

same-itself : (n : Name) → same_name n n ≡ true
same-itself n = (bytes_eq-Decides n n).1 refl

-- a declaration as a port of a memory is one of a port that is a memory, p being a port of the list or of one before
port-of-memory : (s : Scope) (p : Name → Bool) (ds : List Declaration) → ((n : Name) → as_port ds n ≡ true → p n ≡ true) → any_memory s ds ≡ true → any_port s p ds ≡ true
unfolding any_memory any_port as_port
port-of-memory s p [] f h = h
port-of-memory s p (d ∷ ds) f h = elim (either (is_some d.direction && is_memory (s d.of_name)) (any_memory s ds) h) as (λ _. (p d.of_name && is_memory (s d.of_name)) || any_port s p ds ≡ true) [
  | inl a ↦
      let q = both-true (is_some d.direction) (is_memory (s d.of_name)) a in
      or-left (p d.of_name && is_memory (s d.of_name)) (any_port s p ds)
      (and-true (p d.of_name) (is_memory (s d.of_name))
      (f d.of_name (or-left (is_some d.direction && same_name d.of_name d.of_name) (as_port ds d.of_name) (and-true (is_some d.direction) (same_name d.of_name d.of_name) q.0 (same-itself d.of_name)))) q.1)
  | inr a ↦ or-right (p d.of_name && is_memory (s d.of_name)) (any_port s p ds)
      (port-of-memory s p ds (λ n g. f n (or-right (is_some d.direction && same_name d.of_name n) (as_port ds n) g)) a)
]

memory-at : (s : Scope) (ds : List Declaration) (n : Name) → as_port ds n ≡ true → is_memory (s n) ≡ true → any_memory s ds ≡ true
unfolding any_memory as_port
memory-at s [] n h g = h
memory-at s (d ∷ ds) n h g = elim (either (is_some d.direction && same_name d.of_name n) (as_port ds n) h) as (λ _. (is_some d.direction && is_memory (s d.of_name)) || any_memory s ds ≡ true) [
  | inl a ↦
      let q = both-true (is_some d.direction) (same_name d.of_name n) a in
      or-left (is_some d.direction && is_memory (s d.of_name)) (any_memory s ds)
      (and-true (is_some d.direction) (is_memory (s d.of_name)) q.0 (ap (λ k. is_memory (s k)) ((bytes_eq-Decides d.of_name n).0 q.1) ∙ g))
  | inr a ↦ or-right (is_some d.direction && is_memory (s d.of_name)) (any_memory s ds) (memory-at s ds n a g)
]

memory-of-port : (s : Scope) (p : Name → Bool) (all ds : List Declaration) → ((n : Name) → p n ≡ true → as_port all n ≡ true) → any_port s p ds ≡ true → any_memory s all ≡ true
unfolding any_port
memory-of-port s p all [] f h = absurd (false≢true h)
memory-of-port s p all (d ∷ ds) f h = elim (either (p d.of_name && is_memory (s d.of_name)) (any_port s p ds) h) as (λ _. any_memory s all ≡ true) [
  | inl a ↦ let q = both-true (p d.of_name) (is_memory (s d.of_name)) a in memory-at s all d.of_name (f d.of_name q.0) q.1
  | inr a ↦ memory-of-port s p all ds f a
]

pub memories-same : (s : Scope) (m : Module) → any_memory s (declarations m) ≡ any_port s (is_port_of m) (declarations m)
memories-same s m = two-ways (any_memory s (declarations m)) (any_port s (is_port_of m) (declarations m))
    (port-of-memory s (is_port_of m) (declarations m) (λ n h. port-as_port m n ∙ h))
    (memory-of-port s (is_port_of m) (declarations m) (declarations m) (λ n h. sym (port-as_port m n) ∙ h))
