-- Interfaces of modules, with one more.
use Rattle.std.proofs.Common.{◌≡◌, refl, ap, sym, subst, ℕ, ◌≤◌, Bool, true, false, cond, length, drop, map, List, ◌∷◌, Bor, Option, Some, None}
use Rattle.std.specs.Prelude.{is_some}
use Rattle.std.proofs.lemmas.Bool.{false≢true}
use Rattle.std.proofs.lemmas.List.{drop_all}
use Rattle.std.specs.Ordering.{nat_cmp}
use Rattle.std.specs.Cmp.Lexicographic.{slice_cmp}
use Rattle.std.specs.BTreeMap as tree
use Rattle.std.specs.BTreeMap.{BTreeMap}
use Rattle.std.proofs.lemmas.Slice.Eq.{bytes_eq-Decides}
use Rattle.std.proofs.lemmas.Map.Text.{btree_map_updates_str}
use Rattle.wb_values.specs.Value.{same_name}
use Rattle.verilog_trees.specs.Syntax.{Module}
use Rattle.verilog_meaning.specs.Hierarchy.{module_named}
use Rattle.v_syntax.specs.declared.module.Module.{Module as CodeModule}
use Rattle.v_syntax.specs.Source.{module_of}
use Rattle.v_hier.specs.Tables.{under_name}
use Rattle.v_instances.specs.declared.interface.Interface.{Interface}
use Rattle.v_instances.specs.declared.interface.Interfaces.{Interfaces}
use Rattle.v_instances.specs.Interface.{IsInterfaceOf, IsInterfaceIfAny, IsSoFar, AreSoFar, AreInterfacesOf, interface_in}

put : (b : Bool) (o : Option Interface) (v : Interface) (all rest : Option Module) (m : Module) → (b ≡ true → is_some o ≡ false) → IsInterfaceOf v m
    → IsSoFar o all (cond b (Some m) rest) → IsSoFar (cond b (Some v) o) all rest
put true None v all rest m absent is so = subst (λ a. IsInterfaceIfAny (Some v) a) (sym so) is
put true (Some i) v all rest m absent is so = absurd (false≢true (sym (absent refl)))
put false o v all rest m absent is so = so

past : (b : Bool) (o : Option Interface) (all rest : Option Module) (m : Module) → (b ≡ true → is_some o ≡ true) → IsSoFar o all (cond b (Some m) rest) → IsSoFar o all rest
past true None all rest m there so = absurd (false≢true (there refl))
past true (Some i) all rest m there so = so
past false o all rest m there so = so

-- the interface of the first module of its name is put under the name
pub module_put : (old : Interfaces) (new : BTreeMap (Bor (List ℕ)) Interface) (k : Bor (List ℕ)) (v : Interface) (m : Module) (all rest : List Module)
    → tree.Updates (λ x y. slice_cmp nat_cmp x.now y.now) old.modules new k (Some v) → is_some (under_name old.modules k.now) ≡ false → k.now ≡ m.module_name
    → IsInterfaceOf v m → AreSoFar old all (m ∷ rest) → AreSoFar (record { modules = new }) all rest
module_put old new k v m all rest u absent named is so n =
    subst (λ o. IsSoFar o (module_named all n) (module_named rest n)) (sym (btree_map_updates_str k.now old.modules new (Some v) u n))
    (put (same_name k.now n) (under_name old.modules n) v (module_named all n) (module_named rest n) m
    (λ h. subst (λ q. is_some (under_name old.modules q) ≡ false) ((bytes_eq-Decides k.now n).0 h) absent) is
    (subst (λ q. IsSoFar (under_name old.modules n) (module_named all n) (cond (same_name q n) (Some m) (module_named rest n))) (sym named) (so n)))

-- a later module of a name
pub module_past : (old : Interfaces) (m : Module) (all rest : List Module) → is_some (under_name old.modules m.module_name) ≡ true → AreSoFar old all (m ∷ rest) → AreSoFar old all rest
module_past old m all rest there so n =
    past (same_name m.module_name n) (under_name old.modules n) (module_named all n) (module_named rest n) m
    (λ h. subst (λ q. is_some (under_name old.modules q) ≡ true) ((bytes_eq-Decides m.module_name n).0 h) there) (so n)

last : (o : Option Interface) (all : Option Module) → IsSoFar o all None → IsInterfaceIfAny o all
last None None so = tt
last None (Some m) so = absurd (false≢true (sym (ap is_some so)))
last (Some i) all so = so

-- when no module is left
pub modules_end : (t : Interfaces) (ms : List CodeModule) (i : ℕ) → length ms ≤ i → AreSoFar t (map module_of ms) (map module_of (drop i ms)) → AreInterfacesOf t (map module_of ms)
modules_end t ms i h so n =
    last (interface_in t n) (module_named (map module_of ms) n) (subst (λ xs. AreSoFar t (map module_of ms) (map module_of xs)) (drop_all i ms h) so n)
