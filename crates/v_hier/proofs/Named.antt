-- Modules and declarations by their names.
use Rattle.std.proofs.Common.{◌≡◌, ◌∙◌, refl, ap, sym, Bool, true, false, cond, not, ◌||◌, List, [], ◌∷◌, ◌++◌, Option, Some}
use Rattle.std.specs.Prelude.{is_none}
use Rattle.wb_values.specs.Value.{Name, same_name}
use Rattle.verilog_trees.specs.Syntax.{Item, port, parameter, wires, variables, assign, always, instances, Source}
use Rattle.verilog_meaning.specs.Hierarchy.{Declaration, module_named}
use Rattle.verilog_meaning.specs.Settled.{is_declared_among}
use Rattle.verilog_designs.specs.Names.{is_among, module_names, instantiates_unknown}
use Rattle.v_hier.specs.declared.entry.Tag.{Tag}
use Rattle.v_hier.specs.Entries.{declaration_entries, tagged, entry_names}
use Rattle.v_hier.specs.Instances.{instantiates_other}

none_so : {A : Type 0} (b : Bool) (x : A) (o : Option A) (c : Bool) → is_none o ≡ not c → is_none (cond b (Some x) o) ≡ not (b || c)
none_so true x o c h = refl
none_so false x o c h = h

no-module : (source : Source) (n : Name) → is_none (module_named source n) ≡ not (is_among (module_names source) n)
no-module [] n = refl
no-module (m ∷ ms) n = none_so (same_name m.module_name n) m (module_named ms n) (is_among (module_names ms) n) (no-module ms n)

-- the set has the names of the modules
pub instantiates-other : (source : Source) (k : Name → Bool) → ((q : Name) → k q ≡ is_among (module_names source) q) → (items : List Item)
    → instantiates_other k items ≡ instantiates_unknown source items
instantiates-other source k h [] = refl
instantiates-other source k h (port d ∷ items) = instantiates-other source k h items
instantiates-other source k h (parameter d ∷ items) = instantiates-other source k h items
instantiates-other source k h (wires signed r ws ∷ items) = instantiates-other source k h items
instantiates-other source k h (variables signed r vs ∷ items) = instantiates-other source k h items
instantiates-other source k h (assign ts ∷ items) = instantiates-other source k h items
instantiates-other source k h (always es x ∷ items) = instantiates-other source k h items
instantiates-other source k h (instances m given is ∷ items) =
    ap (λ b. not b || instantiates_other k items) (h m)
    ∙ (ap (λ b. b || instantiates_other k items) (sym (no-module source m))
    ∙ ap (λ b. is_none (module_named source m) || b) (instantiates-other source k h items))

pub among-declared : (ds : List Declaration) (q : Name) → is_among (entry_names (declaration_entries ds)) q ≡ is_declared_among ds q
among-declared [] q = refl
among-declared (d ∷ ds) q = ap (λ b. same_name d.of_name q || b) (among-declared ds q)

pub names-tagged : (t : Tag) (ns : List Name) → entry_names (tagged t ns) ≡ ns
names-tagged t [] = refl
names-tagged t (n ∷ ns) = ap (λ ms. n ∷ ms) (names-tagged t ns)

pub names-append : (xs ys : List (Name × Tag)) → entry_names (xs ++ ys) ≡ entry_names xs ++ entry_names ys
names-append [] ys = refl
names-append (x ∷ xs) ys = ap (λ ms. x.0 ∷ ms) (names-append xs ys)
