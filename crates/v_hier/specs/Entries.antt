-- What a module declares, name by name, each with how it is declared; and what becomes of a name that is declared again.
use Rattle.std.specs.Prelude.{Bool, true, false, cond, ◌||◌, is_none, List, [], ◌∷◌, map, Option, Some, None}
use Rattle.wb_values.specs.Value.{Name, same_name}
use Rattle.verilog_trees.specs.Syntax as pure
use Rattle.verilog_meaning.specs.Hierarchy.{Declaration}
use Rattle.v_hier.specs.declared.entry.Tag.{Tag}
use Rattle.v_hier.specs.declared.entry.Tag.TheVariants.{BarePort, Net, Other}
use Rattle.v_hier.specs.declared.entry.Entry.{Entry}
use Rattle.v_hier.specs.declared.duplicate.Standing.{Standing}
use Rattle.v_hier.specs.declared.duplicate.Standing.TheVariants.{Free, OnePort, OneNet, OneOther, PortAndNet, Repeated}

abbrev pub entry_of_code : Entry → Name × Tag
entry_of_code e = (e.name.now, e.tag)

abbrev pub entries_of : List Entry → List (Name × Tag)
entries_of es = map entry_of_code es

abbrev pub port_tag : Option pure.NetKind → Tag
port_tag None = BarePort
port_tag (Some k) = Other

abbrev pub tag_of : Declaration → Tag
tag_of d = cond (is_none d.direction) Net (port_tag d.kind)

abbrev pub declaration_entries : List Declaration → List (Name × Tag)
declaration_entries [] = []
declaration_entries (d ∷ ds) = (d.of_name, tag_of d) ∷ declaration_entries ds

abbrev pub tagged : Tag → List Name → List (Name × Tag)
tagged t [] = []
tagged t (n ∷ ns) = (n, t) ∷ tagged t ns

abbrev pub entry_names : List (Name × Tag) → List Name
entry_names [] = []
entry_names (e ∷ es) = e.0 ∷ entry_names es

-- what becomes of a name that is declared once more: once as a bare port and once as a net or variable is right
abbrev pub next : Tag → Standing → Standing
next BarePort Free = OnePort
next Net Free = OneNet
next Other Free = OneOther
next Net OnePort = PortAndNet
next BarePort OneNet = PortAndNet
next _ _ = Repeated

abbrev pub is_repeated : Standing → Bool
is_repeated Repeated = true
is_repeated _ = false

-- Some name is declared too often, where each name stands so before these entries.
abbrev pub clashes : (Name → Standing) → List (Name × Tag) → Bool
clashes f [] = false
clashes f (e ∷ es) = is_repeated (next e.1 (f e.0)) || clashes (λ q. cond (same_name e.0 q) (next e.1 (f q)) (f q)) es
