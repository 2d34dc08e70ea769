use Rattle.std.proofs.Common.{map, List, ap, ◌∙◌, ◌++◌, arith, Bor, ℕ}
use Rattle.wb_values.specs.Value.{Name}
use Rattle.verilog_meaning.specs.Settled.{names_of, declared_ports}
use Rattle.v_syntax.specs.declared.module.PortDeclaration.{PortDeclaration}
use Rattle.v_syntax.specs.Source.{port_of}
use Rattle.v_hier.specs.declared.entry.Tag.{Tag}
use Rattle.v_hier.specs.declared.entry.Tag.TheVariants.{Other}
use Rattle.v_hier.specs.Entries.{entries_of, tagged}
use Rattle.v_hier.proofs.Declared.{entries-more, ports-named, tagged-append}
use Rattle.v_hier.proofs.entry.add_port_names.Goals as goal

abbrev all : List PortDeclaration → List (Name × Tag)
all ps = tagged Other (names_of (declared_ports (map port_of ps)))

abbrev part : PortDeclaration → List (Name × Tag)
part p = tagged Other (port_of p).names

pub loop-port-preserved : goal.loop-port-preserved
loop-port-preserved c =
    entries-more all part
    (λ p ps. ap (tagged Other) (ports-named (port_of p).direction (port_of p).names (declared_ports (map port_of ps))) ∙ tagged-append Other (port_of p).names (names_of (declared_ports (map port_of ps))))
    c.args.ports.now c.loop-port.port-index c.port-item.result (entries_of c.loop-port.entries.items) (entries_of c.add_names.new.entries.items) _ (omega arith) c.port-item.is
    (c.in_ok-add_names.ensures ∙ ap (λ ns. entries_of c.loop-port.entries.items ++ tagged Other (map (λ (n : Bor (List ℕ)). n.now) ns)) c.deref.ensures.value) c.loop-port.invariant
