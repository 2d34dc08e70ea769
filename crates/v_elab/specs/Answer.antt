-- What an answer says: by which kind a design is refused, if by any, and else that it is the design.
use Rattle.std.specs.Prelude.{Option, Some, None, ⊤}
use Rattle.verilog_meaning.specs.Settled.{Design}
use Rattle.v_judged.specs.declared.kind.DesignKind.{DesignKind}
use Rattle.v_design.specs.Seen.{parts_of}
use Rattle.v_design.specs.Design.{IsDesignOf}
use Rattle.v_elab.specs.declared.source.Elaborated.{Elaborated}
use Rattle.v_elab.specs.declared.source.Elaborated.TheVariants as answers

abbrev pub refusal_of : Elaborated → Option DesignKind
refusal_of (answers.Design x) = None
refusal_of (answers.Refused k) = Some k

-- A design that is answered is that of the source.
abbrev pub IsElaboration : Design → Elaborated → Type 0
IsElaboration d (answers.Design x) = IsDesignOf d (parts_of x)
IsElaboration d (answers.Refused k) = ⊤
