-- The laws of what values depend on, for all valuations and all names that a test knows.
use Rattle.std.specs.Prelude.{Bool, IsTrue}
use Rattle.wb_values.specs.Value.{Name, Valuation}
use Rattle.verilog_meaning.specs.Expression.{Scope}
use Rattle.verilog_settled.specs.Locality.{ValueIsLocalAt, SelfValueIsLocalAt, AssignedValueIsLocalAt, CopiedBitIsLocalAt, CopiedBitIsThereAt, WrittenBitIsLocalAt, AssignedBitIsLocalAt, RunBitIsLocalAt, BlockBitIsLocalAt}

abbrev pub ValuesAreLocal : Type 0
ValuesAreLocal = (s : Scope) (v w : Valuation) (is_known : Name → Bool) → ValueIsLocalAt s v w (λ n. IsTrue (is_known n))

abbrev pub SelfValuesAreLocal : Type 0
SelfValuesAreLocal = (s : Scope) (v w : Valuation) (is_known : Name → Bool) → SelfValueIsLocalAt s v w (λ n. IsTrue (is_known n))

abbrev pub AssignedValuesAreLocal : Type 0
AssignedValuesAreLocal = (s : Scope) (v w : Valuation) (is_known : Name → Bool) → AssignedValueIsLocalAt s v w (λ n. IsTrue (is_known n))

abbrev pub CopiedBitsAreLocal : Type 0
CopiedBitsAreLocal = (s : Scope) (v w : Valuation) (is_known : Name → Bool) → CopiedBitIsLocalAt s v w (λ n. IsTrue (is_known n))

abbrev pub CopiedBitsAreThere : Type 0
CopiedBitsAreThere = (s : Scope) (v : Valuation) (is_known : Name → Bool) → CopiedBitIsThereAt s v (λ n. IsTrue (is_known n))

abbrev pub WrittenBitsAreLocal : Type 0
WrittenBitsAreLocal = (s : Scope) (v w : Valuation) (is_known : Name → Bool) → WrittenBitIsLocalAt s v w (λ n. IsTrue (is_known n))

abbrev pub AssignedBitsAreLocal : Type 0
AssignedBitsAreLocal = (around inner : Scope) (v w inner_v inner_w : Valuation) (is_known : Name → Bool) → AssignedBitIsLocalAt around inner v w inner_v inner_w (λ n. IsTrue (is_known n))

abbrev pub RunBitsAreLocal : Type 0
RunBitsAreLocal = (s : Scope) (v w : Valuation) (is_known : Name → Bool) → RunBitIsLocalAt s v w (λ n. IsTrue (is_known n))

abbrev pub BlockBitsAreLocal : Type 0
BlockBitsAreLocal = (s : Scope) (v w : Valuation) (is_known : Name → Bool) → BlockBitIsLocalAt s v w (λ n. IsTrue (is_known n))
