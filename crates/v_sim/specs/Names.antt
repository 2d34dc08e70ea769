-- What a script may set of a design, by its parts.
use Rattle.std.specs.Prelude.{ℕ, ◌^◌, ◌==◌, ◌&&◌, nat_lt, List, [], ◌∷◌, map, length, slice_index, None, unwrap_or, bit_and}
use Rattle.wb_values.specs.Value.{Name, Sort, truth, word, memory, Entries}
use Rattle.scripts.specs.Script.{Settable, Settables}
use Rattle.v_design.specs.Registers.{CountedBits}
use Rattle.v_design.specs.Parts.{Parts, registers_of, inputs_of}
use Rattle.ila_sim.specs.declared.names.Kind.{Kind}
use Rattle.ila_sim.specs.declared.names.Kind.TheVariants.{Truth, Word, Memory}
use Rattle.ila_sim.specs.Kinds.{addresses_of, fits_of}

-- the bits of a word; an input has no other sort
abbrev pub word_width : Sort → ℕ
word_width (word w) = w
word_width _ = 1

abbrev pub kind_of : Sort → CountedBits → Kind
kind_of truth c = Truth
kind_of (word w) c = Word w
kind_of (memory a w) c = Memory (unwrap_or c.least 0) (length c.masks) w

-- a name of this kind whose words may have these bits
abbrev pub masked_settable : Name → Kind → List ℕ → Settable
masked_settable n kind masks = record {
  called = n;
  addresses = addresses_of kind;
  fits = λ k x. fits_of kind k x && (bit_and x (slice_index masks k) == x);
}

abbrev pub register_settable : Name → Sort → CountedBits → Settable
register_settable n s c = masked_settable n (kind_of s c) c.masks

abbrev pub register_settables : Entries Sort → List CountedBits → List Settable
register_settables [] cs = []
register_settables (n ∷ ns) [] = []
register_settables (n ∷ ns) (c ∷ cs) = register_settable n.0 n.1 c ∷ register_settables ns cs

abbrev pub input_settable : Name → Sort → Settable
input_settable n s = record { called = n; addresses = None; fits = λ k x. nat_lt x (2 ^ word_width s) }

abbrev pub input_settables : Entries Sort → List Settable
input_settables = map (λ n. input_settable n.0 n.1)

abbrev pub names_by : Parts → Settables
names_by e = record { states = register_settables (registers_of e) e.bits; inputs = input_settables (inputs_of e) }
