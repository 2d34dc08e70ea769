-- The registers among names of a module, and which of their bits count.
use Rattle.std.specs.Prelude.{◌≡◌, ℕ, List, [], ◌∷◌, ◌++◌, length, slice_index, ◌⊎◌, IsTrue}
use Rattle.wb_values.specs.Value.{Name}
use Rattle.verilog_trees.specs.Syntax.{Statement}
use Rattle.verilog_meaning.specs.Expression.{Scope, is_memory}
use Rattle.verilog_meaning.specs.Register.{word_count, is_set, counts}
use Rattle.v_registers.specs.declared.registers.Register.{Register}

-- A clocked block may assign some bit of the name.
pub record HasCounted (s : Scope) (clocked : List Statement) (n : Name) : Type 0 where
  pub word : ℕ
  pub bit : ℕ
  pub counts : IsTrue (counts s clocked n word bit)

-- It may, or the name is that of a memory.
abbrev pub IsRegister : Scope → List Statement → Name → Type 0
IsRegister s clocked n = HasCounted s clocked n ⊎ IsTrue (is_memory (s n))

-- For each word of the name the bits that count.
pub record AreMasks (s : Scope) (clocked : List Statement) (n : Name) (masks : List ℕ) : Type 0 where
  pub each_word : length masks ≡ word_count (s n)
  pub counted : (k b : ℕ) → is_set (slice_index masks k) b ≡ counts s clocked n k b

-- a register with its masks
pub record Counted : Type 0 where
  pub of_name : Name
  pub masks : List ℕ

abbrev pub counted_of : Register → Counted
counted_of r = record { of_name = r.name.now; masks = r.masks.items }

-- The name is that of a register, and these are its masks.
pub record IsCounted (s : Scope) (clocked : List Statement) (n : Name) (c : Counted) : Type 0 where
  pub named : c.of_name ≡ n
  pub is_register : IsRegister s clocked n
  pub masks : AreMasks s clocked n c.masks

-- Those of the names that are registers, and those that are none, each in their order.
pub data AreSplit (s : Scope) (clocked : List Statement) : List Name → List Counted → List Name → Type 0 where
  end : AreSplit s clocked [] [] []
  register : (n : Name) (ns : List Name) (c : Counted) (cs : List Counted) (os : List Name) → IsCounted s clocked n c → AreSplit s clocked ns cs os
      → AreSplit s clocked (n ∷ ns) (c ∷ cs) os
  other : (n : Name) (ns : List Name) (cs : List Counted) (os : List Name) → ¬ IsRegister s clocked n → AreSplit s clocked ns cs os
      → AreSplit s clocked (n ∷ ns) cs (n ∷ os)

-- What stands after a name was looked at: one register more, if it is one, or one other name.
abbrev pub IsAdded : Scope → List Statement → Name → (old new : List Counted) → (others_old others_new : List Name) → Type 0
IsAdded s clocked n old new os_old os_new =
    ((c : Counted) × IsCounted s clocked n c × (new ≡ old ++ c ∷ []) × (os_new ≡ os_old))
    ⊎ ((¬ IsRegister s clocked n) × (new ≡ old) × (os_new ≡ os_old ++ n ∷ []))
