-- What walks over the drivers of a module mark, when a bit is marked that depends on a marked one.
use Rattle.std.specs.Prelude.{◌≡◌, ◌⊎◌, ◌≤◌, ℕ, suc, ◌+◌, Bool, true, false, cond, List, [], ◌∷◌, Contains, IsTrue}
use Rattle.wb_values.specs.Value.{Name}
use Rattle.verilog_trees.specs.Syntax.{Statement, Item}
use Rattle.verilog_meaning.specs.Expression.{Scope}
use Rattle.verilog_meaning.specs.Register.{may_assign}
use Rattle.verilog_designs.specs.Reads.{BitSet}
use Rattle.verilog_designs.specs.Dependence.{Bit, is_in}
use Rattle.v_paths.specs.Premises.{HasNoMemory}
use Rattle.v_depend.specs.Resting.{IsThere}
use Rattle.v_loops.specs.Turns.{RestsBy, AreOf}
use Rattle.v_reach.specs.Coming.{ComesFrom}

-- the second set has all bits of the first
abbrev pub HasAll : (before after : BitSet) → Type 0
HasAll before after = (n : Name) (k b : ℕ) → before n k b ≡ true → after n k b ≡ true

-- Each marked bit comes from the roots.
abbrev pub AllCome : Scope → List Item → (roots marked : BitSet) → Type 0
AllCome s items roots p = (u : Bit) → IsThere s u → IsTrue (is_in p u) → ComesFrom s items roots u

-- Drivers were visited: no mark is lost, no bit of a memory is marked, and all marked bits come from where those before came from.
pub record IsSpread (s : Scope) (xs : List Statement) (before after : BitSet) : Type 0 where
  pub more : HasAll before after
  pub free : HasNoMemory s before → HasNoMemory s after
  pub come : (items : List Item) (roots : BitSet) → AreOf s items xs → HasNoMemory s before → AllCome s items roots before → AllCome s items roots after

-- ---- whether something is left to be marked

-- Each bit that rests on a marked one by one of the statements is marked.
abbrev pub IsClosed : (marked : BitSet) → Scope → List Statement → Type 0
IsClosed p s xs = (x : Statement) (u : Bit) → Contains xs x → RestsBy false p s x u → IsTrue (is_in p u)

-- A bit that one of the statements may assign is marked now, and was not before.
pub record IsMore (s : Scope) (xs : List Statement) (before after : BitSet) : Type 0 where
  pub driver : Statement
  pub stands : Contains xs driver
  pub bit : Bit
  pub there : IsThere s bit
  pub assigned : IsTrue (may_assign s driver bit.of_name bit.word bit.place)
  pub marked : IsTrue (is_in after bit)
  pub was_not : is_in before bit ≡ false

-- what an answer says: something was marked, or nothing was, and nothing is left
abbrev pub IsGrown : (some : Bool) → Scope → List Statement → (before after : BitSet) → Type 0
IsGrown true s xs before after = IsMore s xs before after
IsGrown false s xs before after = (after ≡ before) × IsClosed after s xs

-- One driver was visited.
pub record IsVisited (some : Bool) (s : Scope) (x : Statement) (before after : BitSet) : Type 0 where
  pub more : HasAll before after
  pub free : HasNoMemory s before → HasNoMemory s after
  pub rests : (u : Bit) → IsThere s u → IsTrue (is_in after u) → IsTrue (is_in before u) ⊎ RestsBy false before s x u
  pub grown : IsGrown some s (x ∷ []) before after

-- All drivers were visited.
pub record IsTurned (some : Bool) (s : Scope) (xs : List Statement) (before after : BitSet) : Type 0 where
  pub spread : IsSpread s xs before after
  pub grown : IsGrown some s xs before after

-- ---- how often something can be marked

-- The list has all bits that the statements may assign.
abbrev pub HasAllDriven : Scope → List Statement → List Bit → Type 0
HasAllDriven s xs us =
    (x : Statement) (u : Bit) → Contains xs x → IsThere s u → IsTrue (may_assign s x u.of_name u.word u.place) → Contains us u

-- how many of the bits are marked
abbrev pub marked_of : (marked : BitSet) → List Bit → ℕ
marked_of p [] = 0
marked_of p (u ∷ us) = cond (is_in p u) (suc (marked_of p us)) (marked_of p us)

-- at least so many more of the bits are marked, whatever list has them all
abbrev pub AreMoreBy : ℕ → Scope → List Statement → (before after : BitSet) → Type 0
AreMoreBy n s xs before after = (us : List Bit) → HasAllDriven s xs us → n + marked_of before us ≤ marked_of after us

-- what rounds lead to: nothing is left, or each marked a further bit
abbrev pub IsLaterMarked : (lasts : Bool) → Scope → List Statement → (before after : BitSet) → Type 0
IsLaterMarked true s xs before after = IsClosed after s xs
IsLaterMarked false s xs before after = AreMoreBy 128 s xs before after

pub record AreRounds (lasts : Bool) (s : Scope) (xs : List Statement) (before after : BitSet) : Type 0 where
  pub spread : IsSpread s xs before after
  pub later : IsLaterMarked lasts s xs before after
