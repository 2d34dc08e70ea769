-- Places in a model file, and the texts that lead to them.
use Rattle.std.specs.Prelude.{ℕ, List, [], ◌∷◌, ◌++◌, Option, Some, None, codes, decimal}
use Rattle.wb_values.specs.Value.{Name}

-- The way to a machine: the numbers, from 0, of the instructions through whose children it leads, the outermost first.
abbrev pub Way : Type 0
Way = List ℕ

-- A spot of a machine's object: what stands under a key, or an item of the list there by its number and its name; and in the
-- item's object a part, by its key, and a member of that.
pub record Spot : Type 0 where
  pub key : Name
  pub index : Option ℕ
  pub name : Option Name
  pub part : Option Name
  pub member : Option Name

-- a place of a file: the way to a machine, and a spot there
pub record Site : Type 0 where
  pub way : Way
  pub spot : Spot

abbrev pub site_at : Way → Spot → Site
site_at w s = record { way = w; spot = s }

-- the way to the machine of the child of an instruction
abbrev pub into : Way → (instruction : ℕ) → Way
into way k = way ++ k ∷ []

-- ---- spots

abbrev pub key_spot : Name → Spot
key_spot k = record { key = k; index = None; name = None; part = None; member = None }

abbrev pub item_spot : (key : Name) → (index : ℕ) → (called : Option Name) → Spot
item_spot k i n = record { key = k; index = Some i; name = n; part = None; member = None }

abbrev pub part_spot : Spot → Name → Spot
part_spot s p = record { key = s.key; index = s.index; name = s.name; part = Some p; member = s.member }

abbrev pub member_spot : Spot → Name → Spot
member_spot s m = record { key = s.key; index = s.index; name = s.name; part = s.part; member = Some m }

abbrev pub instruction_spot : (index : ℕ) → (called : Name) → Spot
instruction_spot k n = item_spot (codes "instructions") k (Some n)

-- an update of an instruction, by its state
abbrev pub update_spot : (index : ℕ) → (called state : Name) → Spot
update_spot k n state = member_spot (part_spot (instruction_spot k n) (codes "update")) state

-- ---- texts

-- an item of the list under a key, as `states[0]`
abbrev pub item_text : (key : List ℕ) → (index : ℕ) → List ℕ
item_text key index = key ++ (codes "[" ++ (decimal index ++ codes "]"))

-- the key, or an item of the list under it
abbrev pub head_text : (key : List ℕ) → (index : Option ℕ) → List ℕ
head_text key None = key
head_text key (Some index) = item_text key index

-- a mark and a word after it, where there is a word
abbrev pub after_mark : (mark : List ℕ) → Option (List ℕ) → List ℕ
after_mark mark None = []
after_mark mark (Some word) = mark ++ word

-- the children of these instructions, one within the other, as `instructions[1].child.`
abbrev pub way_text : Way → List ℕ
way_text [] = []
way_text (k ∷ ks) = item_text (codes "instructions") k ++ (codes ".child." ++ way_text ks)

-- a spot of a machine, as `instructions[1] ADD: update q`
abbrev pub spot_text : Spot → List ℕ
spot_text s = head_text s.key s.index ++ (after_mark (codes " ") s.name ++ (after_mark (codes ": ") s.part ++ after_mark (codes " ") s.member))

-- a place, as `instructions[1].child.states[0] i: init`
abbrev pub site_text : Site → List ℕ
site_text s = way_text s.way ++ spot_text s.spot
