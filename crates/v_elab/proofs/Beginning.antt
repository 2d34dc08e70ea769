-- With sorted names, the tables that are filled are those at the start.
use Rattle.std.proofs.Common.{◌≡◌, ◌∙◌, ℕ, zero, suc, refl, ap, sym, subst, Bool, true, List, [], ◌∷◌, ◌++◌, length, drop, map, None}
use Rattle.wb_values.specs.Value.{Name}
use Rattle.verilog_trees.specs.Syntax.{Statement}
use Rattle.verilog_meaning.specs.Expression.{Scope}
use Rattle.wb_terms.specs.Graph.{Graph}
use Rattle.v_lower.specs.Lowered.{Images}
use Rattle.v_registers.specs.Registers.{IsRegister, Counted}
use Rattle.v_elab.specs.Names.{AreEntriesOf, AreDistinct, ArePlain, AreMasksOf, chosen}
use Rattle.v_elab.specs.Begun.{AreSorted, HasBegun}
use Rattle.v_elab.specs.Elaborated.{register_names}
use Rattle.v_elab.specs.Tables.{Row, AreEntered, register_rows, input_rows, other_rows}
use Rattle.v_elab.proofs.Choosing.{store_distinct, chosen_plain, left_plain, masks_of_registers}
use Rattle.v_elab.proofs.Starting.{AreRegistersOf, AreUncounted, registers_of_split, has_begun}

pub drop_mapped : {A B : Type 0} (f : A → B) (k : ℕ) (xs : List A) → map f (drop k xs) ≡ drop k (map f xs)
drop_mapped f zero xs = refl
drop_mapped f (suc k) [] = refl
drop_mapped f (suc k) (x ∷ xs) = drop_mapped f k xs

drop_names : (cs : List Counted) (ns : List Name) → drop (length cs) (register_names cs ++ ns) ≡ ns
drop_names [] ns = refl
drop_names (c ∷ cs) ns = drop_names cs ns

pub entered_names : (s : Scope) (rs : List Row) (a n : Images) (g : Graph) (b k : Images) (h : Graph) → AreEntered s rs a n g b k h → h.names ≡ g.names
entered_names s [] a n g b k h e = ap (λ (x : Graph). x.names) (sym e.2)
entered_names s (r ∷ rs) a n g b k h (c, l, i, one, rest) = entered_names s rs c l i b k h rest ∙ one.grows.names

pub same_rows : (s : Scope) (rs ts : List Row) → rs ≡ ts → (a n : Images) (g : Graph) (b k : Images) (h : Graph) → AreEntered s rs a n g b k h → AreEntered s ts a n g b k h
same_rows s rs ts e a n g b k h x = subst (λ us. AreEntered s us a n g b k h) e x

module _ (s : Scope) (q : List Statement) (f : Name → Bool) (ds : List Name) (cs : List Counted) (xs os : List Name) (x : AreSorted s q f ds cs xs os)
    (apart : (n : Name) → f n ≡ true → ¬ IsRegister s q n) where
  known : AreRegistersOf s q f cs × AreUncounted s q f x.all
  known = registers_of_split s q f apart ds cs x.all x.split

  pub are_distinct : AreDistinct ds → AreDistinct xs
  are_distinct h = subst AreDistinct (sym x.stored_are) (store_distinct s q f ds cs x.all x.split h)

  pub have_masks : AreMasksOf s cs
  have_masks = masks_of_registers s q f cs known.0

  pub inputs_at : (k : ℕ) → k ≡ length cs → drop k xs ≡ chosen f x.all
  inputs_at k e = ap (λ j. drop j xs) e ∙ ap (drop (length cs)) x.stored_are ∙ drop_names cs (chosen f x.all)

  pub inputs_plain : (k : ℕ) → k ≡ length cs → ArePlain s (drop k xs)
  inputs_plain k e = subst (ArePlain s) (sym (inputs_at k e)) (chosen_plain s q f x.all known.1)

  pub others_plain : ArePlain s os
  others_plain = subst (ArePlain s) (sym x.others_are) (left_plain s q f x.all known.1)

  module _ (g : Graph) (entries : AreEntriesOf s xs g.names) (a n : Images) (none : (m : Name) → a m ≡ None) (none_next : (m : Name) → n m ≡ None)
      (k : ℕ) (many : k ≡ length cs) where
    pub begins : (b1 k1 : Images) (h1 : Graph) (b2 k2 : Images) (h2 : Graph) (b3 k3 : Images) (h3 : Graph)
        → AreEntered s (register_rows 0 cs) a n g b1 k1 h1 → AreEntered s (input_rows k (drop k xs)) b1 k1 h1 b2 k2 h2
        → AreEntered s (other_rows os) b2 k2 h2 b3 k3 h3 → HasBegun s q f ds cs h3 b3 k3
    begins b1 k1 h1 b2 k2 h2 b3 k3 h3 e1 e2 e3 =
        let stored : AreEntriesOf s (register_names cs ++ chosen f x.all) g.names = subst (λ ns. AreEntriesOf s ns g.names) x.stored_are entries in
        let start =
        has_begun s q f ds cs x.all x.split apart g stored a n none none_next b1 k1 h1 b2 k2 h2 b3 k3 h3 e1
        (subst (λ j. AreEntered s (input_rows j (chosen f x.all)) b1 k1 h1 b2 k2 h2) many
        (subst (λ ns. AreEntered s (input_rows k ns) b1 k1 h1 b2 k2 h2) (inputs_at k many) e2))
        (subst (λ ns. AreEntered s (other_rows ns) b2 k2 h2 b3 k3 h3) x.others_are e3) in
        record {
          others = x.all;
          split = x.split;
          entries = subst (AreEntriesOf s (register_names cs ++ chosen f x.all)) (sym start.grows.names) stored;
          is_start = start.is_start;
          all_given = start.all_given;
          all_first = start.all_first;
        }
