-- Members that are added where they are new.
use Rattle.std.proofs.Common.{◌≡◌, ◌∙◌, ◌<◌, ◌≤◌, ◌+◌, ℕ, refl, ap, sym, subst, Bool, true, false, cond, List, [], ◌∷◌, ◌++◌, map, length, drop, get_or, Bor}
use Rattle.std.specs.Ordering.{nat_cmp}
use Rattle.std.specs.Cmp.Lexicographic.{slice_cmp}
use Rattle.std.specs.BTreeSet as sorted
use Rattle.std.specs.BTreeSet.{BTreeSet}
use Rattle.std.proofs.lemmas.List.{append_assoc, drop_more, at_drop_all}
use Rattle.std.proofs.lemmas.Slice.Eq.{bytes_eq-Decides}
use Rattle.std.proofs.lemmas.Map.Text.{is_eq-slice_cmp}
use Rattle.std.proofs.lemmas.Bool.{false≢true}
use Rattle.wb_values.specs.Value.{Name, same_name}
use Rattle.verilog_registers.specs.Order.{Member, net, instance, same_member, others, each_once}
use Rattle.v_hier.specs.Tables.{has_name}
use Rattle.v_ordered.specs.declared.members.Members.{Members}
use Rattle.v_ordered.specs.Membership.{member_of, port_nets, is_seen, unseen, with_new, Adds}

-- ---- members that stand first, told from those before by a test

same_is : (x y : Member) → same_member x y ≡ true → x ≡ y
same_is (net m) (net n) e = ap net ((bytes_eq-Decides m n).0 e)
same_is (net m) (instance n) e = absurd (false≢true e)
same_is (instance m) (net n) e = absurd (false≢true e)
same_is (instance m) (instance n) e = ap instance ((bytes_eq-Decides m n).0 e)

chosen : {A : Type 0} (b c : Bool) (x y : A) → b ≡ c → cond b x y ≡ cond c x y
chosen b c x y e = ap (λ t. cond t x y) e

-- those equal to x are seen
seen : (f : Member → Bool) (x : Member) → f x ≡ true → (ys : List Member) → unseen f (others x ys) ≡ unseen f ys
seen f x h [] = refl
seen f x h (y ∷ ys) = by (same_member x y) refl (seen f x h ys)
  where
    by : (t : Bool) → same_member x y ≡ t → unseen f (others x ys) ≡ unseen f ys
        → unseen f (cond t (others x ys) (y ∷ others x ys)) ≡ cond (f y) (unseen f ys) (y ∷ unseen f ys)
    by true e i = i ∙ sym (chosen (f y) true (unseen f ys) (y ∷ unseen f ys) (subst (λ q. f q ≡ true) (same_is x y e) h))
    by false e i = ap (λ zs. cond (f y) zs (y ∷ zs)) i

-- a test that x passes besides
abbrev pub IsMore : (Member → Bool) → Member → (Member → Bool) → Type 0
IsMore f x g = (y : Member) → g y ≡ cond (same_member x y) true (f y)

fresh : (f : Member → Bool) (x : Member) (g : Member → Bool) → IsMore f x g → (ys : List Member) → unseen f (others x ys) ≡ unseen g ys
fresh f x g h [] = refl
fresh f x g h (y ∷ ys) = by (same_member x y) refl (fresh f x g h ys)
  where
    by : (t : Bool) → same_member x y ≡ t → unseen f (others x ys) ≡ unseen g ys
        → unseen f (cond t (others x ys) (y ∷ others x ys)) ≡ cond (g y) (unseen g ys) (y ∷ unseen g ys)
    by true e i = i ∙ sym (chosen (g y) true (unseen g ys) (y ∷ unseen g ys) (h y ∙ ap (λ t. cond t true (f y)) e))
    by false e i =
        ap (λ zs. cond (f y) zs (y ∷ zs)) i
        ∙ chosen (f y) (g y) (unseen g ys) (y ∷ unseen g ys) (sym (h y ∙ ap (λ t. cond t true (f y)) e))

module _ (ms : Members) where
  abbrev f : Member → Bool
  f = is_seen (has_name ms.nets) (has_name ms.instances)

  -- a member that is there already
  pub old_one : (x : Member) → f x ≡ true → Adds ms (x ∷ []) ms
  old_one x h rest =
      ap (λ ys. map member_of ms.list.items ++ ys)
      (chosen (f x) true (unseen f (others x (each_once rest))) (x ∷ unseen f (others x (each_once rest))) h ∙ seen f x h (each_once rest))

  module _ (after : Members) where
    abbrev g : Member → Bool
    g = is_seen (has_name after.nets) (has_name after.instances)

    -- a new one
    pub new_one : (x : Member) → f x ≡ false → IsMore f x g → map member_of after.list.items ≡ map member_of ms.list.items ++ x ∷ [] → Adds ms (x ∷ []) after
    new_one x h more e rest =
        ap (λ ys. map member_of ms.list.items ++ ys)
        (chosen (f x) false (unseen f (others x (each_once rest))) (x ∷ unseen f (others x (each_once rest))) h
        ∙ ap (λ ys. x ∷ ys) (fresh f x g more (each_once rest)))
        ∙ sym (append_assoc (map member_of ms.list.items) (x ∷ []) (unseen g (each_once rest)))
        ∙ ap (λ ys. ys ++ unseen g (each_once rest)) (sym e)

-- a set with one name more
pub has_more : (s n : BTreeSet (Bor (List ℕ))) (k : Bor (List ℕ)) → sorted.Updates (λ x y. slice_cmp nat_cmp x.now y.now) s n k true → (q : Name)
    → has_name n q ≡ cond (same_name k.now q) true (has_name s q)
has_more s n k u q =
    let at_q : Bor (List ℕ) = record { ref_ptr = (0, 0); now = q } in
    u.0 at_q ∙ ap (λ t. cond t true (has_name s q)) (is_eq-slice_cmp k.now q)

pub more_nets : (nets new instances : BTreeSet (Bor (List ℕ))) (k : Bor (List ℕ)) → sorted.Updates (λ x y. slice_cmp nat_cmp x.now y.now) nets new k true
    → IsMore (is_seen (has_name nets) (has_name instances)) (net k.now) (is_seen (has_name new) (has_name instances))
more_nets nets new instances k u (net n) = has_more nets new k u n
more_nets nets new instances k u (instance n) = refl

pub more_instances : (nets instances new : BTreeSet (Bor (List ℕ))) (k : Bor (List ℕ)) → sorted.Updates (λ x y. slice_cmp nat_cmp x.now y.now) instances new k true
    → IsMore (is_seen (has_name nets) (has_name instances)) (instance k.now) (is_seen (has_name nets) (has_name new))
more_instances nets instances new k u (net n) = refl
more_instances nets instances new k u (instance n) = has_more instances new k u n

-- ---- parts one after the other

pub no_more : (ms : Members) → Adds ms [] ms
no_more ms rest = refl

pub then : (a b c : Members) (xs ys : List Member) → Adds a xs b → Adds b ys c → Adds a (xs ++ ys) c
then a b c xs ys h k rest = ap (with_new a) (append_assoc xs ys rest) ∙ h (ys ++ rest) ∙ k rest

module _ {A : Type 0} (piece : A → List Member) (all : List A → List Member) (more : (x : A) (xs : List A) → all (x ∷ xs) ≡ piece x ++ all xs) where
  pub turn : (xs : List A) (i : ℕ) (d : A) (a now new : Members) → i < length xs
      → ((rest : List Member) → with_new a (all xs ++ rest) ≡ with_new now (all (drop i xs) ++ rest)) → Adds now (piece (get_or xs i d)) new
      → (rest : List Member) → with_new a (all xs ++ rest) ≡ with_new new (all (drop (i + 1) xs) ++ rest)
  turn xs i d a now new lt h p rest =
      h rest ∙ ap (λ ys. with_new now (all ys ++ rest)) (drop_more xs i d lt) ∙ ap (λ zs. with_new now (zs ++ rest)) (more (get_or xs i d) (drop (i + 1) xs))
      ∙ ap (with_new now) (append_assoc (piece (get_or xs i d)) (all (drop (i + 1) xs)) rest) ∙ p (all (drop (i + 1) xs) ++ rest)

  pub end : all [] ≡ [] → (xs : List A) (i : ℕ) (a now : Members) → length xs ≤ i
      → ((rest : List Member) → with_new a (all xs ++ rest) ≡ with_new now (all (drop i xs) ++ rest)) → Adds a (all xs) now
  end none xs i a now le h rest =
      h rest ∙ at_drop_all (λ ys. with_new now (all ys ++ rest)) xs i le ∙ ap (λ zs. with_new now (zs ++ rest)) none

pub ports_more : (is_variable : Name → Bool) (n : Name) (ns : List Name) → port_nets is_variable (n ∷ ns) ≡ port_nets is_variable (n ∷ []) ++ port_nets is_variable ns
ports_more is_variable n ns = by (is_variable n)
  where
    by : (t : Bool) → cond t (port_nets is_variable ns) (net n ∷ port_nets is_variable ns) ≡ cond t [] (net n ∷ []) ++ port_nets is_variable ns
    by true = refl
    by false = refl
