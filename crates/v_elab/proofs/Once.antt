-- Which names a module declares, each once, and which of them are registers.
use Rattle.std.proofs.Common.{◌≡◌, ◌∙◌, refl, ap, sym, subst, Bool, true, false, List, [], ◌∷◌, ◌⊎◌, inl, inr}
use Rattle.std.specs.Prelude.{IsTrue, ◌||◌}
use Rattle.std.proofs.lemmas.Bool.{false≢true}
use Rattle.wb_values.specs.Value.{Name, same_name}
use Rattle.verilog_trees.specs.Syntax.{Statement}
use Rattle.verilog_meaning.specs.Expression.{Scope}
use Rattle.verilog_meaning.specs.Hierarchy.{Declaration}
use Rattle.verilog_meaning.specs.Settled.{is_declared_among}
use Rattle.verilog_designs.specs.Names.{is_among}
use Rattle.verilog_unique.proofs.Options.{same_is, is_same}
use Rattle.verilog_unique.proofs.Descent.{IsAmong}
use Rattle.v_registers.specs.Registers.{IsRegister, Counted, IsCounted, AreSplit}
use Rattle.v_elab.specs.Elaborated.{names_in, register_names}

-- ---- names of a list

pub test_among : (ns : List Name) (n : Name) → IsAmong ns n → is_among ns n ≡ true
test_among [] n h = absurd h
test_among (m ∷ ns) n (inl e) = ap (λ t. t || is_among ns n) (ap (same_name m) (sym e) ∙ is_same m)
test_among (m ∷ ns) n (inr h) = by (same_name m n) (test_among ns n h)
  where
    by : (t : Bool) → is_among ns n ≡ true → (t || is_among ns n) ≡ true
    by true e = refl
    by false e = e

pub among_test : (ns : List Name) (n : Name) → is_among ns n ≡ true → IsAmong ns n
among_test [] n h = absurd (false≢true h)
among_test (m ∷ ns) n h = by (same_name m n) refl h (among_test ns n)
  where
    by : (t : Bool) → same_name m n ≡ t → (t || is_among ns n) ≡ true → (is_among ns n ≡ true → IsAmong ns n) → (m ≡ n) ⊎ IsAmong ns n
    by true e g f = inl (same_is m n e)
    by false e g f = inr (f g)

pub declared_among : (ds : List Declaration) (n : Name) → IsTrue (is_declared_among ds n) → IsAmong (names_in ds) n
declared_among [] n h = absurd (false≢true h)
declared_among (d ∷ ds) n h = by (same_name d.of_name n) refl h (declared_among ds n)
  where
    by : (t : Bool) → same_name d.of_name n ≡ t → IsTrue (t || is_declared_among ds n) → (IsTrue (is_declared_among ds n) → IsAmong (names_in ds) n)
        → (d.of_name ≡ n) ⊎ IsAmong (names_in ds) n
    by true e g f = inl (same_is d.of_name n e)
    by false e g f = inr (f g)

pub among_declared : (ds : List Declaration) (n : Name) → IsAmong (names_in ds) n → IsTrue (is_declared_among ds n)
among_declared [] n h = absurd h
among_declared (d ∷ ds) n (inl e) = ap (λ t. t || is_declared_among ds n) (ap (same_name d.of_name) (sym e) ∙ is_same d.of_name)
among_declared (d ∷ ds) n (inr h) = by (same_name d.of_name n) (among_declared ds n h)
  where
    by : (t : Bool) → IsTrue (is_declared_among ds n) → IsTrue (t || is_declared_among ds n)
    by true e = refl
    by false e = e

-- ---- registers and others

module _ (s : Scope) (q : List Statement) where
  pub told : (ns : List Name) (cs : List Counted) (os : List Name) (n : Name) → AreSplit s q ns cs os → IsAmong ns n → IsAmong (register_names cs) n ⊎ IsAmong os n
  told _ _ _ n AreSplit.end h = absurd h
  told _ _ _ n (AreSplit.register m ns c cs os is rest) (inl e) = inl (inl (is.named ∙ e))
  told _ _ _ n (AreSplit.register m ns c cs os is rest) (inr h) =
      elim (told ns cs os n rest h) as (λ _. IsAmong (register_names (c ∷ cs)) n ⊎ IsAmong os n) [ inl k ↦ inl (inr k) | inr k ↦ inr k ]
  told _ _ _ n (AreSplit.other m ns cs os is rest) (inl e) = inr (inl e)
  told _ _ _ n (AreSplit.other m ns cs os is rest) (inr h) =
      elim (told ns cs os n rest h) as (λ _. IsAmong (register_names cs) n ⊎ IsAmong (m ∷ os) n) [ inl k ↦ inl k | inr k ↦ inr (inr k) ]

  -- a register with its masks
  pub record Found (ns : List Name) (cs : List Counted) (n : Name) : Type 0 where
    pub counted : Counted
    pub among : IsAmong cs counted
    pub is : IsCounted s q n counted
    pub name : IsAmong ns n

  pub found : (ns : List Name) (cs : List Counted) (os : List Name) (n : Name) → AreSplit s q ns cs os → IsAmong (register_names cs) n → Found ns cs n
  found _ _ _ n AreSplit.end h = absurd h
  found _ _ _ n (AreSplit.register m ns c cs os is rest) (inl e) =
      let same : m ≡ n = sym is.named ∙ e in
      record { counted = c; among = inl refl; is = subst (λ k. IsCounted s q k c) same is; name = inl same }
  found _ _ _ n (AreSplit.register m ns c cs os is rest) (inr h) =
      let r = found ns cs os n rest h in
      record { counted = r.counted; among = inr r.among; is = r.is; name = inr r.name }
  found _ _ _ n (AreSplit.other m ns cs os is rest) h =
      let r = found ns cs os n rest h in
      record { counted = r.counted; among = r.among; is = r.is; name = inr r.name }

  pub from_other : (ns : List Name) (cs : List Counted) (os : List Name) (n : Name) → AreSplit s q ns cs os → IsAmong os n → IsAmong ns n × ¬ IsRegister s q n
  from_other _ _ _ n AreSplit.end h = absurd h
  from_other _ _ _ n (AreSplit.register m ns c cs os is rest) h = let r = from_other ns cs os n rest h in (inr r.0, r.1)
  from_other _ _ _ n (AreSplit.other m ns cs os is rest) (inl e) = (inl e, subst (λ k. ¬ IsRegister s q k) e is)
  from_other _ _ _ n (AreSplit.other m ns cs os is rest) (inr h) = let r = from_other ns cs os n rest h in (inr r.0, r.1)

  pub a_register : (ns : List Name) (cs : List Counted) (os : List Name) (n : Name) → AreSplit s q ns cs os → IsAmong ns n → IsRegister s q n → IsAmong (register_names cs) n
  a_register ns cs os n sp h r =
      elim (told ns cs os n sp h) as (λ _. IsAmong (register_names cs) n) [ inl k ↦ k | inr k ↦ absurd ((from_other ns cs os n sp k).1 r) ]

  pub counted_is : (ns : List Name) (cs : List Counted) (os : List Name) (k : Counted) → AreSplit s q ns cs os → IsAmong cs k → IsCounted s q k.of_name k
  counted_is _ _ _ k AreSplit.end h = absurd h
  counted_is _ _ _ k (AreSplit.register m ns c cs os is rest) (inl e) =
      subst (λ (z : Counted). IsCounted s q z.of_name z) e (subst (λ z. IsCounted s q z c) (sym is.named) is)
  counted_is _ _ _ k (AreSplit.register m ns c cs os is rest) (inr h) = counted_is ns cs os k rest h
  counted_is _ _ _ k (AreSplit.other m ns cs os is rest) h = counted_is ns cs os k rest h
