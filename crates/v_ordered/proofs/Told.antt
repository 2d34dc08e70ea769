-- The stack of what is left to be told: what is put on it, and what is taken from it.
use Rattle.std.proofs.Common.{◌≡◌, ◌∙◌, ◌<◌, ℕ, suc, ap, sym, arith, List, [], ◌∷◌, ◌++◌, map, length, Option, Some, Bor}
use Rattle.std.proofs.lemmas.List.{append_assoc, append-nil, map-append}
use Rattle.wb_values.specs.Value.{Name}
use Rattle.verilog_registers.specs.Order.{Member, net, instance}
use Rattle.v_ordered.specs.declared.member.Member as code
use Rattle.v_ordered.specs.declared.task.Task.{Task}
use Rattle.v_ordered.specs.declared.task.Task.TheVariants as tasks
use Rattle.v_ordered.specs.Membership.{member_of}
use Rattle.v_ordered.specs.Lines.{list_at, one_name, line}
use Rattle.v_ordered.specs.Tables.{seen}
use Rattle.v_ordered.specs.Left.{told_by, names_left}
use Rattle.v_ordered.proofs.Lined.{line_append}

-- ---- one more on top

module _ (lists : ℕ → List Name) where
  pub on_top : (ts : List Task) (t : Task) → names_left lists (ts ++ t ∷ []) ≡ told_by lists t ++ names_left lists ts
  on_top [] t = sym (append-nil (told_by lists t))
  on_top (x ∷ ts) t = ap (λ ns. ns ++ told_by lists x) (on_top ts t) ∙ append_assoc (told_by lists t) (names_left lists ts) (told_by lists x)

  -- ---- members that are put on it

  module _ (f : Name → Option Name) (child : Name → Option ℕ) where
    pub net_put : (old new : List Task) (x : Member) (n : Name) (t : Bor (List ℕ)) → x ≡ net n → new ≡ old ++ tasks.Name t ∷ [] → f n ≡ Some t.now
        → names_left lists new ≡ line f child lists (x ∷ []) ++ names_left lists old
    net_put old new x n t same e is =
        ap (names_left lists) e ∙ on_top old (tasks.Name t) ∙ ap (λ o. (one_name o ++ []) ++ names_left lists old) (sym is)
        ∙ ap (λ y. line f child lists (y ∷ []) ++ names_left lists old) (sym same)

    pub instance_put : (old new : List Task) (x : Member) (u : Name) (c : ℕ) → x ≡ instance u → new ≡ old ++ tasks.Place c ∷ [] → child u ≡ Some c
        → names_left lists new ≡ line f child lists (x ∷ []) ++ names_left lists old
    instance_put old new x u c same e is =
        ap (names_left lists) e ∙ on_top old (tasks.Place c) ∙ ap (λ ns. ns ++ names_left lists old) (sym (append-nil (lists c)))
        ∙ ap (λ o. (list_at lists o ++ []) ++ names_left lists old) (sym is) ∙ ap (λ y. line f child lists (y ∷ []) ++ names_left lists old) (sym same)

    -- the last of those that are left is put there
    pub one_put : (ms rest : List code.Member) (m : code.Member) (left more whole : List Name) → ms ≡ rest ++ m ∷ []
        → more ≡ line f child lists (member_of m ∷ []) ++ left → line f child lists (map member_of ms) ++ left ≡ whole
        → line f child lists (map member_of rest) ++ more ≡ whole
    one_put ms rest m left more whole e g h =
        ap (λ ns. line f child lists (map member_of rest) ++ ns) g
        ∙ sym (append_assoc (line f child lists (map member_of rest)) (line f child lists (member_of m ∷ [])) left)
        ∙ ap (λ ns. ns ++ left)
        (sym (line_append f child lists (map member_of rest) (member_of m ∷ [])) ∙ ap (line f child lists) (sym (map-append member_of rest (m ∷ []))))
        ∙ ap (λ xs. line f child lists (map member_of xs) ++ left) (sym e) ∙ h

    pub all_put : (ms : List code.Member) (left whole : List Name) → length ms ≡ 0 → line f child lists (map member_of ms) ++ left ≡ whole → left ≡ whole
    all_put [] left whole l h = h
    all_put (m ∷ ms) left whole l h = absurd (omega (arith, l))

  -- ---- what is taken from it

  -- a name is told
  pub name_told : (ts rest : List Task) (n : Bor (List ℕ)) (out more : List (Bor (List ℕ))) (whole : List Name) → ts ≡ rest ++ tasks.Name n ∷ [] → more ≡ out ++ n ∷ []
      → seen out ++ names_left lists ts ≡ whole → seen more ++ names_left lists rest ≡ whole
  name_told ts rest n out more whole e g h =
      ap (λ ns. seen ns ++ names_left lists rest) g ∙ ap (λ ns. ns ++ names_left lists rest) (map-append (λ m. m.now) out (n ∷ []))
      ∙ append_assoc (seen out) (n.now ∷ []) (names_left lists rest) ∙ ap (λ ns. seen out ++ ns) (sym (on_top rest (tasks.Name n)))
      ∙ ap (λ xs. seen out ++ names_left lists xs) (sym e) ∙ h

  pub name_fewer : (ts rest : List Task) (n : Bor (List ℕ)) → ts ≡ rest ++ tasks.Name n ∷ [] → length (names_left lists rest) < length (names_left lists ts)
  name_fewer ts rest n e =
      let many : length (names_left lists ts) ≡ suc (length (names_left lists rest)) = ap (λ xs. length (names_left lists xs)) e ∙ ap length (on_top rest (tasks.Name n)) in
      omega (arith, many)

  -- what a place has is put there
  module _ (ts rest new : List Task) (k : ℕ) (below : List Name) (e : ts ≡ rest ++ tasks.Place k ∷ [])
      (g : names_left lists new ≡ below ++ names_left lists rest) where
    pub place_put : (out whole : List Name) → lists k ≡ below → out ++ names_left lists ts ≡ whole → out ++ names_left lists new ≡ whole
    place_put out whole is h =
        ap (λ ns. out ++ ns) (g ∙ ap (λ ns. ns ++ names_left lists rest) (sym is) ∙ sym (on_top rest (tasks.Place k)) ∙ ap (names_left lists) (sym e)) ∙ h

    pub place_fewer : lists k ≡ [] ∷ below → length (names_left lists new) < length (names_left lists ts)
    place_fewer is =
        let many : length (names_left lists ts) ≡ suc (length (below ++ names_left lists rest)) =
        ap (λ xs. length (names_left lists xs)) e ∙ ap length (on_top rest (tasks.Place k)) ∙ ap (λ ns. length (ns ++ names_left lists rest)) is in
        let same : length (names_left lists new) ≡ length (below ++ names_left lists rest) = ap length g in
        omega (arith, many, same)

  pub all_told : (ts : List Task) (out whole : List Name) → length ts ≡ 0 → out ++ names_left lists ts ≡ whole → out ≡ whole
  all_told [] out whole l h = sym (append-nil out) ∙ h
  all_told (t ∷ ts) out whole l h = absurd (omega (arith, l))
