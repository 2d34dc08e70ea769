-- The laws, for any two scopes and valuations of which the one has the new names.
use Rattle.std.proofs.Common.{◌≡◌, Bool, true, false, refl, ap, ◌∙◌, subst}
use Rattle.wb_values.specs.Value.{Name, Valuation}
use Rattle.verilog_meaning.specs.Expression.{Scope, sign_of, width_of, value_of, self_value, integer_of, is_true, assigned_value}
use Rattle.verilog_meaning.specs.Statement.{places, target_width, written, run, with_updates}
use Rattle.verilog_meaning.specs.Register.{after_edge}
use Rattle.verilog_settled.specs.Locality.{has_constant_selects}
use Rattle.verilog_designs.specs.Reads.{no_bits}
use Rattle.verilog_designs.specs.Dependence.{Bit, IsGivenBy, at_start, After}
use Rattle.verilog_renamed.specs.Renamed.{renamed_bit, renamed_statement, renamed_blocks, renamed_places, renamed_updates}
use Rattle.verilog_renamed.specs.Laws.{AreRenamed, IsOneToOne, ExpressionsMeanTheSame, TargetsNameTheSame, ChangesTheSame, WritesChangeTheSame, UpdatesChangeTheSame, DoesTheSame, RunsDoTheSame, EdgesChangeTheSame, ConstantsAreTheSame, OtherNamesHaveNoBits, MayAssignTheSame, AssignedBitsAreTheSame, HoldsTheSame, EquationsHoldTheSame, TargetsAreRenamed, ConstantTargetsAreTheSame, IsConstantTheSame, PartsMeanTheSame, PartsDoMeanTheSame, ReadsTheSame, ReadBitsAreTheSame, SurelyAssignsTheSame, SurelyAssignedBitsAreTheSame, IsGivenByTheSame, GivenBitsAreTheSame, DependsOnTheSame, DependencesAreTheSame}
use Rattle.verilog_renamed.proofs.Paths.{ap2, through}
use Rattle.verilog_renamed.proofs.Expressions.{Same, same, same_parts, same_select, same_selects, self, integer, condition, assigned}
use Rattle.verilog_renamed.proofs.Statements.{SameEffect, same_places, same_target_width, same_written, same_updated, written_keeps, updated_keeps, same_run}
use Rattle.verilog_renamed.proofs.Registers.{same_constant, same_selects_constant, same_may_mean, same_reach, same_reach_any, same_assign, same_assign_any, same_counts, same_edge, edge_keeps}
use Rattle.verilog_renamed.proofs.Settled.{has_same, has_same_assigned, has_same_run, has_same_runs, same_as_target, same_constant_selects}
use Rattle.verilog_renamed.proofs.ReadBits.{same_reads, same_target_reads, same_items_read, same_surely, same_surely_assigns, same_default, same_full, same_reads_after}
use Rattle.verilog_renamed.proofs.Dependence.{one_bit, HasOld, given_there, given_back, given_new, given_from, after_there, after_back, after_new}

-- two functions of names that say the same
pub seen : {A : Type 0} (f : Name → Name) (old new : Name → A) → AreRenamed f old new → through f new ≡ old
seen f old new h = λ i n. h n i

pub expressions_mean_the_same : ExpressionsMeanTheSame
expressions_mean_the_same f s t v w e a b =
    let h : Same f t e = same f t e in
    let p : through f t ≡ s = seen f s t a in
    let q : through f w ≡ v = seen f v w b in
    record {
      sign = h.sign ∙ ap (λ r. sign_of r e) p;
      width = h.width ∙ ap (λ r. width_of r e) p;
      value = λ m g. h.value w m g ∙ ap2 (λ r u. value_of r u e m g) p q;
      self = self f t e w h ∙ ap2 (λ r u. self_value r u e) p q;
      integer = integer f t e w h ∙ ap2 (λ r u. integer_of r u e) p q;
      condition = condition f t e w ∙ ap2 (λ r u. is_true r u e) p q;
      assigned = λ m. assigned f t e w m ∙ ap2 (λ r u. assigned_value r u m e) p q;
    }

-- What holds of the scope and the valuation that are seen through f holds of those that say the same.
moved : (f : Name → Name) (s t : Scope) (v w : Valuation) (P : Scope → Valuation → Type 0) → AreRenamed f s t → AreRenamed f v w
    → P (through f t) (through f w) → P s v
moved f s t v w P a b h = subst (λ r. P r v) (seen f s t a) (subst (P (through f t)) (seen f v w b) h)

moved_scope : (f : Name → Name) (s t : Scope) (P : Scope → Type 0) → AreRenamed f s t → P (through f t) → P s
moved_scope f s t P a h = subst P (seen f s t a) h

pub targets_name_the_same : TargetsNameTheSame
targets_name_the_same f s t v w x a b =
    record {
      width = same_target_width f t x ∙ ap (λ r. target_width r x) (seen f s t a);
      places = same_places f t w x ∙ ap2 (λ r u. renamed_places f (places r u x)) (seen f s t a) (seen f v w b);
    }

pub writes_change_the_same : WritesChangeTheSame
writes_change_the_same f s t v w ps x apart a b =
    moved f s t v w (λ r u. ChangesTheSame f w (written r u ps x) (written t w (renamed_places f ps) x)) a b
    (record { valuation = λ n i. same_written f apart t w ps x i n; others = written_keeps f t w ps x })

pub updates_change_the_same : UpdatesChangeTheSame
updates_change_the_same f s t v w us apart a b =
    moved f s t v w (λ r u. ChangesTheSame f w (with_updates r u us) (with_updates t w (renamed_updates f us))) a b
    (record { valuation = λ n i. same_updated f apart t w us i n; others = updated_keeps f t w us })

pub runs_do_the_same : RunsDoTheSame
runs_do_the_same f s t v w x apart a b =
    let h : SameEffect f w (run t (renamed_statement f x) w) (run (through f t) x (through f w)) = same_run f apart t x w in
    moved f s t v w (λ r u. DoesTheSame f w (run r x u) (run t (renamed_statement f x) w)) a b
    (record { changes = record { valuation = λ n i. h.valuation i n; others = h.kept }; updates = h.updates })

pub edges_change_the_same : EdgesChangeTheSame
edges_change_the_same f s t v w xs apart a b =
    moved f s t v w (λ r u. ChangesTheSame f w (after_edge r xs u) (after_edge t (renamed_blocks f xs) w)) a b
    (record { valuation = λ n i. same_edge f apart t w xs i n; others = edge_keeps f apart t w xs })

pub constants_are_the_same : ConstantsAreTheSame
constants_are_the_same f s t a =
    moved_scope f s t (λ r. IsConstantTheSame f r t) a
    (record { expression = same_constant f t; selects = same_selects_constant f t; may_mean = same_may_mean f t })

pub assigned_bits_are_the_same : AssignedBitsAreTheSame
assigned_bits_are_the_same f s t apart a =
    moved_scope f s t (λ r. MayAssignTheSame f r t) a
    (record {
      targets = same_reach f apart t;
      assignments = same_reach_any f apart t;
      statements = same_assign f apart t;
      blocks = same_assign_any f apart t;
      registers = same_counts f apart t;
    })

pub other_names_have_no_bits : OtherNamesHaveNoBits
other_names_have_no_bits f old new n k b h other = by_test (new n k b) refl
  where
    by_test : (c : Bool) → new n k b ≡ c → c ≡ false
    by_test true e = absurd (other (h.only n k b e))
    by_test false e = refl

pub equations_hold_the_same : EquationsHoldTheSame
equations_hold_the_same f s t v w apart a b =
    moved f s t v w (λ r u. HoldsTheSame f r t u w) a b
    (record {
      targets = has_same f apart t w;
      assignments = has_same_assigned f apart t w;
      runs = has_same_run f apart t w;
      blocks = has_same_runs f apart t w;
    })

pub targets_are_renamed : TargetsAreRenamed
targets_are_renamed = same_as_target

pub constant_targets_are_the_same : ConstantTargetsAreTheSame
constant_targets_are_the_same f s t x a = same_constant_selects f t x ∙ ap (λ r. has_constant_selects r x) (seen f s t a)

pub parts_mean_the_same : PartsDoMeanTheSame
parts_mean_the_same f s t v w a b =
    moved f s t v w (λ r u. PartsMeanTheSame f r t u w) a b
    (record {
      widths = λ es. (same_parts f t es).widths;
      joined = λ es. (same_parts f t es).joined w;
      index = λ x. (same_select f t x).place w;
      bits = λ o x. (same_select f t x).bits w o;
      selects_sign = λ o x. (same_selects f t x).sign o;
      selects_width = λ o x. (same_selects f t x).width o;
      selected = λ o y x. (same_selects f t x).value w o y;
    })

pub read_bits_are_the_same : ReadBitsAreTheSame
read_bits_are_the_same f s t apart a =
    moved_scope f s t (λ r. ReadsTheSame f r t) a
    (record {
      expressions = same_reads f apart t;
      targets = same_target_reads f apart t;
      items = same_items_read f apart t;
      statements = same_reads_after f apart t;
      outside = λ x. same_reads_after f apart t x no_bits no_bits (λ n k b. refl);
    })

pub surely_assigned_bits_are_the_same : SurelyAssignedBitsAreTheSame
surely_assigned_bits_are_the_same f s t apart a =
    moved_scope f s t (λ r. SurelyAssignsTheSame f r t) a
    (record {
      targets = same_surely f apart t;
      statements = same_surely_assigns f apart t;
      defaults = same_default f t;
      full = same_full f t;
    })

-- the same of the old bit that a new bit has, since there is one alone
found_again : (f : Name → Name) (P : Bit → Type 0) (y : Bit) → IsOneToOne f → HasOld f P (renamed_bit f y) → P y
found_again f P y apart h = subst P (one_bit f apart h.old y h.is_new) h.is_so

pub given_bits_are_the_same : GivenBitsAreTheSame
given_bits_are_the_same f g around new_around inner new_inner x e apart inner_apart a b =
    moved_scope f around new_around (λ r. IsGivenByTheSame f g r new_around inner new_inner x e) a
    (moved_scope g inner new_inner (λ r. IsGivenByTheSame f g (through f new_around) new_around r new_inner x e) b
    (record {
      same = λ u y. (
        λ h. found_again g (IsGivenBy (through f new_around) x (through g new_inner) e u) y inner_apart
            (given_back f g apart inner_apart new_around new_inner x e u (renamed_bit g y) h),
        given_there f g apart inner_apart new_around new_inner x e u y,
      );
      only = λ u y h. (given_new f g apart inner_apart new_around new_inner x e u y h, given_from f g apart inner_apart new_around new_inner x e u y h);
    }))

pub dependences_are_the_same : DependencesAreTheSame
dependences_are_the_same f s t x apart a =
    moved_scope f s t (λ r. DependsOnTheSame f r t x) a
    (record {
      same = λ u y. (
        λ h. found_again f (After (through f t) at_start x u) y apart (back u (renamed_bit f y) h),
        after_there f apart t x at_start at_start (λ p q e. ap (renamed_bit f) e) u y,
      );
      only = λ u y h.
          let k : HasOld f (After (through f t) at_start x u) y = back u y h in
          record { old = k.old.of_name; is_new = ap (λ (z : Bit). z.of_name) k.is_new };
      others = after_new f apart t x at_start;
    })
  where
    back : (u y : Bit) → After t at_start (renamed_statement f x) (renamed_bit f u) y → HasOld f (After (through f t) at_start x u) y
    back u y h = after_back f apart t x at_start at_start (λ p q e. record { old = p; is_new = e; is_so = refl }) u y h
