use Rattle.std.proofs.Common.{◌≡◌, ◌∙◌, ℕ, zero, suc, ◌+◌, ◌-◌, ◌%◌, ◌<◌, ◌≤◌, ◌^◌, length, refl, ap, sym, subst, arith}
use Rattle.std.specs.Prelude.{slice_index}
use Rattle.wb_values.specs.Value.{word, number}
use Rattle.model_meaning.specs.Term.{val}
use Rattle.wb_terms.specs.Graph.{tree}
use Rattle.ob_mem.specs.Rows.{AreWords, HoldWords, IsPlain}
use Rattle.ob_mem.proofs.Counting.{level_counted, levels_counted}
use Rattle.ob_mem.proofs.Growing.{Grows-trans, IsPlain-kept, AreWords-kept, HoldWords-kept, tree_kept, val_kept}
use Rattle.ob_mem.proofs.Choosing.{whole_place, last_place, last_word}
use Rattle.ob_mem.proofs.loads.put_load.Goals as goal

pub put_half-requires-clause-words : goal.put_half-requires-clause-words
put_half-requires-clause-words c =
    let l = c.loop-bit in
    let e : l.bit ≡ l.bit - 1 + 1 = omega (arith, c.loop-bit-test.true) in
    (c.requires.words.0, subst (λ p. AreWords l.terms l.first.0 (2 ^ p) c.requires.words.0) e (l.invariant.4 c.requires.words.0 c.requires.words.1))

pub put_half-requires-clause-address : goal.put_half-requires-clause-address
put_half-requires-clause-address c =
    let l = c.loop-bit in
    (c.args.address_width, IsPlain-kept c.args.address.0 (word c.args.address_width) l.invariant.0 c.requires.address, omega (arith, l.invariant.1, c.loop-bit-test.true))

pub put_half-requires-clause-narrow : goal.put_half-requires-clause-narrow
put_half-requires-clause-narrow c = omega (arith, c.loop-bit.invariant.1, c.requires.narrow, c.loop-bit-test.true)

pub loop-bit-preserved : goal.loop-bit-preserved
loop-bit-preserved c =
    let l = c.loop-bit in
    let e : l.bit ≡ l.bit - 1 + 1 = omega (arith, c.loop-bit-test.true) in
    let h = c.in_ok-first.ensures in (
      Grows-trans l.invariant.0 h.grows,
      omega (arith, l.invariant.1),
      IsPlain-kept c.in_ok-one.one.0 (word 1) h.grows l.invariant.2,
      tree_kept c.in_ok-one.one.0 h.grows l.invariant.2.below ∙ l.invariant.3,
      λ d a. h.words d (subst (λ p. AreWords l.terms l.first.0 (2 ^ p) d) e (l.invariant.4 d a)),
      λ w xs i v b hold.
          h.values w xs i (val_kept c.args.address.0 w (number i) l.invariant.0 c.requires.address.below v)
          (subst (λ p. HoldWords l.terms w l.first.0 (2 ^ p) xs (i - i % 2 ^ p)) e (l.invariant.5 w xs i v b hold)),
      level_counted (length l.terms.nodes) (length c.put_half.new.terms.nodes) _ l.bit (l.bit - 1) e h.count l.invariant.6,
    )

pub loop-bit-init : goal.loop-bit-init
loop-bit-init c =
    let h = c.in_ok-one.ensures in (
      h.grows,
      omega arith,
      h.plain,
      h.tree,
      λ d a. AreWords-kept c.args.row.0 (2 ^ c.args.address_width) d h.grows a,
      λ w xs i v b hold.
          subst (HoldWords c.put_one.new.terms w c.args.row.0 (2 ^ c.args.address_width) xs) (sym (whole_place i c.args.address_width b))
          (HoldWords-kept w c.args.row.0 (2 ^ c.args.address_width) c.requires.words.0 xs 0 h.grows c.requires.words.1 hold),
      omega (arith, h.count),
    )

pub returns-clause-plain : goal.returns-clause-plain
returns-clause-plain c d a = last_word c.loop-bit.terms c.loop-bit.first.0 c.loop-bit.bit d (omega (arith, c.loop-bit-test.false)) (c.loop-bit.invariant.4 d a)

pub returns-clause-value : goal.returns-clause-value
returns-clause-value c w xs i v b hold = last_place c.loop-bit.terms w c.loop-bit.first.0 c.loop-bit.bit xs i (omega (arith, c.loop-bit-test.false)) (c.loop-bit.invariant.5 w xs i v b hold)

pub returns-clause-count : goal.returns-clause-count
returns-clause-count c =
    let l = c.loop-bit in
    levels_counted (length c.args.terms.now.nodes) (length l.terms.nodes) l.bit c.args.address_width (omega (arith, c.loop-bit-test.false)) l.invariant.6
