use Rattle.std.proofs.Common.{◌≡◌, ◌∙◌, ◌++◌, ◌∷◌, ◌+◌, ◌-◌, ℕ, suc, [], List, arith, sym, ap, append_assoc}
use Rattle.sat_base.specs.Literal.{positive}
use Rattle.gate_base.specs.declared.bits.Bit.{Bit}
use Rattle.gate_base.specs.declared.bits.Bit.TheVariants.{Literal}
use Rattle.gate_words.specs.Binary.{literals_from}
use Rattle.gate_words.proofs.lists.literals.Goals as goal

turn : (var next n m : ℕ) (bits more all : List Bit) → n ≡ suc m → next ≡ suc var → bits ++ literals_from var n ≡ all → more ≡ bits ++ Literal (positive var) ∷ []
    → more ++ literals_from next m ≡ all
turn var next n m bits more all e f h p =
    ap (λ b. b ++ literals_from next m) p
    ∙ (append_assoc bits (Literal (positive var) ∷ []) (literals_from next m)
    ∙ (ap (λ v. bits ++ (Literal (positive var) ∷ literals_from v m)) f ∙ (ap (λ k. bits ++ literals_from var k) (sym e) ∙ h)))

pub loop-place-preserved : goal.loop-place-preserved
loop-place-preserved c = (
  omega (arith, c.loop-place.invariant.0),
  turn c.loop-place.var (c.loop-place.var + 1) (c.args.count - c.loop-place.place) (c.args.count - (c.loop-place.place + 1)) c.loop-place.bits.items c.push.new.self.items
      (literals_from c.args.first c.args.count) (omega (arith, c.loop-place-test.true)) (omega arith) c.loop-place.invariant.1 c.in_ok-push.ensures.items,
)
