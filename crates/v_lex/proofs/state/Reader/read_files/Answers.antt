use Rattle.std.proofs.Common.{◌≡◌, ℕ, suc, ◌+◌, map, drop, ap, sym, ◌∙◌, arith}
use Rattle.v_lex.specs.Reading.{reading_of}
use Rattle.v_lex.specs.Sites.{file_sites, files_sites}
use Rattle.v_lex.specs.Sited.{sites_of}
use Rattle.v_lex.proofs.Sited.{files_turn, files_end}
use Rattle.v_lex.proofs.Turns.{files_on}
use Rattle.v_lex.proofs.Placed.{number_there, file_there}
use Rattle.v_lex.proofs.state.Reader.read_files.Goals as goal

pub returns-clause-places : goal.returns-clause-places
returns-clause-places c = λ s p. c.loop-number.invariant.1 s p

pub loop-number-preserved : goal.loop-number-preserved
loop-number-preserved c = (
  c.loop-number.invariant.0
      ∙ files_on c.args.files.now c.loop-number.number _ c.index-files-number.result c.deref.result.now (reading_of c.loop-number.self) (reading_of c.read_file.new.self)
      c.loop-number-test.true (omega arith) c.index-files-number.is c.deref.ensures.value c.in_ok-read_file.ensures.outcome,
  λ s p.
      let same = number_there c.args.files.now c.loop-number.number c.short.result s c.loop-number-test.true c.short.ensures in
      let get = file_there c.args.files.now c.loop-number.number c.short.result c.index-files-number.result c.deref.result.now c.loop-number-test.true same c.index-files-number.is c.deref.ensures.value in
      c.in_ok-read_file.ensures.places (map (λ f. f.items) c.args.files.now) s get (c.loop-number.invariant.1 s p),
  λ s p.
      let same = number_there c.args.files.now c.loop-number.number c.short.result s c.loop-number-test.true c.short.ensures in
      let get = file_there c.args.files.now c.loop-number.number c.short.result c.index-files-number.result c.deref.result.now c.loop-number-test.true same c.index-files-number.is c.deref.ensures.value in
      let added = ap (λ (x : ℕ). file_sites x c.deref.result.now (reading_of c.loop-number.self) (sites_of c.loop-number.self)) (sym same)
      ∙ c.in_ok-read_file.ensures.sites (map (λ f. f.items) c.args.files.now) s get (c.loop-number.invariant.1 s p) in
      let next : suc c.loop-number.number ≡ c.loop-number.number + 1 = omega arith in
      c.loop-number.invariant.2 s p
      ∙ files_turn c.args.files.now c.loop-number.number c.loop-number.number _ c.index-files-number.result c.deref.result.now (reading_of c.loop-number.self) (reading_of c.read_file.new.self)
      (sites_of c.loop-number.self) (sites_of c.read_file.new.self) c.loop-number-test.true (omega arith) c.index-files-number.is c.deref.ensures.value c.in_ok-read_file.ensures.outcome added
      ∙ ap (λ (x : ℕ). files_sites x (map (λ f. f.items) (drop (c.loop-number.number + 1) c.args.files.now)) (reading_of c.read_file.new.self) (sites_of c.read_file.new.self)) next,
)

pub returns-clause-sites : goal.returns-clause-sites
returns-clause-sites c = λ s p.
    c.loop-number.invariant.2 s p
    ∙ files_end c.args.files.now c.loop-number.number c.loop-number.number (reading_of c.loop-number.self) (sites_of c.loop-number.self)
    (omega (arith, c.loop-number-test.false, c.loop-number.auto.number-end))
