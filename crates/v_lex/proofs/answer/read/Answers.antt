use Rattle.std.proofs.Common.{◌≡◌, map, sym, ap, ◌∙◌}
use Rattle.std.specs.List.{All}
use Rattle.v_lex.specs.Places.{IsSlice}
use Rattle.v_lex.specs.Sites.{files_sites, walked_spots}
use Rattle.v_lex.specs.Sited.{spot_of}
use Rattle.v_lex.proofs.Placed.{handed_out}
use Rattle.v_lex.proofs.answer.read.Goals as goal

pub returns-clause-slices : goal.returns-clause-slices
returns-clause-slices c = λ s.
    let placed = c.in_ok-read_files.ensures.places s (c.new-reader.ensures.places (map (λ f. f.items) c.args.files.now)) in
    handed_out (All (IsSlice (map (λ f. f.items) c.args.files.now))) c.judge.result c.read_files.new.self.tokens c.judge.ensures.tokens placed.slices

pub returns-clause-places : goal.returns-clause-places
unfolding walked_spots
returns-clause-places c = λ s.
    let files = map (λ f. f.items) c.args.files.now in
    let sites = c.in_ok-read_files.ensures.sites s (c.new-reader.ensures.places files) in
    handed_out (λ ts. map spot_of ts ≡ walked_spots files) c.judge.result c.read_files.new.self.tokens c.judge.ensures.tokens
    (sym (ap (λ x. x.tokens) sites) ∙ (λ i. (files_sites 0 files (c.new-reader.ensures.reading i) (c.new-reader.ensures.sites i)).tokens))
