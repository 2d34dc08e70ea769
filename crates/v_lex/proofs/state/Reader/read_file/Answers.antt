use Rattle.std.proofs.Common.{◌∙◌}
use Rattle.v_lex.specs.Reading.{reading_of}
use Rattle.v_lex.specs.Sited.{sites_of}
use Rattle.v_lex.proofs.Sited.{kept_sites, file_turn}
use Rattle.v_lex.proofs.Placed.{kept, file_opened}
use Rattle.v_lex.proofs.state.Reader.read_file.Goals as goal

pub returns-clause-places : goal.returns-clause-places
returns-clause-places c = λ files s get p.
    let opened = file_opened files c.args.number c.args.bytes.now c.file_span.result s get c.file_span.ensures.text c.file_span.ensures.file c.file_span.ensures.start in
    let begun = kept files c.args.self.now c.begin_file.new.self c.begin_file.ensures.kept p in
    kept files c.read_text.new.self c.end_file.new.self c.end_file.ensures.kept (c.in_ok-read_text.ensures.places files s opened.0 begun)

pub returns-clause-sites : goal.returns-clause-sites
returns-clause-sites c = λ files s get p.
    let opened = file_opened files c.args.number c.args.bytes.now c.file_span.result s get c.file_span.ensures.text c.file_span.ensures.file c.file_span.ensures.start in
    let begun = kept files c.args.self.now c.begin_file.new.self c.begin_file.ensures.kept p in
    file_turn c.args.number c.args.bytes.now c.file_span.result (reading_of c.args.self.now) (reading_of c.begin_file.new.self) (sites_of c.args.self.now) (sites_of c.begin_file.new.self)
    c.begin_file.ensures.reading (kept_sites c.args.self.now c.begin_file.new.self c.begin_file.ensures.kept) c.file_span.ensures.text c.file_span.ensures.file opened.1
    ∙ c.in_ok-read_text.ensures.sites files s opened.0 begun ∙ kept_sites c.read_text.new.self c.end_file.new.self c.end_file.ensures.kept
