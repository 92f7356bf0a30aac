use Rattle.std.proofs.Common.{arith}
use Rattle.mc_text.specs.Judged.{section_lines}
use Rattle.mc_text.proofs.Sections.{clean_ends}
use Rattle.mc_graph_text.proofs.Spelling.{outputs_fit}
use Rattle.mc_graph_text.proofs.read.read_graph.Goals as goal

pub finished-requires : goal.finished-requires
finished-requires g c =
    let left = c.args.words.now in
    let k = c.read_section.new.section in
    let ends = clean_ends _ left.later left.last c.in_default.ensures.clean in
    let valid = rw c.names.ensures.names at c.len-count.ensures.names in
    let fit = outputs_fit k (section_lines left.later) c.in_default.ensures.read valid ends in
    (omega arith, (omega arith, rw (c.set_inputs.ensures, c.as_slice.ensures.value) fit))
