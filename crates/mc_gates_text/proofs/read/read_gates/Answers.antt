use Rattle.std.proofs.Common.{◌∙◌}
use Rattle.mc_text.specs.Judged.{section_lines}
use Rattle.mc_text.proofs.Sections.{clean_ends}
use Rattle.mc_gates_text.specs.Judge.{gates_rules}
use Rattle.mc_gates_text.specs.Kept.{state_of}
use Rattle.mc_gates_text.proofs.Spelling.{spells, reads_gates}
use Rattle.mc_gates_text.proofs.read.read_gates.Goals as goal

pub new-requires : goal.new-requires
new-requires c =
    let reader = c.read_section.new.section in
    let left = c.args.words.now in
    let ends = clean_ends gates_rules left.later left.last c.in_default.ensures.clean in
    reads_gates (state_of reader) (section_lines left.later) c.in_default.ensures.read
    c.len-count.ensures.names reader.few ends

pub returns-clause-value : goal.returns-clause-value
returns-clause-value c =
    c.new.ensures
    ∙ spells (state_of c.read_section.new.section) (section_lines c.args.words.now.later)
    c.in_default.ensures.read
