use Rattle.mc_text.specs.Judged.{section_lines}
use Rattle.mc_text.proofs.Sections.{clean_ends}
use Rattle.mc_circuit.specs.Judge.{circuit_rules}
use Rattle.mc_circuit.proofs.Spelling.{spells, reads_circuit}
use Rattle.mc_circuit.proofs.read.read_circuit.Goals as goal

pub invariant_of-result : goal.invariant_of-result
invariant_of-result g c =
    let reader = c.read_section.new.section in
    let left = c.args.words.now in
    let ends = clean_ends circuit_rules left.later left.last c.in_default.ensures.clean in
    reads_circuit reader (section_lines left.later) c.in_default.ensures.read c.len-count.ensures.names
    reader.few ends

pub returns-clause-value : goal.returns-clause-value
returns-clause-value g c =
    spells c.read_section.new.section (section_lines c.args.words.now.later) c.in_default.ensures.read
