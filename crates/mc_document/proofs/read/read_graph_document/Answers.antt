use Rattle.std.proofs.Common.{◌∙◌, sym, subst, Option}
use Rattle.mc_text.specs.Judged.{Judgement, Place}
use Rattle.mc_text.specs.Stops.{IsEnd}
use Rattle.mc_graph_text.specs.Judge.{graph_rules}
use Rattle.mc_graph_text.specs.Value.{graph_in}
use Rattle.mc_document.specs.Sections.{behind_graph}
use Rattle.mc_document.proofs.Opening.{both_sections, further_last}
use Rattle.mc_document.proofs.read.read_graph_document.Goals as goal

pub returns-in-Ok-read_behind_graph-clause-clean :
    goal.returns-in-Ok-read_behind_graph-clause-clean
returns-in-Ok-read_behind_graph-clause-clean g c =
    let first = both_sections (graph_rules c.args.version) (behind_graph c.args.due)
    (graph_in g.row.H)
    c.args.words.now.later c.read_graph.new.words.later c.args.words.now.last
    c.read_graph.new.words.last c.in-Ok.graph c.in-Ok.ensures.clean c.in-Ok.ensures.value
    c.in-Ok.ensures.behind (further_last _ _ c.read_graph.ensures.further) in
    first ∙ c.in-Ok-read_behind_graph.ensures.clean

pub returns-in-Err-read_behind_graph-clause-err :
    goal.returns-in-Err-read_behind_graph-clause-err
returns-in-Err-read_behind_graph-clause-err g c =
    let first = both_sections (graph_rules c.args.version) (behind_graph c.args.due)
    (graph_in g.row.H)
    c.args.words.now.later c.read_graph.new.words.later c.args.words.now.last
    c.read_graph.new.words.last c.in-Ok.graph c.in-Ok.ensures.clean c.in-Ok.ensures.value
    c.in-Ok.ensures.behind (further_last _ _ c.read_graph.ensures.further) in
    subst (λ (found : Option (Judgement × Place)). IsEnd c.in-Err-read_behind_graph.end found)
    (sym first) c.in-Err-read_behind_graph.ensures.err
