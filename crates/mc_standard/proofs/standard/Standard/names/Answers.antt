use Rattle.mc_standard.proofs.CodeParts.{code_in_parts}
use Rattle.mc_standard.proofs.standard.Standard.names.Goals as goal

pub returns-clause-parts : goal.returns-clause-parts
returns-clause-parts g c =
    let p = c.self.inside in
    rw (← c.self.view_is)
    (code_in_parts g.row.H p.preps.items p.edges.items p.measures.items p.fixes.items)
