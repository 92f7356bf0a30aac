use Rattle.std.proofs.Common.{sym}
use Rattle.mc_standard.proofs.CodeParts.{code_parts}
use Rattle.mc_standard.proofs.standard.Standard.measures.Goals as goal

pub returns : goal.returns
returns g c =
    let p = c.self.inside in
    let parts =
    code_parts g.row.H p.preps.items p.edges.items p.measures.items p.fixes.items in
    rw (c.as_slice.ensures.value, ← c.self.view_is) (sym parts.measurements)
