use Rattle.std.specs.Prelude.{ℕ, List, Bool, ◌&&◌, nat_eq}
use Rattle.std.proofs.Common.{◌∙◌, ap, sym}
use Rattle.mc_model.specs.Bits.{◌⊻◌, parity}
use Rattle.mc_model.specs.Graph.{size, joins}
use Rattle.mc_bits.specs.Rows.{bit_of}
use Rattle.mc_odd.proofs.FlippedBits.{flipped_neighbours, sum_turned}
use Rattle.mc_odd.proofs.odd.flip_neighbours_if.Goals as goal

pub returns-then-told-clause-bits : goal.returns-then-told-clause-bits
returns-then-told-clause-bits g c = λ v l.
    let graph = c.args.g.now in
    c.flip_all.ensures.bits v
    ∙ ap (λ (b : Bool). bit_of c.args.bits.now v ⊻ b)
    (ap (λ (row : List ℕ). parity row (nat_eq v)) c.neighbours.ensures.row
    ∙ flipped_neighbours graph.edges (size graph) v c.args.w l)
    ∙ sum_turned (bit_of c.args.bits.now v) (joins graph.edges v c.args.w)
    ∙ ap (λ (t : Bool). (t && joins graph.edges v c.args.w) ⊻ bit_of c.args.bits.now v)
    (sym c.if-told.true)
