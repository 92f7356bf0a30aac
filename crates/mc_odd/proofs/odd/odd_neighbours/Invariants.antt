use Rattle.std.specs.Prelude.{◌≡◌, ℕ, ◌<◌, ◌&&◌, length}
use Rattle.mc_model.specs.Bits.{odd}
use Rattle.mc_model.specs.Numbers.{is_member}
use Rattle.mc_model.specs.Graph.{size, joins}
use Rattle.mc_bits.specs.Rows.{bit_of}
use Rattle.mc_odd.proofs.odd.odd_neighbours.Given as goal

abbrev pub invariant-vertices : goal.invariant-vertices
invariant-vertices g l = record {
  bits : (v : ℕ) → v < size l.g →
      bit_of l.odd v ≡ odd l.w (λ k. is_member l.set k && joins l.g.edges v k);
  length : length l.odd ≡ size l.g;
}
