-- Marks of the pairs of vertices that are joined.
use Rattle.std.specs.Prelude.{◌≡◌, ℕ, ◌+◌, ◌*◌, Bool, false, ◌&&◌, nat_lt, List, length}
use Rattle.std.specs.Prelude.{slice_index_or}
use Rattle.mc_model.specs.Bits.{Bits}

-- whether two of at most 256 vertices are joined
abbrev pub linked : List Bool → ℕ → Bits
linked marks v w = (nat_lt v 256 && nat_lt w 256) && slice_index_or marks (256 * v + w) false

-- there is a mark for each pair, the same in either order, and none for a vertex with itself
pub record AreLinks (marks : List Bool) : Type 0 where
  pub long : length marks ≡ 65536
  pub either : (v w : ℕ) → linked marks v w ≡ linked marks w v
  pub apart : (v : ℕ) → linked marks v v ≡ false
