use Rattle.std.proofs.Common.{◌≡◌, ap, ◌∙◌}
use Rattle.mc_ring.specs.Matrices.{Entries, at}
use Rattle.mc_ring.proofs.EntriesInPlace.{set_here, set_there}
use Rattle.mc_ring.proofs.matrix.Matrix.set.Goals as goal

pub returns-clause-entry : goal.returns-clause-entry
returns-clause-entry g c =
    let rows : c.self.inside.rows ≡ c.args.self.now.rows =
    ap (λ (m : Entries). m.rows) c.self.view_is in
    let columns : c.self.inside.columns ≡ c.args.self.now.columns =
    ap (λ (m : Entries). m.columns) c.self.view_is in
    set_here g.R.Ring.seen c.self.inside.entries.items c.self.inside.rows c.self.inside.columns
    c.args.r c.args.c c.args.v c.self.invariant.1 (rw rows c.requires.0) (rw columns c.requires.1)

pub returns-clause-others : goal.returns-clause-others
returns-clause-others g c i j h k apart =
    let rows : c.self.inside.rows ≡ c.args.self.now.rows =
    ap (λ (m : Entries). m.rows) c.self.view_is in
    let columns : c.self.inside.columns ≡ c.args.self.now.columns =
    ap (λ (m : Entries). m.columns) c.self.view_is in
    set_there g.R.Ring.seen c.self.inside.entries.items c.self.inside.rows c.self.inside.columns
    c.args.r c.args.c c.args.v c.self.invariant.1 (rw rows c.requires.0) (rw columns c.requires.1)
    i j (rw columns k) apart
    ∙ ap (λ (m : Entries). at m i j) c.self.view_is
