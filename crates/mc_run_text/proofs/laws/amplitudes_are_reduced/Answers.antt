use Rattle.std.proofs.Common.{refl}
use Rattle.mc_cyclo.proofs.RootLemmas.{permitted_quartered}
use Rattle.mc_run_text.specs.Reduced.{reduced}
use Rattle.mc_run_text.proofs.RootReduction.{reduced_is, only_one}
use Rattle.mc_run_text.proofs.laws.amplitudes_are_reduced.Goals as goal

pub returns-clause-value : goal.returns-clause-value
returns-clause-value g c = λ a k l.
    (reduced_is g.row.H (permitted_quartered g.row.H c.requires) k a a k l l refl).same

pub returns-clause-least : goal.returns-clause-least
returns-clause-least g c = λ a b k j l m e.
    (reduced_is g.row.H (permitted_quartered g.row.H c.requires) k a a k l l refl).least b j m e

pub returns-clause-only : goal.returns-clause-only
returns-clause-only g c = λ a b k l m e.
    let quartered = permitted_quartered g.row.H c.requires in
    only_one g.row.H quartered (reduced g.row.H a k) b a k
    (reduced_is g.row.H quartered k a a k l l refl) m e
