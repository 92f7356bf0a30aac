use Rattle.std.proofs.Common.{◌+◌, ◌-◌, ◌∙◌, ◌++◌, ◌∷◌, [], List, ap, sym, append_assoc}
use Rattle.std.proofs.Common.{take, drop}
use Rattle.std.specs.List.{IsDistinct}
use mathlib.Core.Path.{subst}
use Rattle.mc_model.specs.Names.{Name, name_eq}
use Rattle.mc_compose.proofs.NewNames.{new_behind, range_next}
use Rattle.mc_compose.proofs.naming.add_range.Goals as goal

pub add-requires-clause-new : goal.add-requires-clause-new
add-requires-clause-new c =
    let more : List Name = c.args.more.now in
    let rest : List Name =
    take (c.args.count - (c.names.k + 1)) (drop (c.args.start + (c.names.k + 1)) more) in
    let next =
    range_next more c.args.start c.names.k c.args.count c.name.result c.names-test.true
    c.name.ensures in
    new_behind c.names.names c.name.result rest
    (subst (IsDistinct name_eq)
    (sym c.names.invariant ∙ ap (λ (ns : List Name). c.names.names ++ ns) next)
    c.requires.names.distinct)

pub names-preserved : goal.names-preserved
names-preserved c =
    let more : List Name = c.args.more.now in
    let rest : List Name =
    take (c.args.count - (c.names.k + 1)) (drop (c.args.start + (c.names.k + 1)) more) in
    let next =
    range_next more c.args.start c.names.k c.args.count c.name.result c.names-test.true
    c.name.ensures in
    ap (λ (ns : List Name). ns ++ rest) c.in_ok-add.ensures
    ∙ append_assoc c.names.names (c.name.result ∷ []) rest
    ∙ ap (λ (ns : List Name). c.names.names ++ ns) (sym next)
    ∙ c.names.invariant
