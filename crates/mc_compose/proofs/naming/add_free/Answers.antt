use Rattle.std.proofs.Common.{◌≡◌, ◌+◌, ◌∙◌, ◌++◌, ◌∷◌, [], List, length, length-append, ap, arith}
use Rattle.std.proofs.Common.{drop}
use Rattle.mc_model.specs.Names.{Name, is_held}
use Rattle.mc_compose.specs.Composed.{free_name, free_names}
use Rattle.mc_compose.proofs.FreeNames.{free_name-free}
use Rattle.mc_compose.proofs.NewNames.{free_next}
use Rattle.mc_compose.proofs.naming.add_free.Goals as goal

pub add-requires-clause-new : goal.add-requires-clause-new
add-requires-clause-new c =
    let few = c.names.invariant.few in
    ap (is_held c.names.names) c.free_name-name.ensures
    ∙ free_name-free c.names.names c.name.result (omega arith)

pub names-preserved : goal.names-preserved
names-preserved c =
    let held : List Name = c.names.names in
    let more : List Name = c.args.more.now in
    let new : c.add.new.names ≡ held ++ (free_name held c.name.result ∷ []) =
    c.in_ok-add.ensures ∙ ap (λ (n : Name). held ++ (n ∷ [])) c.free_name-name.ensures in
    record {
      made =
          ap (λ (ns : List Name). ns ++ free_names ns (drop (c.names.number + 1) more)) new
          ∙ free_next held more c.names.number c.name.result c.name.ensures
          ∙ c.names.invariant.made;
      few =
          let few = c.names.invariant.few in
          let lt = c.names-test.true in
          let len = c.len-number-end.ensures.len in
          let long = ap length new ∙ length-append held (free_name held c.name.result ∷ []) in
          omega arith;
    }
