use Rattle.std.proofs.Common.{rules, ◌≡◌, ap, Err, true}
use Rattle.mc_model.specs.Names.{is_name}
use Rattle.mc_text.proofs.Numbers.{new_name-twice, new_name-full, new_name-clean}
use Rattle.mc_graph_text.proofs.words.take_vertex.Goals as goal

pub returns-in-Ok-clause-clean : goal.returns-in-Ok-clause-clean
returns-in-Ok-clause-clean g c =
    let named : is_name c.args.word.now ≡ true = search rules in
    let free = rw c.in-Some.ensures.same at c.in-Ok.ensures.allowed in
    new_name-clean c.args.graph.now.names c.args.word.now named free.new free.few

pub returns-in-Err-Twice-clause-err : goal.returns-in-Err-Twice-clause-err
returns-in-Err-Twice-clause-err g c =
    let named : is_name c.args.word.now ≡ true = search rules in
    let twice = rw c.in-Some.ensures.same at c.in-Err-Twice.ensures.twice in
    let place = (twice c.in-Err-Twice.field-0-0).0 (ap Err c.in-Err-Twice.field-0-is) in
    new_name-twice c.args.graph.now.names c.args.word.now c.in-Err-Twice.field-0-0 named place

pub returns-in-Err-Full-clause-err : goal.returns-in-Err-Full-clause-err
returns-in-Err-Full-clause-err g c =
    let named : is_name c.args.word.now ≡ true = search rules in
    let full = rw c.in-Some.ensures.same at c.in-Err-Full.ensures.full in
    let cause = full.0 (ap Err c.in-Err-Full.field-0-is) in
    new_name-full c.args.graph.now.names c.args.word.now named cause.0 cause.1
