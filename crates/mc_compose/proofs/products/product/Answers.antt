use Rattle.std.proofs.lemmas.Result.{IfOk-weaker}
use Rattle.mc_model.proofs.StepLemmas.{permitted_positive}
use Rattle.mc_compose.proofs.FilledMatrices.{few_entries}
use Rattle.mc_compose.proofs.TableProducts.{table_product, stays_in_range, leaves_range}
use Rattle.mc_compose.proofs.TableProducts.{multiplies_amplitudes}
use Rattle.mc_compose.proofs.products.product.Goals as goal

pub times-requires-clause-size : goal.times-requires-clause-size
times-requires-clause-size g c =
    rw (c.in-Ok-Ok.ensures.rows, c.in-Ok-Ok.ensures'.columns)
    (few_entries c.args.second.now.outputs c.args.first.now.inputs c.requires.size)

pub returns-clause-product : goal.returns-clause-product
returns-clause-product g c =
    IfOk-weaker c.times.result _ _
    (λ m.
    table_product g.row.H c.args.first.now c.args.second.now c.requires.between c.in-Ok-Ok.left
    c.in-Ok-Ok.right c.in-Ok-Ok.ensures c.in-Ok-Ok.ensures' m)
    c.times.ensures.product

pub returns-clause-amplitudes : goal.returns-clause-amplitudes
returns-clause-amplitudes g c =
    IfOk-weaker c.times.result _ _
    (λ m made.
    multiplies_amplitudes g.row.H (permitted_positive g.row.H c.left.invariant.0)
    c.sums_run_over_numbers.ensures c.args.first.now c.args.second.now c.requires.between m
    (table_product g.row.H c.args.first.now c.args.second.now c.requires.between c.in-Ok-Ok.left
    c.in-Ok-Ok.right c.in-Ok-Ok.ensures c.in-Ok-Ok.ensures' m made))
    c.times.ensures.product

pub returns-clause-stays : goal.returns-clause-stays
returns-clause-stays g c =
    IfOk-weaker c.times.result _ _
    (λ m.
    stays_in_range g.row.H c.args.first.now c.args.second.now c.requires.between c.in-Ok-Ok.left
    c.in-Ok-Ok.right c.in-Ok-Ok.ensures c.in-Ok-Ok.ensures')
    c.times.ensures.stays

pub returns-clause-range : goal.returns-clause-range
returns-clause-range g c = λ e.
    leaves_range g.row.H c.args.first.now c.args.second.now c.requires.between c.in-Ok-Ok.left
    c.in-Ok-Ok.right c.in-Ok-Ok.ensures c.in-Ok-Ok.ensures' (c.times.ensures.range e)
