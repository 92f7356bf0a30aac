use Rattle.mc_extract.proofs.ExtractedFrom.{extracted_from}
use Rattle.mc_extract.proofs.laws.circuits_are_extracted.Goals as goal

pub returns : goal.returns
returns c =
    extracted_from c.graphs_keep_zero_branch.ensures c.graphs_without_constants.ensures
