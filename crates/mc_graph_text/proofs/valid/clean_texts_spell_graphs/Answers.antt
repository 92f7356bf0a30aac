use Rattle.mc_graph_text.proofs.ValidGraphs.{clean_is_graph}
use Rattle.mc_graph_text.proofs.valid.clean_texts_spell_graphs.Goals as goal

pub returns : goal.returns
returns g c = λ version lines end clean. clean_is_graph g.row.H version lines end c.requires clean
