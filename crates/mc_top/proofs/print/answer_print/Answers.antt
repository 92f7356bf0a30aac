use Rattle.mc_document.specs.Documents.{plain_document}
use Rattle.mc_document.specs.Documents.{every_kind}
use Rattle.mc_top.proofs.ShiftedForms.{on_ok}
use Rattle.mc_top.proofs.print.answer_print.Goals as goal

pub returns-clause-meaning : goal.returns-clause-meaning
returns-clause-meaning g c =
    let d = plain_document c.args.document in
    on_ok c.told.result _ (record {
      clean = c.canonical_texts_are_read.ensures.clean every_kind d c.requires.valid
          c.requires.taken;
      same = c.canonical_texts_are_read.ensures.same d c.requires.valid
          (c.taken_documents_are_seen.ensures.one d c.requires.taken);
    })
