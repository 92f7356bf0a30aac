use Rattle.mc_cert_text.specs.Certs.{kind_of_cert}
use Rattle.mc_cert_text.specs.Kinds.{cert_kind}
use Rattle.mc_cert_text.specs.Canonical.{cert_rows, cert_header}
use Rattle.mc_cert_text.proofs.Sound.{cert_sound, end_bare, header_written, same_back}
use Rattle.mc_cert_text.proofs.laws.cert_texts_are_read.Goals as goal

pub returns-clause-clean : goal.returns-clause-clean
returns-clause-clean c = λ g cert end valid fits.
    c.rows_are_read.ensures.clean (cert_kind (kind_of_cert cert)) g.names (cert_rows cert)
    (cert_header cert) end valid.names (end_bare cert) (cert_sound g cert fits)
    (header_written cert)

pub returns-clause-whole : goal.returns-clause-whole
returns-clause-whole c = λ g cert valid fits.
    c.rows_are_read.ensures.whole (cert_kind (kind_of_cert cert)) g.names (cert_rows cert)
    (cert_header cert) valid.names (end_bare cert) (cert_sound g cert fits) (header_written cert)

pub returns-clause-same : goal.returns-clause-same
returns-clause-same c = λ g cert valid fits. same_back cert _
    (c.rows_are_read.ensures.same (cert_kind (kind_of_cert cert)) g.names (cert_rows cert)
    (cert_header cert) valid.names (end_bare cert) (cert_sound g cert fits)
    (header_written cert))
