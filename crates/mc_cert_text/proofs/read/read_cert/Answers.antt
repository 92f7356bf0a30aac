use Rattle.std.proofs.Common.{Err, OnOk, IfOk, Ok, arith}
use Rattle.std.specs.Prelude.{Result}
use Rattle.mc_lex.specs.declared.end.TextEnd.{TextEnd}
use Rattle.mc_cert_text.specs.declared.cert.Cert.{Cert}
use Rattle.mc_cert_text.specs.Certs.{plain_cert}
use Rattle.mc_cert_text.proofs.Fits.{cert_fits}
use Rattle.mc_cert_text.proofs.NoLimits.{cert_no_limit}
use Rattle.mc_cert_text.proofs.read.read_cert.Goals as goal

from_parts : (r : Result Cert TextEnd) (A : Type 0) (B C P : Cert → Type 0) →
    OnOk r A → IfOk r B → IfOk r C → ((cert : Cert) → A → B cert → C cert → P cert) → IfOk r P
from_parts (Ok cert) A B C P a b c h = h cert a b c
from_parts (Err end) A B C P a b c h = tt

pub returns-clause-fits : goal.returns-clause-fits
returns-clause-fits g c =
    let graph = c.args.g.now in
    let left = c.args.words.now in
    let kept = rw c.names.ensures.names at c.read_kind.ensures in
    from_parts c.read_kind.result _ _ _ _ kept.clean kept.value kept.apart
    (λ cert clean value apart.
    cert_fits c.short_bounds_are_few.ensures graph (omega arith) c.args.kind left.later left.last
    c.requires clean (plain_cert cert) value apart)

pub returns-clause-no_limit : goal.returns-clause-no_limit
returns-clause-no_limit g c = λ which found e.
    let left = c.args.words.now in
    let answer = rw e at c.read_kind.ensures.err in
    cert_no_limit c.args.kind c.names.result.now left.later left.last which found c.requires answer
