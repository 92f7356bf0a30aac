use Rattle.mc_trace_text.proofs.ReadBack.{trace_read, trace_back}
use Rattle.mc_trace_text.proofs.laws.trace_texts_are_read.Goals as goal

pub returns-clause-clean : goal.returns-clause-clean
returns-clause-clean c = λ uses end h. (trace_read uses end h).clean

pub returns-clause-whole : goal.returns-clause-whole
returns-clause-whole c = λ uses h. (trace_read uses (1, 1) h).whole

pub returns-clause-same : goal.returns-clause-same
returns-clause-same c = trace_back
