use Rattle.std.proofs.Common.{ap, sym, ◌∙◌}
use Rattle.std.specs.Prelude.{Some}
use Rattle.bk_proto.specs.Sources.{source_of}
use Rattle.bk_proto.proofs.source.Goals as goal

pub returns-in-ei : goal.returns-in-ei
returns-in-ei c = ap Some c.as_bytes.ensures.value ∙ sym (ap source_of c.in-ei.is)

pub returns-in-msi : goal.returns-in-msi
returns-in-msi c = ap Some c.as_bytes-in-msi.ensures.value ∙ sym (ap source_of c.in-msi.is)

pub returns-in-mesi : goal.returns-in-mesi
returns-in-mesi c = ap Some c.as_bytes-in-mesi.ensures.value ∙ sym (ap source_of c.in-mesi.is)

pub returns-in-moesif : goal.returns-in-moesif
returns-in-moesif c = ap Some c.as_bytes-in-moesif.ensures.value ∙ sym (ap source_of c.in-moesif.is)

pub returns-in-ei16 : goal.returns-in-ei16
returns-in-ei16 c = ap Some c.as_bytes-in-ei16.ensures.value ∙ sym (ap source_of c.in-ei16.is)

pub returns-in-msi16 : goal.returns-in-msi16
returns-in-msi16 c = ap Some c.as_bytes-in-msi16.ensures.value ∙ sym (ap source_of c.in-msi16.is)

pub returns-in-mesi16 : goal.returns-in-mesi16
returns-in-mesi16 c = ap Some c.as_bytes-in-mesi16.ensures.value ∙ sym (ap source_of c.in-mesi16.is)

pub returns-in-moesif16 : goal.returns-in-moesif16
returns-in-moesif16 c = ap Some c.as_bytes-in-moesif16.ensures.value ∙ sym (ap source_of c.in-moesif16.is)
