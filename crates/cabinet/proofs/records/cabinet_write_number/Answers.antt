-- What the writer told, as a reply.
use mathlib.Core.Path.{◌∙◌}
use Rattle.cabinet.proofs.Bytes.{number_wrote}
use Rattle.cabinet.proofs.records.cabinet_write_number.Goals as goal

pub returns-clause-value : goal.returns-clause-value
returns-clause-value c = c.wrote.ensures ∙ number_wrote c.args.bytes.now c.args.number c.write_number.ensures.value
