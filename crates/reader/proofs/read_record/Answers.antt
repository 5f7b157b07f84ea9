-- A record, with room for every one.
use mathlib.Core.Path.{◌∙◌}
use Rattle.reader.proofs.Rooms.{within_all}
use Rattle.reader.proofs.read_record.Goals as goal

pub returns : goal.returns
returns c = c.read_within.ensures ∙ within_all _
