use Rattle.close.proofs.Applied.{apply_packed, apply_room, apply_done}
use Rattle.close.proofs.apply.Goals as goal

pub all_put-tasks-requires : goal.all_put-tasks-requires
all_put-tasks-requires c = (search apply_packed, search apply_room)

pub returns : goal.returns
returns c = search apply_done
