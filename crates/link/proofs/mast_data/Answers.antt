use Rattle.link.proofs.Laws.{data-fits, data-told, data-untold}
use Rattle.link.proofs.mast_data.Goals as goal

pub answer-requires : goal.answer-requires
answer-requires c = data-fits c.args.state.now c.args.room.now c.in-Ok.ensures.count

pub returns-in-Ok : goal.returns-in-Ok
returns-in-Ok c = record { value = data-told c.args.state.now c.args.room.now c.in-Ok.ensures.count c.answer.ensures; room = c.data.ensures.room }

pub returns-in-Err : goal.returns-in-Err
returns-in-Err c = record { value = data-untold c.args.state.now c.args.room.now c.in-Err.ensures.count c.answer-in-Err.ensures; room = c.data.ensures.room }
