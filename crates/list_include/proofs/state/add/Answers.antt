-- `list_include::state::add` meets its contract: the array has the new domain at the end, so the state stands for the longer sequence.
use Rattle.list_include.proofs.States.{added_state}
use Rattle.list_include.proofs.state.add.Goals as goal

pub returns : goal.returns
returns c =
    let a = c.args in
    added_state a.st.now a.at a.d c.requires.0 c.requires.1
