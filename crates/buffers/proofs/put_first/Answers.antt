-- `buffers::put_first` meets its contract: what is put from the start on lies over the start.
use mathlib.Core.Path.{◌∙◌}
use Rattle.buffers.proofs.Places.{paste_front}
use Rattle.buffers.proofs.put_first.Goals as goal

pub returns : goal.returns
returns c =
    let start = c in
    let a = c.args in
    c.put_numbers.ensures ∙ paste_front a.out.now a.values.now a.n c.requires.0
