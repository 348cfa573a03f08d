-- `list_reader::exrs::all_size` meets its contract: the EXRS of all stops stand in one stretch, from the start of the list.
use mathlib.Core.Path.{ap, ◌∙◌}
use native.Mathlib.Omega.{arith}
use lib.ListN.{length}
use Rattle.list_reader.proofs.SequenceCopies.{all_together, last_start}
use Rattle.list_reader.proofs.exrs.all_size.Goals as goal

pub exrs_size-requires : goal.exrs_size-requires
exrs_size-requires c =
    let a = c.args in
    (all_together a.list.now a.st c.requires.1 _ (last_start a.list.now a.st a.st.count c.requires.0.some_domain_lem)).0

pub returns : goal.returns
returns c =
    let a = c.args in
    let all = all_together a.list.now a.st c.requires.1 _ (last_start a.list.now a.st a.st.count c.requires.0.some_domain_lem) in
    let inside = all.0.inside in
    (c.exrs_size.ensures.0 ∙ ap length all.1, omega (arith, c.exrs_size.ensures.1, c.requires.2))
