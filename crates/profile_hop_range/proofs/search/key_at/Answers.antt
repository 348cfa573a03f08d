-- `profile_hop_range::search::key_at` meets its contract: the two words are the parts of the key, and their number fits.
use Rattle.profile_records.specs.Layout.{layout_of}
use Rattle.profile_hop_range.proofs.Keys.{key_words}
use Rattle.profile_hop_range.proofs.search.key_at.Goals as goal

pub returns : goal.returns
returns c =
    let a = c.args in
    rw (c.u32_at-pair.ensures, c.u32_at-tail.ensures, c.hop_start-at.ensures)
    (key_words (layout_of a.layout) a.s.now a.i)
