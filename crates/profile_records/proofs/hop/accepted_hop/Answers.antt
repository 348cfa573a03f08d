-- `profile_records::hop::accepted_hop` meets its contract: what an accepted profile says of its hop record i.
use Rattle.profile_records.specs.Layout.{layout_of}
use Rattle.profile_records.proofs.AcceptedHops.{hop-inside, hop_numeric, right-hop}
use Rattle.profile_records.proofs.hop.accepted_hop.Goals as goal

pub hop_at-requires : goal.hop_at-requires
hop_at-requires c =
    let start = c in
    let a = c.args in
    let pre = c.requires in
    record {
      hop_within = hop-inside (layout_of a.layout) a.s.now pre.0 a.i pre.1;
      i_bound = hop_numeric (layout_of a.layout) a.s.now pre.0 a.i pre.1;
    }

pub returns : goal.returns
returns c =
    let start = c in
    let a = c.args in
    right-hop (layout_of a.layout) a.s.now c.requires.0 a.i c.requires.1 _ c.hop_at.ensures
