-- The backward tree (RFC 5441's virtual shortest path tree) and its tally: document 01, "Paths and the tree".
use Rattle.std.specs.Prelude.{ℕ, zero, suc, not, List, [], ◌∷◌, map, length, drop}
use Rattle.model.specs.declared.TreeEntry.{TreeEntry}
use Rattle.model.specs.Lists.{count_from, each, is_empty, keep, least, sum}
use Rattle.model.specs.Profile.{between, entry_nodes}
use Rattle.model.specs.Request.{Search}
use Rattle.model.specs.Path.{Leg, legs, leg_at, Route, suffixes}

-- the entries at place i of the sequence: the source for D0, then for each later Di the different v of the hop records from Di-1 to Di, ascending
unfoldable pub entries_at : Search → ℕ → List ℕ
entries_at S zero = S.source ∷ []
entries_at S (suc i) = entry_nodes (leg_at S i).from (leg_at S i).to S.hops

-- every way from an entry to the destination: a path's tail, over the legs from its domain on
abbrev pub suffixes_at : Search → ℕ → ℕ → List Route
suffixes_at S i a = suffixes S (drop i (legs S.sequence)) i a

-- reachable exactly when there is a way, with the least cost of one (0 if unreachable); the bound isn't applied
unfoldable pub entry : Search → ℕ → ℕ → TreeEntry
entry S i a =
    let ways = suffixes_at S i a in
    record {
      level = i;
      address = record { 0 = a };
      reachable = not (is_empty ways);
      cost = least (map (λ (r : Route). r.total) ways);
    }

unfoldable pub tree : Search → List TreeEntry
tree S = each (λ (i : ℕ). map (entry S i) (entries_at S i)) (count_from 0 (length S.sequence))

-- The tally (hops examined): the number of hop records between the consecutive domains of the sequence, with those from Dk to Dk
unfoldable pub tally : Search → ℕ
tally S = sum (map (λ (leg : Leg). length (keep (between leg.from leg.to) S.hops)) (legs S.sequence))
